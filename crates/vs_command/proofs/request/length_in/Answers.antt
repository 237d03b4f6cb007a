use Rattle.std.proofs.Common.{arith}
use Rattle.vs_frame.proofs.FrameLemmas.{head_is}
use Rattle.vs_command.proofs.request.length_in.Goals as goal

pub returns : goal.returns
returns c =
    let cases = c.in_ok-first.ensures.cases in (
      omega arith,
      c.in_ok-first.field-0-1.now,
      head_is c.args.head.now _ _ _ cases.0 cases.1 cases.2 (λ i. omega (arith, c.type_inv.head i)) c.from_be_bytes.ensures,
      cases.2,
    )
