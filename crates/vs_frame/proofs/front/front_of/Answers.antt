use Rattle.std.proofs.Common.{arith, inr}
use Rattle.vs_frame.proofs.FrameLemmas.{head_is, frame_at}
use Rattle.vs_frame.proofs.front.front_of.Goals as goal

pub returns-then-length-gt-LIMIT : goal.returns-then-length-gt-LIMIT
returns-then-length-gt-LIMIT c =
    let cases = c.in-Some.ensures.cases in (
      c.if-length-gt-LIMIT.true,
      omega arith,
      (c.in-Some.rest.now, head_is c.args.bytes.now _ _ _ cases.0 cases.1 cases.2 (λ i. omega (arith, c.type_inv.bytes i)) c.from_be_bytes-length.ensures),
    )

pub returns-then-rest-length : goal.returns-then-rest-length
returns-then-rest-length c =
    let cases = c.in-Some.ensures.cases in
    inr (
      c.from_be_bytes-length.result,
      c.in-Some.rest.now,
      head_is c.args.bytes.now _ _ _ cases.0 cases.1 cases.2 (λ i. omega (arith, c.type_inv.bytes i)) c.from_be_bytes-length.ensures,
      c.if-length-gt-LIMIT.false,
      c.if-rest-length.true,
    )

pub returns-else-rest-length : goal.returns-else-rest-length
returns-else-rest-length c =
    let cases = c.in-Some.ensures.cases in
    frame_at c.args.bytes.now c.in-Some.rest.now c.from_be_bytes-length.result
    (head_is c.args.bytes.now _ _ _ cases.0 cases.1 cases.2 (λ i. omega (arith, c.type_inv.bytes i)) c.from_be_bytes-length.ensures) c.if-length-gt-LIMIT.false c.if-rest-length.false
