use Rattle.std.proofs.Common.{ap, ◌∙◌}
use Rattle.vs_gtid.specs.Vectors.{Vector, moved, stands}
use Rattle.vs_vector.specs.Places.{entry_place}
use Rattle.vs_core.proofs.PartLemmas.{moved-back, stands-moved}
use Rattle.vs_core.proofs.moving.send_exchanged.Goals as goal

pub exchange-requires-clause-there : goal.exchange-requires-clause-there
exchange-requires-clause-there c =
    let s = c.args.name.now in
    ap (λ (v : Vector). stands v s) c.exchange-old.ensures.new ∙ stands-moved c.args.vector.now s (entry_place c.args.entry.at) ∙ c.requires.there

pub returns-in-Err-clause-unchanged : goal.returns-in-Err-clause-unchanged
returns-in-Err-clause-unchanged c =
    let s = c.args.name.now in (
      c.exchange.ensures.new
          ∙ ap (λ (v : Vector). moved v s (entry_place c.exchange-old.result.at)) c.exchange-old.ensures.new
          ∙ moved-back c.args.vector.now s (entry_place c.args.entry.at) (entry_place c.exchange-old.result.at) c.exchange-old.ensures.old,
      c.in-Err.ensures.err,
    )
