use Rattle.std.proofs.Common.{ap, sym, ◌∙◌, ◌++◌, ◌∷◌, []}
use Rattle.vs_gather.specs.Gathering.{adds_nothing, have_all_arrived}
use Rattle.vs_gather.proofs.KeptLemmas.{foreseen, foreseen_none}
use Rattle.vs_gather.proofs.gather.Gather.check.Goals as goal

pub returns-then-adds_nothing : goal.returns-then-adds_nothing
returns-then-adds_nothing c =
    foreseen_none c.args.vector.now c.args.shard.now c.args.journal.now c.args.self.now c.in_ok-check_journal.ensures.ok
    (ap (adds_nothing c.args.shard.now c.args.journal.now) (sym c.arrived_at-arrived.ensures) ∙ sym c.adds_nothing.ensures ∙ c.if-adds_nothing.true)

pub returns : goal.returns
returns c =
    foreseen c.args.vector.now c.args.shard.now c.args.journal.now c.args.self.now c.is_last.result c.in_ok-check_journal.ensures.ok
    (ap (adds_nothing c.args.shard.now c.args.journal.now) (sym c.arrived_at-arrived.ensures) ∙ sym c.adds_nothing.ensures ∙ c.if-adds_nothing.false)
    (c.is_last.ensures ∙ ap (λ l. have_all_arrived c.args.journal.now (l ++ c.args.shard.now ∷ [])) c.arrived_at-arrived.ensures)
