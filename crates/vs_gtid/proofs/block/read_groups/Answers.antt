use Rattle.std.proofs.Common.{◌≡◌, ◌∙◌, ◌+◌, ◌-◌, ℕ, Ok, inr, inl, sym, ap}
use Rattle.std.proofs.lemmas.Result.{err_from_is_err_and}
use Rattle.vs_gtid.specs.Block.{both, groups_at, group_at}
use Rattle.vs_gtid.proofs.BlockLemmas.{groups_more, groups_refused, groups_end, not_refused, refused_alike}
use Rattle.vs_gtid.specs.declared.refusal.GtidRefusal.TheVariants.{Memory}
use Rattle.vs_gtid.proofs.block.read_groups.Goals as goal

pub returns-in_err-at-clause-groups : goal.returns-in_err-at-clause-groups
returns-in_err-at-clause-groups c =
    let p = err_from_is_err_and c.from_residual.result c.from_residual.ensures.1 in
    rw (p.1, p.2)
    (elim c.in_err-at.ensures.group [
      | inl m ↦ inl (refused_alike ℕ (Unit {0}) c.in_err-at.field-0.0 Memory m)
      | inr h ↦
          inr (sym (groups_refused c.args.count c.loop-group.group c.args.body.now c.loop-group.at c.loop-group.intervals.items c.in_err-at.field-0.0 c.loop-group-test.true h)
          ∙ c.loop-group.invariant.groups)
    ])

pub loop-group-preserved : goal.loop-group-preserved
loop-group-preserved c =
    let e = c.in_ok-at.ensures in
    let body = c.args.body.now in
    let read : Ok c.read_group.new.intervals.items ≡ both (Ok c.loop-group.intervals.items) (group_at body c.loop-group.at) =
    elim e.group [ inl m ↦ absurd (not_refused ℕ c.in_ok-at.at Memory m) | inr h ↦ h ] in
    record {
      within = e.behind.1;
      intervals = e.intervals;
      groups =
          ap (λ (n : ℕ). both (Ok c.read_group.new.intervals.items) (groups_at (c.args.count - (c.loop-group.group + 1)) body n)) e.behind.0
          ∙ (sym (groups_more c.args.count c.loop-group.group body c.loop-group.at c.loop-group.intervals.items c.read_group.new.intervals.items c.loop-group-test.true read)
          ∙ c.loop-group.invariant.groups);
    }

pub returns-clause-groups : goal.returns-clause-groups
returns-clause-groups c =
    inr (sym (groups_end c.args.count c.loop-group.group c.args.body.now c.loop-group.at c.loop-group.intervals.items c.loop-group-test.false) ∙ c.loop-group.invariant.groups)
