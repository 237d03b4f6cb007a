use Rattle.std.proofs.Common.{◌≡◌, ◌∙◌, ℕ, [], List, Result, Ok, Err, Some, inr, inl, sym, ap}
use Rattle.std.proofs.lemmas.Result.{err_from_is_err_and}
use Rattle.vs_gtid.proofs.BlockLemmas.{block_cut, block_read, not_refused, refused_alike}
use Rattle.vs_gtid.specs.Block.{block_of, both, groups_at, number_at, set_of}
use Rattle.vs_gtid.specs.Positions.{Position}
use Rattle.vs_gtid.specs.declared.interval.Interval.{Interval}
use Rattle.vs_gtid.specs.declared.refusal.GtidRefusal.{GtidRefusal}
use Rattle.vs_gtid.specs.declared.refusal.GtidRefusal.TheVariants.{Memory}
use Rattle.vs_gtid.proofs.set.GtidSet.from_block.Goals as goal

pub returns-in_default-clause-block : goal.returns-in_default-clause-block
returns-in_default-clause-block c =
    let e = c.in_default.ensures.number in
    inr (sym (block_cut c.args.body.now e))

-- the list began empty
from_empty : (body : List ℕ) (count : ℕ) (start : List Interval) (r : Result (List Interval) GtidRefusal) → start ≡ [] → Some count ≡ number_at body 0 →
    r ≡ both (Ok start) (groups_at count body 8) → set_of r ≡ block_of body
from_empty body count start r e n h = block_read body count r n (h ∙ ap (λ (is : List Interval). both (Ok is) (groups_at count body 8)) e)

pub returns-in_err-read_groups-clause-block : goal.returns-in_err-read_groups-clause-block
returns-in_err-read_groups-clause-block c =
    let p = err_from_is_err_and c.from_residual.result c.from_residual.ensures.1 in
    rw (p.1, p.2)
    (elim c.in_err-read_groups.ensures.groups [
      | inl m ↦ inl (refused_alike (Unit {0}) Position c.in_err-read_groups.field-0.0 Memory m)
      | inr h ↦ inr (from_empty c.args.body.now c.in-Some.count c.new-intervals.result.items (Err c.in_err-read_groups.field-0.0) c.new-intervals.ensures.items c.in-Some.ensures.number h)
    ])

pub returns-clause-block : goal.returns-clause-block
returns-clause-block c =
    let whole : set_of (Ok c.read_groups.new.intervals.items) ≡ block_of c.args.body.now =
    elim c.in_ok-read_groups.ensures.groups [
      | inl m ↦ absurd (not_refused (Unit {0}) c.in_ok-read_groups.field-0 Memory m)
      | inr h ↦ from_empty c.args.body.now c.in-Some.count c.new-intervals.result.items (Ok c.read_groups.new.intervals.items) c.new-intervals.ensures.items c.in-Some.ensures.number h
    ] in
    elim c.merge.ensures.merged [ inl m ↦ inl m | inr h ↦ inr (h ∙ whole) ]
