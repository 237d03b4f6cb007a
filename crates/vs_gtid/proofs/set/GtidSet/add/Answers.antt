use Rattle.std.proofs.Common.{◌≡◌, ◌<◌, ◌≤◌, ◌↔◌, length, Result, Ok, Err, OnOk, OnErr, sym, subst, inl, inr}
use Rattle.std.proofs.lemmas.Bool.{cases_lt}
use Rattle.vs_base.specs.declared.gtid.Gtid.{Gtid}
use Rattle.vs_gtid.specs.declared.refusal.GtidRefusal.{GtidRefusal}
use Rattle.vs_gtid.specs.declared.refusal.GtidRefusal.TheVariants.{TooManyIntervals}
use Rattle.vs_gtid.specs.Joins.{added}
use Rattle.vs_gtid.specs.Positions.{Position, IsCanonical, IsPosition}
use Rattle.vs_gtid.proofs.set.GtidSet.add.Goals as goal

few : (p : Position) (g : Gtid) (u : Unit {0}) → ((Ok u ≡ Err TooManyIntervals) ↔ (1024 < length (added p g))) → length (added p g) ≤ 1024
few p g u t = elim (cases_lt 1024 (length (added p g))) [ inl h ↦ let e = t.1 h in cc | inr h ↦ h ]

kept : (p q : Position) (g : Gtid) (r : Result (Unit {0}) GtidRefusal) → OnOk r (q ≡ added p g) → OnErr r (q ≡ p) → IsPosition p →
    IsCanonical (added p g) → ((r ≡ Err TooManyIntervals) ↔ (1024 < length (added p g))) → IsPosition q
kept p q g (Ok u) ok err inv c t = subst IsPosition (sym ok) (record { canonical = c; few = few p g u t })
kept p q g (Err e) ok err inv c t = subst IsPosition (sym err) inv

pub invariant_of-self : goal.invariant_of-self
invariant_of-self c =
    let a = c.add_to.ensures in
    kept c.self.inside.intervals.items c.add_to.new.intervals.items c.args.gtid c.add_to.result a.ok a.err c.self.invariant a.canonical a.too_many
