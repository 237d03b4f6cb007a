-- Which GTID an event gives to the entry that it begins, and to the one that it ends.
use Rattle.std.proofs.Common.{◌≡◌, ◌⊎◌, [], ◌∷◌, ◌++◌, Option, Some, None, Ok, refl, subst}
use Rattle.vs_base.specs.declared.Gtid.{Gtid}
use Rattle.vs_gtid.specs.declared.Entry.{Entry}
use Rattle.vs_log.specs.States.{Place}
use Rattle.vs_log.specs.States.{State}
use Rattle.vs_binlog.specs.Heads.{Event}
use Rattle.vs_log.specs.Table.{Rules, step}
use Rattle.vs_log.specs.Productions.{IsGtid}
use Rattle.vs_log.specs.Steps.{open_gtid}
use Rattle.vs_log.proofs.Moves.{Moves, step_moves}
use Rattle.vs_log.proofs.Moves.Moves.{formatted, passed_between, passed_named, passed_inside, based, names, singles, begins, saves, maps_on, tells, ends}

-- what an event does: where no entry is open, it may begin one, and none ends; the one that is open goes on, or ends
abbrev pub Opens : {M : Type 0} → State M → Event → Option Gtid → State M → Type 0
Opens s e None next = ((g : Gtid) → open_gtid next.place ≡ Some g → IsGtid e g) × (next.entries ≡ s.entries)
Opens s e (Some g) next = ((open_gtid next.place ≡ Some g) × (next.entries ≡ s.entries)) ⊎ ((open_gtid next.place ≡ None) × ((x : Entry) × (next.entries ≡ s.entries ++ x ∷ []) × (x.gtid ≡ g)))

moves_open : {M : Type 0} (rules : Rules M) (s : State M) (e : Event) (place : Place M) (next : State M) → open_gtid s.place ≡ open_gtid place → Moves rules s e place next → Opens s e (open_gtid place) next
moves_open rules s e place next p (formatted is) = ((λ g h. absurd (cc)), refl)
moves_open rules s e place next p (passed_between first k) = ((λ g h. absurd (cc)), refl)
moves_open rules s e place next p (passed_named g bytes k) = ◌⊎◌.inl (p, refl)
moves_open rules s e place next p (passed_inside g bytes maps work k) = ◌⊎◌.inl (p, refl)
moves_open rules s e place next p (based set k r) = ((λ g h. absurd (cc)), refl)
moves_open rules s e place next p (names first g is new) = ((λ x h. let same : g ≡ x = cc in subst (λ z. IsGtid e z) same is), refl)
moves_open rules s e place next p (singles g bytes statement work says one) = ◌⊎◌.inr (refl, (_, refl, refl))
moves_open rules s e place next p (begins g bytes says) = ◌⊎◌.inl (refl, refl)
moves_open rules s e place next p (saves g bytes maps work says) = ◌⊎◌.inl (refl, refl)
moves_open rules s e place next p (maps_on g bytes maps work more is) = ◌⊎◌.inl (refl, refl)
moves_open rules s e place next p (tells g bytes maps work counted more is t) = ◌⊎◌.inl (refl, refl)
moves_open rules s e place next p (ends g bytes maps work end) = ◌⊎◌.inr (refl, (_, refl, refl))

pub step_opens : {M : Type 0} (rules : Rules M) (s : State M) (e : Event) (next : State M) → step rules s e ≡ Ok next → Opens s e (open_gtid s.place) next
step_opens rules s e next h = moves_open rules s e s.place next refl (step_moves rules s e next h).1
