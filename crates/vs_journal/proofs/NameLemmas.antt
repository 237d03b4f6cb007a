-- Names that differ stand at one place each.
use Rattle.std.proofs.Common.{◌≡◌, ℕ, zero, suc, Bool, true, not, List, [], ◌∷◌, Some, refl, ap, sym, ◌∙◌}
use Rattle.std.specs.List.{slice_get, list_any}
use Rattle.std.proofs.lemmas.Bool.{and_parts, or_right}
use Rattle.vs_base.specs.Names.{names_differ, same_name}
use Rattle.vs_base.specs.declared.shard_name.ShardName.{ShardName}
use Rattle.vs_base.proofs.NameLemmas.{same_name-refl}
use Rattle.vs_gtid.specs.declared.journal.JournalValue.{JournalValue}
use Rattle.vs_journal.specs.Journals.{StandOnce, participant_names, successor_names}

found : {X : Type 0} (p : X → Bool) (xs : List X) (i : ℕ) (x : X) → slice_get xs i ≡ Some x → p x ≡ true → list_any p xs ≡ true
found p [] i x is holds = cc
found p (y ∷ xs) zero x is holds = cc
found p (y ∷ xs) (suc i) x is holds = or_right (p y) (list_any p xs) (found p xs i x is holds)

absent : (name : ShardName) (names : List ShardName) (i : ℕ) → not (list_any (same_name name) names) ≡ true → slice_get names i ≡ Some name → ⊥
absent name names i none is = cc (none, found (same_name name) names i name is (same_name-refl name))

pub stand_once : (names : List ShardName) → names_differ names ≡ true → StandOnce names
stand_once [] differ name i k at other = cc
stand_once (n ∷ names) differ name zero zero at other = refl
stand_once (n ∷ names) differ name zero (suc k) at other = absurd (absent n names k (and_parts _ _ differ).0 (other ∙ sym at))
stand_once (n ∷ names) differ name (suc i) zero at other = absurd (absent n names i (and_parts _ _ differ).0 (at ∙ sym other))
stand_once (n ∷ names) differ name (suc i) (suc k) at other = ap (λ n. suc n) (stand_once names (and_parts _ _ differ).1 name i k at other)

pub participants_stand_once : (j : JournalValue) → StandOnce (participant_names j)
participants_stand_once j = stand_once (participant_names j) j.participants_differ

pub successors_stand_once : (j : JournalValue) → StandOnce (successor_names j)
successors_stand_once j = stand_once (successor_names j) j.successors_differ
