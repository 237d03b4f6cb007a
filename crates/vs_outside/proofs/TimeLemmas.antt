-- A call of a clock in memory.
use Rattle.std.proofs.Common.{◌≡◌, ℕ, ◌+◌, ◌-◌, ◌^◌, ◌<◌, min, nat_lt, Bool, true, false, List, [], ◌∷◌, ◌++◌, Option, Some, None, if◌then◌else◌, refl, ap, ◌∙◌, add-one, arith}
use Rattle.std.specs.Prelude.{IfSome}
use Rattle.std.proofs.lemmas.Bool.{ltb-true, lt-ltb}
use Rattle.vs_outside.specs.Times.{time_at, answers_of, told_answers}

abbrev pub Answers : Option (List ℕ) → Option (List ℕ) → ℕ → Type 0
Answers before now time = IfSome now (λ after. (told : List ℕ) × (before ≡ Some told) × (after ≡ told ++ time ∷ []))

-- what is told after a call is what was told before it, and the answer
pub told_answers-next : (times : List ℕ) (calls next : ℕ) → next ≡ min (calls + 1) (2 ^ 64 - 1) →
    Answers (told_answers times calls) (told_answers times next) (time_at times calls)
told_answers-next times calls next counted =
    let go : (b : Bool) → nat_lt next (2 ^ 64 - 1) ≡ b →
    Answers (told_answers times calls) (if b then Some (answers_of times next) else None) (time_at times calls)
    = elim [ true ↦ λ below. counts below | false ↦ λ _. tt ]
    in go (nat_lt next (2 ^ 64 - 1)) refl
  where
    counts : nat_lt next (2 ^ 64 - 1) ≡ true → (told : List ℕ) × (told_answers times calls ≡ Some told) × (answers_of times next ≡ told ++ time_at times calls ∷ [])
    counts below =
        let small : next < 2 ^ 64 - 1 = ltb-true next (2 ^ 64 - 1) below in
        let is_next : next ≡ calls + 1 = omega arith in
        let told : told_answers times calls ≡ Some (answers_of times calls) =
        ap (λ b. if b then Some (answers_of times calls) else None) (lt-ltb calls (2 ^ 64 - 1) (omega arith))
        in (answers_of times calls, told, ap (answers_of times) (is_next ∙ add-one calls))
