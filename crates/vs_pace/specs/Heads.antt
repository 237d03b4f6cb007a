-- Which of some heads leaves next.
use Rattle.std.specs.Prelude.{◌≡◌, ℕ, zero, suc, ◌<◌, ◌≤◌, List, [], ◌∷◌, ◌++◌, length, nat_le, Option, Some, None, MatchOption, if◌then◌else◌}
use Rattle.std.specs.List.{AllByRecursion}
use Rattle.vs_pace.specs.declared.head.Head.{Head}

-- Heads leave in the order of these numbers: without a skew as they were taken, with one by their times. How many seconds the skew has doesn't matter.
abbrev pub rank : ℕ → Head → ℕ
rank zero head = head.taken
rank (suc seconds) head = head.time

-- the head at this place leaves next: no other has a lesser rank, and those in front of it have greater ones
pub record IsNext (skew : ℕ) (heads : List Head) (place : ℕ) : Type 0 where
  pub before : List Head
  pub head : Head
  pub behind : List Head
  pub are : heads ≡ before ++ head ∷ behind
  pub stands : length before ≡ place
  pub greater : AllByRecursion (λ h. rank skew head < rank skew h) before
  pub no_less : AllByRecursion (λ h. rank skew head ≤ rank skew h) behind

abbrev pub IsOneChoice : Type 0
IsOneChoice = (skew : ℕ) (heads : List Head) (i j : ℕ) → IsNext skew heads i → IsNext skew heads j → i ≡ j

-- ---- one head after the other

-- of two places with their ranks the one of the lesser rank
abbrev pub better : Option (ℕ × ℕ) → ℕ × ℕ → Option (ℕ × ℕ)
better None later = Some later
better (Some former) later = if nat_le former.1 later.1 then Some former else Some later

-- the place is that of the next head, which has this rank; there is none where there is no head
abbrev pub IsChosen : ℕ → List Head → Option (ℕ × ℕ) → Type 0
IsChosen skew heads chosen = MatchOption chosen (heads ≡ []) (λ c. (next : IsNext skew heads c.0) × (rank skew next.head ≡ c.1))

abbrev pub OneMore : Type 0
OneMore = (skew : ℕ) (heads : List Head) (head : Head) (chosen : Option (ℕ × ℕ)) → IsChosen skew heads chosen → IsChosen skew (heads ++ head ∷ []) (better chosen (length heads, rank skew head))
