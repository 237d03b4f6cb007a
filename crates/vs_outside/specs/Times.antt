-- What a clock in memory answers, and what it tells of its answers.
use Rattle.std.specs.Prelude.{ℕ, zero, suc, ◌-◌, ◌^◌, min, nat_lt, List, [], ◌∷◌, ◌++◌, length, slice_index, Option, Some, None, if◌then◌else◌}

-- the answer to the call after so many others: the times in order, then the last one again; 0 where there is none
abbrev pub time_at : List ℕ → ℕ → ℕ
time_at times calls = slice_index times (min calls (length times - 1))

-- the answers to so many calls
abbrev pub answers_of : List ℕ → ℕ → List ℕ
answers_of times zero = []
answers_of times (suc n) = answers_of times n ++ time_at times n ∷ []

-- the same, while the count of calls is below its last value
abbrev pub told_answers : List ℕ → ℕ → Option (List ℕ)
told_answers times calls = if nat_lt calls (2 ^ 64 - 1) then Some (answers_of times calls) else None
