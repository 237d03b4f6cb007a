-- A word or a number is as long as its letters and digits go on.
use Rattle.std.proofs.Common.{◌≡◌, ◌∙◌, ◌++◌, ◌&&◌, ℕ, Bool, true, false, List, [], ◌∷◌, length, refl, ap, sym, subst, cond}
use Rattle.std.specs.Prelude.{nat_le}
use Rattle.std.specs.List.{list_all, take_while}
use Rattle.std.proofs.lemmas.Bool.{and_parts, and_from, le-leb, leb-true}
use Rattle.std.proofs.lemmas.List.Sums.{take_while-cons}
use Rattle.vs_base.specs.Numbers.{is_digit, small_value}
use Rattle.vs_journal.specs.Tokens.{is_identifier_byte, number_token, past_run, run_token}
use Rattle.vs_journal.specs.Spellings.{AreDigits, EndsRun}
use Rattle.vs_journal.specs.declared.token.Token.{Token}
use Rattle.vs_journal.specs.declared.token.Token.TheVariants as token
use Rattle.vs_journal.proofs.ReadLemmas.{digit-is-identifier, run-first}

pub run_word : (w rest : List ℕ) → list_all is_identifier_byte w ≡ true → EndsRun rest → take_while is_identifier_byte (w ++ rest) ≡ w
run_word [] [] letters ends = refl
run_word [] (c ∷ cs) letters ends = take_while-cons is_identifier_byte c cs ∙ ap (λ b. cond b (c ∷ take_while is_identifier_byte cs) []) ends
run_word (c ∷ w) rest letters ends =
    let parts = and_parts (is_identifier_byte c) (list_all is_identifier_byte w) letters in
    take_while-cons is_identifier_byte c (w ++ rest)
    ∙ (ap (λ b. cond b (c ∷ take_while is_identifier_byte (w ++ rest)) []) parts.0 ∙ ap (λ z. c ∷ z) (run_word w rest parts.1 ends))

none_passed : (c : ℕ) (cs : List ℕ) → is_identifier_byte c ≡ false → past_run (c ∷ cs) ≡ c ∷ cs
none_passed c cs e = rw e refl

pub run_rest : (w rest : List ℕ) → list_all is_identifier_byte w ≡ true → EndsRun rest → past_run (w ++ rest) ≡ rest
run_rest [] [] letters ends = refl
run_rest [] (c ∷ cs) letters ends = none_passed c cs ends
run_rest (c ∷ w) rest letters ends =
    let parts = and_parts (is_identifier_byte c) (list_all is_identifier_byte w) letters in
    run-first c (w ++ rest) parts.0 ∙ run_rest w rest parts.1 ends

-- that run is this token
pub run_taken : (make : List ℕ → Token) (w rest : List ℕ) → list_all is_identifier_byte w ≡ true → EndsRun rest → run_token make (w ++ rest) ≡ (make w, rest)
run_taken make w rest letters ends =
    ap (λ q. (make q, past_run (w ++ rest))) (run_word w rest letters ends) ∙ ap (λ r. (make w, r)) (run_rest w rest letters ends)

abbrev pub RunFound : List ℕ → List ℕ → List ℕ → Type 0
RunFound text w rest = (text ≡ w ++ rest) × (list_all is_identifier_byte w ≡ true) × EndsRun rest

run_step : (c : ℕ) (cs : List ℕ) (b : Bool) → is_identifier_byte c ≡ b → RunFound cs (take_while is_identifier_byte cs) (past_run cs) → RunFound (c ∷ cs) (take_while is_identifier_byte (c ∷ cs)) (past_run (c ∷ cs))
run_step c cs true e h =
    let word : take_while is_identifier_byte (c ∷ cs) ≡ c ∷ take_while is_identifier_byte cs = take_while-cons is_identifier_byte c cs ∙ ap (λ b. cond b (c ∷ take_while is_identifier_byte cs) []) e in
    let rest = run-first c cs e in
    subst (λ w. RunFound (c ∷ cs) w (past_run (c ∷ cs))) (sym word)
    (subst (λ r. RunFound (c ∷ cs) (c ∷ take_while is_identifier_byte cs) r) (sym rest)
    (ap (λ t. c ∷ t) h.0, and_from (is_identifier_byte c) (list_all is_identifier_byte (take_while is_identifier_byte cs)) e h.1, h.2))
run_step c cs false e h =
    let word : take_while is_identifier_byte (c ∷ cs) ≡ [] = take_while-cons is_identifier_byte c cs ∙ ap (λ b. cond b (c ∷ take_while is_identifier_byte cs) []) e in
    let rest = none_passed c cs e in
    subst (λ w. RunFound (c ∷ cs) w (past_run (c ∷ cs))) (sym word)
    (subst (λ r. RunFound (c ∷ cs) [] r) (sym rest) (refl, refl, e))

pub run_found : (text : List ℕ) → RunFound text (take_while is_identifier_byte text) (past_run text)
run_found [] = (refl, refl, tt)
run_found (c ∷ cs) = run_step c cs (is_identifier_byte c) refl (run_found cs)

-- ---- numbers

pub digits_are_letters : (w : List ℕ) → list_all is_digit w ≡ true → list_all is_identifier_byte w ≡ true
digits_are_letters [] h = refl
digits_are_letters (c ∷ w) h =
    let parts = and_parts (is_digit c) (list_all is_digit w) h in
    and_from (is_identifier_byte c) (list_all is_identifier_byte w) (digit-is-identifier c parts.0) (digits_are_letters w parts.1)

pub digits_are_number : (negative : Bool) (digits : List ℕ) → AreDigits digits → number_token negative digits ≡ token.Number negative (small_value digits)
digits_are_number negative digits h =
    ap (λ b. elim b as (λ _. Token) [ true ↦ token.Number negative (small_value digits) | false ↦ token.Wrong ])
    (and_from (list_all is_digit digits) (nat_le 1 (length digits)) h.1 (le-leb 1 (length digits) h.0))

-- a run is a number, or wrong
pub number_said : (P : Token → Type 0) (negative : Bool) (run : List ℕ) → (AreDigits run → P (token.Number negative (small_value run))) → P token.Wrong → P (number_token negative run)
number_said P negative run number wrong = go (list_all is_digit run && nat_le 1 (length run)) refl
  where
    go : (b : Bool) → (list_all is_digit run && nat_le 1 (length run)) ≡ b → P (elim b as (λ _. Token) [ true ↦ token.Number negative (small_value run) | false ↦ token.Wrong ])
    go true e = (let parts = and_parts (list_all is_digit run) (nat_le 1 (length run)) e in number (leb-true 1 (length run) parts.1, parts.0))
    go false e = wrong
