-- Each token leaves less of its text, so a text has no more tokens than bytes.
use Rattle.std.proofs.Common.{◌≡◌, ◌≤◌, ◌<◌, ◌+◌, ◌-◌, ℕ, zero, suc, Bool, true, false, List, [], ◌∷◌, length, drop, refl, arith, sym, ap, ◌∙◌, length-drop}
use Rattle.std.specs.Prelude.{Option, Some, None, cond, Result, Ok, Err, ◌==◌, ◌||◌, ◌&&◌, nat_le}
use Rattle.std.specs.List.{list_all, prefix_len, take_while}
use Rattle.vs_base.specs.Numbers.{is_digit}
use Rattle.vs_journal.specs.Escapes.{escape_at}
use Rattle.vs_journal.specs.declared.escape.Escape.{Escape}
use Rattle.vs_journal.specs.declared.escape.Escape.TheVariants.{Stands, Unknown, Cut}
use Rattle.vs_journal.specs.Tokens.{NextToken, escaped, gap_behind, is_identifier_byte, mark_of, next_token, number_token, past_gap, past_run, place_left, placed_token, string_from, string_token, token_at, token_in, tokens_from, with_first, with_token}
use Rattle.vs_journal.specs.Grammar.{behind_token, run_ended, run_tokens, state_behind}
use Rattle.vs_journal.specs.declared.token.Token.{Token}
use Rattle.vs_journal.specs.declared.parsed.ParsedJournal.{ParsedJournal}
use Rattle.vs_journal.specs.declared.state.TextState.{TextState}

-- what holds of both cases holds of the choice
pub of_choice : {A : Type 0} (P : A → Type 0) (b : Bool) (x y : A) → (b ≡ true → P x) → (b ≡ false → P y) → P (elim b [ true ↦ x | false ↦ y ])
of_choice P true x y f g = f refl
of_choice P false x y f g = g refl

abbrev CutLeaves : ℕ → Token × List ℕ → Type 0
CutLeaves n cut = length cut.1 ≤ n

-- what is left of a text, or how much is left at its fault, is no more than this
abbrev pub StringLeaves : ℕ → Result (List ℕ × List ℕ) ℕ → Type 0
StringLeaves n (Ok p) = length p.1 ≤ n
StringLeaves n (Err left) = left ≤ suc n

first-leaves : (n c : ℕ) (r : Result (List ℕ × List ℕ) ℕ) → StringLeaves n r → StringLeaves (suc n) (with_first c r)
first-leaves n c (Ok p) h = omega arith
first-leaves n c (Err left) h = omega arith

more-leaves : (n : ℕ) (r : Result (List ℕ × List ℕ) ℕ) → StringLeaves n r → StringLeaves (suc n) r
more-leaves n (Ok p) h = omega arith
more-leaves n (Err left) h = omega arith

escaped-leaves : (n : ℕ) (e : Escape) (more : ℕ → Result (List ℕ × List ℕ) ℕ) → ((width : ℕ) → StringLeaves n (more width)) → StringLeaves (suc n) (escaped (suc n) e more)
escaped-leaves n (Stands value width) more h = first-leaves n value (more width) (h width)
escaped-leaves n Unknown more h = omega arith
escaped-leaves n Cut more h = omega arith

pub string-leaves : (quote skip : ℕ) (text : List ℕ) → StringLeaves (length text) (string_from quote skip text)
string-leaves quote skip [] = omega arith
string-leaves quote (suc skip) (c ∷ cs) = more-leaves (length cs) _ (string-leaves quote skip cs)
string-leaves quote zero (c ∷ cs) =
    of_choice (StringLeaves (suc (length cs))) (c == quote) _ _ (λ _. omega arith) (λ _.
    of_choice (StringLeaves (suc (length cs))) (c == 0x5C) _ _ (λ _. escaped-leaves (length cs) (escape_at cs) _ (λ width. string-leaves quote width cs)) (λ _. first-leaves (length cs) c _ (string-leaves quote zero cs)))

string_token-leaves : (n : ℕ) (r : Result (List ℕ × List ℕ) ℕ) → StringLeaves n r → CutLeaves n (string_token r)
string_token-leaves n (Ok p) h = h
string_token-leaves n (Err left) h = omega arith

gap-by : (o : Option Bool) (c : ℕ) (cs : List ℕ) → ((more : Bool) → length (past_gap more cs) ≤ length cs) → length {A = ℕ} (elim o [ None ↦ c ∷ cs | Some more ↦ past_gap more cs ]) ≤ suc (length cs)
gap-by None c cs short = omega arith
gap-by (Some more) c cs short = let h = short more in omega arith

pub gap-short : (comment : Bool) (text : List ℕ) → length (past_gap comment text) ≤ length text
gap-short comment [] = omega arith
gap-short comment (c ∷ cs) = gap-by (gap_behind comment c) c cs (λ more. gap-short more cs)

pub run-short : (text : List ℕ) → length (past_run text) ≤ length text
run-short text = omega (arith, length-drop (prefix_len is_identifier_byte text) text)

-- a first byte of a run is no part of what is left
pub run-first : (c : ℕ) (cs : List ℕ) → is_identifier_byte c ≡ true → past_run (c ∷ cs) ≡ past_run cs
run-first c cs h =
    let e : 1 + prefix_len is_identifier_byte cs ≡ suc (prefix_len is_identifier_byte cs) = omega arith in
    ap (λ b. drop (cond b (1 + prefix_len is_identifier_byte cs) 0) (c ∷ cs)) h ∙ ap (λ n. drop n (c ∷ cs)) e

fourth : (a b d e : Bool) → d ≡ true → (a || (b || (d || e))) ≡ true
fourth true b d e h = refl
fourth false true d e h = refl
fourth false false true e h = refl
fourth false false false e h = absurd (cc)

pub digit-is-identifier : (c : ℕ) → is_digit c ≡ true → is_identifier_byte c ≡ true
digit-is-identifier c h = fourth (nat_le 0x41 c && nat_le c 0x5A) (nat_le 0x61 c && nat_le c 0x7A) (is_digit c) (c == 0x5F) h

pub token-leaves : (c : ℕ) (cs : List ℕ) → CutLeaves (length cs) (token_at c cs)
token-leaves c cs =
    let P : Token × List ℕ → Type 0 = CutLeaves (length cs) in
    let run : is_identifier_byte c ≡ true → length (past_run (c ∷ cs)) ≤ length cs = λ e. rw (run-first c cs e) (run-short cs) in
    let negative : length (past_run (past_gap false cs)) ≤ length cs = (let a = run-short (past_gap false cs) in let b = gap-short false cs in omega arith) in
    of_choice P (c == 0x22 || c == 0x27) _ _ (λ _. string_token-leaves _ _ (string-leaves c zero cs)) (λ _.
    of_choice P (c == 0x2D) _ _ (λ _. negative) (λ _.
    of_choice P (is_digit c) _ _ (λ e. run (digit-is-identifier c e)) (λ _.
    of_choice P (is_identifier_byte c) _ _ (λ e. run e) (λ _. omega arith))))

-- ---- the place of a token is within the text that it begins

abbrev IsWithinText : ℕ → Token → Type 0
IsWithinText here t = place_left t here ≤ here

string-within : (n : ℕ) (r : Result (List ℕ × List ℕ) ℕ) → StringLeaves n r → IsWithinText (suc n) (string_token r).0
string-within n (Ok p) h = omega arith
string-within n (Err left) h = h

number-within : (here : ℕ) (negative : Bool) (run : List ℕ) → IsWithinText here (number_token negative run)
number-within here negative run = of_choice (IsWithinText here) (list_all is_digit run && nat_le 1 (length run)) _ _ (λ _. omega arith) (λ _. omega arith)

mark-within : (here c : ℕ) → IsWithinText here (mark_of c)
mark-within here c =
    let P : Token → Type 0 = IsWithinText here in
    of_choice P (c == 0x3A) _ _ (λ _. omega arith) (λ _.
    of_choice P (c == 0x2C) _ _ (λ _. omega arith) (λ _.
    of_choice P (c == 0x3B) _ _ (λ _. omega arith) (λ _.
    of_choice P (c == 0x5B) _ _ (λ _. omega arith) (λ _.
    of_choice P (c == 0x5D) _ _ (λ _. omega arith) (λ _.
    of_choice P (c == 0x7B) _ _ (λ _. omega arith) (λ _.
    of_choice P (c == 0x7D) _ _ (λ _. omega arith) (λ _.
    of_choice P (c == 0x3C) _ _ (λ _. omega arith) (λ _.
    of_choice P (c == 0x3E) _ _ (λ _. omega arith) (λ _. omega arith)))))))))

token-within : (c : ℕ) (cs : List ℕ) → IsWithinText (suc (length cs)) (token_at c cs).0
token-within c cs =
    let here : ℕ = suc (length cs) in
    let P : Token × List ℕ → Type 0 = λ cut. IsWithinText (suc (length cs)) cut.0 in
    of_choice P (c == 0x22 || c == 0x27) _ _ (λ _. string-within (length cs) _ (string-leaves c zero cs)) (λ _.
    of_choice P (c == 0x2D) _ _ (λ _. number-within here true (take_while is_identifier_byte (past_gap false cs))) (λ _.
    of_choice P (is_digit c) _ _ (λ _. number-within here false (take_while is_identifier_byte (c ∷ cs))) (λ _.
    of_choice P (is_identifier_byte c) _ _ (λ _. omega arith) (λ _. mark-within here c))))

token_in-leaves : (text : List ℕ) (n : NextToken) → token_in text ≡ Some n → (length n.1.1 < length text) × (n.0 ≤ length text)
token_in-leaves [] n h = absurd (cc)
token_in-leaves (c ∷ cs) n h =
    let e : placed_token (length (c ∷ cs)) (token_at c cs) ≡ n = cc in
    let less = token-leaves c cs in
    let at = token-within c cs in
    rw (← e) (omega arith, at)

-- a token leaves less of the text, and begins within it
pub leaves_less : (text : List ℕ) (n : NextToken) → next_token text ≡ Some n → (length n.1.1 < length text) × (n.0 ≤ length text)
leaves_less text n h =
    let less = token_in-leaves (past_gap false text) n h in
    let short = gap-short false text in
    (omega arith, omega arith)

-- what a text means, from a state on and over so many tokens
abbrev pub meant_from : TextState → ℕ → ℕ → List ℕ → Result ParsedJournal ℕ
meant_from state n size text = run_ended size (run_tokens state (tokens_from n size text))

-- a text without tokens
pub meant-ended : (state : TextState) (n size : ℕ) (text : List ℕ) → next_token text ≡ None → meant_from state n size text ≡ run_ended size (Ok state)
meant-ended state zero size text h = refl
meant-ended state (suc n) size text h = rw h refl

-- a token that fits
pub meant-more : (state next : TextState) (n size : ℕ) (text : List ℕ) (cut : NextToken) → next_token text ≡ Some cut → state_behind state cut.1.0 ≡ Some next → length text ≤ n → (m : ℕ) × (length cut.1.1 ≤ m) × (meant_from next m size cut.1.1 ≡ meant_from state n size text)
meant-more state next zero size text cut h fits few = absurd (let less = leaves_less text cut h in omega arith)
meant-more state next (suc m) size text cut h fits few =
    let less = leaves_less text cut h in
    let by_token : meant_from state (suc m) size text ≡ run_ended size (behind_token (state_behind state cut.1.0) (size - cut.0) (λ t. run_tokens t (tokens_from m size cut.1.1))) = ap (λ o. run_ended size (run_tokens state (with_token size o (tokens_from m size)))) h in
    let by_step = ap (λ o. run_ended size (behind_token o (size - cut.0) (λ t. run_tokens t (tokens_from m size cut.1.1)))) fits in
    (m, omega arith, sym (by_token ∙ by_step))

-- a token that doesn't
pub meant-stopped : (state : TextState) (n size : ℕ) (text : List ℕ) (cut : NextToken) → next_token text ≡ Some cut → state_behind state cut.1.0 ≡ None → length text ≤ n → meant_from state n size text ≡ Err (size - cut.0)
meant-stopped state zero size text cut h stops few = absurd (let less = leaves_less text cut h in omega arith)
meant-stopped state (suc m) size text cut h stops few =
    let by_token : meant_from state (suc m) size text ≡ run_ended size (behind_token (state_behind state cut.1.0) (size - cut.0) (λ t. run_tokens t (tokens_from m size cut.1.1))) = ap (λ o. run_ended size (run_tokens state (with_token size o (tokens_from m size)))) h in
    by_token ∙ ap (λ o. run_ended size (behind_token o (size - cut.0) (λ t. run_tokens t (tokens_from m size cut.1.1)))) stops
