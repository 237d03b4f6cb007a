-- The next token of a text is the one that the productions spell, or none stands there.
use Rattle.std.proofs.Common.{◌≡◌, ◌∙◌, ◌++◌, ◌≤◌, ◌<◌, ◌||◌, ℕ, zero, suc, Bool, true, false, List, [], ◌∷◌, Option, Some, None, Result, Ok, Err, length, drop, refl, ap, sym, subst, inl, inr, arith, append_assoc, length-append}
use Rattle.std.specs.Prelude.{◌==◌}
use Rattle.std.specs.List.{list_all, take_while}
use Rattle.std.proofs.lemmas.Bool.{and_parts, eqb-true, eq-eqb, or_cases, or_from}
use Rattle.vs_base.specs.Blanks.{is_blank}
use Rattle.vs_base.specs.Numbers.{is_digit, small_value}
use Rattle.vs_journal.specs.Escapes.{escape_at}
use Rattle.vs_journal.specs.Tokens.{NextToken, escaped, is_identifier_byte, mark_of, next_token, number_token, past_gap, past_run, placed_token, run_token, string_from, string_token, token_at, token_in, with_first}
use Rattle.vs_journal.specs.Spellings.{AreDigits, BeginsNoGap, EndsRun, EndsWithin, HasNoString, HasNoToken, IsEscape, IsGap, IsLastGap, IsNumber, IsQuote, IsStringByte, IsTokenAt, IsWord, SpellsBytes}
use Rattle.vs_journal.specs.declared.escape.Escape.{Escape}
use Rattle.vs_journal.specs.declared.escape.Escape.TheVariants.{Stands, Unknown, Cut}
use Rattle.vs_journal.specs.declared.token.Bracket.TheVariants.{Curly, Angle}
use Rattle.vs_journal.specs.declared.token.Token.{Token}
use Rattle.vs_journal.specs.declared.token.Token.TheVariants as token
use Rattle.vs_journal.proofs.ReadLemmas.{digit-is-identifier, of_choice}
use Rattle.vs_journal.proofs.GapLaws.{GapFound, differs, gap_found, gap_passed, gap_stays, last_gap_passed}
use Rattle.vs_journal.proofs.RunLaws.{digits_are_letters, digits_are_number, number_said, run_found, run_taken}
use Rattle.vs_journal.proofs.EscapeLaws.{EscapeFound, begins_none, escape_found, escape_taken, no_escape}

-- ---- strings

drop_front : (part rest : List ℕ) → drop (length part) (part ++ rest) ≡ rest
drop_front [] rest = refl
drop_front (c ∷ part) rest = drop_front part rest

-- bytes that are passed over
skipped : (q : ℕ) (part rest : List ℕ) → string_from q (length part) (part ++ rest) ≡ string_from q zero rest
skipped q [] rest = refl
skipped q (c ∷ part) rest = skipped q part rest

no_backslash : (q : ℕ) → IsQuote q → (0x5C == q) ≡ false
no_backslash q (inl e) = ap (λ d. 0x5C == d) e
no_backslash q (inr e) = ap (λ d. 0x5C == d) e

string_ends : (q : ℕ) (rest : List ℕ) → string_from q zero (q ∷ rest) ≡ Ok ([], rest)
string_ends q rest = rw (eq-eqb q q refl, string_from) refl

string_plain : (q c : ℕ) (cs : List ℕ) → (c == q) ≡ false → (c == 0x5C) ≡ false → string_from q zero (c ∷ cs) ≡ with_first c (string_from q zero cs)
string_plain q c cs e f = rw (e, f, string_from) refl

string_escaped : (q : ℕ) (cs : List ℕ) → IsQuote q → string_from q zero (0x5C ∷ cs) ≡ escaped (length (0x5C ∷ cs)) (escape_at cs) (λ width. string_from q width cs)
string_escaped q cs is = rw (no_backslash q is, string_from) refl

byte_taken : (q b : ℕ) (part more text bytes rest : List ℕ) → IsQuote q → text ≡ part ++ more → IsStringByte q part b more → string_from q zero more ≡ Ok (bytes, rest) → string_from q zero text ≡ Ok (b ∷ bytes, rest)
byte_taken q b part more text bytes rest is are (inl p) later =
    ap (string_from q zero) (are ∙ ap (λ z. z ++ more) p.0) ∙ (string_plain q b more p.1 p.2 ∙ ap (with_first b) later)
byte_taken q b part more text bytes rest is are (inr e) later =
    ap (string_from q zero) (are ∙ ap (λ z. z ++ more) e.1)
    ∙ (string_escaped q (e.0 ++ more) is
    ∙ (ap (λ x. escaped (length (0x5C ∷ (e.0 ++ more))) x (λ width. string_from q width (e.0 ++ more))) (escape_taken e.0 b more e.2)
    ∙ ap (with_first b) (skipped q e.0 more ∙ later)))

pub string_taken : (bytes : List ℕ) (q : ℕ) (text rest : List ℕ) → IsQuote q → SpellsBytes q text bytes (q ∷ rest) → string_from q zero text ≡ Ok (bytes, rest)
string_taken [] q text rest is h = ap (string_from q zero) h ∙ string_ends q rest
string_taken (b ∷ bytes) q text rest is h = byte_taken q b h.0 h.1 text bytes rest is h.2 h.3 (string_taken bytes q h.1 rest is h.4)

abbrev StringFound : ℕ → List ℕ → Result (List ℕ × List ℕ) ℕ → Type 0
StringFound q text (Ok p) = SpellsBytes q text p.0 (q ∷ p.1)
StringFound q text (Err left) = (bytes rest : List ℕ) × SpellsBytes q text bytes rest × EndsWithin rest left

plain_found : (q c : ℕ) (cs : List ℕ) (r : Result (List ℕ × List ℕ) ℕ) → (c == q) ≡ false → (c == 0x5C) ≡ false → StringFound q cs r → StringFound q (c ∷ cs) (with_first c r)
plain_found q c cs (Ok p) e f h = (c ∷ [], cs, refl, inl (refl, e, f), h)
plain_found q c cs (Err left) e f h = (c ∷ h.0, h.1, (c ∷ [], cs, refl, inl (refl, e, f), h.2), h.3)

stands_found : (q value : ℕ) (part rest : List ℕ) (r : Result (List ℕ × List ℕ) ℕ) → IsEscape part value rest → StringFound q rest r → StringFound q (0x5C ∷ (part ++ rest)) (with_first value r)
stands_found q value part rest (Ok p) is h = (0x5C ∷ part, rest, refl, inr (part, refl, is), h)
stands_found q value part rest (Err left) is h = (value ∷ h.0, h.1, (0x5C ∷ part, rest, refl, inr (part, refl, is), h.2), h.3)

escaped_found : (q : ℕ) (cs : List ℕ) (e : Escape) → escape_at cs ≡ e → EscapeFound cs e → ((rest : List ℕ) → length rest < length (0x5C ∷ cs) → StringFound q rest (string_from q zero rest)) → StringFound q (0x5C ∷ cs) (escaped (length (0x5C ∷ cs)) e (λ width. string_from q width cs))
escaped_found q cs (Stands value width) is h later =
    let part = h.0 in
    let rest = h.1 in
    let short : length rest < length (0x5C ∷ cs) = omega (arith, ap length h.2, length-append part rest) in
    let onward : string_from q width cs ≡ string_from q zero rest = ap (λ n. string_from q n cs) h.3 ∙ (ap (string_from q (length part)) h.2 ∙ skipped q part rest) in
    subst (λ r. StringFound q (0x5C ∷ cs) (with_first value r)) (sym onward)
    (subst (λ t. StringFound q (0x5C ∷ t) (with_first value (string_from q zero rest))) (sym h.2)
    (stands_found q value part rest (string_from q zero rest) h.5 (later rest short)))
escaped_found q cs Unknown is h later =
    ([], 0x5C ∷ cs, refl, inr (cs, refl, no_escape cs Unknown is (λ value width k. absurd (cc)), inr (begins_none cs h, refl)))
escaped_found q cs Cut is h later =
    ([], 0x5C ∷ cs, refl, inr (cs, refl, no_escape cs Cut is (λ value width k. absurd (cc)), inl (h, refl)))

string_step : (q c : ℕ) (cs : List ℕ) (quote backslash : Bool) → IsQuote q → (c == q) ≡ quote → (c == 0x5C) ≡ backslash → ((rest : List ℕ) → length rest < length (c ∷ cs) → StringFound q rest (string_from q zero rest)) → StringFound q (c ∷ cs) (string_from q zero (c ∷ cs))
string_step q c cs true backslash is e f later =
    let same : c ≡ q = eqb-true c q e in
    subst (λ d. StringFound q (d ∷ cs) (string_from q zero (d ∷ cs))) (sym same)
    (subst (StringFound q (q ∷ cs)) (sym (string_ends q cs)) refl)
string_step q c cs false true is e f later =
    let same : c ≡ 0x5C = eqb-true c 0x5C f in
    let rest_found : (rest : List ℕ) → length rest < length (0x5C ∷ cs) → StringFound q rest (string_from q zero rest) = λ rest less. later rest (omega arith) in
    subst (λ d. StringFound q (d ∷ cs) (string_from q zero (d ∷ cs))) (sym same)
    (subst (StringFound q (0x5C ∷ cs)) (sym (string_escaped q cs is))
    (escaped_found q cs (escape_at cs) refl (escape_found cs) rest_found))
string_step q c cs false false is e f later =
    subst (StringFound q (c ∷ cs)) (sym (string_plain q c cs e f)) (plain_found q c cs (string_from q zero cs) e f (later cs (omega arith)))

string_by : (n q : ℕ) (text : List ℕ) → IsQuote q → length text < n → StringFound q text (string_from q zero text)
string_by zero q text is less = absurd (omega arith)
string_by (suc n) q [] is less = ([], [], refl, inl (refl, refl))
string_by (suc n) q (c ∷ cs) is less = string_step q c cs (c == q) (c == 0x5C) is refl refl (λ rest shorter. string_by n q rest is (omega arith))

string_found : (q : ℕ) (text : List ℕ) → IsQuote q → StringFound q text (string_from q zero text)
string_found q text is = string_by (suc (length text)) q text is (omega arith)

-- ---- what the productions spell is read so

is_quote : (q : ℕ) → IsQuote q → (q == 0x22 || q == 0x27) ≡ true
is_quote q (inl e) = ap (λ d. d == 0x22 || d == 0x27) e
is_quote q (inr e) = ap (λ d. d == 0x22 || d == 0x27) e

quote_of : (q : ℕ) → (q == 0x22 || q == 0x27) ≡ true → IsQuote q
quote_of q h = elim (or_cases (q == 0x22) (q == 0x27) h) as (λ _. IsQuote q) [ inl e ↦ inl (eqb-true q 0x22 e) | inr e ↦ inr (eqb-true q 0x27 e) ]

letter_no_quote : (c : ℕ) → is_identifier_byte c ≡ true → (c == 0x22 || c == 0x27) ≡ false
letter_no_quote c h = or_from (c == 0x22) (c == 0x27) (differs is_identifier_byte c 0x22 h refl) (differs is_identifier_byte c 0x27 h refl)

at_string : (c : ℕ) (cs : List ℕ) → IsQuote c → token_at c cs ≡ string_token (string_from c zero cs)
at_string c cs is = rw (is_quote c is, token_at) refl

abbrev token_by : Bool → Bool → Bool → Bool → ℕ → List ℕ → Token × List ℕ
token_by quote sign digit letter c cs =
    elim quote [
      | true ↦ string_token (string_from c zero cs)
      | false ↦
          elim sign [
            | true ↦ run_token (number_token true) (past_gap false cs)
            | false ↦
                elim digit [
                  | true ↦ run_token (number_token false) (c ∷ cs)
                  | false ↦
                      elim letter [ true ↦ run_token token.Word (c ∷ cs) | false ↦ (mark_of c, cs) ]
                ]
          ]
    ]

by_tests : (c : ℕ) (cs : List ℕ) (quote sign digit letter : Bool) → (c == 0x22 || c == 0x27) ≡ quote → (c == 0x2D) ≡ sign → is_digit c ≡ digit → is_identifier_byte c ≡ letter → token_at c cs ≡ token_by quote sign digit letter c cs
by_tests c cs quote sign digit letter e f g h =
    ap (λ q. token_by q (c == 0x2D) (is_digit c) (is_identifier_byte c) c cs) e
    ∙ (ap (λ q. token_by quote q (is_digit c) (is_identifier_byte c) c cs) f
    ∙ (ap (λ q. token_by quote sign q (is_identifier_byte c) c cs) g ∙ ap (λ q. token_by quote sign digit q c cs) h))

at_digit : (c : ℕ) (cs : List ℕ) → is_digit c ≡ true → token_at c cs ≡ run_token (number_token false) (c ∷ cs)
at_digit c cs h =
    by_tests c cs false false true true (letter_no_quote c (digit-is-identifier c h)) (differs is_digit c 0x2D h refl) h (digit-is-identifier c h)

at_letter : (c : ℕ) (cs : List ℕ) → is_digit c ≡ false → is_identifier_byte c ≡ true → token_at c cs ≡ run_token token.Word (c ∷ cs)
at_letter c cs digit h =
    by_tests c cs false false false true (letter_no_quote c h) (differs is_identifier_byte c 0x2D h refl) digit h

at_mark : (c : ℕ) (cs : List ℕ) → (c == 0x22 || c == 0x27) ≡ false → (c == 0x2D) ≡ false → is_digit c ≡ false → is_identifier_byte c ≡ false → token_at c cs ≡ (mark_of c, cs)
at_mark c cs quote sign digit letter = by_tests c cs false false false false quote sign digit letter

-- a token that stands in front is the next, and all of the text is left there
abbrev NextIs : List ℕ → Token → List ℕ → Type 0
NextIs text t rest = token_in text ≡ Some (length text, (t, rest))

word_next : (w rest : List ℕ) → IsWord w → EndsRun rest → NextIs (w ++ rest) (token.Word w) rest
word_next w rest h ends =
    let c = h.0 in
    let cs = h.1 in
    let letters = subst (λ q. list_all is_identifier_byte q ≡ true) h.2 h.4 in
    let first = (and_parts (is_identifier_byte c) (list_all is_identifier_byte cs) letters).0 in
    let here : NextIs ((c ∷ cs) ++ rest) (token.Word (c ∷ cs)) rest = ap (λ cut. Some (placed_token (length (c ∷ (cs ++ rest))) cut)) (at_letter c (cs ++ rest) h.3 first ∙ run_taken token.Word (c ∷ cs) rest letters ends) in
    subst (λ q. NextIs (q ++ rest) (token.Word q) rest) (sym h.2) here

digits_next : (c : ℕ) (cs rest : List ℕ) → AreDigits (c ∷ cs) → EndsRun rest → NextIs ((c ∷ cs) ++ rest) (token.Number false (small_value (c ∷ cs))) rest
digits_next c cs rest h ends =
    let first = (and_parts (is_digit c) (list_all is_digit cs) h.1).0 in
    ap (λ cut. Some (placed_token (length (c ∷ (cs ++ rest))) cut))
    (at_digit c (cs ++ rest) first ∙ (run_taken (number_token false) (c ∷ cs) rest (digits_are_letters (c ∷ cs) h.1) ends ∙ ap (λ t. (t, rest)) (digits_are_number false (c ∷ cs) h)))

some_digits : (P : List ℕ → Type 0) (digits : List ℕ) → AreDigits digits → ((c : ℕ) (cs : List ℕ) → AreDigits (c ∷ cs) → P (c ∷ cs)) → P digits
some_digits P [] h f = (let k : 1 ≤ length {A = ℕ} [] = h.0 in absurd (omega arith))
some_digits P (c ∷ cs) h f = f c cs h

digit_no_gap : (c : ℕ) (cs : List ℕ) → is_digit c ≡ true → BeginsNoGap (c ∷ cs)
digit_no_gap c cs h = (c, cs, refl, no_blank, differs is_digit c 0x23 h refl)
  where
    no_blank : is_blank c ≡ false
    no_blank = or_from (c == 32) _ (differs is_digit c 32 h refl) (or_from (c == 9) _ (differs is_digit c 9 h refl) (or_from (c == 13) (c == 10) (differs is_digit c 13 h refl) (differs is_digit c 10 h refl)))

letter_no_gap : (c : ℕ) (cs : List ℕ) → is_identifier_byte c ≡ true → BeginsNoGap (c ∷ cs)
letter_no_gap c cs h = (c, cs, refl, no_blank, differs is_identifier_byte c 0x23 h refl)
  where
    no_blank : is_blank c ≡ false
    no_blank = or_from (c == 32) _ (differs is_identifier_byte c 32 h refl) (or_from (c == 9) _ (differs is_identifier_byte c 9 h refl) (or_from (c == 13) (c == 10) (differs is_identifier_byte c 13 h refl) (differs is_identifier_byte c 10 h refl)))

negative_next : (gap digits rest : List ℕ) → IsGap gap → AreDigits digits → EndsRun rest → NextIs ((0x2D ∷ (gap ++ digits)) ++ rest) (token.Number true (small_value digits)) rest
negative_next gap digits rest g h ends =
    let digits_stay : past_gap false (digits ++ rest) ≡ digits ++ rest = some_digits (λ d. past_gap false (d ++ rest) ≡ d ++ rest) digits h (λ c cs k. gap_stays ((c ∷ cs) ++ rest) (digit_no_gap c (cs ++ rest) (and_parts (is_digit c) (list_all is_digit cs) k.1).0)) in
    let gone : past_gap false ((gap ++ digits) ++ rest) ≡ digits ++ rest = ap (past_gap false) (append_assoc gap digits rest) ∙ (gap_passed gap (digits ++ rest) g ∙ digits_stay) in
    ap (λ cut. Some (placed_token (length (0x2D ∷ ((gap ++ digits) ++ rest))) cut))
    (ap (run_token (number_token true)) gone ∙ (run_taken (number_token true) digits rest (digits_are_letters digits h.1) ends ∙ ap (λ t. (t, rest)) (digits_are_number true digits h)))

number_next : (negative : Bool) (size : Option ℕ) (number rest : List ℕ) → IsNumber negative size number → EndsRun rest → NextIs (number ++ rest) (token.Number negative size) rest
number_next false size number rest h ends =
    subst (λ s. NextIs (number ++ rest) (token.Number false s) rest) h.1
    (some_digits (λ d. NextIs (d ++ rest) (token.Number false (small_value d)) rest) number h.0 (λ c cs k. digits_next c cs rest k ends))
number_next true size number rest h ends =
    subst (λ s. NextIs (number ++ rest) (token.Number true s) rest) h.5
    (subst (λ n. NextIs (n ++ rest) (token.Number true (small_value h.1)) rest) (sym h.2) (negative_next h.0 h.1 rest h.3 h.4 ends))

string_next : (q : ℕ) (body bytes rest : List ℕ) → IsQuote q → SpellsBytes q body bytes (q ∷ rest) → NextIs (q ∷ body) (token.Bytes bytes) rest
string_next q body bytes rest is h =
    ap (λ cut. Some (placed_token (length (q ∷ body)) cut)) (at_string q body is ∙ ap string_token (string_taken bytes q body rest is h))

mark_next : (c : ℕ) (text rest : List ℕ) (t : Token) → text ≡ c ∷ rest → NextIs (c ∷ rest) t rest → NextIs text t rest
mark_next c text rest t e h = subst (λ q. NextIs q t rest) (sym e) h

pub token_taken : (text : List ℕ) (t : Token) (rest : List ℕ) → IsTokenAt text t rest → NextIs text t rest
token_taken text (token.Word w) rest h = subst (λ q. NextIs q (token.Word w) rest) (sym h.0) (word_next w rest h.1 h.2)
token_taken text (token.Number negative size) rest h = subst (λ q. NextIs q (token.Number negative size) rest) (sym h.1) (number_next negative size h.0 rest h.2 h.3)
token_taken text (token.Bytes bytes) rest h = subst (λ q. NextIs q (token.Bytes bytes) rest) (sym h.2) (string_next h.0 h.1 bytes rest h.3 h.4)
token_taken text token.Colon rest h = mark_next 0x3A text rest token.Colon h refl
token_taken text token.Comma rest h = mark_next 0x2C text rest token.Comma h refl
token_taken text token.Semicolon rest h = mark_next 0x3B text rest token.Semicolon h refl
token_taken text token.OpenList rest h = mark_next 0x5B text rest token.OpenList h refl
token_taken text token.CloseList rest h = mark_next 0x5D text rest token.CloseList h refl
token_taken text (token.Open Curly) rest h = mark_next 0x7B text rest (token.Open Curly) h refl
token_taken text (token.Close Curly) rest h = mark_next 0x7D text rest (token.Close Curly) h refl
token_taken text (token.Open Angle) rest h = mark_next 0x3C text rest (token.Open Angle) h refl
token_taken text (token.Close Angle) rest h = mark_next 0x3E text rest (token.Close Angle) h refl
token_taken text token.Wrong rest h = absurd h
token_taken text (token.Faulty left) rest h = absurd h

-- no gap stands before a token
mark_no_gap : (c : ℕ) (text rest : List ℕ) → text ≡ c ∷ rest → is_blank c ≡ false → (c == 0x23) ≡ false → BeginsNoGap text
mark_no_gap c text rest e f g = (c, rest, e, f, g)

quote_no_gap : (q : ℕ) (body : List ℕ) → IsQuote q → BeginsNoGap (q ∷ body)
quote_no_gap q body (inl e) = (q, body, refl, ap is_blank e, ap (λ d. d == 0x23) e)
quote_no_gap q body (inr e) = (q, body, refl, ap is_blank e, ap (λ d. d == 0x23) e)

number_no_gap : (negative : Bool) (size : Option ℕ) (number rest : List ℕ) → IsNumber negative size number → BeginsNoGap (number ++ rest)
number_no_gap false size number rest h = some_digits (λ d. BeginsNoGap (d ++ rest)) number h.0 (λ c cs k. digit_no_gap c (cs ++ rest) (and_parts (is_digit c) (list_all is_digit cs) k.1).0)
number_no_gap true size number rest h = (0x2D, (h.0 ++ h.1) ++ rest, ap (λ n. n ++ rest) h.2, refl, refl)

pub token_no_gap : (text : List ℕ) (t : Token) (rest : List ℕ) → IsTokenAt text t rest → BeginsNoGap text
token_no_gap text (token.Word w) rest h =
    let letters = subst (λ q. list_all is_identifier_byte q ≡ true) h.1.2 h.1.4 in
    let first = (and_parts (is_identifier_byte h.1.0) (list_all is_identifier_byte h.1.1) letters).0 in
    subst BeginsNoGap (sym (h.0 ∙ ap (λ q. q ++ rest) h.1.2)) (letter_no_gap h.1.0 (h.1.1 ++ rest) first)
token_no_gap text (token.Number negative size) rest h = subst BeginsNoGap (sym h.1) (number_no_gap negative size h.0 rest h.2)
token_no_gap text (token.Bytes bytes) rest h = subst BeginsNoGap (sym h.2) (quote_no_gap h.0 h.1 h.3)
token_no_gap text token.Colon rest h = mark_no_gap 0x3A text rest h refl refl
token_no_gap text token.Comma rest h = mark_no_gap 0x2C text rest h refl refl
token_no_gap text token.Semicolon rest h = mark_no_gap 0x3B text rest h refl refl
token_no_gap text token.OpenList rest h = mark_no_gap 0x5B text rest h refl refl
token_no_gap text token.CloseList rest h = mark_no_gap 0x5D text rest h refl refl
token_no_gap text (token.Open Curly) rest h = mark_no_gap 0x7B text rest h refl refl
token_no_gap text (token.Close Curly) rest h = mark_no_gap 0x7D text rest h refl refl
token_no_gap text (token.Open Angle) rest h = mark_no_gap 0x3C text rest h refl refl
token_no_gap text (token.Close Angle) rest h = mark_no_gap 0x3E text rest h refl refl
token_no_gap text token.Wrong rest h = absurd h
token_no_gap text (token.Faulty left) rest h = absurd h

-- a token behind a gap is the next
pub next_taken : (gap here : List ℕ) (t : Token) (rest : List ℕ) → IsGap gap → IsTokenAt here t rest → next_token (gap ++ here) ≡ Some (length here, (t, rest))
next_taken gap here t rest g h =
    ap token_in (gap_passed gap here g ∙ gap_stays here (token_no_gap here t rest h)) ∙ token_taken here t rest h

pub none_taken : (text : List ℕ) → IsLastGap text → next_token text ≡ None
none_taken text g = ap token_in (last_gap_passed text g)

-- ---- and what is read so, they spell

abbrev pub SaidAt : List ℕ → NextToken → Type 0
SaidAt text (left, (token.Wrong, rest)) = HasNoToken text × (left ≡ length text)
SaidAt text (left, (token.Faulty place, rest)) = HasNoString text left
SaidAt text (left, (t, rest)) = IsTokenAt text t rest × (left ≡ length text)

abbrev token_told : Option NextToken → Token
token_told None = token.Wrong
token_told (Some next) = next.1.0

no_token_at : (c : ℕ) (cs rest : List ℕ) → BeginsNoGap (c ∷ cs) → (c == 0x22 || c == 0x27) ≡ false → token_at c cs ≡ (token.Wrong, rest) → HasNoToken (c ∷ cs)
no_token_at c cs rest bare plain e = record {
  no_gap = bare;
  no_token = λ t behind is.
      let both : Some (placed_token (length (c ∷ cs)) (token.Wrong, rest)) ≡ Some (length (c ∷ cs), (t, behind)) = ap (λ cut. Some (placed_token (length (c ∷ cs)) cut)) (sym e) ∙ token_taken (c ∷ cs) t behind is in
      let wrong : t ≡ token.Wrong = sym (ap token_told both) in
      subst (λ u. IsTokenAt (c ∷ cs) u behind) wrong is;
  no_quote = λ q body are is.
      let same : c ≡ q = cc in
      let clash : true ≡ false = sym (is_quote q is) ∙ (ap (λ d. d == 0x22 || d == 0x27) (sym same) ∙ plain) in
      absurd (cc);
}

abbrev Said : ℕ → List ℕ → Token × List ℕ → Type 0
Said c cs cut = SaidAt (c ∷ cs) (placed_token (length (c ∷ cs)) cut)

string_said : (c : ℕ) (cs : List ℕ) (r : Result (List ℕ × List ℕ) ℕ) → IsQuote c → StringFound c cs r → Said c cs (string_token r)
string_said c cs (Ok p) is h = ((c, cs, refl, is, h), refl)
string_said c cs (Err left) is h = (c, cs, h.0, h.1, refl, is, h.2, h.3)

negative_said : (cs : List ℕ) → token_at 0x2D cs ≡ run_token (number_token true) (past_gap false cs) → Said 0x2D cs (run_token (number_token true) (past_gap false cs))
negative_said cs e = go (past_gap false cs) refl (gap_found cs) (run_found (past_gap false cs))
  where
    go : (left : List ℕ) → past_gap false cs ≡ left → GapFound cs left → (left ≡ take_while is_identifier_byte left ++ past_run left) × (list_all is_identifier_byte (take_while is_identifier_byte left) ≡ true) × EndsRun (past_run left) → Said 0x2D cs (run_token (number_token true) left)
    go left is (inl g) run =
        let none : number_token true (take_while is_identifier_byte left) ≡ token.Wrong = ap (λ l. number_token true (take_while is_identifier_byte l)) g.1 in
        subst (λ t. Said 0x2D cs (t, past_run left)) (sym none)
        (no_token_at 0x2D cs (past_run left) (0x2D, cs, refl, refl, refl) refl (e ∙ (ap (run_token (number_token true)) is ∙ ap (λ t. (t, past_run left)) none)), refl)
    go left is (inr g) run =
        let word = take_while is_identifier_byte left in
        let at : token_at 0x2D cs ≡ (number_token true word, past_run left) = e ∙ ap (run_token (number_token true)) is in
        number_said (λ t. token_at 0x2D cs ≡ (t, past_run left) → Said 0x2D cs (t, past_run left)) true word
        (λ digits _. ((0x2D ∷ (g.0 ++ word), ap (λ z. 0x2D ∷ z) (g.1 ∙ (ap (λ z. g.0 ++ z) run.0 ∙ sym (append_assoc g.0 word (past_run left)))), (g.0, word, refl, g.2, digits, refl), run.2), refl))
        (λ wrong. (no_token_at 0x2D cs (past_run left) (0x2D, cs, refl, refl, refl) refl wrong, refl)) at

digit_said : (c : ℕ) (cs : List ℕ) → BeginsNoGap (c ∷ cs) → (c == 0x22 || c == 0x27) ≡ false → token_at c cs ≡ run_token (number_token false) (c ∷ cs) → Said c cs (run_token (number_token false) (c ∷ cs))
digit_said c cs bare plain e =
    let word = take_while is_identifier_byte (c ∷ cs) in
    let behind = past_run (c ∷ cs) in
    let run = run_found (c ∷ cs) in
    number_said (λ t. token_at c cs ≡ (t, behind) → Said c cs (t, behind)) false word
    (λ digits _. ((word, run.0, (digits, refl), run.2), refl))
    (λ wrong. (no_token_at c cs behind bare plain wrong, refl)) e

word_said : (c : ℕ) (cs : List ℕ) → is_digit c ≡ false → is_identifier_byte c ≡ true → Said c cs (run_token token.Word (c ∷ cs))
word_said c cs bare h =
    let run = run_found (c ∷ cs) in
    ((run.0, first (take_while is_identifier_byte (c ∷ cs)) (past_run (c ∷ cs)) run, run.2), refl)
  where
    first : (w r : List ℕ) → (c ∷ cs ≡ w ++ r) × (list_all is_identifier_byte w ≡ true) × EndsRun r → IsWord w
    first [] r f =
        let none : is_identifier_byte c ≡ false = subst EndsRun (sym f.0) f.2 in
        let clash : true ≡ false = sym h ∙ none in
        absurd (cc)
    first (d ∷ w) r f = (let same : c ≡ d = cc in (d, w, refl, ap is_digit (sym same) ∙ bare, f.1))

abbrev IsMark : ℕ → List ℕ → Token → Type 0
IsMark c cs t = SaidAt (c ∷ cs) (placed_token (length (c ∷ cs)) (t, cs))

mark_said : (c : ℕ) (cs : List ℕ) → (mark_of c ≡ token.Wrong → HasNoToken (c ∷ cs)) → IsMark c cs (mark_of c)
mark_said c cs wrong =
    by 0x3A token.Colon _ (λ _. (refl, refl)) (λ e0.
    by 0x2C token.Comma _ (λ _. (refl, refl)) (λ e1.
    by 0x3B token.Semicolon _ (λ _. (refl, refl)) (λ e2.
    by 0x5B token.OpenList _ (λ _. (refl, refl)) (λ e3.
    by 0x5D token.CloseList _ (λ _. (refl, refl)) (λ e4.
    by 0x7B (token.Open Curly) _ (λ _. (refl, refl)) (λ e5.
    by 0x7D (token.Close Curly) _ (λ _. (refl, refl)) (λ e6.
    by 0x3C (token.Open Angle) _ (λ _. (refl, refl)) (λ e7.
    by 0x3E (token.Close Angle) _ (λ _. (refl, refl)) (λ e8. (wrong (rw (e0, e1, e2, e3, e4, e5, e6, e7, e8, mark_of) refl), refl))))))))))
  where
    by : (d : ℕ) (t other : Token) → ((c == d) ≡ true → IsMark d cs t) → ((c == d) ≡ false → IsMark c cs other) → IsMark c cs (elim (c == d) as (λ _. Token) [ true ↦ t | false ↦ other ])
    by d t other f g = of_choice (IsMark c cs) (c == d) t other (λ e. subst (λ x. IsMark x cs t) (sym (eqb-true c d e)) (f e)) g

pub token_said : (c : ℕ) (cs : List ℕ) → BeginsNoGap (c ∷ cs) → Said c cs (token_at c cs)
token_said c cs bare = quoted (c == 0x22 || c == 0x27) refl
  where
    rest_of : (plain : (c == 0x22 || c == 0x27) ≡ false) (sign digit letter : Bool) → (c == 0x2D) ≡ sign → is_digit c ≡ digit → is_identifier_byte c ≡ letter → Said c cs (token_at c cs)
    rest_of plain true digit letter e f g =
        let same : c ≡ 0x2D = eqb-true c 0x2D e in
        subst (λ d. Said d cs (token_at d cs)) (sym same) (negative_said cs refl)
    rest_of plain false true letter e f g = subst (Said c cs) (sym (at_digit c cs f)) (digit_said c cs bare plain (at_digit c cs f))
    rest_of plain false false true e f g = subst (Said c cs) (sym (at_letter c cs f g)) (word_said c cs f g)
    rest_of plain false false false e f g =
        let at : token_at c cs ≡ (mark_of c, cs) = at_mark c cs plain e f g in
        subst (Said c cs) (sym at) (mark_said c cs (λ wrong. no_token_at c cs cs bare plain (at ∙ ap (λ t. (t, cs)) wrong)))

    quoted : (b : Bool) → (c == 0x22 || c == 0x27) ≡ b → Said c cs (token_at c cs)
    quoted true e = (let is = quote_of c e in subst (Said c cs) (sym (at_string c cs is)) (string_said c cs (string_from c zero cs) is (string_found c cs is)))
    quoted false e = rest_of e (c == 0x2D) (is_digit c) (is_identifier_byte c) refl refl refl

-- what the next token of a text is
abbrev pub NextFound : List ℕ → Option NextToken → Type 0
NextFound text None = IsLastGap text
NextFound text (Some next) = (gap here : List ℕ) × (text ≡ gap ++ here) × IsGap gap × SaidAt here next

pub next_found : (text : List ℕ) → NextFound text (next_token text)
next_found text = go (past_gap false text) (gap_found text)
  where
    go : (left : List ℕ) → GapFound text left → NextFound text (token_in left)
    go [] (inl g) = g.0
    go (c ∷ cs) (inl g) = (let clash : c ∷ cs ≡ [] = g.1 in absurd (cc))
    go [] (inr g) = (let clash : [] ≡ g.3.0 ∷ g.3.1 = g.3.2 in absurd (cc))
    go (c ∷ cs) (inr g) = (g.0, c ∷ cs, g.1, g.2, token_said c cs g.3)
