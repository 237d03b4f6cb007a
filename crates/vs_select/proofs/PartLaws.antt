-- Each part that stands at a place is spelled there, and each part that is spelled at a place stands there.
use Rattle.std.proofs.Common.{◌≡◌, ◌++◌, ◌+◌, ◌-◌, ◌*◌, ◌^◌, ◌<◌, ◌≤◌, ℕ, zero, suc, Bool, true, false, List, [], ◌∷◌, Some, None, length, nat_le, refl, ap, sym, ◌∙◌, subst, inl, inr, append_assoc, arith}
use Rattle.std.specs.Prelude.{◌&&◌, ◌==◌, if◌then◌else◌}
use Rattle.std.specs.List.{fold, list_all, take_while}
use Rattle.std.proofs.lemmas.Bool.{and_parts, and_from, eqb-true, leb-true, le-leb, lt-ltb, or_from, or_parts}
use Rattle.vs_base.specs.Numbers.{digits_value, is_digit, small_value}
use Rattle.vs_select.specs.Parts.{behind, closed, is_blank, is_word_byte, number_by, number_of_run, part_at, run_at, sign_at, sign_by, up_to_backquote}
use Rattle.vs_select.specs.Productions.{AreDigitsOf, PartEndsAt, IsSign, IsWord, Spells, in_quotes, number_text}
use Rattle.vs_select.specs.declared.part.Part.{Part}
use Rattle.vs_select.specs.declared.part.Part.TheVariants as part
use Rattle.vs_select.specs.declared.select.Comparison.{Comparison}
use Rattle.vs_select.specs.declared.select.Comparison.TheVariants.{Equal, NotEqual, Less, AtMost, Greater, AtLeast}
use Rattle.vs_select.proofs.ReadLemmas.{digit-is-word, of_choice}
use Rattle.vs_select.proofs.SpellLaws.{IsCut, Stands, alone, another, backquote_all, backquote_is, bytes_cut, ends_freely, ends_number, ends_word, front_and_rest, front_passes, no, number_stops, one_front, quote_all, quote_is, quoted_cut, sign_cut, stops_behind, while-yes, word_stops, yes}

-- ---- numbers

-- ten times a number, so often
abbrev grow : ℕ → ℕ → ℕ
grow m zero = m
grow m (suc k) = grow (10 * m) k

grow_grows : (k m : ℕ) → m ≤ grow m k
grow_grows zero m = omega arith
grow_grows (suc k) m = let h : 10 * m ≤ grow (10 * m) k = grow_grows k (10 * m) in omega arith

few_digits : (k n m : ℕ) (ds : List ℕ) → length ds ≤ k → list_all is_digit ds ≡ true → n < m → fold (λ v d. 10 * v + (d - 0x30)) n ds < grow m k
few_digits zero n m [] few all h = h
few_digits zero n m (d ∷ ds) few all h = absurd (omega arith)
few_digits (suc k) n m [] few all h = let g : 10 * m ≤ grow (10 * m) k = grow_grows k (10 * m) in omega arith
few_digits (suc k) n m (d ∷ ds) few all h =
    let parts = and_parts (is_digit d) (list_all is_digit ds) all in
    let most : d ≤ 0x39 = leb-true d 0x39 ((and_parts (nat_le 0x30 d) (nat_le d 0x39) parts.0).1) in
    few_digits k (10 * n + (d - 0x30)) (10 * m) ds (omega arith) parts.1 (omega arith)

-- 19 digits are below 2^64
small : (ds : List ℕ) → length ds ≤ 19 → list_all is_digit ds ≡ true → small_value ds ≡ Some (digits_value ds)
small ds few all =
    let h : digits_value ds < 10000000000000000000 = few_digits 19 0 1 ds few all (omega arith) in
    ap (λ b. if b then Some (digits_value ds) else None) (lt-ltb (digits_value ds) (2 ^ 64) (omega arith))

number_is : (negative : Bool) (run : List ℕ) → Stands (number_of_run negative run) → (size : ℕ) × (number_of_run negative run ≡ part.Number negative size) × AreDigitsOf size run
number_is negative run =
    let P : Part → Type 0 = λ p. Stands p → (size : ℕ) × (p ≡ part.Number negative size) × AreDigitsOf size run in
    of_choice P (list_all is_digit run && (nat_le 1 (length run) && nat_le (length run) 19)) _ _
    (λ e.
    let digits = and_parts (list_all is_digit run) (nat_le 1 (length run) && nat_le (length run) 19) e in
    let long = and_parts (nat_le 1 (length run)) (nat_le (length run) 19) digits.1 in
    let most : length run ≤ 19 = leb-true (length run) 19 long.1 in
    λ _. (digits_value run, ap (number_by negative) (small run most digits.0), (digits.0, leb-true 1 (length run) long.0, most, refl)))
    (λ _. λ stands. absurd stands)

number_all : (negative : Bool) (size : ℕ) (ds : List ℕ) → AreDigitsOf size ds → number_of_run negative ds ≡ part.Number negative size
number_all negative size ds h =
    yes (list_all is_digit ds && (nat_le 1 (length ds) && nat_le (length ds) 19)) _ _ (and_from _ _ h.0 (and_from _ _ (le-leb 1 (length ds) h.1) (le-leb (length ds) 19 h.2)))
    ∙ (ap (number_by negative) (small ds h.2 h.0) ∙ ap (part.Number negative) h.3)

number_front : (negative : Bool) (a b : List ℕ) → number_text negative (a ++ b) ≡ number_text negative a ++ b
number_front true a b = refl
number_front false a b = refl

number_cut : (negative : Bool) (whole text : List ℕ) → whole ≡ number_text negative text → IsCut whole (run_at (number_of_run negative) text)
number_cut negative whole text e = λ stands.
    let run : List ℕ = take_while is_word_byte text in
    let rest : List ℕ = behind is_word_byte text in
    let n = number_is negative run stands in
    let S : Part → Type 0 = λ p. Spells p (number_text negative run) in
    let E : Part → Type 0 = λ p. PartEndsAt p rest in (
      number_text negative run,
      e ∙ (ap (number_text negative) (front_and_rest is_word_byte text) ∙ number_front negative run rest),
      subst S (sym n.1) (run, refl, n.2),
      subst E (sym n.1) (ends_number negative n.0 rest (stops_behind is_word_byte text)),
    )

word_cut : (c : ℕ) (cs : List ℕ) → is_digit c ≡ false → is_word_byte c ≡ true → IsCut (c ∷ cs) (run_at part.Word (c ∷ cs))
word_cut c cs d e = λ _. (
  take_while is_word_byte (c ∷ cs),
  front_and_rest is_word_byte (c ∷ cs),
  (refl, subst IsWord (sym (while-yes is_word_byte c cs e)) (d, and_from (is_word_byte c) (list_all is_word_byte (take_while is_word_byte cs)) e (front_passes is_word_byte cs))),
  ends_word (take_while is_word_byte (c ∷ cs)) (behind is_word_byte (c ∷ cs)) (stops_behind is_word_byte (c ∷ cs)),
)

-- the part that stands there is spelled there
pub part_cut : (c : ℕ) (cs : List ℕ) → IsCut (c ∷ cs) (part_at c cs)
part_cut c cs =
    let P : Part × List ℕ → Type 0 = IsCut (c ∷ cs) in
    of_choice P (c == 0x60) _ _ (λ e. quoted_cut c cs _ e (backquote_is cs)) (λ _.
    of_choice P (c == 0x27) _ _ (λ e. bytes_cut c cs _ e (quote_is false cs)) (λ _.
    of_choice P (c == 0x2A) _ _ (λ e. λ _. (c ∷ [], refl, alone c 0x2A e, ends_freely part.Star cs (λ _. refl))) (λ _.
    of_choice P (c == 0x2C) _ _ (λ e. λ _. (c ∷ [], refl, alone c 0x2C e, ends_freely part.Comma cs (λ _. refl))) (λ _.
    of_choice P (c == 0x2D) _ _ (λ e. number_cut true (c ∷ cs) cs (ap (λ x. x ∷ cs) (eqb-true c 0x2D e))) (λ _.
    of_choice P (is_digit c) _ _ (λ _. number_cut false (c ∷ cs) (c ∷ cs) refl) (λ d.
    of_choice P (is_word_byte c) _ _ (λ e. word_cut c cs d e) (λ _. sign_cut c cs)))))))

-- ---- what is spelled stands there

abbrev pub Begins : Part → List ℕ → List ℕ → Type 0
Begins p spelled rest = (c : ℕ) × (cs : List ℕ) × (spelled ++ rest ≡ c ∷ cs) × (is_blank c ≡ false) × (part_at c cs ≡ (p, rest))

begins_as : (p : Part) (a b rest : List ℕ) → a ≡ b → Begins p b rest → Begins p a rest
begins_as p a b rest e h = let P : List ℕ → Type 0 = λ spelled. Begins p spelled rest in subst P (sym e) h

no_blank : (c : ℕ) → is_word_byte c ≡ true → is_blank c ≡ false
no_blank c e =
    or_from (c == 0x20) _ (another is_word_byte c 0x20 e refl) (
    or_from (c == 0x09) _ (another is_word_byte c 0x09 e refl) (
    or_from (c == 0x0D) _ (another is_word_byte c 0x0D e refl) (another is_word_byte c 0x0A e refl)))

at_run : (c : ℕ) (cs : List ℕ) → is_word_byte c ≡ true → part_at c cs ≡ elim (is_digit c) [ true ↦ run_at (number_of_run false) (c ∷ cs) | false ↦ elim (is_word_byte c) [ true ↦ run_at part.Word (c ∷ cs) | false ↦ sign_at c cs ] ]
at_run c cs e =
    no (c == 0x60) _ _ (another is_word_byte c 0x60 e refl)
    ∙ (no (c == 0x27) _ _ (another is_word_byte c 0x27 e refl)
    ∙ (no (c == 0x2A) _ _ (another is_word_byte c 0x2A e refl)
    ∙ (no (c == 0x2C) _ _ (another is_word_byte c 0x2C e refl)
    ∙ no (c == 0x2D) _ _ (another is_word_byte c 0x2D e refl))))

same_cut : (make : List ℕ → Part) (text front rest : List ℕ) → (take_while is_word_byte text ≡ front) × (behind is_word_byte text ≡ rest) → run_at make text ≡ (make front, rest)
same_cut make text front rest h = ap (λ r. (make r, behind is_word_byte text)) h.0 ∙ ap (λ r. (make front, r)) h.1

word_all : (w rest : List ℕ) → IsWord w → PartEndsAt (part.Word w) rest → Begins (part.Word w) w rest
word_all [] rest h ends = absurd h
word_all (c ∷ cs) rest h ends =
    let parts = and_parts (is_word_byte c) (list_all is_word_byte cs) h.1 in (
      c,
      cs ++ rest,
      refl,
      no_blank c parts.0,
      at_run c (cs ++ rest) parts.0 ∙ (no (is_digit c) _ _ h.0 ∙ (yes (is_word_byte c) _ _ parts.0 ∙ same_cut part.Word (c ∷ (cs ++ rest)) (c ∷ cs) rest (one_front is_word_byte (c ∷ cs) rest h.1 (word_stops (c ∷ cs) rest ends)))),
    )

digits_are_word : (ds : List ℕ) → list_all is_digit ds ≡ true → list_all is_word_byte ds ≡ true
digits_are_word [] h = refl
digits_are_word (d ∷ ds) h =
    let parts = and_parts (is_digit d) (list_all is_digit ds) h in
    and_from (is_word_byte d) (list_all is_word_byte ds) (digit-is-word d parts.0) (digits_are_word ds parts.1)

negative_all : (size : ℕ) (ds rest : List ℕ) → AreDigitsOf size ds → PartEndsAt (part.Number true size) rest → Begins (part.Number true size) (0x2D ∷ ds) rest
negative_all size ds rest h ends = (
  0x2D,
  ds ++ rest,
  refl,
  refl,
  same_cut (number_of_run true) (ds ++ rest) ds rest (one_front is_word_byte ds rest (digits_are_word ds h.0) (number_stops true size rest ends)) ∙ ap (λ p. (p, rest)) (number_all true size ds h),
)

positive_all : (size : ℕ) (ds rest : List ℕ) → AreDigitsOf size ds → PartEndsAt (part.Number false size) rest → Begins (part.Number false size) ds rest
positive_all size [] rest h ends = absurd (let some = h.1 in omega arith)
positive_all size (c ∷ cs) rest h ends =
    let parts = and_parts (is_digit c) (list_all is_digit cs) h.0 in
    let e = digit-is-word c parts.0 in (
      c,
      cs ++ rest,
      refl,
      no_blank c e,
      at_run c (cs ++ rest) e ∙ (yes (is_digit c) _ _ parts.0 ∙ (same_cut (number_of_run false) (c ∷ (cs ++ rest)) (c ∷ cs) rest (one_front is_word_byte (c ∷ cs) rest (digits_are_word (c ∷ cs) h.0) (number_stops false size rest ends)) ∙ ap (λ p. (p, rest)) (number_all false size (c ∷ cs) h))),
    )

number_begins : (negative : Bool) (size : ℕ) (ds rest : List ℕ) → AreDigitsOf size ds → PartEndsAt (part.Number negative size) rest → Begins (part.Number negative size) (number_text negative ds) rest
number_begins true size ds rest h ends = negative_all size ds rest h ends
number_begins false size ds rest h ends = positive_all size ds rest h ends

less_at : (rest : List ℕ) → PartEndsAt (part.Sign Less) rest → part_at 0x3C rest ≡ (part.Sign Less, rest)
less_at [] h = refl
less_at (d ∷ ds) h =
    let parts = or_parts (d == 0x3D) (d == 0x3E) h in
    ap (λ o. sign_by o 0x3C d ds) (no (d == 0x3E) _ _ parts.1 ∙ no (d == 0x3D) _ _ parts.0)

greater_at : (rest : List ℕ) → PartEndsAt (part.Sign Greater) rest → part_at 0x3E rest ≡ (part.Sign Greater, rest)
greater_at [] h = refl
greater_at (d ∷ ds) h = ap (λ o. sign_by o 0x3E d ds) (no (d == 0x3D) _ _ h)

equal_at : (rest : List ℕ) → part_at 0x3D rest ≡ (part.Sign Equal, rest)
equal_at [] = refl
equal_at (d ∷ ds) = refl

sign_all : (by : Comparison) (text rest : List ℕ) → IsSign by text → PartEndsAt (part.Sign by) rest → Begins (part.Sign by) text rest
sign_all Equal text rest h ends = begins_as (part.Sign Equal) text _ rest h (0x3D, rest, refl, refl, equal_at rest)
sign_all NotEqual text rest (inl h) ends = begins_as (part.Sign NotEqual) text _ rest h (0x21, 0x3D ∷ rest, refl, refl, refl)
sign_all NotEqual text rest (inr h) ends = begins_as (part.Sign NotEqual) text _ rest h (0x3C, 0x3E ∷ rest, refl, refl, refl)
sign_all Less text rest h ends = begins_as (part.Sign Less) text _ rest h (0x3C, rest, refl, refl, less_at rest ends)
sign_all AtMost text rest h ends = begins_as (part.Sign AtMost) text _ rest h (0x3C, 0x3D ∷ rest, refl, refl, refl)
sign_all Greater text rest h ends = begins_as (part.Sign Greater) text _ rest h (0x3E, rest, refl, refl, greater_at rest ends)
sign_all AtLeast text rest h ends = begins_as (part.Sign AtLeast) text _ rest h (0x3E, 0x3D ∷ rest, refl, refl, refl)

-- a part that is spelled at a place is the one that stands there
pub part_all : (p : Part) (spelled rest : List ℕ) → Spells p spelled → PartEndsAt p rest → Begins p spelled rest
part_all (part.Word w) spelled rest h ends = begins_as (part.Word w) spelled w rest h.0 (word_all w rest h.1 ends)
part_all (part.Quoted w) spelled rest h ends = begins_as (part.Quoted w) spelled _ rest h.0 (0x60, (w ++ 0x60 ∷ []) ++ rest, refl, refl, ap (λ t. closed part.Quoted (up_to_backquote t)) (append_assoc w (0x60 ∷ []) rest) ∙ ap (closed part.Quoted) (backquote_all w rest h.1))
part_all (part.Number negative size) spelled rest h ends = begins_as (part.Number negative size) spelled _ rest h.1 (number_begins negative size h.0 rest h.2 ends)
part_all (part.Bytes b) spelled rest h ends = begins_as (part.Bytes b) spelled _ rest h (0x27, in_quotes b ++ rest, refl, refl, ap (closed part.Bytes) (quote_all b rest ends))
part_all (part.Sign by) spelled rest h ends = sign_all by spelled rest h ends
part_all part.Star spelled rest h ends = begins_as part.Star spelled _ rest h (0x2A, rest, refl, refl, refl)
part_all part.Comma spelled rest h ends = begins_as part.Comma spelled _ rest h (0x2C, rest, refl, refl, refl)
part_all part.Wrong spelled rest h ends = absurd h
part_all part.Unclosed spelled rest h ends = absurd h
