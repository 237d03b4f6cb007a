-- The part that stands at a place, and how parts are spelled: each says the other.
use Rattle.std.proofs.Common.{◌≡◌, ◌++◌, ◌+◌, ℕ, Bool, true, false, List, [], ◌∷◌, Option, Some, None, cond, drop, refl, ap, sym, ◌∙◌, inl, inr, append_assoc}
use Rattle.std.specs.Prelude.{not, ◌&&◌, ◌==◌}
use Rattle.std.specs.List.{list_all, prefix_len, take_while}
use Rattle.std.proofs.lemmas.Bool.{and_parts, and_from, eqb-true, not-true, or_from}
use Rattle.std.proofs.lemmas.List.{take-append-drop}
use Rattle.std.proofs.lemmas.List.Sums.{take_while-cons}
use Rattle.vs_select.specs.Parts.{behind, closed, is_word_byte, short_sign, sign_at, sign_by, sign_part, up_to_backquote, up_to_quote, with_byte}
use Rattle.vs_select.specs.Productions.{PartEndsAt, Spells, goes_on_with, in_quotes, quoted_byte}
use Rattle.vs_select.specs.declared.part.Part.{Part}
use Rattle.vs_select.specs.declared.part.Part.TheVariants as part
use Rattle.vs_select.specs.declared.select.Comparison.{Comparison}
use Rattle.vs_select.specs.declared.select.Comparison.TheVariants.{NotEqual, AtMost, AtLeast}
use Rattle.vs_select.proofs.ReadLemmas.{behind-first, of_choice}

-- ---- choices

pub yes : {A : Type 0} (b : Bool) (x y : A) → b ≡ true → elim b [ true ↦ x | false ↦ y ] ≡ x
yes true x y h = refl
yes false x y h = absurd (cc)

pub no : {A : Type 0} (b : Bool) (x y : A) → b ≡ false → elim b [ true ↦ x | false ↦ y ] ≡ y
no false x y h = refl
no true x y h = absurd (cc)

-- ---- the longest front that passes

pub behind-none : (p : ℕ → Bool) (c : ℕ) (cs : List ℕ) → p c ≡ false → behind p (c ∷ cs) ≡ c ∷ cs
behind-none p c cs h = ap (λ b. drop (cond b (1 + prefix_len p cs) 0) (c ∷ cs)) h

pub while-yes : (p : ℕ → Bool) (c : ℕ) (cs : List ℕ) → p c ≡ true → take_while p (c ∷ cs) ≡ c ∷ take_while p cs
while-yes p c cs h = take_while-cons p c cs ∙ ap (λ b. cond b (c ∷ take_while p cs) []) h

while-no : (p : ℕ → Bool) (c : ℕ) (cs : List ℕ) → p c ≡ false → take_while p (c ∷ cs) ≡ []
while-no p c cs h = take_while-cons p c cs ∙ ap (λ b. cond b (c ∷ take_while p cs) []) h

pub front_and_rest : (p : ℕ → Bool) (text : List ℕ) → text ≡ take_while p text ++ behind p text
front_and_rest p text = sym (take-append-drop (prefix_len p text) text)

pub front_passes : (p : ℕ → Bool) (text : List ℕ) → list_all p (take_while p text) ≡ true
front_passes p [] = refl
front_passes p (c ∷ cs) = go (p c) refl (front_passes p cs)
  where
    go : (b : Bool) → p c ≡ b → list_all p (take_while p cs) ≡ true → list_all p (take_while p (c ∷ cs)) ≡ true
    go true e rest = ap (list_all p) (while-yes p c cs e) ∙ and_from (p c) (list_all p (take_while p cs)) e rest
    go false e rest = ap (list_all p) (while-no p c cs e)

pub rest_stops : (p : ℕ → Bool) (text : List ℕ) (c : ℕ) (cs : List ℕ) → behind p text ≡ c ∷ cs → p c ≡ false
rest_stops p [] c cs h = absurd (cc)
rest_stops p (x ∷ xs) c cs h = go (p x) refl (rest_stops p xs c cs)
  where
    go : (b : Bool) → p x ≡ b → (behind p xs ≡ c ∷ cs → p c ≡ false) → p c ≡ false
    go true e later = later (sym (behind-first p x xs e) ∙ h)
    go false e later = let same : x ∷ xs ≡ c ∷ cs = sym (behind-none p x xs e) ∙ h in let first : x ≡ c = cc in ap p (sym first) ∙ e

abbrev pub StopsAt : (ℕ → Bool) → List ℕ → Type 0
StopsAt p [] = Unit {0}
StopsAt p (c ∷ cs) = p c ≡ false

pub stops_behind : (p : ℕ → Bool) (text : List ℕ) → StopsAt p (behind p text)
stops_behind p text = go (behind p text) refl
  where
    go : (rest : List ℕ) → behind p text ≡ rest → StopsAt p rest
    go [] e = tt
    go (c ∷ cs) e = rest_stops p text c cs e

-- the front that passes is the longest
pub one_front : (p : ℕ → Bool) (front rest : List ℕ) → list_all p front ≡ true → StopsAt p rest → (take_while p (front ++ rest) ≡ front) × (behind p (front ++ rest) ≡ rest)
one_front p [] [] all stops = (refl, refl)
one_front p [] (c ∷ cs) all stops = (while-no p c cs stops, behind-none p c cs stops)
one_front p (x ∷ xs) rest all stops =
    let parts = and_parts (p x) (list_all p xs) all in
    let later = one_front p xs rest parts.1 stops in
    (while-yes p x (xs ++ rest) parts.0 ∙ ap (λ r. x ∷ r) later.0, behind-first p x (xs ++ rest) parts.0 ∙ later.1)

-- ---- what may follow

pub ends_word : (w rest : List ℕ) → StopsAt is_word_byte rest → PartEndsAt (part.Word w) rest
ends_word w [] h = tt
ends_word w (c ∷ cs) h = h

pub word_stops : (w rest : List ℕ) → PartEndsAt (part.Word w) rest → StopsAt is_word_byte rest
word_stops w [] h = tt
word_stops w (c ∷ cs) h = h

pub ends_number : (negative : Bool) (size : ℕ) (rest : List ℕ) → StopsAt is_word_byte rest → PartEndsAt (part.Number negative size) rest
ends_number negative size [] h = tt
ends_number negative size (c ∷ cs) h = h

pub number_stops : (negative : Bool) (size : ℕ) (rest : List ℕ) → PartEndsAt (part.Number negative size) rest → StopsAt is_word_byte rest
number_stops negative size [] h = tt
number_stops negative size (c ∷ cs) h = h

ends_bytes : (a b rest : List ℕ) → PartEndsAt (part.Bytes a) rest → PartEndsAt (part.Bytes b) rest
ends_bytes a b [] h = tt
ends_bytes a b (c ∷ cs) h = h

pub ends_freely : (p : Part) (rest : List ℕ) → ((c : ℕ) → goes_on_with p c ≡ false) → PartEndsAt p rest
ends_freely p [] h = tt
ends_freely p (c ∷ cs) h = h c

-- ---- a byte that passes a test isn't one that doesn't

pub another : (p : ℕ → Bool) (c k : ℕ) → p c ≡ true → p k ≡ false → (c == k) ≡ false
another p c k yes_c no_k = go (c == k) refl
  where
    go : (b : Bool) → (c == k) ≡ b → b ≡ false
    go false e = refl
    go true e = absurd (let same : c ≡ k = eqb-true c k e in let both : p c ≡ p k = ap p same in cc)

abbrev pub Stands : Part → Type 0
Stands part.Wrong = ⊥
Stands part.Unclosed = ⊥
Stands p = Unit {0}

-- the part that was cut from a text is spelled there, and ends there
abbrev pub IsCut : List ℕ → Part × List ℕ → Type 0
IsCut text cut = Stands cut.0 → (spelled : List ℕ) × (text ≡ spelled ++ cut.1) × Spells cut.0 spelled × PartEndsAt cut.0 cut.1

-- ---- names between backquotes

abbrev pub BackquoteIs : List ℕ → Option (List ℕ × List ℕ) → Type 0
BackquoteIs text None = Unit {0}
BackquoteIs text (Some p) = (text ≡ p.0 ++ 0x60 ∷ p.1) × (list_all (λ c. not (c == 0x60)) p.0 ≡ true)

backquote_more : (c : ℕ) (cs : List ℕ) (o : Option (List ℕ × List ℕ)) → (c == 0x60) ≡ false → BackquoteIs cs o → BackquoteIs (c ∷ cs) (with_byte c o)
backquote_more c cs None e h = tt
backquote_more c cs (Some p) e h = (ap (λ r. c ∷ r) h.0, and_from (not (c == 0x60)) (list_all (λ c. not (c == 0x60)) p.0) (ap not e) h.1)

pub backquote_is : (text : List ℕ) → BackquoteIs text (up_to_backquote text)
backquote_is [] = tt
backquote_is (c ∷ cs) = of_choice (BackquoteIs (c ∷ cs)) (c == 0x60) _ _ (λ e. (ap (λ x. x ∷ cs) (eqb-true c 0x60 e), refl)) (λ e. backquote_more c cs _ e (backquote_is cs))

pub backquote_all : (w rest : List ℕ) → list_all (λ c. not (c == 0x60)) w ≡ true → up_to_backquote (w ++ 0x60 ∷ rest) ≡ Some (w, rest)
backquote_all [] rest h = refl
backquote_all (c ∷ cs) rest h =
    let parts = and_parts (not (c == 0x60)) (list_all (λ c. not (c == 0x60)) cs) h in
    no (c == 0x60) _ _ (not-true (c == 0x60) parts.0) ∙ ap (with_byte c) (backquote_all cs rest parts.1)

pub quoted_cut : (c : ℕ) (cs : List ℕ) (o : Option (List ℕ × List ℕ)) → (c == 0x60) ≡ true → BackquoteIs cs o → IsCut (c ∷ cs) (closed part.Quoted o)
quoted_cut c cs None e h = λ stands. absurd stands
quoted_cut c cs (Some p) e h = λ stands. (
  0x60 ∷ (p.0 ++ 0x60 ∷ []),
  ap (λ x. x ∷ cs) (eqb-true c 0x60 e) ∙ (ap (λ r. 0x60 ∷ r) (h.0 ∙ sym (append_assoc p.0 (0x60 ∷ []) p.1))),
  (refl, h.1),
  ends_freely (part.Quoted p.0) p.1 (λ _. refl),
)

-- ---- bytes between quotes

abbrev pub QuoteIs : Bool → List ℕ → Option (List ℕ × List ℕ) → Type 0
QuoteIs flag text None = Unit {0}
QuoteIs true text (Some p) = (0x27 ∷ text ≡ in_quotes p.0 ++ p.1) × PartEndsAt (part.Bytes p.0) p.1
QuoteIs false text (Some p) = (text ≡ in_quotes p.0 ++ p.1) × PartEndsAt (part.Bytes p.0) p.1

two_quotes : (c : ℕ) (cs : List ℕ) (o : Option (List ℕ × List ℕ)) → (c == 0x27) ≡ true → QuoteIs false cs o → QuoteIs true (c ∷ cs) (with_byte 0x27 o)
two_quotes c cs None e h = tt
two_quotes c cs (Some p) e h = (ap (λ x. 0x27 ∷ x ∷ cs) (eqb-true c 0x27 e) ∙ ap (λ r. 0x27 ∷ 0x27 ∷ r) h.0, ends_bytes p.0 (0x27 ∷ p.0) p.1 h.1)

first_quote : (c : ℕ) (cs : List ℕ) (o : Option (List ℕ × List ℕ)) → (c == 0x27) ≡ true → QuoteIs true cs o → QuoteIs false (c ∷ cs) o
first_quote c cs None e h = tt
first_quote c cs (Some p) e h = (ap (λ x. x ∷ cs) (eqb-true c 0x27 e) ∙ h.0, h.1)

no_quote : (c : ℕ) (cs : List ℕ) (o : Option (List ℕ × List ℕ)) → (c == 0x27) ≡ false → QuoteIs false cs o → QuoteIs false (c ∷ cs) (with_byte c o)
no_quote c cs None e h = tt
no_quote c cs (Some p) e h = (ap (λ r. c ∷ r) h.0 ∙ ap (λ b. quoted_byte b c (in_quotes p.0) ++ p.1) (sym e), ends_bytes p.0 (c ∷ p.0) p.1 h.1)

pub quote_is : (flag : Bool) (text : List ℕ) → QuoteIs flag text (up_to_quote flag text)
quote_is true [] = (refl, tt)
quote_is false [] = tt
quote_is true (c ∷ cs) = of_choice (QuoteIs true (c ∷ cs)) (c == 0x27) _ _ (λ e. two_quotes c cs _ e (quote_is false cs)) (λ e. (refl, e))
quote_is false (c ∷ cs) = of_choice (QuoteIs false (c ∷ cs)) (c == 0x27) _ _ (λ e. first_quote c cs _ e (quote_is true cs)) (λ e. no_quote c cs _ e (quote_is false cs))

closing_quote : (rest : List ℕ) → PartEndsAt (part.Bytes []) rest → up_to_quote true rest ≡ Some ([], rest)
closing_quote [] h = refl
closing_quote (c ∷ cs) h = no (c == 0x27) _ _ h

pub quote_all : (b rest : List ℕ) → PartEndsAt (part.Bytes b) rest → up_to_quote false (in_quotes b ++ rest) ≡ Some (b, rest)
quote_all [] rest h = closing_quote rest h
quote_all (c ∷ cs) rest h = go (c == 0x27) refl (quote_all cs rest (ends_bytes (c ∷ cs) cs rest h))
  where
    go : (v : Bool) → (c == 0x27) ≡ v → up_to_quote false (in_quotes cs ++ rest) ≡ Some (cs, rest) → up_to_quote false (quoted_byte v c (in_quotes cs) ++ rest) ≡ Some (c ∷ cs, rest)
    go true e later = ap (with_byte 0x27) later ∙ ap (λ x. Some (x ∷ cs, rest)) (sym (eqb-true c 0x27 e))
    go false e later = no (c == 0x27) _ _ e ∙ ap (with_byte c) later

pub bytes_cut : (c : ℕ) (cs : List ℕ) (o : Option (List ℕ × List ℕ)) → (c == 0x27) ≡ true → QuoteIs false cs o → IsCut (c ∷ cs) (closed part.Bytes o)
bytes_cut c cs None e h = λ stands. absurd stands
bytes_cut c cs (Some p) e h = λ stands. (0x27 ∷ in_quotes p.0, ap (λ x. x ∷ cs) (eqb-true c 0x27 e) ∙ ap (λ r. 0x27 ∷ r) h.0, refl, h.1)

-- ---- operators

pub alone : (c k : ℕ) → (c == k) ≡ true → c ∷ [] ≡ k ∷ []
alone c k e = ap (λ x. x ∷ []) (eqb-true c k e)

pair : (c d k l : ℕ) → (c == k && d == l) ≡ true → c ∷ d ∷ [] ≡ k ∷ l ∷ []
pair c d k l e =
    let parts = and_parts (c == k) (d == l) e in
    ap (λ x. x ∷ d ∷ []) (eqb-true c k parts.0) ∙ ap (λ y. k ∷ y ∷ []) (eqb-true d l parts.1)

other_second : (a b : Bool) → (a && b) ≡ false → a ≡ true → b ≡ false
other_second true b h k = h
other_second false b h k = absurd (cc)

last_sign_cut : (c : ℕ) → IsCut (c ∷ []) (sign_part (short_sign c), [])
last_sign_cut c =
    let P : Option Comparison → Type 0 = λ o. IsCut (c ∷ []) (sign_part o, []) in
    of_choice P (c == 0x3D) _ _ (λ e. λ _. (c ∷ [], refl, alone c 0x3D e, tt)) (λ _.
    of_choice P (c == 0x3C) _ _ (λ e. λ _. (c ∷ [], refl, alone c 0x3C e, tt)) (λ _.
    of_choice P (c == 0x3E) _ _ (λ e. λ _. (c ∷ [], refl, alone c 0x3E e, tt)) (λ _. λ stands. absurd stands)))

pub sign_cut : (c : ℕ) (cs : List ℕ) → IsCut (c ∷ cs) (sign_at c cs)
sign_cut c [] = last_sign_cut c
sign_cut c (d ∷ cs) =
    let P : Option Comparison → Type 0 = λ o. IsCut (c ∷ d ∷ cs) (sign_by o c d cs) in
    let Q : Option Comparison → Type 0 = λ o. IsCut (c ∷ d ∷ cs) (sign_part o, d ∷ cs) in
    of_choice P (c == 0x21 && d == 0x3D) _ _ (λ e. λ _. (c ∷ d ∷ [], refl, inl (pair c d 0x21 0x3D e), ends_freely (part.Sign NotEqual) cs (λ _. refl))) (λ _.
    of_choice P (c == 0x3C && d == 0x3E) _ _ (λ e. λ _. (c ∷ d ∷ [], refl, inr (pair c d 0x3C 0x3E e), ends_freely (part.Sign NotEqual) cs (λ _. refl))) (λ not_unequal.
    of_choice P (c == 0x3C && d == 0x3D) _ _ (λ e. λ _. (c ∷ d ∷ [], refl, pair c d 0x3C 0x3D e, ends_freely (part.Sign AtMost) cs (λ _. refl))) (λ not_at_most.
    of_choice P (c == 0x3E && d == 0x3D) _ _ (λ e. λ _. (c ∷ d ∷ [], refl, pair c d 0x3E 0x3D e, ends_freely (part.Sign AtLeast) cs (λ _. refl))) (λ not_at_least.
    of_choice Q (c == 0x3D) _ _ (λ e. λ _. (c ∷ [], refl, alone c 0x3D e, refl)) (λ _.
    of_choice Q (c == 0x3C) _ _ (λ e. λ _. (c ∷ [], refl, alone c 0x3C e, or_from (d == 0x3D) (d == 0x3E) (other_second (c == 0x3C) (d == 0x3D) not_at_most e) (other_second (c == 0x3C) (d == 0x3E) not_unequal e))) (λ _.
    of_choice Q (c == 0x3E) _ _ (λ e. λ _. (c ∷ [], refl, alone c 0x3E e, other_second (c == 0x3E) (d == 0x3D) not_at_least e)) (λ _. λ stands. absurd stands)))))))
