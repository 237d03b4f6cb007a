-- What stands behind a backslash is read as the escape that the productions say.
use Rattle.std.proofs.Common.{◌≡◌, ◌∙◌, ◌++◌, ◌≤◌, ◌+◌, ◌*◌, ◌-◌, ℕ, Bool, true, false, List, [], ◌∷◌, Option, Some, None, length, refl, ap, sym, subst, inl, inr, arith, append-nil}
use Rattle.std.specs.Prelude.{◌==◌, nat_le}
use Rattle.std.proofs.lemmas.Bool.{and_parts, and_from, le-leb, leb-true, eqb-true, and_left, and_right}
use Rattle.vs_journal.specs.Escapes.{escape_at, escape_by, hex_byte, hex_escape, hex_second, hex_value, is_octal, octal_byte, octal_escape, octal_pair, simple_escape}
use Rattle.vs_journal.specs.Spellings.{BeginsEscape, EndsOctal, HasNoEscape, IsEscape, IsOctal}
use Rattle.vs_journal.specs.declared.escape.Escape.{Escape}
use Rattle.vs_journal.specs.declared.escape.Escape.TheVariants.{Stands, Unknown, Cut}
use Rattle.vs_journal.proofs.GapLaws.{differs}

-- ---- bytes that are told apart

simple_octal : (c : ℕ) → is_octal c ≡ true → simple_escape c ≡ None
simple_octal c h =
    rw (differs is_octal c 0x22 h refl, differs is_octal c 0x27 h refl, differs is_octal c 0x5C h refl, differs is_octal c 0x6E h refl, differs is_octal c 0x72 h refl, differs is_octal c 0x74 h refl, simple_escape) refl

octal_small : (c : ℕ) → is_octal c ≡ true → c - 0x30 ≤ 7
octal_small c h =
    let parts = and_parts (nat_le 0x30 c) (nat_le c 0x37) h in
    let most : c ≤ 0x37 = leb-true c 0x37 parts.1 in
    omega arith

-- ---- what the productions say is read so

octal_step : (c : ℕ) (cs : List ℕ) → is_octal c ≡ true → escape_at (c ∷ cs) ≡ octal_escape c cs
octal_step c cs h =
    ap (λ o. escape_by o c cs) (simple_octal c h) ∙ rw (differs is_octal c 0x78 h refl, h, escape_by) refl

byte_stands : (value width : ℕ) → value ≤ 255 → octal_byte value width ≡ Stands value width
byte_stands value width h = rw (le-leb value 255 h, octal_byte) refl

no_second : (a b : ℕ) (cs : List ℕ) → is_octal b ≡ false → octal_escape a (b ∷ cs) ≡ octal_byte (a - 0x30) 1
no_second a b [] e = rw (e, octal_pair) refl
no_second a b (c ∷ cs) e =
    ap (λ q. elim q as (λ _. Escape) [ true ↦ octal_byte (64 * (a - 0x30) + (8 * (b - 0x30) + (c - 0x30))) 3 | false ↦ octal_pair a b ]) (and_left (is_octal b) (is_octal c) e)
    ∙ rw (e, octal_pair) refl

no_third : (a b : ℕ) (rest : List ℕ) → is_octal b ≡ true → EndsOctal rest → octal_escape a (b ∷ rest) ≡ octal_byte (8 * (a - 0x30) + (b - 0x30)) 2
no_third a b [] e ends = rw (e, octal_pair) refl
no_third a b (c ∷ cs) e ends =
    ap (λ q. elim q as (λ _. Escape) [ true ↦ octal_byte (64 * (a - 0x30) + (8 * (b - 0x30) + (c - 0x30))) 3 | false ↦ octal_pair a b ]) (and_right (is_octal b) (is_octal c) ends)
    ∙ rw (e, octal_pair) refl

one_digit : (a : ℕ) (rest : List ℕ) → EndsOctal rest → octal_escape a rest ≡ octal_byte (a - 0x30) 1
one_digit a [] ends = refl
one_digit a (c ∷ cs) ends = no_second a c cs ends

all_three : (a b c : ℕ) (rest : List ℕ) → is_octal b ≡ true → is_octal c ≡ true → octal_escape a (b ∷ c ∷ rest) ≡ octal_byte (64 * (a - 0x30) + (8 * (b - 0x30) + (c - 0x30))) 3
all_three a b c rest e f =
    ap (λ q. elim q as (λ _. Escape) [ true ↦ octal_byte (64 * (a - 0x30) + (8 * (b - 0x30) + (c - 0x30))) 3 | false ↦ octal_pair a b ]) (and_from (is_octal b) (is_octal c) e f)

octal_taken : (text : List ℕ) (value : ℕ) (rest : List ℕ) → IsOctal text value rest → escape_at (text ++ rest) ≡ Stands value (length text)
octal_taken text value rest (inl h) =
    let small : h.0 - 0x30 ≤ 7 = octal_small h.0 h.2 in
    ap (λ t. escape_at (t ++ rest)) h.1
    ∙ (octal_step h.0 rest h.2 ∙ (one_digit h.0 rest h.3 ∙ (byte_stands (h.0 - 0x30) 1 (omega arith)
    ∙ (ap (λ v. Stands v 1) (sym h.4) ∙ ap (λ (t : List ℕ). Stands value (length t)) (sym h.1)))))
octal_taken text value rest (inr (inl h)) =
    let first : h.0 - 0x30 ≤ 7 = octal_small h.0 h.3 in
    let second : h.1 - 0x30 ≤ 7 = octal_small h.1 h.4 in
    ap (λ t. escape_at (t ++ rest)) h.2
    ∙ (octal_step h.0 (h.1 ∷ rest) h.3 ∙ (no_third h.0 h.1 rest h.4 h.5 ∙ (byte_stands (8 * (h.0 - 0x30) + (h.1 - 0x30)) 2 (omega arith)
    ∙ (ap (λ v. Stands v 2) (sym h.6) ∙ ap (λ (t : List ℕ). Stands value (length t)) (sym h.2)))))
octal_taken text value rest (inr (inr h)) =
    ap (λ t. escape_at (t ++ rest)) h.3
    ∙ (octal_step h.0 (h.1 ∷ h.2 ∷ rest) h.4 ∙ (all_three h.0 h.1 h.2 rest h.5 h.6 ∙ (ap (λ v. octal_byte v 3) (sym h.7) ∙ (byte_stands value 3 h.8
    ∙ ap (λ (t : List ℕ). Stands value (length t)) (sym h.3)))))

hex_taken : (a b x y : ℕ) (rest : List ℕ) → hex_value a ≡ Some x → hex_value b ≡ Some y → escape_at (0x78 ∷ a ∷ b ∷ rest) ≡ Stands (16 * x + y) 3
hex_taken a b x y rest e f = ap (λ o. hex_second o (b ∷ rest)) e ∙ ap (λ o. hex_byte x o) f

pub escape_taken : (text : List ℕ) (value : ℕ) (rest : List ℕ) → IsEscape text value rest → escape_at (text ++ rest) ≡ Stands value (length text)
escape_taken text value rest (inl h) =
    ap (λ t. escape_at (t ++ rest)) h.1 ∙ (ap (λ o. escape_by o h.0 rest) h.2 ∙ ap (λ (t : List ℕ). Stands value (length t)) (sym h.1))
escape_taken text value rest (inr (inl h)) =
    ap (λ t. escape_at (t ++ rest)) h.4
    ∙ (hex_taken h.0 h.1 h.2 h.3 rest h.5 h.6 ∙ (ap (λ v. Stands v 3) (sym h.7) ∙ ap (λ (t : List ℕ). Stands value (length t)) (sym h.4)))
escape_taken text value rest (inr (inr h)) = octal_taken text value rest h

-- ---- and what is read so, the productions say

abbrev pub EscapeFound : List ℕ → Escape → Type 0
EscapeFound text (Stands value width) = (part rest : List ℕ) × (text ≡ part ++ rest) × (width ≡ length part) × (1 ≤ width) × IsEscape part value rest
EscapeFound text Unknown = (more : List ℕ) → escape_at (text ++ more) ≡ Unknown
EscapeFound text Cut = BeginsEscape text

-- an option is none, or some
of_option : {A B : Type 0} (P : B → Type 0) (f : Option A → B) (o : Option A) → (o ≡ None → P (f None)) → ((x : A) → o ≡ Some x → P (f (Some x))) → P (f o)
of_option P f None none some = none refl
of_option P f (Some x) none some = some x refl

hex_found : (cs : List ℕ) → EscapeFound (0x78 ∷ cs) (hex_escape cs)
hex_found [] = (0x30 ∷ 0x30 ∷ [], 0, inr (inl (0x30, 0x30, 0, 0, refl, refl, refl, refl)))
hex_found (a ∷ []) =
    of_option (EscapeFound (0x78 ∷ a ∷ [])) (λ o. hex_second o []) (hex_value a)
    (λ e more. ap (λ o. hex_second o more) e)
    (λ x e. (0x30 ∷ [], 16 * x + 0, inr (inl (a, 0x30, x, 0, refl, e, refl, refl))))
hex_found (a ∷ b ∷ rest) =
    of_option (EscapeFound (0x78 ∷ a ∷ b ∷ rest)) (λ o. hex_second o (b ∷ rest)) (hex_value a)
    (λ e more. ap (λ o. hex_second o (b ∷ (rest ++ more))) e)
    (λ x e. of_option (EscapeFound (0x78 ∷ a ∷ b ∷ rest)) (λ o. hex_byte x o) (hex_value b)
    (λ f more. ap (λ o. hex_second o (b ∷ (rest ++ more))) e ∙ ap (λ o. hex_byte x o) f)
    (λ y f. (0x78 ∷ a ∷ b ∷ [], rest, refl, refl, omega arith, inr (inl (a, b, x, y, refl, e, f, refl)))))

one_found : (a : ℕ) (rest : List ℕ) → is_octal a ≡ true → EndsOctal rest → EscapeFound (a ∷ rest) (octal_escape a rest)
one_found a rest h ends =
    let small : a - 0x30 ≤ 7 = octal_small a h in
    let is : octal_escape a rest ≡ Stands (a - 0x30) 1 = one_digit a rest ends ∙ byte_stands (a - 0x30) 1 (omega arith) in
    subst (EscapeFound (a ∷ rest)) (sym is) (a ∷ [], rest, refl, refl, omega arith, inr (inr (inl (a, refl, h, ends, refl))))

two_found : (a b : ℕ) (rest : List ℕ) → is_octal a ≡ true → is_octal b ≡ true → EndsOctal rest → EscapeFound (a ∷ b ∷ rest) (octal_escape a (b ∷ rest))
two_found a b rest h k ends =
    let first : a - 0x30 ≤ 7 = octal_small a h in
    let second : b - 0x30 ≤ 7 = octal_small b k in
    let is : octal_escape a (b ∷ rest) ≡ Stands (8 * (a - 0x30) + (b - 0x30)) 2 = no_third a b rest k ends ∙ byte_stands (8 * (a - 0x30) + (b - 0x30)) 2 (omega arith) in
    subst (EscapeFound (a ∷ b ∷ rest)) (sym is) (a ∷ b ∷ [], rest, refl, refl, omega arith, inr (inr (inr (inl (a, b, refl, h, k, ends, refl)))))

three_found : (a b c : ℕ) (rest : List ℕ) (small : Bool) → is_octal a ≡ true → is_octal b ≡ true → is_octal c ≡ true → nat_le (64 * (a - 0x30) + (8 * (b - 0x30) + (c - 0x30))) 255 ≡ small → EscapeFound (a ∷ b ∷ c ∷ rest) (octal_escape a (b ∷ c ∷ rest))
three_found a b c rest true h k l e =
    let value = 64 * (a - 0x30) + (8 * (b - 0x30) + (c - 0x30)) in
    let byte : value ≤ 255 = leb-true value 255 e in
    let is : octal_escape a (b ∷ c ∷ rest) ≡ Stands value 3 = all_three a b c rest k l ∙ byte_stands value 3 byte in
    subst (EscapeFound (a ∷ b ∷ c ∷ rest)) (sym is) (a ∷ b ∷ c ∷ [], rest, refl, refl, omega arith, inr (inr (inr (inr (a, b, c, refl, h, k, l, refl, byte)))))
three_found a b c rest false h k l e =
    let value = 64 * (a - 0x30) + (8 * (b - 0x30) + (c - 0x30)) in
    let no_byte : octal_byte value 3 ≡ Unknown = rw (e, octal_byte) refl in
    let is : octal_escape a (b ∷ c ∷ rest) ≡ Unknown = all_three a b c rest k l ∙ no_byte in
    subst (EscapeFound (a ∷ b ∷ c ∷ rest)) (sym is) (λ more. octal_step a (b ∷ c ∷ (rest ++ more)) h ∙ (all_three a b c (rest ++ more) k l ∙ no_byte))

octal_found : (a : ℕ) (cs : List ℕ) → is_octal a ≡ true → EscapeFound (a ∷ cs) (octal_escape a cs)
octal_found a [] h = one_found a [] h tt
octal_found a (b ∷ cs) h = second (is_octal b) refl
  where
    third : (rest : List ℕ) → is_octal b ≡ true → EscapeFound (a ∷ b ∷ rest) (octal_escape a (b ∷ rest))
    third [] k = two_found a b [] h k tt
    third (c ∷ rest) k = go (is_octal c) refl
      where
        go : (d : Bool) → is_octal c ≡ d → EscapeFound (a ∷ b ∷ c ∷ rest) (octal_escape a (b ∷ c ∷ rest))
        go true l = three_found a b c rest (nat_le (64 * (a - 0x30) + (8 * (b - 0x30) + (c - 0x30))) 255) h k l refl
        go false l = two_found a b (c ∷ rest) h k l

    second : (d : Bool) → is_octal b ≡ d → EscapeFound (a ∷ b ∷ cs) (octal_escape a (b ∷ cs))
    second true k = third cs k
    second false k = one_found a (b ∷ cs) h k

no_simple_found : (c : ℕ) (cs : List ℕ) (x octal : Bool) → simple_escape c ≡ None → (c == 0x78) ≡ x → is_octal c ≡ octal → EscapeFound (c ∷ cs) (escape_at (c ∷ cs))
no_simple_found c cs true octal none e k =
    let same : c ≡ 0x78 = eqb-true c 0x78 e in
    subst (λ d. EscapeFound (d ∷ cs) (escape_at (d ∷ cs))) (sym same) (hex_found cs)
no_simple_found c cs false true none e k = subst (EscapeFound (c ∷ cs)) (sym (octal_step c cs k)) (octal_found c cs k)
no_simple_found c cs false false none e k =
    let unknown : (ds : List ℕ) → escape_at (c ∷ ds) ≡ Unknown = λ ds. ap (λ o. escape_by o c ds) none ∙ unknown_by c ds e k in
    subst (EscapeFound (c ∷ cs)) (sym (unknown cs)) (λ more. unknown (cs ++ more))
  where
    unknown_by : (c : ℕ) (ds : List ℕ) → (c == 0x78) ≡ false → is_octal c ≡ false → escape_by None c ds ≡ Unknown
    unknown_by c ds e k = rw (e, k, escape_by) refl

escape_first : (c : ℕ) (cs : List ℕ) (o : Option ℕ) → simple_escape c ≡ o → EscapeFound (c ∷ cs) (escape_at (c ∷ cs))
escape_first c cs None e = no_simple_found c cs (c == 0x78) (is_octal c) e refl refl
escape_first c cs (Some value) e =
    let is : escape_at (c ∷ cs) ≡ Stands value 1 = ap (λ o. escape_by o c cs) e in
    subst (EscapeFound (c ∷ cs)) (sym is) (c ∷ [], cs, refl, refl, omega arith, inl (c, refl, e))

pub escape_found : (text : List ℕ) → EscapeFound text (escape_at text)
escape_found [] = (0x6E ∷ [], 0x0A, inl (0x6E, refl, refl))
escape_found (c ∷ cs) = escape_first c cs (simple_escape c) refl

-- where none is read, none stands
pub no_escape : (text : List ℕ) (e : Escape) → escape_at text ≡ e → ((value width : ℕ) → e ≡ Stands value width → ⊥) → HasNoEscape text
no_escape text e is other part rest value are h =
    other value (length part) (sym is ∙ (ap escape_at are ∙ escape_taken part value rest h))

-- what is no escape, whatever follows, begins none
pub begins_none : (text : List ℕ) → ((more : List ℕ) → escape_at (text ++ more) ≡ Unknown) → BeginsEscape text → ⊥
begins_none text unknown b =
    let stands = ap escape_at (append-nil (text ++ b.0)) ∙ unknown b.0 in
    let taken = escape_taken (text ++ b.0) b.1 [] b.2 in
    let clash : Stands b.1 (length (text ++ b.0)) ≡ Unknown = sym taken ∙ stands in
    absurd (cc)
