-- Which bytes the text of a UUID has at its 36 places.
use Rattle.std.proofs.Common.{◌≡◌, ℕ, zero, suc, ◌<◌, Bool, true, false, ◌&&◌, ◌==◌, List, [], ◌∷◌, length, get_or, slice_index, Option, Some, None, unwrap_or, eqb-true, refl, ap, sym, subst, ◌∙◌, inl, inr, arith}
use Rattle.std.proofs.lemmas.Bool.{and_parts, cases_Bool}
use Rattle.std.proofs.lemmas.Bool.Decides.{nat_tests}
use Rattle.std.specs.Bool.{if◌then◌else◌}
use Rattle.std.specs.List.{list_all}
use Rattle.uuid.specs.Text.{by_index, byte_of_digits, digit_place, digits_of, has_hyphens, hyphen_place, is_hex_digit, is_hyphen_place, parsed_hyphenated, parsed_simple}
use Rattle.uuid.proofs.TextLemmas.{by_index_at, by_index_length}
use Rattle.vs_gtid.specs.Parts.{fits_uuid}

some_parts : (b : Bool) (x : Option (List ℕ)) (v : List ℕ) → (if b then x else None) ≡ Some v → (b ≡ true) × (x ≡ Some v)
some_parts true x v h = (refl, h)
some_parts false x v h = let e : None ≡ Some v = h in cc

pub all_at : (p : ℕ → Bool) (xs : List ℕ) (k : ℕ) → list_all p xs ≡ true → k < length xs → p (get_or xs k 0) ≡ true
all_at p [] k h l = absurd (omega arith)
all_at p (x ∷ xs) zero h l = (and_parts (p x) (list_all p xs) h).0
all_at p (x ∷ xs) (suc k) h l = all_at p xs k (and_parts (p x) (list_all p xs) h).1 (omega arith)

pub all_from : (p : ℕ → Bool) (xs : List ℕ) → ((k : ℕ) → k < length xs → p (get_or xs k 0) ≡ true) → list_all p xs ≡ true
all_from p [] h = refl
all_from p (x ∷ xs) h = rw (h 0 (omega arith), all_from p xs (λ k l. h (suc k) (omega arith))) refl

-- what the digits of a text with hyphens parse to
pub record HasDigits (text uuid : List ℕ) : Type 0 where
  pub long : length text ≡ 36
  pub hyphens : has_hyphens text ≡ true
  pub digits : list_all is_hex_digit (digits_of text) ≡ true
  pub is : by_index 16 (byte_of_digits (digits_of text)) ≡ uuid

some-is : (x v : List ℕ) → Some x ≡ Some v → x ≡ v
some-is x v h = ap (λ (o : Option (List ℕ)). unwrap_or o []) h

pub read_digits : (text uuid : List ℕ) → parsed_hyphenated text ≡ Some uuid → HasDigits text uuid
read_digits text uuid h =
    let outer = some_parts ((length text == 36) && has_hyphens text) (parsed_simple (digits_of text)) uuid h in
    let front = and_parts (length text == 36) (has_hyphens text) outer.0 in
    let inner = some_parts ((length (digits_of text) == 32) && list_all is_hex_digit (digits_of text)) (Some (by_index 16 (byte_of_digits (digits_of text)))) uuid outer.1 in
    let back = and_parts (length (digits_of text) == 32) (list_all is_hex_digit (digits_of text)) inner.0 in
    record { long = eqb-true (length text) 36 front.0; hyphens = front.1; digits = back.1; is = some-is (by_index 16 (byte_of_digits (digits_of text))) uuid inner.1 }

pub uuid_long : (text uuid : List ℕ) → parsed_hyphenated text ≡ Some uuid → length text ≡ 36
uuid_long text uuid h = (read_digits text uuid h).long

digit_at : (text : List ℕ) (i : ℕ) → i < 32 → get_or (digits_of text) i 0 ≡ get_or text (hyphen_place i) 0
digit_at text i h = by_index_at 32 (λ (j : ℕ). slice_index text (hyphen_place j)) i 0 h

place_back : (k : ℕ) → k < 36 → is_hyphen_place k ≡ false → (digit_place k < 32) × (hyphen_place (digit_place k) ≡ k)
place_back k l h = (grind (arith, nat_tests), grind (arith, nat_tests))

hyphen_there : (text : List ℕ) (k : ℕ) → has_hyphens text ≡ true → is_hyphen_place k ≡ true → (get_or text k 0 == 45) ≡ true
hyphen_there text k h p = grind (arith, nat_tests)

-- each place of a UUID's text has a byte that fits
pub uuid_fits : (text uuid : List ℕ) → parsed_hyphenated text ≡ Some uuid → (k : ℕ) → k < 36 → fits_uuid k (get_or text k 0) ≡ true
uuid_fits text uuid h k l =
    let d = read_digits text uuid h in
    elim (cases_Bool (is_hyphen_place k)) [
      | inl y ↦ rw y (hyphen_there text k d.hyphens y)
      | inr n ↦
          let p = place_back k l n in
          let at : is_hex_digit (get_or (digits_of text) (digit_place k) 0) ≡ true = all_at is_hex_digit (digits_of text) (digit_place k) d.digits (subst (λ (m : ℕ). digit_place k < m) (sym (by_index_length 32 (λ (j : ℕ). slice_index text (hyphen_place j)))) p.0) in
          let same : get_or (digits_of text) (digit_place k) 0 ≡ get_or text k 0 = digit_at text (digit_place k) p.0 ∙ ap (λ (j : ℕ). get_or text j 0) p.1 in
          rw n (subst (λ (c : ℕ). is_hex_digit c ≡ true) same at)
    ]

place_there : (i : ℕ) → i < 32 → (hyphen_place i < 36) × (is_hyphen_place (hyphen_place i) ≡ false)
place_there i h = (grind (arith, nat_tests), grind (arith, nat_tests))

-- 36 bytes that fit are the text of a UUID
pub uuid_from_fits : (text : List ℕ) → length text ≡ 36 → ((k : ℕ) → k < 36 → fits_uuid k (get_or text k 0) ≡ true) → (uuid : List ℕ) × (parsed_hyphenated text ≡ Some uuid)
uuid_from_fits text l fits =
    let digits : list_all is_hex_digit (digits_of text) ≡ true = all_from is_hex_digit (digits_of text) (λ i m.
    let small : i < 32 = subst (λ (n : ℕ). i < n) (by_index_length 32 (λ (j : ℕ). slice_index text (hyphen_place j))) m in
    let p = place_there i small in
    let here = fits (hyphen_place i) p.0 in
    let hex : is_hex_digit (get_or text (hyphen_place i) 0) ≡ true = rw p.1 at here in
    rw (digit_at text i small) hex) in
    let hyphens : has_hyphens text ≡ true = rw (fits 8 (omega arith), fits 13 (omega arith), fits 18 (omega arith), fits 23 (omega arith)) refl in
    let long : (length (digits_of text) == 32) ≡ true = rw (by_index_length 32 (λ (j : ℕ). slice_index text (hyphen_place j))) refl in
    (by_index 16 (byte_of_digits (digits_of text)), rw (l, hyphens, long, digits) refl)
