-- The spans of a text without a fault are intervals of GTIDs.
use Rattle.std.proofs.Common.{◌≡◌, ℕ, ◌+◌, ◌*◌, ◌<◌, ◌≤◌, true, false, ◌==◌, nat_lt, List, [], ◌∷◌, ◌++◌, length, get_or, slice_index, Option, Some, None, All, refl, sym, subst, inl, inr, arith}
use Rattle.std.proofs.lemmas.Bool.{cases_Bool, cases_lt}
use Rattle.std.proofs.lemmas.Bool.Decides.{nat_tests}
use Rattle.std.proofs.lemmas.List.{get_or_past}
use Rattle.std.proofs.lemmas.List.Elements.{All-nil, All-cons}
use Rattle.std.specs.Option.{option_or}
use Rattle.uuid.specs.Text.{by_index, byte_of_digits, digits_of, is_hex_digit, parsed_hyphenated, value_of}
use Rattle.uuid.proofs.TextLemmas.{by_index_at, by_index_length}
use Rattle.vs_gtid.specs.declared.span.Span.{Span}
use Rattle.vs_gtid.specs.Positions.{IsInterval}
use Rattle.vs_gtid.specs.SetTexts.{AreSpans, AreItems, AreListed, IsItem, in_turn}
use Rattle.vs_gtid.specs.Readings.{empty_at, first_place, greatest, intervals_of, over_at, zero_at, AreLawful}
use Rattle.vs_gtid.proofs.UuidLemmas.{all_at, read_digits}

-- 16 bytes
record IsBytes (uuid : List ℕ) : Type 0 where
  long : length uuid ≡ 16
  bytes : (k : ℕ) → slice_index uuid k < 256

hex_small : (c : ℕ) → is_hex_digit c ≡ true → value_of c < 16
hex_small c h = grind (arith, nat_tests)

uuid_bytes : (text uuid : List ℕ) → parsed_hyphenated text ≡ Some uuid → IsBytes uuid
uuid_bytes text uuid h =
    let d = read_digits text uuid h in
    let hex : List ℕ = digits_of text in
    let size : length hex ≡ 32 = by_index_length 32 _ in
    let f : ℕ → ℕ = byte_of_digits hex in
    let small : (j : ℕ) → j < 16 → f j < 256 = λ j l.
    let high = hex_small (get_or hex (2 * j) 0) (all_at is_hex_digit hex (2 * j) d.digits (omega (arith, size))) in
    let low = hex_small (get_or hex (2 * j + 1) 0) (all_at is_hex_digit hex (2 * j + 1) d.digits (omega (arith, size))) in
    omega (arith, high, low) in
    subst (λ (v : List ℕ). IsBytes v) d.is (record {
      long = by_index_length 16 f;
      bytes = λ k. elim (cases_lt k 16) [
        | inl l ↦ subst (λ (n : ℕ). n < 256) (sym (by_index_at 16 f k 0 l)) (small k l)
        | inr g ↦ subst (λ (n : ℕ). n < 256) (sym (get_or_past (by_index 16 f) k 0 (omega (arith, by_index_length 16 f)))) (omega arith)
      ];
    })

-- each span has a UUID
HaveUuids : List Span → Type 0
HaveUuids [] = Unit {0}
HaveUuids (s ∷ more) = IsBytes s.interval.uuid × HaveUuids more

spans_uuids : (spans : List Span) (uuid : List ℕ) (at : ℕ) (text : List ℕ) → IsBytes uuid → AreSpans uuid at text spans → HaveUuids spans
unfolding HaveUuids
spans_uuids [] uuid at text b h = tt
spans_uuids (s ∷ more) uuid at text b (span_text, rest, are, is_span, same, are_rest) =
    (subst (λ (v : List ℕ). IsBytes v) (sym same) b, spans_uuids more uuid (at + 1 + length span_text) rest b are_rest)

item_uuids : (at : ℕ) (text : List ℕ) (spans : List Span) → IsItem at text spans → HaveUuids spans
item_uuids at text spans h = spans_uuids spans h.uuid (at + length h.uuid_text) h.spans_text (uuid_bytes h.uuid_text h.uuid h.is_uuid) h.are_spans

append_uuids : (xs ys : List Span) → HaveUuids xs → HaveUuids ys → HaveUuids (xs ++ ys)
unfolding HaveUuids
append_uuids [] ys a b = b
append_uuids (x ∷ xs) ys a b = (a.0, append_uuids xs ys a.1 b)

items_uuids : (groups : List (List Span)) (at : ℕ) (text : List ℕ) → AreItems at text groups → HaveUuids (in_turn groups)
unfolding HaveUuids
items_uuids [] at text h = tt
items_uuids (g ∷ gs) at text (gap, item, rest, are, is_gap, is_item, are_rest) =
    append_uuids g (in_turn gs) (item_uuids (at + length gap) item g is_item) (items_uuids gs (at + length gap + length item) rest are_rest)

listed_uuids : (groups : List (List Span)) (at : ℕ) (text : List ℕ) → AreListed at text groups → HaveUuids (in_turn groups)
unfolding HaveUuids
listed_uuids [] at text h = tt
listed_uuids (g ∷ gs) at text (item, rest, are, is_item, are_rest) = append_uuids g (in_turn gs) (item_uuids at item g is_item) (items_uuids gs (at + length item) rest are_rest)

or_nones : (a b : Option ℕ) → option_or a b ≡ None → (a ≡ None) × (b ≡ None)
or_nones None b h = (refl, h)
or_nones (Some x) b h = let some_none : Some x ≡ None = h in absurd (cc)

in_range : (s : Span) → over_at s ≡ None → (s.interval.first ≤ greatest) × (s.interval.last ≤ greatest)
in_range s h =
    elim (cases_Bool (nat_lt greatest s.interval.first)) [
      | inl y ↦ let some_none : Some s.first_at ≡ None = (rw y at h) in absurd (cc)
      | inr n ↦ elim (cases_Bool (nat_lt greatest s.interval.last)) [
        | inl y ↦ let some_none : Some s.last_at ≡ None = (rw (n, y) at h) in absurd (cc)
        | inr m ↦ (lt-false greatest s.interval.first n, lt-false greatest s.interval.last m)
      ]
    ]
  where
    lt-false : (a b : ℕ) → nat_lt a b ≡ false → b ≤ a
    lt-false a b h = grind (arith, nat_tests)

no_zero : (s : Span) → zero_at s ≡ None → 1 ≤ s.interval.first
no_zero s h =
    elim (cases_Bool (s.interval.first == 0)) [
      | inl y ↦ let some_none : Some s.first_at ≡ None = (rw y at h) in absurd (cc)
      | inr n ↦ grind (arith, nat_tests)
    ]

not_empty : (s : Span) → empty_at s ≡ None → s.interval.first ≤ s.interval.last
not_empty s h =
    elim (cases_Bool (nat_lt s.interval.last s.interval.first)) [
      | inl y ↦ let some_none : Some s.last_at ≡ None = (rw y at h) in absurd (cc)
      | inr n ↦ grind (arith, nat_tests)
    ]

intervals : (spans : List Span) → HaveUuids spans → first_place over_at spans ≡ None → first_place zero_at spans ≡ None → first_place empty_at spans ≡ None → All IsInterval (intervals_of spans)
unfolding HaveUuids
intervals [] u a b c = All-nil IsInterval
intervals (s ∷ more) u a b c =
    let over = or_nones (over_at s) (first_place over_at more) a in
    let zeros = or_nones (zero_at s) (first_place zero_at more) b in
    let empty = or_nones (empty_at s) (first_place empty_at more) c in
    let r = in_range s over.0 in
    All-cons IsInterval s.interval (intervals_of more) (record {
      uuid = u.0.long;
      bytes = u.0.bytes;
      first = no_zero s zeros.0;
      ascends = not_empty s empty.0;
      last = r.1;
    }) (intervals more u.1 over.1 zeros.1 empty.1)

pub lawful_intervals : (text : List ℕ) (spans : List Span) → AreLawful text spans → All IsInterval (intervals_of spans)
lawful_intervals text spans h =
    let t = h.form.is_text in
    intervals spans (subst (λ (x : List Span). HaveUuids x) (sym t.are_spans) (listed_uuids t.groups (length t.opening) t.items t.are_items)) h.form.in_range h.no_zero h.none_empty
