-- What is printed of a set is the text of a set, with its intervals as the spans.
use Rattle.std.proofs.Common.{◌≡◌, ℕ, ◌+◌, ◌<◌, ◌≤◌, ◌==◌, true, false, nat_lt, nat_eq, List, [], ◌∷◌, ◌++◌, length, length-append, decimal, Option, Some, None, Ok, All, refl, ap, sym, subst, ◌∙◌, inl, inr, eqb-true, arith}
use Rattle.std.proofs.lemmas.Bool.{cases_Bool, le-ltb, ne_eqb}
use Rattle.std.proofs.lemmas.Bool.Decides.{nat_tests}
use Rattle.std.proofs.lemmas.List.{append_assoc, append-nil, get_or_default}
use Rattle.std.proofs.lemmas.List.Elements.{All-head, All-tail}
use Rattle.std.proofs.lemmas.Fmt.{decimal_is_IsNumeral, length-decimal-le}
use Rattle.std.proofs.lemmas.Slice.Eq.{bytes_eq-Decides}
use Rattle.std.specs.List.{list_all}
use Rattle.std.specs.Char.{is_ascii_digit, digit_value}
use Rattle.std.specs.Str.Parse.{AllDigits}
use Rattle.std.specs.Cmp.Lexicographic.{pointwise}
use Rattle.uuid.specs.Text.{hyphenated_text, lower, parsed_hyphenated}
use Rattle.uuid.proofs.RoundTrips.{parses_hyphenated_text}
use Rattle.vs_gtid.specs.declared.interval.Interval.{Interval}
use Rattle.vs_gtid.specs.declared.span.Span.{Span}
use Rattle.vs_gtid.specs.Positions.{Position, has, IsCanonical, IsInterval}
use Rattle.vs_gtid.specs.SetTexts.{IsNumber, IsSpan, AreSpans, IsItem, AreItems, IsPrefix, IsSetText, in_turn}
use Rattle.vs_gtid.specs.Readings.{empty_at, first_place, greatest, intervals_of, over_at, zero_at, ReadsSet}
use Rattle.vs_gtid.specs.Text.{following_text, next_text, opening_text, set_text, span_text}
use Rattle.vs_gtid.proofs.JoinLemmas.{AreIntervals}
use Rattle.vs_gtid.proofs.UuidLemmas.{uuid_long}

ascii_digits : (ds : List ℕ) → AllDigits 10 ds → list_all is_ascii_digit ds ≡ true
ascii_digits [] h = refl
ascii_digits (d ∷ ds) h = rw (ascii d h.0, ascii_digits ds h.1) refl
  where
    ascii : (d : ℕ) → digit_value d < 10 → is_ascii_digit d ≡ true
    ascii d h = grind (arith, nat_tests)

-- the printed number
number_printed : (n : ℕ) → n ≤ greatest → IsNumber (decimal n) n
number_printed n h =
    let d = decimal_is_IsNumeral n (omega (arith, h)) in
    record { digits = ascii_digits (decimal n) d.0.1; some = d.0.0; few = length-decimal-le 19 n (omega arith) (omega (arith, h)) (omega (arith, h)); worth = d.1 }

-- the printed span of an interval
record PrintedSpan (at : ℕ) (i : Interval) : Type 0 where
  s : Span
  is : s.interval ≡ i
  is_span : IsSpan at (span_text i) s

span_printed : (at : ℕ) (i : Interval) → IsInterval i → PrintedSpan at i
span_printed at i h =
    let first = number_printed i.first (omega (arith, h.ascends, h.last)) in
    let last = number_printed i.last h.last in
    elim (cases_Bool (i.first == i.last)) [
      | inl y ↦
          let text : span_text i ≡ decimal i.first = rw y refl in
          let s : Span = record { interval = i; first_at = at; last_at = at } in
          record { s = s; is = refl; is_span = subst (λ (t : List ℕ). IsSpan at t s) (sym text) (inl (record { number = first; place = refl; same = sym (eqb-true i.first i.last y); same_place = refl })) }
      | inr n ↦
          let text : span_text i ≡ decimal i.first ++ 45 ∷ decimal i.last = rw n (append_assoc (decimal i.first) (45 ∷ []) (decimal i.last)) in
          let s : Span = record { interval = i; first_at = at; last_at = at + length (decimal i.first) + 1 } in
          record {
            s = s;
            is = refl;
            is_span = subst (λ (t : List ℕ). IsSpan at t s) (sym text) (inr (record {
              front = decimal i.first;
              back = decimal i.last;
              are = refl;
              first = first;
              first_place = refl;
              last = last;
              last_place = refl;
            }));
          }
    ]

uuid_printed : (i : Interval) → IsInterval i → parsed_hyphenated (hyphenated_text lower i.uuid) ≡ Some i.uuid
uuid_printed i h =
    sym (parses_hyphenated_text lower i.uuid (inl refl) h.uuid (λ k d l. subst (λ (n : ℕ). n < 256) (get_or_default i.uuid k 0 d l) (h.bytes k)))

-- what follows an interval: spans of its UUID, and items
record Followed (at : ℕ) (uuid : List ℕ) (text : List ℕ) (p : Position) : Type 0 where
  own_text : List ℕ
  items_text : List ℕ
  own : List Span
  groups : List (List Span)
  are : text ≡ own_text ++ items_text
  are_own : AreSpans uuid at own_text own
  are_items : AreItems (at + length own_text) items_text groups
  all : intervals_of (own ++ in_turn groups) ≡ p

-- an interval, and what follows it, as spans
spans_printed : (at : ℕ) (i : Interval) (rest : Position) (uuid text : List ℕ) (s : PrintedSpan (at + 1) i) → i.uuid ≡ uuid →
    Followed (at + 1 + length (span_text i)) i.uuid text rest → Followed at uuid ((58 ∷ span_text i) ++ text) (i ∷ rest)
spans_printed at i rest uuid text s u f =
    let long : at + 1 + length (span_text i) + length f.own_text ≡ at + length (58 ∷ (span_text i ++ f.own_text)) = omega (arith, length-append (span_text i) f.own_text) in
    record {
      own_text = 58 ∷ (span_text i ++ f.own_text);
      items_text = f.items_text;
      own = s.s ∷ f.own;
      groups = f.groups;
      are = ap (λ (t : List ℕ). 58 ∷ (span_text i ++ t)) f.are ∙ ap (λ (t : List ℕ). 58 ∷ t) (sym (append_assoc (span_text i) f.own_text f.items_text));
      are_own = (span_text i, f.own_text, refl, s.is_span, ap (λ (x : Interval). x.uuid) s.is ∙ u, subst (λ (v : List ℕ). AreSpans v (at + 1 + length (span_text i)) f.own_text f.own) u f.are_own);
      are_items = subst (λ (n : ℕ). AreItems n f.items_text f.groups) long f.are_items;
      all = ap (λ (x : Interval). x ∷ intervals_of (f.own ++ in_turn f.groups)) s.is ∙ ap (λ (q : Position). i ∷ q) f.all;
    }

-- as an item, and the items behind it
record Item (at : ℕ) (text : List ℕ) (p : Position) : Type 0 where
  item_text : List ℕ
  items_text : List ℕ
  own : List Span
  groups : List (List Span)
  are : text ≡ item_text ++ items_text
  is_item : IsItem at item_text own
  are_items : AreItems (at + length item_text) items_text groups
  all : intervals_of (own ++ in_turn groups) ≡ p

item_printed : (at : ℕ) (i : Interval) (rest : Position) (text : List ℕ) → IsInterval i → Followed (at + 36 + 1 + length (span_text i)) i.uuid text rest →
    Item at (opening_text i ++ text) (i ∷ rest)
unfolding opening_text spans_printed
item_printed at i rest text h f =
    let u : List ℕ = hyphenated_text lower i.uuid in
    let is_uuid = uuid_printed i h in
    let long : length u ≡ 36 = uuid_long u i.uuid is_uuid in
    let s = span_printed (at + 36 + 1) i h in
    let g = spans_printed (at + 36) i rest i.uuid text s refl f in
    record {
      item_text = u ++ g.own_text;
      items_text = g.items_text;
      own = g.own;
      groups = g.groups;
      are =
          ap (λ (t : List ℕ). t ++ text) (append_assoc u (58 ∷ []) (span_text i))
          ∙ (append_assoc u (58 ∷ span_text i) text ∙ (ap (λ (t : List ℕ). u ++ t) g.are ∙ sym (append_assoc u g.own_text g.items_text)));
      is_item = record {
        uuid_text = u;
        spans_text = g.own_text;
        are = refl;
        uuid = i.uuid;
        is_uuid = is_uuid;
        are_spans = subst (λ (n : ℕ). AreSpans i.uuid (at + n) g.own_text g.own) (sym long) g.are_own;
        some = omega arith;
      };
      are_items = subst (λ (n : ℕ). AreItems n g.items_text g.groups) (omega (arith, length-append u g.own_text, long)) g.are_items;
      all = g.all;
    }

followed : (rest : Position) (before : Interval) (at : ℕ) → All IsInterval rest → Followed at before.uuid (following_text before rest) rest
unfolding following_text next_text
followed [] before at h =
    record { own_text = []; items_text = []; own = []; groups = []; are = refl; are_own = refl; are_items = refl; all = refl }
followed (i ∷ rest) before at h =
    let v : IsInterval i = All-head IsInterval i rest h in
    let more = All-tail IsInterval i rest h in
    elim (cases_Bool (pointwise nat_eq before.uuid i.uuid)) [
      | inl y ↦
          let u : before.uuid ≡ i.uuid = (bytes_eq-Decides before.uuid i.uuid).0 y in
          let f = spans_printed at i rest before.uuid (following_text i rest) (span_printed (at + 1) i v) (sym u) (followed rest i (at + 1 + length (span_text i)) more) in
          let text : next_text before i ++ following_text i rest ≡ (58 ∷ span_text i) ++ following_text i rest = rw y refl in
          subst (λ (t : List ℕ). Followed at before.uuid t (i ∷ rest)) (sym text) f
      | inr n ↦
          let m = item_printed (at + 0 + 1) i rest (following_text i rest) v (followed rest i (at + 0 + 1 + 36 + 1 + length (span_text i)) more) in
          let text : next_text before i ++ following_text i rest ≡ 44 ∷ (opening_text i ++ following_text i rest) = rw n refl in
          record {
            own_text = [];
            items_text = 44 ∷ (opening_text i ++ following_text i rest);
            own = [];
            groups = m.own ∷ m.groups;
            are = text;
            are_own = refl;
            are_items = (
              44 ∷ [],
              m.item_text,
              m.items_text,
              ap (λ (t : List ℕ). 44 ∷ t) m.are,
              record { before = []; after = []; are = refl; blanks_before = refl; blanks_after = refl },
              m.is_item,
              m.are_items,
            );
            all = m.all;
          }
    ]

-- the printed set, behind the prefix or nothing
record Printed (text : List ℕ) (p : Position) : Type 0 where
  spans : List Span
  is_text : IsSetText text spans
  all : intervals_of spans ≡ p

set_printed : (front : List ℕ) (p : Position) → IsPrefix front → All IsInterval p → Printed (front ++ set_text p) p
unfolding set_text
set_printed front [] k h = record {
  spans = [];
  is_text = record {
    opening = front;
    items = [];
    closing = [];
    are = refl;
    is_opening = record { front = front; blanks = []; are = sym (append-nil front); is_prefix = k; are_blanks = refl };
    groups = [];
    are_items = refl;
    are_spans = refl;
    are_blanks = refl;
  };
  all = refl;
}
set_printed front (i ∷ rest) k h =
    let v : IsInterval i = All-head IsInterval i rest h in
    let m = item_printed (length front) i rest (following_text i rest) v (followed rest i (length front + 36 + 1 + length (span_text i)) (All-tail IsInterval i rest h)) in
    record {
      spans = m.own ++ in_turn m.groups;
      is_text = record {
        opening = front;
        items = opening_text i ++ following_text i rest;
        closing = [];
        are = ap (λ (t : List ℕ). front ++ t) (sym (append-nil (opening_text i ++ following_text i rest)));
        is_opening = record { front = front; blanks = []; are = sym (append-nil front); is_prefix = k; are_blanks = refl };
        groups = m.own ∷ m.groups;
        are_items = (m.item_text, m.items_text, m.are, m.is_item, m.are_items);
        are_spans = refl;
        are_blanks = refl;
      };
      all = m.all;
    }

-- a place that no lawful interval has
no_place : (f : Span → Option ℕ) → ((s : Span) → IsInterval s.interval → f s ≡ None) → (spans : List Span) → All IsInterval (intervals_of spans) → first_place f spans ≡ None
no_place f none [] h = refl
no_place f none (s ∷ more) h =
    let head = none s (All-head IsInterval s.interval (intervals_of more) h) in
    let tail = no_place f none more (All-tail IsInterval s.interval (intervals_of more) h) in
    rw (head, tail) refl

none_over : (s : Span) → IsInterval s.interval → over_at s ≡ None
none_over s h =
    let a : nat_lt greatest s.interval.first ≡ false = le-ltb greatest s.interval.first (omega (arith, h.ascends, h.last)) in
    let b : nat_lt greatest s.interval.last ≡ false = le-ltb greatest s.interval.last h.last in
    rw (a, b) refl

none_zero : (s : Span) → IsInterval s.interval → zero_at s ≡ None
none_zero s h =
    let a : (s.interval.first == 0) ≡ false = ne_eqb s.interval.first 0 (λ e. omega (arith, h.first, e)) in
    let b : (s.interval.last == 0) ≡ false = ne_eqb s.interval.last 0 (λ e. omega (arith, h.first, h.ascends, e)) in
    rw (a, b) refl

none_empty : (s : Span) → IsInterval s.interval → empty_at s ≡ None
none_empty s h =
    let a : nat_lt s.interval.last s.interval.first ≡ false = le-ltb s.interval.last s.interval.first h.ascends in
    rw a refl

-- what is printed says the set
pub printed : (front : List ℕ) (p : Position) → IsPrefix front → IsCanonical p → length p ≤ 1024 → ReadsSet (front ++ set_text p) (Ok p)
printed front p k c few =
    let v = AreIntervals p c in
    let m = set_printed front p k v in
    let w : All IsInterval (intervals_of m.spans) = subst (λ (q : Position). All IsInterval q) (sym m.all) v in (
      m.spans,
      record {
        form = record { is_text = m.is_text; in_range = no_place over_at none_over m.spans w };
        no_zero = no_place zero_at none_zero m.spans w;
        none_empty = no_place empty_at none_empty m.spans w;
      },
      record { canonical = c; members = λ g. ap (λ (q : Position). has q g) (sym m.all) },
      few,
    )
