-- Each byte that is taken leaves a front of a set's text, and where a text may end it is that of a set.
use Rattle.std.proofs.Common.{◌≡◌, ℕ, zero, suc, ◌+◌, ◌-◌, ◌*◌, ◌<◌, ◌≤◌, ◌⊎◌, Bool, true, false, ◌&&◌, ◌==◌, nat_lt, nat_le, nat_eq, List, [], ◌∷◌, ◌++◌, length, length-append, take, get_or, slice_index, drop, Option, Some, None, unwrap_or, refl, ap, sym, subst, ◌∙◌, inl, inr, eqb-true, arith}
use Rattle.std.proofs.lemmas.Bool.{and_parts, cases_Bool, cases_lt, lt-ltb}
use Rattle.std.proofs.lemmas.Bool.Decides.{nat_tests}
use Rattle.std.proofs.lemmas.List.{append_assoc, append-nil, drop_at, get_or_push, get_or_append_left, take_more}
use Rattle.std.proofs.lemmas.List.Folds.{list_all-append}
use Rattle.std.proofs.lemmas.Int.Digits.{digits_value_push}
use Rattle.std.specs.List.{list_all}
use Rattle.std.specs.Option.{option_map}
use Rattle.std.specs.Bool.{if◌then◌else◌}
use Rattle.std.specs.Char.{is_ascii_digit, digit_value}
use Rattle.uuid.specs.Text.{is_hex_digit, parsed_hyphenated}
use Rattle.vs_gtid.specs.declared.span.Span.{Span}
use Rattle.vs_gtid.specs.declared.part.Part.{Part}
use Rattle.vs_gtid.specs.declared.part.Part.TheVariants.{Prefix, Opening, Gap, UuidText, First, Last, Closing}
use Rattle.vs_gtid.specs.SetTexts.{is_blank, prefix, IsNumber, IsSpan, IsOpening, IsSetText}
use Rattle.vs_gtid.specs.Parts.{begun, ended, fits_uuid, goes_on, in_uuid, in_first, in_last, in_gap, in_opening, in_prefix, with_digit, behind_item, behind_span, may_end, next, span}
use Rattle.vs_gtid.proofs.SetTextComplete.{none_ended}
use Rattle.vs_gtid.proofs.SetTextStands.{AreDigits, IsClosed, IsInFirst, IsInLast, IsInPrefix, IsInUuid, IsLead, IsParted, IsSpanned, Stands, ended_item, one_more}

-- which branch gave a part
pub pick : (b : Bool) (x y : Option Part) (v : Part) → (if b then x else y) ≡ Some v → ((b ≡ true) × (x ≡ Some v)) ⊎ ((b ≡ false) × (y ≡ Some v))
pick true x y v h = inl (refl, h)
pick false x y v h = inr (refl, h)

pub some-part : (x v : Part) → Some x ≡ Some v → x ≡ v
some-part x v h = ap (λ (o : Option Part). unwrap_or o Opening) h

pub no_part : {P : Type 0} (v : Part) → None ≡ Some v → P
no_part v h = absurd (cc)

pub push_all : (p : ℕ → Bool) (xs : List ℕ) (b : ℕ) → list_all p xs ≡ true → p b ≡ true → list_all p (xs ++ b ∷ []) ≡ true
push_all p xs b h k = list_all-append p xs (b ∷ []) ∙ rw (h, k) refl

-- a byte behind whole items
behind_done : (text : List ℕ) (spans : List Span) (after : Part) (b : ℕ) → IsClosed text spans → behind_item b ≡ Some after → Stands (text ++ b ∷ []) spans after
behind_done text spans after b h e =
    elim (pick (is_blank b) (Some Closing) (if b == 44 then Some Gap else None) after e) [
      | inl y ↦ subst (λ (p : Part). Stands (text ++ b ∷ []) spans p) (some-part Closing after y.1) (record {
        done = h.done;
        blanks = h.blanks ++ b ∷ [];
        are = ap (λ (t : List ℕ). t ++ b ∷ []) h.are ∙ append_assoc h.done h.blanks (b ∷ []);
        is_done = h.is_done;
        are_blanks = push_all is_blank h.blanks b h.are_blanks y.0;
      })
      | inr n ↦ elim (pick (b == 44) (Some Gap) None after n.1) [
        | inl y ↦ subst (λ (p : Part). Stands (text ++ b ∷ []) spans p) (some-part Gap after y.1) (record {
          done = h.done;
          gap = h.blanks ++ b ∷ [];
          are = ap (λ (t : List ℕ). t ++ b ∷ []) h.are ∙ append_assoc h.done h.blanks (b ∷ []);
          is_done = h.is_done;
          is_gap = record { before = h.blanks; after = []; are = ap (λ (c : ℕ). h.blanks ++ c ∷ []) (eqb-true b 44 y.0); blanks_before = h.are_blanks; blanks_after = refl };
        })
        | inr m ↦ no_part after m.1
      ]
    ]

none_yet : AreDigits [] 0
none_yet = record { all = refl; few = omega arith; worth = refl }

closed : (text uuid : List ℕ) (spans : List Span) → IsSpanned text uuid spans → IsClosed text spans
closed text uuid spans h = record {
  done = text;
  blanks = [];
  are = sym (append-nil text);
  is_done = ended_item text uuid spans h.item h.some;
  are_blanks = refl;
}

-- a byte behind a span
behind_spanned : (text uuid : List ℕ) (spans : List Span) (after : Part) (b : ℕ) → IsSpanned text uuid spans → behind_span uuid (length text) b ≡ Some after →
    Stands (text ++ b ∷ []) spans after
behind_spanned text uuid spans after b h e =
    elim (pick (b == 58) (Some (First uuid (length text + 1) 0)) (behind_item b) after e) [
      | inl y ↦ subst (λ (p : Part). Stands (text ++ b ∷ []) spans p) (some-part (First uuid (length text + 1) 0) after y.1) (record {
        item = text;
        digits = [];
        are = ap (λ (c : ℕ). text ++ c ∷ []) (eqb-true b 58 y.0);
        is_item = h.item;
        place = refl;
        are_digits = none_yet;
      })
      | inr n ↦ behind_done text spans after b (closed text uuid spans h) n.1
    ]

-- digits, one or more
number_of : (digits : List ℕ) (n : ℕ) → AreDigits digits n → 1 ≤ length digits → IsNumber digits n
number_of digits n h some = record { digits = h.all; some = some; few = h.few; worth = h.worth }

pub first_spanned : (text uuid : List ℕ) (from n : ℕ) (spans : List Span) → IsInFirst text uuid from n spans → from < length text →
    IsSpanned text uuid (spans ++ begun (First uuid from n))
first_spanned text uuid from n spans h l =
    let some : 1 ≤ length h.digits = omega (arith, ap length h.are, length-append h.item (58 ∷ h.digits), h.place) in
    let is_span : IsSpan (length h.item + 1) h.digits (span uuid n from n from) =
    inl (record { number = number_of h.digits n h.are_digits some; place = h.place; same = refl; same_place = h.place }) in
    subst (λ (t : List ℕ). IsSpanned t uuid (spans ++ begun (First uuid from n))) (sym h.are)
    (one_more h.item h.digits uuid spans (span uuid n from n from) h.is_item is_span refl)

pub last_spanned : (text uuid : List ℕ) (first first_at from n : ℕ) (spans : List Span) → IsInLast text uuid first first_at from n spans → from < length text →
    IsSpanned text uuid (spans ++ begun (Last uuid first first_at from n))
last_spanned text uuid first first_at from n spans h l =
    let long : length text ≡ length h.item + 1 + length h.front + 1 + length h.digits =
    ap length h.are ∙ (length-append h.item (58 ∷ (h.front ++ 45 ∷ h.digits)) ∙ omega (arith, length-append h.front (45 ∷ h.digits))) in
    let some : 1 ≤ length h.digits = omega (arith, long, h.place, h.first_place) in
    let is_span : IsSpan (length h.item + 1) (h.front ++ 45 ∷ h.digits) (span uuid first first_at n from) =
    inr (record {
      front = h.front;
      back = h.digits;
      are = refl;
      first = h.is_first;
      first_place = h.first_place;
      last = number_of h.digits n h.are_digits some;
      last_place = h.place ∙ ap (λ (k : ℕ). k + length h.front + 1) h.first_place;
    }) in
    subst (λ (t : List ℕ). IsSpanned t uuid (spans ++ begun (Last uuid first first_at from n))) (sym h.are)
    (one_more h.item (h.front ++ 45 ∷ h.digits) uuid spans (span uuid first first_at n from) h.is_item is_span refl)

-- one digit more
pub more_digits : (digits : List ℕ) (n b m count : ℕ) → AreDigits digits n → count ≡ length digits → is_ascii_digit b ≡ true → with_digit count n b ≡ Some m → AreDigits (digits ++ b ∷ []) m
more_digits digits n b m count h c d e =
    elim (cases_lt count 19) [
      | inl l ↦
          let t = lt-ltb count 19 l in
          let is : n * 10 + digit_value b ≡ m = ap (λ (o : Option ℕ). unwrap_or o 0) (rw t at e) in
          record {
            all = push_all is_ascii_digit digits b h.all d;
            few = omega (arith, length-append digits (b ∷ []), c);
            worth = digits_value_push 10 digits b ∙ (ap (λ (k : ℕ). k * 10 + digit_value b) h.worth ∙ is);
          }
      | inr g ↦ let f : nat_lt count 19 ≡ false = grind (arith, nat_tests) in let no : None ≡ Some m = (rw f at e) in cc
    ]

-- the part that a number with a digit more makes
pub map_some : (f : ℕ → Part) (o : Option ℕ) (v : Part) → option_map f o ≡ Some v → (m : ℕ) × (o ≡ Some m) × (f m ≡ v)
map_some f None v h = no_part v h
map_some f (Some m) v h = (m, refl, some-part (f m) v h)

pub map_some_uuid : (f : List ℕ → Part) (o : Option (List ℕ)) (v : Part) → option_map f o ≡ Some v → (m : List ℕ) × (o ≡ Some m) × (f m ≡ v)
map_some_uuid f None v h = no_part v h
map_some_uuid f (Some m) v h = (m, refl, some-part (f m) v h)

-- spans that stay, and that come
stay : (text : List ℕ) (spans more : List Span) (after : Part) → more ≡ [] → Stands text spans after → Stands text (spans ++ more) after
stay text spans more after e h = subst (λ (s : List Span). Stands text s after) (sym (ap (λ (x : List Span). spans ++ x) e ∙ append-nil spans)) h

come : (text : List ℕ) (spans : List Span) (part after : Part) (b : ℕ) → goes_on b ≡ false → Stands text (spans ++ begun part) after → Stands text (spans ++ ended part b) after
come text spans part after b g h = let e : ended part b ≡ begun part = rw g refl in subst (λ (s : List Span). Stands text (spans ++ s) after) (sym e) h

pub digit_goes : (b : ℕ) → is_ascii_digit b ≡ true → goes_on b ≡ true
digit_goes b h = rw h refl

pub no_digit_no_dash : (b : ℕ) → is_ascii_digit b ≡ false → (b == 45) ≡ false → goes_on b ≡ false
no_digit_no_dash b h k = rw (h, k) refl

pub goes_ended : (part : Part) (b : ℕ) → goes_on b ≡ true → ended part b ≡ []
goes_ended part b h = rw h refl

pub le-false : (a b : ℕ) → nat_le a b ≡ false → b < a
le-false a b h = grind (arith, nat_tests)

first_step : (text uuid : List ℕ) (from n : ℕ) (spans : List Span) (after : Part) (b : ℕ) → IsInFirst text uuid from n spans → in_first uuid from n (length text) b ≡ Some after →
    Stands (text ++ b ∷ []) (spans ++ ended (First uuid from n) b) after
first_step text uuid from n spans after b h e =
    let count : length text - from ≡ length h.digits = omega (arith, ap length h.are, length-append h.item (58 ∷ h.digits), h.place) in
    elim (pick (is_ascii_digit b) _ _ after e) [
      | inl d ↦
          let m = map_some (λ k. First uuid from k) (with_digit (length text - from) n b) after d.1 in
          stay (text ++ b ∷ []) spans (ended (First uuid from n) b) after (goes_ended (First uuid from n) b (digit_goes b d.0))
          (subst (λ (p : Part). Stands (text ++ b ∷ []) spans p) m.2 (record {
            item = h.item;
            digits = h.digits ++ b ∷ [];
            are = ap (λ (t : List ℕ). t ++ b ∷ []) h.are ∙ append_assoc h.item (58 ∷ h.digits) (b ∷ []);
            is_item = h.is_item;
            place = h.place;
            are_digits = more_digits h.digits n b m.0 (length text - from) h.are_digits count d.0 m.1;
          }))
      | inr nd ↦ elim (pick (nat_le (length text) from) _ _ after nd.1) [
        | inl bad ↦ no_part after bad.1
        | inr some ↦
            let l : from < length text = le-false (length text) from some.0 in
            elim (pick (b == 45) _ _ after some.1) [
              | inl dash ↦
                  let number : IsNumber h.digits n = number_of h.digits n h.are_digits (omega (arith, count)) in
                  stay (text ++ b ∷ []) spans (ended (First uuid from n) b) after (goes_ended (First uuid from n) b (rw (nd.0, dash.0) refl))
                  (subst (λ (p : Part). Stands (text ++ b ∷ []) spans p) (some-part (Last uuid n from (length text + 1) 0) after dash.1) (record {
                    item = h.item;
                    front = h.digits;
                    digits = [];
                    are = ap (λ (t : List ℕ). t ++ b ∷ []) h.are ∙ (append_assoc h.item (58 ∷ h.digits) (b ∷ []) ∙ ap (λ (c : ℕ). h.item ++ 58 ∷ (h.digits ++ c ∷ [])) (eqb-true b 45 dash.0));
                    is_item = h.is_item;
                    first_place = h.place;
                    is_first = number;
                    place = omega (arith, count, l);
                    are_digits = none_yet;
                  }))
              | inr nn ↦ come (text ++ b ∷ []) spans (First uuid from n) after b (no_digit_no_dash b nd.0 nn.0)
                  (behind_spanned text uuid (spans ++ begun (First uuid from n)) after b (first_spanned text uuid from n spans h l) nn.1)
            ]
      ]
    ]

last_step : (text uuid : List ℕ) (first first_at from n : ℕ) (spans : List Span) (after : Part) (b : ℕ) → IsInLast text uuid first first_at from n spans →
    in_last uuid first first_at from n (length text) b ≡ Some after → Stands (text ++ b ∷ []) (spans ++ ended (Last uuid first first_at from n) b) after
last_step text uuid first first_at from n spans after b h e =
    let part : Part = Last uuid first first_at from n in
    let long : length text ≡ length h.item + 1 + length h.front + 1 + length h.digits =
    ap length h.are ∙ (length-append h.item (58 ∷ (h.front ++ 45 ∷ h.digits)) ∙ omega (arith, length-append h.front (45 ∷ h.digits))) in
    let count : length text - from ≡ length h.digits = omega (arith, long, h.place, h.first_place) in
    elim (pick (is_ascii_digit b) _ _ after e) [
      | inl d ↦
          let m = map_some (λ k. Last uuid first first_at from k) (with_digit (length text - from) n b) after d.1 in
          stay (text ++ b ∷ []) spans (ended part b) after (goes_ended part b (digit_goes b d.0))
          (subst (λ (p : Part). Stands (text ++ b ∷ []) spans p) m.2 (record {
            item = h.item;
            front = h.front;
            digits = h.digits ++ b ∷ [];
            are =
                ap (λ (t : List ℕ). t ++ b ∷ []) h.are
                ∙ (append_assoc h.item (58 ∷ (h.front ++ 45 ∷ h.digits)) (b ∷ []) ∙ ap (λ (t : List ℕ). h.item ++ 58 ∷ t) (append_assoc h.front (45 ∷ h.digits) (b ∷ [])));
            is_item = h.is_item;
            first_place = h.first_place;
            is_first = h.is_first;
            place = h.place;
            are_digits = more_digits h.digits n b m.0 (length text - from) h.are_digits count d.0 m.1;
          }))
      | inr nd ↦ elim (pick (nat_le (length text) from) _ _ after nd.1) [
        | inl bad ↦ no_part after bad.1
        | inr some ↦
            let l : from < length text = le-false (length text) from some.0 in
            elim (cases_Bool (b == 45)) [
              | inl dash ↦
                  let is : b ≡ 45 = eqb-true b 45 dash in
                  let no : None ≡ Some after = subst (λ (c : ℕ). behind_span uuid (length text) c ≡ Some after) is some.1 in
                  no_part after no
              | inr nn ↦ come (text ++ b ∷ []) spans part after b (no_digit_no_dash b nd.0 nn)
                  (behind_spanned text uuid (spans ++ begun part) after b (last_spanned text uuid first first_at from n spans h l) some.1)
            ]
      ]
    ]

-- the first byte of a UUID
uuid_begins : (text : List ℕ) (spans : List Span) (b : ℕ) → IsLead text spans → is_hex_digit b ≡ true → IsInUuid (text ++ b ∷ []) (length text) spans
uuid_begins text spans b h hex = record {
  lead = text;
  bytes = b ∷ [];
  are = refl;
  is_lead = h;
  place = refl;
  few = omega arith;
  some = omega arith;
  fits = fits;
}
  where
    fits : (k : ℕ) → k < length (b ∷ []) → fits_uuid k (get_or (b ∷ []) k 0) ≡ true
    fits zero l = hex
    fits (suc k) l = absurd (omega arith)

more_opening : (text : List ℕ) (b : ℕ) → IsOpening text → is_blank b ≡ true → IsOpening (text ++ b ∷ [])
more_opening text b h k = record {
  front = h.front;
  blanks = h.blanks ++ b ∷ [];
  are = ap (λ (t : List ℕ). t ++ b ∷ []) h.are ∙ append_assoc h.front h.blanks (b ∷ []);
  is_prefix = h.is_prefix;
  are_blanks = push_all is_blank h.blanks b h.are_blanks k;
}

nil_text : (text : List ℕ) → nat_eq (length text) 0 ≡ true → text ≡ []
nil_text [] h = refl
nil_text (x ∷ xs) h = let e : suc (length xs) ≡ 0 = eqb-true (suc (length xs)) 0 h in absurd (omega (arith, e))

opening_step : (text : List ℕ) (spans : List Span) (after : Part) (b : ℕ) → IsOpening text → spans ≡ [] → in_opening (length text) b ≡ Some after → Stands (text ++ b ∷ []) spans after
opening_step text spans after b h none e =
    elim (pick (is_blank b) _ _ after e) [
      | inl y ↦ subst (λ (p : Part). Stands (text ++ b ∷ []) spans p) (some-part Opening after y.1) (more_opening text b h y.0, none)
      | inr n ↦ elim (pick (is_hex_digit b) _ _ after n.1) [
        | inl y ↦ subst (λ (p : Part). Stands (text ++ b ∷ []) spans p) (some-part (UuidText (length text)) after y.1) (uuid_begins text spans b (inl (h, none)) y.0)
        | inr m ↦ elim (pick (nat_eq (length text) 0 && (b == 77)) _ _ after m.1) [
          | inl y ↦
              let p = and_parts (nat_eq (length text) 0) (b == 77) y.0 in
              subst (λ (p : Part). Stands (text ++ b ∷ []) spans p) (some-part (Prefix 1) after y.1) (record {
                are = ap (λ (t : List ℕ). t ++ b ∷ []) (nil_text text p.0) ∙ ap (λ (c : ℕ). c ∷ []) (eqb-true b 77 p.1);
                some = omega arith;
                few = omega arith;
                none = none;
              })
          | inr bad ↦ no_part after bad.1
        ]
      ]
    ]

gap_step : (text : List ℕ) (spans : List Span) (after : Part) (b : ℕ) → IsParted text spans → in_gap (length text) b ≡ Some after → Stands (text ++ b ∷ []) spans after
gap_step text spans after b h e =
    elim (pick (is_blank b) _ _ after e) [
      | inl y ↦ subst (λ (p : Part). Stands (text ++ b ∷ []) spans p) (some-part Gap after y.1) (record {
        done = h.done;
        gap = h.gap ++ b ∷ [];
        are = ap (λ (t : List ℕ). t ++ b ∷ []) h.are ∙ append_assoc h.done h.gap (b ∷ []);
        is_done = h.is_done;
        is_gap = record {
          before = h.is_gap.before;
          after = h.is_gap.after ++ b ∷ [];
          are = ap (λ (t : List ℕ). t ++ b ∷ []) h.is_gap.are ∙ append_assoc h.is_gap.before (44 ∷ h.is_gap.after) (b ∷ []);
          blanks_before = h.is_gap.blanks_before;
          blanks_after = push_all is_blank h.is_gap.after b h.is_gap.blanks_after y.0;
        };
      })
      | inr n ↦ elim (pick (is_hex_digit b) _ _ after n.1) [
        | inl y ↦ subst (λ (p : Part). Stands (text ++ b ∷ []) spans p) (some-part (UuidText (length text)) after y.1) (uuid_begins text spans b (inr h) y.0)
        | inr bad ↦ no_part after bad.1
      ]
    ]

-- the prefix at its end opens a text
prefix_opens : IsOpening prefix
prefix_opens = record { front = prefix; blanks = []; are = refl; is_prefix = inr refl; are_blanks = refl }

prefix_step : (text : List ℕ) (spans : List Span) (count : ℕ) (after : Part) (b : ℕ) → IsInPrefix text count spans → in_prefix count b ≡ Some after → Stands (text ++ b ∷ []) spans after
prefix_step text spans count after b h e =
    elim (pick (b == slice_index prefix count) _ _ after e) [
      | inl y ↦
          let small : count < length prefix = omega (arith, h.few) in
          let is : b ≡ get_or prefix count 0 = eqb-true b (get_or prefix count 0) y.0 in
          let more : text ++ b ∷ [] ≡ take (count + 1) prefix =
          ap (λ (t : List ℕ). t ++ b ∷ []) h.are ∙ (ap (λ (c : ℕ). take count prefix ++ c ∷ []) is ∙ sym (take_more prefix count 0 small)) in
          elim (cases_Bool (count == 7)) [
            | inl last ↦
                let seven : count ≡ 7 = eqb-true count 7 last in
                let to : Opening ≡ after = some-part Opening after (rw last at y.1) in
                let all : text ++ b ∷ [] ≡ prefix = more ∙ ap (λ (n : ℕ). take (n + 1) prefix) seven in
                subst (λ (p : Part). Stands (text ++ b ∷ []) spans p) to (subst (λ (t : List ℕ). IsOpening t) (sym all) prefix_opens, h.none)
            | inr other ↦
                let to : Prefix (count + 1) ≡ after = some-part (Prefix (count + 1)) after (rw other at y.1) in
                let below : count + 1 ≤ 7 = grind (arith, nat_tests) in
                subst (λ (p : Part). Stands (text ++ b ∷ []) spans p) to (record { are = more; some = omega arith; few = below; none = h.none })
          ]
      | inr bad ↦ no_part after bad.1
    ]

uuid_step : (text : List ℕ) (spans : List Span) (from : ℕ) (after : Part) (b : ℕ) → IsInUuid text from spans → in_uuid (drop from text) from b ≡ Some after → Stands (text ++ b ∷ []) spans after
uuid_step text spans from after b h e =
    let bytes : drop from text ≡ h.bytes =
    ap (λ (t : List ℕ). drop from t) h.are ∙ (ap (λ (n : ℕ). drop n (h.lead ++ h.bytes)) h.place ∙ drop_at h.lead h.bytes (length h.lead) refl) in
    let f : in_uuid h.bytes from b ≡ Some after = subst (λ (t : List ℕ). in_uuid t from b ≡ Some after) bytes e in
    elim (pick (length h.bytes == 36) _ _ after f) [
      | inl full ↦ elim (pick (b == 58) _ _ after full.1) [
        | inl colon ↦
            let m = map_some_uuid (λ uuid. First uuid (from + 37) 0) (parsed_hyphenated h.bytes) after colon.1 in
            let long : length h.bytes ≡ 36 = eqb-true (length h.bytes) 36 full.0 in
            let item : List ℕ = h.lead ++ h.bytes in
            subst (λ (p : Part). Stands (text ++ b ∷ []) spans p) m.2 (record {
              item = item;
              digits = [];
              are = ap (λ (t : List ℕ). t ++ b ∷ []) h.are ∙ ap (λ (c : ℕ). item ++ c ∷ []) (eqb-true b 58 colon.0);
              is_item = record {
                lead = h.lead;
                uuid_text = h.bytes;
                own_text = [];
                before = spans;
                own = [];
                are = ap (λ (t : List ℕ). h.lead ++ t) (sym (append-nil h.bytes));
                is_lead = h.is_lead;
                is_uuid = m.1;
                are_own = refl;
                are_spans = sym (append-nil spans);
              };
              place = omega (arith, length-append h.lead h.bytes, long, h.place);
              are_digits = none_yet;
            })
        | inr bad ↦ no_part after bad.1
      ]
      | inr short ↦ elim (pick (fits_uuid (length h.bytes) b) _ _ after short.1) [
        | inl y ↦
            let room : length h.bytes < 36 = grind (arith, nat_tests, h.few, short.0) in
            subst (λ (p : Part). Stands (text ++ b ∷ []) spans p) (some-part (UuidText from) after y.1) (record {
              lead = h.lead;
              bytes = h.bytes ++ b ∷ [];
              are = ap (λ (t : List ℕ). t ++ b ∷ []) h.are ∙ append_assoc h.lead h.bytes (b ∷ []);
              is_lead = h.is_lead;
              place = h.place;
              few = omega (arith, length-append h.bytes (b ∷ []));
              some = omega (arith, length-append h.bytes (b ∷ []));
              fits = fits_more h.bytes b h.fits y.0;
            })
        | inr bad ↦ no_part after bad.1
      ]
    ]
  where
    fits_more : (bytes : List ℕ) (b : ℕ) → ((k : ℕ) → k < length bytes → fits_uuid k (get_or bytes k 0) ≡ true) → fits_uuid (length bytes) b ≡ true →
        (k : ℕ) → k < length (bytes ++ b ∷ []) → fits_uuid k (get_or (bytes ++ b ∷ []) k 0) ≡ true
    fits_more bytes b before last k l =
        elim (cases_lt k (length bytes)) [
          | inl under ↦ subst (λ (c : ℕ). fits_uuid k c ≡ true) (sym (get_or_append_left bytes (b ∷ []) 0 k under)) (before k under)
          | inr over ↦
              let is : length bytes ≡ k = omega (arith, length-append bytes (b ∷ [])) in
              subst (λ (c : ℕ). fits_uuid k c ≡ true) (sym (get_or_push bytes b 0 k is)) (subst (λ (n : ℕ). fits_uuid n b ≡ true) is last)
        ]

-- a byte that is taken leaves a front of a text
pub stands_next : (text : List ℕ) (spans : List Span) (part after : Part) (b : ℕ) → Stands text spans part → next text part b ≡ Some after →
    Stands (text ++ b ∷ []) (spans ++ ended part b) after
stands_next text spans (Prefix count) after b h e = stay (text ++ b ∷ []) spans (ended (Prefix count) b) after (none_ended (Prefix count) b refl) (prefix_step text spans count after b h e)
stands_next text spans Opening after b h e = stay (text ++ b ∷ []) spans (ended Opening b) after (none_ended Opening b refl) (opening_step text spans after b h.0 h.1 e)
stands_next text spans Gap after b h e = stay (text ++ b ∷ []) spans (ended Gap b) after (none_ended Gap b refl) (gap_step text spans after b h e)
stands_next text spans (UuidText from) after b h e = stay (text ++ b ∷ []) spans (ended (UuidText from) b) after (none_ended (UuidText from) b refl) (uuid_step text spans from after b h e)
stands_next text spans (First uuid from n) after b h e = first_step text uuid from n spans after b h e
stands_next text spans (Last uuid first first_at from n) after b h e = last_step text uuid first first_at from n spans after b h e
stands_next text spans Closing after b h e = stay (text ++ b ∷ []) spans (ended Closing b) after (none_ended Closing b refl) (behind_done text spans after b h e)

pub stands_first : Stands [] [] Opening
stands_first = (record { front = []; blanks = []; are = refl; is_prefix = inl refl; are_blanks = refl }, refl)

closed_text : (text : List ℕ) (spans : List Span) → IsClosed text spans → IsSetText text spans
closed_text text spans h =
    let d = h.is_done in
    record {
      opening = d.opening;
      items = d.items;
      closing = h.blanks;
      are = h.are ∙ (ap (λ (t : List ℕ). t ++ h.blanks) d.are ∙ append_assoc d.opening d.items h.blanks);
      is_opening = d.is_opening;
      groups = d.groups;
      are_items = d.are_items;
      are_spans = d.are_spans;
      are_blanks = h.are_blanks;
    }

lt-from : (a b : ℕ) → nat_lt a b ≡ true → a < b
lt-from a b h = grind (arith, nat_tests)

-- where a text may end it is that of a set
pub stands_end : (text : List ℕ) (spans : List Span) (part : Part) → Stands text spans part → may_end (length text) part ≡ true → IsSetText text (spans ++ begun part)
stands_end text spans Opening h e = record {
  opening = text;
  items = [];
  closing = [];
  are = sym (append-nil text);
  is_opening = h.0;
  groups = [];
  are_items = refl;
  are_spans = append-nil spans ∙ h.1;
  are_blanks = refl;
}
stands_end text spans (First uuid from n) h e =
    closed_text text (spans ++ begun (First uuid from n)) (closed text uuid (spans ++ begun (First uuid from n)) (first_spanned text uuid from n spans h (lt-from from (length text) e)))
stands_end text spans (Last uuid first first_at from n) h e =
    closed_text text (spans ++ begun (Last uuid first first_at from n)) (closed text uuid (spans ++ begun (Last uuid first first_at from n)) (last_spanned text uuid first first_at from n spans h (lt-from from (length text) e)))
stands_end text spans Closing h e = subst (λ (s : List Span). IsSetText text s) (sym (append-nil spans)) (closed_text text spans h)
stands_end text spans (Prefix count) h e = let c : false ≡ true = e in cc
stands_end text spans Gap h e = let c : false ≡ true = e in cc
stands_end text spans (UuidText from) h e = let c : false ≡ true = e in cc
