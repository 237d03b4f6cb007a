-- Where the first number over the greatest comes into the spans so far: with its 19th digit, and then it stays.
use Rattle.std.proofs.Common.{◌≡◌, ℕ, ◌+◌, ◌-◌, ◌^◌, ◌<◌, ◌≤◌, ◌⊎◌, true, false, ◌&&◌, ◌==◌, nat_lt, nat_le, nat_eq, List, [], ◌∷◌, ◌++◌, length, length-append, get_or, drop, codes, Option, Some, None, refl, ap, sym, subst, ◌∙◌, inl, inr, eqb-true, arith}
use Rattle.std.proofs.Math.Nat.{pow-le-pow_right}
use Rattle.std.proofs.lemmas.Bool.{and_parts, cases_Bool, cases_lt, le-ltb}
use Rattle.std.proofs.lemmas.Bool.Decides.{nat_tests}
use Rattle.std.proofs.lemmas.List.{append-nil}
use Rattle.std.proofs.lemmas.Int.Digits.{digits_value-lt}
use Rattle.std.specs.List.{list_all}
use Rattle.std.specs.Option.{option_or}
use Rattle.std.specs.Char.{is_ascii_digit, digit_value}
use Rattle.std.specs.Str.Parse.{digits_value, AllDigits}
use Rattle.uuid.specs.Text.{is_hex_digit}
use Rattle.vs_gtid.specs.declared.span.Span.{Span}
use Rattle.vs_gtid.specs.declared.part.Part.{Part}
use Rattle.vs_gtid.specs.declared.part.Part.TheVariants.{Prefix, Opening, Gap, UuidText, First, Last, Closing}
use Rattle.vs_gtid.specs.SetTexts.{is_blank}
use Rattle.vs_gtid.specs.Parts.{begun, ended, fits_uuid, goes_on, in_first, in_last, with_digit, behind_item, behind_span, next}
use Rattle.vs_gtid.specs.Readings.{first_place, greatest, over_at}
use Rattle.vs_gtid.proofs.SetTextComplete.{none_ended}
use Rattle.vs_gtid.proofs.SetTextStands.{AreDigits, IsInFirst, IsInLast, Stands}
use Rattle.vs_gtid.proofs.SetTextSteps.{digit_goes, goes_ended, map_some, map_some_uuid, more_digits, no_digit_no_dash, no_part, pick, some-part}

or_none : (o : Option ℕ) → option_or o None ≡ o
or_none None = refl
or_none (Some x) = refl

or_assoc : (a b c : Option ℕ) → option_or a (option_or b c) ≡ option_or (option_or a b) c
or_assoc None b c = refl
or_assoc (Some x) b c = refl

pub first_place-append : (f : Span → Option ℕ) (xs ys : List Span) → first_place f (xs ++ ys) ≡ option_or (first_place f xs) (first_place f ys)
first_place-append f [] ys = refl
first_place-append f (x ∷ xs) ys = ap (λ (o : Option ℕ). option_or (f x) o) (first_place-append f xs ys) ∙ or_assoc (f x) (first_place f xs) (first_place f ys)

-- the step ends what had begun, and what begins has no number over the greatest
pub record Ends (part : Part) (b : ℕ) (after : Part) : Type 0 where
  pub ended_all : ended part b ≡ begun part
  pub fresh : first_place over_at (begun after) ≡ None

-- or it goes on with what had begun
pub record GoesOn (part : Part) (b : ℕ) (after : Part) (at : ℕ) : Type 0 where
  pub none : ended part b ≡ []
  pub stays : (q : ℕ) → first_place over_at (begun part) ≡ Some q → first_place over_at (begun after) ≡ Some q
  pub comes : first_place over_at (begun part) ≡ None → (first_place over_at (begun after) ≡ None) ⊎ ((q : ℕ) × (first_place over_at (begun after) ≡ Some q) × (q + 19 ≡ at + 1))

all_digits : (ds : List ℕ) → list_all is_ascii_digit ds ≡ true → AllDigits 10 ds
all_digits [] h = tt
all_digits (d ∷ ds) h =
    let p = and_parts (is_ascii_digit d) (list_all is_ascii_digit ds) h in
    (digit_small d p.0, all_digits ds p.1)
  where
    digit_small : (d : ℕ) → is_ascii_digit d ≡ true → digit_value d < 10
    digit_small d h = grind (arith, nat_tests)

-- 18 digits make no number over the greatest
pub few_digits : (ds : List ℕ) (n : ℕ) → AreDigits ds n → length ds ≤ 18 → nat_lt greatest n ≡ false
few_digits ds n h l =
    let below : digits_value 10 ds < 10 ^ length ds = digits_value-lt 10 ds (all_digits ds h.all) in
    let few : 10 ^ length ds ≤ 10 ^ 18 = pow-le-pow_right {n = 10} (omega arith) {i = length ds} {j = 18} l in
    le-ltb greatest n (omega (arith, below, few, h.worth))

with_room : (count n b m : ℕ) → with_digit count n b ≡ Some m → count < 19
with_room count n b m h = elim (cases_lt count 19) [
  | inl l ↦ l
  | inr g ↦ let f : nat_lt count 19 ≡ false = le-ltb count 19 g in (let no : None ≡ Some m = (rw f at h) in absurd (cc))
]

-- what begins behind a span or an item
fresh_item : (b : ℕ) (after : Part) → behind_item b ≡ Some after → first_place over_at (begun after) ≡ None
fresh_item b after e =
    elim (pick (is_blank b) _ _ after e) [
      | inl y ↦ subst (λ (p : Part). first_place over_at (begun p) ≡ None) (some-part Closing after y.1) refl
      | inr n ↦ elim (pick (b == 44) _ _ after n.1) [
        | inl y ↦ subst (λ (p : Part). first_place over_at (begun p) ≡ None) (some-part Gap after y.1) refl
        | inr bad ↦ no_part after bad.1
      ]
    ]

fresh_span : (uuid : List ℕ) (at b : ℕ) (after : Part) → behind_span uuid at b ≡ Some after → first_place over_at (begun after) ≡ None
fresh_span uuid at b after e =
    elim (pick (b == 58) _ _ after e) [
      | inl y ↦ subst (λ (p : Part). first_place over_at (begun p) ≡ None) (some-part (First uuid (at + 1) 0) after y.1) refl
      | inr n ↦ fresh_item b after n.1
    ]

ends_by : (part after : Part) (b : ℕ) → goes_on b ≡ false → first_place over_at (begun after) ≡ None → Ends part b after
ends_by part after b g f = record { ended_all = rw g refl; fresh = f }

quiet_step : (part after : Part) (b : ℕ) → begun part ≡ [] → first_place over_at (begun after) ≡ None → Ends part b after
quiet_step part after b n f = record { ended_all = none_ended part b n ∙ sym n; fresh = f }

-- one digit more
first_digit : (text uuid : List ℕ) (from n m b : ℕ) (spans : List Span) → IsInFirst text uuid from n spans → is_ascii_digit b ≡ true →
    with_digit (length text - from) n b ≡ Some m → GoesOn (First uuid from n) b (First uuid from m) (length text)
first_digit text uuid from n m b spans h d e =
    let count : length text - from ≡ length h.digits = omega (arith, ap length h.are, length-append h.item (58 ∷ h.digits), h.place) in
    let room : length text - from < 19 = with_room (length text - from) n b m e in
    let small : nat_lt greatest n ≡ false = few_digits h.digits n h.are_digits (omega (arith, count)) in
    let more = more_digits h.digits n b m (length text - from) h.are_digits count d e in
    let before : first_place over_at (begun (First uuid from n)) ≡ None = rw small refl in
    record {
      none = goes_ended (First uuid from n) b (digit_goes b d);
      stays = λ q s. absurd (let no : None ≡ Some q = sym before ∙ s in cc);
      comes = λ _. elim (cases_lt (length h.digits) 18) [
        | inl l ↦ inl (let still : nat_lt greatest m ≡ false = few_digits (h.digits ++ b ∷ []) m more (omega (arith, length-append h.digits (b ∷ []))) in rw still refl)
        | inr g ↦ elim (cases_Bool (nat_lt greatest m)) [
          | inl y ↦ inr (from, rw y refl, omega (arith, count, room, ap length h.are, length-append h.item (58 ∷ h.digits), h.place))
          | inr small_still ↦ inl (rw small_still refl)
        ]
      ];
    }

last_digit : (text uuid : List ℕ) (first first_at from n m b : ℕ) (spans : List Span) → IsInLast text uuid first first_at from n spans → is_ascii_digit b ≡ true →
    with_digit (length text - from) n b ≡ Some m → GoesOn (Last uuid first first_at from n) b (Last uuid first first_at from m) (length text)
last_digit text uuid first first_at from n m b spans h d e =
    let long : length text ≡ length h.item + 1 + length h.front + 1 + length h.digits =
    ap length h.are ∙ (length-append h.item (58 ∷ (h.front ++ 45 ∷ h.digits)) ∙ omega (arith, length-append h.front (45 ∷ h.digits))) in
    let count : length text - from ≡ length h.digits = omega (arith, long, h.place, h.first_place) in
    let room : length text - from < 19 = with_room (length text - from) n b m e in
    let small : nat_lt greatest n ≡ false = few_digits h.digits n h.are_digits (omega (arith, count)) in
    let more = more_digits h.digits n b m (length text - from) h.are_digits count d e in
    record {
      none = goes_ended (Last uuid first first_at from n) b (digit_goes b d);
      stays = λ q s. elim (cases_Bool (nat_lt greatest first)) [
        | inl y ↦ rw y (rw y at s)
        | inr k ↦ absurd (let no : None ≡ Some q = (rw (k, small) at s) in cc)
      ];
      comes = λ s. elim (cases_Bool (nat_lt greatest first)) [
        | inl y ↦ absurd (let no : Some first_at ≡ None = (rw y at s) in cc)
        | inr k ↦ elim (cases_lt (length h.digits) 18) [
          | inl l ↦ inl (let still : nat_lt greatest m ≡ false = few_digits (h.digits ++ b ∷ []) m more (omega (arith, length-append h.digits (b ∷ []))) in rw (k, still) refl)
          | inr g ↦ elim (cases_Bool (nat_lt greatest m)) [
            | inl y ↦ inr (from, rw (k, y) refl, omega (arith, count, room, long, h.place, h.first_place))
            | inr small_still ↦ inl (rw (k, small_still) refl)
          ]
        ]
      ];
    }

-- the dash between two numbers
dash : (uuid : List ℕ) (from n at b : ℕ) → goes_on b ≡ true → GoesOn (First uuid from n) b (Last uuid n from (at + 1) 0) at
dash uuid from n at b g =
    elim (cases_Bool (nat_lt greatest n)) [
      | inl y ↦ record { none = goes_ended (First uuid from n) b g; stays = λ q s. rw y (rw y at s); comes = λ s. absurd (let no : Some from ≡ None = (rw y at s) in cc) }
      | inr k ↦ record { none = goes_ended (First uuid from n) b g; stays = λ q s. absurd (let no : None ≡ Some q = (rw k at s) in cc); comes = λ s. inl (rw k refl) }
    ]

overs_first : (text uuid : List ℕ) (from n : ℕ) (spans : List Span) (after : Part) (b : ℕ) → IsInFirst text uuid from n spans → in_first uuid from n (length text) b ≡ Some after →
    Ends (First uuid from n) b after ⊎ GoesOn (First uuid from n) b after (length text)
overs_first text uuid from n spans after b h e =
    elim (pick (is_ascii_digit b) _ _ after e) [
      | inl d ↦
          let m = map_some (λ k. First uuid from k) (with_digit (length text - from) n b) after d.1 in
          inr (subst (λ (p : Part). GoesOn (First uuid from n) b p (length text)) m.2 (first_digit text uuid from n m.0 b spans h d.0 m.1))
      | inr nd ↦ elim (pick (nat_le (length text) from) _ _ after nd.1) [
        | inl bad ↦ no_part after bad.1
        | inr some ↦ elim (pick (b == 45) _ _ after some.1) [
          | inl y ↦ inr (subst (λ (p : Part). GoesOn (First uuid from n) b p (length text)) (some-part (Last uuid n from (length text + 1) 0) after y.1)
              (dash uuid from n (length text) b (rw (nd.0, y.0) refl)))
          | inr nn ↦ inl (ends_by (First uuid from n) after b (no_digit_no_dash b nd.0 nn.0) (fresh_span uuid (length text) b after nn.1))
        ]
      ]
    ]

overs_last : (text uuid : List ℕ) (first first_at from n : ℕ) (spans : List Span) (after : Part) (b : ℕ) → IsInLast text uuid first first_at from n spans →
    in_last uuid first first_at from n (length text) b ≡ Some after → Ends (Last uuid first first_at from n) b after ⊎ GoesOn (Last uuid first first_at from n) b after (length text)
overs_last text uuid first first_at from n spans after b h e =
    let part : Part = Last uuid first first_at from n in
    elim (pick (is_ascii_digit b) _ _ after e) [
      | inl d ↦
          let m = map_some (λ k. Last uuid first first_at from k) (with_digit (length text - from) n b) after d.1 in
          inr (subst (λ (p : Part). GoesOn part b p (length text)) m.2 (last_digit text uuid first first_at from n m.0 b spans h d.0 m.1))
      | inr nd ↦ elim (pick (nat_le (length text) from) _ _ after nd.1) [
        | inl bad ↦ no_part after bad.1
        | inr some ↦ elim (cases_Bool (b == 45)) [
          | inl y ↦
              let no : None ≡ Some after = subst (λ (c : ℕ). behind_span uuid (length text) c ≡ Some after) (eqb-true b 45 y) some.1 in
              no_part after no
          | inr nn ↦ inl (ends_by part after b (no_digit_no_dash b nd.0 nn) (fresh_span uuid (length text) b after some.1))
        ]
      ]
    ]

-- each step does the one or the other
pub overs_next : (text : List ℕ) (spans : List Span) (part after : Part) (b : ℕ) → Stands text spans part → next text part b ≡ Some after →
    Ends part b after ⊎ GoesOn part b after (length text)
overs_next text spans (First uuid from n) after b h e = overs_first text uuid from n spans after b h e
overs_next text spans (Last uuid first first_at from n) after b h e = overs_last text uuid first first_at from n spans after b h e
overs_next text spans Closing after b h e = inl (quiet_step Closing after b refl (fresh_item b after e))
overs_next text spans (Prefix count) after b h e =
    elim (pick (b == get_or (codes "MySQL56/") count 0) _ _ after e) [
      | inl y ↦ elim (cases_Bool (count == 7)) [
        | inl l ↦ inl (quiet_step (Prefix count) after b refl (subst (λ (p : Part). first_place over_at (begun p) ≡ None) (some-part Opening after (rw l at y.1)) refl))
        | inr o ↦ inl (quiet_step (Prefix count) after b refl (subst (λ (p : Part). first_place over_at (begun p) ≡ None) (some-part (Prefix (count + 1)) after (rw o at y.1)) refl))
      ]
      | inr bad ↦ no_part after bad.1
    ]
overs_next text spans Opening after b h e =
    elim (pick (is_blank b) _ _ after e) [
      | inl y ↦ inl (quiet_step Opening after b refl (subst (λ (p : Part). first_place over_at (begun p) ≡ None) (some-part Opening after y.1) refl))
      | inr n ↦ elim (pick (is_hex_digit b) _ _ after n.1) [
        | inl y ↦ inl (quiet_step Opening after b refl (subst (λ (p : Part). first_place over_at (begun p) ≡ None) (some-part (UuidText (length text)) after y.1) refl))
        | inr m ↦ elim (pick (nat_eq (length text) 0 && (b == 77)) _ _ after m.1) [
          | inl y ↦ inl (quiet_step Opening after b refl (subst (λ (p : Part). first_place over_at (begun p) ≡ None) (some-part (Prefix 1) after y.1) refl))
          | inr bad ↦ no_part after bad.1
        ]
      ]
    ]
overs_next text spans Gap after b h e =
    elim (pick (is_blank b) _ _ after e) [
      | inl y ↦ inl (quiet_step Gap after b refl (subst (λ (p : Part). first_place over_at (begun p) ≡ None) (some-part Gap after y.1) refl))
      | inr n ↦ elim (pick (is_hex_digit b) _ _ after n.1) [
        | inl y ↦ inl (quiet_step Gap after b refl (subst (λ (p : Part). first_place over_at (begun p) ≡ None) (some-part (UuidText (length text)) after y.1) refl))
        | inr bad ↦ no_part after bad.1
      ]
    ]
overs_next text spans (UuidText from) after b h e =
    elim (pick (length (drop from text) == 36) _ _ after e) [
      | inl full ↦ elim (pick (b == 58) _ _ after full.1) [
        | inl colon ↦
            let m = map_some_uuid (λ uuid. First uuid (from + 37) 0) _ after colon.1 in
            inl (quiet_step (UuidText from) after b refl (subst (λ (p : Part). first_place over_at (begun p) ≡ None) m.2 refl))
        | inr bad ↦ no_part after bad.1
      ]
      | inr short ↦ elim (pick (fits_uuid (length (drop from text)) b) _ _ after short.1) [
        | inl y ↦ inl (quiet_step (UuidText from) after b refl (subst (λ (p : Part). first_place over_at (begun p) ≡ None) (some-part (UuidText from) after y.1) refl))
        | inr bad ↦ no_part after bad.1
      ]
    ]

pub over_ended : (spans : List Span) (part after : Part) (b : ℕ) → Ends part b after → first_place over_at ((spans ++ ended part b) ++ begun after) ≡ first_place over_at (spans ++ begun part)
over_ended spans part after b h =
    first_place-append over_at (spans ++ ended part b) (begun after)
    ∙ (ap (λ (o : Option ℕ). option_or (first_place over_at (spans ++ ended part b)) o) h.fresh
    ∙ (or_none (first_place over_at (spans ++ ended part b)) ∙ ap (λ (x : List Span). first_place over_at (spans ++ x)) h.ended_all))

over_gone_on : (spans : List Span) (part after : Part) (b at : ℕ) → GoesOn part b after at →
    first_place over_at ((spans ++ ended part b) ++ begun after) ≡ option_or (first_place over_at spans) (first_place over_at (begun after))
over_gone_on spans part after b at h =
    first_place-append over_at (spans ++ ended part b) (begun after)
    ∙ ap (λ (x : List Span). option_or (first_place over_at x) (first_place over_at (begun after))) (ap (λ (x : List Span). spans ++ x) h.none ∙ append-nil spans)

or_some : (a b c : Option ℕ) (q : ℕ) → option_or a b ≡ Some q → ((r : ℕ) → b ≡ Some r → c ≡ Some r) → option_or a c ≡ Some q
or_some None b c q h k = k q h
or_some (Some x) b c q h k = h

or_nones : (a b : Option ℕ) → option_or a b ≡ None → (a ≡ None) × (b ≡ None)
or_nones None b h = (refl, h)
or_nones (Some x) b h = let no : Some x ≡ None = h in absurd (cc)

-- the first place stays, where what had begun ends or goes on
pub over_stays : (spans : List Span) (part after : Part) (b at q : ℕ) → Ends part b after ⊎ GoesOn part b after at → first_place over_at (spans ++ begun part) ≡ Some q →
    first_place over_at ((spans ++ ended part b) ++ begun after) ≡ Some q
over_stays spans part after b at q (inl h) s = over_ended spans part after b h ∙ s
over_stays spans part after b at q (inr h) s =
    over_gone_on spans part after b at h
    ∙ or_some (first_place over_at spans) (first_place over_at (begun part)) (first_place over_at (begun after)) q (sym (first_place-append over_at spans (begun part)) ∙ s) h.stays

-- and it comes with a 19th digit
pub over_comes : (spans : List Span) (part after : Part) (b at : ℕ) → Ends part b after ⊎ GoesOn part b after at → first_place over_at (spans ++ begun part) ≡ None →
    (first_place over_at ((spans ++ ended part b) ++ begun after) ≡ None) ⊎ ((q : ℕ) × (first_place over_at ((spans ++ ended part b) ++ begun after) ≡ Some q) × (q + 19 ≡ at + 1))
over_comes spans part after b at (inl h) s = inl (over_ended spans part after b h ∙ s)
over_comes spans part after b at (inr h) s =
    let p = or_nones (first_place over_at spans) (first_place over_at (begun part)) (sym (first_place-append over_at spans (begun part)) ∙ s) in
    let e : first_place over_at ((spans ++ ended part b) ++ begun after) ≡ first_place over_at (begun after) =
    over_gone_on spans part after b at h ∙ ap (λ (o : Option ℕ). option_or o (first_place over_at (begun after))) p.0 in
    elim (h.comes p.1) [ inl n ↦ inl (e ∙ n) | inr c ↦ inr (c.0, e ∙ c.1, c.2) ]
