-- How far a scan goes, and that what it took can be completed.
use Rattle.std.proofs.Common.{◌≡◌, ℕ, zero, suc, ◌+◌, ◌-◌, ◌<◌, ◌⊎◌, true, false, ◌==◌, List, [], ◌∷◌, ◌++◌, length, length-append, get_or, drop, Option, Some, None, unwrap_or, refl, ap, sym, subst, ◌∙◌, inl, inr, arith}
use Rattle.std.proofs.lemmas.Bool.{cases_Bool, cases_lt, lt-ltb, eq-eqb, ne_eqb}
use Rattle.std.proofs.lemmas.List.{append-nil, drop_at}
use Rattle.std.specs.Option.{option_or}
use Rattle.std.specs.Bool.{if◌then◌else◌}
use Rattle.uuid.specs.Text.{is_hyphen_place}
use Rattle.vs_gtid.specs.declared.span.Span.{Span}
use Rattle.vs_gtid.specs.declared.part.Part.{Part}
use Rattle.vs_gtid.specs.declared.part.Part.TheVariants.{Prefix, Opening, Gap, UuidText, First, Last, Closing}
use Rattle.vs_gtid.specs.SetTexts.{prefix, IsSetText}
use Rattle.vs_gtid.specs.Parts.{begun, end_of, ended, fits_uuid, in_uuid, may_end, next, scanned_from, span, Scanned}
use Rattle.vs_gtid.specs.Readings.{first_place, over_at}
use Rattle.vs_gtid.proofs.ScanLemmas.{scan_none, scan_some, scan_end}
use Rattle.vs_gtid.proofs.UuidLemmas.{uuid_from_fits}
use Rattle.vs_gtid.proofs.SetTextComplete.{moved, none_ended}
use Rattle.vs_gtid.proofs.SetTextItems.{colon_next, uuid_next}
use Rattle.vs_gtid.proofs.SetTextStands.{AreDigits, IsInFirst, IsInLast, IsInPrefix, IsInUuid, Stands}
use Rattle.vs_gtid.proofs.SetTextSteps.{stands_end, stands_next}
use Rattle.vs_gtid.proofs.SetTextOver.{first_place-append, over_comes, over_stays, overs_next}

pub cases_Option : {A : Type 0} (o : Option A) → (o ≡ None) ⊎ ((a : A) × (o ≡ Some a))
cases_Option None = inl refl
cases_Option (Some a) = inr (a, refl)

-- behind these bytes a scan goes on from this part, whatever comes
pub record Reaches (front : List ℕ) (spans : List Span) (part : Part) (taken : List ℕ) (kept : List Span) (after : Part) : Type 0 where
  pub goes : (rest : List ℕ) → scanned_from front spans part (taken ++ rest) ≡ scanned_from (front ++ taken) kept after rest
  pub stands : Stands (front ++ taken) kept after

reached_here : (front : List ℕ) (spans : List Span) (part : Part) → Stands front spans part → Reaches front spans part [] spans part
reached_here front spans part h = record {
  goes = λ rest. ap (λ (f : List ℕ). scanned_from f spans part rest) (sym (append-nil front));
  stands = subst (λ (f : List ℕ). Stands f spans part) (sym (append-nil front)) h;
}

-- one byte, and then the others
reached_more : (front : List ℕ) (spans : List Span) (part mid : Part) (b : ℕ) (taken : List ℕ) (kept : List Span) (after : Part) → next front part b ≡ Some mid →
    Reaches (front ++ b ∷ []) (spans ++ ended part b) mid taken kept after → Reaches front spans part (b ∷ taken) kept after
reached_more front spans part mid b taken kept after e r = record {
  goes = λ rest.
      scan_some front spans part mid b (taken ++ rest) e
      ∙ (r.goes rest ∙ ap (λ (f : List ℕ). scanned_from f kept after rest) (moved front b taken));
  stands = subst (λ (f : List ℕ). Stands f kept after) (moved front b taken) r.stands;
}

-- nothing is left, or a byte that doesn't fit
abbrev pub Stops : List ℕ → Part → List ℕ → Type 0
Stops front part [] = Unit {0}
Stops front part (b ∷ rest) = next front part b ≡ None

-- as far as a scan goes
pub record Walk (front : List ℕ) (spans : List Span) (part : Part) (text : List ℕ) : Type 0 where
  pub taken : List ℕ
  pub left : List ℕ
  pub are : text ≡ taken ++ left
  pub kept : List Span
  pub after : Part
  pub reaches : Reaches front spans part taken kept after
  pub stops : Stops (front ++ taken) after left

pub walk : (text front : List ℕ) (spans : List Span) (part : Part) → Stands front spans part → Walk front spans part text
walk [] front spans part h =
    record { taken = []; left = []; are = refl; kept = spans; after = part; reaches = reached_here front spans part h; stops = tt }
walk (b ∷ rest) front spans part h =
    elim (cases_Option (next front part b)) [
      | inl e ↦ record {
        taken = [];
        left = b ∷ rest;
        are = refl;
        kept = spans;
        after = part;
        reaches = reached_here front spans part h;
        stops = subst (λ (f : List ℕ). next f part b ≡ None) (sym (append-nil front)) e;
      }
      | inr s ↦
          let w = walk rest (front ++ b ∷ []) (spans ++ ended part b) s.0 (stands_next front spans part s.0 b h s.1) in
          record {
            taken = b ∷ w.taken;
            left = w.left;
            are = ap (λ (t : List ℕ). b ∷ t) w.are;
            kept = w.kept;
            after = w.after;
            reaches = reached_more front spans part s.0 b w.taken w.kept w.after s.1 w.reaches;
            stops = subst (λ (f : List ℕ). Stops f w.after w.left) (moved front b w.taken) w.stops;
          }
    ]

-- what a scan gives that stops
pub stopped : (front : List ℕ) (spans : List Span) (part : Part) (b : ℕ) (rest : List ℕ) → next front part b ≡ None →
    (scanned_from front spans part (b ∷ rest)).stop ≡ Some (length front)
stopped front spans part b rest e = ap (λ (s : Scanned). s.stop) (scan_none front spans part b rest e)

end_parts : (part : Part) (at : ℕ) → end_of part at ≡ None → may_end at part ≡ true
end_parts part at h = elim (cases_Bool (may_end at part)) [ inl y ↦ y | inr n ↦ let e : Some at ≡ None = (rw n at h) in absurd (cc) ]

-- a text that is scanned to its end is that of a set
pub sound : (front : List ℕ) (spans : List Span) (part : Part) (text : List ℕ) → Stands front spans part → (scanned_from front spans part text).stop ≡ None →
    IsSetText (front ++ text) (scanned_from front spans part text).spans
sound front spans part text h e =
    let w = walk text front spans part h in
    at_end w.left w.taken w.kept w.after w.are w.reaches w.stops
  where
    at_end : (left taken : List ℕ) (kept : List Span) (after : Part) → text ≡ taken ++ left → Reaches front spans part taken kept after → Stops (front ++ taken) after left →
        IsSetText (front ++ text) (scanned_from front spans part text).spans
    at_end [] taken kept after are r s =
        let same : text ≡ taken = are ∙ append-nil taken in
        let is : scanned_from front spans part text ≡ record { spans = kept ++ begun after; stop = end_of after (length (front ++ taken)) } =
        ap (λ (t : List ℕ). scanned_from front spans part t) are ∙ (r.goes [] ∙ scan_end (front ++ taken) kept after) in
        let ends : end_of after (length (front ++ taken)) ≡ None = sym (ap (λ (x : Scanned). x.stop) is) ∙ e in
        subst (λ (x : List Span). IsSetText (front ++ text) x) (sym (ap (λ (x : Scanned). x.spans) is))
        (subst (λ (t : List ℕ). IsSetText (front ++ t) (kept ++ begun after)) (sym same) (stands_end (front ++ taken) kept after r.stands (end_parts after (length (front ++ taken)) ends)))
    at_end (b ∷ rest) taken kept after are r s =
        let is : (scanned_from front spans part text).stop ≡ Some (length (front ++ taken)) =
        ap (λ (t : List ℕ). (scanned_from front spans part t).stop) are ∙ (ap (λ (x : Scanned). x.stop) (r.goes (b ∷ rest)) ∙ stopped (front ++ taken) kept after b rest s) in
        let no : None ≡ Some (length (front ++ taken)) = sym e ∙ is in
        absurd (cc)

-- a number over the greatest stays the first
pub over_kept : (text front : List ℕ) (spans : List Span) (part : Part) (q : ℕ) → Stands front spans part → first_place over_at (spans ++ begun part) ≡ Some q →
    first_place over_at (scanned_from front spans part text).spans ≡ Some q
over_kept [] front spans part q h s = ap (λ (x : Scanned). first_place over_at x.spans) (scan_end front spans part) ∙ s
over_kept (b ∷ rest) front spans part q h s =
    elim (cases_Option (next front part b)) [
      | inl e ↦ ap (λ (x : Scanned). first_place over_at x.spans) (scan_none front spans part b rest e) ∙ s
      | inr n ↦
          ap (λ (x : Scanned). first_place over_at x.spans) (scan_some front spans part n.0 b rest n.1)
          ∙ over_kept rest (front ++ b ∷ []) (spans ++ ended part b) n.0 q (stands_next front spans part n.0 b h n.1)
          (over_stays spans part n.0 b (length front) q (overs_next front spans part n.0 b h n.1) s)
    ]

-- where a number came to be over the greatest
pub record Found (front : List ℕ) (spans : List Span) (part : Part) (text : List ℕ) (q : ℕ) : Type 0 where
  pub taken : List ℕ
  pub left : List ℕ
  pub are : text ≡ taken ++ left
  pub kept : List Span
  pub after : Part
  pub reaches : Reaches front spans part taken kept after
  pub over : first_place over_at (kept ++ begun after) ≡ Some q
  pub place : length (front ++ taken) ≡ q + 19

some-nat : (x y : ℕ) → Some x ≡ Some y → x ≡ y
some-nat x y h = ap (λ (o : Option ℕ). unwrap_or o 0) h

pub over_found : (text front : List ℕ) (spans : List Span) (part : Part) (q : ℕ) → Stands front spans part → first_place over_at (spans ++ begun part) ≡ None →
    first_place over_at (scanned_from front spans part text).spans ≡ Some q → Found front spans part text q
over_found [] front spans part q h s e =
    let no : None ≡ Some q = sym (ap (λ (x : Scanned). first_place over_at x.spans) (scan_end front spans part) ∙ s) ∙ e in
    absurd (cc)
over_found (b ∷ rest) front spans part q h s e =
    elim (cases_Option (next front part b)) [
      | inl k ↦
          let no : None ≡ Some q = sym (ap (λ (x : Scanned). first_place over_at x.spans) (scan_none front spans part b rest k) ∙ s) ∙ e in
          absurd (cc)
      | inr n ↦
          let front2 : List ℕ = front ++ b ∷ [] in
          let spans2 : List Span = spans ++ ended part b in
          let stands2 = stands_next front spans part n.0 b h n.1 in
          let e2 : first_place over_at (scanned_from front2 spans2 n.0 rest).spans ≡ Some q =
          sym (ap (λ (x : Scanned). first_place over_at x.spans) (scan_some front spans part n.0 b rest n.1)) ∙ e in
          elim (over_comes spans part n.0 b (length front) (overs_next front spans part n.0 b h n.1) s) [
            | inl still ↦
                let f = over_found rest front2 spans2 n.0 q stands2 still e2 in
                record {
                  taken = b ∷ f.taken;
                  left = f.left;
                  are = ap (λ (t : List ℕ). b ∷ t) f.are;
                  kept = f.kept;
                  after = f.after;
                  reaches = reached_more front spans part n.0 b f.taken f.kept f.after n.1 f.reaches;
                  over = f.over;
                  place = ap length (sym (moved front b f.taken)) ∙ f.place;
                }
            | inr c ↦
                let same : c.0 ≡ q = some-nat c.0 q (sym (over_kept rest front2 spans2 n.0 c.0 stands2 c.1) ∙ e2) in
                record {
                  taken = b ∷ [];
                  left = rest;
                  are = refl;
                  kept = spans2;
                  after = n.0;
                  reaches = reached_more front spans part n.0 b [] spans2 n.0 n.1 (reached_here front2 spans2 n.0 stands2);
                  over = c.1 ∙ ap (λ (x : ℕ). Some x) same;
                  place = length-append front (b ∷ []) ∙ (sym c.2 ∙ ap (λ (x : ℕ). x + 19) same);
                }
          ]
    ]

-- some bytes complete a text, and add no number over the greatest
pub record Completes (front : List ℕ) (spans : List Span) (part : Part) : Type 0 where
  pub more : List ℕ
  pub ends : (scanned_from front spans part more).stop ≡ None
  pub over : first_place over_at (scanned_from front spans part more).spans ≡ first_place over_at (spans ++ begun part)

-- at once
completes_now : (front : List ℕ) (spans : List Span) (part : Part) → may_end (length front) part ≡ true → Completes front spans part
completes_now front spans part h = record {
  more = [];
  ends = ap (λ (x : Scanned). x.stop) (scan_end front spans part) ∙ rw h refl;
  over = ap (λ (x : Scanned). first_place over_at x.spans) (scan_end front spans part);
}

-- a byte later
completes_next : (front : List ℕ) (spans : List Span) (part after : Part) (b : ℕ) → next front part b ≡ Some after →
    first_place over_at ((spans ++ ended part b) ++ begun after) ≡ first_place over_at (spans ++ begun part) → Completes (front ++ b ∷ []) (spans ++ ended part b) after → Completes front spans part
completes_next front spans part after b e o c = record {
  more = b ∷ c.more;
  ends = ap (λ (x : Scanned). x.stop) (scan_some front spans part after b c.more e) ∙ c.ends;
  over = ap (λ (x : Scanned). first_place over_at x.spans) (scan_some front spans part after b c.more e) ∙ (c.over ∙ o);
}

over_alike : (spans xs ys : List Span) → first_place over_at xs ≡ first_place over_at ys → first_place over_at ((spans ++ []) ++ xs) ≡ first_place over_at (spans ++ ys)
over_alike spans xs ys h =
    ap (λ (s : List Span). first_place over_at (s ++ xs)) (append-nil spans)
    ∙ (first_place-append over_at spans xs ∙ (ap (λ (o : Option ℕ). option_or (first_place over_at spans) o) h ∙ sym (first_place-append over_at spans ys)))

-- a number without a digit gets a 1
first_one : (text uuid : List ℕ) (from : ℕ) → length text - from < 19 → next text (First uuid from 0) 49 ≡ Some (First uuid from 1)
first_one text uuid from l = let t = lt-ltb (length text - from) 19 l in rw t refl

last_one : (text uuid : List ℕ) (first first_at from : ℕ) → length text - from < 19 → next text (Last uuid first first_at from 0) 49 ≡ Some (Last uuid first first_at from 1)
last_one text uuid first first_at from l = let t = lt-ltb (length text - from) 19 l in rw t refl

no_digits : (digits : List ℕ) (n : ℕ) → AreDigits digits n → length digits ≡ 0 → n ≡ 0
no_digits [] n h l = sym h.worth
no_digits (d ∷ ds) n h l = absurd (omega arith)

completes_first : (text uuid : List ℕ) (from n : ℕ) (spans : List Span) → IsInFirst text uuid from n spans → Completes text spans (First uuid from n)
completes_first text uuid from n spans h =
    let long : length text ≡ from + length h.digits = ap length h.are ∙ (length-append h.item (58 ∷ h.digits) ∙ omega (arith, h.place)) in
    elim (cases_lt from (length text)) [
      | inl l ↦ completes_now text spans (First uuid from n) (lt-ltb from (length text) l)
      | inr g ↦
          let zero_yet : n ≡ 0 = no_digits h.digits n h.are_digits (omega (arith, long)) in
          subst (λ (k : ℕ). Completes text spans (First uuid from k)) (sym zero_yet)
          (completes_next text spans (First uuid from 0) (First uuid from 1) 49 (first_one text uuid from (omega (arith, long)))
          (over_alike spans (span uuid 1 from 1 from ∷ []) (span uuid 0 from 0 from ∷ []) refl)
          (completes_now (text ++ 49 ∷ []) (spans ++ []) (First uuid from 1) (lt-ltb from (length (text ++ 49 ∷ [])) (omega (arith, length-append text (49 ∷ []), long)))))
    ]

completes_last : (text uuid : List ℕ) (first first_at from n : ℕ) (spans : List Span) → IsInLast text uuid first first_at from n spans → Completes text spans (Last uuid first first_at from n)
completes_last text uuid first first_at from n spans h =
    let long : length text ≡ from + length h.digits =
    ap length h.are ∙ (length-append h.item (58 ∷ (h.front ++ 45 ∷ h.digits)) ∙ omega (arith, length-append h.front (45 ∷ h.digits), h.place, h.first_place)) in
    elim (cases_lt from (length text)) [
      | inl l ↦ completes_now text spans (Last uuid first first_at from n) (lt-ltb from (length text) l)
      | inr g ↦
          let zero_yet : n ≡ 0 = no_digits h.digits n h.are_digits (omega (arith, long)) in
          subst (λ (k : ℕ). Completes text spans (Last uuid first first_at from k)) (sym zero_yet)
          (completes_next text spans (Last uuid first first_at from 0) (Last uuid first first_at from 1) 49 (last_one text uuid first first_at from (omega (arith, long)))
          (over_alike spans (span uuid first first_at 1 from ∷ []) (span uuid first first_at 0 from ∷ []) refl)
          (completes_now (text ++ 49 ∷ []) (spans ++ []) (Last uuid first first_at from 1) (lt-ltb from (length (text ++ 49 ∷ [])) (omega (arith, length-append text (49 ∷ []), long)))))
    ]

-- a byte for each place of a UUID's text
fill : ℕ → ℕ
fill k = if is_hyphen_place k then 45 else 48

fill_fits : (k : ℕ) → fits_uuid k (fill k) ≡ true
unfolding fill
fill_fits k = elim (cases_Bool (is_hyphen_place k)) [ inl y ↦ rw y refl | inr n ↦ rw n refl ]

completes_uuid : (k : ℕ) (text : List ℕ) (from : ℕ) (spans : List Span) → IsInUuid text from spans → length text + k ≡ from + 36 → Completes text spans (UuidText from)
completes_uuid zero text from spans h l =
    let long : length h.bytes ≡ 36 = omega (arith, l, ap length h.are, length-append h.lead h.bytes, h.place) in
    let uuid = uuid_from_fits h.bytes long (λ k m. h.fits k (omega (arith, long))) in
    let bytes : drop from text ≡ h.bytes =
    ap (λ (t : List ℕ). drop from t) h.are ∙ (ap (λ (n : ℕ). drop n (h.lead ++ h.bytes)) h.place ∙ drop_at h.lead h.bytes (length h.lead) refl) in
    let e : next text (UuidText from) 58 ≡ Some (First uuid.0 (from + 37) 0) = ap (λ (t : List ℕ). in_uuid t from 58) bytes ∙ colon_next h.bytes uuid.0 from long uuid.1 in
    completes_next text spans (UuidText from) (First uuid.0 (from + 37) 0) 58 e (over_alike spans (span uuid.0 0 (from + 37) 0 (from + 37) ∷ []) [] refl)
    (completes_first (text ++ 58 ∷ []) uuid.0 (from + 37) 0 (spans ++ []) (stands_next text spans (UuidText from) (First uuid.0 (from + 37) 0) 58 h e))
completes_uuid (suc k) text from spans h l =
    let b : ℕ = fill (length h.bytes) in
    let room : length h.bytes < 36 = omega (arith, l, ap length h.are, length-append h.lead h.bytes, h.place) in
    let e : next text (UuidText from) b ≡ Some (UuidText from) =
    ap (λ (t : List ℕ). next t (UuidText from) b) h.are
    ∙ (ap (λ (n : ℕ). next (h.lead ++ h.bytes) (UuidText n) b) h.place
    ∙ (uuid_next h.lead h.bytes b room (fill_fits (length h.bytes)) ∙ ap (λ (n : ℕ). let p : Part = UuidText n in Some p) (sym h.place))) in
    let none : ended (UuidText from) b ≡ [] = none_ended (UuidText from) b refl in
    completes_next text spans (UuidText from) (UuidText from) b e
    (ap (λ (x : List Span). first_place over_at ((spans ++ x) ++ [])) none ∙ over_alike spans [] [] refl)
    (completes_uuid k (text ++ b ∷ []) from (spans ++ ended (UuidText from) b) (stands_next text spans (UuidText from) (UuidText from) b h e)
    (omega (arith, l, length-append text (b ∷ []))))

prefix_next : (text : List ℕ) (count : ℕ) → count < 7 → next text (Prefix count) (get_or prefix count 0) ≡ Some (Prefix (count + 1))
prefix_next text count l =
    let same : (get_or prefix count 0 == get_or prefix count 0) ≡ true = eq-eqb (get_or prefix count 0) (get_or prefix count 0) refl in
    let n : (count == 7) ≡ false = ne_eqb count 7 (λ q. omega arith) in
    rw (same, n) refl

completes_prefix : (k : ℕ) (text : List ℕ) (count : ℕ) (spans : List Span) → IsInPrefix text count spans → count + k ≡ 7 → Completes text spans (Prefix count)
completes_prefix zero text count spans h l =
    let seven : count ≡ 7 = omega arith in
    let e : next text (Prefix 7) 47 ≡ Some Opening = refl in
    subst (λ (c : ℕ). Completes text spans (Prefix c)) (sym seven)
    (completes_next text spans (Prefix 7) Opening 47 e (over_alike spans [] [] refl) (completes_now (text ++ 47 ∷ []) (spans ++ []) Opening refl))
completes_prefix (suc k) text count spans h l =
    let b : ℕ = get_or prefix count 0 in
    let e : next text (Prefix count) b ≡ Some (Prefix (count + 1)) = prefix_next text count (omega (arith, l)) in
    let none : ended (Prefix count) b ≡ [] = none_ended (Prefix count) b refl in
    completes_next text spans (Prefix count) (Prefix (count + 1)) b e
    (ap (λ (x : List Span). first_place over_at ((spans ++ x) ++ [])) none ∙ over_alike spans [] [] refl)
    (completes_prefix k (text ++ b ∷ []) (count + 1) (spans ++ ended (Prefix count) b) (stands_next text spans (Prefix count) (Prefix (count + 1)) b h e) (omega (arith, l)))

completes_gap : (text : List ℕ) (spans : List Span) → Stands text spans Gap → Completes text spans Gap
completes_gap text spans h =
    let e : next text Gap 48 ≡ Some (UuidText (length text)) = refl in
    completes_next text spans Gap (UuidText (length text)) 48 e (over_alike spans [] [] refl)
    (completes_uuid 35 (text ++ 48 ∷ []) (length text) (spans ++ []) (stands_next text spans Gap (UuidText (length text)) 48 h e) (omega (arith, length-append text (48 ∷ []))))

completes : (text : List ℕ) (spans : List Span) (part : Part) → Stands text spans part → Completes text spans part
completes text spans (Prefix count) h = completes_prefix (7 - count) text count spans h (omega (arith, h.few))
completes text spans Opening h = completes_now text spans Opening refl
completes text spans Gap h = completes_gap text spans h
completes text spans (UuidText from) h =
    completes_uuid (from + 36 - length text) text from spans h (omega (arith, ap length h.are, length-append h.lead h.bytes, h.place, h.few))
completes text spans (First uuid from n) h = completes_first text uuid from n spans h
completes text spans (Last uuid first first_at from n) h = completes_last text uuid first first_at from n spans h
completes text spans Closing h = completes_now text spans Closing refl

-- what a scan took is the front of a text, with the same first number over the greatest
pub record GoesOnTo (text : List ℕ) (over : Option ℕ) : Type 0 where
  pub more : List ℕ
  pub spans : List Span
  pub is_text : IsSetText (text ++ more) spans
  pub over_is : first_place over_at spans ≡ over

pub live : (text : List ℕ) (spans : List Span) (part : Part) → Stands text spans part → GoesOnTo text (first_place over_at (spans ++ begun part))
live text spans part h =
    let c = completes text spans part h in
    record {
      more = c.more;
      spans = (scanned_from text spans part c.more).spans;
      is_text = sound text spans part c.more h c.ends;
      over_is = c.over;
    }
