-- What a text says is what its scan gives.
use Rattle.std.proofs.Common.{◌≡◌, ℕ, ◌+◌, ◌<◌, List, [], ◌∷◌, ◌++◌, length, length-append, take, drop, Option, Some, None, Result, Ok, Err, unwrap_or, refl, ap, sym, subst, ◌∙◌, inl, inr, arith}
use Rattle.std.proofs.lemmas.Bool.{cases_Bool, cases_lt}
use Rattle.std.proofs.lemmas.List.{append_assoc, append-nil, length-take-le, take_at, take-append-drop}
use Rattle.vs_gtid.specs.declared.span.Span.{Span}
use Rattle.vs_gtid.specs.declared.part.Part.{Part}
use Rattle.vs_gtid.specs.declared.part.Part.TheVariants.{Opening}
use Rattle.vs_gtid.specs.declared.refusal.GtidRefusal.{GtidRefusal}
use Rattle.vs_gtid.specs.declared.refusal.GtidRefusal.TheVariants.{BadText, ZeroNumber, EmptyInterval, BadBlock, TooManyIntervals, Memory}
use Rattle.vs_gtid.specs.Positions.{Position, has}
use Rattle.vs_gtid.specs.Joins.{limited, merged}
use Rattle.vs_gtid.specs.SetTexts.{IsSetText}
use Rattle.vs_gtid.specs.Parts.{begun, end_of, ended, may_end, next, scanned, scanned_from, Scanned}
use Rattle.vs_gtid.specs.Readings.{empty_at, fault_in, fault_of, first_place, intervals_of, judged, over_at, read, zero_at, AreLawful, Fits, HasSpans, IsInForm, IsOver, IsUnfit, ReadsSet}
use Rattle.vs_gtid.proofs.EqualSets.{canonical_unique}
use Rattle.vs_gtid.proofs.JoinLemmas.{has-merged, IsCanonical-merged}
use Rattle.vs_gtid.proofs.MergeLemmas.{limited_few, limited_many}
use Rattle.vs_gtid.proofs.ScanLemmas.{scan_begin, scan_end, scan_none}
use Rattle.vs_gtid.proofs.SetTextItems.{complete}
use Rattle.vs_gtid.proofs.SetTextSteps.{stands_first, stands_next}
use Rattle.vs_gtid.proofs.SetTextWalks.{cases_Option, live, over_found, over_kept, sound, stopped, walk, Reaches, Stops}
use Rattle.vs_gtid.proofs.LawfulSpans.{lawful_intervals}

-- a front of a text, as a scan took it
abbrev Took : List ℕ → List Span → Part → Type 0
Took taken kept after = Reaches [] [] Opening taken kept after

-- the same front with other bytes behind it
goes_on : (taken rest : List ℕ) (kept : List Span) (after : Part) → Took taken kept after → scanned (taken ++ rest) ≡ scanned_from taken kept after rest
goes_on taken rest kept after r = sym (scan_begin (taken ++ rest)) ∙ r.goes rest

in_form : (text : List ℕ) (spans : List Span) → IsSetText text spans → ((scanned text).spans ≡ spans) × ((scanned text).stop ≡ None)
in_form text spans h = (ap (λ (s : Scanned). s.spans) (complete text spans h), ap (λ (s : Scanned). s.stop) (complete text spans h))

some_is_none : {A : Type 0} {P : Type 0} (x : A) → Some x ≡ None → P
some_is_none x h = absurd (cc)

-- a front in which a number over the greatest comes
is_over : (text : List ℕ) (at : ℕ) → first_place over_at (scanned text).spans ≡ Some at → IsOver text at
is_over text at e =
    let f = over_found text [] [] Opening at stands_first refl (ap (λ (s : Scanned). first_place over_at s.spans) (scan_begin text) ∙ e) in
    let g = live f.taken f.kept f.after f.reaches.stands in
    let same : take (at + 19) text ≡ f.taken = ap (λ (t : List ℕ). take (at + 19) t) f.are ∙ take_at f.taken f.left (at + 19) f.place in
    record {
      within = omega (arith, ap length f.are, length-append f.taken f.left, f.place);
      rest = g.more;
      spans = g.spans;
      fits = subst (λ (t : List ℕ). IsSetText (t ++ g.more) g.spans) (sym same) g.is_text;
      first = g.over_is ∙ f.over;
    }

-- where a scan stops, with its spans
record StopsAt (text : List ℕ) (at : ℕ) : Type 0 where
  taken : List ℕ
  left : List ℕ
  are : text ≡ taken ++ left
  kept : List Span
  after : Part
  reaches : Took taken kept after
  stops : Stops taken after left
  place : length taken ≡ at
  spans : (scanned text).spans ≡ kept ++ begun after

some-nat : (x y : ℕ) → Some x ≡ Some y → x ≡ y
some-nat x y h = ap (λ (o : Option ℕ). unwrap_or o 0) h

end_place : (part : Part) (n at : ℕ) → end_of part n ≡ Some at → n ≡ at
end_place part n at h = elim (cases_Bool (may_end n part)) [
  | inl y ↦ some_is_none at (sym (rw y at h))
  | inr k ↦ some-nat n at (rw k at h)
]

stops_at : (text : List ℕ) (at : ℕ) → (scanned text).stop ≡ Some at → StopsAt text at
stops_at text at e =
    let w = walk text [] [] Opening stands_first in
    by_left w.left w.taken w.kept w.after w.are w.reaches w.stops
  where
    by_left : (left taken : List ℕ) (kept : List Span) (after : Part) → text ≡ taken ++ left → Took taken kept after → Stops taken after left → StopsAt text at
    by_left [] taken kept after are r s =
        let is : scanned text ≡ record { spans = kept ++ begun after; stop = end_of after (length taken) } =
        ap (λ (t : List ℕ). scanned t) are ∙ (goes_on taken [] kept after r ∙ scan_end taken kept after) in
        record {
          taken = taken;
          left = [];
          are = are;
          kept = kept;
          after = after;
          reaches = r;
          stops = s;
          place = end_place after (length taken) at (sym (ap (λ (x : Scanned). x.stop) is) ∙ e);
          spans = ap (λ (x : Scanned). x.spans) is;
        }
    by_left (b ∷ rest) taken kept after are r s =
        let is : scanned text ≡ record { spans = kept ++ begun after; stop = Some (length taken) } =
        ap (λ (t : List ℕ). scanned t) are ∙ (goes_on taken (b ∷ rest) kept after r ∙ scan_none taken kept after b rest s) in
        record {
          taken = taken;
          left = b ∷ rest;
          are = are;
          kept = kept;
          after = after;
          reaches = r;
          stops = s;
          place = some-nat (length taken) at (sym (ap (λ (x : Scanned). x.stop) is) ∙ e);
          spans = ap (λ (x : Scanned). x.spans) is;
        }

-- the byte behind a front doesn't fit
unfit_byte : (text taken left : List ℕ) (at : ℕ) (kept : List Span) (after : Part) → text ≡ taken ++ left → length taken ≡ at → Took taken kept after → Stops taken after left →
    at < length text → Fits (take (at + 1) text) → ⊥
unfit_byte text taken [] at kept after are place r s l f = absurd (omega (arith, ap length are, length-append taken [], place))
unfit_byte text taken (b ∷ rest) at kept after are place r s l (more, spans, is_text) =
    let front : take (at + 1) text ≡ taken ++ b ∷ [] =
    ap (λ (t : List ℕ). take (at + 1) t) (are ∙ sym (append_assoc taken (b ∷ []) rest)) ∙ take_at (taken ++ b ∷ []) rest (at + 1) (length-append taken (b ∷ []) ∙ ap (λ (n : ℕ). n + 1) place) in
    let whole : (scanned (take (at + 1) text ++ more)).stop ≡ None = (in_form (take (at + 1) text ++ more) spans is_text).1 in
    let is : (scanned (take (at + 1) text ++ more)).stop ≡ Some (length taken) =
    ap (λ (t : List ℕ). (scanned t).stop) (ap (λ (t : List ℕ). t ++ more) front ∙ append_assoc taken (b ∷ []) more)
    ∙ (ap (λ (x : Scanned). x.stop) (goes_on taken (b ∷ more) kept after r) ∙ stopped taken kept after b more s) in
    some_is_none (length taken) (sym is ∙ whole)

is_unfit : (text : List ℕ) (at : ℕ) → first_place over_at (scanned text).spans ≡ None → (scanned text).stop ≡ Some at → IsUnfit text at
is_unfit text at o e =
    let s = stops_at text at e in
    let g = live s.taken s.kept s.after s.reaches.stands in
    let front : take at text ≡ s.taken = ap (λ (t : List ℕ). take at t) s.are ∙ take_at s.taken s.left at s.place in
    record {
      within = omega (arith, ap length s.are, length-append s.taken s.left, s.place);
      fits = (g.more, g.spans, subst (λ (t : List ℕ). IsSetText (t ++ g.more) g.spans) (sym front) g.is_text, g.over_is ∙ (ap (λ (x : List Span). first_place over_at x) (sym s.spans) ∙ o));
      byte = unfit_byte text s.taken s.left at s.kept s.after s.are s.place s.reaches s.stops;
      end = λ _ spans is_text. some_is_none at (sym e ∙ (in_form text spans is_text).1);
    }

-- the set of lawful spans
has_spans : (text : List ℕ) (spans : List Span) → AreLawful text spans → HasSpans (merged (intervals_of spans)) spans
has_spans text spans h =
    let a = lawful_intervals text spans h in
    record { canonical = IsCanonical-merged (intervals_of spans) a; members = has-merged (intervals_of spans) a }

only_set : (text : List ℕ) (spans : List Span) (p : Position) → AreLawful text spans → HasSpans p spans → p ≡ merged (intervals_of spans)
only_set text spans p h s =
    let m = has_spans text spans h in
    canonical_unique p (merged (intervals_of spans)) s.canonical m.canonical (λ g. s.members g ∙ sym (m.members g))

is_text : (text : List ℕ) → (scanned text).stop ≡ None → IsSetText text (scanned text).spans
is_text text h =
    subst (λ (x : Scanned). IsSetText text x.spans) (scan_begin text)
    (sound [] [] Opening text stands_first (ap (λ (x : Scanned). x.stop) (scan_begin text) ∙ h))

judge : (text : List ℕ) (over stop zero empty : Option ℕ) → first_place over_at (scanned text).spans ≡ over → (scanned text).stop ≡ stop →
    first_place zero_at (scanned text).spans ≡ zero → first_place empty_at (scanned text).spans ≡ empty →
    ReadsSet text (judged (fault_of over stop zero empty) (scanned text).spans)
judge text (Some at) stop z e a b c d = inr (is_over text at a)
judge text None (Some at) z e a b c d = inl (is_unfit text at a b)
judge text None None (Some at) e a b c d = ((scanned text).spans, record { is_text = is_text text b; in_range = a }, c)
judge text None None None (Some at) a b c d = ((scanned text).spans, record { is_text = is_text text b; in_range = a }, c, d)
judge text None None None None a b c d =
    let spans : List Span = (scanned text).spans in
    let lawful : AreLawful text spans = record { form = record { is_text = is_text text b; in_range = a }; no_zero = c; none_empty = d } in
    let p : Position = merged (intervals_of spans) in
    elim (cases_lt 1024 (length p)) [
      | inl many ↦ subst (λ (r : Result Position GtidRefusal). ReadsSet text r) (sym (limited_many p many)) (spans, lawful, p, has_spans text spans lawful, many)
      | inr few ↦ subst (λ (r : Result Position GtidRefusal). ReadsSet text r) (sym (limited_few p few)) (spans, lawful, has_spans text spans lawful, few)
    ]

-- what the scan gives is what the text says
pub reads : (text : List ℕ) → ReadsSet text (read text)
reads text = judge text (first_place over_at (scanned text).spans) (scanned text).stop (first_place zero_at (scanned text).spans) (first_place empty_at (scanned text).spans) refl refl refl refl

-- what is read, by the first faults
read_by : (text : List ℕ) (over stop zero empty : Option ℕ) → first_place over_at (scanned text).spans ≡ over → (scanned text).stop ≡ stop →
    first_place zero_at (scanned text).spans ≡ zero → first_place empty_at (scanned text).spans ≡ empty →
    read text ≡ judged (fault_of over stop zero empty) (scanned text).spans
read_by text over stop z e a b c d =
    let s : Scanned = scanned text in
    let spans : List Span = s.spans in
    ap (λ (o : Option ℕ). judged (fault_of o s.stop (first_place zero_at spans) (first_place empty_at spans)) spans) a
    ∙ (ap (λ (o : Option ℕ). judged (fault_of over o (first_place zero_at spans) (first_place empty_at spans)) spans) b
    ∙ (ap (λ (o : Option ℕ). judged (fault_of over stop o (first_place empty_at spans)) spans) c
    ∙ ap (λ (o : Option ℕ). judged (fault_of over stop z o) spans) d))

read_over : (text : List ℕ) (at : ℕ) → first_place over_at (scanned text).spans ≡ Some at → read text ≡ Err (BadText at)
read_over text at h = read_by text (Some at) (scanned text).stop (first_place zero_at (scanned text).spans) (first_place empty_at (scanned text).spans) h refl refl refl

read_stop : (text : List ℕ) (at : ℕ) → first_place over_at (scanned text).spans ≡ None → (scanned text).stop ≡ Some at → read text ≡ Err (BadText at)
read_stop text at h k = read_by text None (Some at) (first_place zero_at (scanned text).spans) (first_place empty_at (scanned text).spans) h k refl refl

-- the same of a text in form
read_form : (text : List ℕ) (spans : List Span) (zero empty : Option ℕ) → IsInForm text spans → first_place zero_at spans ≡ zero → first_place empty_at spans ≡ empty →
    read text ≡ judged (fault_of None None zero empty) spans
read_form text spans z e h c d =
    let f = in_form text spans h.is_text in
    let on : (at : Span → Option ℕ) → first_place at (scanned text).spans ≡ first_place at spans = λ at. ap (λ (x : List Span). first_place at x) f.0 in
    read_by text None None z e (on over_at ∙ h.in_range) f.1 (on zero_at ∙ c) (on empty_at ∙ d)
    ∙ ap (λ (x : List Span). judged (fault_of None None z e) x) f.0

-- a front of a text of a set is taken whole
record IsFront (front rest : List ℕ) (spans : List Span) : Type 0 where
  kept : List Span
  after : Part
  took : Took front kept after
  over : (q : ℕ) → first_place over_at (kept ++ begun after) ≡ Some q → first_place over_at spans ≡ Some q

fits_front : (front rest : List ℕ) (spans : List Span) → IsSetText (front ++ rest) spans → IsFront front rest spans
fits_front front rest spans h =
    let w = walk front [] [] Opening stands_first in
    by_left w.left w.taken w.kept w.after w.are w.reaches w.stops
  where
    by_left : (left taken : List ℕ) (kept : List Span) (after : Part) → front ≡ taken ++ left → Took taken kept after → Stops taken after left → IsFront front rest spans
    by_left [] taken kept after are r s =
        let same : taken ≡ front = sym (are ∙ append-nil taken) in
        let took : Took front kept after = subst (λ (t : List ℕ). Took t kept after) same r in
        record {
          kept = kept;
          after = after;
          took = took;
          over = λ q e.
              ap (λ (x : List Span). first_place over_at x) (sym (in_form (front ++ rest) spans h).0)
              ∙ (ap (λ (x : Scanned). first_place over_at x.spans) (goes_on front rest kept after took) ∙ over_kept rest front kept after q took.stands e);
        }
    by_left (b ∷ left) taken kept after are r s =
        let is : (scanned (front ++ rest)).stop ≡ Some (length taken) =
        ap (λ (t : List ℕ). (scanned t).stop) (ap (λ (t : List ℕ). t ++ rest) are ∙ append_assoc taken (b ∷ left) rest)
        ∙ (ap (λ (x : Scanned). x.stop) (goes_on taken (b ∷ (left ++ rest)) kept after r) ∙ stopped taken kept after b (left ++ rest) s) in
        some_is_none (length taken) (sym is ∙ (in_form (front ++ rest) spans h).1)

-- no number over the greatest in a front of a text without one
none_over : (kept : List Span) (spans : List Span) → ((q : ℕ) → first_place over_at kept ≡ Some q → first_place over_at spans ≡ Some q) → first_place over_at spans ≡ None → first_place over_at kept ≡ None
none_over kept spans h e =
    elim (cases_Option (first_place over_at kept)) [
      | inl n ↦ n
      | inr s ↦ some_is_none s.0 (sym (h s.0 s.1) ∙ e)
    ]

only_unfit : (text : List ℕ) (at : ℕ) → IsUnfit text at → read text ≡ Err (BadText at)
only_unfit text at h =
    let front : List ℕ = take at text in
    let place : length front ≡ at = length-take-le at text h.within in
    let f = fits_front front h.fits.0 h.fits.1 h.fits.2 in
    let none = none_over (f.kept ++ begun f.after) h.fits.1 f.over h.fits.3 in
    by_rest (drop at text) front f.kept f.after (sym (take-append-drop at text)) place f.took none refl
  where
    by_rest : (rest front : List ℕ) (kept : List Span) (after : Part) → text ≡ front ++ rest → length front ≡ at → Took front kept after →
        first_place over_at (kept ++ begun after) ≡ None → front ≡ take at text → read text ≡ Err (BadText at)
    by_rest [] front kept after are place r none same =
        let is : scanned text ≡ record { spans = kept ++ begun after; stop = end_of after (length front) } =
        ap (λ (t : List ℕ). scanned t) are ∙ (goes_on front [] kept after r ∙ scan_end front kept after) in
        let over : first_place over_at (scanned text).spans ≡ None = ap (λ (x : Scanned). first_place over_at x.spans) is ∙ none in
        elim (cases_Option (end_of after (length front))) [
          | inl e ↦ absurd (h.end (sym place ∙ (sym (ap length (append-nil front)) ∙ sym (ap length are))) (scanned text).spans (is_text text (ap (λ (x : Scanned). x.stop) is ∙ e)))
          | inr s ↦
              let n : s.0 ≡ at = sym (end_place after (length front) s.0 s.1) ∙ place in
              read_stop text at over (ap (λ (x : Scanned). x.stop) is ∙ (s.1 ∙ ap (λ (k : ℕ). Some k) n))
        ]
    by_rest (b ∷ rest) front kept after are place r none same =
        elim (cases_Option (next front after b)) [
          | inl e ↦
              let is : scanned text ≡ record { spans = kept ++ begun after; stop = Some (length front) } =
              ap (λ (t : List ℕ). scanned t) are ∙ (goes_on front (b ∷ rest) kept after r ∙ scan_none front kept after b rest e) in
              read_stop text at (ap (λ (x : Scanned). first_place over_at x.spans) is ∙ none) (ap (λ (x : Scanned). x.stop) is ∙ ap (λ (k : ℕ). Some k) place)
          | inr s ↦
              let g = live (front ++ b ∷ []) (kept ++ ended after b) s.0 (stands_next front kept after s.0 b r.stands s.1) in
              let more : take (at + 1) text ≡ front ++ b ∷ [] =
              ap (λ (t : List ℕ). take (at + 1) t) (are ∙ sym (append_assoc front (b ∷ []) rest))
              ∙ take_at (front ++ b ∷ []) rest (at + 1) (length-append front (b ∷ []) ∙ ap (λ (n : ℕ). n + 1) place) in
              absurd (h.byte (omega (arith, ap length are, length-append front (b ∷ rest), place))
              (g.more, g.spans, subst (λ (t : List ℕ). IsSetText (t ++ g.more) g.spans) (sym more) g.is_text))
        ]

only_over : (text : List ℕ) (at : ℕ) → IsOver text at → read text ≡ Err (BadText at)
only_over text at h =
    let front : List ℕ = take (at + 19) text in
    let long : length front ≡ at + 19 = length-take-le (at + 19) text h.within in
    let given = in_form (front ++ h.rest) h.spans h.fits in
    let e : first_place over_at (scanned_from [] [] Opening (front ++ h.rest)).spans ≡ Some at =
    ap (λ (s : Scanned). first_place over_at s.spans) (scan_begin (front ++ h.rest)) ∙ (ap (λ (x : List Span). first_place over_at x) given.0 ∙ h.first) in
    let f = over_found (front ++ h.rest) [] [] Opening at stands_first refl e in
    let same : f.taken ≡ front =
    sym (take_at f.taken f.left (at + 19) f.place) ∙ (ap (λ (t : List ℕ). take (at + 19) t) (sym f.are) ∙ take_at front h.rest (at + 19) long) in
    let took : Took front f.kept f.after = subst (λ (t : List ℕ). Took t f.kept f.after) same f.reaches in
    let rest : List ℕ = drop (at + 19) text in
    read_over text at
    (ap (λ (t : List ℕ). first_place over_at (scanned t).spans) (sym (take-append-drop (at + 19) text))
    ∙ (ap (λ (x : Scanned). first_place over_at x.spans) (goes_on front rest f.kept f.after took)
    ∙ over_kept rest front f.kept f.after at took.stands f.over))

-- a text says nothing else
pub only : (text : List ℕ) (r : Result Position GtidRefusal) → ReadsSet text r → r ≡ read text
only text (Ok p) (spans, lawful, has, few) =
    sym (read_form text spans None None lawful.form lawful.no_zero lawful.none_empty
    ∙ (ap limited (sym (only_set text spans p lawful has)) ∙ limited_few p few))
only text (Err (BadText at)) (inl h) = sym (only_unfit text at h)
only text (Err (BadText at)) (inr h) = sym (only_over text at h)
only text (Err (ZeroNumber at)) (spans, form, zero_there) = sym (read_form text spans (Some at) (first_place empty_at spans) form zero_there refl)
only text (Err (EmptyInterval at)) (spans, form, no_zero, empty_there) = sym (read_form text spans None (Some at) form no_zero empty_there)
only text (Err (BadBlock at)) h = absurd h
only text (Err TooManyIntervals) (spans, lawful, p, has, many) =
    sym (read_form text spans None None lawful.form lawful.no_zero lawful.none_empty
    ∙ (ap limited (sym (only_set text spans p lawful has)) ∙ limited_many p many))
only text (Err Memory) h = absurd h

faults : (over stop zero empty : Option ℕ) → fault_of over stop zero empty ≡ None → (over ≡ None) × (stop ≡ None) × (zero ≡ None) × (empty ≡ None)
faults (Some at) stop z e h = some_is_none (BadText at) h
faults None (Some at) z e h = some_is_none (BadText at) h
faults None None (Some at) e h = some_is_none (ZeroNumber at) h
faults None None None (Some at) h = some_is_none (EmptyInterval at) h
faults None None None None h = (refl, refl, refl, refl)

-- spans without a fault are lawful
pub no_fault : (text : List ℕ) → fault_in (scanned text) ≡ None → AreLawful text (scanned text).spans
no_fault text h =
    let s : Scanned = scanned text in
    let f = faults (first_place over_at s.spans) s.stop (first_place zero_at s.spans) (first_place empty_at s.spans) h in
    record { form = record { is_text = is_text text f.1; in_range = f.0 }; no_zero = f.2; none_empty = f.3 }

pub read_fault : (text : List ℕ) (refusal : GtidRefusal) → fault_in (scanned text) ≡ Some refusal → read text ≡ Err refusal
read_fault text refusal h = ap (λ (o : Option GtidRefusal). judged o (scanned text).spans) h

pub read_merged : (text : List ℕ) → fault_in (scanned text) ≡ None → read text ≡ limited (merged (intervals_of (scanned text).spans))
read_merged text h = ap (λ (o : Option GtidRefusal). judged o (scanned text).spans) h

-- the first fault of these spans and this place is that of the scan
pub same_fault : (text : List ℕ) (spans : List Span) (stop : Option ℕ) → spans ≡ (scanned text).spans → stop ≡ (scanned text).stop →
    fault_of (first_place over_at spans) stop (first_place zero_at spans) (first_place empty_at spans) ≡ fault_in (scanned text)
same_fault text spans stop h k =
    ap (λ (x : List Span). fault_of (first_place over_at x) stop (first_place zero_at x) (first_place empty_at x)) h
    ∙ ap (λ (o : Option ℕ). fault_of (first_place over_at (scanned text).spans) o (first_place zero_at (scanned text).spans) (first_place empty_at (scanned text).spans)) k
