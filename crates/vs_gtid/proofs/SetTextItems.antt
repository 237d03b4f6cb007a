-- Items, and a whole text of a set, are scanned to their spans.
use Rattle.std.proofs.Common.{◌≡◌, ℕ, ◌+◌, ◌<◌, true, false, ◌==◌, nat_lt, List, [], ◌∷◌, ◌++◌, length, length-append, get_or, drop, Option, Some, None, refl, ap, sym, subst, ◌∙◌, inl, inr, arith}
use Rattle.std.proofs.lemmas.Bool.{and_parts, lt-ltb, ne_eqb}
use Rattle.std.proofs.lemmas.Bool.Decides.{nat_tests}
use Rattle.std.proofs.lemmas.List.{append_assoc, append-nil, drop_at, get_or_push, get_or_append_left}
use Rattle.std.specs.List.{list_all}
use Rattle.uuid.specs.Text.{is_hex_digit, parsed_hyphenated}
use Rattle.vs_gtid.specs.declared.span.Span.{Span}
use Rattle.vs_gtid.specs.declared.part.Part.{Part}
use Rattle.vs_gtid.specs.declared.part.Part.TheVariants.{Prefix, Opening, Gap, UuidText, First, Last, Closing}
use Rattle.vs_gtid.specs.SetTexts.{is_blank, prefix, AreSpans, IsSpan, IsItem, AreItems, AreListed, IsPrefix, IsSetText, in_turn, AreBlanks}
use Rattle.vs_gtid.specs.Parts.{begun, end_of, fits_uuid, goes_on, in_uuid, behind_span, next, scanned, scanned_from, Scanned}
use Rattle.vs_gtid.proofs.ScanLemmas.{scan_some, scan_end, scan_begin}
use Rattle.vs_gtid.proofs.UuidLemmas.{uuid_long, uuid_fits}
use Rattle.vs_gtid.proofs.SetTextComplete.{blanks_scanned, ends_by, moved, none_ended, quiet, span_scanned, spans_scanned, EndsSpan, IsTaken}

-- a byte that fits goes to the UUID's text
pub uuid_next : (lead before : List ℕ) (b : ℕ) → length before < 36 → fits_uuid (length before) b ≡ true →
    next (lead ++ before) (UuidText (length lead)) b ≡ Some (UuidText (length lead))
uuid_next lead before b l h =
    let e : drop (length lead) (lead ++ before) ≡ before = drop_at lead before (length lead) refl in
    let n : (length before == 36) ≡ false = ne_eqb (length before) 36 (λ q. omega arith) in
    ap (λ (t : List ℕ). in_uuid t (length lead) b) e ∙ rw (n, h) refl

-- the rest of a UUID's text
uuid_scanned : (us before lead : List ℕ) (spans : List Span) (rest : List ℕ) → length (before ++ us) ≡ 36 →
    ((k : ℕ) → k < 36 → fits_uuid k (get_or (before ++ us) k 0) ≡ true) →
    scanned_from (lead ++ before) spans (UuidText (length lead)) (us ++ rest) ≡ scanned_from (lead ++ (before ++ us)) spans (UuidText (length lead)) rest
uuid_scanned [] before lead spans rest l fits =
    ap (λ (t : List ℕ). scanned_from (lead ++ t) spans (UuidText (length lead)) rest) (sym (append-nil before))
uuid_scanned (u ∷ us) before lead spans rest l fits =
    let room : length before < 36 = omega (arith, length-append before (u ∷ us)) in
    let same : (before ++ u ∷ []) ++ us ≡ before ++ u ∷ us = moved before u us in
    let here : get_or (before ++ u ∷ us) (length before) 0 ≡ u =
    ap (λ (t : List ℕ). get_or t (length before) 0) (sym same)
    ∙ (get_or_append_left (before ++ u ∷ []) us 0 (length before) (omega (arith, length-append before (u ∷ []))) ∙ get_or_push before u 0 (length before) refl) in
    let fit : fits_uuid (length before) u ≡ true = subst (λ (c : ℕ). fits_uuid (length before) c ≡ true) here (fits (length before) room) in
    quiet (lead ++ before) spans (UuidText (length lead)) (UuidText (length lead)) u (us ++ rest) (uuid_next lead before u room fit) (none_ended (UuidText (length lead)) u refl)
    ∙ (ap (λ (f : List ℕ). scanned_from f spans (UuidText (length lead)) (us ++ rest)) (append_assoc lead before (u ∷ []))
    ∙ (uuid_scanned us (before ++ u ∷ []) lead spans rest (ap length same ∙ l) (λ k m. subst (λ (t : List ℕ). fits_uuid k (get_or t k 0) ≡ true) (sym same) (fits k m))
    ∙ ap (λ (t : List ℕ). scanned_from (lead ++ t) spans (UuidText (length lead)) rest) same))

-- a part in which an item may begin
pub record BeginsItem (part : Part) : Type 0 where
  pub digit : (front : List ℕ) (b : ℕ) → is_hex_digit b ≡ true → next front part b ≡ Some (UuidText (length front))
  pub quietly : begun part ≡ []

pub no_blank : (b : ℕ) → is_hex_digit b ≡ true → is_blank b ≡ false
no_blank b h = grind (arith, nat_tests)

pub opening_begins : BeginsItem Opening
opening_begins = record { digit = λ front b h. let n = no_blank b h in rw (n, h) refl; quietly = refl }

pub gap_begins : BeginsItem Gap
gap_begins = record { digit = λ front b h. let n = no_blank b h in rw (n, h) refl; quietly = refl }

pub colon_next : (text uuid : List ℕ) (from : ℕ) → length text ≡ 36 → parsed_hyphenated text ≡ Some uuid → in_uuid text from 58 ≡ Some (First uuid (from + 37) 0)
colon_next text uuid from l h = rw (h, l) refl

-- a UUID's text, and the colon
uuid_opened : (u uuid lead : List ℕ) (spans : List Span) (part : Part) (rest : List ℕ) → BeginsItem part → parsed_hyphenated u ≡ Some uuid →
    scanned_from lead spans part (u ++ 58 ∷ rest) ≡ scanned_from ((lead ++ u) ++ 58 ∷ []) spans (First uuid (length lead + 37) 0) rest
uuid_opened [] uuid lead spans part rest b h = absurd (omega (arith, uuid_long [] uuid h))
uuid_opened (u ∷ us) uuid lead spans part rest b h =
    let long = uuid_long (u ∷ us) uuid h in
    let hex : is_hex_digit u ≡ true = uuid_fits (u ∷ us) uuid h 0 (omega arith) in
    let colon : next (lead ++ u ∷ us) (UuidText (length lead)) 58 ≡ Some (First uuid (length lead + 37) 0) =
    ap (λ (t : List ℕ). in_uuid t (length lead) 58) (drop_at lead (u ∷ us) (length lead) refl) ∙ colon_next (u ∷ us) uuid (length lead) long h in
    quiet lead spans part (UuidText (length lead)) u (us ++ 58 ∷ rest) (b.digit lead u hex) (none_ended part u b.quietly)
    ∙ (uuid_scanned us (u ∷ []) lead spans (58 ∷ rest) long (uuid_fits (u ∷ us) uuid h)
    ∙ quiet (lead ++ u ∷ us) spans (UuidText (length lead)) (First uuid (length lead + 37) 0) 58 rest colon refl)

item_parts : (lead text u spans_text uuid : List ℕ) (spans : List Span) (part : Part) (s : Span) (more : List Span) → BeginsItem part → text ≡ u ++ spans_text →
    parsed_hyphenated u ≡ Some uuid → length u ≡ 36 → AreSpans uuid (length lead + length u) spans_text (s ∷ more) →
    (uuid : List ℕ) × IsTaken lead spans part text (s ∷ more) uuid
item_parts lead text u spans_text uuid spans part s more b is_text is_uuid long (span_text, rest_text, are, is_span, same_uuid, are_spans) =
    let at : ℕ = length lead + 37 in
    let front : List ℕ = (lead ++ u) ++ 58 ∷ [] in
    let behind : length front ≡ at = omega (arith, length-append (lead ++ u) (58 ∷ []), length-append lead u, long) in
    let place : length lead + length u + 1 ≡ at = omega (arith, long) in
    let one = span_scanned at front span_text spans s behind (subst (λ (n : ℕ). IsSpan n span_text s) place is_span) in
    let front2 : List ℕ = front ++ span_text in
    let long2 : length front2 ≡ length lead + length u + 1 + length span_text = length-append front span_text ∙ ap (λ (n : ℕ). n + length span_text) (behind ∙ sym place) in
    let ends2 : EndsSpan (length front2) uuid one.after = subst (λ (v : List ℕ). EndsSpan (length front2) v one.after) same_uuid one.ends in
    let many = spans_scanned more uuid (length lead + length u + 1 + length span_text) rest_text front2 one.kept one.after long2 ends2 are_spans in
    let inner : (rest : List ℕ) → text ++ rest ≡ u ++ 58 ∷ (span_text ++ (rest_text ++ rest)) = λ rest.
    ap (λ (t : List ℕ). t ++ rest) (is_text ∙ ap (λ (t : List ℕ). u ++ t) are) ∙ (append_assoc u (58 ∷ (span_text ++ rest_text)) rest ∙ ap (λ (t : List ℕ). u ++ 58 ∷ t) (append_assoc span_text rest_text rest)) in
    let joined : front2 ++ rest_text ≡ lead ++ text =
    append_assoc front span_text rest_text ∙ (moved (lead ++ u) 58 (span_text ++ rest_text) ∙ (append_assoc lead u (58 ∷ (span_text ++ rest_text))
    ∙ ap (λ (t : List ℕ). lead ++ t) (sym (is_text ∙ ap (λ (t : List ℕ). u ++ t) are)))) in (
      uuid,
      record {
        kept = many.kept;
        after = many.after;
        scans = λ rest.
            ap (λ (t : List ℕ). scanned_from lead spans part t) (inner rest)
            ∙ (uuid_opened u uuid lead spans part (span_text ++ (rest_text ++ rest)) b is_uuid
            ∙ (ap (λ (v : List ℕ). scanned_from front spans (First v at 0) (span_text ++ (rest_text ++ rest))) (sym same_uuid)
            ∙ (one.scans (rest_text ++ rest)
            ∙ (many.scans rest
            ∙ ap (λ (f : List ℕ). scanned_from f many.kept many.after rest) joined))));
        all =
            many.all
            ∙ (sym (append_assoc one.kept (begun one.after) more)
            ∙ (ap (λ (x : List Span). x ++ more) one.all
            ∙ append_assoc spans (s ∷ []) more));
        ends = subst (λ (f : List ℕ). EndsSpan (length f) uuid many.after) joined many.ends;
      },
    )

-- an item
pub item_scanned : (lead text : List ℕ) (spans : List Span) (part : Part) (own : List Span) → BeginsItem part → IsItem (length lead) text own →
    (uuid : List ℕ) × IsTaken lead spans part text own uuid
item_scanned lead text spans part [] b h = absurd (omega (arith, h.some))
item_scanned lead text spans part (s ∷ more) b h =
    let u = h.uuid_text in
    let uuid = h.uuid in
    let long = uuid_long u uuid h.is_uuid in
    item_parts lead text u h.spans_text uuid spans part s more b h.are h.is_uuid long h.are_spans

-- behind a span: a comma, with blanks round it
ends_with : (front uuid : List ℕ) (spans : List Span) (part after : Part) (b : ℕ) (rest : List ℕ) → EndsSpan (length front) uuid part → goes_on b ≡ false →
    behind_span uuid (length front) b ≡ Some after → scanned_from front spans part (b ∷ rest) ≡ scanned_from (front ++ b ∷ []) (spans ++ begun part) after rest
ends_with front uuid spans part after b rest e g h =
    let by = ends_by front uuid b g in
    scan_some front spans part after b rest (by.step part e ∙ h)
    ∙ ap (λ (x : List Span). scanned_from (front ++ b ∷ []) (spans ++ x) after rest) (by.ends part)

blank_goes : (b : ℕ) → is_blank b ≡ true → goes_on b ≡ false
blank_goes b h = grind (arith, nat_tests)

blank_behind : (uuid : List ℕ) (at b : ℕ) → is_blank b ≡ true → behind_span uuid at b ≡ Some Closing
blank_behind uuid at b h = grind (arith, nat_tests)

closing_takes : (front : List ℕ) (b : ℕ) → is_blank b ≡ true → next front Closing b ≡ Some Closing
closing_takes front b h = rw h refl

gap_takes : (front : List ℕ) (b : ℕ) → is_blank b ≡ true → next front Gap b ≡ Some Gap
gap_takes front b h = rw h refl

opening_takes : (front : List ℕ) (b : ℕ) → is_blank b ≡ true → next front Opening b ≡ Some Opening
opening_takes front b h = rw h refl

-- the comma, and the blanks behind it
comma_scanned : (front uuid before after : List ℕ) (spans : List Span) (part : Part) (rest : List ℕ) → EndsSpan (length front) uuid part → AreBlanks before → AreBlanks after →
    scanned_from front spans part (before ++ (44 ∷ (after ++ rest))) ≡ scanned_from (front ++ (before ++ 44 ∷ after)) (spans ++ begun part) Gap rest
comma_scanned front uuid [] after spans part rest e x y =
    ends_with front uuid spans part Gap 44 (after ++ rest) e refl refl
    ∙ (blanks_scanned Gap gap_takes refl after (front ++ 44 ∷ []) (spans ++ begun part) rest y
    ∙ ap (λ (f : List ℕ). scanned_from f (spans ++ begun part) Gap rest) (moved front 44 after))
comma_scanned front uuid (b ∷ bs) after spans part rest e x y =
    let p = and_parts (is_blank b) (list_all is_blank bs) x in
    let all : List Span = spans ++ begun part in
    let front2 : List ℕ = (front ++ b ∷ []) ++ bs in
    let joined : (front2 ++ 44 ∷ []) ++ after ≡ front ++ (b ∷ bs ++ 44 ∷ after) =
    moved front2 44 after ∙ (append_assoc (front ++ b ∷ []) bs (44 ∷ after) ∙ moved front b (bs ++ 44 ∷ after)) in
    ends_with front uuid spans part Closing b (bs ++ (44 ∷ (after ++ rest))) e (blank_goes b p.0) (blank_behind uuid (length front) b p.0)
    ∙ (blanks_scanned Closing closing_takes refl bs (front ++ b ∷ []) all (44 ∷ (after ++ rest)) p.1
    ∙ (quiet front2 all Closing Gap 44 (after ++ rest) refl refl
    ∙ (blanks_scanned Gap gap_takes refl after (front2 ++ 44 ∷ []) all rest y
    ∙ ap (λ (f : List ℕ). scanned_from f all Gap rest) joined)))

-- { gap item } behind a span
items_scanned : (groups : List (List Span)) (at : ℕ) (text front uuid : List ℕ) (spans : List Span) (part : Part) → length front ≡ at →
    EndsSpan (length front) uuid part → AreItems at text groups → (last : List ℕ) × IsTaken front spans part text (begun part ++ in_turn groups) last
items_scanned [] at text front uuid spans part l e h =
    let none : text ≡ [] = h in
    let same : front ++ text ≡ front = ap (λ (t : List ℕ). front ++ t) none ∙ append-nil front in (
      uuid,
      record {
        kept = spans;
        after = part;
        scans = λ rest. ap (λ (t : List ℕ). scanned_from front spans part (t ++ rest)) none ∙ ap (λ (f : List ℕ). scanned_from f spans part rest) (sym same);
        all = ap (λ (x : List Span). spans ++ x) (sym (append-nil (begun part)));
        ends = subst (λ (f : List ℕ). EndsSpan (length f) uuid part) (sym same) e;
      },
    )
items_scanned (own ∷ groups) at text front uuid spans part l e (gap, item, rest_text, are, is_gap, is_item, are_items) =
    let lead : List ℕ = front ++ gap in
    let behind : at + length gap ≡ length lead = sym (length-append front gap ∙ ap (λ (n : ℕ). n + length gap) l) in
    let one = item_scanned lead item (spans ++ begun part) Gap own gap_begins (subst (λ (n : ℕ). IsItem n item own) behind is_item) in
    let front2 : List ℕ = lead ++ item in
    let long2 : length front2 ≡ at + length gap + length item = length-append lead item ∙ ap (λ (n : ℕ). n + length item) (sym behind) in
    let many = items_scanned groups (at + length gap + length item) rest_text front2 one.0 one.1.kept one.1.after long2 one.1.ends are_items in
    let joined : front2 ++ rest_text ≡ front ++ text =
    append_assoc lead item rest_text ∙ (append_assoc front gap (item ++ rest_text) ∙ ap (λ (t : List ℕ). front ++ t) (sym are)) in
    let comma : (rest : List ℕ) → scanned_from front spans part (gap ++ rest) ≡ scanned_from lead (spans ++ begun part) Gap rest = λ rest.
    ap (λ (t : List ℕ). scanned_from front spans part (t ++ rest)) is_gap.are
    ∙ (ap (λ (t : List ℕ). scanned_from front spans part t) (append_assoc is_gap.before (44 ∷ is_gap.after) rest)
    ∙ (comma_scanned front uuid is_gap.before is_gap.after spans part rest e is_gap.blanks_before is_gap.blanks_after
    ∙ ap (λ (t : List ℕ). scanned_from (front ++ t) (spans ++ begun part) Gap rest) (sym is_gap.are))) in (
      many.0,
      record {
        kept = many.1.kept;
        after = many.1.after;
        scans = λ rest.
            ap (λ (t : List ℕ). scanned_from front spans part (t ++ rest)) are
            ∙ (ap (λ (t : List ℕ). scanned_from front spans part t) (append_assoc gap (item ++ rest_text) rest ∙ ap (λ (t : List ℕ). gap ++ t) (append_assoc item rest_text rest))
            ∙ (comma (item ++ (rest_text ++ rest))
            ∙ (one.1.scans (rest_text ++ rest)
            ∙ (many.1.scans rest
            ∙ ap (λ (f : List ℕ). scanned_from f many.1.kept many.1.after rest) joined))));
        all =
            many.1.all
            ∙ (sym (append_assoc one.1.kept (begun one.1.after) (in_turn groups))
            ∙ (ap (λ (x : List Span). x ++ in_turn groups) one.1.all
            ∙ (append_assoc (spans ++ begun part) own (in_turn groups)
            ∙ append_assoc spans (begun part) (own ++ in_turn groups))));
        ends = subst (λ (f : List ℕ). EndsSpan (length f) many.0 many.1.after) joined many.1.ends;
      },
    )

-- a text that may end
whole : List Span → Scanned
whole spans = record { spans = spans; stop = None }

lt-true : (a b : ℕ) → a < b → nat_lt a b ≡ true
lt-true a b h = lt-ltb a b h

may_end_behind : (at : ℕ) (uuid : List ℕ) (part : Part) → EndsSpan at uuid part → end_of part at ≡ None
may_end_behind at uuid (First u from n) e = rw (lt-true from at e.1) refl
may_end_behind at uuid (Last u first first_at from n) e = rw (lt-true from at e.1) refl
may_end_behind at uuid (Prefix k) e = absurd e
may_end_behind at uuid Opening e = absurd e
may_end_behind at uuid Gap e = absurd e
may_end_behind at uuid (UuidText from) e = absurd e
may_end_behind at uuid Closing e = absurd e

-- blanks behind a span, and the end
closing_scanned : (front uuid blanks : List ℕ) (spans : List Span) (part : Part) → EndsSpan (length front) uuid part → AreBlanks blanks →
    scanned_from front spans part blanks ≡ whole (spans ++ begun part)
unfolding whole
closing_scanned front uuid [] spans part e h =
    scan_end front spans part ∙ ap (λ (o : Option ℕ). let s : Scanned = record { spans = spans ++ begun part; stop = o } in s) (may_end_behind (length front) uuid part e)
closing_scanned front uuid (b ∷ bs) spans part e h =
    let p = and_parts (is_blank b) (list_all is_blank bs) h in
    let all : List Span = spans ++ begun part in
    ends_with front uuid spans part Closing b bs e (blank_goes b p.0) (blank_behind uuid (length front) b p.0)
    ∙ (ap (λ (t : List ℕ). scanned_from (front ++ b ∷ []) all Closing t) (sym (append-nil bs))
    ∙ (blanks_scanned Closing closing_takes refl bs (front ++ b ∷ []) all [] p.1
    ∙ (scan_end ((front ++ b ∷ []) ++ bs) all Closing
    ∙ ap whole (append-nil all))))

spelled : (rest : List ℕ) → scanned_from [] [] Opening (prefix ++ rest) ≡ scanned_from prefix [] Opening rest
unfolding scanned_from
spelled rest = refl

-- the prefix or nothing
prefix_scanned : (front rest : List ℕ) → IsPrefix front → scanned_from [] [] Opening (front ++ rest) ≡ scanned_from front [] Opening rest
prefix_scanned front rest (inl e) = ap (λ (f : List ℕ). scanned_from [] [] Opening (f ++ rest)) e ∙ ap (λ (f : List ℕ). scanned_from f [] Opening rest) (sym e)
prefix_scanned front rest (inr e) =
    ap (λ (f : List ℕ). scanned_from [] [] Opening (f ++ rest)) e
    ∙ (spelled rest ∙ ap (λ (f : List ℕ). scanned_from f [] Opening rest) (sym e))

-- the text of a set is scanned to its spans
pub complete : (text : List ℕ) (spans : List Span) → IsSetText text spans → scanned text ≡ record { spans = spans; stop = None }
unfolding whole
complete text spans h =
    let o = h.is_opening in
    let opened : (rest : List ℕ) → scanned_from [] [] Opening (h.opening ++ rest) ≡ scanned_from h.opening [] Opening rest = λ rest.
    ap (λ (t : List ℕ). scanned_from [] [] Opening t) (ap (λ (t : List ℕ). t ++ rest) o.are ∙ append_assoc o.front o.blanks rest)
    ∙ (prefix_scanned o.front (o.blanks ++ rest) o.is_prefix
    ∙ (blanks_scanned Opening opening_takes refl o.blanks o.front [] rest o.are_blanks
    ∙ ap (λ (f : List ℕ). scanned_from f [] Opening rest) (sym o.are))) in
    sym (scan_begin text)
    ∙ (ap (λ (t : List ℕ). scanned_from [] [] Opening t) h.are
    ∙ (opened (h.items ++ h.closing)
    ∙ (listed h.groups h.opening h.items h.closing h.are_items h.are_blanks
    ∙ ap whole (sym h.are_spans))))
  where
    listed : (groups : List (List Span)) (opening items closing : List ℕ) → AreListed (length opening) items groups → AreBlanks closing →
        scanned_from opening [] Opening (items ++ closing) ≡ whole (in_turn groups)
    listed [] opening items closing h b =
        ap (λ (t : List ℕ). scanned_from opening [] Opening (t ++ closing)) h
        ∙ (ap (λ (t : List ℕ). scanned_from opening [] Opening t) (sym (append-nil closing))
        ∙ (blanks_scanned Opening opening_takes refl closing opening [] [] b
        ∙ scan_end (opening ++ closing) [] Opening))
    listed (own ∷ groups) opening items closing (item, rest_text, are, is_item, are_items) b =
        let one = item_scanned opening item [] Opening own opening_begins is_item in
        let front : List ℕ = opening ++ item in
        let long : length front ≡ length opening + length item = length-append opening item in
        let many = items_scanned groups (length opening + length item) rest_text front one.0 one.1.kept one.1.after long one.1.ends are_items in
        ap (λ (t : List ℕ). scanned_from opening [] Opening t) (ap (λ (t : List ℕ). t ++ closing) are ∙ append_assoc item rest_text closing)
        ∙ (one.1.scans (rest_text ++ closing)
        ∙ (many.1.scans closing
        ∙ (closing_scanned (front ++ rest_text) many.0 closing many.1.kept many.1.after many.1.ends b
        ∙ ap whole (many.1.all ∙ (sym (append_assoc one.1.kept (begun one.1.after) (in_turn groups)) ∙ ap (λ (x : List Span). x ++ in_turn groups) one.1.all)))))
