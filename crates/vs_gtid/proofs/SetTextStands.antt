-- What the bytes of a text so far are, by the part that comes next; and each byte that is taken keeps to it.
use Rattle.std.proofs.Common.{◌≡◌, ℕ, ◌+◌, ◌<◌, ◌≤◌, ◌⊎◌, true, List, [], ◌∷◌, ◌++◌, length, length-append, take, get_or, Some, refl, ap, sym, subst, ◌∙◌, inl, inr, arith}
use Rattle.std.proofs.lemmas.List.{append_assoc, append-nil}
use Rattle.std.specs.List.{list_all}
use Rattle.std.specs.Char.{is_ascii_digit}
use Rattle.std.specs.Str.Parse.{digits_value}
use Rattle.uuid.specs.Text.{parsed_hyphenated}
use Rattle.vs_gtid.specs.declared.span.Span.{Span}
use Rattle.vs_gtid.specs.declared.part.Part.{Part}
use Rattle.vs_gtid.specs.declared.part.Part.TheVariants.{Prefix, Opening, Gap, UuidText, First, Last, Closing}
use Rattle.vs_gtid.specs.SetTexts.{prefix, IsNumber, IsSpan, AreSpans, IsItem, IsGap, AreItems, AreListed, IsOpening, in_turn, AreBlanks}
use Rattle.vs_gtid.specs.Parts.{fits_uuid}

-- whole items, behind what opens a text
pub record IsDone (text : List ℕ) (spans : List Span) : Type 0 where
  pub opening : List ℕ
  pub items : List ℕ
  pub groups : List (List Span)
  pub are : text ≡ opening ++ items
  pub is_opening : IsOpening opening
  pub are_items : AreListed (length opening) items groups
  pub are_spans : spans ≡ in_turn groups
  pub some : 1 ≤ length groups

-- whole items and a comma
pub record IsParted (text : List ℕ) (spans : List Span) : Type 0 where
  pub done : List ℕ
  pub gap : List ℕ
  pub are : text ≡ done ++ gap
  pub is_done : IsDone done spans
  pub is_gap : IsGap gap

-- where an item may begin
abbrev pub IsLead : List ℕ → List Span → Type 0
IsLead text spans = (IsOpening text × (spans ≡ [])) ⊎ IsParted text spans

-- an item so far, without the span that comes
pub record IsBegunItem (text uuid : List ℕ) (spans : List Span) : Type 0 where
  pub lead : List ℕ
  pub uuid_text : List ℕ
  pub own_text : List ℕ
  pub before : List Span
  pub own : List Span
  pub are : text ≡ lead ++ (uuid_text ++ own_text)
  pub is_lead : IsLead lead before
  pub is_uuid : parsed_hyphenated uuid_text ≡ Some uuid
  pub are_own : AreSpans uuid (length lead + length uuid_text) own_text own
  pub are_spans : spans ≡ before ++ own

-- digits so far, of which there may be none
pub record AreDigits (digits : List ℕ) (n : ℕ) : Type 0 where
  pub all : list_all is_ascii_digit digits ≡ true
  pub few : length digits ≤ 19
  pub worth : digits_value 10 digits ≡ n

pub record IsInUuid (text : List ℕ) (from : ℕ) (spans : List Span) : Type 0 where
  pub lead : List ℕ
  pub bytes : List ℕ
  pub are : text ≡ lead ++ bytes
  pub is_lead : IsLead lead spans
  pub place : from ≡ length lead
  pub few : length bytes ≤ 36
  pub some : 1 ≤ length bytes
  pub fits : (k : ℕ) → k < length bytes → fits_uuid k (get_or bytes k 0) ≡ true

pub record IsInFirst (text uuid : List ℕ) (from n : ℕ) (spans : List Span) : Type 0 where
  pub item : List ℕ
  pub digits : List ℕ
  pub are : text ≡ item ++ 58 ∷ digits
  pub is_item : IsBegunItem item uuid spans
  pub place : from ≡ length item + 1
  pub are_digits : AreDigits digits n

pub record IsInLast (text uuid : List ℕ) (first first_at from n : ℕ) (spans : List Span) : Type 0 where
  pub item : List ℕ
  pub front : List ℕ
  pub digits : List ℕ
  pub are : text ≡ item ++ 58 ∷ (front ++ 45 ∷ digits)
  pub is_item : IsBegunItem item uuid spans
  pub first_place : first_at ≡ length item + 1
  pub is_first : IsNumber front first
  pub place : from ≡ first_at + length front + 1
  pub are_digits : AreDigits digits n

pub record IsClosed (text : List ℕ) (spans : List Span) : Type 0 where
  pub done : List ℕ
  pub blanks : List ℕ
  pub are : text ≡ done ++ blanks
  pub is_done : IsDone done spans
  pub are_blanks : AreBlanks blanks

pub record IsInPrefix (text : List ℕ) (count : ℕ) (spans : List Span) : Type 0 where
  pub are : text ≡ take count prefix
  pub some : 1 ≤ count
  pub few : count ≤ 7
  pub none : spans ≡ []

-- the bytes so far and their whole spans
abbrev pub Stands : List ℕ → List Span → Part → Type 0
Stands text spans (Prefix count) = IsInPrefix text count spans
Stands text spans Opening = IsOpening text × (spans ≡ [])
Stands text spans Gap = IsParted text spans
Stands text spans (UuidText from) = IsInUuid text from spans
Stands text spans (First uuid from n) = IsInFirst text uuid from n spans
Stands text spans (Last uuid first first_at from n) = IsInLast text uuid first first_at from n spans
Stands text spans Closing = IsClosed text spans

-- { ":" span } with one more
more_spans : (spans : List Span) (uuid : List ℕ) (at : ℕ) (text span_text : List ℕ) (s : Span) → AreSpans uuid at text spans →
    IsSpan (at + length text + 1) span_text s → s.interval.uuid ≡ uuid → AreSpans uuid at (text ++ 58 ∷ span_text) (spans ++ s ∷ [])
more_spans [] uuid at text span_text s h is_span u = (
  span_text,
  [],
  ap (λ (t : List ℕ). t ++ 58 ∷ span_text) h ∙ ap (λ (t : List ℕ). 58 ∷ t) (sym (append-nil span_text)),
  subst (λ (n : ℕ). IsSpan n span_text s) (ap (λ (t : List ℕ). at + length t + 1) h ∙ omega arith) is_span,
  u,
  refl,
)
more_spans (x ∷ xs) uuid at text span_text s (first, rest, are, is_first, same, are_rest) is_span u =
    let place : at + length text + 1 ≡ at + 1 + length first + length rest + 1 = omega (arith, ap length are, length-append first rest) in (
      first,
      rest ++ 58 ∷ span_text,
      ap (λ (t : List ℕ). t ++ 58 ∷ span_text) are ∙ ap (λ (t : List ℕ). 58 ∷ t) (append_assoc first rest (58 ∷ span_text)),
      is_first,
      same,
      more_spans xs uuid (at + 1 + length first) rest span_text s are_rest (subst (λ (n : ℕ). IsSpan n span_text s) place is_span) u,
    )

-- { gap item } with one more
more_items : (groups : List (List Span)) (at : ℕ) (text gap item : List ℕ) (own : List Span) → AreItems at text groups → IsGap gap →
    IsItem (at + length text + length gap) item own → AreItems at (text ++ (gap ++ item)) (groups ++ own ∷ [])
more_items [] at text gap item own h is_gap is_item = (
  gap,
  item,
  [],
  ap (λ (t : List ℕ). t ++ (gap ++ item)) h ∙ ap (λ (t : List ℕ). gap ++ t) (sym (append-nil item)),
  is_gap,
  subst (λ (n : ℕ). IsItem n item own) (ap (λ (t : List ℕ). at + length t + length gap) h ∙ omega arith) is_item,
  refl,
)
more_items (g ∷ gs) at text gap item own (first_gap, first, rest, are, is_first_gap, is_first, are_rest) is_gap is_item =
    let place : at + length text + length gap ≡ at + length first_gap + length first + length rest + length gap =
    omega (arith, ap length are, length-append first_gap (first ++ rest), length-append first rest) in (
      first_gap,
      first,
      rest ++ (gap ++ item),
      ap (λ (t : List ℕ). t ++ (gap ++ item)) are ∙ (append_assoc first_gap (first ++ rest) (gap ++ item) ∙ ap (λ (t : List ℕ). first_gap ++ t) (append_assoc first rest (gap ++ item))),
      is_first_gap,
      is_first,
      more_items gs (at + length first_gap + length first) rest gap item own are_rest is_gap (subst (λ (n : ℕ). IsItem n item own) place is_item),
    )

in_turn-push : (groups : List (List Span)) (own : List Span) → in_turn (groups ++ own ∷ []) ≡ in_turn groups ++ own
in_turn-push [] own = append-nil own
in_turn-push (g ∷ gs) own = ap (λ (x : List Span). g ++ x) (in_turn-push gs own) ∙ sym (append_assoc g (in_turn gs) own)

-- [ item { gap item } ] with one more
more_listed : (groups : List (List Span)) (at : ℕ) (text gap item : List ℕ) (own : List Span) → 1 ≤ length groups → AreListed at text groups → IsGap gap →
    IsItem (at + length text + length gap) item own → AreListed at (text ++ (gap ++ item)) (groups ++ own ∷ [])
more_listed [] at text gap item own some h is_gap is_item = absurd (omega arith)
more_listed (g ∷ gs) at text gap item own some (first, rest, are, is_first, are_rest) is_gap is_item =
    let place : at + length text + length gap ≡ at + length first + length rest + length gap = omega (arith, ap length are, length-append first rest) in (
      first,
      rest ++ (gap ++ item),
      ap (λ (t : List ℕ). t ++ (gap ++ item)) are ∙ append_assoc first rest (gap ++ item),
      is_first,
      more_items gs (at + length first) rest gap item own are_rest is_gap (subst (λ (n : ℕ). IsItem n item own) place is_item),
    )

-- an item behind where it may begin
pub done_item : (lead item : List ℕ) (before own : List Span) → IsLead lead before → IsItem (length lead) item own → IsDone (lead ++ item) (before ++ own)
done_item lead item before own (inl h) is_item = record {
  opening = lead;
  items = item;
  groups = own ∷ [];
  are = refl;
  is_opening = h.0;
  are_items = (item, [], sym (append-nil item), is_item, refl);
  are_spans = ap (λ (x : List Span). x ++ own) h.1 ∙ sym (append-nil own);
  some = omega arith;
}
done_item lead item before own (inr h) is_item =
    let d = h.is_done in
    let place : length lead ≡ length d.opening + length d.items + length h.gap =
    ap length h.are ∙ (length-append h.done h.gap ∙ ap (λ (n : ℕ). n + length h.gap) (ap length d.are ∙ length-append d.opening d.items)) in
    record {
      opening = d.opening;
      items = d.items ++ (h.gap ++ item);
      groups = d.groups ++ own ∷ [];
      are =
          ap (λ (t : List ℕ). t ++ item) (h.are ∙ ap (λ (t : List ℕ). t ++ h.gap) d.are)
          ∙ (append_assoc (d.opening ++ d.items) h.gap item ∙ append_assoc d.opening d.items (h.gap ++ item));
      is_opening = d.is_opening;
      are_items = more_listed d.groups (length d.opening) d.items h.gap item own d.some d.are_items h.is_gap (subst (λ (n : ℕ). IsItem n item own) place is_item);
      are_spans = ap (λ (x : List Span). x ++ own) d.are_spans ∙ sym (in_turn-push d.groups own);
      some = omega (arith, length-append d.groups (own ∷ []));
    }

-- an item with one span more
more_item : (item span_text uuid : List ℕ) (spans : List Span) (s : Span) → IsBegunItem item uuid spans → IsSpan (length item + 1) span_text s →
    s.interval.uuid ≡ uuid → IsBegunItem (item ++ 58 ∷ span_text) uuid (spans ++ s ∷ [])
more_item item span_text uuid spans s h is_span u =
    let place : length item + 1 ≡ length h.lead + length h.uuid_text + length h.own_text + 1 =
    omega (arith, ap length h.are, length-append h.lead (h.uuid_text ++ h.own_text), length-append h.uuid_text h.own_text) in
    record {
      lead = h.lead;
      uuid_text = h.uuid_text;
      own_text = h.own_text ++ 58 ∷ span_text;
      before = h.before;
      own = h.own ++ s ∷ [];
      are =
          ap (λ (t : List ℕ). t ++ 58 ∷ span_text) h.are
          ∙ (append_assoc h.lead (h.uuid_text ++ h.own_text) (58 ∷ span_text) ∙ ap (λ (t : List ℕ). h.lead ++ t) (append_assoc h.uuid_text h.own_text (58 ∷ span_text)));
      is_lead = h.is_lead;
      is_uuid = h.is_uuid;
      are_own = more_spans h.own uuid (length h.lead + length h.uuid_text) h.own_text span_text s h.are_own (subst (λ (n : ℕ). IsSpan n span_text s) place is_span) u;
      are_spans = ap (λ (x : List Span). x ++ s ∷ []) h.are_spans ∙ append_assoc h.before h.own (s ∷ []);
    }

-- an item with one span or more
pub record IsSpanned (text uuid : List ℕ) (spans : List Span) : Type 0 where
  pub item : IsBegunItem text uuid spans
  pub some : 1 ≤ length item.own

pub one_more : (item span_text uuid : List ℕ) (spans : List Span) (s : Span) → IsBegunItem item uuid spans → IsSpan (length item + 1) span_text s → s.interval.uuid ≡ uuid →
    IsSpanned (item ++ 58 ∷ span_text) uuid (spans ++ s ∷ [])
unfolding more_item
one_more item span_text uuid spans s h is_span u =
    record { item = more_item item span_text uuid spans s h is_span u; some = omega (arith, length-append h.own (s ∷ [])) }

-- an item with a span is a whole one
pub ended_item : (text uuid : List ℕ) (spans : List Span) (h : IsBegunItem text uuid spans) → 1 ≤ length h.own → IsDone text spans
ended_item text uuid spans h some =
    let is_item : IsItem (length h.lead) (h.uuid_text ++ h.own_text) h.own = record {
      uuid_text = h.uuid_text;
      spans_text = h.own_text;
      are = refl;
      uuid = uuid;
      is_uuid = h.is_uuid;
      are_spans = h.are_own;
      some = some;
    } in
    let d = done_item h.lead (h.uuid_text ++ h.own_text) h.before h.own h.is_lead is_item in
    subst (λ (x : List Span). IsDone text x) (sym h.are_spans) (subst (λ (t : List ℕ). IsDone t (h.before ++ h.own)) (sym h.are) d)
