-- What a text says: a set of GTIDs, or the fault that comes first: one of form before a zero, that before an interval without
-- numbers, that before a set of too many intervals; of one kind the first from the left.
use Rattle.std.specs.Prelude.{ℕ, ◌+◌, ◌-◌, ◌^◌, ◌≡◌, ◌≤◌, ◌<◌, ◌⊎◌, ◌==◌, nat_lt, List, [], ◌∷◌, ◌++◌, length, take, map, Option, Some, None, Result, Ok, Err, if◌then◌else◌}
use Rattle.std.specs.Option.{option_or}
use Rattle.vs_base.specs.Limits.{most_intervals}
use Rattle.vs_base.specs.declared.gtid.Gtid.{Gtid}
use Rattle.vs_gtid.specs.declared.interval.Interval.{Interval}
use Rattle.vs_gtid.specs.declared.span.Span.{Span}
use Rattle.vs_gtid.specs.declared.refusal.GtidRefusal.{GtidRefusal}
use Rattle.vs_gtid.specs.declared.refusal.GtidRefusal.TheVariants.{BadText, ZeroNumber, EmptyInterval, BadBlock, TooManyIntervals, Memory}
use Rattle.vs_gtid.specs.Positions.{Position, has, IsCanonical}
use Rattle.vs_gtid.specs.Joins.{limited, merged}
use Rattle.vs_gtid.specs.SetTexts.{IsSetText}
use Rattle.vs_gtid.specs.Parts.{Scanned, scanned}

-- the greatest number of a GTID
abbrev pub greatest : ℕ
greatest = 2 ^ 63 - 2

-- the place of a span's number over the greatest, its first or else its last
abbrev pub over_at : Span → Option ℕ
over_at s = if nat_lt greatest s.interval.first then Some s.first_at else if nat_lt greatest s.interval.last then Some s.last_at else None

-- of a number 0
abbrev pub zero_at : Span → Option ℕ
zero_at s = if s.interval.first == 0 then Some s.first_at else if s.interval.last == 0 then Some s.last_at else None

-- of a last number below the first
abbrev pub empty_at : Span → Option ℕ
empty_at s = if nat_lt s.interval.last s.interval.first then Some s.last_at else None

-- the first such place in some spans
abbrev pub first_place : (Span → Option ℕ) → List Span → Option ℕ
first_place at [] = None
first_place at (s ∷ more) = option_or (at s) (first_place at more)

abbrev pub intervals_of : List Span → List Interval
intervals_of spans = map (λ s. s.interval) spans

-- some text of a set begins with these bytes
abbrev pub Fits : List ℕ → Type 0
Fits front = (rest : List ℕ) × (spans : List Span) × IsSetText (front ++ rest) spans

-- and one without a number over the greatest does
abbrev pub FitsInRange : List ℕ → Type 0
FitsInRange front = (rest : List ℕ) × (spans : List Span) × IsSetText (front ++ rest) spans × (first_place over_at spans ≡ None)

-- The bytes before this place fit, and with the byte there they fit no more; or the text ended too early.
pub record IsUnfit (text : List ℕ) (at : ℕ) : Type 0 where
  pub within : at ≤ length text
  pub fits : FitsInRange (take at text)
  pub byte : at < length text → Fits (take (at + 1) text) → ⊥
  pub end : at ≡ length text → (spans : List Span) → IsSetText text spans → ⊥

-- The 19 bytes from this place are the first number over the greatest.
pub record IsOver (text : List ℕ) (at : ℕ) : Type 0 where
  pub within : at + 19 ≤ length text
  pub rest : List ℕ
  pub spans : List Span
  pub fits : IsSetText (take (at + 19) text ++ rest) spans
  pub first : first_place over_at spans ≡ Some at

-- the text is that of a set, and no number is over the greatest
pub record IsInForm (text : List ℕ) (spans : List Span) : Type 0 where
  pub is_text : IsSetText text spans
  pub in_range : first_place over_at spans ≡ None

-- and each span has GTIDs
pub record AreLawful (text : List ℕ) (spans : List Span) : Type 0 where
  pub form : IsInForm text spans
  pub no_zero : first_place zero_at spans ≡ None
  pub none_empty : first_place empty_at spans ≡ None

-- the set has the GTIDs of the spans, and no others
pub record HasSpans (p : Position) (spans : List Span) : Type 0 where
  pub canonical : IsCanonical p
  pub members : (g : Gtid) → has p g ≡ has (intervals_of spans) g

-- what the text says
abbrev pub ReadsSet : List ℕ → Result Position GtidRefusal → Type 0
ReadsSet text (Ok p) = (spans : List Span) × AreLawful text spans × HasSpans p spans × (length p ≤ most_intervals)
ReadsSet text (Err (BadText at)) = IsUnfit text at ⊎ IsOver text at
ReadsSet text (Err (ZeroNumber at)) = (spans : List Span) × IsInForm text spans × (first_place zero_at spans ≡ Some at)
ReadsSet text (Err (EmptyInterval at)) = (spans : List Span) × IsInForm text spans × (first_place zero_at spans ≡ None) × (first_place empty_at spans ≡ Some at)
ReadsSet text (Err (BadBlock at)) = ⊥
ReadsSet text (Err TooManyIntervals) = (spans : List Span) × AreLawful text spans × (p : Position) × HasSpans p spans × (most_intervals < length p)
ReadsSet text (Err Memory) = ⊥

-- the first fault of some spans, which go up to where the text stops to fit
abbrev pub fault_of : Option ℕ → Option ℕ → Option ℕ → Option ℕ → Option GtidRefusal
fault_of (Some at) stop zero empty = Some (BadText at)
fault_of None (Some at) zero empty = Some (BadText at)
fault_of None None (Some at) empty = Some (ZeroNumber at)
fault_of None None None (Some at) = Some (EmptyInterval at)
fault_of None None None None = None

abbrev pub fault_in : Scanned → Option GtidRefusal
fault_in s = fault_of (first_place over_at s.spans) s.stop (first_place zero_at s.spans) (first_place empty_at s.spans)

-- the same, computed
abbrev pub judged : Option GtidRefusal → List Span → Result Position GtidRefusal
judged (Some fault) spans = Err fault
judged None spans = limited (merged (intervals_of spans))

abbrev pub read : List ℕ → Result Position GtidRefusal
read text = judged (fault_in (scanned text)) (scanned text).spans
