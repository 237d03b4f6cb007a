-- What may come next in the text of a set, byte by byte. The contract of `GtidSet::parse` and its laws tie it to the grammar.
use Rattle.std.specs.Prelude.{ℕ, ◌+◌, ◌-◌, ◌*◌, ◌^◌, ◌≤◌, ◌<◌, Bool, true, false, ◌==◌, ◌||◌, ◌&&◌, nat_eq, nat_lt, nat_le, List, [], ◌∷◌, ◌++◌, length, drop, slice_index, Option, Some, None, if◌then◌else◌}
use Rattle.std.specs.Option.{option_map}
use Rattle.std.specs.Char.{is_ascii_digit, digit_value}
use Rattle.uuid.specs.Text.{is_hex_digit, is_hyphen_place, parsed_hyphenated}
use Rattle.vs_gtid.specs.declared.span.Span.{Span}
use Rattle.vs_gtid.specs.declared.part.Part.{Part}
use Rattle.vs_gtid.specs.declared.part.Part.TheVariants.{Prefix, Opening, Gap, UuidText, First, Last, Closing}
use Rattle.vs_gtid.specs.SetTexts.{is_blank, prefix}

-- a blank, or the first digit of a UUID
abbrev pub in_gap : ℕ → ℕ → Option Part
in_gap at b = if is_blank b then Some Gap else if is_hex_digit b then Some (UuidText at) else None

-- the same, or the prefix at the very front
abbrev pub in_opening : ℕ → ℕ → Option Part
in_opening at b =
    if is_blank b then Some Opening
    else if is_hex_digit b then Some (UuidText at)
    else if nat_eq at 0 && (b == 77) then Some (Prefix 1) else None

abbrev pub in_prefix : ℕ → ℕ → Option Part
in_prefix count b = if b == slice_index prefix count then Some (if count == 7 then Opening else Prefix (count + 1)) else None

-- whether the byte may stand at the place of a UUID's text
abbrev pub fits_uuid : ℕ → ℕ → Bool
fits_uuid k b = if is_hyphen_place k then b == 45 else is_hex_digit b

-- a UUID's text so far, and where it began
abbrev pub in_uuid : List ℕ → ℕ → ℕ → Option Part
in_uuid text from b =
    if length text == 36 then (if b == 58 then option_map (λ uuid. First uuid (from + 37) 0) (parsed_hyphenated text) else None)
    else if fits_uuid (length text) b then Some (UuidText from) else None

abbrev pub behind_item : ℕ → Option Part
behind_item b = if is_blank b then Some Closing else if b == 44 then Some Gap else None

abbrev pub behind_span : List ℕ → ℕ → ℕ → Option Part
behind_span uuid at b = if b == 58 then Some (First uuid (at + 1) 0) else behind_item b

-- a number of so many digits with one digit more
abbrev pub with_digit : ℕ → ℕ → ℕ → Option ℕ
with_digit count number b = if nat_lt count 19 then Some (number * 10 + digit_value b) else None

abbrev pub in_first : List ℕ → ℕ → ℕ → ℕ → ℕ → Option Part
in_first uuid from number at b =
    if is_ascii_digit b then option_map (λ n. First uuid from n) (with_digit (at - from) number b)
    else if nat_le at from then None
    else if b == 45 then Some (Last uuid number from (at + 1) 0)
    else behind_span uuid at b

abbrev pub in_last : List ℕ → ℕ → ℕ → ℕ → ℕ → ℕ → ℕ → Option Part
in_last uuid first first_at from number at b =
    if is_ascii_digit b then option_map (λ n. Last uuid first first_at from n) (with_digit (at - from) number b)
    else if nat_le at from then None
    else behind_span uuid at b

-- what comes behind the next byte of a text, whose first bytes these are
abbrev pub next : List ℕ → Part → ℕ → Option Part
next front (Prefix count) b = in_prefix count b
next front Opening b = in_opening (length front) b
next front Gap b = in_gap (length front) b
next front (UuidText from) b = in_uuid (drop from front) from b
next front (First uuid from number) b = in_first uuid from number (length front) b
next front (Last uuid first first_at from number) b = in_last uuid first first_at from number (length front) b
next front Closing b = behind_item b

-- whether the text may end
abbrev pub may_end : ℕ → Part → Bool
may_end at (Prefix count) = false
may_end at Opening = true
may_end at Gap = false
may_end at (UuidText from) = false
may_end at (First uuid from number) = nat_lt from at
may_end at (Last uuid first first_at from number) = nat_lt from at
may_end at Closing = true

-- the end of a text, where it can't end there
abbrev pub end_of : Part → ℕ → Option ℕ
end_of part end = if may_end end part then None else Some end

abbrev pub span : List ℕ → ℕ → ℕ → ℕ → ℕ → Span
span uuid first first_at last last_at = record { interval = record { uuid = uuid; first = first; last = last }; first_at = first_at; last_at = last_at }

-- the span that isn't at its end yet
abbrev pub begun : Part → List Span
begun (First uuid from number) = span uuid number from number from ∷ []
begun (Last uuid first first_at from number) = span uuid first first_at number from ∷ []
begun part = []

-- whether a span goes on with the byte
abbrev pub goes_on : ℕ → Bool
goes_on b = is_ascii_digit b || (b == 45)

-- the span that ends before the byte
abbrev pub ended : Part → ℕ → List Span
ended part b = if goes_on b then [] else begun part

-- The spans up to where a text stops to fit, the last of them maybe cut; and that place.
pub record Scanned : Type 0 where
  pub spans : List Span
  pub stop : Option ℕ

unfoldable pub scanned_from : List ℕ → List Span → Part → List ℕ → Scanned
scanned_from front spans part [] =
    record { spans = spans ++ begun part; stop = end_of part (length front) }
scanned_from front spans part (b ∷ rest) = elim (next front part b) [
  | None ↦ record { spans = spans ++ begun part; stop = Some (length front) }
  | Some after ↦ scanned_from (front ++ b ∷ []) (spans ++ ended part b) after rest
]

unfoldable pub scanned : List ℕ → Scanned
scanned text = scanned_from [] [] Opening text

-- the places and the number of a part are those of so many bytes
abbrev pub IsWithin : ℕ → Part → Type 0
IsWithin at (Prefix count) = (1 ≤ count) × (count < 8)
IsWithin at Opening = Unit {0}
IsWithin at Gap = Unit {0}
IsWithin at (UuidText from) = (from < at) × (at ≤ from + 36)
IsWithin at (First uuid from number) = (from ≤ at) × (at ≤ from + 19) × (number < 10 ^ (at - from))
IsWithin at (Last uuid first first_at from number) = (from ≤ at) × (at ≤ from + 19) × (number < 10 ^ (at - from))
IsWithin at Closing = Unit {0}
