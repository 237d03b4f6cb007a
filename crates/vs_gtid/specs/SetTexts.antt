-- The texts of GTID sets, production by production:
--   set    = ["MySQL56/"] blanks [ item { gap item } ] blanks
--   item   = uuid ":" span { ":" span }
--   gap    = blanks "," blanks
--   span   = number [ "-" number ]
--   number = 1 to 19 decimal digits
-- A production speaks of a whole text, and of the place where it begins in the set's text.
use Rattle.std.specs.Prelude.{ℕ, ◌+◌, ◌≡◌, ◌≤◌, ◌⊎◌, true, List, [], ◌∷◌, ◌++◌, length, codes, Some}
use Rattle.std.specs.List.{list_all}
use Rattle.std.specs.Char.{is_ascii_digit}
use Rattle.std.specs.Str.Parse.{digits_value}
use Rattle.uuid.specs.Text.{parsed_hyphenated}
use Rattle.vs_gtid.specs.declared.span.Span.{Span}
pub use Rattle.vs_base.specs.Blanks.{is_blank, AreBlanks}

-- what may stand at the very front
abbrev pub prefix : List ℕ
prefix = codes "MySQL56/"

abbrev pub IsPrefix : List ℕ → Type 0
IsPrefix text = (text ≡ []) ⊎ (text ≡ prefix)

-- 1 to 19 digits, leading zeros among them, and the number that they write
pub record IsNumber (text : List ℕ) (n : ℕ) : Type 0 where
  pub digits : list_all is_ascii_digit text ≡ true
  pub some : 1 ≤ length text
  pub few : length text ≤ 19
  pub worth : digits_value 10 text ≡ n

-- a span of one number, which is its first and its last
pub record IsSingle (at : ℕ) (text : List ℕ) (s : Span) : Type 0 where
  pub number : IsNumber text s.interval.first
  pub place : s.first_at ≡ at
  pub same : s.interval.last ≡ s.interval.first
  pub same_place : s.last_at ≡ at

-- a span from one number to another
pub record IsRange (at : ℕ) (text : List ℕ) (s : Span) : Type 0 where
  pub front : List ℕ
  pub back : List ℕ
  pub are : text ≡ front ++ (codes "-" ++ back)
  pub first : IsNumber front s.interval.first
  pub first_place : s.first_at ≡ at
  pub last : IsNumber back s.interval.last
  pub last_place : s.last_at ≡ at + length front + 1

abbrev pub IsSpan : ℕ → List ℕ → Span → Type 0
IsSpan at text s = IsSingle at text s ⊎ IsRange at text s

-- { ":" span }, of one UUID
abbrev pub AreSpans : List ℕ → ℕ → List ℕ → List Span → Type 0
AreSpans uuid at text [] = text ≡ []
AreSpans uuid at text (s ∷ more) =
    (span : List ℕ) × (rest : List ℕ) × (text ≡ codes ":" ++ (span ++ rest)) × IsSpan (at + 1) span s × (s.interval.uuid ≡ uuid)
    × AreSpans uuid (at + 1 + length span) rest more

-- a UUID in its hyphenated form of 36 bytes, and its spans
pub record IsItem (at : ℕ) (text : List ℕ) (spans : List Span) : Type 0 where
  pub uuid_text : List ℕ
  pub spans_text : List ℕ
  pub are : text ≡ uuid_text ++ spans_text
  pub uuid : List ℕ
  pub is_uuid : parsed_hyphenated uuid_text ≡ Some uuid
  pub are_spans : AreSpans uuid (at + length uuid_text) spans_text spans
  pub some : 1 ≤ length spans

-- a comma, with blanks round it
pub record IsGap (text : List ℕ) : Type 0 where
  pub before : List ℕ
  pub after : List ℕ
  pub are : text ≡ before ++ (codes "," ++ after)
  pub blanks_before : AreBlanks before
  pub blanks_after : AreBlanks after

-- { gap item }
abbrev pub AreItems : ℕ → List ℕ → List (List Span) → Type 0
AreItems at text [] = text ≡ []
AreItems at text (spans ∷ more) =
    (gap : List ℕ) × (item : List ℕ) × (rest : List ℕ) × (text ≡ gap ++ (item ++ rest)) × IsGap gap × IsItem (at + length gap) item spans
    × AreItems (at + length gap + length item) rest more

-- [ item { gap item } ]
abbrev pub AreListed : ℕ → List ℕ → List (List Span) → Type 0
AreListed at text [] = text ≡ []
AreListed at text (spans ∷ more) =
    (item : List ℕ) × (rest : List ℕ) × (text ≡ item ++ rest) × IsItem at item spans × AreItems (at + length item) rest more

-- lists one after the other
abbrev pub in_turn : List (List Span) → List Span
in_turn [] = []
in_turn (spans ∷ more) = spans ++ in_turn more

-- what stands before the items: the prefix or nothing, and blanks
pub record IsOpening (text : List ℕ) : Type 0 where
  pub front : List ℕ
  pub blanks : List ℕ
  pub are : text ≡ front ++ blanks
  pub is_prefix : IsPrefix front
  pub are_blanks : AreBlanks blanks

-- The text is that of a set, and these are its spans, in order.
pub record IsSetText (text : List ℕ) (spans : List Span) : Type 0 where
  pub opening : List ℕ
  pub items : List ℕ
  pub closing : List ℕ
  pub are : text ≡ opening ++ (items ++ closing)
  pub is_opening : IsOpening opening
  pub groups : List (List Span)
  pub are_items : AreListed (length opening) items groups
  pub are_spans : spans ≡ in_turn groups
  pub are_blanks : AreBlanks closing
