-- The kinds of columns, as words.
use Rattle.std.specs.Prelude.{ℕ, ◌+◌, ◌-◌, ◌*◌, ◌==◌, Bool, true, false, ◌&&◌, nat_eq, nat_le, nat_lt, if◌then◌else◌, List, [], ◌∷◌, length, take, slice_index, Option, Some, None}
use Rattle.std.specs.List.{list_all, position_or_len, before_first, after_first}
use Rattle.std.specs.Cmp.Lexicographic.{pointwise}
use Rattle.vs_base.specs.declared.table.ColumnKind.{ColumnKind}
use Rattle.vs_base.specs.declared.table.ColumnKind.TheVariants as kind
use Rattle.vs_schema.specs.Words.{word_unsigned, word_tinyint, word_smallint, word_mediumint, word_int, word_bigint, word_date, word_text, word_blob, word_timestamp, word_datetime, word_varchar, word_varbinary, word_decimal, word_char, word_binary}
use Rattle.vs_schema.specs.Lines.{is_empty, sole}

abbrev pub same : List ℕ → List ℕ → Bool
same a b = pointwise nat_eq a b

abbrev pub is_digit : ℕ → Bool
is_digit c = nat_le 48 c && nat_le c 57

-- digits, without a zero in front of others
abbrev pub is_numeral : List ℕ → Bool
is_numeral [] = false
is_numeral (c ∷ []) = is_digit c
is_numeral (c ∷ d ∷ cs) = list_all is_digit (c ∷ d ∷ cs) && nat_lt 48 c

-- the number of some digits behind those of n
abbrev pub number_from : ℕ → List ℕ → ℕ
number_from n [] = n
number_from n (c ∷ cs) = number_from (n * 10 + (c - 48)) cs

-- the number up to a limit that is the numeral
abbrev pub number_of : ℕ → List ℕ → Option ℕ
number_of limit text = if is_numeral text && nat_le (number_from 0 text) limit then Some (number_from 0 text) else None

abbrev pub mapped : {A B : Type 0} → (A → B) → Option A → Option B
mapped f None = None
mapped f (Some x) = Some (f x)

-- whole numbers
abbrev pub integer : List ℕ → Bool → Option ColumnKind
integer word unsigned =
    if same word word_tinyint then Some (kind.TinyInt unsigned)
    else if same word word_smallint then Some (kind.SmallInt unsigned)
    else if same word word_mediumint then Some (kind.MediumInt unsigned)
    else if same word word_int then Some (kind.Int unsigned)
    else if same word word_bigint then Some (kind.BigInt unsigned)
    else None

abbrev pub plain : List ℕ → Option ColumnKind
plain word =
    if same word word_date then Some kind.Date
    else if same word word_text then Some kind.Text
    else if same word word_blob then Some kind.Blob
    else if same word word_timestamp then Some (kind.Timestamp 0)
    else if same word word_datetime then Some (kind.DateTime 0)
    else None

abbrev pub is_comma : ℕ → Bool
is_comma c = c == 44

abbrev pub is_opening : ℕ → Bool
is_opening c = c == 40

-- a precision, and a scale up to it
abbrev pub decimal_by : Option ℕ → Option ℕ → Option ColumnKind
decimal_by None scale = None
decimal_by (Some precision) None = None
decimal_by (Some precision) (Some scale) = if nat_le 1 precision && nat_le scale precision then Some (kind.Decimal precision scale) else None

abbrev pub decimal : List ℕ → Option ColumnKind
decimal sizes =
    if nat_lt (position_or_len is_comma sizes) (length sizes)
    then decimal_by (number_of 65 (before_first is_comma sizes)) (number_of 30 (after_first is_comma sizes))
    else None

-- a name with these sizes
abbrev pub sized : List ℕ → List ℕ → Option ColumnKind
sized name sizes =
    if same name word_varchar then mapped kind.VarChar (number_of 65535 sizes)
    else if same name word_varbinary then mapped kind.VarBinary (number_of 65535 sizes)
    else if same name word_char then mapped kind.Char (number_of 255 sizes)
    else if same name word_binary then mapped kind.Binary (number_of 255 sizes)
    else if same name word_timestamp then mapped kind.Timestamp (number_of 6 sizes)
    else if same name word_datetime then mapped kind.DateTime (number_of 6 sizes)
    else if same name word_decimal then decimal sizes
    else None

-- the same, where the sizes are what stands before `)` at the end
abbrev pub sized_by : List ℕ → List ℕ → Option ColumnKind
sized_by name rest =
    if nat_le 1 (length rest) && slice_index rest (length rest - 1) == 41 then sized name (take (length rest - 1) rest) else None

abbrev pub with_sizes : List ℕ → Option ColumnKind
with_sizes word =
    if nat_lt (position_or_len is_opening word) (length word)
    then sized_by (before_first is_opening word) (after_first is_opening word)
    else None

abbrev pub or_else : Option ColumnKind → Option ColumnKind → Option ColumnKind
or_else None other = other
or_else (Some k) other = Some k

abbrev pub one_word : List ℕ → Option ColumnKind
one_word word = or_else (integer word false) (or_else (plain word) (with_sizes word))

-- a kind of two words
abbrev pub two_words : List ℕ → Option (List ℕ) → Option ColumnKind
two_words word None = None
two_words word (Some next) = if same next word_unsigned then integer word true else None

-- the kind that some words are
unfoldable pub kind_of : List (List ℕ) → Option ColumnKind
kind_of [] = None
kind_of (word ∷ words) = if is_empty words then one_word word else two_words word (sole words)
