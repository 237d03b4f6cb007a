-- Which texts are patterns, as the crate of regular expressions reads them over bytes.
use Rattle.std.specs.Prelude.{◌≡◌, ℕ, Bool, true, false, ◌&&◌, nat_le, chars, List, Option, Some, None}
use Rattle.std.specs.Str.{is_utf8}
use Rattle.regex.specs.Patterns.{Config, Re, default_config}
use Rattle.regex_syntax.specs.Grammar.{Names, read}
use Rattle.regex_syntax.specs.Brackets.{Nested}

abbrev pub byte_config : Config
byte_config = record default_config { utf8 = false }

-- the grammar reads something, and that is nested no deeper than the limit
abbrev pub is_read_within : ℕ → Option (Nested Re × Names) → Bool
is_read_within limit None = false
is_read_within limit (Some (found, names)) = nat_le found.depth limit

-- the text is a pattern
unfoldable pub is_pattern_text : List ℕ → Bool
is_pattern_text text = is_utf8 text && is_read_within 250 (read byte_config (chars text))

abbrev pub IsPattern : List ℕ → Type 0
IsPattern text = is_pattern_text text ≡ true

abbrev pub IsNoPattern : List ℕ → Type 0
IsNoPattern text = is_pattern_text text ≡ false
