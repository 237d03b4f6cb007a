-- Which tables the match of a rule fits.
use Rattle.std.specs.Prelude.{◌≡◌, ℕ, Bool, true, false, not, ◌||◌, ◌&&◌, ◌==◌, List, [], ◌∷◌, reverse, chars, is_some, nat_eq, if◌then◌else◌}
use Rattle.std.specs.Option.{option_map_or}
use Rattle.std.specs.Cmp.Lexicographic.{pointwise}
use Rattle.regex.specs.Patterns.{find}
use Rattle.regex_syntax.specs.Grammar.{read}
use Rattle.regex.specs.Bytes.{regex_pattern}
use Rattle.vs_outside.specs.Patterns.{byte_config, is_pattern_text}
use Rattle.vs_filter.specs.declared.rule_match.Fitting.{Fitting}

-- the match stands for a pattern: it begins with a slash
abbrev pub begins_with_slash : List ℕ → Bool
begins_with_slash [] = false
begins_with_slash (b ∷ bs) = b == 0x2F

-- the text without the slashes in front
abbrev pub behind_slashes : List ℕ → List ℕ
behind_slashes [] = []
behind_slashes (b ∷ bs) = if b == 0x2F then behind_slashes bs else b ∷ bs

-- the text without the slashes at its end
abbrev pub before_slashes : List ℕ → List ℕ
before_slashes text = reverse (behind_slashes (reverse text))

-- the text without the slashes at both ends
abbrev pub trimmed : List ℕ → List ℕ
trimmed text = before_slashes (behind_slashes text)

-- the text is `.*`
abbrev pub is_any : List ℕ → Bool
is_any text = pointwise nat_eq text (0x2E ∷ 0x2A ∷ [])

-- The grammar reads the text, and what it reads has a match somewhere in the name. A text that it does not read is
-- found nowhere: no filter is built over such a text.
unfoldable pub is_found : List ℕ → List ℕ → Bool
is_found text name = option_map_or (λ (re, names). is_some (find re.value name 0)) (read byte_config (chars text)) false

-- the text of a pattern fits the name
abbrev pub pattern_fits : List ℕ → List ℕ → Bool
pattern_fits text name = is_any text || is_found text name

-- the match of a rule fits the name
abbrev pub fits : List ℕ → List ℕ → Bool
fits rule name = if begins_with_slash rule then pattern_fits (trimmed rule) name else pointwise nat_eq rule name

-- the match is a pattern that is given to the crate of regular expressions
abbrev pub is_regex_match : List ℕ → Bool
is_regex_match rule = begins_with_slash rule && not (is_any (trimmed rule))

abbrev pub IsRegexMatch : List ℕ → Type 0
IsRegexMatch rule = is_regex_match rule ≡ true

-- and that crate reads no pattern there
abbrev pub lacks_pattern : List ℕ → Bool
lacks_pattern rule = is_regex_match rule && not (is_pattern_text (trimmed rule))

-- what each way to try a match answers
abbrev pub fits_by : Fitting → List ℕ → List ℕ → Bool
fits_by Fitting.Name rule name = pointwise nat_eq rule name
fits_by Fitting.Any rule name = true
fits_by (Fitting.Found regex) rule name = is_some (find (regex_pattern regex) name 0)
