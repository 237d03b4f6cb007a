-- What a pattern that was built is found in, and slashes at the ends of a text.
use Rattle.std.proofs.Common.{◌≡◌, ℕ, ◌<◌, Bool, true, false, ◌||◌, List, Option, Some, None, IsSomeAnd, All, get_or, length, is_some, sym, ap, ◌∙◌, subst, inl, inr, arith}
use Rattle.std.specs.Prelude.{chars}
use Rattle.std.specs.Option.{option_map_or}
use Rattle.std.proofs.lemmas.Bool.{cases_lt, cond-true}
use Rattle.std.proofs.lemmas.List.{get_or_past}
use Rattle.regex.specs.Bytes.{IsReadFromSource, regex_config, regex_pattern, regex_source}
use Rattle.regex.specs.Patterns.{Re, Reads, SameCaptures, find}
use Rattle.regex.specs.declared.bytes.regex.Regex.{Regex}
use Rattle.regex.proofs.ForCallers.{is_match_alike}
use Rattle.regex_syntax.specs.Brackets.{Nested}
use Rattle.regex_syntax.specs.Grammar.{Names, read}
use Rattle.vs_outside.specs.Patterns.{byte_config}
use Rattle.vs_filter.specs.Fits.{begins_with_slash, fits, is_any, is_found, pattern_fits, trimmed}

abbrev found_by : Option (Nested Re × Names) → List ℕ → Bool
found_by o name = option_map_or (λ (re, names). is_some (find re.value name 0)) o false

zero_small : 0 < 256
zero_small = omega arith

small_at : (name : List ℕ) → All (λ x. x < 256) name → (k : ℕ) → get_or name k 0 < 256
small_at name small k = elim (cases_lt k (length name))
    [ inl lt ↦ small k 0 lt | inr ge ↦ subst (λ x. x < 256) (sym (get_or_past name k 0 ge)) zero_small ]

alike : (o : Option (Nested Re × Names)) (re : Re) (Q : Nested Re → Names → Type 0) → ((n : Nested Re) (ns : Names) → Q n ns → SameCaptures re n.value) →
    IsSomeAnd o (λ (n, ns). Q n ns) → (name : List ℕ) → ((k : ℕ) → get_or name k 0 < 256) → is_some (find re name 0) ≡ found_by o name
alike None re Q f p name small = absurd p
alike (Some (n, ns)) re Q f p name small = is_match_alike (f n ns p) name small false 0

-- a pattern is found where the grammar's reading of its text is
pub found_as_read : (r : Regex) (text : List ℕ) → regex_source r ≡ text → regex_config r ≡ byte_config → IsReadFromSource r →
    (name : List ℕ) → All (λ x. x < 256) name → is_some (find (regex_pattern r) name 0) ≡ is_found text name
unfolding Reads is_found
found_as_read r text source config is_read name small =
    let reads = rw (source, config) at is_read in
    alike (read byte_config (chars text)) (regex_pattern r) _ (λ n ns p. p.1) reads name (small_at name small)

-- such a pattern decides which names the match of a rule fits
pub built_decides : (r : Regex) (rule owned pattern : List ℕ) → owned ≡ rule → begins_with_slash rule ≡ true → pattern ≡ trimmed rule →
    is_any pattern ≡ false → regex_source r ≡ pattern → regex_config r ≡ byte_config → IsReadFromSource r →
    (name : List ℕ) → All (λ x. x < 256) name → is_some (find (regex_pattern r) name 0) ≡ fits owned name
built_decides r rule owned pattern same slash is none source config is_read name small =
    let found : is_some (find (regex_pattern r) name 0) ≡ is_found pattern name = found_as_read r pattern source config is_read name small in
    let either : is_found pattern name ≡ pattern_fits pattern name = sym (ap (λ b. b || is_found pattern name) none) in
    let whole : pattern_fits pattern name ≡ fits rule name = ap (λ p. pattern_fits p name) is ∙ sym (cond-true (begins_with_slash rule) _ _ slash) in
    found ∙ either ∙ whole ∙ ap (λ p. fits p name) (sym same)
