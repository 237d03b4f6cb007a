-- What the answers of the crate of regular expressions say of a text.
use Rattle.std.proofs.Common.{◌≡◌, ◌≢◌, ℕ, ◌<◌, ◌≤◌, true, false, List, Option, Some, None, IsSomeAnd, refl, ap, subst, inl, inr, IsUtf8}
use Rattle.std.specs.Prelude.{IfSome, chars}
use Rattle.std.proofs.lemmas.Bool.{le-leb, lt-leb, and_from, and_left, and_right, false_from_ne_true}
use Rattle.std.proofs.lemmas.Str.{is_utf8-from_IsUtf8, IsUtf8-from_is_utf8}
use Rattle.regex.specs.Bytes.{IsReadFromSource, regex_config, regex_source}
use Rattle.regex.specs.Failures.{IsPattern as IsRead, IsRightKind}
use Rattle.regex.specs.Patterns.{Re, Reads, Refuses}
use Rattle.regex.specs.Sources.{IsRefusal}
use Rattle.regex.specs.declared.bytes.regex.Regex.{Regex}
use Rattle.regex.specs.declared.error.Error.{Error}
use Rattle.regex.specs.declared.error.Error.TheVariants.{Syntax}
use Rattle.regex_syntax.specs.Brackets.{Nested}
use Rattle.regex_syntax.specs.Grammar.{Names, read}
use Rattle.regex_syntax.specs.declared.error.Error as parser
use Rattle.regex_syntax.specs.declared.error.ErrorKind.{ErrorKind}
use Rattle.regex_syntax.specs.declared.error.ErrorKind.TheVariants as kind
use Rattle.vs_outside.specs.Patterns.{IsNoPattern, IsPattern, byte_config, is_pattern_text, is_read_within}

within : (o : Option (Nested Re × Names)) (P : Nested Re → Names → Type 0) → ((n : Nested Re) (ns : Names) → P n ns → n.depth ≤ 250) →
    IsSomeAnd o (λ (n, ns). P n ns) → is_read_within 250 o ≡ true
within None P f p = absurd p
within (Some (n, ns)) P f p = le-leb n.depth 250 (f n ns p)

beyond : (o : Option (Nested Re × Names)) → IfSome o (λ (n, _). 250 < n.depth) → is_read_within 250 o ≡ false
beyond None p = refl
beyond (Some (n, ns)) p = lt-leb n.depth 250 p

-- what the grammar reads is a pattern
pub read_is_pattern : (text : List ℕ) → IsUtf8 text → IsRead byte_config text → IsPattern text
unfolding is_pattern_text Reads
read_is_pattern text utf8 (hir, names, reads) = and_from _ _ (is_utf8-from_IsUtf8 text utf8) (within (read byte_config (chars text)) _ (λ n ns p. p.0) reads)

-- and so is what was built
pub built_is_pattern : (r : Regex) (text : List ℕ) → IsUtf8 text → regex_source r ≡ text → regex_config r ≡ byte_config → IsReadFromSource r → IsPattern text
built_is_pattern r text utf8 source config is_read = read_is_pattern text utf8 (_, _, rw (source, config) at is_read)

refused_is_none : (text : List ℕ) (k : ErrorKind) → k ≢ kind.OutOfMemory → Refuses byte_config text k → IsNoPattern text
unfolding is_pattern_text Refuses
refused_is_none text k other (inl memory) = absurd (other memory)
refused_is_none text k other (inr (inl none)) = and_right _ _ (ap (is_read_within 250) none)
refused_is_none text k other (inr (inr (deep, depth))) = and_right _ _ (beyond (read byte_config (chars text)) depth)

-- an error of syntax comes of no pattern
pub syntax_is_none : (text : List ℕ) (error : Error) (e : parser.Error) → error ≡ Syntax e → IsRefusal byte_config text error → IsRightKind byte_config text error → IsNoPattern text
syntax_is_none text error e is refusal right = refused_is_none text e.kind (subst (IsRightKind byte_config text) is right) (refusal e is)

-- bytes that are no text are no pattern
pub bytes_are_none : (text : List ℕ) → (IsUtf8 text → ⊥) → IsNoPattern text
unfolding is_pattern_text
bytes_are_none text none = and_left _ _ (false_from_ne_true _ (λ e. none (IsUtf8-from_is_utf8 text e)))
