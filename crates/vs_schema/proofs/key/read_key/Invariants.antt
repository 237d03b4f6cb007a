use Rattle.std.proofs.Common.{◌≡◌, [], length}
use Rattle.vs_schema.specs.Lines.{words_of}
use Rattle.vs_schema.specs.Rules.{key_with}
use Rattle.vs_schema.proofs.key.read_key.Given as goal

-- the key so far, and the names that are left
abbrev pub invariant-names : goal.invariant-names
invariant-names l = key_with l.columns l.key (words_of l.rest) ≡ key_with l.columns [] (words_of l.names)

abbrev pub decreases-names : goal.decreases-names
decreases-names l = length l.rest
