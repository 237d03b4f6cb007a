use Rattle.std.proofs.Common.{◌≡◌, List, drop, map}
use Rattle.vs_base.specs.declared.change.Change.{Change}
use Rattle.vs_copy.specs.Chunks.{next_in}
use Rattle.vs_copy.specs.Copying.{HasApplied}
use Rattle.vs_copy.proofs.copier.Copier.find_chunk.Given as goal

abbrev pub invariant-loop-table : goal.invariant-loop-table
invariant-loop-table l =
    (changes : List Change) → HasApplied l.self changes →
    next_in l.self (map (λ t. t.picked.name) l.self.copied) ≡ next_in l.self (map (λ t. t.picked.name) (drop l.table-index l.table-items))
