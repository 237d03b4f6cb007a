use Rattle.std.proofs.Common.{ℕ, List, ap, ◌∙◌}
use Rattle.std.specs.List.{list_any}
use Rattle.vs_schema.specs.Kinds.{same}
use Rattle.vs_schema.proofs.skipped_names.SkippedNames.has.Goals as goal

pub returns : goal.returns
returns c = c.contains.ensures ∙ c.self.invariant c.args.name.now ∙ ap (list_any (λ (n : List ℕ). same n c.args.name.now)) c.self.view_is
