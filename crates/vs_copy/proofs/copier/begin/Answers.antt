use Rattle.std.proofs.Common.{ap₂, subst, sym, ◌∙◌}
use Rattle.vs_copy.specs.CopiedTables.{AreKeyed}
use Rattle.vs_copy.specs.Copying.{copied_of, keyless_in}
use Rattle.vs_copy.proofs.KeyedLemmas.{are_keyed}
use Rattle.vs_copy.proofs.copier.begin.Goals as goal

pub invariant_of-result : goal.invariant_of-result
invariant_of-result c =
    subst AreKeyed (sym (c.in_ok-copied.ensures ∙ ap₂ copied_of c.tables-2.ensures c.as_slice-2.ensures))
    (are_keyed c.args.schema.now.tables c.args.bound.now.tables c.requires.whole
    (sym (c.in_default.ensures ∙ ap₂ keyless_in c.tables.ensures c.as_slice.ensures)))
