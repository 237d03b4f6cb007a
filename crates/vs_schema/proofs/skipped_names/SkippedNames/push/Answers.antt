use Rattle.std.proofs.Common.{subst, sym}
use Rattle.vs_schema.specs.Named.{AreTheSame}
use Rattle.vs_schema.proofs.TableLemmas.{same_more}
use Rattle.vs_schema.proofs.skipped_names.SkippedNames.push.Goals as goal

pub invariant_of-self-in_default : goal.invariant_of-self-in_default
invariant_of-self-in_default c =
    subst (AreTheSame c.insert.new.self.keys) (sym c.in_ok-push.ensures.items)
    (same_more c.self.inside.sorted.keys c.insert.new.self.keys c.self.inside.names.items c.args.name c.in_ok-copy.field-0 c.in_ok-copy.ensures c.in_default.ensures.updates.0 c.self.invariant)
