use Rattle.std.proofs.Common.{ap, sym, ◌∙◌, slice_get}
use Rattle.std.specs.Option.{option_map}
use Rattle.vs_base.specs.declared.ShardName.{ShardName}
use Rattle.vs_gtid.specs.Vectors.{names}
use Rattle.vs_vector.specs.declared.place.ShardAt.{ShardAt}
use Rattle.vs_vector.proofs.EntryLemmas.{name_at}
use Rattle.vs_vector.proofs.vector.Vector.name_at.Goals as goal

pub returns-in-Some : goal.returns-in-Some
returns-in-Some c =
    ap (option_map (λ (e : ShardName × ShardAt). e.0)) c.in-Some.ensures.entry ∙ sym (name_at c.self.inside.entries.entries c.args.i) ∙ ap (λ v. slice_get (names v) c.args.i) c.self.view_is

pub returns-in-None : goal.returns-in-None
returns-in-None c =
    ap (option_map (λ (e : ShardName × ShardAt). e.0)) c.in-None.ensures.entry ∙ sym (name_at c.self.inside.entries.entries c.args.i) ∙ ap (λ v. slice_get (names v) c.args.i) c.self.view_is
