use Rattle.std.proofs.Common.{ap, refl, ◌∙◌}
use Rattle.std.specs.Option.{option_map}
use Rattle.vs_base.specs.Names.{same_name}
use Rattle.vs_gtid.specs.Vectors.{place_of}
use Rattle.vs_vector.specs.Places.{entry_place}
use Rattle.vs_vector.proofs.EntryLemmas.{entry_behind, looked_up}
use Rattle.vs_vector.proofs.vector.Vector.get.Goals as goal

pub returns : goal.returns
unfolding same_name
returns c =
    entry_behind c.get.result ∙ ap (option_map entry_place) c.get.ensures.value ∙ looked_up c.args.name.now _ (λ k. refl) c.self.inside.entries.entries ∙ ap (λ v. place_of v c.args.name.now) c.self.view_is
