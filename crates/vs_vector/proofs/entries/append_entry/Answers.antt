use Rattle.std.proofs.Common.{◌∷◌, [], refl, ap, sym, subst, ◌∙◌}
use Rattle.std.proofs.lemmas.List.{map-append}
use Rattle.indexmap.proofs.CallerLemmas.{insert_entry-new}
use Rattle.vs_base.specs.Names.{same_name}
use Rattle.vs_base.specs.declared.ShardName.{ShardName}
use Rattle.vs_vector.specs.Places.{IsVector, entry_place, vector_of}
use Rattle.vs_vector.specs.declared.place.ShardAt.{ShardAt}
use Rattle.vs_vector.proofs.EntryLemmas.{not_found}
use Rattle.vs_vector.proofs.VectorLemmas.{IsVector-push}
use Rattle.vs_vector.proofs.entries.append_entry.Goals as goal

pub returns-clause-ok : goal.returns-clause-ok
unfolding same_name
returns-clause-ok c =
    ap vector_of (c.in_ok-insert.ensures.entries ∙ insert_entry-new _ c.args.entries.now c.args.name c.args.at (not_found c.args.name _ (λ k. refl) c.args.entries.now.entries c.requires))
    ∙ map-append (λ (e : ShardName × ShardAt). (e.0, entry_place e.1)) c.args.entries.now.entries ((c.args.name, c.args.at) ∷ [])

pub returns-clause-vector : goal.returns-clause-vector
returns-clause-vector c = λ lawful room keeps.
    subst IsVector (sym (returns-clause-ok c)) (IsVector-push (vector_of c.args.entries.now.entries) c.args.name (entry_place c.args.at) lawful room c.requires keeps)
