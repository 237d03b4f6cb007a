use Rattle.std.proofs.Common.{true, false, Some, is_some, refl, ap, sym, subst, ◌∙◌, true≢false}
use Rattle.std.specs.Option.{option_map}
use Rattle.vs_base.specs.Names.{same_name}
use Rattle.vs_gtid.specs.Vectors.{moved}
use Rattle.vs_vector.specs.Places.{IsVector, entry_place, vector_of}
use Rattle.vs_vector.proofs.EntryLemmas.{looked_up, value_set}
use Rattle.vs_vector.proofs.VectorLemmas.{IsVector-moved}
use Rattle.vs_vector.proofs.entries.exchange_entry.Goals as goal

pub returns-in-Some-clause-new : goal.returns-in-Some-clause-new
unfolding same_name
returns-in-Some-clause-new c =
    ap vector_of (c.get_mut.follows.holds c.replace.new.dest).0 ∙ value_set c.args.name.now _ (λ k. refl) c.args.entries.now.entries c.replace.new.dest
    ∙ ap (λ at. moved (vector_of c.args.entries.now.entries) c.args.name.now (entry_place at)) c.replace.ensures.after

pub returns-in-Some-clause-old : goal.returns-in-Some-clause-old
unfolding same_name
returns-in-Some-clause-old c =
    sym (looked_up c.args.name.now _ (λ k. refl) c.args.entries.now.entries) ∙ ap (option_map entry_place) (sym c.in-Some.ensures.value) ∙ ap (λ at. Some (entry_place at)) (sym c.replace.ensures.value)

pub returns-in-Some-clause-vector : goal.returns-in-Some-clause-vector
returns-in-Some-clause-vector c = λ lawful keeps.
    subst IsVector (sym (returns-in-Some-clause-new c)) (IsVector-moved (vector_of c.args.entries.now.entries) c.args.name.now (entry_place c.args.at) lawful keeps)

pub returns-in-None-clause-new : goal.returns-in-None-clause-new
unfolding same_name
returns-in-None-clause-new c =
    absurd (true≢false (sym c.requires ∙ ap is_some (sym (looked_up c.args.name.now _ (λ k. refl) c.args.entries.now.entries) ∙ ap (option_map entry_place) (sym c.in-None.ensures.value))))

pub returns-in-None-clause-old : goal.returns-in-None-clause-old
unfolding same_name
returns-in-None-clause-old c =
    absurd (true≢false (sym c.requires ∙ ap is_some (sym (looked_up c.args.name.now _ (λ k. refl) c.args.entries.now.entries) ∙ ap (option_map entry_place) (sym c.in-None.ensures.value))))
