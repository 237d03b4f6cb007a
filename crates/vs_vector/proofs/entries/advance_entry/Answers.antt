use Rattle.std.proofs.Common.{Err, refl, ap, sym, ◌∙◌, inr}
use Rattle.std.specs.Option.{option_map}
use Rattle.vs_base.specs.Names.{same_name}
use Rattle.vs_vector.specs.Changes.{advanced_from, moved_to}
use Rattle.vs_vector.specs.Places.{entry_place, vector_of}
use Rattle.vs_vector.specs.declared.refusal.VectorRefusal.TheVariants.{Absent}
use Rattle.vs_vector.proofs.ChangeLemmas.{advance_made, advance_lawful}
use Rattle.vs_vector.proofs.EntryLemmas.{looked_up, value_set}
use Rattle.vs_vector.proofs.entries.advance_entry.Goals as goal

pub returns-in-Some-clause-made : goal.returns-in-Some-clause-made
unfolding same_name
returns-in-Some-clause-made c =
    let es = c.args.entries.now.entries in
    let s = c.args.name.now in
    advance_made (vector_of es) _ s c.args.gtid c.in-Some.entry.now c.advance.new.self c.advance.result
    (sym (looked_up s _ (λ k. refl) es) ∙ ap (option_map entry_place) (sym c.in-Some.ensures.value))
    (ap vector_of (c.get_mut.follows.holds c.advance.new.self).0 ∙ value_set s _ (λ k. refl) es c.advance.new.self)
    c.advance.ensures.ok c.advance.ensures.unchanged c.advance.ensures.err

pub returns-in-Some-clause-vector : goal.returns-in-Some-clause-vector
unfolding same_name
returns-in-Some-clause-vector c =
    let es = c.args.entries.now.entries in
    let s = c.args.name.now in
    λ keeps. advance_lawful (vector_of es) _ s c.in-Some.entry.now c.advance.new.self c.advance.result
    (sym (looked_up s _ (λ k. refl) es) ∙ ap (option_map entry_place) (sym c.in-Some.ensures.value))
    (ap vector_of (c.get_mut.follows.holds c.advance.new.self).0 ∙ value_set s _ (λ k. refl) es c.advance.new.self)
    c.advance.ensures.unchanged c.advance.ensures.lawful keeps

pub returns-in_ok-copy-in-None-clause-made : goal.returns-in_ok-copy-in-None-clause-made
unfolding same_name
returns-in_ok-copy-in-None-clause-made c =
    let es = c.args.entries.now.entries in
    let s = c.args.name.now in (
      ap (λ m. vector_of m.entries) c.get_mut.follows.holds-at-none,
      inr (ap (λ o. moved_to (vector_of es) s (advanced_from s o c.args.gtid)) (sym (looked_up s _ (λ k. refl) es) ∙ ap (option_map entry_place) (sym c.in-None.ensures.value))
          ∙ ap (λ n. Err (Absent n)) (sym c.in_ok-copy-in-None.ensures)),
    )
