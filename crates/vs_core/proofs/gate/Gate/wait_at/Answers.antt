use Rattle.std.proofs.Common.{ap, sym, refl, ◌∙◌, [], slice_set}
use Rattle.vs_gather.specs.Gathering.{arrival}
use Rattle.vs_gtid.specs.Vectors.{Vector}
use Rattle.vs_core.specs.Machine.{CoreState}
use Rattle.vs_core.specs.declared.lane.LaneState.TheVariants.{Over}
use Rattle.vs_core.proofs.ArrivalLemmas.{named_at, wait_went, will_wait}
use Rattle.vs_core.proofs.gate.Gate.wait_at.Goals as goal

pub keep-requires-clause-waits : goal.keep-requires-clause-waits
keep-requires-clause-waits c =
    let s = c.args.self.now in
    let n = c.in-Some.name.now in
    let got = will_wait s c.args.lane c.args.journal.now n (named_at s _ c.deref.result.now c.args.lane c.in-Some.name c.self.view_is c.deref.ensures.value c.in-Some.ensures.lookup) c.requires in
    (got.0, ap (λ (v : Vector). arrival v n c.in_ok-journal.journal c.self.inside.gather) c.as_vector.ensures ∙ ap (λ (y : CoreState). arrival y.vector n c.in_ok-journal.journal y.kept) c.self.view_is ∙ ap (λ i. arrival s.vector n i s.kept) c.in_ok-journal.ensures ∙ got.1)

pub returns : goal.returns
returns c = λ room before.
    let s = c.args.self.now in
    let n = c.in-Some.name.now in
    let here : CoreState → CoreState = λ y. record y { states = slice_set y.states c.args.lane Over; kept = c.keep.new.gather } in
    let view : CoreState = record {
      vector = c.self.inside.vector;
      names = c.self.inside.names.items;
      states = c.self.inside.states.items;
      held = [];
      kept = c.self.inside.gather;
      all_copied = c.self.inside.all_copied;
      flags = c.self.inside.flags;
      until_end = c.self.inside.until_end;
    } in
    wait_went s.flags.include_journals s (here view) c.args.lane n before before (named_at s view c.deref.result.now c.args.lane c.in-Some.name c.self.view_is c.deref.ensures.value c.in-Some.ensures.lookup)
    c.args.journal.now room c.keep.new.gather
    (sym (ap (λ (v : Vector). arrival v n c.in_ok-journal.journal c.self.inside.gather) c.as_vector.ensures ∙ ap (λ (y : CoreState). arrival y.vector n c.in_ok-journal.journal y.kept) c.self.view_is ∙ ap (λ i. arrival s.vector n i s.kept) c.in_ok-journal.ensures) ∙ c.in_ok-keep.ensures.ok)
    (ap here c.self.view_is) refl
