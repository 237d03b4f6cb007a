use Rattle.std.proofs.Common.{◌++◌, ◌∷◌, ap, sym, ◌∙◌, [], List, ℕ, length, nat_lt, slice_set}
use Rattle.vs_gather.specs.Gathering.{arrival}
use Rattle.vs_gtid.specs.Vectors.{Vector, switched}
use Rattle.vs_proto.specs.Frames.{message_bytes}
use Rattle.vs_proto.specs.declared.vgtid.VGtid.{VGtid}
use Rattle.vs_render.specs.Events.{no_head, vector_event}
use Rattle.vs_vector.specs.Messages.{vgtid_of}
use Rattle.vs_vector.specs.Places.{most_shards}
use Rattle.vs_core.specs.Framing.{journal_events}
use Rattle.vs_core.specs.Machine.{CoreState}
use Rattle.vs_core.specs.declared.lane.LaneState.TheVariants.{Over}
use Rattle.vs_core.proofs.ArrivalLemmas.{named_at, switch_went, will_complete}
use Rattle.vs_core.proofs.gate.Gate.switch_at.Goals as goal

pub complete-requires-clause-completes : goal.complete-requires-clause-completes
complete-requires-clause-completes c =
    let s = c.args.self.now in
    let n = c.in-Some.name.now in
    let got = will_complete s c.args.lane c.args.journal.now n (named_at s _ c.deref.result.now c.args.lane c.in-Some.name c.self.view_is c.deref.ensures.value c.in-Some.ensures.lookup) c.requires.comes in
    (got.0, ap (λ (v : Vector). arrival v n c.in_ok-came.came c.self.inside.gather) c.as_vector-2.ensures ∙ ap (λ (y : CoreState). arrival y.vector n c.in_ok-came.came y.kept) c.self.view_is ∙ ap (λ i. arrival s.vector n i s.kept) c.in_ok-came.ensures ∙ got.1)

pub returns : goal.returns
returns c = λ room.
    let s = c.args.self.now in
    let n = c.in-Some.name.now in
    let j = c.args.journal.now in
    let w = c.in_ok-vector.vector in
    let here : CoreState → CoreState = λ y. record y { vector = w; states = slice_set y.states c.args.lane Over; kept = c.complete.new.gather } in
    let view : CoreState = record {
      vector = c.self.inside.vector;
      names = c.self.inside.names.items;
      states = c.self.inside.states.items;
      held = [];
      kept = c.self.inside.gather;
      all_copied = c.self.inside.all_copied;
      flags = c.self.inside.flags;
      until_end = c.self.inside.until_end;
    } in
    let before : List ℕ = c.args.out.now.items in
    switch_went s.flags.include_journals s (here view) c.args.lane n before c.put_journal.new.out.items
    (named_at s view c.deref.result.now c.args.lane c.in-Some.name c.self.view_is c.deref.ensures.value c.in-Some.ensures.lookup)
    j room c.complete.new.gather w c.in_ok-retired.field-0.retired c.in_ok-retired.field-0.started
    (sym (ap (λ (v : Vector). arrival v n c.in_ok-came.came c.self.inside.gather) c.as_vector-2.ensures ∙ ap (λ (y : CoreState). arrival y.vector n c.in_ok-came.came y.kept) c.self.view_is ∙ ap (λ i. arrival s.vector n i s.kept) c.in_ok-came.ensures) ∙ c.complete.ensures)
    c.requires.goes_on (c.in_ok-vector.ensures ∙ c.in_ok-next.ensures.ok.0 ∙ ap (λ (v : Vector). switched v j) c.as_vector.ensures ∙ ap (λ (y : CoreState). switched y.vector j) c.self.view_is)
    (ap (λ (v : Vector). nat_lt most_shards (length v)) c.in_ok-vector.ensures ∙ c.in_ok-next.ensures.ok.1) (ap here c.self.view_is)
    c.in_ok-retired.ensures.retired c.in_ok-retired.ensures.started
    (c.in_ok-put_journal.ensures.ok ∙ ap (λ b. before ++ message_bytes (journal_events b j ++ vector_event no_head c.in_ok-vgtid.vgtid ∷ [])) (ap (λ (y : CoreState). y.flags.include_journals) c.self.view_is)
    ∙ ap (λ (m : VGtid). before ++ message_bytes (journal_events s.flags.include_journals j ++ vector_event no_head m ∷ [])) (c.in_ok-vgtid.ensures ∙ ap vgtid_of (sym c.in_ok-vector.ensures)))
