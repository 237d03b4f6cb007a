use Rattle.std.proofs.Common.{ap, ◌∙◌}
use Rattle.vs_gather.specs.Gathering.{arrival}
use Rattle.vs_gtid.specs.Vectors.{Vector}
use Rattle.vs_core.specs.Machine.{CoreState}
use Rattle.vs_core.proofs.ArrivalLemmas.{named_at, will_complete}
use Rattle.vs_core.proofs.gate.Gate.halt_at.Goals as goal

pub complete-requires-clause-completes : goal.complete-requires-clause-completes
complete-requires-clause-completes c =
    let s = c.args.self.now in
    let n = c.in-Some.name.now in
    let got = will_complete s c.args.lane c.args.journal.now n (named_at s _ c.deref.result.now c.args.lane c.in-Some.name c.self.view_is c.deref.ensures.value c.in-Some.ensures.lookup) c.requires.comes in
    (got.0, ap (λ (v : Vector). arrival v n c.in_ok-came.came c.self.inside.gather) c.as_vector-2.ensures ∙ ap (λ (y : CoreState). arrival y.vector n c.in_ok-came.came y.kept) c.self.view_is ∙ ap (λ i. arrival s.vector n i s.kept) c.in_ok-came.ensures ∙ got.1)
