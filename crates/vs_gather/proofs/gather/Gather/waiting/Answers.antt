use Rattle.std.proofs.Common.{ap, ◌∙◌}
use Rattle.vs_gather.specs.Gathering.{ids_of}
use Rattle.vs_gather.proofs.KeptLemmas.{are_waiting}
use Rattle.vs_gather.proofs.gather.Gather.waiting.Goals as goal

pub returns : goal.returns
returns c =
    are_waiting c.args.self.now c.in_ok-ids.ids.items c.sort.new.self.items c.dedup.new.self.items (c.in_ok-ids.ensures ∙ ap ids_of (c.as_slice.ensures.value ∙ c.self.view_is)) c.in_ok-sort.ensures.permutation c.in_ok-sort.ensures.sorted c.dedup.ensures.filtered
