use Rattle.std.proofs.Common.{◌||◌, ap, ◌∙◌, true, slice_get}
use Rattle.std.specs.Option.{option_map_or}
use Rattle.vs_base.specs.declared.ShardName.{ShardName}
use Rattle.vs_gather.specs.Gathering.{waits}
use Rattle.vs_gtid.specs.Vectors.{names}
use Rattle.vs_core.specs.Machine.{is_at_end}
use Rattle.vs_core.proofs.ScanLemmas.{all_step, either_there, some_step}
use Rattle.vs_core.proofs.gate.Gate.standing.Goals as goal

pub loop-i-preserved : goal.loop-i-preserved
loop-i-preserved c =
    let s = c.args.self.now in
    let ends = is_at_end s in
    let waiting = waits s.kept in
    let there = slice_get (names s.vector) c.loop-i.i in
    record {
      ended = all_step ends (names s.vector) c.loop-i.i c.loop-i.all_ended c.both-all_ended.result c.ends_at-ended.result c.loop-i.invariant.ended c.ends_at-ended.ensures c.both-all_ended.ensures;
      rest = all_step (λ (n : ShardName). ends n || waiting n) (names s.vector) c.loop-i.i c.loop-i.all_rest c.both-all_rest.result c.either.result c.loop-i.invariant.rest
          (c.either.ensures ∙ ap (λ b. b || c.waits_at-waiting.result) c.ends_at-ended.ensures ∙ ap (λ b. option_map_or ends there true || b) c.waits_at-waiting.ensures ∙ either_there ends waiting there)
          c.both-all_rest.ensures;
      wait = some_step waiting (names s.vector) c.loop-i.i c.loop-i.some_wait c.either-some_wait.result c.waits_at-waiting.result c.loop-i.invariant.wait c.waits_at-waiting.ensures c.either-some_wait.ensures;
    }
