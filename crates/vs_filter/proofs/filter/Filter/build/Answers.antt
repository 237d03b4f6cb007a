use Rattle.std.proofs.Common.{◌∙◌, arith}
use Rattle.vs_filter.specs.Rules.{fault_of}
use Rattle.vs_filter.proofs.BuildLemmas.{built_more, has_none_at, not_built}
use Rattle.vs_filter.proofs.FirstLemmas.{front_after, left_after}
use Rattle.vs_filter.proofs.filter.Filter.build.Goals as goal

pub returns-in-Err-clause-refused : goal.returns-in-Err-clause-refused
returns-in-Err-clause-refused g c =
    let kept = c.loop-index.invariant in
    not_built c.args.rules.now c.loop-index.index c.index-rules-index.result c.loop-index-test.true c.index-rules-index.is _ _ _ kept.left kept.front kept.later c.in-Err.refusal c.in-Err.ensures.refused

pub loop-index-preserved : goal.loop-index-preserved
loop-index-preserved g c =
    let kept = c.loop-index.invariant in
    let rules = c.args.rules.now in
    let i = c.loop-index.index in
    let rule = c.index-rules-index.result in
    let lt = c.loop-index-test.true in
    let is = c.index-rules-index.is in
    let gave = c.build_rule.ensures in record {
      built = built_more rules i rule lt is c.loop-index.built c.push.new.self c.in-Ok.rule c.in_ok-push-in-Ok.ensures.ok kept.built c.in-Ok.ensures.meant;
      left = left_after fault_of rules i rule lt is kept.left c.in-Ok.ensures.lawful;
      front = front_after fault_of rules i rule lt is kept.front c.in-Ok.ensures.lawful;
      later = omega (arith, kept.later, gave.later);
      quiet = λ none. gave.quiet (has_none_at rules i rule lt is none) ∙ kept.quiet none;
      cluster = gave.cluster ∙ kept.cluster;
      opened = gave.opened ∙ kept.opened;
      returned = λ n. gave.returned n ∙ kept.returned n;
      faults = λ n. gave.faults n ∙ kept.faults n;
      waits = λ n. gave.waits n ∙ kept.waits n;
      open_faults = λ n. gave.open_faults n ∙ kept.open_faults n;
      list_faults = gave.list_faults ∙ kept.list_faults;
      folder = gave.folder ∙ kept.folder;
      sound = gave.sound ∙ kept.sound;
    }
