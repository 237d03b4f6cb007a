use Rattle.std.proofs.Common.{◌≡◌, true, false, arith}
use Rattle.vs_filter.specs.Fits.{begins_with_slash, is_any}
use Rattle.vs_filter.proofs.Readings.{built_decides}
use Rattle.vs_filter.proofs.rule_match.RuleMatch.build.Goals as goal

pub invariant_of-result-in-Ok-pattern : goal.invariant_of-result-in-Ok-pattern
invariant_of-result-in-Ok-pattern g c =
    let slash : begins_with_slash c.args.text.now ≡ true = grind (arith, c.begins_with_slash.ensures, c.if-not-begins_with_slash.false) in
    let given : is_any c.trim-pattern.result.now ≡ false = grind (arith, c.is_any.ensures, c.if-is_any.false) in
    let built = c.in-Ok-pattern.ensures in record {
      decides = built_decides c.in-Ok-pattern.regex c.args.text.now c.in-Ok.owned c.trim-pattern.result.now c.in-Ok.ensures slash c.trim-pattern.ensures given built.source built.config built.read;
    }
