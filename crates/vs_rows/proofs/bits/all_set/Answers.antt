use Rattle.std.proofs.Common.{refl, sym, ◌∙◌}
use Rattle.vs_rows.specs.Bits.{all_set}
use Rattle.vs_rows.proofs.StepLemmas.{bits_go_on, bits_stop}
use Rattle.vs_rows.proofs.bits.all_set.Goals as goal

pub loop-place-init : goal.loop-place-init
unfolding all_set
loop-place-init c = refl

pub returns-then-not-has_bit : goal.returns-then-not-has_bit
returns-then-not-has_bit c =
    sym (bits_stop c.loop-place.place c.args.count c.args.bytes.now c.loop-place-test.true (sym c.has_bit.ensures ∙ c.if-not-has_bit.true))

pub loop-place-preserved : goal.loop-place-preserved
loop-place-preserved c =
    bits_go_on c.loop-place.place c.args.bytes.now c.loop-place.invariant (sym c.has_bit.ensures ∙ c.if-not-has_bit.false)
