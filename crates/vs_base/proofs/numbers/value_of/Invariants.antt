use Rattle.std.proofs.Common.{◌≡◌, ◌^◌, take, min}
use Rattle.vs_base.specs.Numbers.{digits_value}
use Rattle.vs_base.proofs.numbers.value_of.Given as goal

abbrev pub invariant-loop-digit : goal.invariant-loop-digit
invariant-loop-digit l = l.value ≡ min (digits_value (take l.digit-index l.digits)) (2 ^ 64)
