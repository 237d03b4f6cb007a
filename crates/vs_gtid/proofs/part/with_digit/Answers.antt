use Rattle.std.proofs.Common.{◌≤◌, ◌^◌, arith}
use Rattle.std.proofs.Math.Nat.{pow-le-pow_right}
use Rattle.vs_gtid.proofs.part.with_digit.Goals as goal

pub overflow_mul-result : goal.overflow_mul-result
overflow_mul-result c =
    let few : 10 ^ c.args.count ≤ 10 ^ 18 = pow-le-pow_right {n = 10} (omega arith) {i = c.args.count} {j = 18} (omega arith) in
    omega (arith, few)

pub overflow_add-result : goal.overflow_add-result
overflow_add-result c =
    let few : 10 ^ c.args.count ≤ 10 ^ 18 = pow-le-pow_right {n = 10} (omega arith) {i = c.args.count} {j = 18} (omega arith) in
    let h = c.from.ensures in
    omega (arith, few)
