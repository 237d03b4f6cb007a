use Rattle.std.proofs.Common.{◌≡◌, ◌≤◌, replicate, vec_capacity}
use Rattle.vs_pool.specs.Buffers.{emptied}
use Rattle.vs_pool.proofs.pool.Pool.new.Given as goal

abbrev pub invariant-loop-i : goal.invariant-loop-i
invariant-loop-i l = record {
  made : l.free.items ≡ replicate l._i (emptied l.fn.size);
  room : l.fn.count ≤ vec_capacity l.free;
}
