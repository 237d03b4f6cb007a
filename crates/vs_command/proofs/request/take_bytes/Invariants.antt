use Rattle.std.proofs.Common.{◌≡◌, ◌≤◌, ◌-◌, length}
use Rattle.vs_command.specs.Requests.{TakesOf}
use Rattle.vs_command.proofs.request.take_bytes.Given as goal

-- what was taken is what the bytes are, and no more than was asked for
abbrev pub invariant-loop-buf : goal.invariant-loop-buf
invariant-loop-buf g l = record {
  took : TakesOf (g.I.Source.left l.fn.input) (g.I.Source.left l.input) (λ taken rest. taken ≡ l.bytes.items);
  most : length l.bytes.items ≤ l.count;
  later : g.I.Source.faults l.fn.input ≤ g.I.Source.faults l.input;
}

abbrev pub decreases-loop-buf : goal.decreases-loop-buf
decreases-loop-buf g l = l.count - length l.bytes.items
