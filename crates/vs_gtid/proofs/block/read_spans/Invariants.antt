use Rattle.std.proofs.Common.{◌≡◌, ◌+◌, ◌-◌, ◌*◌, ◌≤◌, length, All, Ok}
use Rattle.vs_gtid.specs.Block.{both, spans_at}
use Rattle.vs_gtid.specs.Positions.{IsInterval}
use Rattle.vs_gtid.proofs.block.read_spans.Given as goal

-- what was read and what the rest of the body says are what the whole says
abbrev pub invariant-loop-span : goal.invariant-loop-span
invariant-loop-span l = record {
  within : l.place ≤ length l.body;
  behind : l.place ≡ l.at + 16 * l.span;
  intervals : All IsInterval l.intervals.items;
  spans : both (Ok l.intervals.items) (spans_at (l.count - l.span) l.body l.uuid l.place) ≡ both (Ok l.fn.intervals.items) (spans_at l.count l.body l.uuid l.at);
}
