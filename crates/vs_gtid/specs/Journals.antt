-- When two journals are equal.
use Rattle.std.specs.Prelude.{Bool, ◌&&◌, not, nat_eq, if◌then◌else◌}
use Rattle.std.specs.Ordering.{int_eq}
use Rattle.std.specs.Cmp.Lexicographic.{pointwise}
use Rattle.vs_base.specs.Names.{same_name}
use Rattle.vs_gtid.specs.declared.interval.Interval.{Interval}
use Rattle.vs_gtid.specs.declared.journal.JournalValue.{JournalValue}
use Rattle.vs_gtid.specs.declared.journal.Successor.{Successor}

abbrev pub same_interval : Interval → Interval → Bool
same_interval a b = pointwise nat_eq a.uuid b.uuid && (nat_eq a.first b.first && nat_eq a.last b.last)

abbrev pub same_successor : Successor → Successor → Bool
same_successor a b = same_name a.name b.name && pointwise same_interval a.position b.position

-- the journals have the same id, kind, participants and successors
unfoldable pub same_journal : JournalValue → JournalValue → Bool
same_journal a b = (int_eq a.id b.id && (if a.shards then b.shards else not b.shards)) && (pointwise same_name a.participants b.participants && pointwise same_successor a.successors b.successors)
