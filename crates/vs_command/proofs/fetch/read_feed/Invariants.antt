use Rattle.std.proofs.Common.{◌≡◌, ◌≢◌, ◌≤◌, Some, None}
use Rattle.std.specs.Prelude.{IfSome}
use Rattle.vs_outside.specs.Counts.{Rose}
use Rattle.vs_command.specs.Fetched.{HasGiven}
use Rattle.vs_command.proofs.fetch.read_feed.Given as goal

-- the reader was fed what the feed gave, and a mark is set at a wait
abbrev pub invariant-loop : goal.invariant-loop
invariant-loop g l = record {
  held : HasGiven l.reader l.entries;
  keyspace : l.reader.keyspace ≡ l.keyspace;
  schema : l.reader.schema ≡ l.schema;
  given : IfSome (g.F.Feed.all l.fn.feed) (λ _. g.F.Feed.given l.feed ≡ Some l.reader.bytes);
  all : g.F.Feed.all l.feed ≡ g.F.Feed.all l.fn.feed;
  origin : g.F.Feed.origin l.feed ≡ g.F.Feed.origin l.fn.feed;
  sound : g.F.Feed.sound l.feed ≡ g.F.Feed.sound l.fn.feed;
  later : g.F.Feed.faults l.fn.feed ≤ g.F.Feed.faults l.feed;
  waits : g.F.Feed.waits l.fn.feed ≤ g.F.Feed.waits l.feed;
  marked : l.mark ≢ None → Rose (g.F.Feed.waits l.fn.feed) (g.F.Feed.waits l.feed);
}
