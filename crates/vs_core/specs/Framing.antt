-- The events of frames that have no body.
use Rattle.std.specs.Prelude.{Bool, List, map}
use Rattle.vs_base.specs.declared.ShardName.{ShardName}
use Rattle.vs_gtid.specs.declared.JournalValue.{JournalValue}
use Rattle.vs_proto.specs.declared.event.VEvent.{VEvent}
use Rattle.vs_proto.specs.declared.journal.KeyspaceShard.{KeyspaceShard}
use Rattle.vs_render.specs.Events.{event_of, journal_if, no_head}

abbrev pub keyspace_shards : List ShardName → List KeyspaceShard
keyspace_shards names = map (λ s. record { keyspace = s.keyspace; shard = s.shard }) names

-- the event of a journal, if it is told
abbrev pub journal_events : Bool → JournalValue → List VEvent
journal_events told j = map (event_of no_head) (journal_if told j)
