-- The bytes of events, in the one canonical way.
use Rattle.std.specs.Prelude.{ℕ, ℤ, pos, List, ◌++◌, map}
use Rattle.vs_wire.specs.Fields.{field_bytes, sized}
use Rattle.vs_proto.specs.Frames.{events_bytes}
use Rattle.vs_proto.specs.Kinds.{enumeration, if_any, int64}
use Rattle.vs_proto.specs.Shapes.{values_bytes}
use Rattle.vs_render.specs.Events.{EventHead, Saying, event_of}

-- some events of a frame, as they stand in its message
abbrev pub said_bytes : EventHead → List Saying → List ℕ
said_bytes h said = events_bytes (map (event_of h) said)

-- what an event begins with: its kind and its time
abbrev pub event_start : EventHead → ℤ → List ℕ
event_start h kind = values_bytes 1 (enumeration.spelled kind) ++ values_bytes 2 (int64.spelled (pos h.time))

-- what it ends with: the names of its shard
abbrev pub event_end : EventHead → List ℕ
event_end h = values_bytes 22 (if_any h.keyspace) ++ values_bytes 23 (if_any h.shard)

-- an event of a message, with what stands between
abbrev pub event_around : EventHead → ℤ → List ℕ → List ℕ
event_around h kind middle = field_bytes 1 (sized (event_start h kind ++ (middle ++ event_end h)))
