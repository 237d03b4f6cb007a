-- The events of a log, as MySQL lays them out in a binlog of version 4. Numbers have the lowest byte first.
use Rattle.std.specs.Prelude.{ℕ, ◌+◌, ◌%◌, ◌^◌, List, ◌∷◌, ◌++◌, length, replicate}
use Rattle.byteorder.specs.Endian.{little_bytes}
use Rattle.vs_base.specs.declared.Gtid.{Gtid}
use Rattle.vs_log.specs.Events.{magic}

-- A head: the time, the type, the server's number, the length with the head, the place of the next event, flags. The server's number,
-- the place and flags aren't written.
abbrev pub head_bytes : ℕ → ℕ → ℕ → List ℕ
head_bytes time kind size = little_bytes 4 time ++ (kind ∷ (little_bytes 4 0 ++ (little_bytes 4 size ++ (little_bytes 4 0 ++ little_bytes 2 0))))

-- an event; of a length over four bytes the lowest four stand in its head
unfoldable pub event_bytes : ℕ → ℕ → List ℕ → List ℕ
event_bytes time kind body = head_bytes time kind ((19 + length body) % 2 ^ 32) ++ body

-- A format description: the version 4, no server's version, the time, the length of heads, no lengths of bodies, no checksums.
abbrev pub format_layout : ℕ → List ℕ
format_layout time = little_bytes 2 4 ++ (replicate 50 0 ++ (little_bytes 4 time ++ (19 ∷ (0 ∷ little_bytes 4 0))))

-- of a PREVIOUS_GTIDS event: a UUID, one interval of it, its first number and the number behind its last
abbrev pub group_bytes : List ℕ → ℕ → ℕ → List ℕ
group_bytes uuid first behind = uuid ++ little_bytes 8 1 ++ little_bytes 8 first ++ little_bytes 8 behind

-- a byte of flags, the UUID, the number
abbrev pub gtid_layout : Gtid → List ℕ
gtid_layout g = 0 ∷ (g.uuid ++ little_bytes 8 g.number)

-- A query: no thread, no time, the length of the schema in its lowest byte, no error, no status, the schema, a zero byte, the text.
abbrev pub query_layout : List ℕ → List ℕ → List ℕ
query_layout schema text =
    little_bytes 4 0 ++ (little_bytes 4 0 ++ ((length schema % 256) ∷ (little_bytes 2 0 ++ (little_bytes 2 0 ++ (schema ++ (0 ∷ text))))))

unfoldable pub format_event : ℕ → List ℕ
format_event time = event_bytes time 15 (format_layout time)

unfoldable pub base_event : ℕ → List ℕ → List ℕ
base_event time block = event_bytes time 35 block

unfoldable pub gtid_event : ℕ → Gtid → List ℕ
gtid_event time g = event_bytes time 33 (gtid_layout g)

unfoldable pub query_event : ℕ → List ℕ → List ℕ → List ℕ
query_event time schema text = event_bytes time 2 (query_layout schema text)

-- what a log begins with: the magic, a format description, and the base that a block holds
abbrev pub start_bytes : ℕ → List ℕ → List ℕ
start_bytes time block = magic ++ (format_event time ++ base_event time block)

-- a statement that stands alone, behind its GTID
abbrev pub statement_bytes : Gtid → List ℕ → List ℕ → ℕ → List ℕ
statement_bytes g schema text time = gtid_event time g ++ query_event time schema text
