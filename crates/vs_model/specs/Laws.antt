-- Statements of laws by name, for those who stand on them.
use Rattle.std.specs.Prelude.{◌≡◌, List, ◌++◌}
use Rattle.vs_base.specs.declared.ShardName.{ShardName}
use Rattle.vs_gtid.specs.declared.Entry.{Entry}
use Rattle.vs_model.specs.Names.{Position}
use Rattle.vs_model.specs.Logs.{Cluster, HaveDistinctGtids, Log, LogsAreDistinct, due, stop, IsPositionAfter}
use Rattle.vs_gtid.specs.Vectors.{Vector}
use Rattle.vs_model.specs.Frames.{Frame}
use Rattle.vs_model.specs.Frames.Frame.{Tx}
use Rattle.vs_model.specs.Copy.{Filter}
use Rattle.vs_model.specs.Legal.{AllCopiedFollows, Legal}
use Rattle.vs_model.specs.Steps.{SendsTx, Step, Steps}

-- frames that follow one another by lawful steps are a legal list
abbrev pub StepsAreLegal : Type 0
StepsAreLegal = (cluster : Cluster) (rules : Filter) (v0 : Vector) (fs : List Frame) → LogsAreDistinct cluster →
    AllCopiedFollows fs → Steps cluster rules v0 fs → Legal cluster rules v0 fs

-- a transaction that is sent by the rules is a lawful step
abbrev pub TransactionsAreSteps : Type 0
TransactionsAreSteps = (cluster : Cluster) (rules : Filter) (v w : Vector) (s : ShardName) (told : Entry) → LogsAreDistinct cluster →
    SendsTx cluster rules v s told w → Step cluster rules v (Tx s told w)

-- after the first entries that were due were sent, the others are due
abbrev pub DueGoesOn : Type 0
DueGoesOn = (s : ShardName) (log : Log) (p q : Position) (sent rest : List Entry) → HaveDistinctGtids log.entries →
    due s log p ≡ sent ++ rest → IsPositionAfter p sent q → due s log q ≡ rest

-- and the journal ahead stays
abbrev pub StopStays : Type 0
StopStays = (s : ShardName) (log : Log) (p q : Position) (sent rest : List Entry) → HaveDistinctGtids log.entries →
    due s log p ≡ sent ++ rest → IsPositionAfter p sent q → stop s log q ≡ stop s log p
