-- A log that is read event by event: what is reached at a place of its bytes, and what the next event does there.
use Rattle.std.specs.Prelude.{◌≡◌, ℕ, ◌+◌, if◌then◌else◌, List, ◌++◌, length, take, drop, Option, Some, None, Result, Ok, Err}
use Rattle.vs_base.specs.declared.Gtid.{Gtid}
use Rattle.vs_base.specs.declared.Why.{Why}
use Rattle.vs_gtid.specs.declared.Entry.{Entry}
use Rattle.vs_binlog.specs.Heads.{Event, length_of}
use Rattle.vs_log.specs.Events.{is_held, joined}
use Rattle.vs_log.specs.States.{Place, State}
use Rattle.vs_log.specs.States.Place.{Front, Between, Named, Inside}
use Rattle.vs_log.specs.Table.{Rules, step}
use Rattle.vs_log.specs.Meaning.{head_refusal}
use Rattle.vs_log.specs.Productions.{BeginsLog, IsCut}

-- The bytes up to this place are events that begin a log, which stands so there.
pub record Reaches {M : Type 0} (rules : Rules M) (bytes : List ℕ) (at : ℕ) (s : State M) : Type 0 where
  pub events : List Event
  pub cut : IsCut bytes events (drop at bytes)
  pub place : at ≡ 4 + length (joined events)
  pub begins : BeginsLog rules events s

-- What the event at the front of the rest, which begins at this place, makes of a log that stands so. Or that none is taken, and what is wrong with it; nothing is, where it isn't whole and more may come.
abbrev pub next_state : {M : Type 0} → Rules M → ℕ → State M → List ℕ → Result (State M) (Option Why)
next_state rules at s rest =
    if is_held at rest
    then (elim (step rules s (take (length_of rest) rest)) [
      | Ok next ↦ Ok next
      | Err why ↦ Err (Some why)
    ])
    else Err (head_refusal at s.place rest)

-- with entries in front of its own
abbrev pub with_past : {M : Type 0} → List Entry → State M → State M
with_past past s = record s { entries = past ++ s.entries }

-- the same of what an event makes of it
abbrev pub result_with_past : {M : Type 0} {E : Type 0} → List Entry → Result (State M) E → Result (State M) E
result_with_past past (Ok s) = Ok (with_past past s)
result_with_past past (Err why) = Err why

-- the GTID of the entry that is open
abbrev pub open_gtid : {M : Type 0} → Place M → Option Gtid
open_gtid Front = None
open_gtid (Between first) = None
open_gtid (Named g bytes) = Some g
open_gtid (Inside g bytes maps work) = Some g
