-- Where a log stands between two events. What is known of tables there is of any type, `M`.
use Rattle.std.specs.Prelude.{ℕ, Bool, List}
use Rattle.vs_base.specs.declared.Change.{Change}
use Rattle.vs_base.specs.declared.Gtid.{Gtid}
use Rattle.vs_gtid.specs.declared.Entry.{Entry}
use Rattle.vs_gtid.specs.declared.JournalValue.{JournalValue}
use Rattle.vs_gtid.specs.declared.Work.{Work}
use Rattle.vs_gtid.specs.Positions.{Position}

-- what a rows event tells: each change, or journal, that counts
pub data Counted : Type 0 where
  Changed : Change → Counted
  Journaled : JournalValue → Counted

pub data Place (M : Type 0) : Type 0 where
  -- before the format description
  Front : Place M
  -- behind the format description or an entry; whether no event stood since the former
  Between : Bool → Place M
  -- behind the GTID event of an entry, of so many bytes
  Named : Gtid → ℕ → Place M
  -- behind its BEGIN: the bytes so far, what is known of tables, and its work
  Inside : Gtid → ℕ → M → Work → Place M

-- what the events of a log, from the first on, have given
pub record State (M : Type 0) : Type 0 where
  pub base : Position
  pub entries : List Entry
  -- the base and all GTIDs that stood so far
  pub known : Position
  pub place : Place M
