-- What of a log is due to a shard: the entries that a position lacks, up to the first journal of the shard's own.
use Rattle.std.specs.Prelude.{◌≡◌, ℕ, ℤ, List, Option, Some, None}
use Rattle.std.specs.Option.{option_map}
use Rattle.vs_base.specs.declared.ShardName.{ShardName}
use Rattle.vs_base.specs.declared.Why.{Why}
use Rattle.vs_base.specs.declared.Why.TheVariants as why
use Rattle.vs_gtid.specs.declared.Entry.{Entry}
use Rattle.vs_gtid.specs.declared.JournalValue.{JournalValue}
use Rattle.vs_gtid.specs.Positions.{Position}
use Rattle.vs_model.specs.Logs.{first_own, up_to_own}
use Rattle.vs_command.specs.declared.status.Status.{Status}
use Rattle.vs_command.specs.declared.status.Status.TheVariants as statuses
use Rattle.vs_command.specs.declared.sending.SendEnd.{SendEnd}
use Rattle.vs_command.specs.declared.sending.SendEnd.TheVariants.{Memory, LinkFault, PositionTooLarge, TooLarge}
use Rattle.vs_command.specs.Sending.{lacking}

abbrev pub number_of : Option JournalValue → Option ℤ
number_of journal = option_map (λ (j : JournalValue). j.id) journal

-- Of these entries the position lacks just what is due of all of them, and a journal of this number stops the shard behind them.
pub record AreDue (s : ShardName) (p : Position) (all entries : List Entry) (number : Option ℤ) : Type 0 where
  pub due : lacking p entries ≡ up_to_own s (lacking p all)
  pub stop : number ≡ number_of (first_own s (lacking p all))

-- how a stream of the shard ends where all that was due was sent: at a journal of this number, or with the log's fault, or without one
abbrev pub end_of : ShardName → Option ℤ → Option (ℕ × Why) → Status
end_of s (Some id) fault = statuses.Stopped s id
end_of s None (Some fault) = statuses.BadLog s fault.0 fault.1
end_of s None None = statuses.Done

-- and where not all was sent
abbrev pub refusal_of : ShardName → SendEnd → Status
refusal_of s Memory = statuses.Memory
refusal_of s LinkFault = statuses.LinkFault
refusal_of s PositionTooLarge = statuses.PositionTooLarge s
refusal_of s (TooLarge offset bytes) = statuses.BadLog s offset (why.TooLarge bytes)
