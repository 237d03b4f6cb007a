-- What a log asks for, by what was sent of it.
use Rattle.std.proofs.Common.{◌≡◌, ℕ, take, List, Option, Some, None, refl, sym, ap, subst, ◌∙◌}
use Rattle.std.specs.Prelude.{◌⊎◌}
use Rattle.vs_base.specs.declared.ShardName.{ShardName}
use Rattle.vs_base.specs.declared.Gtid.{Gtid}
use Rattle.vs_base.specs.declared.Why.{Why}
use Rattle.vs_base.specs.declared.Why.TheVariants.{TooLarge}
use Rattle.vs_gtid.specs.declared.Entry.{Entry}
use Rattle.vs_gtid.specs.declared.JournalValue.{JournalValue}
use Rattle.vs_gtid.specs.Logs.{Log}
use Rattle.vs_gtid.specs.Missing.{IsFirstMissing}
use Rattle.vs_gtid.specs.Positions.{Position, IsSubset}
use Rattle.vs_filter.specs.declared.bound.Picked.{Picked}
use Rattle.vs_log.specs.Laws.{FitAlong}
use Rattle.vs_model.specs.Logs.{due, stop}
use Rattle.vs_command.specs.declared.start.Start.{Start}
use Rattle.vs_command.specs.declared.start.Start.TheVariants.{At, Current}
use Rattle.vs_command.specs.declared.status.Status.{Status}
use Rattle.vs_command.specs.declared.status.Status.TheVariants as statuses
use Rattle.vs_command.specs.Sizes.{AreSendable, first_oversized, sendable_front}
use Rattle.vs_command.specs.Causes.{CanBeSent, StreamEndsAt, EndsWith, HoldsBase, IsFrom, LogAsksFor, PositionAsksFor}
use Rattle.vs_command.specs.declared.sending.SendEnd.{SendEnd}
use Rattle.vs_command.specs.declared.sending.SendEnd.TheVariants as ends
use Rattle.vs_command.specs.Stages.{IsBroughtOf}
use Rattle.vs_command.specs.Stops.{refusal_of}
use Rattle.vs_command.specs.Sending.{IsTooLargeAlong, StopsAtOversized, lacking}
use Rattle.vs_command.specs.Streaming.{IsStart}
use Rattle.vs_command.proofs.SizeLemmas.{front-all, none-oversized}
use Rattle.vs_command.proofs.FitLemmas.{fit_all}
use Rattle.vs_command.proofs.StreamLemmas.{IsEndOf, StartsAt}

-- the position is one from which the log is streamed
from_start : (log : Log) (start : Start) (whole : Type 0) (p : Position) → StartsAt log start whole p → (start ≡ Current → FitAlong p (lacking p log.entries)) → IsFrom log start p
from_start log (At set) whole p at fits = at.is_start
from_start log Current whole p at fits = let is : IsStart log Current whole p = at.is_start in (at.canonical, fits refl, is.0, is.1)

asks : (stands : Gtid → ℕ → Type 0) (tables : List Picked) (s : ShardName) (log : Log) (start : Start) (whole : Type 0) (p : Position) (status : Status) → StartsAt log start whole p →
    (start ≡ Current → FitAlong p (lacking p log.entries)) → PositionAsksFor stands tables s log p status → LogAsksFor stands tables s log start status
asks stands tables s log start whole p status at fits for = (p, from_start log start whole p at fits, for)

-- the log begins behind the start
pub asks_purged : (stands : Gtid → ℕ → Type 0) (tables : List Picked) (s : ShardName) (log : Log) (start : Start) (whole : Type 0) (p : Position) (missing : Gtid) → StartsAt log start whole p → (start ≡ Current → FitAlong p (lacking p log.entries)) → IsFirstMissing log.base p missing →
    LogAsksFor stands tables s log start (statuses.Purged s missing)
asks_purged stands tables s log start whole p missing at fits first = asks stands tables s log start whole p (statuses.Purged s missing) at fits (refl, first)

-- the base lies in a start, where it lies in the position of the start
pub holds_base : (log : Log) (start : Start) (whole : Type 0) (p : Position) → StartsAt log start whole p → IsSubset log.base p → HoldsBase log start
holds_base log (At set) whole p at base = subst (λ q. IsSubset log.base q) at.is_start base
holds_base log Current whole p at base = tt

can_be_sent : (tables : List Picked) (s : ShardName) (log : Log) (p : Position) → IsSubset log.base p → FitAlong p (sendable_front tables s (due s log p)) → CanBeSent tables s log p
can_be_sent tables s log p base fit = record { base = base; room = fit_all p (sendable_front tables s (due s log p)) fit }

-- a due entry makes a position that is too large
pub asks_too_large : (stands : Gtid → ℕ → Type 0) (tables : List Picked) (s : ShardName) (log : Log) (start : Start) (whole : Type 0) (p : Position) → StartsAt log start whole p → (start ≡ Current → FitAlong p (lacking p log.entries)) → IsSubset log.base p →
    IsTooLargeAlong p (sendable_front tables s (due s log p)) → LogAsksFor stands tables s log start (statuses.PositionTooLarge s)
asks_too_large stands tables s log start whole p at fits base large = asks stands tables s log start whole p (statuses.PositionTooLarge s) at fits (refl, base, large)

-- a due entry is too large
pub asks_oversized : (stands : Gtid → ℕ → Type 0) (tables : List Picked) (s : ShardName) (log : Log) (start : Start) (whole : Type 0) (p : Position) (offset bytes : ℕ) → StartsAt log start whole p → (start ≡ Current → FitAlong p (lacking p log.entries)) → IsSubset log.base p →
    StopsAtOversized stands tables s p (due s log p) offset bytes → LogAsksFor stands tables s log start (statuses.BadLog s offset (TooLarge bytes))
asks_oversized stands tables s log start whole p offset bytes at fits base (e, first, over, fit) =
    asks stands tables s log start whole p (statuses.BadLog s offset (TooLarge bytes)) at fits (
      refl,
      can_be_sent tables s log p base fit,
      subst (λ o. StreamEndsAt stands tables s (stop s log p) log.fault o (Some (offset, TooLarge bytes))) (sym first) (offset, bytes, over, refl),
    )

-- where each entry that is due can be sent, and no journal stops the shard, the log's own fault ends the stream
ends_own : (stands : Gtid → ℕ → Type 0) (tables : List Picked) (s : ShardName) (log : Log) (p : Position) (fault : Option (ℕ × Why)) → AreSendable tables s (due s log p) → stop s log p ≡ None → log.fault ≡ fault →
    EndsWith stands tables s log p fault
ends_own stands tables s log p fault sendable unstopped own =
    subst (λ o. StreamEndsAt stands tables s (stop s log p) log.fault o fault) (sym (none-oversized tables s (due s log p) sendable))
    (subst (λ j. StreamEndsAt stands tables s j log.fault None fault) (sym unstopped) (sym own))

all_can_be : (tables : List Picked) (s : ShardName) (log : Log) (p : Position) → IsSubset log.base p → AreSendable tables s (due s log p) → FitAlong p (due s log p) → CanBeSent tables s log p
all_can_be tables s log p base sendable fit =
    can_be_sent tables s log p base (subst (λ es. FitAlong p es) (sym (front-all tables s (due s log p) sendable)) fit)

end_asks : (stands : Gtid → ℕ → Type 0) (tables : List Picked) (s : ShardName) (log : Log) (p : Position) (status : Status) → IsSubset log.base p → AreSendable tables s (due s log p) →
    FitAlong p (due s log p) → IsEndOf s log p status → PositionAsksFor stands tables s log p status
end_asks stands tables s log p statuses.Done base sendable fit end = (all_can_be tables s log p base sendable fit, ends_own stands tables s log p None sendable end.0 end.1)
end_asks stands tables s log p (statuses.BadLog name offset why) base sendable fit end =
    (end.0, all_can_be tables s log p base sendable fit, ends_own stands tables s log p (Some (offset, why)) sendable end.1 end.2)
end_asks stands tables s log p statuses.Memory base sendable fit end = absurd end
end_asks stands tables s log p statuses.Usage base sendable fit end = absurd end
end_asks stands tables s log p (statuses.BadFrame number frame_why) base sendable fit end = absurd end
end_asks stands tables s log p (statuses.Request fault) base sendable fit end = absurd end
end_asks stands tables s log p (statuses.UnknownShard name) base sendable fit end = absurd end
end_asks stands tables s log p (statuses.Purged name missing) base sendable fit end = absurd end
end_asks stands tables s log p (statuses.FeedFault name) base sendable fit end = absurd end
end_asks stands tables s log p statuses.LinkFault base sendable fit end = absurd end
end_asks stands tables s log p statuses.InputFault base sendable fit end = absurd end
end_asks stands tables s log p (statuses.OpenFault name) base sendable fit end = absurd end
end_asks stands tables s log p (statuses.PositionTooLarge name) base sendable fit end = absurd end
end_asks stands tables s log p (statuses.Stopped name id) base sendable fit end = (end.0, all_can_be tables s log p base sendable fit, (none-oversized tables s (due s log p) sendable, end.1))
end_asks stands tables s log p (statuses.BadSchema name line) base sendable fit end = absurd end

-- all that was due was sent
pub due_end : (stands : Gtid → ℕ → Type 0) (tables : List Picked) (s : ShardName) (log : Log) (start : Start) (whole : Type 0) (p : Position) (status : Status) → StartsAt log start whole p → (start ≡ Current → FitAlong p (lacking p log.entries)) → IsSubset log.base p →
    AreSendable tables s (due s log p) → FitAlong p (due s log p) → IsEndOf s log p status → LogAsksFor stands tables s log start status
due_end stands tables s log start whole p status at fits base sendable fit end = asks stands tables s log start whole p status at fits (end_asks stands tables s log p status base sendable fit end)

-- ---- the same, by what is said of where GTID events stand

EndsAt-weaken : (P Q : Gtid → ℕ → Type 0) (tables : List Picked) (s : ShardName) (journal : Option JournalValue) (own : Option (ℕ × Why)) (first : Option Entry) (fault : Option (ℕ × Why)) → ((g : Gtid) (at : ℕ) → P g at → Q g at) →
    StreamEndsAt P tables s journal own first fault → StreamEndsAt Q tables s journal own first fault
EndsAt-weaken P Q tables s None own None fault f ends = ends
EndsAt-weaken P Q tables s (Some j) own None fault f ends = ends
EndsAt-weaken P Q tables s journal own (Some e) fault f (at, bytes, over, is) = (at, bytes, (f e.gtid at over.0, over.1), is)

Position-weaken : (P Q : Gtid → ℕ → Type 0) (tables : List Picked) (s : ShardName) (log : Log) (p : Position) (status : Status) → ((g : Gtid) (at : ℕ) → P g at → Q g at) →
    PositionAsksFor P tables s log p status → PositionAsksFor Q tables s log p status
Position-weaken P Q tables s log p statuses.Done f for = (for.0, EndsAt-weaken P Q tables s (stop s log p) log.fault (first_oversized tables s (due s log p)) None f for.1)
Position-weaken P Q tables s log p (statuses.BadLog name offset why) f for =
    (for.0, for.1, EndsAt-weaken P Q tables s (stop s log p) log.fault (first_oversized tables s (due s log p)) (Some (offset, why)) f for.2)
Position-weaken P Q tables s log p (statuses.Purged name missing) f for = for
Position-weaken P Q tables s log p (statuses.PositionTooLarge name) f for = for
Position-weaken P Q tables s log p (statuses.Stopped name id) f for = for
Position-weaken P Q tables s log p statuses.Memory f for = absurd for
Position-weaken P Q tables s log p statuses.Usage f for = absurd for
Position-weaken P Q tables s log p (statuses.BadFrame number frame_why) f for = absurd for
Position-weaken P Q tables s log p (statuses.Request fault) f for = absurd for
Position-weaken P Q tables s log p (statuses.UnknownShard name) f for = absurd for
Position-weaken P Q tables s log p (statuses.FeedFault name) f for = absurd for
Position-weaken P Q tables s log p statuses.LinkFault f for = absurd for
Position-weaken P Q tables s log p statuses.InputFault f for = absurd for
Position-weaken P Q tables s log p (statuses.OpenFault name) f for = absurd for
Position-weaken P Q tables s log p (statuses.BadSchema name line) f for = absurd for

pub LogAsksFor-weaken : (P Q : Gtid → ℕ → Type 0) (tables : List Picked) (s : ShardName) (log : Log) (start : Start) (status : Status) → ((g : Gtid) (at : ℕ) → P g at → Q g at) →
    LogAsksFor P tables s log start status → LogAsksFor Q tables s log start status
LogAsksFor-weaken P Q tables s log start status f (p, from, for) = (p, from, Position-weaken P Q tables s log p status f for)

-- not all that was due was sent
pub refused_due : (P Q : Gtid → ℕ → Type 0) → ((g : Gtid) (at : ℕ) → P g at → Q g at) → (tables : List Picked) (s : ShardName) (log : Log) (start : Start) (whole : Type 0) (p : Position) (end : SendEnd) → StartsAt log start whole p →
    (start ≡ Current → FitAlong p (lacking p log.entries)) → IsSubset log.base p → (end ≡ ends.PositionTooLarge → IsTooLargeAlong p (sendable_front tables s (due s log p))) →
    ((at bytes : ℕ) → end ≡ ends.TooLarge at bytes → StopsAtOversized P tables s p (due s log p) at bytes) → IsBroughtOf log start (refusal_of s end) ⊎ LogAsksFor Q tables s log start (refusal_of s end)
refused_due P Q widen tables s log start whole p ends.Memory at fits base large oversized = ◌⊎◌.inl tt
refused_due P Q widen tables s log start whole p ends.LinkFault at fits base large oversized = ◌⊎◌.inl (holds_base log start whole p at base)
refused_due P Q widen tables s log start whole p ends.PositionTooLarge at fits base large oversized = ◌⊎◌.inr (asks_too_large Q tables s log start whole p at fits base (large refl))
refused_due P Q widen tables s log start whole p (ends.TooLarge offset bytes) at fits base large oversized =
    ◌⊎◌.inr (LogAsksFor-weaken P Q tables s log start (refusal_of s (ends.TooLarge offset bytes)) widen (asks_oversized P tables s log start whole p offset bytes at fits base (oversized offset bytes refl)))
