-- What was written of a log, by what was sent of its entries.
use Rattle.std.proofs.Common.{◌≡◌, ◌≢◌, ℕ, List, [], ◌∷◌, length, take, Option, Some, None, Result, Ok, Err, refl, sym, ap, subst, ◌∙◌, arith}
use Rattle.std.specs.Prelude.{◌⊎◌, IfOk}
use Rattle.std.proofs.lemmas.List.{take_all}
use Rattle.vs_base.specs.declared.ShardName.{ShardName}
use Rattle.vs_base.specs.declared.Gtid.{Gtid}
use Rattle.vs_base.specs.declared.Why.{Why}
use Rattle.vs_base.specs.declared.Why.TheVariants.{TooLarge}
use Rattle.vs_filter.specs.declared.bound.Picked.{Picked}
use Rattle.vs_gtid.specs.declared.Entry.{Entry}
use Rattle.vs_gtid.specs.Missing.{IsFirstMissing}
use Rattle.vs_gtid.specs.Positions.{Position, IsCanonical, IsSubset}
use Rattle.vs_gtid.specs.Logs.{Log}
use Rattle.vs_outside.specs.Told.{Writes}
use Rattle.vs_outside.proofs.ToldLemmas.{Writes-none, Writes-weaken, IsPrefixOf-refl}
use Rattle.vs_model.specs.Logs.{due, stop, IsPositionAfter}
use Rattle.vs_command.specs.declared.fetched.Fetched.{Fetched}
use Rattle.vs_command.specs.declared.fetched.Placed.{Placed}
use Rattle.vs_command.specs.declared.sending.SendEnd.{SendEnd}
use Rattle.vs_command.specs.declared.sending.SendEnd.TheVariants as ends
use Rattle.vs_command.specs.declared.start.Start.{Start}
use Rattle.vs_command.specs.declared.start.Start.TheVariants.{Current}
use Rattle.vs_command.specs.declared.status.Status.{Status}
use Rattle.vs_command.specs.declared.status.Status.TheVariants as statuses
use Rattle.vs_command.specs.Sizes.{IsNextOversized}
use Rattle.vs_command.specs.Fetched.{entries_of, read_as}
use Rattle.vs_command.specs.Sending.{AreSent, lacking, position_after}
use Rattle.vs_command.specs.Stops.{refusal_of}
use Rattle.vs_command.specs.Streaming.{HasFault, HasLogCause, IsStart, IsStoppedBy, IsStreamed, IsStreamedFrom}
use Rattle.vs_log.specs.Laws.{FitAlong, HasNewGtids}
use Rattle.vs_command.proofs.SizeLemmas.{entries_of-take}
use Rattle.vs_command.proofs.FitLemmas.{fits_behind}
use Rattle.vs_command.proofs.LegalLemmas.{after_all}

-- The position is a start, and spelled in the one way.
pub record StartsAt (log : Log) (start : Start) (whole : Type 0) (p : Position) : Type 0 where
  pub is_start : IsStart log start whole p
  pub canonical : IsCanonical p

streamed_from : (stands : Gtid → ℕ → Type 0) (tables : List Picked) (s : ShardName) (log : Log) (start : Start) (whole : Type 0) (p : Position) (status : Status) (w : List ℕ) →
    StartsAt log start whole p → IsStreamed stands tables s log p status w → IsStreamedFrom stands tables s log start whole status w
streamed_from stands tables s log start whole p status w at streamed = ◌⊎◌.inr (p, at.is_start, at.canonical, streamed)

-- memory ran out before the start was known
pub Writes-unstarted : (stands : Gtid → ℕ → Type 0) (tables : List Picked) (s : ShardName) (log : Log) (start : Start) (whole : Type 0) (told : Option (List ℕ)) →
    Writes told told (IsStreamedFrom stands tables s log start whole statuses.Memory)
Writes-unstarted stands tables s log start whole told = Writes-none (IsStreamedFrom stands tables s log start whole statuses.Memory) told (◌⊎◌.inl (refl, refl))

-- nothing was sent
none_streamed : (stands : Gtid → ℕ → Type 0) (tables : List Picked) (s : ShardName) (log : Log) (p : Position) (status : Status) → HasLogCause stands tables s log p [] (due s log p) status →
    IsStreamed stands tables s log p status []
none_streamed stands tables s log p status cause = record {
  sent = [];
  rest = due s log p;
  are = refl;
  canonical = tt;
  prefix = IsPrefixOf-refl [];
  whole = λ _. refl;
  base = ◌⊎◌.inl refl;
  cause = cause;
}

-- the log begins behind the start
pub Writes-purged : (stands : Gtid → ℕ → Type 0) (tables : List Picked) (s : ShardName) (log : Log) (start : Start) (whole : Type 0) (p : Position) (missing : Gtid) (told : Option (List ℕ)) →
    StartsAt log start whole p → IsFirstMissing log.base p missing → Writes told told (IsStreamedFrom stands tables s log start whole (statuses.Purged s missing))
Writes-purged stands tables s log start whole p missing told at first =
    Writes-none (IsStreamedFrom stands tables s log start whole (statuses.Purged s missing)) told
    (streamed_from stands tables s log start whole p (statuses.Purged s missing) [] at (none_streamed stands tables s log p (statuses.Purged s missing) (refl, first, refl)))

-- ---- the same, by what is said of where GTID events stand

HasFault-weaken : (P Q : Gtid → ℕ → Type 0) (tables : List Picked) (s : ShardName) (log : Log) (p : Position) (rest : List Entry) (offset : ℕ) (why : Why) → ((g : Gtid) (at : ℕ) → P g at → Q g at) →
    HasFault P tables s log p rest offset why → HasFault Q tables s log p rest offset why
HasFault-weaken P Q tables s log p rest offset why f (◌⊎◌.inl own) = ◌⊎◌.inl own
HasFault-weaken P Q tables s log p rest offset why f (◌⊎◌.inr (bytes, not, next, base)) = ◌⊎◌.inr (bytes, not, go rest next, base)
  where
    go : (rest : List Entry) → IsNextOversized P tables s rest offset bytes → IsNextOversized Q tables s rest offset bytes
    go [] h = absurd h
    go (e ∷ rest) h = (f e.gtid offset h.0, h.1)

HasLogCause-weaken : (P Q : Gtid → ℕ → Type 0) (tables : List Picked) (s : ShardName) (log : Log) (p : Position) (sent rest : List Entry) (status : Status) → ((g : Gtid) (at : ℕ) → P g at → Q g at) →
    HasLogCause P tables s log p sent rest status → HasLogCause Q tables s log p sent rest status
HasLogCause-weaken P Q tables s log p sent rest (statuses.BadLog name offset why) f cause = (cause.0, HasFault-weaken P Q tables s log p rest offset why f cause.1)
HasLogCause-weaken P Q tables s log p sent rest statuses.Done f cause = cause
HasLogCause-weaken P Q tables s log p sent rest statuses.Memory f cause = cause
HasLogCause-weaken P Q tables s log p sent rest statuses.Usage f cause = cause
HasLogCause-weaken P Q tables s log p sent rest (statuses.BadFrame number frame_why) f cause = cause
HasLogCause-weaken P Q tables s log p sent rest (statuses.Request fault) f cause = cause
HasLogCause-weaken P Q tables s log p sent rest (statuses.UnknownShard name) f cause = cause
HasLogCause-weaken P Q tables s log p sent rest (statuses.Purged name missing) f cause = cause
HasLogCause-weaken P Q tables s log p sent rest (statuses.FeedFault name) f cause = cause
HasLogCause-weaken P Q tables s log p sent rest statuses.LinkFault f cause = cause
HasLogCause-weaken P Q tables s log p sent rest statuses.InputFault f cause = cause
HasLogCause-weaken P Q tables s log p sent rest (statuses.OpenFault name) f cause = cause
HasLogCause-weaken P Q tables s log p sent rest (statuses.PositionTooLarge name) f cause = cause
HasLogCause-weaken P Q tables s log p sent rest (statuses.Stopped name id) f cause = cause
HasLogCause-weaken P Q tables s log p sent rest (statuses.BadSchema name line) f cause = cause

pub IsStreamedFrom-weaken : (P Q : Gtid → ℕ → Type 0) (tables : List Picked) (s : ShardName) (log : Log) (start : Start) (whole : Type 0) (status : Status) (w : List ℕ) → ((g : Gtid) (at : ℕ) → P g at → Q g at) →
    IsStreamedFrom P tables s log start whole status w → IsStreamedFrom Q tables s log start whole status w
IsStreamedFrom-weaken P Q tables s log start whole status w f (◌⊎◌.inl none) = ◌⊎◌.inl none
IsStreamedFrom-weaken P Q tables s log start whole status w f (◌⊎◌.inr (p, starts, canonical, streamed)) = ◌⊎◌.inr (
  p,
  starts,
  canonical,
  record {
    sent = streamed.sent;
    rest = streamed.rest;
    are = streamed.are;
    canonical = streamed.canonical;
    prefix = streamed.prefix;
    whole = streamed.whole;
    base = streamed.base;
    cause = HasLogCause-weaken P Q tables s log p streamed.sent streamed.rest status f streamed.cause;
  },
)

-- ---- what was written of the entries that are due

refused_cause : (stands : Gtid → ℕ → Type 0) (tables : List Picked) (s : ShardName) (log : Log) (p : Position) (entries : List Entry) (end : SendEnd) (w : List ℕ) →
    IsSubset log.base p → (sent : AreSent stands tables s p entries (Err end) w) → HasLogCause stands tables s log p sent.sent sent.rest (refusal_of s end)
refused_cause stands tables s log p entries ends.Memory w base sent = tt
refused_cause stands tables s log p entries ends.LinkFault w base sent = base
refused_cause stands tables s log p entries ends.PositionTooLarge w base sent = (refl, sent.large refl, base)
refused_cause stands tables s log p entries (ends.TooLarge offset bytes) w base sent = (refl, ◌⊎◌.inr (bytes, refl, sent.oversized offset bytes refl, base))

refused_link : (s : ShardName) (end : SendEnd) → refusal_of s end ≢ statuses.LinkFault → ◌≢◌ {A = SendEnd} end ends.LinkFault
refused_link s ends.Memory other h = cc
refused_link s ends.LinkFault other h = other refl
refused_link s ends.PositionTooLarge other h = cc
refused_link s (ends.TooLarge offset bytes) other h = cc

-- the entries were sent up to a refusal
pub Writes-refused : (stands wider : Gtid → ℕ → Type 0) → ((g : Gtid) (at : ℕ) → stands g at → wider g at) → (tables : List Picked) (s : ShardName) (log : Log) (start : Start) (whole : Type 0) (p : Position) (entries : List Entry) (end : SendEnd) (before now : Option (List ℕ)) →
    StartsAt log start whole p → IsSubset log.base p → lacking p entries ≡ due s log p →
    Writes before now (λ w. AreSent stands tables s p (lacking p entries) (Err end) w) → Writes before now (IsStreamedFrom wider tables s log start whole (refusal_of s end))
Writes-refused stands wider widen tables s log start whole p entries end before now at base all wrote =
    Writes-weaken (λ w. AreSent stands tables s p (lacking p entries) (Err end) w) (IsStreamedFrom wider tables s log start whole (refusal_of s end)) before now
    (λ w sent. IsStreamedFrom-weaken stands wider tables s log start whole (refusal_of s end) w widen (streamed_from stands tables s log start whole p (refusal_of s end) w at (record {
      sent = sent.sent;
      rest = sent.rest;
      are = sym all ∙ sent.are;
      canonical = sent.canonical;
      prefix = sent.prefix;
      whole = λ other. sent.whole (λ h. refused_link s end other (let l : ◌≡◌ {A = SendEnd} end ends.LinkFault = cc in l));
      base = ◌⊎◌.inr base;
      cause = refused_cause stands tables s log p (lacking p entries) end w base sent;
    }))) wrote

-- what the end of a log says, where all was sent
abbrev pub IsEndOf : ShardName → Log → Position → Status → Type 0
IsEndOf s log p statuses.Done = (stop s log p ≡ None) × (log.fault ≡ None)
IsEndOf s log p (statuses.BadLog name offset why) = (name ≡ s) × (stop s log p ≡ None) × (log.fault ≡ Some (offset, why))
IsEndOf s log p (statuses.Stopped name id) = (name ≡ s) × IsStoppedBy s log p id
IsEndOf s log p status = ⊥

ended_cause : (stands : Gtid → ℕ → Type 0) (tables : List Picked) (s : ShardName) (log : Log) (p : Position) (sent rest : List Entry) (status : Status) → IsSubset log.base p → rest ≡ [] → IsEndOf s log p status →
    HasLogCause stands tables s log p sent rest status
ended_cause stands tables s log p sent rest statuses.Done base none end = (none, base, end.0, end.1)
ended_cause stands tables s log p sent rest (statuses.BadLog name offset why) base none end = (end.0, ◌⊎◌.inl (end.2, none, base, end.1))
ended_cause stands tables s log p sent rest statuses.Memory base none end = absurd end
ended_cause stands tables s log p sent rest statuses.Usage base none end = absurd end
ended_cause stands tables s log p sent rest (statuses.BadFrame number frame_why) base none end = absurd end
ended_cause stands tables s log p sent rest (statuses.Request fault) base none end = absurd end
ended_cause stands tables s log p sent rest (statuses.UnknownShard name) base none end = absurd end
ended_cause stands tables s log p sent rest (statuses.Purged name missing) base none end = absurd end
ended_cause stands tables s log p sent rest (statuses.FeedFault name) base none end = absurd end
ended_cause stands tables s log p sent rest statuses.LinkFault base none end = absurd end
ended_cause stands tables s log p sent rest statuses.InputFault base none end = absurd end
ended_cause stands tables s log p sent rest (statuses.OpenFault name) base none end = absurd end
ended_cause stands tables s log p sent rest (statuses.PositionTooLarge name) base none end = absurd end
ended_cause stands tables s log p sent rest (statuses.Stopped name id) base none end = (end.0, none, base, end.1)
ended_cause stands tables s log p sent rest (statuses.BadSchema name line) base none end = absurd end

-- all entries were sent
pub Writes-ended : (stands wider : Gtid → ℕ → Type 0) → ((g : Gtid) (at : ℕ) → stands g at → wider g at) → (tables : List Picked) (s : ShardName) (log : Log) (start : Start) (whole : Type 0) (p : Position) (entries : List Entry) (status : Status) (before now : Option (List ℕ)) →
    StartsAt log start whole p → IsSubset log.base p → lacking p entries ≡ due s log p → IsEndOf s log p status →
    Writes before now (λ w. AreSent stands tables s p (lacking p entries) (Ok tt) w) → Writes before now (IsStreamedFrom wider tables s log start whole status)
Writes-ended stands wider widen tables s log start whole p entries status before now at base all end wrote =
    Writes-weaken (λ w. AreSent stands tables s p (lacking p entries) (Ok tt) w) (IsStreamedFrom wider tables s log start whole status) before now
    (λ w sent. IsStreamedFrom-weaken stands wider tables s log start whole status w widen (streamed_from stands tables s log start whole p status w at (record {
      sent = sent.sent;
      rest = sent.rest;
      are = sym all ∙ sent.are;
      canonical = sent.canonical;
      prefix = sent.prefix;
      whole = λ _. sent.whole (λ h. cc);
      base = ◌⊎◌.inr base;
      cause = ended_cause stands tables s log p sent.sent sent.rest status base sent.all end;
    }))) wrote

-- a start behind the first entries is one from the end
pub started_at_end : {E : Type 0} (f : Fetched) (start : Start) (placed : List Placed) (count : ℕ) (r : Result Position E) →
    start ≡ Current → placed ≡ f.entries → (f.mark ≡ None → count ≡ length placed) → IfOk r (λ p. p ≡ position_after f.base (entries_of (take count placed))) →
    IfOk r (λ p. IsStart (read_as f) start (f.mark ≡ None) p)
started_at_end f start placed count (Ok p) current all unmarked is =
    subst (λ x. IsStart (read_as f) x (f.mark ≡ None) p) (sym current) (
      count,
      subst (λ q. IsPositionAfter f.base (take count (entries_of f.entries)) q)
          (sym (is ∙ ap (λ es. position_after f.base es) (entries_of-take placed count ∙ ap (λ ts. take count (entries_of ts)) all))) (after_all f.base (take count (entries_of f.entries))),
      λ none. sym (entries_of-take f.entries count) ∙ ap (λ ts. entries_of (take count ts)) (sym all) ∙ ap entries_of (take_all count placed (omega (arith, unmarked none)) ∙ all),
    )
started_at_end f start placed count (Err e) current all unmarked is = tt

-- from such a start all that is due fits
pub fits_at_end : {E : Type 0} (f : Fetched) (placed : List Placed) (count : ℕ) (r : Result Position E) → HasNewGtids (read_as f) → placed ≡ f.entries →
    IfOk r (λ p. p ≡ position_after f.base (entries_of (take count placed))) → IfOk r (λ p. FitAlong p (lacking p (entries_of f.entries)))
fits_at_end {E = E} f placed count (Ok p) new all is =
    fits_behind {E = E} (read_as f) count (entries_of placed) (Ok p) new (ap entries_of all) (is ∙ ap (λ es. position_after f.base es) (entries_of-take placed count))
fits_at_end f placed count (Err e) new all is = tt
