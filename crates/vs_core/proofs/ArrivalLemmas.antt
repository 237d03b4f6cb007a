-- What a turn makes of a lane that comes to its journal.
use Rattle.std.proofs.Common.{◌≡◌, ◌⊎◌, ℕ, Bool, true, false, List, [], ◌∷◌, ◌++◌, append-nil, map, Some, Ok, Err, if◌then◌else◌, length, nat_lt, slice_get, Global, Vec, refl, ap, sym, ◌∙◌, subst, inl, inr, ⊎_elim}
use Rattle.std.specs.Borrow.{Bor}
use Rattle.std.specs.Slice.{IsItemAt}
use Rattle.vs_base.specs.declared.ShardName.{ShardName}
use Rattle.vs_gtid.specs.declared.JournalValue.{JournalValue}
use Rattle.vs_gtid.specs.Vectors.{Vector, switched}
use Rattle.vs_model.proofs.Lists.{same_some}
use Rattle.vs_proto.specs.Frames.{message_bytes}
use Rattle.vs_render.specs.Events.{no_head, vector_event}
use Rattle.vs_render.specs.declared.piece.Piece.{Piece}
use Rattle.vs_render.specs.declared.piece.Piece.TheVariants as piece
use Rattle.vs_render.specs.declared.piece.EndCause.TheVariants as cause
use Rattle.vs_render.specs.declared.room.Room.{Room}
use Rattle.vs_vector.specs.Messages.{vgtid_of}
use Rattle.vs_vector.specs.Places.{most_shards}
use Rattle.vs_gather.specs.Gathering.{Arrived, arrival, is_complete}
use Rattle.vs_gather.specs.Gathering.Arrived.{StillWaits, Completes}
use Rattle.vs_gather.specs.declared.kept.Kept.{Kept}
use Rattle.vs_gather.specs.declared.refusal.GatherRefusal.{GatherRefusal}
use Rattle.vs_gather.specs.declared.refusal.GatherRefusal.TheVariants as gather
use Rattle.vs_core.proofs.ScanLemmas.{item_at}
use Rattle.vs_core.specs.Arrivals.{ComesTo, told_refusal}
use Rattle.vs_core.specs.Framing.{journal_events}
use Rattle.vs_core.specs.Machine.{CoreState, Sent, TurnTold, Turned, arrived_by, handled_by, handled_of, in_state, switched_to}
use Rattle.vs_core.specs.Machine.Sent.{SentSwitch, SentHalt}
use Rattle.vs_core.specs.Machine.TurnTold.{Switched, Halted, Arrives}
use Rattle.vs_core.specs.Machine.Turned.{Went, Refused}
use Rattle.vs_core.specs.Spelling.{sent_bytes, stream_bytes}
use Rattle.vs_core.specs.Tells.{HandledSo, TellsTurn, turn_with}
use Rattle.vs_core.specs.declared.handled.Handled.{Handled}
use Rattle.vs_core.specs.declared.handled.Handled.TheVariants as handled
use Rattle.vs_core.specs.declared.lane.LaneState.TheVariants.{Over}
use Rattle.vs_core.specs.declared.refusal.CoreRefusal.{CoreRefusal}
use Rattle.vs_core.specs.declared.refusal.CoreRefusal.TheVariants as refused

-- the bytes of one frame, behind those before
one_sent : (journals : Bool) (x : Sent) (before behind : List ℕ) → behind ≡ before ++ sent_bytes journals x → behind ≡ before ++ stream_bytes journals (x ∷ [])
one_sent journals x before behind is = is ∙ ap (λ l. before ++ l) (sym (append-nil (sent_bytes journals x)))

module _ (journals : Bool) (s now : CoreState) (k : ℕ) (n : ShardName) (before behind : List ℕ) (named : slice_get s.names k ≡ Some n) where
  -- what is done for a piece of a lane that was begun
  head_went : (p : Piece) (h : Handled) (new : CoreState) (sent : List Sent) (told : TurnTold) → handled_by s k n p ≡ Went new sent told → now ≡ new →
      ((room : Room) → TellsTurn (turn_with k h room) told) → behind ≡ before ++ stream_bytes journals sent → HandledSo journals (handled_of s k (slice_get s.names k) p) now k h before behind
  head_went p h new sent told is now_is tells wrote =
      subst (λ t. HandledSo journals t now k h before behind) (sym (ap (λ o. handled_of s k o p) named ∙ is)) (now_is, tells, wrote)

  module _ (j : JournalValue) (room : Room) (kept : List Kept) where
    abbrev comes : Turned
    comes = handled_of s k (slice_get s.names k) (piece.End (cause.OwnJournal j) room)

    abbrev pub over : CoreState
    over = record (in_state s k Over) { kept = kept }

    pub wait_went : arrival s.vector n j s.kept ≡ Ok (StillWaits kept) → now ≡ over → behind ≡ before → HandledSo journals comes now k handled.Arrived before behind
    wait_went due now_is wrote =
        head_went (piece.End (cause.OwnJournal j) room) handled.Arrived over [] (Arrives k) (ap (arrived_by (in_state s k Over) k j) due) now_is (λ r. refl) (wrote ∙ sym (append-nil before))

    switch_bytes : (told : Bool) (w : Vector) → message_bytes (journal_events told j ++ vector_event no_head (vgtid_of w) ∷ []) ≡ sent_bytes told (SentSwitch j w)
    switch_bytes true w = sym (append-nil _)
    switch_bytes false w = sym (append-nil _)

    pub switch_went : (w : Vector) (retired started : Vec ShardName Global) → arrival s.vector n j s.kept ≡ Ok (Completes kept) → s.flags.stop_on_reshard ≡ false → w ≡ switched s.vector j →
        nat_lt most_shards (length w) ≡ false → now ≡ record over { vector = w } → retired.items ≡ j.participants → started.items ≡ map (λ m. m.name) j.successors →
        behind ≡ before ++ message_bytes (journal_events journals j ++ vector_event no_head (vgtid_of w) ∷ []) → HandledSo journals comes now k (handled.Switched retired started) before behind
    switch_went w retired started due goes_on is few now_is leave begin wrote =
        head_went (piece.End (cause.OwnJournal j) room) (handled.Switched retired started) (record over { vector = w }) (SentSwitch j w ∷ []) (Switched k j.participants (map (λ m. m.name) j.successors))
        (ap (arrived_by (in_state s k Over) k j) due ∙ ap (λ b. if b then Went over (SentHalt j s.vector ∷ []) (Halted k j.id) else switched_to over k j (switched s.vector j)) goes_on
        ∙ ap (switched_to over k j) (sym is)
        ∙ ap (λ (b : Bool). if b then Refused (refused.TooManyShards (length w)) else Went (record over { vector = w }) (SentSwitch j w ∷ []) (Switched k j.participants (map (λ m. m.name) j.successors))) few)
        now_is (λ r. (refl, leave, begin))
        (one_sent journals (SentSwitch j w) before behind (wrote ∙ ap (λ l. before ++ l) (switch_bytes journals w)))

-- ---- refusals

module _ (s : CoreState) (k : ℕ) (n : ShardName) (named : slice_get s.names k ≡ Some n) where
  head_refused : (p : Piece) (e : CoreRefusal) → handled_by s k n p ≡ Refused e → handled_of s k (slice_get s.names k) p ≡ Refused e
  head_refused p e is = ap (λ o. handled_of s k o p) named ∙ is

  arrival_refused : (room : Room) (j : JournalValue) (e : GatherRefusal) → arrival s.vector n j s.kept ≡ Err e →
      handled_of s k (slice_get s.names k) (piece.End (cause.OwnJournal j) room) ≡ Refused (refused.Gathering e)
  arrival_refused room j e is = head_refused (piece.End (cause.OwnJournal j) room) (refused.Gathering e) (ap (arrived_by (in_state s k Over) k j) is)

  pub arrival_told : (room : Room) (j : JournalValue) (e : GatherRefusal) (r : CoreRefusal) → r ≡ told_refusal e → (e ≡ gather.Memory) ⊎ (arrival s.vector n j s.kept ≡ Err e) →
      (r ≡ refused.Memory) ⊎ (handled_of s k (slice_get s.names k) (piece.End (cause.OwnJournal j) room) ≡ Refused r)
  arrival_told room j e r is why = by e is why
    where
      told : (x : GatherRefusal) → r ≡ refused.Gathering x → arrival s.vector n j s.kept ≡ Err x →
          (r ≡ refused.Memory) ⊎ (handled_of s k (slice_get s.names k) (piece.End (cause.OwnJournal j) room) ≡ Refused r)
      told x so due = inr (arrival_refused room j x due ∙ ap (λ y. Refused y) (sym so))

      by : (x : GatherRefusal) → r ≡ told_refusal x → (x ≡ gather.Memory) ⊎ (arrival s.vector n j s.kept ≡ Err x) →
          (r ≡ refused.Memory) ⊎ (handled_of s k (slice_get s.names k) (piece.End (cause.OwnJournal j) room) ≡ Refused r)
      by (gather.Differs id kept came) so h = ⊎_elim (λ (m : gather.Differs id kept came ≡ gather.Memory). absurd (cc)) (λ due. told (gather.Differs id kept came) so due) h
      by (gather.Clash id shard) so h = ⊎_elim (λ (m : gather.Clash id shard ≡ gather.Memory). absurd (cc)) (λ due. told (gather.Clash id shard) so due) h
      by gather.Memory so h = inl so

-- the name of a lane, as it was looked up
pub named_at : (s view : CoreState) (names : List ShardName) (lane : ℕ) (x : Bor ShardName) → view ≡ s → names ≡ view.names → IsItemAt names lane (Some x) → slice_get s.names lane ≡ Some x.now
named_at s view names lane x is from it = ap (λ (y : CoreState). slice_get y.names lane) (sym is) ∙ ap (λ l. slice_get l lane) (sym from) ∙ item_at names lane x it

-- ---- what an arrival will be

still_waits : (a : Arrived) → false ≡ is_complete a → (kept : List Kept) × (a ≡ StillWaits kept)
still_waits (StillWaits kept) is = (kept, refl)
still_waits (Completes kept) is = absurd (let e : false ≡ true = is in cc)

completes_so : (a : Arrived) → true ≡ is_complete a → (kept : List Kept) × (a ≡ Completes kept)
completes_so (StillWaits kept) is = absurd (let e : true ≡ false = is in cc)
completes_so (Completes kept) is = (kept, refl)

module _ (s : CoreState) (k : ℕ) (j : JournalValue) (n : ShardName) (named : slice_get s.names k ≡ Some n) where
  same_lane : (b : Bool) (comes : ComesTo s k j b) → comes.name ≡ n
  same_lane b comes = same_some comes.name n (sym comes.named ∙ named)

  pub will_wait : ComesTo s k j false → (kept : List Kept) × (arrival s.vector n j s.kept ≡ Ok (StillWaits kept))
  will_wait comes = let a = still_waits comes.arrived comes.completes in (a.0, ap (λ m. arrival s.vector m j s.kept) (sym (same_lane false comes)) ∙ comes.due ∙ ap (λ x. Ok x) a.1)

  pub will_complete : ComesTo s k j true → (kept : List Kept) × (arrival s.vector n j s.kept ≡ Ok (Completes kept))
  will_complete comes = let a = completes_so comes.arrived comes.completes in (a.0, ap (λ m. arrival s.vector m j s.kept) (sym (same_lane true comes)) ∙ comes.due ∙ ap (λ x. Ok x) a.1)
