-- What a turn makes of the core, part by part.
use Rattle.std.proofs.Common.{◌≡◌, ◌⊎◌, ℕ, Bool, true, false, List, [], Option, Some, None, Result, Ok, Err, ◌&&◌, ◌||◌, ℤ, Global, Vec, if◌then◌else◌, length, nat_lt, slice_get, refl, ap, sym, ◌∙◌, subst, inl, inr, ⊎_elim}
use Rattle.std.specs.List.{list_all, list_any, remove}
use Rattle.vs_base.specs.declared.ShardName.{ShardName}
use Rattle.vs_gtid.specs.declared.JournalValue.{JournalValue}
use Rattle.vs_gtid.specs.Vectors.{Vector, names, switched}
use Rattle.vs_gtid.specs.Vectors.Place.{Copying, Streaming}
use Rattle.vs_model.proofs.Lists.{same_some}
use Rattle.vs_render.specs.Bodies.{Rendered}
use Rattle.vs_render.specs.declared.room.Room.{Room}
use Rattle.vs_render.specs.declared.piece.Piece.{Piece}
use Rattle.vs_render.specs.declared.piece.Piece.TheVariants as piece
use Rattle.vs_render.specs.declared.piece.EndCause.{EndCause}
use Rattle.vs_render.specs.declared.piece.EndCause.TheVariants as cause
use Rattle.vs_vector.specs.Changes.{advanced, set_to}
use Rattle.vs_vector.specs.Places.{most_shards}
use Rattle.vs_vector.specs.declared.refusal.VectorRefusal.{VectorRefusal}
use Rattle.vs_gather.specs.Gathering.{AreWaiting, Arrived, arrival, concerns, waits}
use Rattle.vs_gather.specs.Gathering.Arrived.{StillWaits, Completes}
use Rattle.vs_gather.specs.declared.refusal.GatherRefusal.{GatherRefusal}
use Rattle.vs_core.specs.Choices.{IsHeadAt}
use Rattle.vs_core.specs.Machine.{CoreState, Turned, arrived_by, at_rest, copied_by, ended_by, failed_by, failures, handled_by, handled_of, moved_by, with_next, with_pieces, in_state, is_at_end}
use Rattle.vs_core.specs.Machine.TurnTold.{Done, Nothing, Stuck}
use Rattle.vs_core.specs.Machine.Turned.{Went, Refused}
use Rattle.vs_core.specs.Rooms.{IsPieceRoom}
use Rattle.vs_core.specs.Tells.{BringsRoom, HandledSo, IsRested, IsTurned, RoomIsBack, WentSo, first_piece, lane_piece, turn_with}
use Rattle.vs_core.specs.declared.handled.Handled.{Handled}
use Rattle.vs_core.specs.declared.handled.Handled.TheVariants as handled
use Rattle.vs_core.specs.declared.lane.LaneState.TheVariants.{Over}
use Rattle.vs_core.specs.declared.turn.Turn.{Turn}
use Rattle.vs_core.specs.declared.turn.Turn.TheVariants as turn
use Rattle.vs_core.specs.declared.refusal.CoreRefusal.{CoreRefusal}
use Rattle.vs_core.specs.declared.refusal.CoreRefusal.TheVariants.{Memory}

-- what is done for a piece leaves the held ones alone
abbrev pub holding : List (ℕ × Piece) → Turned → Turned
holding held (Went new sent told) = Went (record new { held = held }) sent told
holding held (Refused e) = Refused e

abbrev pub with_held : CoreState → List (ℕ × Piece) → CoreState
with_held s held = record s { held = held }

if_apart : (held : List (ℕ × Piece)) (c : Bool) (a b a_held b_held : Turned) → a_held ≡ holding held a → b_held ≡ holding held b →
    (if c then a_held else b_held) ≡ holding held (if c then a else b)
if_apart held true a b a_held b_held is_a is_b = is_a
if_apart held false a b a_held b_held is_a is_b = is_b

module _ (s : CoreState) (held : List (ℕ × Piece)) (k : ℕ) where
  moved_apart : (n : ShardName) (time : ℕ) (body : Rendered) (r : Result Vector VectorRefusal) → moved_by (with_held s held) k n time body r ≡ holding held (moved_by s k n time body r)
  moved_apart n time body (Ok w) = refl
  moved_apart n time body (Err e) = refl

  copied_apart : (n : ShardName) (time : ℕ) (r : Result Vector VectorRefusal) → copied_by (with_held s held) k n time r ≡ holding held (copied_by s k n time r)
  copied_apart n time (Ok w) = refl
  copied_apart n time (Err e) = refl

  failed_apart : (n : ShardName) (c : Bool) → failed_by (with_held s held) k n c ≡ holding held (failed_by s k n c)
  failed_apart n true = refl
  failed_apart n false = refl

  arrived_apart : (j : JournalValue) (r : Result Arrived GatherRefusal) → arrived_by (with_held s held) k j r ≡ holding held (arrived_by s k j r)
  arrived_apart j (Ok (StillWaits kept)) = refl
  arrived_apart j (Ok (Completes kept)) = if_apart held s.flags.stop_on_reshard _ _ _ _ refl (if_apart held (nat_lt most_shards (length (switched s.vector j))) _ _ _ _ refl refl)
  arrived_apart j (Err e) = refl

ended_apart : (s : CoreState) (held : List (ℕ × Piece)) (k : ℕ) (n : ShardName) (c : EndCause) → ended_by (with_held s held) k n c ≡ holding held (ended_by s k n c)
ended_apart s held k n cause.AtEnd = refl
ended_apart s held k n (cause.OwnJournal j) = arrived_apart (in_state s k Over) held k j (arrival s.vector n j s.kept)
ended_apart s held k n cause.FeedFault = failed_apart s held k n (nat_lt (failures s n) 3)
ended_apart s held k n (cause.BadLog offset why) = refl
ended_apart s held k n (cause.Purged g) = refl
ended_apart s held k n cause.Memory = refl

handled_apart : (s : CoreState) (held : List (ℕ × Piece)) (k : ℕ) (n : ShardName) (p : Piece) → handled_by (with_held s held) k n p ≡ holding held (handled_by s k n p)
handled_apart s held k n (piece.Tx g time body) = moved_apart s held k n time body.body (advanced s.vector n g)
handled_apart s held k n (piece.Foreign g time j body) = if_apart held (concerns s.vector j) _ _ _ _ refl (moved_apart s held k n time body.body (advanced s.vector n g))
handled_apart s held k n (piece.Chunk q l time body) = moved_apart s held k n time body.body (set_to s.vector n (Copying q l))
handled_apart s held k n (piece.CopyDone q time room) = copied_apart s held k n time (set_to s.vector n (Streaming q))
handled_apart s held k n (piece.Idle room) = refl
handled_apart s held k n (piece.End c room) = ended_apart s held k n c

of_apart : (s : CoreState) (held : List (ℕ × Piece)) (k : ℕ) (o : Option ShardName) (p : Piece) → handled_of (with_held s held) k o p ≡ holding held (handled_of s k o p)
of_apart s held k None p = refl
of_apart s held k (Some n) p = handled_apart s held k n p

module _ (gate : CoreState) (held : List (ℕ × Piece)) (lane place : ℕ) (p : Piece) (at : IsHeadAt held lane place) (p_is : at.piece ≡ p) where
  abbrev done : Turned
  done = handled_of gate lane (slice_get gate.names lane) p

  lane_turned : with_next (with_held gate held) (Some lane) ≡ holding (remove held place) done
  lane_turned =
      ap (λ l. with_pieces (with_held gate held) lane l) at.first
      ∙ ap (λ l. handled_of (with_held gate l) lane (slice_get gate.names lane) at.piece) at.others
      ∙ of_apart gate (remove held place) lane (slice_get gate.names lane) at.piece
      ∙ ap (λ q. holding (remove held place) (handled_of gate lane (slice_get gate.names lane) q)) p_is

  lane_went : (journals : Bool) (now : CoreState) (h : Handled) (room : Room) (before behind : List ℕ) → HandledSo journals done now lane h before behind →
      WentSo journals (with_next (with_held gate held) (Some lane)) (with_held now (remove held place)) (turn_with lane h room) before behind
  lane_went journals now h room before behind so = subst (λ t. WentSo journals t (with_held now (remove held place)) (turn_with lane h room) before behind) (sym lane_turned) (by done so)
    where
      by : (t : Turned) → HandledSo journals t now lane h before behind → WentSo journals (holding (remove held place) t) (with_held now (remove held place)) (turn_with lane h room) before behind
      by (Went new sent told) so = (ap (λ g. with_held g (remove held place)) so.0, so.1 room, so.2)
      by (Refused e) so = absurd so

  lane_refused : (e : CoreRefusal) → (e ≡ Memory) ⊎ (done ≡ Refused e) → (e ≡ Memory) ⊎ (with_next (with_held gate held) (Some lane) ≡ Refused e)
  lane_refused e why = ⊎_elim (λ m. inl m) (λ r. inr (lane_turned ∙ ap (holding (remove held place)) r)) why

  lane_room : (h : Handled) (room : Room) → IsPieceRoom p room → RoomIsBack (lane_piece (with_held gate held) (Some lane)) (turn_with lane h room)
  lane_room h room has = subst (λ l. RoomIsBack (first_piece l) (turn_with lane h room)) (sym at.first) (subst (λ q. BringsRoom q (turn_with lane h room)) (sym p_is) (by h))
    where
      by : (x : Handled) → BringsRoom p (turn_with lane x room)
      by handled.Frame = has
      by (handled.Switched retired started) = has
      by (handled.Halted id) = has
      by handled.Arrived = has
      by handled.Ended = has
      by handled.Idled = has
      by (handled.Restart name) = has

-- ---- the head of a lane

module _ (s gate : CoreState) (held : List (ℕ × Piece)) (lane place : ℕ) (x : ℕ × Piece) (is : with_held gate held ≡ s) (at : IsHeadAt s.held lane place) (there : slice_get held place ≡ Some x) where
  at_here : IsHeadAt held lane place
  at_here = subst (λ (y : CoreState). IsHeadAt y.held lane place) (sym is) at

  piece_is : at_here.piece ≡ x.1
  piece_is = let pair : ℕ × Piece = (lane, at_here.piece) in ap (λ (y : ℕ × Piece). y.1) (same_some pair x (sym at_here.stands_at ∙ there))

  pub head_went : (now : CoreState) (rest : List (ℕ × Piece)) (h : Handled) (room : Room) (t : Turn) (before behind : List ℕ) → rest ≡ remove held place →
      HandledSo gate.flags.include_journals (handled_of gate lane (slice_get gate.names lane) x.1) now lane h before behind → t ≡ turn_with lane h room →
      WentSo s.flags.include_journals (with_next s (Some lane)) (with_held now rest) t before behind
  head_went now rest h room t before behind rest_is so t_is =
      subst (λ (y : CoreState). WentSo y.flags.include_journals (with_next y (Some lane)) (with_held now rest) t before behind) is
      (subst (λ r. WentSo gate.flags.include_journals (with_next (with_held gate held) (Some lane)) (with_held now r) t before behind) (sym rest_is)
      (subst (λ u. WentSo gate.flags.include_journals (with_next (with_held gate held) (Some lane)) (with_held now (remove held place)) u before behind) (sym t_is)
      (lane_went gate held lane place x.1 at_here piece_is gate.flags.include_journals now h room before behind so)))

  pub head_refused : (now : CoreState) (e : CoreRefusal) (before behind : List ℕ) → now ≡ gate → behind ≡ before → (e ≡ Memory) ⊎ (handled_of gate lane (slice_get gate.names lane) x.1 ≡ Refused e) →
      IsTurned (with_next s (Some lane)) s (with_held now held) before behind (Err e)
  head_refused now e before behind now_is wrote why = (
    ap (λ g. with_held g held) now_is ∙ is,
    wrote,
    subst (λ (y : CoreState). (e ≡ Memory) ⊎ (with_next y (Some lane) ≡ Refused e)) is (lane_refused gate held lane place x.1 at_here piece_is e why),
  )

  pub head_room : (h : Handled) (room : Room) (t : Turn) → IsPieceRoom x.1 room → t ≡ turn_with lane h room → RoomIsBack (lane_piece s (Some lane)) t
  head_room h room t has t_is =
      subst (λ (y : CoreState). RoomIsBack (lane_piece y (Some lane)) t) is
      (subst (λ u. RoomIsBack (lane_piece (with_held gate held) (Some lane)) u) (sym t_is) (lane_room gate held lane place x.1 at_here piece_is h room has))

-- ---- at rest

abbrev rested : CoreState → Bool → Bool → Bool → Bool → Turned
rested s until ended rest wait = if until && ended then Went s [] Done else if until && (rest && wait) then Went s [] (Stuck s.kept) else Went s [] Nothing

module _ (s : CoreState) where
  abbrev pub all_ended : Bool
  all_ended = list_all (is_at_end s) (names s.vector)

  abbrev pub all_rest : Bool
  all_rest = list_all (λ n. is_at_end s n || waits s.kept n) (names s.vector)

  abbrev pub some_wait : Bool
  some_wait = list_any (waits s.kept) (names s.vector)

  pub rests_still : (t : Turn) → t ≡ turn.Nothing → at_rest s ≡ Went s [] Nothing → IsRested (at_rest s) s (Ok t)
  rests_still t is so = subst (λ x. IsRested (at_rest s) s (Ok x)) (sym is) (Nothing, so, tt, λ p none. subst (λ o. RoomIsBack o turn.Nothing) (sym none) tt)

  pub goes_on : s.until_end ≡ false → at_rest s ≡ Went s [] Nothing
  goes_on on = ap (λ u. rested s u all_ended all_rest some_wait) on

  pub is_stopped : s.until_end ≡ true → all_ended ≡ false → (all_rest && some_wait) ≡ false → at_rest s ≡ Went s [] Nothing
  is_stopped on ended rest =
      ap (λ u. rested s u all_ended all_rest some_wait) on ∙ ap (λ a. rested s true a all_rest some_wait) ended
      ∙ ap (λ (b : Bool). if b then Went s [] (Stuck s.kept) else Went s [] Nothing) rest

  pub ends_done : s.until_end ≡ true → all_ended ≡ true → IsRested (at_rest s) s (Ok turn.Done)
  ends_done on ended = (
    Done,
    ap (λ u. rested s u all_ended all_rest some_wait) on ∙ ap (λ a. rested s true a all_rest some_wait) ended,
    tt,
    λ p none. subst (λ o. RoomIsBack o turn.Done) (sym none) tt,
  )

  pub ends_stuck : (ids : Vec ℤ Global) → s.until_end ≡ true → all_ended ≡ false → all_rest ≡ true → some_wait ≡ true → AreWaiting ids.items s.kept → IsRested (at_rest s) s (Ok (turn.Stuck ids))
  ends_stuck ids on ended rest wait are = (
    Stuck s.kept,
    ap (λ u. rested s u all_ended all_rest some_wait) on ∙ ap (λ a. rested s true a all_rest some_wait) ended
        ∙ ap (λ b. rested s true false b some_wait) rest ∙ ap (λ b. rested s true false true b) wait,
    are,
    λ p none. subst (λ o. RoomIsBack o (turn.Stuck ids)) (sym none) tt,
  )
