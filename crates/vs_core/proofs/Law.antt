-- All that the core sends is legal, where its lanes posted what their logs let them.
use Rattle.std.proofs.Common.{◌≡◌, ℕ, ◌≤◌, suc, Bool, true, false, not, List, [], ◌∷◌, ◌++◌, append-nil, append_assoc, length, map, Option, Some, None, Ok, Err, IsTrue, IfSome, is_some, filter, slice_get, slice_set, nat_eq, nat_lt, if◌then◌else◌, refl, ap, sym, ◌∙◌, subst, inl, inr, ⊎_elim, true≢false, arith}
use Rattle.std.specs.List.{last_or, list_all, AllByRecursion, AllZip}
use Rattle.std.specs.Ordering.{int_eq}
use Rattle.std.proofs.lemmas.Bool.{and_parts, cases_Bool, eqb-true}
use Rattle.std.proofs.lemmas.Bool.Decides.{Decides-int_eq}
use Rattle.std.proofs.lemmas.Option.{slice_get_within}
use Rattle.vs_base.specs.declared.ShardName.{ShardName}
use Rattle.vs_base.specs.declared.Gtid.{Gtid}
use Rattle.vs_base.specs.declared.LastKey.{LastKey}
use Rattle.vs_base.specs.Names.{same_name}
use Rattle.vs_base.proofs.NameLemmas.{same_name-is, same_name-refl}
use Rattle.vs_gtid.specs.declared.JournalValue.{JournalValue}
use Rattle.vs_gtid.specs.declared.Entry.{Entry}
use Rattle.vs_gtid.specs.Joins.{added}
use Rattle.vs_gtid.specs.Positions.{Position}
use Rattle.vs_gtid.specs.Vectors.{Vector, Place, IsCanonicalVector, place_of, stands, moved, switched, Streams, is_in}
use Rattle.vs_gtid.specs.Vectors.Place.{Fresh, Copying, Streaming}
use Rattle.vs_gtid.proofs.SameJournals.{same_journal-is}
use Rattle.vs_model.specs.Logs.{Cluster, Image, LogsAreDistinct, journal_of, log_of, due, stop, after, is_own}
use Rattle.vs_model.specs.Copy.{Filter}
use Rattle.vs_model.specs.Frames.{Frame as Sending, vector_after, last_vector, is_no_beat}
use Rattle.vs_model.specs.Frames.Frame.{Switch as SwitchFrame, Halt as HaltFrame, AllCopied as AllCopiedFrame, Beat as BeatFrame}
use Rattle.vs_model.specs.Legal.{HasGathered, NoneCopies, NoParticipantStands, AllCopiedFollows, IsCopyDoneFrame}
use Rattle.vs_model.specs.Steps.{Step, Steps}
use Rattle.vs_model.specs.Core.{Piece as Given, PlaceAfter, AreGiven, HasBase, HasAllCopied, IsNoStranger, frame_of, ends_copies, some_copies}
use Rattle.vs_model.specs.Core.Piece.{Transaction, CopiedRows, CopyEnd}
use Rattle.vs_model.proofs.Each.{all_append, all_filtered, all_of_two, all_weaker}
use Rattle.vs_model.proofs.Lists.{cons_is_not_nil, left_nil, not_nil, some_is_not_none, same_some}
use Rattle.vs_model.proofs.Places.{same_position, streams_or_copies, place_of-moved, place_of-moved_other, place_of-switched}
use Rattle.vs_model.proofs.Runs.{AllZip-append, last_vector-append, steps_are_legal}
use Rattle.vs_model.proofs.Resumed.{steps_both}
use Rattle.vs_model.proofs.OneStep.{step_all_copied, step_beat, step_halt, step_switch}
use Rattle.vs_model.proofs.Given.{given_on, base_on, at_journal}
use Rattle.vs_model.proofs.Gate.{after_piece, piece_step}
use Rattle.vs_model.proofs.Ends.{none_copies, follows_one, last_frame, due_of_piece, not_all_copied}
use Rattle.vs_request.specs.declared.request.Flags.{Flags}
use Rattle.vs_render.specs.Bodies.{Rendered, HeldBody}
use Rattle.vs_render.specs.declared.piece.Piece.{Piece}
use Rattle.vs_render.specs.declared.piece.Piece.TheVariants as piece
use Rattle.vs_render.specs.declared.piece.EndCause.TheVariants as cause
use Rattle.vs_base.specs.Limits.{most_intervals}
use Rattle.vs_vector.specs.Places.{most_shards, place_position}
use Rattle.vs_vector.specs.Changes.{place_with, moved_to, advanced_from, advanced, set_to}
use Rattle.vs_vector.specs.declared.refusal.VectorRefusal.TheVariants.{Absent, TooManyIntervals}
use Rattle.vs_gather.specs.Gathering.{concerns, arrival_unless, arrives, arrived_of, kept_of, arrival_refusal, differs, kept_with, kept_without, has_id, adds_nothing}
use Rattle.vs_gather.specs.Gathering.Arrived.{StillWaits, Completes}
use Rattle.vs_gather.specs.declared.kept.Kept.{Kept}
use Rattle.vs_gather.specs.declared.refusal.GatherRefusal.{GatherRefusal}
use Rattle.vs_core.specs.declared.lane.LaneState.{LaneState}
use Rattle.vs_core.specs.declared.lane.LaneState.TheVariants.{Live, AtEnd, Failed, Over}
use Rattle.vs_core.specs.declared.refusal.CoreRefusal.TheVariants.{Stranger, TooManyShards}
use Rattle.vs_core.specs.Choices.{held_of, without_head}
use Rattle.vs_core.specs.Machine.{CoreState, CoreEvent, Sent, TurnTold, Turned, MayBegin, MayTake, arrived_by, switched_to, turned, with_next, with_pieces, chosen_lane, handled_of, handled_by, moved_by, copied_by, ended_by, failed_by, in_state, is_done, is_stuck, failures}
use Rattle.vs_core.specs.Machine.Goes.{begins, takes, turns, beats}
use Rattle.vs_core.specs.Machine.CoreEvent.{Begin, Take, Turn, Beat}
use Rattle.vs_core.specs.Machine.Sent.{SentBody, SentCopyDone, SentSwitch, SentHalt, SentAllCopied, SentBeat}
use Rattle.vs_core.specs.Machine.Turned.{Went, Refused}
use Rattle.vs_core.specs.Machine.TurnTold.{Restart, Ended, Halted, Switched, AllCopied, Done, Stuck, Nothing}
use Rattle.vs_core.specs.Runs.StreamRun.{starts, goes_on}
use Rattle.vs_render.specs.Posted.{ArePosted, BodySpelling, Shows}
use Rattle.vs_core.specs.Runs.{StreamRun, ArePostedFrom, IsSentFrame, IsLegalStream, pieces_taken, takes_of}
use Rattle.vs_core.proofs.Slots.{all_found, at_append, append_at, at_set, set_other, length_set, length_more, if_some, none_any, none_found}
use Rattle.vs_core.proofs.HeldPieces.{all_without_head, held_append, held_other, held_parts, held_past, lane_held, none_held, not_same}
use Rattle.vs_core.proofs.Ends.{CopiesOrEnded, SomeCopies, ends_now, ends_piece, ends_still}
use Rattle.vs_core.proofs.StepFacts.{all_put, canonical_at, each_name, first_own_is, grown_by, in_append, live_not_end, live_not_failed, live_not_over, live_shows, no_clash, none_first, none_stand, not_differs, not_refused, same_new, same_sent}

module _ (spells : BodySpelling) (cluster : Cluster) (rules : Filter) (distinct : LogsAreDistinct cluster) where
  -- the lane of a shard gives these pieces, from the vector's entry on
  abbrev pub LaneFits : Vector → ShardName → List Piece → Type 0
  LaneFits v s pieces = (place : Place) × (place_of v s ≡ Some place) × ArePosted spells cluster rules s place pieces

  -- the shard has come to its journal
  abbrev pub HasCome : Vector → ShardName → JournalValue → Type 0
  HasCome v s j = (p : Position) × Streams v s p × (due s (log_of cluster s) p ≡ []) × (stop s (log_of cluster s) p ≡ Some j)

  abbrev pub IsNotLive : CoreState → ShardName → Type 0
  IsNotLive s n = (k : ℕ) → slice_get s.names k ≡ Some n → slice_get s.states k ≡ Some Live → ⊥

  -- what holds of the lanes, where `future` is what will be taken of each
  pub record Lanes (s : CoreState) (future : ℕ → List Piece) : Type 0 where
    pub even : length s.states ≡ length s.names
    pub fits : (k : ℕ) (n : ShardName) → slice_get s.names k ≡ Some n → slice_get s.states k ≡ Some Live → LaneFits s.vector n (held_of k s.held ++ future k)
    pub one : (k l : ℕ) (n : ShardName) → slice_get s.names k ≡ Some n → slice_get s.states k ≡ Some Live →
        slice_get s.names l ≡ Some n → slice_get s.states l ≡ Some Live → k ≡ l
    pub live : AllByRecursion (λ h. slice_get s.states h.0 ≡ Some Live) s.held
    pub come : AllByRecursion (λ c. (n : ShardName) → IsTrue (is_in n c.arrived) → HasCome s.vector n c.journal × IsNotLive s n) s.kept

  module _ (v0 : Vector) where
    -- what holds of all that was sent
    pub record Frames (sent : List Sent) (v : Vector) (due_yet : Bool) : Type 0 where
      pub fs : List Sending
      pub shown : AllZip (IsSentFrame spells) sent fs
      pub steps : Steps cluster rules v0 fs
      pub last : last_vector v0 fs ≡ v
      pub canonical : IsCanonicalVector v
      pub follows : AllCopiedFollows fs
      pub due : due_yet ≡ true → IsCopyDoneFrame (last_or None (filter is_no_beat fs)) × (some_copies v ≡ false)
      pub ends : SomeCopies v0 → CopiesOrEnded fs v due_yet

    frame_more : (sent : List Sent) (v w : Vector) (due_yet due_then : Bool) (one : Sent) (f : Sending) → Frames sent v due_yet →
        IsSentFrame spells one f → Step cluster rules v f → vector_after v f ≡ w → IsCanonicalVector w → (f ≡ AllCopiedFrame → due_yet ≡ true) →
        (due_then ≡ true → (before : Option Sending) → (due_yet ≡ true → IsCopyDoneFrame before × (some_copies v ≡ false)) →
        IsCopyDoneFrame (last_or before (filter is_no_beat (f ∷ []))) × (some_copies w ≡ false)) →
        ((fs : List Sending) → CopiesOrEnded fs v due_yet → CopiesOrEnded (fs ++ f ∷ []) w due_then) →
        Frames (sent ++ one ∷ []) w due_then
    frame_more sent v w due_yet due_then one f frames shows step moves canonical is_due due_more ends_more = record {
      fs = frames.fs ++ f ∷ [];
      shown = AllZip-append (IsSentFrame spells) sent frames.fs (one ∷ []) (f ∷ []) frames.shown (shows, tt);
      steps = steps_both cluster rules frames.fs (f ∷ []) v0 frames.steps (subst (λ x. Step cluster rules x f) (sym frames.last) step, tt);
      last = last_vector-append frames.fs (f ∷ []) v0 ∙ ap (λ x. vector_after x f) frames.last ∙ moves;
      canonical = canonical;
      follows = follows_one frames.fs f frames.follows (λ e. (frames.due (is_due e)).0);
      due = λ e. let h = due_more e (last_or None (filter is_no_beat frames.fs)) frames.due in (subst IsCopyDoneFrame (sym (last_frame frames.fs f)) h.0, h.1);
      ends = λ some. ends_more frames.fs (frames.ends some);
    }

    -- a piece that moves its shard
    module _ (s : CoreState) (future : ℕ → List Piece) (sent : List Sent) (lanes : Lanes s future) (frames : Frames sent s.vector s.all_copied)
        (k : ℕ) (p : Piece) (pieces : List Piece) (head : held_of k s.held ≡ p ∷ pieces) (n : ShardName) (named : slice_get s.names k ≡ Some n) where
      abbrev rest : List (ℕ × Piece)
      rest = without_head k s.held

      live_head : slice_get s.states k ≡ Some Live
      live_head = lane_held (λ l. slice_get s.states l ≡ Some Live) k p pieces s.held head lanes.live

      live_rest : AllByRecursion (λ h. slice_get s.states h.0 ≡ Some Live) rest
      live_rest = all_without_head (λ l. slice_get s.states l ≡ Some Live) k s.held lanes.live

      -- the head is what the lane gives next
      fits_head : LaneFits s.vector n (p ∷ (held_of k rest ++ future k))
      fits_head = subst (λ l. LaneFits s.vector n (l ++ future k)) (held_parts k p pieces s.held head) (lanes.fits k n named live_head)

      -- another lane is of another shard, and has the same pieces
      other_lane : (l : ℕ) (m : ShardName) → slice_get s.names l ≡ Some m → slice_get s.states l ≡ Some Live → same_name n m ≡ false →
          LaneFits s.vector m (held_of l rest ++ future l)
      other_lane l m is live other =
          subst (λ x. LaneFits s.vector m (x ++ future l)) (sym (held_other k l s.held
          (λ same. true≢false (sym (ap (λ x. same_name n x) (same_some _ _ (sym is ∙ ap (slice_get s.names) (sym same) ∙ named)) ∙ same_name-refl n) ∙ other))))
          (lanes.fits l m is live)

      lanes_moved : (to : Place) → LaneFits (moved s.vector n to) n (held_of k rest ++ future k) → (all_copied : Bool) →
          Lanes (record s { vector = moved s.vector n to; held = rest; all_copied = all_copied }) future
      lanes_moved to fit all_copied = record {
        even = lanes.even;
        fits = λ l m is live. ⊎_elim
            (λ same.
            let m_is : n ≡ m = same_name-is n m same in
            let l_is : k ≡ l = lanes.one k l n named live_head (is ∙ ap Some (sym m_is)) live in
            subst (λ x. LaneFits (moved s.vector n to) x (held_of l rest ++ future l)) m_is
            (subst (λ x. LaneFits (moved s.vector n to) n (held_of x rest ++ future x)) l_is fit))
            (λ other. let at = other_lane l m is live other in (at.0, place_of-moved_other s.vector n m to other ∙ at.1, at.2))
            (cases_Bool (same_name n m));
        one = lanes.one;
        live = live_rest;
        come = all_weaker _ _ (λ c by m i.
            let h = by m i in
            ((h.0.0, place_of-moved_other s.vector n m to (not_same m h.1) ∙ h.0.1, h.0.2, h.0.3), h.1)) s.kept lanes.come;
      }
        where
          not_same : (m : ShardName) → IsNotLive s m → same_name n m ≡ false
          not_same m none = ⊎_elim (λ same. absurd (none k (named ∙ ap Some (same_name-is n m same)) live_head)) (λ other. other) (cases_Bool (same_name n m))

      -- the piece is sent
      sends : (to place : Place) (piece_given : Given) (told : List Given) (last : Option JournalValue) (one : Sent) → s.all_copied ≡ false →
          place_of s.vector n ≡ Some place → AreGiven (rules n) n (log_of cluster n) (piece_given ∷ told) last place → HasBase (log_of cluster n) place →
          PlaceAfter place piece_given to → IsNoStranger n s.vector piece_given → IsCanonicalVector (moved s.vector n to) →
          IsSentFrame spells one (frame_of n piece_given (moved s.vector n to)) → Shows spells n (held_of k rest ++ future k) told last →
          Lanes (record s { vector = moved s.vector n to; held = rest; all_copied = ends_copies piece_given (moved s.vector n to) }) future
          × Frames (sent ++ one ∷ []) (moved s.vector n to) (ends_copies piece_given (moved s.vector n to))
      sends to place piece_given told last one not_due there given base moves foreign canonical shows_frame shows =
          let w = moved s.vector n to in
          let there_then : place_of w n ≡ Some to = place_of-moved s.vector n to (ap is_some there) in
          let to_canonical = canonical_at w n to there_then canonical in
          let log = log_of cluster n in
          let step = piece_step cluster rules distinct s.vector n to to_canonical frames.canonical place piece_given told last there given base moves foreign in (
            lanes_moved to (
              to,
              there_then,
              record {
                told = told;
                last = last;
                given_there = given_on (rules n) n log (distinct n) told last to to_canonical place piece_given given moves;
                base = λ some. base_on (rules n) n log (distinct n) told last to to_canonical place piece_given given moves base;
                shows = shows;
              },
            ) (ends_copies piece_given w),
            frame_more sent s.vector w s.all_copied (ends_copies piece_given w) one (frame_of n piece_given w) frames shows_frame step (after_piece n piece_given s.vector w) canonical
                (λ e. absurd (not_all_copied n piece_given w e)) (λ e before was. due_of_piece n piece_given w before e)
                (λ fs was. ends_piece s.vector w n place to there there_then (λ t other. place_of-moved_other s.vector n t to other) piece_given s.all_copied not_due moves fs was),
          )

      -- nothing is sent, and the vector stays
      lanes_same : LaneFits s.vector n (held_of k rest ++ future k) → Lanes (record s { held = rest }) future
      lanes_same fit = record {
        even = lanes.even;
        fits = λ l m is live. ⊎_elim
            (λ same.
            let m_is : n ≡ m = same_name-is n m same in
            let l_is : k ≡ l = lanes.one k l n named live_head (is ∙ ap Some (sym m_is)) live in
            subst (λ x. LaneFits s.vector x (held_of l rest ++ future l)) m_is (subst (λ x. LaneFits s.vector n (held_of x rest ++ future x)) l_is fit))
            (λ other. other_lane l m is live other)
            (cases_Bool (same_name n m));
        one = lanes.one;
        live = live_rest;
        come = lanes.come;
      }

      -- the lane is over
      lanes_ended : (st : LaneState) → (Live ≡ st → ⊥) → held_of k rest ++ future k ≡ [] → Lanes (in_state (record s { held = rest }) k st) future
      lanes_ended st over none = record {
        even = length_set s.states k st ∙ lanes.even;
        fits = λ l m is live. ⊎_elim (λ h. absurd (over h.1))
            (λ h. other_lane l m is h.1 (other l m is h)) (at_set s.states k l Live st live);
        one = λ a b m a_is a_live b_is b_live. lanes.one a b m a_is (was a a_live) b_is (was b b_live);
        live = live_still rest (none_held k rest (left_nil (held_of k rest) (future k) none)) live_rest;
        come = all_weaker _ _ (λ c by m i. let h = by m i in (h.0, λ l is live. h.1 l is (was l live))) s.kept lanes.come;
      }
        where
          was : (l : ℕ) → slice_get (slice_set s.states k st) l ≡ Some Live → slice_get s.states l ≡ Some Live
          was l live = ⊎_elim (λ h. absurd (over h.1)) (λ h. h.1) (at_set s.states k l Live st live)

          other : (l : ℕ) (m : ShardName) → slice_get s.names l ≡ Some m → (k ≡ l → ⊥) × (slice_get s.states l ≡ Some Live) → same_name n m ≡ false
          other l m is h = ⊎_elim
              (λ same. absurd (h.0 (lanes.one k l n named live_head (is ∙ ap Some (sym (same_name-is n m same))) h.1)))
              (λ differ. differ)
              (cases_Bool (same_name n m))

          live_still : (held : List (ℕ × Piece)) → AllByRecursion (λ h. k ≡ h.0 → ⊥) held → AllByRecursion (λ h. slice_get s.states h.0 ≡ Some Live) held →
              AllByRecursion (λ h. slice_get (slice_set s.states k st) h.0 ≡ Some Live) held
          live_still [] others all = tt
          live_still (h ∷ held) others all = (set_other s.states k h.0 Live st others.0 all.0, live_still held others.1 all.1)

      abbrev Then : CoreState → List Sent → Type 0
      Then new more = Lanes new future × Frames (sent ++ more) new.vector new.all_copied × (new.names ≡ s.names)

      then_by : (a b : CoreState) (x y : List Sent) (t u : TurnTold) → Went a x t ≡ Went b y u → Then a x → Then b y
      then_by a b x y t u e h = subst (λ z. Then z y) (same_new a b x y t u e) (subst (Then a) (same_sent a b x y t u e) h)

      frames_same : Frames (sent ++ []) s.vector s.all_copied
      frames_same = subst (λ l. Frames l s.vector s.all_copied) (sym (append-nil sent)) frames

      module _ (not_due : s.all_copied ≡ false) (new : CoreState) (more : List Sent) (told_it : TurnTold) (canonical : IsCanonicalVector new.vector) where
        abbrev Goal : Turned → Type 0
        Goal turn = turn ≡ Went new more told_it → Then new more

        -- a piece whose frame has its body, and doesn't end a copy
        body_sent : (w : Vector) (time : ℕ) (body : Rendered) (to place : Place) (piece_given : Given) (told : List Given) (last : Option JournalValue) →
            w ≡ moved s.vector n to → ends_copies piece_given w ≡ false → place_of s.vector n ≡ Some place →
            AreGiven (rules n) n (log_of cluster n) (piece_given ∷ told) last place → HasBase (log_of cluster n) place →
            PlaceAfter place piece_given to → IsNoStranger n s.vector piece_given → IsSentFrame spells (SentBody n time body w) (frame_of n piece_given w) →
            Shows spells n (held_of k rest ++ future k) told last → Goal (moved_by (record s { held = rest }) k n time body (Ok w))
        body_sent w time body to place piece_given told last is no_end there given base moves foreign shows_frame shows e =
            let at_w : IsCanonicalVector w = subst IsCanonicalVector (sym (ap (λ x. x.vector) (same_new _ _ _ _ _ _ e))) canonical in
            let h = sends to place piece_given told last (SentBody n time body w) not_due there given base moves foreign (subst IsCanonicalVector is at_w)
            (subst (λ x. IsSentFrame spells (SentBody n time body w) (frame_of n piece_given x)) is shows_frame) shows in
            let P : Vector → Type 0 = λ x. Lanes (record s { vector = x; held = rest; all_copied = ends_copies piece_given x }) future
            × Frames (sent ++ SentBody n time body w ∷ []) x (ends_copies piece_given x) in
            let at : P w = subst P (sym is) h in
            let Q : Bool → Type 0 = λ b. Lanes (record s { vector = w; held = rest; all_copied = b }) future × Frames (sent ++ SentBody n time body w ∷ []) w b in
            let on = subst Q (no_end ∙ sym not_due) at in then_by _ _ _ _ _ _ e (on.0, on.1, refl)

        tx_moves : (place : Place) (e : Entry) (g : Gtid) (told : List Given) (last : Option JournalValue) → e.gtid ≡ g →
            AreGiven (rules n) n (log_of cluster n) (Transaction e ∷ told) last place → PlaceAfter place (Transaction e) (place_with place g)
        tx_moves Fresh e g told last is given = absurd given.2
        tx_moves (Copying q l) e g told last is given = (added q g, grown_by q e g is, refl)
        tx_moves (Streaming q) e g told last is given = (added q g, grown_by q e g is, refl)

        -- a transaction
        tx_sent : (g : Gtid) (time : ℕ) (body : Rendered) (place : Place) (e : Entry) (told : List Given) (last : Option JournalValue) →
            place_of s.vector n ≡ Some place → AreGiven (rules n) n (log_of cluster n) (Transaction e ∷ told) last place → HasBase (log_of cluster n) place →
            e.gtid ≡ g → e.time ≡ time → spells.entry n e ≡ body → IfSome (journal_of e.work) (NoParticipantStands n s.vector) →
            Shows spells n (held_of k rest ++ future k) told last → Goal (moved_by (record s { held = rest }) k n time body (advanced s.vector n g))
        tx_sent g time body place e told last there given base gtid at spelled foreign shows is =
            by (nat_lt most_intervals (length (place_position (place_with place g)))) refl
            (subst (λ o. moved_by (record s { held = rest }) k n time body (moved_to s.vector n (advanced_from n o g)) ≡ Went new more told_it) there is)
          where
            Tested : Bool → Type 0
            Tested b = moved_by (record s { held = rest }) k n time body (moved_to s.vector n (if b then Err TooManyIntervals else Ok (place_with place g))) ≡ Went new more told_it

            by : (b : Bool) → nat_lt most_intervals (length (place_position (place_with place g))) ≡ b →
                moved_by (record s { held = rest }) k n time body (moved_to s.vector n (advanced_from n (Some place) g)) ≡ Went new more told_it → Then new more
            by true p h = absurd (not_refused _ _ _ _ (subst Tested p h))
            by false p h = body_sent (moved s.vector n (place_with place g)) time body (place_with place g) place (Transaction e) told last refl refl there given base
                (tx_moves place e g told last gtid given) foreign (refl, refl, at, spelled) shows (subst Tested p h)

        -- rows of a copy
        chunk_sent : (q : Position) (l : LastKey) (time : ℕ) (body : Rendered) (place : Place) (table : List ℕ) (rows : List Image) (told : List Given) (last : Option JournalValue) →
            place_of s.vector n ≡ Some place → AreGiven (rules n) n (log_of cluster n) (CopiedRows table rows time q l ∷ told) last place → HasBase (log_of cluster n) place →
            spells.rows n table rows time ≡ body → Shows spells n (held_of k rest ++ future k) told last →
            Goal (moved_by (record s { held = rest }) k n time body (set_to s.vector n (Copying q l)))
        chunk_sent q l time body place table rows told last there given base spelled shows is =
            body_sent (moved s.vector n (Copying q l)) time body (Copying q l) place (CopiedRows table rows time q l) told last refl refl there given base
            (rows_move place) tt (refl, refl, refl, spelled) shows
            (subst (λ b. moved_by (record s { held = rest }) k n time body (if b then Ok (moved s.vector n (Copying q l)) else Err (Absent n)) ≡ Went new more told_it)
            (ap is_some there) is)
          where
            rows_move : (x : Place) → PlaceAfter x (CopiedRows table rows time q l) (Copying q l)
            rows_move Fresh = refl
            rows_move (Copying p m) = refl
            rows_move (Streaming p) = refl

        -- the end of a copy
        copy_ended : (q : Position) (time : ℕ) (place : Place) (told : List Given) (last : Option JournalValue) →
            place_of s.vector n ≡ Some place → AreGiven (rules n) n (log_of cluster n) (CopyEnd time q ∷ told) last place → HasBase (log_of cluster n) place →
            Shows spells n (held_of k rest ++ future k) told last →
            Goal (copied_by (record s { held = rest }) k n time (set_to s.vector n (Streaming q)))
        copy_ended q time place told last there given base shows is =
            let w = moved s.vector n (Streaming q) in
            let went = subst (λ b. copied_by (record s { held = rest }) k n time (if b then Ok w else Err (Absent n)) ≡ Went new more told_it) (ap is_some there) is in
            let at_w : IsCanonicalVector w = subst IsCanonicalVector (sym (ap (λ x. x.vector) (same_new _ _ _ _ _ _ went))) canonical in
            let on = sends (Streaming q) place (CopyEnd time q) told last (SentCopyDone n time w) not_due there given base (end_moves place) tt at_w (refl, refl, refl) shows in
            then_by _ _ _ _ _ _ went (on.0, on.1, refl)
          where
            end_moves : (x : Place) → PlaceAfter x (CopyEnd time q) (Streaming q)
            end_moves Fresh = refl
            end_moves (Copying p m) = refl
            end_moves (Streaming p) = refl

        -- a lane that is over, and sends nothing
        lane_over : (st : LaneState) (told : TurnTold) → (Live ≡ st → ⊥) → held_of k rest ++ future k ≡ [] →
            Goal (Went (in_state (record s { held = rest }) k st) [] told)
        lane_over st told over none e = then_by _ _ _ _ _ _ e (lanes_ended st over none, frames_same, refl)

        failed_to : (b : Bool) → held_of k rest ++ future k ≡ [] → Goal (failed_by (record s { held = rest }) k n b)
        failed_to true none e = lane_over Failed (Restart k n) live_not_failed none e
        failed_to false none e = absurd (not_refused _ _ _ _ e)

        -- the lane's own journal
        module _ (j : JournalValue) (place : Place) (there : place_of s.vector n ≡ Some place) (given : AreGiven (rules n) n (log_of cluster n) [] (Some j) place)
            (none : held_of k rest ++ future k ≡ []) where
          abbrev over : CoreState
          over = in_state (record s { held = rest }) k Over

          here : HasCome s.vector n j
          here = let at = at_journal (rules n) n (log_of cluster n) place j given in (at.0, there ∙ ap Some at.1, at.2, at.3)

          is_own_here : is_own n j ≡ true
          is_own_here = first_own_is n (after (log_of cluster n) here.0) j here.3

          lanes_over : Lanes over future
          lanes_over = lanes_ended Over live_not_over none

          here_over : IsNotLive over n
          here_over l is live = ⊎_elim (λ h. absurd (live_not_over h.1))
              (λ h. absurd (h.0 (lanes.one k l n named live_head is h.1))) (at_set s.states k l Live Over live)

          abbrev Comes : ShardName → Type 0
          Comes m = HasCome s.vector m j × IsNotLive over m

          module _ (fits_refusal : arrival_refusal s.vector j s.kept ≡ None) where
            no_difference : differs (kept_of j.id s.kept) j ≡ None
            no_difference = (none_first _ _ fits_refusal).0

            arrived_come : (o : Option Kept) → kept_of j.id s.kept ≡ o → (m : ShardName) → is_in m (arrived_of o) ≡ true → Comes m
            arrived_come None is m i = absurd (true≢false (sym i))
            arrived_come (Some c) is m i =
                let h = all_found _ (has_id j.id) s.kept c lanes_over.come is in
                let same : c.journal ≡ j = same_journal-is c.journal j (not_differs c j (sym (ap (λ o. differs o j) is) ∙ no_difference)) in
                let at = h m i in
                subst (λ x. HasCome s.vector m x × IsNotLive over m) same at

            abbrev Arrived_then : List ShardName
            Arrived_then = arrived_of (kept_of j.id s.kept)

            come_then : (m : ShardName) → is_in m (Arrived_then ++ n ∷ []) ≡ true → Comes m
            come_then m i = ⊎_elim
                (λ other. arrived_come (kept_of j.id s.kept) refl m other)
                (λ same. subst Comes (sym (same_name-is m n same)) (here, here_over))
                (in_append m n Arrived_then i)

            with_kept : (kept : List Kept) → AllByRecursion (λ c. (m : ShardName) → IsTrue (is_in m c.arrived) → HasCome s.vector m c.journal × IsNotLive over m) kept →
                Lanes (record over { kept = kept }) future
            with_kept kept all = record {
              even = lanes_over.even;
              fits = lanes_over.fits;
              one = lanes_over.one;
              live = lanes_over.live;
              come = all;
            }

            waits_on : (kept : List Kept) → AllByRecursion (λ c. (m : ShardName) → IsTrue (is_in m c.arrived) → HasCome s.vector m c.journal × IsNotLive over m) kept →
                Goal (arrived_by over k j (Ok (StillWaits kept)))
            waits_on kept all is = then_by _ _ _ _ _ _ is (with_kept kept all, frames_same, refl)

            -- all participants have come
            module _ (all_come : list_all (λ m. is_in m (Arrived_then ++ n ∷ [])) j.participants ≡ true) where
              participant_comes : (m : ShardName) → is_in m j.participants ≡ true → Comes m
              participant_comes m i = come_then m (each_name (λ x. is_in x (Arrived_then ++ n ∷ [])) j.participants m all_come i)

              gathered : HasGathered cluster s.vector j
              gathered = record {
                shards = (and_parts j.shards (is_in n j.participants) is_own_here).0;
                some = λ e. true≢false (sym (sym (ap (is_in n) e) ∙ (and_parts j.shards (is_in n j.participants) is_own_here).1));
                arrived = λ m i. (participant_comes m i).0;
                new = none_found (λ x. stands s.vector x.name) j.successors (no_clash j _ (none_first _ _ fits_refusal).1);
              }

              halts : (kept : List Kept) → Lanes (record over { kept = kept }) future → Goal (Went (record over { kept = kept }) (SentHalt j s.vector ∷ []) (Halted k j.id))
              halts kept kept_on is = then_by _ _ _ _ _ _ is (
                kept_on,
                frame_more sent s.vector s.vector s.all_copied s.all_copied (SentHalt j s.vector) (HaltFrame j s.vector) frames (refl, refl)
                    (step_halt cluster rules s.vector j gathered frames.canonical) refl frames.canonical
                    (λ e. absurd (let h : HaltFrame j s.vector ≡ AllCopiedFrame = e in cc)) (λ e before was. absurd (true≢false (sym e ∙ not_due)))
                    (λ fs was. ends_still fs (HaltFrame j s.vector) s.vector s.vector s.all_copied tt (λ copies. copies) was),
                refl,
              )

              stays_in : (m : ShardName) → (Comes m → ⊥) → is_in m j.participants ≡ false
              stays_in m not_come = ⊎_elim (λ i. absurd (not_come (participant_comes m i))) (λ i. i) (cases_Bool (is_in m j.participants))

              other_stays : (c : Kept) → has_id j.id c ≡ false → (m : ShardName) → HasCome s.vector m c.journal → is_in m j.participants ≡ false
              other_stays c other m at = stays_in m (λ come.
                  let p_is : at.0 ≡ come.0.0 = same_position s.vector m at.0 come.0.0 at.1 come.0.1 in
                  let j_is : c.journal ≡ j = same_some _ _ (sym at.3 ∙ ap (λ p. stop m (log_of cluster m) p) p_is ∙ come.0.3) in
                  true≢false (sym ((Decides-int_eq j.id j.id).1 refl) ∙ ap (λ x. int_eq x.id j.id) (sym j_is) ∙ other))

              left_come : (kept : List Kept) → AllByRecursion (λ c. (m : ShardName) → IsTrue (is_in m c.arrived) → HasCome s.vector m c.journal × IsNotLive over m) kept →
                  AllByRecursion (λ c. (m : ShardName) → IsTrue (is_in m c.arrived) → HasCome (switched s.vector j) m c.journal × IsNotLive over m) (kept_without j.id kept)
              left_come [] all = tt
              left_come (c ∷ kept) all = by (has_id j.id c) refl (left_come kept all.1)
                where
                  by : (b : Bool) → has_id j.id c ≡ b →
                      AllByRecursion (λ c. (m : ShardName) → IsTrue (is_in m c.arrived) → HasCome (switched s.vector j) m c.journal × IsNotLive over m) (kept_without j.id kept) →
                      AllByRecursion (λ c. (m : ShardName) → IsTrue (is_in m c.arrived) → HasCome (switched s.vector j) m c.journal × IsNotLive over m) (kept_without j.id (c ∷ kept))
                  by true p on = rw p on
                  by false p on = rw p (
                    λ m i.
                        let at = all.0 m i in
                        ((at.0.0, place_of-switched s.vector j m (other_stays c p m at.0) (ap is_some at.0.1) ∙ at.0.1, at.0.2, at.0.3), at.1),
                    on,
                  )

              -- a participant streams, so each copying shard stays
              copies_stay : SomeCopies s.vector → SomeCopies (switched s.vector j)
              copies_stay copies =
                  let stays = stays_in copies.0 (λ come. streams_or_copies s.vector copies.0 come.0.0 copies.1 come.0.1 copies.2) in
                  (copies.0, copies.1, (place_of-switched s.vector j copies.0 stays (ap is_some copies.2.0) ∙ copies.2.0, copies.2.1))

              switches : Goal (Went (record over { vector = switched s.vector j; kept = kept_without j.id s.kept }) (SentSwitch j (switched s.vector j) ∷ []) (Switched k j.participants (map (λ x. x.name) j.successors)))
              switches is =
                  let w = switched s.vector j in
                  let at_w : IsCanonicalVector w = subst IsCanonicalVector (sym (ap (λ x. x.vector) (same_new _ _ _ _ _ _ is))) canonical in
                  then_by _ _ _ _ _ _ is (
                    record {
                      even = lanes_over.even;
                      fits = λ l m at live.
                          let fit = lanes_over.fits l m at live in
                          (fit.0, place_of-switched s.vector j m (stays_in m (λ come. come.1 l at live)) (ap is_some fit.1) ∙ fit.1, fit.2);
                      one = lanes_over.one;
                      live = lanes_over.live;
                      come = left_come s.kept lanes_over.come;
                    },
                    frame_more sent s.vector w s.all_copied s.all_copied (SentSwitch j w) (SwitchFrame j w) frames (refl, refl)
                        (step_switch cluster rules s.vector j gathered at_w) refl at_w
                        (λ e. absurd (let h : SwitchFrame j w ≡ AllCopiedFrame = e in cc)) (λ e before was. absurd (true≢false (sym e ∙ not_due)))
                        (λ fs was. ends_still fs (SwitchFrame j w) s.vector w s.all_copied tt copies_stay was),
                    refl,
                  )

              all_without : (P : Kept → Type 0) (kept : List Kept) → AllByRecursion P kept → AllByRecursion P (kept_without j.id kept)
              all_without P kept all = all_filtered P (λ c. not (has_id j.id c)) kept all

              completes : Goal (arrived_by over k j (Ok (Completes (kept_without j.id s.kept))))
              completes is = by s.flags.stop_on_reshard refl
                where
                  Tested : Bool → Type 0
                  Tested b = (if b then Went (record over { kept = kept_without j.id s.kept }) (SentHalt j s.vector ∷ []) (Halted k j.id)
                      else switched_to (record over { kept = kept_without j.id s.kept }) k j (switched s.vector j)) ≡ Went new more told_it

                  Limited : Bool → Type 0
                  Limited b = (if b then Refused (TooManyShards (length (switched s.vector j)))
                      else Went (record over { vector = switched s.vector j; kept = kept_without j.id s.kept }) (SentSwitch j (switched s.vector j) ∷ []) (Switched k j.participants (map (λ x. x.name) j.successors))) ≡ Went new more told_it

                  limited : (b : Bool) → nat_lt most_shards (length (switched s.vector j)) ≡ b → Limited b → Then new more
                  limited true p h = absurd (not_refused _ _ _ _ h)
                  limited false p h = switches h

                  by : (b : Bool) → s.flags.stop_on_reshard ≡ b → Then new more
                  by true p = halts (kept_without j.id s.kept) (with_kept (kept_without j.id s.kept) (all_without _ s.kept lanes_over.come)) (subst Tested p is)
                  by false p = limited (nat_lt most_shards (length (switched s.vector j))) refl (subst Limited refl (subst Tested p is))

            arrives_to : Goal (arrived_by over k j (Ok (arrives n j Arrived_then s.kept)))
            arrives_to is = by (adds_nothing n j Arrived_then) refl
              where
                Adds : Bool → Type 0
                Adds b = arrived_by over k j (Ok (if b then StillWaits s.kept
                    else if list_all (λ m. is_in m (Arrived_then ++ n ∷ [])) j.participants then Completes (kept_without j.id s.kept)
                    else StillWaits (kept_with (record { journal = j; arrived = Arrived_then ++ n ∷ [] }) s.kept))) ≡ Went new more told_it

                All_in : Bool → Type 0
                All_in b = arrived_by over k j (Ok (if b then Completes (kept_without j.id s.kept)
                    else StillWaits (kept_with (record { journal = j; arrived = Arrived_then ++ n ∷ [] }) s.kept))) ≡ Went new more told_it

                all_in : (b : Bool) → list_all (λ m. is_in m (Arrived_then ++ n ∷ [])) j.participants ≡ b → All_in b → Then new more
                all_in true p h = completes p h
                all_in false p h = waits_on (kept_with (record { journal = j; arrived = Arrived_then ++ n ∷ [] }) s.kept)
                    (all_put _ (record { journal = j; arrived = Arrived_then ++ n ∷ [] }) s.kept (λ m i. come_then m i) lanes_over.come) h

                by : (b : Bool) → adds_nothing n j Arrived_then ≡ b → Then new more
                by true p = waits_on s.kept lanes_over.come (subst Adds p is)
                by false p = all_in (list_all (λ m. is_in m (Arrived_then ++ n ∷ [])) j.participants) refl (subst Adds p is)

          own_journal_comes : Goal (ended_by (record s { held = rest }) k n (cause.OwnJournal j))
          own_journal_comes is = by (arrival_refusal s.vector j s.kept) refl
            where
              Unless : Option GatherRefusal → Type 0
              Unless o = arrived_by over k j (arrival_unless o (arrives n j (arrived_of (kept_of j.id s.kept)) s.kept)) ≡ Went new more told_it

              by : (o : Option GatherRefusal) → arrival_refusal s.vector j s.kept ≡ o → Then new more
              by None p = arrives_to p (subst Unless p is)
              by (Some e) p = absurd (not_refused _ _ _ _ (subst Unless p is))

        abbrev Posted : Place → List Piece → Type 0
        Posted place pieces = ArePosted spells cluster rules n place pieces

        given_as : (place : Place) (pieces : List Piece) (posted : Posted place pieces) (told : List Given) → posted.told ≡ told →
            AreGiven (rules n) n (log_of cluster n) told posted.last place
        given_as place pieces posted told is = subst (λ l. AreGiven (rules n) n (log_of cluster n) l posted.last place) is posted.given_there

        base_as : (place : Place) (pieces : List Piece) (posted : Posted place pieces) (x : Given) (told : List Given) → posted.told ≡ x ∷ told →
            HasBase (log_of cluster n) place
        base_as place pieces posted x told is = posted.base (λ none. cons_is_not_nil x told (sym is ∙ none))

        handle_foreign : (g : Gtid) (time : ℕ) (j : JournalValue) (body : HeldBody) (place : Place) → place_of s.vector n ≡ Some place →
            Posted place (piece.Foreign g time j body ∷ (held_of k rest ++ future k)) → Goal (handled_by (record s { held = rest }) k n (piece.Foreign g time j body))
        handle_foreign g time j body place there posted is = by (concerns s.vector j) refl
          where
            Tested : Bool → Type 0
            Tested b = (if b then Refused (Stranger j.id n) else moved_by (record s { held = rest }) k n time body.body (advanced s.vector n g)) ≡ Went new more told_it

            by : (b : Bool) → concerns s.vector j ≡ b → Then new more
            by true p = absurd (not_refused _ _ _ _ (subst Tested p is))
            by false p =
                let sh = posted.shows in
                tx_sent g time body.body place sh.0 sh.1 posted.last there (given_as place _ posted _ sh.2) (base_as place _ posted _ _ sh.2) sh.3 sh.4 sh.6
                (subst (λ o. IfSome o (NoParticipantStands n s.vector)) (sym sh.5) (λ shards own. none_stand s.vector j.participants p)) sh.7 (subst Tested p is)

        handle : ((j : JournalValue) (place : Place) → place_of s.vector n ≡ Some place → AreGiven (rules n) n (log_of cluster n) [] (Some j) place →
            held_of k rest ++ future k ≡ [] → Goal (ended_by (record s { held = rest }) k n (cause.OwnJournal j))) →
            (x : Piece) (place : Place) → place_of s.vector n ≡ Some place → Posted place (x ∷ (held_of k rest ++ future k)) → Goal (handled_by (record s { held = rest }) k n x)
        handle own (piece.Tx g time body) place there posted is =
            let sh = posted.shows in
            tx_sent g time body.body place sh.0 sh.1 posted.last there (given_as place _ posted _ sh.2) (base_as place _ posted _ _ sh.2) sh.3 sh.4 sh.6
            (if_some (NoParticipantStands n s.vector) (journal_of sh.0.work) (λ j at shards own_one. absurd (true≢false (sym shards ∙ sh.5 j at)))) sh.7 is
        handle own (piece.Foreign g time j body) place there posted is = handle_foreign g time j body place there posted is
        handle own (piece.Chunk q l time body) place there posted is =
            let sh = posted.shows in
            chunk_sent q l time body.body place sh.0 sh.1 sh.2 posted.last there (given_as place _ posted _ sh.3) (base_as place _ posted _ _ sh.3) sh.4 sh.5 is
        handle own (piece.CopyDone q time room) place there posted is =
            let sh = posted.shows in
            copy_ended q time place sh.0 posted.last there (given_as place _ posted _ sh.1) (base_as place _ posted _ _ sh.1) sh.2 is
        handle own (piece.Idle room) place there posted is =
            then_by _ _ _ _ _ _ is (
              lanes_same (
                place,
                there,
                record {
                  told = posted.told;
                  last = posted.last;
                  given_there = posted.given_there;
                  base = posted.base;
                  shows = posted.shows;
                },
              ),
              frames_same,
              refl,
            )
        handle own (piece.End cause.AtEnd room) place there posted is = lane_over AtEnd (Ended k) live_not_end posted.shows.0 is
        handle own (piece.End (cause.OwnJournal j) room) place there posted is =
            own j place there (subst (λ o. AreGiven (rules n) n (log_of cluster n) [] o place) posted.shows.2 (given_as place _ posted [] posted.shows.1)) posted.shows.0 is
        handle own (piece.End cause.FeedFault room) place there posted is = failed_to (nat_lt (failures (record s { held = rest }) n) 3) posted.shows.0 is
        handle own (piece.End (cause.BadLog offset why) room) place there posted is = absurd (not_refused _ _ _ _ is)
        handle own (piece.End (cause.Purged g) room) place there posted is = absurd (not_refused _ _ _ _ is)
        handle own (piece.End cause.Memory room) place there posted is = absurd (not_refused _ _ _ _ is)

    -- a lane begins
    none_yet : (states : List LaneState) (k : ℕ) (held : List (ℕ × Piece)) → length states ≤ k → AllByRecursion (λ h. slice_get states h.0 ≡ Some Live) held → held_of k held ≡ []
    none_yet states k [] past all = refl
    none_yet states k (h ∷ held) past all =
        held_past k h held (not_same h.0 k (λ same. let within = slice_get_within states h.0 Live all.0 in omega (arith, within, past, same))) ∙ none_yet states k held past all.1

    module _ (s : CoreState) (future : ℕ → List Piece) (lanes : Lanes s future) where
      lanes_begun : (n : ShardName) → MayBegin s n → LaneFits s.vector n (future (length s.names)) →
          Lanes (record s { names = s.names ++ n ∷ []; states = s.states ++ Live ∷ [] }) future
      lanes_begun n may fit = record {
        even = length_more s.states Live ∙ ap suc lanes.even ∙ sym (length_more s.names n);
        fits = λ l m is live. ⊎_elim
            (λ was. lanes.fits l m was (live_was l m was live))
            (λ new. subst (λ x. LaneFits s.vector m (x ++ future l)) (sym (none_yet s.states l s.held (omega (arith, lanes.even, new.0)) lanes.live))
            (subst (λ x. LaneFits s.vector m (future x)) (sym new.0) (subst (λ x. LaneFits s.vector x (future (length s.names))) (sym new.1) fit)))
            (at_append s.names n m l is);
        one = λ a b m a_is a_live b_is b_live. ⊎_elim
            (λ a_was. ⊎_elim
            (λ b_was. lanes.one a b m a_was (live_was a m a_was a_live) b_was (live_was b m b_was b_live))
            (λ b_new. absurd (not_both a m a_was a_live b_new.1))
            (at_append s.names n m b b_is))
            (λ a_new. ⊎_elim
            (λ b_was. absurd (not_both b m b_was b_live a_new.1))
            (λ b_new. a_new.0 ∙ sym b_new.0)
            (at_append s.names n m b b_is))
            (at_append s.names n m a a_is);
        live = all_weaker _ _ (λ h at. append_at s.states Live Live h.0 at) s.held lanes.live;
        come = all_of_two _ _ _ (λ c by none m i. let h = by m i in (
          h.0,
          λ l is live. ⊎_elim
              (λ was. h.1 l was (live_was l m was live))
              (λ new. true≢false (sym (ap (λ x. is_in x c.arrived) (sym new.1) ∙ i) ∙ none))
              (at_append s.names n m l is),
        )) s.kept lanes.come (none_any (λ c. is_in n c.arrived) s.kept may.waits_not);
      }
        where
          live_was : (l : ℕ) (m : ShardName) → slice_get s.names l ≡ Some m → slice_get (s.states ++ Live ∷ []) l ≡ Some Live → slice_get s.states l ≡ Some Live
          live_was l m is live = ⊎_elim (λ was. was)
              (λ new. absurd (let within = slice_get_within s.names l m is in omega (arith, within, lanes.even, new.0)))
              (at_append s.states Live Live l live)

          not_both : (l : ℕ) (m : ShardName) → slice_get s.names l ≡ Some m → slice_get (s.states ++ Live ∷ []) l ≡ Some Live → m ≡ n → ⊥
          not_both l m is live same =
              true≢false (sym (live_shows n s.names s.states l (is ∙ ap Some same) (live_was l m is live)) ∙ may.none_live)

    -- a piece is taken
    lanes_taken : (s : CoreState) (future : ℕ → List Piece) (k : ℕ) (p : Piece) → Lanes s (λ l. takes_of l (Take k p) ++ future l) → MayTake s k →
        Lanes (record s { held = s.held ++ (k, p) ∷ [] }) future
    lanes_taken s future k p lanes may = record {
      even = lanes.even;
      fits = λ l m is live. subst (LaneFits s.vector m)
          (sym (ap (λ x. x ++ future l) (held_append l k p s.held) ∙ append_assoc (held_of l s.held) (takes_of l (Take k p)) (future l))) (lanes.fits l m is live);
      one = lanes.one;
      live = all_append (λ h. slice_get s.states h.0 ≡ Some Live) s.held ((k, p) ∷ []) lanes.live (may.live, tt);
      come = lanes.come;
    }

    -- a turn
    module _ (s new : CoreState) (future : ℕ → List Piece) (sent more : List Sent) (told_it : TurnTold) (lanes : Lanes s future) (frames : Frames sent s.vector s.all_copied)
        (canonical : IsCanonicalVector new.vector) where
      abbrev After : CoreState → List Sent → Type 0
      After a x = Lanes a future × Frames (sent ++ x) a.vector a.all_copied × (a.names ≡ s.names)

      after_by : (a : CoreState) (x : List Sent) (t : TurnTold) → Went a x t ≡ Went new more told_it → After a x → After new more
      after_by a x t e h = subst (λ z. After z more) (same_new _ _ _ _ _ _ e) (subst (After a) (same_sent _ _ _ _ _ _ e) h)

      rested : (a b : Bool) → (if a then Went s [] Done else if b then Went s [] (Stuck s.kept) else Went s [] Nothing) ≡ Went new more told_it → After new more
      rested true b e = after_by s [] _ e (lanes, subst (λ l. Frames l s.vector s.all_copied) (sym (append-nil sent)) frames, refl)
      rested false true e = after_by s [] _ e (lanes, subst (λ l. Frames l s.vector s.all_copied) (sym (append-nil sent)) frames, refl)
      rested false false e = after_by s [] _ e (lanes, subst (λ l. Frames l s.vector s.all_copied) (sym (append-nil sent)) frames, refl)

      head_first : s.all_copied ≡ false → (k : ℕ) (pieces : List Piece) → held_of k s.held ≡ pieces → with_pieces s k pieces ≡ Went new more told_it → After new more
      head_first not_due k [] none e = absurd (not_refused _ _ _ _ e)
      head_first not_due k (p ∷ pieces) head e = by (slice_get s.names k) refl
        where
          Named : Option ShardName → Type 0
          Named o = handled_of (record s { held = without_head k s.held }) k o p ≡ Went new more told_it

          by : (o : Option ShardName) → slice_get s.names k ≡ o → After new more
          by None none = absurd (not_refused _ _ _ _ (subst Named none e))
          by (Some n) named =
              let fit = fits_head s future sent lanes frames k p pieces head n named in
              handle s future sent lanes frames k p pieces head n named not_due new more told_it canonical
              (λ j place there given none. own_journal_comes s future sent lanes frames k p pieces head n named not_due new more told_it canonical j place there given none)
              p fit.0 fit.1 fit.2 (subst Named named e)

      next_first : s.all_copied ≡ false → (o : Option ℕ) → with_next s o ≡ Went new more told_it → After new more
      next_first not_due None e = rested (is_done s) (is_stuck s) e
      next_first not_due (Some k) e = head_first not_due k (held_of k s.held) refl e

      lanes_undue : Lanes (record s { all_copied = false }) future
      lanes_undue = record {
        even = lanes.even;
        fits = lanes.fits;
        one = lanes.one;
        live = lanes.live;
        come = lanes.come;
      }

      frame_undue : s.all_copied ≡ true → Frames (sent ++ SentAllCopied ∷ []) s.vector false
      frame_undue due_now = frame_more sent s.vector s.vector s.all_copied false SentAllCopied AllCopiedFrame frames tt
          (step_all_copied cluster rules s.vector (none_copies s.vector (frames.due due_now).1) frames.canonical) refl frames.canonical
          (λ x. due_now) (λ x before was. absurd (true≢false (sym x)))
          (λ fs was. ends_now fs s.vector false)

      turn_on : turned s ≡ Went new more told_it → After new more
      turn_on e = by s.all_copied refl
        where
          Due : Bool → Type 0
          Due b = (if b then Went (record s { all_copied = false }) (SentAllCopied ∷ []) AllCopied else with_next s (chosen_lane s)) ≡ Went new more told_it

          by : (b : Bool) → s.all_copied ≡ b → After new more
          by true due_now = after_by (record s { all_copied = false }) (SentAllCopied ∷ []) AllCopied (subst Due due_now e) (lanes_undue, frame_undue due_now, refl)
          by false not_due = next_first not_due (chosen_lane s) (subst Due not_due e)

    -- what holds of a run
    pub record Kept_so_far (h : List CoreEvent) (sent : List Sent) (s : CoreState) (future : ℕ → List Piece) : Type 0 where
      pub lanes : Lanes s future
      pub frames : Frames sent s.vector s.all_copied
      pub fresh : (k : ℕ) → length s.names ≤ k → pieces_taken k h ≡ []

    begun_fit : (v : Vector) (n : ShardName) (pieces : List Piece) → IsTrue (stands v n) → ((place : Place) → place_of v n ≡ Some place → ArePosted spells cluster rules n place pieces) →
        LaneFits v n pieces
    begun_fit v n pieces is posted = by (place_of v n) refl
      where
        by : (o : Option Place) → place_of v n ≡ o → LaneFits v n pieces
        by (Some place) there = (place, there, posted place there)
        by None none = absurd (true≢false (sym is ∙ ap is_some none))

    other_taken : (k lane : ℕ) (p : Piece) (s : CoreState) → MayTake s lane → length s.names ≤ k → length s.states ≡ length s.names → takes_of k (Take lane p) ≡ []
    other_taken k lane p s may past even = ⊎_elim
        (λ same. absurd (let within = slice_get_within s.states lane Live may.live in let is = eqb-true lane k same in omega (arith, within, past, even, is)))
        (λ other. rw other refl)
        (cases_Bool (nat_eq lane k))

    module _ (flags : Flags) (until_end : Bool) (canonical0 : IsCanonicalVector v0) where
      pub run_kept : (more : ℕ → List Piece) (h : List CoreEvent) (sent : List Sent) (s : CoreState) (run : StreamRun v0 flags until_end h sent s) (future : ℕ → List Piece) →
          ((k : ℕ) → more k ≡ pieces_taken k h ++ future k) → ArePostedFrom spells cluster rules more run → Kept_so_far h sent s future
      run_kept more h sent s starts future all posted = record {
        lanes = record {
          even = refl;
          fits = λ k n is live. absurd (some_is_not_none n (sym is));
          one = λ k l n is live other other_live. absurd (some_is_not_none n (sym is));
          live = tt;
          come = tt;
        };
        frames = record {
          fs = [];
          shown = tt;
          steps = tt;
          last = refl;
          canonical = canonical0;
          follows = λ before behind is. absurd (not_nil before behind AllCopiedFrame (sym is));
          due = λ e. absurd (true≢false (sym e));
          ends = λ some. inl some;
        };
        fresh = λ k past. refl;
      }
      run_kept more h sent s (goes_on {events = g} {sent = x} {s = old} {e = Begin n} run (begins may)) future all posted =
          let before = run_kept more g x old run future (λ k. all k ∙ ap (λ l. l ++ future k) (append-nil (pieces_taken k g))) posted.1 in
          let k0 = length old.names in
          let future_is : more k0 ≡ future k0 = all k0 ∙ ap (λ l. (l ++ []) ++ future k0) (before.fresh k0 (omega arith)) in
          record {
            lanes = lanes_begun old future before.lanes n may (begun_fit old.vector n (future k0) may.stands_there (λ place there. subst (ArePosted spells cluster rules n place) future_is (posted.0 place there)));
            frames = subst (λ l. Frames l old.vector old.all_copied) (sym (append-nil x)) before.frames;
            fresh = λ k past. ap (λ l. l ++ []) (before.fresh k (let more_names = length_more old.names n in omega (arith, past, more_names)));
          }
      run_kept more h sent s (goes_on {events = g} {sent = x} {s = old} {e = Take lane p} run (takes may)) future all posted =
          let before = run_kept more g x old run (λ k. takes_of k (Take lane p) ++ future k) (λ k. all k ∙ append_assoc (pieces_taken k g) (takes_of k (Take lane p)) (future k)) posted in
          record {
            lanes = lanes_taken old future lane p before.lanes may;
            frames = subst (λ l. Frames l old.vector old.all_copied) (sym (append-nil x)) before.frames;
            fresh = λ k past. ap (λ l. l ++ takes_of k (Take lane p)) (before.fresh k past) ∙ other_taken k lane p old may past before.lanes.even;
          }
      run_kept more h sent s (goes_on {events = g} {sent = x} {more = y} {s = old} {new = new} {e = Turn} run (turns {told = told_it} is canonical)) future all posted =
          let before = run_kept more g x old run future (λ k. all k ∙ ap (λ l. l ++ future k) (append-nil (pieces_taken k g))) posted in
          let on = turn_on old new future x y told_it before.lanes before.frames canonical is in
          record {
            lanes = on.0;
            frames = on.1;
            fresh = λ k past. ap (λ l. l ++ []) (before.fresh k (subst (λ l. length l ≤ k) on.2 past));
          }
      run_kept more h sent s (goes_on {events = g} {sent = x} {s = old} {e = Beat now} run beats) future all posted =
          let before = run_kept more g x old run future (λ k. all k ∙ ap (λ l. l ++ future k) (append-nil (pieces_taken k g))) posted in
          record {
            lanes = before.lanes;
            frames = frame_more x old.vector old.vector old.all_copied old.all_copied (SentBeat now) (BeatFrame now) before.frames refl
                (step_beat cluster rules old.vector now before.frames.canonical) refl before.frames.canonical
                (λ e. absurd (let h : BeatFrame now ≡ AllCopiedFrame = e in cc)) (λ e last was. was e)
                (λ fs was. ends_still fs (BeatFrame now) old.vector old.vector old.all_copied tt (λ copies. copies) was);
            fresh = λ k past. ap (λ l. l ++ []) (before.fresh k past);
          }

      pub run_is_legal : (h : List CoreEvent) (sent : List Sent) (s : CoreState) (run : StreamRun v0 flags until_end h sent s) →
          ArePostedFrom spells cluster rules (λ k. pieces_taken k h) run → IsLegalStream spells cluster rules v0 sent s
      run_is_legal h sent s run posted =
          let kept = run_kept (λ k. pieces_taken k h) h sent s run (λ k. []) (λ k. sym (append-nil (pieces_taken k h))) posted in
          record {
            frames = kept.frames.fs;
            sent_as = kept.frames.shown;
            legal = steps_are_legal cluster rules v0 kept.frames.fs distinct kept.frames.follows kept.frames.steps;
            last = kept.frames.last;
            all_copied = λ name place copies none not_due. all_sent s none not_due (kept.frames.ends (name, place, copies));
          }
        where
          all_sent : {fs : List Sending} (s : CoreState) → NoneCopies s.vector → s.all_copied ≡ false → CopiesOrEnded fs s.vector s.all_copied → HasAllCopied fs
          all_sent s none not_due (inl copies) = absurd (none copies.0 copies.1 copies.2)
          all_sent s none not_due (inr (inl is)) = absurd (true≢false (sym is ∙ not_due))
          all_sent s none not_due (inr (inr ended)) = ended
