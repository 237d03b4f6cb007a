-- What a step of a lane comes to, by what came of the log and what the piece says of it.
use Rattle.std.proofs.Common.{inl, inr, ◌≡◌, ◌≢◌, ℕ, ◌≤◌, Bool, true, false, List, [], ◌∷◌, ◌++◌, length, length-append, append_assoc, Option, Some, None, refl, sym, ap, ◌∙◌, subst, arith, true≢false}
use Rattle.std.specs.Prelude.{◌⊎◌}
use Rattle.std.specs.Option.{ForSome}
use Rattle.vs_base.specs.declared.Gtid.{Gtid}
use Rattle.vs_base.specs.declared.ShardName.{ShardName}
use Rattle.vs_base.specs.declared.Why.{Why}
use Rattle.vs_base.specs.declared.Why.TheVariants.{TooLarge}
use Rattle.vs_gtid.specs.declared.Entry.{Entry}
use Rattle.vs_gtid.specs.declared.JournalValue.{JournalValue}
use Rattle.vs_gtid.specs.declared.Work.{Work}
use Rattle.vs_gtid.specs.declared.Work.TheVariants.{Rows, Ddl, Other, Journal}
use Rattle.vs_gtid.specs.Joins.{added}
use Rattle.vs_gtid.specs.Logs.{HaveDistinctGtids, Log}
use Rattle.vs_gtid.specs.Missing.{IsFirstMissing}
use Rattle.vs_gtid.specs.Positions.{Position, IsSubset, has}
use Rattle.vs_gtid.specs.Vectors.{Place}
use Rattle.vs_gtid.specs.Vectors.Place.{Streaming}
use Rattle.vs_rows.specs.Tables.{Tables}
use Rattle.vs_log.specs.Laws.{KnowsItsBase}
use Rattle.vs_log.specs.Meaning.{knows_base, log_meant}
use Rattle.vs_log.specs.Productions.{StandsAt}
use Rattle.vs_log.specs.Table.{Rules}
use Rattle.vs_log.proofs.Bases.{knows_its_base}
use Rattle.vs_log.proofs.Distinct.{new_gtids}
use Rattle.vs_log.proofs.Faults.{grows}
use Rattle.vs_entries.specs.Rules.{rules_of}
use Rattle.vs_outside.specs.Counts.{Rose, raised}
use Rattle.vs_filter.specs.declared.bound.Bound.{Bound}
use Rattle.vs_filter.specs.declared.bound.Picked.{Picked}
use Rattle.vs_filter.specs.Picks.{bound_in}
use Rattle.vs_base.specs.declared.Table.{Table}
use Rattle.vs_model.specs.Copy.{picked}
use Rattle.vs_model.specs.Core.{AreGiven}
use Rattle.vs_model.specs.Core.Piece.{Transaction}
use Rattle.vs_model.specs.Logs.{due, journal_of, own_journal, stop}
use Rattle.vs_render.specs.Events.{closing_said, head_of}
use Rattle.vs_render.specs.Frames.{fronts_said}
use Rattle.vs_render.specs.Bodies.{IsTooLarge, columns_in, entry_body, picked_work_in, rendered}
use Rattle.vs_render.specs.Posted.{IsEndAt, Shows}
use Rattle.vs_render.specs.declared.piece.Piece.{Piece}
use Rattle.vs_render.specs.declared.piece.Piece.TheVariants.{Tx, Foreign, Chunk, CopyDone, Idle, End}
use Rattle.vs_render.specs.declared.piece.EndCause.{EndCause}
use Rattle.vs_render.specs.declared.piece.EndCause.TheVariants.{AtEnd, OwnJournal, FeedFault, BadLog, Purged, Memory}
use Rattle.vs_render.specs.declared.room.Room.{Room}
use Rattle.vs_lane.specs.Feeding.{Comes, is_entry, tells_log, HasReadAll, IsLater, IsSound, Read, log_read, rules_read}
use Rattle.vs_lane.specs.Pieces.{EndIsLast, OnEnd, meant_in, spelled_in}
use Rattle.vs_lane.specs.Stands.{EndFits, EndHasBase, EndsBy, IsAtEnd, IsBadAt, Later, Seen, StreamsFrom, lacking, log_seen, position_after}
use Rattle.vs_lane.specs.Steps.{AreIn, ComesDue, HasBaseIn, IsLacking, Keeps, StepFor, course_behind, is_over, is_seeking, passed, read_on, seen_as}
use Rattle.vs_lane.specs.Answers.{EitherBy, EndsAtEntry, GivesPiece, HasNothingDue, IsEndBy, IsIdle, OfGiven, PieceComes, Says, SaysCame, SaysEnd, SaysInBase}
use Rattle.vs_lane.specs.declared.course.Course.{Course}
use Rattle.vs_lane.specs.declared.course.Course.TheVariants.{Seeks, GoesOn, Ended, EndedAtEntry}
use Rattle.vs_lane.specs.declared.entries.Came.{Came}
use Rattle.vs_lane.specs.declared.entries.Came.TheVariants as came
use Rattle.vs_lane.proofs.Places.{but_last-behind, entry_next, entry_same, given_next, given_none, given_own, leads_to, next_due, none_due, not_in, own_next, read_in}

-- ---- what a body spells is what its picked entry does

same_work : (tables : List Picked) (schema : List Table) (e : Entry) (w : Work) → e.work ≡ w → (picked (bound_in tables schema) e).work ≡ picked_work_in tables e.work
same_work tables schema e (Rows changes) is = rw is refl
same_work tables schema e (Ddl text) is = rw is refl
same_work tables schema e Other is = rw is refl
same_work tables schema e (Journal j) is = rw is refl

same_closing : (tables : List Picked) (w : Work) → closing_said (picked_work_in tables w) ≡ closing_said w
same_closing tables (Rows changes) = refl
same_closing tables (Ddl text) = refl
same_closing tables Other = refl
same_closing tables (Journal j) = refl

spelled_body : (bound : Bound) (schema : List Table) (s : ShardName) (e : Entry) → (spelled_in bound).entry s (picked (bound_in bound.tables schema) e) ≡ entry_body bound.tables s e
spelled_body bound schema s e =
    ap (λ w. rendered (head_of s e.time) (fronts_said (head_of s e.time) (columns_in bound.tables) w) (closing_said w)) (same_work bound.tables schema e e.work refl)
    ∙ ap (λ c. rendered (head_of s e.time) (fronts_said (head_of s e.time) (columns_in bound.tables) (picked_work_in bound.tables e.work)) c) (same_closing bound.tables e.work)

-- the journal stays, too
same_journal : (tables : List Picked) (schema : List Table) (e : Entry) (w : Work) → e.work ≡ w → journal_of (picked (bound_in tables schema) e).work ≡ journal_of e.work
same_journal tables schema e (Rows changes) is = rw is refl
same_journal tables schema e (Ddl text) is = rw is refl
same_journal tables schema e Other is = rw is refl
same_journal tables schema e (Journal j) is = rw is refl

-- ---- which pieces say what

is_idle : (p : Piece) → IsIdle p → (room : Room) × (p ≡ Idle room)
is_idle (Idle room) h = (room, refl)
is_idle (Tx g time body) h = absurd h
is_idle (Foreign g time j body) h = absurd h
is_idle (Chunk q l time body) h = absurd h
is_idle (CopyDone q time room) h = absurd h
is_idle (End cause room) h = absurd h

is_end_by : (cause : EndCause) (p : Piece) → IsEndBy cause p → (room : Room) × (p ≡ End cause room)
is_end_by cause (End said room) h = (room, ap (λ c. End c room) h)
is_end_by cause (Idle room) h = absurd h
is_end_by cause (Tx g time body) h = absurd h
is_end_by cause (Foreign g time j body) h = absurd h
is_end_by cause (Chunk q l time body) h = absurd h
is_end_by cause (CopyDone q time room) h = absurd h

says_end : (until_end : Bool) (p : Piece) → SaysEnd until_end p → ((until_end ≡ false) × IsIdle p) ⊎ ((until_end ≡ true) × IsEndBy AtEnd p)
says_end until_end (Idle room) h = inl (h, tt)
says_end until_end (End cause room) h = inr (h.0, h.1)
says_end until_end (Tx g time body) h = absurd h
says_end until_end (Foreign g time j body) h = absurd h
says_end until_end (Chunk q l time body) h = absurd h
says_end until_end (CopyDone q time room) h = absurd h

-- a piece of an entry
abbrev is_piece : Piece → Bool
is_piece (Tx g time body) = true
is_piece (Foreign g time j body) = true
is_piece (Chunk q l time body) = false
is_piece (CopyDone q time room) = false
is_piece (Idle room) = false
is_piece (End cause room) = false

on_end_of : (Q : EndCause → Type 0) (p : Piece) → is_piece p ≡ true → OnEnd Q (p ∷ [])
on_end_of Q (Tx g time body) h = tt
on_end_of Q (Foreign g time j body) h = tt
on_end_of Q (Chunk q l time body) h = absurd (true≢false (sym h))
on_end_of Q (CopyDone q time room) h = absurd (true≢false (sym h))
on_end_of Q (Idle room) h = absurd (true≢false (sym h))
on_end_of Q (End cause room) h = absurd (true≢false (sym h))

end_last_of : (p : Piece) → is_piece p ≡ true → EndIsLast false (p ∷ [])
end_last_of (Tx g time body) h = refl
end_last_of (Foreign g time j body) h = refl
end_last_of (Chunk q l time body) h = absurd (true≢false (sym h))
end_last_of (CopyDone q time room) h = absurd (true≢false (sym h))
end_last_of (Idle room) h = absurd (true≢false (sym h))
end_last_of (End cause room) h = absurd (true≢false (sym h))

-- no GTID is in the empty set
none_in : (g : Gtid) (p : Position) → p ≡ [] → has p g ≡ false
unfolding has
none_in g p is = rw is refl

same_some : {A : Type 0} (a b : A) → Some a ≡ Some b → a ≡ b
same_some a b e = cc

rose_some : (old new : ℕ) → Rose old new → new ≢ 0
rose_some old new rose none = let r : raised 1 old ≤ new = rose in absurd (omega (arith, r))

some_one : {A : Type 0} (xs ys zs : List A) (x : A) → zs ≡ (xs ++ x ∷ []) ++ ys → 1 ≤ length zs
some_one xs ys zs x e = omega (arith, ap (λ l. length l) e, length-append (xs ++ x ∷ []) ys, length-append xs (x ∷ []))

-- what a step owes in all
abbrev pub Owes : Seen → Seen → Piece → Type 0
Owes L M p = StepFor L M p × PieceComes L M p

module _ (name : ShardName) (bound : Bound) (start : Position) (until_end : Bool) (old new : Read) (key : new.keyspace ≡ name.keyspace) (later : IsLater old new) (sound : IsSound new)
    (skipped : List Entry) (are_in : AreIn start skipped) where
  abbrev L : Seen
  L = seen_as name bound start until_end old GoesOn

  abbrev M : Course → Seen
  M c = seen_as name bound start until_end new c

  abbrev R : Rules Tables
  R = rules_of name.keyspace new.schema

  -- where the lane stood
  abbrev P : Position
  P = position_after start (lacking start old.read)

  rules_are : rules_read new ≡ R
  rules_are = ap (λ k. rules_of k new.schema) key

  log_is : log_read new ≡ log_meant R new.bytes
  log_is = ap (λ r. log_meant r new.bytes) rules_are

  log_was : (all : List ℕ) → log_seen L all ≡ log_meant R all
  log_was all = ap (λ s. log_meant (rules_of name.keyspace s) all) (sym later.schema)

  is_later : (c : Course) → is_seeking c ≡ false → Later L (M c)
  is_later c seeks = record {
    same = record { shard = refl; schema = later.schema; bound = refl; until_end = refl; origin = later.origin; all = later.all; sound = later.sound; faults = later.faults; waits = later.waits };
    start = refl;
    seeks = seeks;
  }

  stays : (es : List Entry) → es ≡ old.read ++ skipped → Streaming (position_after start (lacking start es)) ≡ Streaming P
  stays es is = ap (λ x. Streaming (position_after start (lacking start x))) is ∙ ap Streaming (entry_same start old.read skipped are_in)

  distinct : (all : List ℕ) → HaveDistinctGtids (log_seen L all).entries
  distinct all = (new_gtids (rules_of name.keyspace old.schema) all).distinct

  -- ---- what is known of all bytes

  record OfAll (all : List ℕ) : Type 0 where
    rest : List ℕ
    are : all ≡ new.bytes ++ rest
    given : new.given ≡ Some new.bytes

  of_all : new.spent ≡ false → (all : List ℕ) → old.all ≡ Some all → OfAll all
  of_all unspent all told =
      let b = sound.bytes unspent all (later.all ∙ told) in
      record { rest = b.1.0; are = sym b.1.1; given = b.0 }

  entries_of_all : (all : List ℕ) → OfAll all → (front behind : List Entry) → (log_read new).entries ≡ front ++ behind → (more : List Entry) × ((log_meant R all).entries ≡ front ++ more)
  entries_of_all all on front behind is =
      let g = grows R new.bytes on.rest in (
        behind ++ g.entries.0,
        ap (λ b. (log_meant R b).entries) on.are ∙ g.entries.1 ∙ ap (λ l. l ++ g.entries.0) (sym (ap (λ l. l.entries) log_is) ∙ is) ∙ append_assoc front behind g.entries.0,
      )

  stands_in_all : (all : List ℕ) → OfAll all → (g : Gtid) (at : ℕ) → StandsAt (rules_read new) new.bytes g at → StandsAt R all g at
  stands_in_all all on g at h =
      subst (λ b. StandsAt R b g at) (sym on.are) ((grows R new.bytes on.rest).begins g at (subst (λ r. StandsAt r new.bytes g at) rules_are h))

  fault_of_all : (all : List ℕ) → OfAll all → (offset : ℕ) (why : Why) → (log_read new).fault ≡ Some (offset, why) → log_meant R all ≡ log_read new
  fault_of_all all on offset why h =
      ap (log_meant R) on.are ∙ (grows R new.bytes on.rest).faulty (offset, why) (sym (ap (λ l. l.fault) log_is) ∙ h) ∙ sym log_is

  base_of_all : (all : List ℕ) → OfAll all → 1 ≤ length (log_read new).entries → IsSubset (log_read new).base start → IsSubset (log_meant R all).base start
  base_of_all all on some within =
      let k = knows_its_base R new.bytes in
      let known : knows_base R new.bytes ≡ true = k.entries (subst (λ n. 1 ≤ n) (ap (λ l. length l.entries) log_is) some) in
      let same : (log_meant R all).base ≡ (log_read new).base = ap (λ b. (log_meant R b).base) on.are ∙ (k.stays on.rest known).1 ∙ sym (ap (λ l. l.base) log_is) in
      subst (λ b. IsSubset b start) (sym same) within

  missing_of_all : (all : List ℕ) → OfAll all → (g : Gtid) → IsFirstMissing (log_read new).base start g → IsFirstMissing (log_meant R all).base start g
  missing_of_all all on g missing =
      let k = knows_its_base R new.bytes in
      by_known all on g missing k (knows_base R new.bytes) refl
    where
      by_known : (all : List ℕ) (on : OfAll all) (g : Gtid) → IsFirstMissing (log_read new).base start g → KnowsItsBase R new.bytes → (b : Bool) → knows_base R new.bytes ≡ b → IsFirstMissing (log_meant R all).base start g
      by_known all on g missing k true known =
          let same : (log_meant R all).base ≡ (log_read new).base = ap (λ b. (log_meant R b).base) on.are ∙ (k.stays on.rest known).1 ∙ sym (ap (λ l. l.base) log_is) in
          subst (λ b. IsFirstMissing b start g) (sym same) missing
      by_known all on g missing k false known =
          absurd (true≢false (sym missing.is_in ∙ none_in g (log_read new).base (ap (λ l. l.base) log_is ∙ k.unknown known)))

  -- ---- a piece that tells nothing

  idle_step : (room : Room) → new.read ≡ old.read ++ skipped → StepFor L (M GoesOn) (Idle room)
  idle_step room read = record {
    later = is_later GoesOn refl;
    unended = refl;
    told = [];
    last = None;
    shows = (refl, refl);
    along = stays new.read read;
    stands_on = λ all is. record {
      distinct = distinct all;
      given_there = given_none (meant_in bound old.schema) name (log_seen L all) P;
      base = λ some. absurd (some refl);
      ends = tt;
      end_base = tt;
    };
    end_last = refl;
    fits = tt;
  }

  -- what an end says of all bytes
  abbrev EndOn : Course → EndCause → Option JournalValue → List ℕ → Type 0
  EndOn c cause last all = AreGiven (meant_in bound old.schema) name (log_seen L all) [] last (Streaming P) × EndsBy (M c) all cause × EndHasBase (M c) all cause

  end_step : (c : Course) (cause : EndCause) (room : Room) (last : Option JournalValue) → is_seeking c ≡ false → is_over c ≡ true → passed c new.read ≡ old.read ++ skipped → IsEndAt cause last →
      ((all : List ℕ) → old.all ≡ Some all → EndOn c cause last all) → EndFits (M c) cause → StepFor L (M c) (End cause room)
  end_step c cause room last seeks over read ends on fits = record {
    later = is_later c seeks;
    unended = refl;
    told = [];
    last = last;
    shows = (refl, refl, ends);
    along = stays (passed c new.read) read;
    stands_on = λ all is. let o = on all is in record {
      distinct = distinct all;
      given_there = o.0;
      base = λ some. absurd (some refl);
      ends = o.1;
      end_base = o.2;
    };
    end_last = (over, refl);
    fits = fits;
  }

  none_given : (all : List ℕ) → AreGiven (meant_in bound old.schema) name (log_seen L all) [] None (Streaming P)
  none_given all = given_none (meant_in bound old.schema) name (log_seen L all) P

  -- where nothing came of it
  failed : new.read ≡ old.read ++ skipped → (room : Room) → Rose old.faults new.faults → Owes L (M Ended) (End FeedFault room)
  failed read room rose = (end_step Ended FeedFault room None refl refl read refl (λ all is. (none_given all, tt, tt)) (rose_some old.faults new.faults rose), rose)

  spent : (c : Course) → is_seeking c ≡ false → is_over c ≡ true → passed c new.read ≡ old.read ++ skipped → (room : Room) → Owes L (M c) (End Memory room)
  spent c seeks over read room = (end_step c Memory room None seeks over read refl (λ all is. (none_given all, tt, tt)) tt, tt)

  purged : (c : Course) → is_seeking c ≡ false → is_over c ≡ true → passed c new.read ≡ old.read ++ skipped → new.spent ≡ false → (g : Gtid) → IsFirstMissing (log_read new).base start g →
      (room : Room) → Owes L (M c) (End (Purged g) room)
  purged c seeks over read unspent g missing room =
      (end_step c (Purged g) room None seeks over read refl (λ all is. (none_given all, missing_of_all all (of_all unspent all is) g missing, tt)) tt, tt)

  -- ---- where all that came was read

  module _ (read : new.read ≡ old.read ++ skipped) (whole : new.read ≡ (log_read new).entries) (unspent : new.spent ≡ false) (within : IsSubset (log_read new).base start) where
    -- nothing is due of a log with these entries
    at_end : (log : Log) → log.entries ≡ new.read → IsAtEnd name log (position_after start (lacking start new.read))
    at_end log is = none_due name log (position_after start (lacking start new.read)) (subst (AreIn (position_after start (lacking start new.read))) (sym is) (read_in start new.read))

    nothing : (log_read new).fault ≡ None → OfGiven (M GoesOn) (HasNothingDue (M GoesOn))
    nothing faultless all is bytes given =
        let on = of_all unspent all (sym later.all ∙ is) in
        let same : bytes ≡ new.bytes = same_some bytes new.bytes (sym given ∙ on.given) in
        subst (HasNothingDue (M GoesOn)) (sym same) (record {
          base = subst (λ (l : Log). IsSubset l.base start) log_is within;
          none = at_end (log_meant R new.bytes) (sym (ap (λ l. l.entries) log_is) ∙ sym whole);
          faultless = sym (ap (λ l. l.fault) log_is) ∙ faultless;
        })

    idle : (log_read new).fault ≡ None → (room : Room) → Rose old.waits new.waits ⊎ ((until_end ≡ false) × ForSome new.all (λ all. new.given ≡ Some all)) → Owes L (M GoesOn) (Idle room)
    idle faultless room waited = (idle_step room read, record { waited = waited; nothing = nothing faultless })

    log_whole : (all : List ℕ) → old.all ≡ Some all → new.given ≡ Some all → log_meant R all ≡ log_read new
    log_whole all is given =
        let on = of_all unspent all is in
        let same : all ≡ new.bytes = same_some all new.bytes (sym given ∙ on.given) in
        ap (log_meant R) same ∙ sym log_is

    ended : (log_read new).fault ≡ None → (room : Room) → until_end ≡ true → ForSome new.all (λ all. new.given ≡ Some all) → Owes L (M Ended) (End AtEnd room)
    ended faultless room until given = (
      end_step Ended AtEnd room None refl refl read refl
          (λ all is.
          let same = log_whole all is (given all (later.all ∙ is)) in
          (none_given all, (at_end (log_meant R all) (ap (λ l. l.entries) same ∙ sym whole), ap (λ l. l.fault) same ∙ faultless), subst (λ (l : Log). IsSubset l.base start) (sym same) within))
          (until, given),
      tt,
    )

    bad : (offset : ℕ) (why : Why) → (log_read new).fault ≡ Some (offset, why) → (room : Room) → Owes L (M Ended) (End (BadLog offset why) room)
    bad offset why fault room = (
      end_step Ended (BadLog offset why) room None refl refl read refl
          (λ all is.
          let same = fault_of_all all (of_all unspent all is) offset why fault in
          (none_given all, inl (at_end (log_meant R all) (ap (λ l. l.entries) same ∙ sym whole), ap (λ l. l.fault) same ∙ fault), subst (λ (l : Log). IsSubset l.base start) (sym same) within))
          tt,
      tt,
    )

  -- ---- where an entry came that the start lacks

  module _ (e : Entry) (at : ℕ) (read : new.read ≡ (old.read ++ skipped) ++ e ∷ []) (lacks : has start e.gtid ≡ false) (unspent : new.spent ≡ false) (stands : StandsAt (rules_read new) new.bytes e.gtid at)
      (within : IsSubset (log_read new).base start) where
    -- the entries of the log, the next one behind those that were read
    entries : (all : List ℕ) → OfAll all → (more : List Entry) × ((log_meant R all).entries ≡ (old.read ++ skipped) ++ e ∷ more)
    entries all on =
        let s = sound.read in
        let a = entries_of_all all on ((old.read ++ skipped) ++ e ∷ []) s.0 (s.1 ∙ ap (λ l. l ++ s.0) read) in
        (a.0, a.1 ∙ append_assoc (old.read ++ skipped) (e ∷ []) a.0)

    some : 1 ≤ length (log_read new).entries
    some = some_one (old.read ++ skipped) sound.read.0 (log_read new).entries e (sound.read.1 ∙ ap (λ l. l ++ sound.read.0) read)

    in_front : AreIn P (old.read ++ skipped)
    in_front = subst (λ q. AreIn q (old.read ++ skipped)) (entry_same start old.read skipped are_in) (read_in start (old.read ++ skipped))

    not_there : (all : List ℕ) → (more : List Entry) → (log_meant R all).entries ≡ (old.read ++ skipped) ++ e ∷ more → has P e.gtid ≡ false
    not_there all more is =
        subst (λ q. has q e.gtid ≡ false) (entry_same start old.read skipped are_in)
        (not_in start (old.read ++ skipped) more e (subst HaveDistinctGtids is ((new_gtids R all).distinct)) lacks)

    before : passed EndedAtEntry new.read ≡ old.read ++ skipped
    before = ap (passed EndedAtEntry) read ∙ but_last-behind (old.read ++ skipped) e

    to_next : Streaming (position_after start (lacking start new.read)) ≡ Streaming (added P e.gtid)
    to_next = ap (λ es. Streaming (position_after start (lacking start es))) read ∙ ap Streaming (entry_next start old.read skipped e are_in lacks)

    abbrev W : Entry
    W = picked (meant_in bound old.schema) e

    base_in : (all : List ℕ) → OfAll all → IsSubset (log_seen L all).base start
    base_in all on = subst (λ (l : Log). IsSubset l.base start) (sym (log_was all)) (base_of_all all on some within)

    given_tx : own_journal name e ≡ None → (all : List ℕ) → OfAll all → AreGiven (meant_in bound old.schema) name (log_seen L all) (Transaction W ∷ []) None (Streaming P)
    given_tx none all on =
        let es = entries all on in
        let lacks_it = not_there all es.0 es.1 in
        subst (λ l. AreGiven (meant_in bound old.schema) name l (Transaction W ∷ []) None (Streaming P)) (sym (log_was all))
        (given_next name (log_meant R all) P (old.read ++ skipped) es.0 e es.1 in_front lacks_it (meant_in bound old.schema) none)

    -- the piece of its transaction
    tx_step : (p : Piece) → own_journal name e ≡ None → Shows (spelled_in bound) name (p ∷ []) (Transaction W ∷ []) None → is_piece p ≡ true → StepFor L (M GoesOn) p
    tx_step p none shows piece = record {
      later = is_later GoesOn refl;
      unended = refl;
      told = Transaction W ∷ [];
      last = None;
      shows = shows;
      along = (Streaming (added P e.gtid), leads_to (meant_in bound old.schema) P e, tt, to_next);
      stands_on = λ all is. let on = of_all unspent all is in record {
        distinct = distinct all;
        given_there = given_tx none all on;
        base = λ some. base_in all on;
        ends = on_end_of (EndsBy (M GoesOn) all) p piece;
        end_base = on_end_of (EndHasBase (M GoesOn) all) p piece;
      };
      end_last = end_last_of p piece;
      fits = on_end_of (EndFits (M GoesOn)) p piece;
    }

    own_step : (j : JournalValue) (room : Room) → own_journal name e ≡ Some j → Owes L (M EndedAtEntry) (End (OwnJournal j) room)
    own_step j room own = (
      end_step EndedAtEntry (OwnJournal j) room (Some j) refl refl before refl
          (λ all is.
          let on = of_all unspent all is in
          let es = entries all on in
          let ahead = own_next name (log_meant R all) P (old.read ++ skipped) es.0 e es.1 in_front (not_there all es.0 es.1) j own in (
            subst (λ l. AreGiven (meant_in bound old.schema) name l [] (Some j) (Streaming P)) (sym (log_was all)) (given_own (meant_in bound old.schema) name (log_meant R all) P j ahead.0 ahead.1),
            subst (λ (q : Place). StreamsFrom q (λ p. (due name (log_meant R all) p ≡ []) × (stop name (log_meant R all) p ≡ Some j))) (sym (stays (passed EndedAtEntry new.read) before)) ahead,
            base_of_all all on some within,
          ))
          tt,
      tt,
    )

    large_step : (size : ℕ) (room : Room) → own_journal name e ≡ None → IsTooLarge (entry_body bound.tables name e) size → Owes L (M EndedAtEntry) (End (BadLog at (TooLarge size)) room)
    large_step size room none large = (
      end_step EndedAtEntry (BadLog at (TooLarge size)) room None refl refl before refl
          (λ all is.
          let on = of_all unspent all is in
          let es = entries all on in
          let next = next_due name (log_meant R all) P (old.read ++ skipped) es.0 e es.1 in_front (not_there all es.0 es.1) none in (
            none_given all,
            subst (λ (q : Place). StreamsFrom q (λ p. IsBadAt (M EndedAtEntry) all at (TooLarge size) p)) (sym (stays (passed EndedAtEntry new.read) before))
                (inr (size, refl, record { e = e; rest = _; next = next; stands = stands_in_all all on e.gtid at stands; large = large })),
            base_of_all all on some within,
          ))
          tt,
      tt,
    )

    end_owed : (cause : EndCause) (room : Room) → EndsAtEntry name bound e at cause → Owes L (M EndedAtEntry) (End cause room)
    end_owed (OwnJournal j) room h = own_step j room h
    end_owed (BadLog offset why) room h =
        subst (λ o. Owes L (M EndedAtEntry) (End (BadLog o why) room)) (sym h.1)
        (subst (λ w. Owes L (M EndedAtEntry) (End (BadLog at w) room)) (sym h.3) (large_step h.2 room h.0 h.4))
    end_owed Memory room h = spent EndedAtEntry refl refl before room
    end_owed AtEnd room h = absurd h
    end_owed FeedFault room h = absurd h
    end_owed (Purged g) room h = absurd h

    entry_owed : (p : Piece) → GivesPiece name bound e at p → Owes L (M (course_behind true p)) p
    entry_owed (Tx g time body) h = (
      tx_step (Tx g time body) h.3
          (W, [], refl, h.0, h.1, (λ j is. h.4 j (sym (same_journal bound.tables old.schema.tables e e.work refl) ∙ is)), spelled_body bound old.schema.tables name e ∙ sym h.2, (refl, refl))
          refl,
      tt,
    )
    entry_owed (Foreign g time j body) h = (
      tx_step (Foreign g time j body) h.3
          (W, [], refl, h.0, h.1, same_journal bound.tables old.schema.tables e e.work refl ∙ h.4, spelled_body bound old.schema.tables name e ∙ sym h.2, (refl, refl))
          refl,
      h.5,
    )
    entry_owed (End cause room) h = end_owed cause room h
    entry_owed (Idle room) h = absurd h
    entry_owed (Chunk q l time body) h = absurd h
    entry_owed (CopyDone q time room) h = absurd h

  -- ---- whatever came

  module _ (was : old.spent ≡ false) where
    ended_by : (p : Piece) (cause : EndCause) → IsEndBy cause p → ((room : Room) → Owes L (M Ended) (End cause room)) → Owes L (M (course_behind false p)) p
    ended_by p cause says owes = let i = is_end_by cause p says in subst (λ x. Owes L (M (course_behind false x)) x) (sym i.1) (owes i.0)

    idle_by : (p : Piece) → IsIdle p → ((room : Room) → Owes L (M GoesOn) (Idle room)) → Owes L (M (course_behind false p)) p
    idle_by p says owes = let i = is_idle p says in subst (λ x. Owes L (M (course_behind false x)) x) (sym i.1) (owes i.0)

    not_yet : (p : Piece) → HasReadAll (read_on old skipped) new → Rose old.waits new.waits → SaysInBase name bound start until_end new came.NotYet p → Owes L (M (course_behind false p)) p
    not_yet p all rose (◌⊎◌.inl says) = idle_by p says.1 (λ room. idle all.read all.all (all.unspent ∙ was) says.0 all.faultless room (inl rose))
    not_yet p all rose (◌⊎◌.inr says) = ended_by p (Purged says.0) says.1 (λ room. purged Ended refl refl all.read (all.unspent ∙ was) says.0 says.2 room)

    at_feed_end : (p : Piece) → HasReadAll (read_on old skipped) new → ForSome new.all (λ all. new.given ≡ Some all) → IsSubset (log_read new).base start → ((until_end ≡ false) × IsIdle p) ⊎ ((until_end ≡ true) × IsEndBy AtEnd p) →
        Owes L (M (course_behind false p)) p
    at_feed_end p all given within (◌⊎◌.inl says) = idle_by p says.1 (λ room. idle all.read all.all (all.unspent ∙ was) within all.faultless room (inr (says.0, given)))
    at_feed_end p all given within (◌⊎◌.inr says) = ended_by p AtEnd says.1 (λ room. ended all.read all.all (all.unspent ∙ was) within all.faultless room says.0 given)

    feed_end : (p : Piece) → HasReadAll (read_on old skipped) new → ForSome new.all (λ all. new.given ≡ Some all) → SaysInBase name bound start until_end new came.End p → Owes L (M (course_behind false p)) p
    feed_end p all given (◌⊎◌.inl says) = at_feed_end p all given says.0 (says_end until_end p says.1)
    feed_end p all given (◌⊎◌.inr says) = ended_by p (Purged says.0) says.1 (λ room. purged Ended refl refl all.read (all.unspent ∙ was) says.0 says.2 room)

    bad_log : (p : Piece) (offset : ℕ) (why : Why) → Comes (read_on old skipped) (came.BadLog offset why) new → SaysInBase name bound start until_end new (came.BadLog offset why) p → Owes L (M (course_behind false p)) p
    bad_log p offset why h (◌⊎◌.inl says) = ended_by p (BadLog offset why) says.1 (λ room. bad h.0 h.1 (h.3 ∙ was) says.0 offset why h.2 room)
    bad_log p offset why h (◌⊎◌.inr says) = ended_by p (Purged says.0) says.1 (λ room. purged Ended refl refl h.0 (h.3 ∙ was) says.0 says.2 room)

    an_entry : (p : Piece) (e : Entry) (at : ℕ) → Comes (read_on old skipped) (came.Entry e at) new → has start e.gtid ≡ false → SaysInBase name bound start until_end new (came.Entry e at) p → Owes L (M (course_behind true p)) p
    an_entry p e at h lacks (◌⊎◌.inl says) = entry_owed e at h.0 lacks (h.2 ∙ was) h.1 says.0 p says.1
    an_entry p e at h lacks (◌⊎◌.inr says) =
        let i = is_end_by (Purged says.0) p says.1 in
        let at_front : passed EndedAtEntry new.read ≡ old.read ++ skipped = ap (passed EndedAtEntry) h.0 ∙ but_last-behind (old.read ++ skipped) e in
        subst (λ x. Owes L (M (course_behind true x)) x) (sym i.1) (purged EndedAtEntry refl refl at_front (h.2 ∙ was) says.0 says.2 i.0)

    owed : (said : Came) (p : Piece) → Comes (read_on old skipped) said new → IsLacking start said → Says name bound start until_end new said p → Owes L (M (course_behind (is_entry said) p)) p
    owed (came.Entry e at) p h lacks says = an_entry p e at h lacks says
    owed came.NotYet p h lacks says = not_yet p h.0 h.1 says
    owed came.End p h lacks says = feed_end p h.0 h.1 says
    owed came.FeedFault p h lacks says = ended_by p FeedFault says (λ room. failed h.1 room h.0)
    owed (came.BadLog offset why) p h lacks says = bad_log p offset why h says
    owed came.Memory p h lacks says = ended_by p Memory says (λ room. spent Ended refl refl h room)

-- ---- the lane that a step leaves

unspent_on : (said : Came) (old new : Read) (skipped : List Entry) (p : Piece) → Comes (read_on old skipped) said new → old.spent ≡ false → is_over (course_behind (is_entry said) p) ≡ false →
    (name : ShardName) (bound : Bound) (start : Position) (until_end : Bool) → Says name bound start until_end new said p → new.spent ≡ false
unspent_on (came.Entry e at) old new skipped p h was over name bound start until_end says = h.2 ∙ was
unspent_on came.NotYet old new skipped p h was over name bound start until_end says = h.0.unspent ∙ was
unspent_on came.End old new skipped p h was over name bound start until_end says = h.0.unspent ∙ was
unspent_on came.FeedFault old new skipped p h was over name bound start until_end says = h.2 ∙ was
unspent_on (came.BadLog offset why) old new skipped p h was over name bound start until_end says = h.3 ∙ was
unspent_on came.Memory old new skipped p h was over name bound start until_end says =
    let i = is_end_by Memory p says in
    absurd (true≢false (subst (λ x. is_over (course_behind false x) ≡ false) i.1 over))

no_seeking : (b : Bool) (p : Piece) → is_seeking (course_behind b p) ≡ false
no_seeking true (End cause room) = refl
no_seeking false (End cause room) = refl
no_seeking b (Tx g time body) = refl
no_seeking b (Foreign g time j body) = refl
no_seeking b (Chunk q l time body) = refl
no_seeking b (CopyDone q time room) = refl
no_seeking b (Idle room) = refl

goes_on : (c : Course) → is_over c ≡ false → is_seeking c ≡ false → c ≡ GoesOn
goes_on Seeks over seeks = absurd (true≢false seeks)
goes_on GoesOn over seeks = refl
goes_on Ended over seeks = absurd (true≢false over)
goes_on EndedAtEntry over seeks = absurd (true≢false over)

base_on : (r new : Read) (start : Position) → IsLater r new → HasBaseIn r start → HasBaseIn new start
base_on r new start later h =
    let same : rules_read new ≡ rules_read r = ap (λ k. rules_of k new.schema) later.keyspace ∙ ap (λ s. rules_of r.keyspace s) later.schema in
    let k = (knows_its_base (rules_read r) r.bytes).stays later.bytes.0 h.0 in
    let bytes = later.bytes.1 in (
      ap (λ x. knows_base x new.bytes) same ∙ ap (knows_base (rules_read r)) bytes ∙ k.0,
      subst (λ b. IsSubset b start) (sym (ap (λ x. (log_meant x new.bytes).base) same ∙ ap (λ b. (log_meant (rules_read r) b).base) bytes ∙ k.1)) h.1,
    )

-- before the answer the base is known as it was
pub checked_on : (name : ShardName) (start : Position) (old new : Read) (checked : Bool) (c : Course) → Keeps name start old checked c → IsLater old new → checked ≡ true → HasBaseIn new start
checked_on name start old new checked c keeps later h = base_on old new start later (keeps.base h)

-- the lane of a course that goes on, as it is seen
pub seen_on : (name : ShardName) (bound : Bound) (start : Position) (until_end : Bool) (r : Read) (c : Course) → is_over c ≡ false → is_seeking c ≡ false →
    seen_as name bound start until_end r c ≡ seen_as name bound start until_end r GoesOn
seen_on name bound start until_end r c over seeks = ap (seen_as name bound start until_end r) (goes_on c over seeks)

module _ (name : ShardName) (bound : Bound) (start : Position) (until_end : Bool) (old new : Read) (checked now : Bool) (c after : Course) (said : Came) (p : Piece) (at_entry : Bool)
    (keeps : Keeps name start old checked c) (over : is_over c ≡ false) (seeks : is_seeking c ≡ false) (later : IsLater old new) (due : ComesDue start old said new) (sound : IsSound new)
    (says : Says name bound start until_end new said p) (base : now ≡ true → HasBaseIn new start) (entry : at_entry ≡ is_entry said) (is : after ≡ course_behind at_entry p) where
  was : old.spent ≡ false
  was = keeps.unspent over

  key : new.keyspace ≡ name.keyspace
  key = later.keyspace ∙ keeps.keyspace

  course_is : after ≡ course_behind (is_entry said) p
  course_is = is ∙ ap (λ b. course_behind b p) entry

  pub keeps_on : Keeps name start new now after
  keeps_on = subst (Keeps name start new now) (sym course_is) (record {
    keyspace = key;
    sound = sound;
    unspent = λ h. unspent_on said old new due.skipped p due.comes was h name bound start until_end says;
    unread = λ h. absurd (true≢false (sym h ∙ no_seeking (is_entry said) p));
    base = base;
  })

  pub owes_on : (L : Seen) → seen_as name bound start until_end old c ≡ L → Owes L (seen_as name bound start until_end new after) p
  owes_on L view =
      subst (λ x. Owes x (seen_as name bound start until_end new after) p) (sym (seen_on name bound start until_end old c over seeks) ∙ view)
      (subst (λ a. Owes (seen_as name bound start until_end old GoesOn) (seen_as name bound start until_end new a) p) (sym course_is)
      (owed name bound start until_end old new key later sound due.skipped due.are_in was said p due.comes due.lacks says))

-- ---- the piece that is said

pub says_in : (name : ShardName) (bound : Bound) (start : Position) (until_end : Bool) (r : Read) (said : Came) (p : Piece) → tells_log said ≡ true → SaysInBase name bound start until_end r said p → Says name bound start until_end r said p
says_in name bound start until_end r said p h says = subst (λ b. EitherBy b (SaysInBase name bound start until_end r said p) (SaysCame name bound until_end said p)) (sym h) says

pub says_out : (name : ShardName) (bound : Bound) (start : Position) (until_end : Bool) (r : Read) (said : Came) (p : Piece) → tells_log said ≡ false → SaysCame name bound until_end said p → Says name bound start until_end r said p
says_out name bound start until_end r said p h says = subst (λ b. EitherBy b (SaysInBase name bound start until_end r said p) (SaysCame name bound until_end said p)) (sym h) says
