-- What a lane begins with, and what it finds where it seeks its start.
use Rattle.std.proofs.Common.{inl, inr, ◌≡◌, ◌||◌, ℕ, Bool, true, false, List, [], ◌++◌, length, take, Some, None, refl, sym, ap, ◌∙◌, subst, arith, true≢false}
use Rattle.std.specs.Prelude.{◌⊎◌}
use Rattle.std.specs.Option.{ForSome}
use Rattle.std.proofs.lemmas.List.{take_all}
use Rattle.std.proofs.Math.Seq.{take-append_seam}
use Rattle.vs_base.specs.declared.ShardName.{ShardName}
use Rattle.vs_gtid.specs.declared.Entry.{Entry}
use Rattle.vs_gtid.specs.Logs.{Log}
use Rattle.vs_gtid.specs.Positions.{Position, has}
use Rattle.vs_gtid.specs.Vectors.Place.{Streaming}
use Rattle.vs_rows.specs.Tables.{Tables}
use Rattle.vs_log.specs.Meaning.{knows_base, log_meant}
use Rattle.vs_log.specs.Table.{Rules}
use Rattle.vs_log.proofs.Bases.{knows_its_base}
use Rattle.vs_log.proofs.Faults.{grows}
use Rattle.vs_entries.specs.Rules.{rules_of}
use Rattle.vs_filter.specs.declared.bound.Bound.{Bound}
use Rattle.vs_outside.specs.Counts.{Rose}
use Rattle.vs_model.specs.Logs.{IsPositionAfter, is_gtid_of}
use Rattle.vs_render.specs.declared.piece.EndCause.{EndCause}
use Rattle.vs_render.specs.declared.piece.EndCause.TheVariants.{AtEnd, OwnJournal, FeedFault, BadLog, Purged, Memory}
use Rattle.vs_request.specs.declared.request.StartAt.{StartAt}
use Rattle.vs_request.specs.declared.request.StartAt.TheVariants as start
use Rattle.vs_lane.specs.Feeding.{IsLater, IsSound, Read, log_read, rules_read}
use Rattle.vs_lane.specs.Pieces.{meant_in}
use Rattle.vs_lane.specs.Stands.{Seen, Stands, lacking, log_seen, position_after}
use Rattle.vs_lane.specs.Steps.{Keeps, is_over, is_seeking, passed, seen_as}
use Rattle.vs_lane.specs.Answers.{HasGivenAll}
use Rattle.vs_lane.specs.Ends.{BeginsAt, FailsSearch, FindsEnd, FindsStart, HasNoStart, KnowsBase, StartsAt}
use Rattle.vs_lane.specs.declared.course.Course.{Course}
use Rattle.vs_lane.specs.declared.course.Course.TheVariants.{Seeks, GoesOn, Ended, EndedAtEntry}
use Rattle.vs_lane.proofs.Places.{given_none, has-after, none_lacks}

-- ---- at the start

pub begins_on : (from : StartAt) (p : Position) (c : Course) → BeginsAt from p c → is_over c ≡ false
begins_on start.Fresh p c h = absurd h
begins_on start.Current p c h = ap is_over h.1
begins_on (start.At q) p c h = ap is_over h.1

pub starts_at : (from : StartAt) (p : Position) (c : Course) (name : ShardName) (bound : Bound) (until_end : Bool) (r : Read) → BeginsAt from p c → StartsAt from (seen_as name bound p until_end r c)
starts_at start.Fresh p c name bound until_end r h = absurd h
starts_at start.Current p c name bound until_end r h = ap is_seeking h.1
starts_at (start.At q) p c name bound until_end r h = (ap is_seeking h.1, ap Streaming h.0)

pub keeps_first : (name : ShardName) (p : Position) (r : Read) (c : Course) → r.keyspace ≡ name.keyspace → IsSound r → r.spent ≡ false → r.read ≡ [] → Keeps name p r false c
keeps_first name p r c key sound unspent read = record { keyspace = key; sound = sound; unspent = λ h. unspent; unread = λ h. (read, refl); base = λ h. absurd (true≢false (sym h)) }

-- what stands at its start stands with no pieces
stands_first : (L : Seen) (p : Position) → L.start ≡ Streaming p → L.entry ≡ L.start → L.ended ≡ false → Stands L []
stands_first L p at entry on = record {
  told = [];
  last = None;
  shows = (refl, refl);
  along = entry;
  stands_on = λ all is. record {
    given_there = rw at (given_none (meant_in L.bound L.schema) L.shard (log_seen L all) p);
    base = λ some. absurd (some refl);
    ends = tt;
    end_base = tt;
  };
  end_last = on;
  fits = tt;
}

passed_none : (c : Course) (es : List Entry) → es ≡ [] → passed c es ≡ []
passed_none Seeks es is = is
passed_none GoesOn es is = is
passed_none Ended es is = is
passed_none EndedAtEntry es is = rw is refl

pub begins_standing : (name : ShardName) (bound : Bound) (p : Position) (until_end : Bool) (r : Read) (c : Course) → r.read ≡ [] → is_over c ≡ false → Stands (seen_as name bound p until_end r c) []
begins_standing name bound p until_end r c read on =
    stands_first (seen_as name bound p until_end r c) p refl (ap (λ es. Streaming (position_after p (lacking p es))) (passed_none c r.read read)) on

-- ---- what the search says

module _ (name : ShardName) (bound : Bound) (p : Position) (until_end : Bool) (old new : Read) (checked : Bool) (c : Course) (keeps : Keeps name p old checked c) (over : is_over c ≡ false)
    (later : IsLater old new) (sound : IsSound new) where
  abbrev R : Rules Tables
  R = rules_of name.keyspace new.schema

  rules_are : rules_read new ≡ R
  rules_are = ap (λ k. rules_of k new.schema) (later.keyspace ∙ keeps.keyspace)

  log_is : log_read new ≡ log_meant R new.bytes
  log_is = ap (λ r. log_meant r new.bytes) rules_are

  same_some : (a b : List ℕ) → Some a ≡ Some b → a ≡ b
  same_some a b e = cc

  -- of what was given
  of_given : (P : List ℕ → Type 0) → new.spent ≡ false → P new.bytes → ForSome new.all (λ all. ForSome new.given (λ bytes. P bytes))
  of_given P unspent h all is bytes given =
      let b = sound.bytes unspent all is in
      subst P (same_some new.bytes bytes (sym b.0 ∙ given)) h

  waited_so : (L : Seen) (q : Position) → L.waits ≡ old.waits → new.spent ≡ false → (Rose old.waits new.waits × (knows_base (rules_read new) new.bytes ≡ true)) ⊎ ForSome new.all (λ all. new.given ≡ Some all) →
      (Rose L.waits new.waits × KnowsBase (seen_as name bound q until_end new GoesOn)) ⊎ HasGivenAll (seen_as name bound q until_end new GoesOn)
  waited_so L q same unspent (◌⊎◌.inl h) = inl (subst (λ n. Rose n new.waits) (sym same) h.0, of_given (λ bytes. knows_base R bytes ≡ true) unspent (ap (λ r. knows_base r new.bytes) (sym rules_are) ∙ h.1))
  waited_so L q same unspent (◌⊎◌.inr h) = inr h

  -- the log of all bytes begins with what came
  begins_so : (p : Position) (log : Log) (n : ℕ) → p ≡ position_after (log_read new).base (log_read new).entries → log.base ≡ (log_read new).base → take n log.entries ≡ (log_read new).entries →
      IsPositionAfter log.base (take n log.entries) p
  begins_so p log n is base entries g =
      ap (λ q. has q g) is ∙ has-after (log_read new).base (log_read new).entries g ∙ ap (λ b. has b g || is_gtid_of (log_read new).entries g) (sym base)
      ∙ ap (λ es. has log.base g || is_gtid_of es g) (sym entries)

  first_entries : (q : Position) → new.spent ≡ false → q ≡ position_after (log_read new).base (log_read new).entries → (Rose old.waits new.waits × (knows_base (rules_read new) new.bytes ≡ true)) ⊎ ForSome new.all (λ all. new.given ≡ Some all) →
      (all : List ℕ) → new.all ≡ Some all → (m : ℕ) × IsPositionAfter (log_meant R all).base (take m (log_meant R all).entries) q
  first_entries q unspent is (◌⊎◌.inl h) all told =
      let b = sound.bytes unspent all told in
      let known : knows_base R new.bytes ≡ true = ap (λ r. knows_base r new.bytes) (sym rules_are) ∙ h.1 in
      let k = (knows_its_base R new.bytes).stays b.1.0 known in
      let g = (grows R new.bytes b.1.0).entries in
      let es = (log_read new).entries in
      let base : (log_meant R all).base ≡ (log_read new).base = ap (λ x. (log_meant R x).base) (sym b.1.1) ∙ k.1 ∙ sym (ap (λ (l : Log). l.base) log_is) in
      let entries : (log_meant R all).entries ≡ es ++ g.0 = ap (λ x. (log_meant R x).entries) (sym b.1.1) ∙ g.1 ∙ ap (λ (l : Log). l.entries ++ g.0) (sym log_is) in
      (length es, begins_so q (log_meant R all) (length es) is base (ap (λ x. take (length es) x) entries ∙ take-append_seam es g.0))
  first_entries q unspent is (◌⊎◌.inr whole) all told =
      let b = sound.bytes unspent all told in
      let same : log_meant R all ≡ log_read new = ap (log_meant R) (same_some all new.bytes (sym (whole all told) ∙ b.0)) ∙ sym log_is in
      let es = (log_read new).entries in
      (length es, begins_so q (log_meant R all) (length es) is (ap (λ (l : Log). l.base) same) (ap (λ (l : Log). take (length es) l.entries) same ∙ take_all (length es) es (omega arith)))

  pub finds_start : (q said : Position) → FindsEnd old new q → said ≡ q → (L : Seen) → seen_as name bound p until_end old c ≡ L → FindsStart L (seen_as name bound q until_end new GoesOn) said
  finds_start q said found same L view =
      let unspent : new.spent ≡ false = found.unspent ∙ keeps.unspent over in
      let none : lacking q new.read ≡ [] = none_lacks (log_read new).base q new.read (found.position ∙ ap (position_after (log_read new).base) (sym found.all)) in
      record {
        seeks = refl;
        goes_on = refl;
        start = ap Streaming (sym same);
        position = of_given (λ bytes. said ≡ position_after (log_meant R bytes).base (log_meant R bytes).entries) unspent (same ∙ found.position ∙ ap (λ (l : Log). position_after l.base l.entries) log_is);
        first = λ all told. subst (λ x. (m : ℕ) × IsPositionAfter (log_meant R all).base (take m (log_meant R all).entries) x) (sym same) (first_entries q unspent found.position found.waited all told);
        waited = waited_so L q (ap (λ (s : Seen). s.waits) (sym view)) unspent found.waited;
        stands = stands_first (seen_as name bound q until_end new GoesOn) q refl (ap (λ es. Streaming (position_after q es)) none) refl;
      }

  pub has_no_start : (cause : EndCause) → FailsSearch old new cause → (L : Seen) → seen_as name bound p until_end old c ≡ L → HasNoStart L (seen_as name bound p until_end new Ended) cause
  has_no_start FeedFault h L view = subst (λ n. Rose n new.faults) (ap (λ (s : Seen). s.faults) view) h
  has_no_start (BadLog offset why) h L view = λ all is.
      let b = sound.bytes (h.1 ∙ keeps.unspent over) all is in
      let fault : (log_meant R new.bytes).fault ≡ Some (offset, why) = sym (ap (λ l. l.fault) log_is) ∙ h.0 in
      ap (λ x. (log_meant R x).fault) (sym b.1.1) ∙ ap (λ l. l.fault) ((grows R new.bytes b.1.0).faulty (offset, why) fault) ∙ fault
  has_no_start Memory h L view = tt
  has_no_start AtEnd h L view = absurd h
  has_no_start (OwnJournal j) h L view = absurd h
  has_no_start (Purged x) h L view = absurd h
