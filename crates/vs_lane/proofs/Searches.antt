-- What the search for the end of a log keeps, and the entries that are passed over.
use Rattle.std.proofs.Common.{inl, inr, ◌≡◌, ℕ, ◌≤◌, true, false, List, [], ◌∷◌, ◌++◌, length, length-append, append_assoc, append-nil, Option, Some, None, Ok, refl, sym, ap, ◌∙◌, arith}
use Rattle.std.specs.Prelude.{MatchOption, unwrap_or}
use Rattle.vs_gtid.specs.declared.Entry.{Entry}
use Rattle.vs_gtid.specs.Joins.{added}
use Rattle.vs_gtid.specs.Positions.{Position, has}
use Rattle.vs_outside.specs.Counts.{Rose, raised}
use Rattle.vs_log.specs.Meaning.{knows_base, log_meant}
use Rattle.vs_log.proofs.Bases.{knows_its_base}
use Rattle.vs_entries.specs.Rules.{rules_of}
use Rattle.vs_lane.specs.Feeding.{Comes, IsLater, IsSound, Read, log_read, rules_read}
use Rattle.vs_lane.specs.Stands.{position_after}
use Rattle.vs_lane.specs.Steps.{AreIn, ComesDue, IsLacking, read_on}
use Rattle.vs_lane.specs.Ends.{FindsEnd, FindsNone, Found}
use Rattle.vs_lane.specs.declared.entries.Came.{Came}
use Rattle.vs_lane.specs.declared.entries.Came.TheVariants as came

-- ---- later and later

pub later_same : (r : Read) → IsLater r r
later_same r = record { origin = refl; all = refl; sound = refl; faults = omega arith; waits = omega arith; keyspace = refl; schema = refl; bytes = ([], sym (append-nil r.bytes)) }

pub later_then : (a b c : Read) → IsLater a b → IsLater b c → IsLater a c
later_then a b c x y = record {
  origin = y.origin ∙ x.origin;
  all = y.all ∙ x.all;
  sound = y.sound ∙ x.sound;
  faults = omega (arith, x.faults, y.faults);
  waits = omega (arith, x.waits, y.waits);
  keyspace = y.keyspace ∙ x.keyspace;
  schema = y.schema ∙ x.schema;
  bytes = (x.bytes.0 ++ y.bytes.0, y.bytes.1 ∙ ap (λ l. l ++ y.bytes.0) x.bytes.1 ∙ append_assoc a.bytes x.bytes.0 y.bytes.0);
}

rose_from : (old mid new : ℕ) → old ≤ mid → Rose mid new → Rose old new
rose_from old mid new later rose = let r : raised 1 mid ≤ new = rose in omega (arith, later, r)

-- what comes behind a read that read nothing
pub comes_from : (old mid new : Read) (said : Came) → IsLater old mid → mid.read ≡ old.read → mid.spent ≡ old.spent → Comes mid said new → Comes old said new
comes_from old mid new (came.Entry e at) later read spent h = (h.0 ∙ ap (λ l. l ++ e ∷ []) read, h.1, h.2 ∙ spent)
comes_from old mid new came.NotYet later read spent h =
    (record { read = h.0.read ∙ read; all = h.0.all; faultless = h.0.faultless; unspent = h.0.unspent ∙ spent }, rose_from old.waits mid.waits new.waits later.waits h.1)
comes_from old mid new came.End later read spent h =
    (record { read = h.0.read ∙ read; all = h.0.all; faultless = h.0.faultless; unspent = h.0.unspent ∙ spent }, h.1)
comes_from old mid new came.FeedFault later read spent h = (rose_from old.faults mid.faults new.faults later.faults h.0, h.1 ∙ read, h.2 ∙ spent)
comes_from old mid new (came.BadLog offset why) later read spent h = (h.0 ∙ read, h.1, h.2, h.3 ∙ spent)
comes_from old mid new came.Memory later read spent h = h ∙ read

-- ---- entries that are passed over

-- some entries of the position were read
pub record Skips (p : Position) (old now : Read) : Type 0 where
  pub skipped : List Entry
  pub are_in : AreIn p skipped
  pub read : now.read ≡ old.read ++ skipped
  pub spent : now.spent ≡ old.spent
  pub later : IsLater old now
  pub sound : IsSound now

pub skips_none : (p : Position) (old : Read) → IsSound old → Skips p old old
skips_none p old sound = record { skipped = []; are_in = tt; read = sym (append-nil old.read); spent = refl; later = later_same old; sound = sound }

are_in-append : (p : Position) (xs : List Entry) (e : Entry) → AreIn p xs → has p e.gtid ≡ true → AreIn p (xs ++ e ∷ [])
are_in-append p [] e h k = (k, tt)
are_in-append p (x ∷ xs) e h k = (h.0, are_in-append p xs e h.1 k)

pub skips_one : (p : Position) (old now new : Read) (e : Entry) (at : ℕ) → Skips p old now → IsLater now new → Comes now (came.Entry e at) new → IsSound new → has p e.gtid ≡ true → Skips p old new
skips_one p old now new e at s later h sound is_in = record {
  skipped = s.skipped ++ e ∷ [];
  are_in = are_in-append p s.skipped e s.are_in is_in;
  read = h.0 ∙ ap (λ l. l ++ e ∷ []) s.read ∙ append_assoc old.read s.skipped (e ∷ []);
  spent = h.2 ∙ s.spent;
  later = later_then old now new s.later later;
  sound = sound;
}

pub comes_due : (p : Position) (old now new : Read) (said : Came) → Skips p old now → IsLater now new → Comes now said new → IsLacking p said → ComesDue p old said new
comes_due p old now new said s later h lacks = record {
  skipped = s.skipped;
  are_in = s.are_in;
  comes = comes_from (read_on old s.skipped) now new said (on s.later) s.read s.spent h;
  lacks = lacks;
}
  where
    on : IsLater old now → IsLater (read_on old s.skipped) now
    on l = record { origin = l.origin; all = l.all; sound = l.sound; faults = l.faults; waits = l.waits; keyspace = l.keyspace; schema = l.schema; bytes = l.bytes }

-- ---- the position behind the entries that were read

-- Once an entry was read, the base is known, and this is the base with the GTIDs of those that were read.
pub record IsBehind (r : Read) (position : Option Position) : Type 0 where
  pub none : position ≡ None → r.read ≡ []
  pub some : (p : Position) → position ≡ Some p → (p ≡ position_after (log_read r).base r.read) × (knows_base (rules_read r) r.bytes ≡ true)

-- the search goes on
pub record Seeking (old now : Read) (position : Option Position) : Type 0 where
  pub later : IsLater old now
  pub sound : IsSound now
  pub spent : now.spent ≡ old.spent
  pub behind : IsBehind now position

pub seeking_first : (old : Read) → IsSound old → old.read ≡ [] → Seeking old old None
seeking_first old sound read = record { later = later_same old; sound = sound; spent = refl; behind = record { none = λ e. read; some = λ p e. absurd (cc) } }

same_rules : (r new : Read) → IsLater r new → rules_read new ≡ rules_read r
same_rules r new later = ap (λ k. rules_of k new.schema) later.keyspace ∙ ap (λ s. rules_of r.keyspace s) later.schema

-- a base that is known stays
base_stays : (r new : Read) → IsLater r new → knows_base (rules_read r) r.bytes ≡ true → (knows_base (rules_read new) new.bytes ≡ true) × ((log_read new).base ≡ (log_read r).base)
base_stays r new later known =
    let same = same_rules r new later in
    let k = (knows_its_base (rules_read r) r.bytes).stays later.bytes.0 known in (
      ap (λ x. knows_base x new.bytes) same ∙ ap (knows_base (rules_read r)) later.bytes.1 ∙ k.0,
      ap (λ x. (log_meant x new.bytes).base) same ∙ ap (λ b. (log_meant (rules_read r) b).base) later.bytes.1 ∙ k.1,
    )

pub behind_later : (r new : Read) (position : Option Position) → IsBehind r position → IsLater r new → new.read ≡ r.read → IsBehind new position
behind_later r new position h later read = record {
  none = λ e. read ∙ h.none e;
  some = λ p e.
      let s = h.some p e in
      let k = base_stays r new later s.1 in
      (s.0 ∙ ap (λ b. position_after b r.read) (sym k.1) ∙ ap (position_after (log_read new).base) (sym read), k.0);
}

after-append : (p : Position) (xs : List Entry) (e : Entry) → position_after p (xs ++ e ∷ []) ≡ added (position_after p xs) e.gtid
after-append p [] e = refl
after-append p (x ∷ xs) e = after-append (added p x.gtid) xs e

some_read : (r : Read) (xs : List Entry) (e : Entry) → IsSound r → r.read ≡ xs ++ e ∷ [] → knows_base (rules_read r) r.bytes ≡ true
some_read r xs e sound read =
    (knows_its_base (rules_read r) r.bytes).entries (omega (arith, ap (λ l. length l) (sound.read.1 ∙ ap (λ l. l ++ sound.read.0) read), length-append (xs ++ e ∷ []) sound.read.0, length-append xs (e ∷ [])))

-- the base, before an entry was read
from_base : (r new : Read) (position : Option Position) → IsBehind r position → IsLater r new → unwrap_or position (log_read new).base ≡ position_after (log_read new).base r.read
from_base r new None h later = ap (position_after (log_read new).base) (sym (h.none refl))
from_base r new (Some p) h later =
    let s = h.some p refl in
    let k = base_stays r new later s.1 in
    s.0 ∙ ap (λ b. position_after b r.read) (sym k.1)

pub seeking_on : (old now new : Read) (position : Option Position) (e : Entry) (at : ℕ) (p : Position) → Seeking old now position → IsLater now new → Comes now (came.Entry e at) new → IsSound new →
    p ≡ added (unwrap_or position (log_read new).base) e.gtid → Seeking old new (Some p)
seeking_on old now new position e at p s later h sound is = record {
  later = later_then old now new s.later later;
  sound = sound;
  spent = h.2 ∙ s.spent;
  behind = record {
    none = λ e. absurd (cc);
    some = λ q is_q.
        let same : p ≡ q = cc in (
          sym same ∙ is ∙ ap (λ b. added b e.gtid) (from_base now new position s.behind later) ∙ sym (after-append (log_read new).base now.read e) ∙ ap (position_after (log_read new).base) (sym h.0),
          some_read new now.read e sound h.0,
        );
  };
}

-- ---- where it ends

known_at : (r : Read) (position : Option Position) → IsBehind r position → (position ≡ None → knows_base (rules_read r) r.bytes ≡ true) → knows_base (rules_read r) r.bytes ≡ true
known_at r None h known = known refl
known_at r (Some p) h known = (h.some p refl).1

pub found_at_wait : (old now new : Read) (position : Option Position) (p : Position) → Seeking old now position → IsLater now new → Comes now came.NotYet new → p ≡ unwrap_or position (log_read new).base →
    (position ≡ None → knows_base (rules_read new) new.bytes ≡ true) → FindsEnd old new p
found_at_wait old now new position p s later h is known =
    let b = behind_later now new position s.behind later h.0.read in record {
      position = is ∙ from_base now new position s.behind later ∙ ap (position_after (log_read new).base) (sym h.0.read ∙ h.0.all);
      all = h.0.all;
      unspent = h.0.unspent ∙ s.spent;
      waited = inl (rose_from old.waits now.waits new.waits s.later.waits h.1, known_at new position b known);
    }

pub none_at_wait : (old now new : Read) (position : Option Position) → Seeking old now position → IsLater now new → Comes now came.NotYet new → position ≡ None → knows_base (rules_read new) new.bytes ≡ false → FindsNone old new
none_at_wait old now new position s later h none unknown = record {
  unread = h.0.read ∙ s.behind.none none;
  unspent = h.0.unspent ∙ s.spent;
  waited = rose_from old.waits now.waits new.waits s.later.waits h.1;
  unknown = unknown;
}

pub found_at_end : (old now new : Read) (position : Option Position) (p : Position) → Seeking old now position → IsLater now new → Comes now came.End new → p ≡ unwrap_or position (log_read new).base → FindsEnd old new p
found_at_end old now new position p s later h is = record {
  position = is ∙ from_base now new position s.behind later ∙ ap (position_after (log_read new).base) (sym h.0.read ∙ h.0.all);
  all = h.0.all;
  unspent = h.0.unspent ∙ s.spent;
  waited = inr h.1;
}

pub failed_rose : (old now new : Read) (position : Option Position) → Seeking old now position → Comes now came.FeedFault new → Rose old.faults new.faults
failed_rose old now new position s h = rose_from old.faults now.faults new.faults s.later.faults h.0

pub stops_at_wait : (old now new : Read) (position found : Option Position) → Seeking old now position → IsLater now new → Comes now came.NotYet new →
    MatchOption found ((position ≡ None) × (knows_base (rules_read new) new.bytes ≡ false)) (λ p. (p ≡ unwrap_or position (log_read new).base) × (position ≡ None → knows_base (rules_read new) new.bytes ≡ true)) →
    Found old (Ok found) new
stops_at_wait old now new position None s later h said = none_at_wait old now new position s later h said.0 said.1
stops_at_wait old now new position (Some p) s later h said = found_at_wait old now new position p s later h said.0 said.1
