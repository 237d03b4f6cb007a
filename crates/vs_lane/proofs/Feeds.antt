-- What a turn of a feed and its reader keeps.
use Rattle.std.proofs.Common.{◌≡◌, ℕ, zero, suc, ◌+◌, ◌-◌, ◌≤◌, Bool, true, false, List, [], ◌∷◌, ◌++◌, length, take, drop, append-nil, Option, Some, None, Ok, Err, refl, sym, ap, ◌∙◌, subst, arith, true≢false}
use Rattle.std.specs.Prelude.{IfSome, IsSomeAnd, MatchOption}
use Rattle.std.specs.Option.{ForSome}
use Rattle.std.proofs.lemmas.List.{take_all, length-take}
use Rattle.std.proofs.Math.Seq.{take-append_seam, take-append-add}
use Rattle.vs_base.specs.declared.ShardName.{ShardName}
use Rattle.vs_base.specs.declared.Why.{Why}
use Rattle.vs_gtid.specs.declared.Entry.{Entry}
use Rattle.vs_outside.specs.declared.feed.Got.TheVariants as got
use Rattle.vs_outside.specs.Counts.{Rose}
use Rattle.vs_outside.specs.Reads.{FillsBuffer, GivesNext}
use Rattle.vs_outside.specs.Told.{IsPrefixOf}
use Rattle.vs_log.specs.Events.{IsPart}
use Rattle.vs_log.specs.Productions.{StandsAt}
use Rattle.vs_log.proofs.Faults.{grows}
use Rattle.vs_entries.specs.Laws.{BoundsParts}
use Rattle.vs_entries.specs.Pieces.{Fed, GivesEntry, log_fed, rules_fed, with_piece}
use Rattle.vs_entries.specs.declared.took.Took.TheVariants as took
use Rattle.vs_entries.specs.declared.took.LogRefusal.TheVariants as refusal
use Rattle.vs_lane.specs.Feeding.{Comes, HasReadAll, IsFront, IsHeldWithin, IsLater, IsReading, IsSound, Read, given_of, read_as}
use Rattle.vs_lane.specs.declared.entries.Came.TheVariants as came

front_of : {A : Type 0} (n : ℕ) (xs : List A) → xs ≡ take n xs ++ drop n xs
front_of zero xs = refl
front_of (suc n) [] = refl
front_of (suc n) (x ∷ xs) = ap (λ l. x ∷ l) (front_of n xs)

-- what was given is the front of the entries
front_given : (r : Fed) → IsFront (given_of r) (log_fed r).entries
front_given r = (drop r.given (log_fed r).entries, front_of r.given (log_fed r).entries)

-- ---- what the feed gives

-- the feed told that it gave these bytes, the front of all
abbrev Told : Option (List ℕ) → Option (List ℕ) → List ℕ → Type 0
Told all given bytes = ForSome all (λ x. (given ≡ Some bytes) × IsPrefixOf bytes x)

abbrev Gives : Option (List ℕ) → Option (List ℕ) → Option (List ℕ) → (List ℕ → List ℕ → List ℕ → Type 0) → Type 0
Gives all before after P = MatchOption all ((before ≡ None) × (after ≡ None)) (λ x. IsSomeAnd before (λ b. IsSomeAnd after (λ a. P x b a)))

gives_next : (all before after : Option (List ℕ)) (bytes x : List ℕ) (P : List ℕ → List ℕ → List ℕ → Type 0) → all ≡ Some x → before ≡ Some bytes → Gives all before after P →
    (a : List ℕ) × (after ≡ Some a) × P x bytes a
gives_next None before after bytes x P is was gives = absurd (cc)
gives_next (Some y) None after bytes x P is was gives = absurd gives
gives_next (Some y) (Some b) None bytes x P is was gives = absurd gives
gives_next (Some y) (Some b) (Some a) bytes x P is was gives =
    let same : y ≡ x = cc in
    let first : b ≡ bytes = cc in
    (a, refl, subst (λ z. P z bytes a) same (subst (λ z. P y z a) first gives))

-- a feed that has ended gave all
all_given_at_end : (all before after : Option (List ℕ)) (buf x : List ℕ) → all ≡ Some x → Gives all before after (GivesNext got.End buf) → after ≡ Some x
all_given_at_end None before after buf x is gives = absurd (cc)
all_given_at_end (Some y) None after buf x is gives = absurd gives
all_given_at_end (Some y) (Some b) None buf x is gives = absurd gives
all_given_at_end (Some y) (Some b) (Some a) buf x is gives = ap Some (gives.0 ∙ gives.1) ∙ is

told_same : (all now before after : Option (List ℕ)) (bytes : List ℕ) → now ≡ all → Told all before bytes → Gives all before after (λ x b a. a ≡ b) → Told now after bytes
told_same all now before after bytes same told gives x is =
    let here : all ≡ Some x = sym same ∙ is in
    let t = told x here in
    let n = gives_next all before after bytes x (λ x b a. a ≡ b) here t.0 gives in
    (n.1 ∙ ap Some n.2, t.1)

told_more : (all now before after : Option (List ℕ)) (bytes buf : List ℕ) (n : ℕ) → now ≡ all → Told all before bytes → Gives all before after (GivesNext (got.Bytes n) buf) → Told now after (bytes ++ take n buf)
told_more all now before after bytes buf n same told gives x is =
    let here : all ≡ Some x = sym same ∙ is in
    let t = told x here in
    let g = gives_next all before after bytes x (GivesNext (got.Bytes n) buf) here t.0 gives in
    (g.1 ∙ ap Some g.2.0, subst (λ a. IsPrefixOf a x) g.2.0 g.2.1)

-- ---- a reader that is read

pub sound_of : (origin : ShardName) (all given : Option (List ℕ)) (sound : Bool) (faults waits : ℕ) (r : Fed) (spent : Bool) (size : ℕ) → IsReading all given r spent size →
    IsSound (read_as origin all given sound faults waits r spent)
sound_of origin all given sound faults waits r spent size h = record { bytes = h.fed; read = front_given r; held = h.held }

later_read : (origin : ShardName) (all given : Option (List ℕ)) (sound : Bool) (faults waits : ℕ) (r new : Fed) (spent : Bool) → new.keyspace ≡ r.keyspace → new.schema ≡ r.schema → new.bytes ≡ r.bytes →
    IsLater (read_as origin all given sound faults waits r spent) (read_as origin all given sound faults waits new spent)
later_read origin all given sound faults waits r new spent keyspace schema bytes = record {
  origin = refl;
  all = refl;
  sound = refl;
  faults = omega arith;
  waits = omega arith;
  keyspace = keyspace;
  schema = schema;
  bytes = ([], bytes ∙ sym (append-nil r.bytes));
}

-- one entry more was given
one_more : (r : Fed) (e : Entry) (before behind : List Entry) → (log_fed r).entries ≡ before ++ e ∷ behind → length before ≡ r.given → take (suc r.given) (log_fed r).entries ≡ given_of r ++ e ∷ []
one_more r e before behind are count =
    let front : take r.given (log_fed r).entries ≡ before =
    ap (λ n. take n (log_fed r).entries) (sym count) ∙ ap (λ es. take (length before) es) are ∙ take-append_seam before (e ∷ behind) in
    let n : suc r.given ≡ length before + 1 = omega (arith, count) in
    ap (λ k. take k (log_fed r).entries) n ∙ ap (λ es. take (length before + 1) es) are ∙ take-append-add before (e ∷ behind) 1 ∙ ap (λ l. l ++ e ∷ []) (sym front)

module _ (origin : ShardName) (all given : Option (List ℕ)) (sound : Bool) (faults waits : ℕ) (r : Fed) (spent : Bool) (size : ℕ) (reading : IsReading all given r spent size) where
  abbrev Old : Read
  Old = read_as origin all given sound faults waits r spent

  -- the reader with what it gave, or took
  abbrev At : Fed → Read
  At new = read_as origin all given sound faults waits new spent

  moved : (n at : ℕ) (gone : Bool) (new : Fed) → new ≡ record r { given = n; at = at; spent = gone } → r.at ≤ new.at → IsReading all given new spent size
  moved n at gone new is later = record {
    fed = λ unspent x told. let t = reading.fed unspent x told in (t.0 ∙ ap Some (sym (ap (λ (f : Fed). f.bytes) is)), subst (λ b. IsPrefixOf b x) (sym (ap (λ (f : Fed). f.bytes) is)) t.1);
    held = omega (arith, reading.held, later, ap (λ (f : Fed). length f.bytes) is);
    room = reading.room;
  }

  pub entry_turned : (new : Fed) (e : Entry) (at end : ℕ) → GivesEntry r (Ok (took.Entry e at end)) new → r.at ≤ new.at →
      IsReading all given new spent size × IsLater Old (At new) × Comes Old (came.Entry e at) (At new) × IsSound (At new)
  entry_turned new e at end (unspent, behind, stands, ends, is) later =
      let still = moved (suc r.given) end r.spent new is later in (
        still,
        later_read origin all given sound faults waits r new spent (ap (λ (f : Fed). f.keyspace) is) (ap (λ (f : Fed). f.schema) is) (ap (λ (f : Fed). f.bytes) is),
        (ap given_of is ∙ one_more r e behind.before behind.later behind.are behind.count, subst (λ (f : Fed). StandsAt (rules_fed f) f.bytes e.gtid at) (sym is) stands, refl),
        sound_of origin all given sound faults waits new spent size still,
      )

  pub fault_turned : (new : Fed) (offset : ℕ) (why : Why) → GivesEntry r (Err (refusal.BadLog offset why)) new → r.at ≤ new.at →
      IsReading all given new spent size × IsLater Old (At new) × Comes Old (came.BadLog offset why) (At new) × IsSound (At new)
  fault_turned new offset why (unspent, count, fault, is) later =
      let still = moved r.given new.at r.spent new is later in
      let log : log_fed new ≡ log_fed r = ap log_fed is in
      let same : given_of new ≡ given_of r = ap given_of is in (
        still,
        later_read origin all given sound faults waits r new spent (ap (λ (f : Fed). f.keyspace) is) (ap (λ (f : Fed). f.schema) is) (ap (λ (f : Fed). f.bytes) is),
        (same, same ∙ take_all r.given (log_fed r).entries (omega (arith, count)) ∙ sym (ap (λ l. l.entries) log), ap (λ l. l.fault) log ∙ fault, refl),
        sound_of origin all given sound faults waits new spent size still,
      )

  pub spent_turned : (new : Fed) → GivesEntry r (Err refusal.Memory) new → r.at ≤ new.at →
      IsReading all given new spent size × IsLater Old (At new) × Comes Old came.Memory (At new) × IsSound (At new)
  spent_turned new is later =
      let still = moved r.given new.at true new is later in (
        still,
        later_read origin all given sound faults waits r new spent (ap (λ (f : Fed). f.keyspace) is) (ap (λ (f : Fed). f.schema) is) (ap (λ (f : Fed). f.bytes) is),
        ap given_of is,
        sound_of origin all given sound faults waits new spent size still,
      )

  -- ---- where no entry is whole

  module _ (mid : Fed) (more : GivesEntry r (Ok took.More) mid) (passed : r.at ≤ mid.at) where
    mid_is : mid ≡ record r { at = mid.at }
    mid_is = more.4

    still : IsReading all given mid spent size
    still = moved r.given mid.at r.spent mid mid_is passed

    part : IsPart (drop mid.at mid.bytes)
    part = subst (λ b. IsPart (drop mid.at b)) (sym (ap (λ (f : Fed). f.bytes) mid_is)) more.3

    same_given : given_of mid ≡ given_of r
    same_given = ap given_of mid_is

    all_given : given_of mid ≡ (log_fed mid).entries
    all_given = same_given ∙ take_all r.given (log_fed r).entries (omega (arith, more.1)) ∙ sym (ap (λ l. l.entries) (ap log_fed mid_is))

    -- the feed answered, and gave nothing
    module _ (now after : Option (List ℕ)) (sound' : Bool) (faults' waits' : ℕ) (origin' : ShardName) (same_origin : origin' ≡ origin) (same_all : now ≡ all) (same_sound : sound' ≡ sound)
        (later_faults : faults ≤ faults') (later_waits : waits ≤ waits') where
      abbrev New : Fed → Bool → Read
      New new gone = read_as origin' now after sound' faults' waits' new gone

      silent : Gives all given after (λ x b a. a ≡ b) → IsReading now after mid spent size
      silent gives = record { fed = λ unspent. told_same all now given after mid.bytes same_all (still.fed unspent) gives; held = still.held; room = still.room }

      later_silent : IsLater Old (New mid spent)
      later_silent = record {
        origin = same_origin;
        all = same_all;
        sound = same_sound;
        faults = later_faults;
        waits = later_waits;
        keyspace = ap (λ (f : Fed). f.keyspace) mid_is;
        schema = ap (λ (f : Fed). f.schema) mid_is;
        bytes = ([], ap (λ (f : Fed). f.bytes) mid_is ∙ sym (append-nil r.bytes));
      }

      read_all : HasReadAll Old (New mid spent)
      read_all = record { read = same_given; all = all_given; faultless = ap (λ l. l.fault) (ap log_fed mid_is) ∙ more.2; unspent = refl }

      pub waits_turned : (buf : List ℕ) → Gives all given after (GivesNext got.NotYet buf) → Rose waits waits' →
          IsReading now after mid spent size × IsLater Old (New mid spent) × Comes Old came.NotYet (New mid spent) × IsSound (New mid spent)
      waits_turned buf gives rose = let s = silent gives in (s, later_silent, (read_all, rose), sound_of origin' now after sound' faults' waits' mid spent size s)

      pub fails_turned : Gives all given after (λ x b a. a ≡ b) → Rose faults faults' →
          IsReading now after mid spent size × IsLater Old (New mid spent) × Comes Old came.FeedFault (New mid spent) × IsSound (New mid spent)
      fails_turned gives rose = let s = silent gives in (s, later_silent, (rose, same_given, refl), sound_of origin' now after sound' faults' waits' mid spent size s)

      ended_same : (a b g : Option (List ℕ)) (buf : List ℕ) → Gives a b g (GivesNext got.End buf) → Gives a b g (λ x y z. z ≡ y)
      ended_same None b g buf h = h
      ended_same (Some x) None g buf h = h
      ended_same (Some x) (Some y) None buf h = h
      ended_same (Some x) (Some y) (Some z) buf h = h.0

      pub ends_turned : (buf : List ℕ) → Gives all given after (GivesNext got.End buf) →
          IsReading now after mid spent size × IsLater Old (New mid spent) × Comes Old came.End (New mid spent) × IsSound (New mid spent)
      ends_turned buf gives =
          let s = silent (ended_same all given after buf gives) in
          (s, later_silent, (read_all, λ x is. all_given_at_end all given after buf x (sym same_all ∙ is) gives), sound_of origin' now after sound' faults' waits' mid spent size s)

      -- bytes came, and were taken
      pub fed_turned : (bounds : BoundsParts) (buf : List ℕ) (n : ℕ) (new : Fed) → length buf ≡ size → FillsBuffer (got.Bytes n) buf → Gives all given after (GivesNext (got.Bytes n) buf) →
          new ≡ with_piece mid (take n buf) new.at new.from → mid.at ≤ new.at →
          IsReading now after new spent size × IsLater Old (New new spent) × (given_of new ≡ given_of r) × IsSound (New new spent)
      fed_turned bounds buf n new length_is fills gives is later =
          let bytes : new.bytes ≡ mid.bytes ++ take n buf = ap (λ (f : Fed). f.bytes) is in
          let short : length (take n buf) ≤ 65536 = omega (arith, fills.0, length_is, reading.room, length-take n buf) in
          let held = bounds.fed mid.bytes (take n buf) mid.at new.at part later short in
          let s : IsReading now after new spent size = record {
            fed = λ unspent. subst (Told now after) (sym bytes) (told_more all now given after mid.bytes buf n same_all (still.fed unspent) gives);
            held = omega (arith, held, ap (λ b. length b) bytes);
            room = reading.room;
          } in
          let g = grows (rules_fed mid) mid.bytes (take n buf) in
          let count : mid.given ≤ length (log_fed mid).entries = omega (arith, more.1, ap (λ (f : Fed). f.given) mid_is, ap (λ (f : Fed). length (log_fed f).entries) mid_is) in (
            s,
            record {
              origin = same_origin;
              all = same_all;
              sound = same_sound;
              faults = later_faults;
              waits = later_waits;
              keyspace = ap (λ (f : Fed). f.keyspace) is ∙ ap (λ (f : Fed). f.keyspace) mid_is;
              schema = ap (λ (f : Fed). f.schema) is ∙ ap (λ (f : Fed). f.schema) mid_is;
              bytes = (take n buf, bytes ∙ ap (λ (f : Fed). f.bytes ++ take n buf) mid_is);
            },
            ap given_of is ∙ g.given mid.given count ∙ same_given,
            sound_of origin' now after sound' faults' waits' new spent size s,
          )

      -- bytes came that could not be taken
      pub lost_turned : (new : Fed) → new ≡ record mid { from = new.from } →
          IsReading now after new true size × IsLater Old (New new true) × Comes Old came.Memory (New new true) × IsSound (New new true)
      lost_turned new is =
          let s : IsReading now after new true size = record { fed = λ h. absurd (true≢false h); held = subst (λ (f : Fed). IsHeldWithin (length f.bytes - f.at)) (sym is) still.held; room = reading.room } in (
            s,
            record {
              origin = same_origin;
              all = same_all;
              sound = same_sound;
              faults = later_faults;
              waits = later_waits;
              keyspace = ap (λ (f : Fed). f.keyspace) is ∙ ap (λ (f : Fed). f.keyspace) mid_is;
              schema = ap (λ (f : Fed). f.schema) is ∙ ap (λ (f : Fed). f.schema) mid_is;
              bytes = ([], ap (λ (f : Fed). f.bytes) is ∙ ap (λ (f : Fed). f.bytes) mid_is ∙ sym (append-nil r.bytes));
            },
            ap given_of is ∙ same_given,
            sound_of origin' now after sound' faults' waits' new true size s,
          )

-- the buffer of a read keeps its room
pub reading_in : (all given : Option (List ℕ)) (r : Fed) (spent : Bool) (size new : ℕ) → IsReading all given r spent size → new ≡ size → IsReading all given r spent new
reading_in all given r spent size new h is = record { fed = h.fed; held = h.held; room = is ∙ h.room }

pub reading_first : (all given : Option (List ℕ)) (r : Fed) (size : ℕ) → IfSome all (λ _. given ≡ Some []) → r.bytes ≡ [] → size ≡ 65536 → IsReading all given r false size
reading_first all given r size told none room = record { fed = λ unspent. told_first all given r.bytes none told; held = omega (arith, ap (λ b. length b) none); room = room }
  where
    told_first : (all given : Option (List ℕ)) (bytes : List ℕ) → bytes ≡ [] → IfSome all (λ _. given ≡ Some []) → Told all given bytes
    told_first None given bytes e h x is = absurd (cc)
    told_first (Some a) given bytes e h x is = (h ∙ ap Some (sym e), (x, ap (λ b. b ++ x) e))

-- a buffer that was written whole
pub written_is : (n : ℕ) (xs ys : List ℕ) → length xs ≡ length ys → n ≡ length ys → take n (xs ++ drop (length xs) ys) ≡ xs
written_is n xs ys same count = ap (λ k. take k (xs ++ drop (length xs) ys)) (count ∙ sym same) ∙ take-append_seam xs (drop (length xs) ys)
