-- How a walk over a log's bytes stands for what they mean.
use Rattle.std.proofs.Common.{◌≡◌, ◌≤◌, ◌<◌, ◌+◌, ℕ, Bool, true, false, List, [], ◌∷◌, ◌++◌, length, drop, Option, Some, None, Result, Ok, Err, refl, ap, sym, subst, ◌∙◌, arith, append-nil, append_assoc, length-append, length-drop}
use Rattle.std.specs.Prelude.{◌⊎◌, IsSomeAnd}
use Rattle.std.proofs.lemmas.List.{append_cancel_left, drop-append-le}
use Rattle.vs_gtid.specs.declared.Work.{Work}
use Rattle.vs_base.specs.declared.Gtid.{Gtid}
use Rattle.vs_rows.specs.Tables.{Tables}
use Rattle.vs_base.specs.declared.Why.{Why}
use Rattle.vs_base.specs.declared.Why.TheVariants.{BadMagic}
use Rattle.vs_gtid.specs.declared.Entry.{Entry}
use Rattle.vs_gtid.specs.Logs.{Log}
use Rattle.vs_log.specs.States.{Place as place}
use Rattle.vs_log.specs.States.{State}
use Rattle.vs_log.specs.Events.{last_place}
use Rattle.vs_log.specs.Meaning.{at_place, has_magic, is_base_known, knows_base, log_meant, log_of}
use Rattle.vs_log.specs.Productions.{EntryEndsAt, StandsAt}
use Rattle.vs_log.specs.Steps.{Reaches, next_state, open_gtid, result_with_past, with_past}
use Rattle.vs_log.specs.Laws.{OpensOrEnds}
use Rattle.vs_log.specs.Table.{Rules, step}
use Rattle.vs_entries.specs.Laws.{LogLaws}
use Rattle.vs_entries.specs.Pieces.{IsBehind}
use Rattle.vs_entries.specs.Reading.{IsFrontEvent, is_early, is_refused, place_of, state_of, with_entries, work_in}
use Rattle.vs_entries.specs.Walks.{IsBegunAt, IsEarly, IsFresh, IsLeft, IsMoved, IsStuck, IsWalk, ReadsEnd, ReadsNext, Stands, begun_after}
use Rattle.vs_entries.specs.declared.standing.Standing.{Standing}
use Rattle.vs_entries.specs.declared.standing.Standing.TheVariants.{Front, Between, Named, Inside}
use Rattle.vs_entries.specs.declared.walk.Walk.{Walk}

-- entries that were given stand in front of those of the state

past_is : (past : List Entry) (s : State Tables) → s.entries ≡ [] → with_past past s ≡ with_entries past s
past_is past s none = ap (λ z. record s { entries = z }) (ap (λ z. past ++ z) none ∙ append-nil past)

past_turn : (laws : LogLaws) (rules : Rules Tables) (at : ℕ) (s : State Tables) (rest : List ℕ) (past : List Entry) → s.entries ≡ [] →
    next_state rules at (with_entries past s) rest ≡ result_with_past past (next_state rules at s rest)
past_turn laws rules at s rest past none = ap (λ z. next_state rules at z rest) (sym (past_is past s none)) ∙ (laws.steps rules).past at s rest past

abbrev state_with : List Entry → Walk → State Tables
state_with past walk = with_entries past (state_of walk.progress)

-- ---- the walk stands for a beginning of the log

pub stands_within : (laws : LogLaws) (rules : Rules Tables) (bytes : List ℕ) (walk : Walk) → Stands rules bytes walk → walk.at ≤ length bytes
stands_within laws rules bytes walk s = ((laws.steps rules).within bytes walk.at (state_with s.past walk) s.reaches).2

pub stands_early : (laws : LogLaws) (rules : Rules Tables) (bytes : List ℕ) (walk : Walk) → Stands rules bytes walk → walk.at ≤ last_place
stands_early laws rules bytes walk s = ((laws.steps rules).within bytes walk.at (state_with s.past walk) s.reaches).3

-- a walk that has taken nothing stands behind the magic
pub fresh_stands : (laws : LogLaws) (rules : Rules Tables) (bytes : List ℕ) (walk : Walk) → IsFresh walk → has_magic bytes ≡ true → 4 ≤ length bytes → Stands rules bytes walk
fresh_stands laws rules bytes walk f h l = record {
  past = [];
  reaches = subst (λ z. Reaches rules bytes z (state_of walk.progress)) (sym f.at) (subst (λ z. Reaches rules bytes 4 z) (sym f.progress) ((laws.steps rules).starts bytes h l));
  given = sym f.given;
  few = omega (arith, f.given);
  begun = begun walk.progress.standing (ap (λ (s : State Tables). open_gtid s.place) f.progress);
}
  where
    begun : (standing : Standing) → open_gtid (place_of standing walk.progress.maps (work_in walk.progress)) ≡ None → IsBegunAt rules bytes standing walk.begun
    begun Front h = tt
    begun (Between first) h = tt
    begun (Named g size) h = absurd (cc)
    begun (Inside g size) h = absurd (cc)

-- ---- the event at the front

-- an event was taken
pub moved : (rules : Rules Tables) (bytes rest e : List ℕ) (old new : Walk) (entries : List Entry) → rest ≡ drop old.at bytes → old.at ≤ length bytes → IsFrontEvent old.at rest e →
    step rules (state_of old.progress) e ≡ Ok (with_entries entries (state_of new.progress)) → new.at ≡ old.at + length e → new.begun ≡ begun_after old.progress.standing old.at old.begun →
    new.given ≡ old.given + length entries → IsMoved rules bytes old new entries
moved rules bytes rest e old new entries is inside f h at begun given =
    let there = subst (λ z. IsFrontEvent old.at z e) is f in
    record {
      next = rw there.held (rw (← there.bytes) (rw h refl));
      place = at ∙ ap (λ n. old.at + n) there.size;
      later = omega (arith, at, there.head);
      within = omega (arith, at, there.within, length-drop old.at bytes, inside);
      early = subst (λ n. n ≤ last_place) (sym at) there.early;
      begun = begun;
      given = given;
    }

-- and an entry ended
pub moved_to_end : (rules : Rules Tables) (bytes rest e : List ℕ) (old new : Walk) (ended : Option Entry) → rest ≡ drop old.at bytes → old.at ≤ length bytes → IsFrontEvent old.at rest e →
    IsSomeAnd ended (λ x. step rules (state_of old.progress) e ≡ Ok (with_entries (x ∷ []) (state_of new.progress))) → new.at ≡ old.at + length e → new.begun ≡ begun_after old.progress.standing old.at old.begun →
    new.given ≡ old.given + 1 → IsSomeAnd ended (λ x. IsMoved rules bytes old new (x ∷ []))
moved_to_end rules bytes rest e old new None is inside f h at begun given = absurd h
moved_to_end rules bytes rest e old new (Some x) is inside f h at begun given = moved rules bytes rest e old new (x ∷ []) is inside f h at begun given

-- it is refused
pub stopped : (rules : Rules Tables) (at : ℕ) (s : State Tables) (rest e : List ℕ) (why : Option Why) → IsFrontEvent at rest e → IsSomeAnd why (λ w. step rules s e ≡ Err w) → next_state rules at s rest ≡ Err why
stopped rules at s rest e None f h = absurd h
stopped rules at s rest e (Some w) f h = rw f.held (rw (← f.bytes) (rw h refl))

-- ---- one event more

begun_at : (rules : Rules Tables) (bytes : List ℕ) (standing : Standing) (maps : Tables) (work : Work) (at : ℕ) →
    ((g : Gtid) → open_gtid (place_of standing maps work) ≡ Some g → StandsAt rules bytes g at) → IsBegunAt rules bytes standing at
begun_at rules bytes Front maps work at h = tt
begun_at rules bytes (Between first) maps work at h = tt
begun_at rules bytes (Named g size) maps work at h = h g refl
begun_at rules bytes (Inside g size) maps work at h = h g refl

begun_of : (rules : Rules Tables) (bytes : List ℕ) (standing : Standing) (maps : Tables) (work : Work) (at : ℕ) (g : Gtid) → IsBegunAt rules bytes standing at →
    open_gtid (place_of standing maps work) ≡ Some g → StandsAt rules bytes g at
begun_of rules bytes Front maps work at g b h = absurd (cc)
begun_of rules bytes (Between first) maps work at g b h = absurd (cc)
begun_of rules bytes (Named x size) maps work at g b h = let e : x ≡ g = cc in subst (λ z. StandsAt rules bytes z at) e b
begun_of rules bytes (Inside x size) maps work at g b h = let e : x ≡ g = cc in subst (λ z. StandsAt rules bytes z at) e b

none_open : (standing : Standing) (maps : Tables) (work : Work) (at begun : ℕ) → open_gtid (place_of standing maps work) ≡ None → begun_after standing at begun ≡ at
none_open Front maps work at begun h = refl
none_open (Between first) maps work at begun h = refl
none_open (Named x size) maps work at begun h = absurd (cc)
none_open (Inside x size) maps work at begun h = absurd (cc)

still_open : (standing : Standing) (maps : Tables) (work : Work) (at begun : ℕ) (g : Gtid) → open_gtid (place_of standing maps work) ≡ Some g → begun_after standing at begun ≡ begun
still_open Front maps work at begun g h = absurd (cc)
still_open (Between first) maps work at begun g h = absurd (cc)
still_open (Named x size) maps work at begun g h = refl
still_open (Inside x size) maps work at begun g h = refl

-- the log with the event that was taken
record IsOn (rules : Rules Tables) (bytes : List ℕ) (old new : Walk) (s : Stands rules bytes old) (entries : List Entry) : Type 0 where
  stepped : next_state rules old.at (state_with s.past old) (drop old.at bytes) ≡ Ok (state_with (s.past ++ entries) new)
  reaches : Reaches rules bytes new.at (state_with (s.past ++ entries) new)

on : (laws : LogLaws) (rules : Rules Tables) (bytes : List ℕ) (old new : Walk) (entries : List Entry) (s : Stands rules bytes old) → IsMoved rules bytes old new entries → IsOn rules bytes old new s entries
on laws rules bytes old new entries s m =
    let stepped = past_turn laws rules old.at (state_of old.progress) (drop old.at bytes) s.past refl ∙ ap (λ r. result_with_past s.past r) m.next in
    record {
      stepped = stepped;
      reaches = subst (λ z. Reaches rules bytes z (state_with (s.past ++ entries) new)) (sym m.place) ((laws.steps rules).leads bytes old.at _ _ s.reaches stepped);
    }

-- the entry that is open behind the event
begun_on : (rules : Rules Tables) (bytes : List ℕ) (old new : Walk) (entries : List Entry) (s : Stands rules bytes old) → new.begun ≡ begun_after old.progress.standing old.at old.begun →
    (before : Option Gtid) → open_gtid (state_of old.progress).place ≡ before → OpensOrEnds rules bytes old.at (state_with s.past old) (state_with (s.past ++ entries) new) before →
    IsBegunAt rules bytes new.progress.standing new.begun
begun_on rules bytes old new entries s begun None none opens =
    begun_at rules bytes new.progress.standing new.progress.maps (work_in new.progress) new.begun (λ g h.
    subst (λ z. StandsAt rules bytes g z) (sym (begun ∙ none_open old.progress.standing old.progress.maps (work_in old.progress) old.at old.begun none)) (opens.0 g h))
begun_on rules bytes old new entries s begun (Some g) some (◌⊎◌.inl goes) =
    begun_at rules bytes new.progress.standing new.progress.maps (work_in new.progress) new.begun (λ x h.
    let e : g ≡ x = (let k : Some g ≡ Some x = sym goes.0 ∙ h in cc) in
    subst (λ z. StandsAt rules bytes z new.begun) e
    (subst (λ z. StandsAt rules bytes g z) (sym (begun ∙ still_open old.progress.standing old.progress.maps (work_in old.progress) old.at old.begun g some))
    (begun_of rules bytes old.progress.standing old.progress.maps (work_in old.progress) old.begun g s.begun some)))
begun_on rules bytes old new entries s begun (Some g) some (◌⊎◌.inr ends) =
    begun_at rules bytes new.progress.standing new.progress.maps (work_in new.progress) new.begun (λ x h. let k : ◌≡◌ {A = Option Gtid} None (Some x) = sym ends.0 ∙ h in absurd (cc))

-- the walk stands for the events with the one that was taken
pub stands_on : (laws : LogLaws) (rules : Rules Tables) (bytes : List ℕ) (old new : Walk) (entries : List Entry) → length entries ≤ 1 → Stands rules bytes old → IsMoved rules bytes old new entries → Stands rules bytes new
stands_on laws rules bytes old new entries few s m =
    let o = on laws rules bytes old new entries s m in
    record {
      past = s.past ++ entries;
      reaches = o.reaches;
      given = omega (arith, length-append s.past entries, s.given, m.given);
      few = omega (arith, few, s.few, m.later, m.given);
      begun = begun_on rules bytes old new entries s m.begun _ refl ((laws.entries rules).opens bytes old.at _ _ s.reaches o.stepped);
    }

longer : (past : List Entry) (e : Entry) → past ++ e ∷ [] ≡ past → ⊥
longer past e h = let n : length (past ++ e ∷ []) ≡ length past = ap length h in absurd (omega (arith, n, length-append past (e ∷ [])))

-- where its GTID event stands
given_at : (rules : Rules Tables) (bytes : List ℕ) (old new : Walk) (e : Entry) (s : Stands rules bytes old) → new.begun ≡ begun_after old.progress.standing old.at old.begun →
    (before : Option Gtid) → open_gtid (state_of old.progress).place ≡ before →
    OpensOrEnds rules bytes old.at (state_with s.past old) (state_with (s.past ++ e ∷ []) new) before → StandsAt rules bytes e.gtid new.begun
given_at rules bytes old new e s begun None none opens = absurd (longer s.past e opens.1)
given_at rules bytes old new e s begun (Some g) some (◌⊎◌.inl goes) = absurd (longer s.past e goes.1)
given_at rules bytes old new e s begun (Some g) some (◌⊎◌.inr ends) =
    let x = ends.1 in
    let same : ◌≡◌ {A = List Entry} (e ∷ []) (x.0 ∷ []) = append_cancel_left s.past _ _ x.1 in
    let one : e ≡ x.0 = cc in
    let g_is : g ≡ e.gtid = sym x.2 ∙ ap (λ (z : Entry). z.gtid) (sym one) in
    subst (λ z. StandsAt rules bytes z new.begun) g_is
    (subst (λ z. StandsAt rules bytes g z) (sym (begun ∙ still_open old.progress.standing old.progress.maps (work_in old.progress) old.at old.begun g some))
    (begun_of rules bytes old.progress.standing old.progress.maps (work_in old.progress) old.begun g s.begun some))

-- the entry that ends is the next one of the log
pub gives : (laws : LogLaws) (rules : Rules Tables) (bytes : List ℕ) (old new : Walk) (e : Entry) → Stands rules bytes old → IsMoved rules bytes old new (e ∷ []) → ReadsNext rules bytes old new e
gives laws rules bytes old new e s m =
    let o = on laws rules bytes old new (e ∷ []) s m in
    let more = (laws.steps rules).entries bytes new.at _ o.reaches in
    let end = (laws.entries rules).ends bytes old.at _ _ e s.reaches o.stepped refl in (
      record { before = s.past; later = more.0; are = more.1 ∙ append_assoc s.past (e ∷ []) more.0; count = s.given },
      given_at rules bytes old new e s m.begun _ refl ((laws.entries rules).opens bytes old.at _ _ s.reaches o.stepped),
      subst (λ z. EntryEndsAt rules bytes z new.at) s.given (subst (λ z. EntryEndsAt rules bytes (length s.past) z) (sym m.place) end),
      m.given,
    )

-- ---- where the walk ends, the log does

record EndsSo (rules : Rules Tables) (bytes : List ℕ) (walk : Walk) (why : Option Why) (s : Stands rules bytes walk) : Type 0 where
  log : log_meant rules bytes ≡ log_of (state_with s.past walk) walk.at why
  base : knows_base rules bytes ≡ is_base_known (state_of walk.progress).place why

ends_so : (laws : LogLaws) (rules : Rules Tables) (bytes : List ℕ) (walk : Walk) (why : Option Why) (s : Stands rules bytes walk) →
    next_state rules walk.at (state_of walk.progress) (drop walk.at bytes) ≡ Err why → EndsSo rules bytes walk why s
ends_so laws rules bytes walk why s h =
    let stopped = past_turn laws rules walk.at (state_of walk.progress) (drop walk.at bytes) s.past refl ∙ ap (λ r. result_with_past s.past r) h in
    let e = (laws.steps rules).ends bytes walk.at (state_with s.past walk) why s.reaches stopped in
    record { log = e.0; base = e.1 }

pub ends : (laws : LogLaws) (rules : Rules Tables) (bytes : List ℕ) (walk : Walk) (why : Option Why) → Stands rules bytes walk → next_state rules walk.at (state_of walk.progress) (drop walk.at bytes) ≡ Err why →
    (length (log_meant rules bytes).entries ≡ walk.given) × ((log_meant rules bytes).fault ≡ at_place walk.at why)
ends laws rules bytes walk why s h =
    let is = (ends_so laws rules bytes walk why s h).log in
    (ap (λ (z : Log). length z.entries) is ∙ s.given, ap (λ (z : Log). z.fault) is)

-- and where nothing is wrong, less than an event is left
left_there : (laws : LogLaws) (rules : Rules Tables) (bytes : List ℕ) (walk : Walk) (why : Option Why) → next_state rules walk.at (state_of walk.progress) (drop walk.at bytes) ≡ Err why → IsLeft why (drop walk.at bytes)
left_there laws rules bytes walk None h = (laws.steps rules).part walk.at (state_of walk.progress) (drop walk.at bytes) h
left_there laws rules bytes walk (Some why) h = tt

-- ---- whether the base is known

late : (standing : Standing) (maps : Tables) (work : Work) → is_early standing ≡ false → is_base_known (place_of standing maps work) None ≡ true
late Front maps work h = absurd (cc)
late (Between true) maps work h = absurd (cc)
late (Between false) maps work h = refl
late (Named g size) maps work h = refl
late (Inside g size) maps work h = refl

unknown : (standing : Standing) (maps : Tables) (work : Work) → is_base_known (place_of standing maps work) None ≡ true → is_early standing ≡ false
unknown Front maps work h = absurd (cc)
unknown (Between true) maps work h = absurd (cc)
unknown (Between false) maps work h = refl
unknown (Named g size) maps work h = refl
unknown (Inside g size) maps work h = refl

-- once it isn't early any more, it stays so
pub stays_late : (laws : LogLaws) (rules : Rules Tables) (bytes : List ℕ) (old new : Walk) (entries : List Entry) → IsMoved rules bytes old new entries → is_early old.progress.standing ≡ false → is_early new.progress.standing ≡ false
stays_late laws rules bytes old new entries m h =
    unknown new.progress.standing new.progress.maps (work_in new.progress)
    ((laws.steps rules).known old.at (state_of old.progress) _ (drop old.at bytes) (late old.progress.standing old.progress.maps (work_in old.progress) h) m.next)

-- the base that was taken is the log's
pub base_late : (laws : LogLaws) (rules : Rules Tables) (bytes : List ℕ) (walk : Walk) → Stands rules bytes walk → is_early walk.progress.standing ≡ false →
    (knows_base rules bytes ≡ true) × ((log_meant rules bytes).base ≡ walk.progress.base)
base_late laws rules bytes walk s h = (laws.steps rules).base bytes walk.at (state_with s.past walk) s.reaches (late walk.progress.standing walk.progress.maps (work_in walk.progress) h)

pub base_stuck : (laws : LogLaws) (rules : Rules Tables) (bytes : List ℕ) (walk : Walk) → IsStuck rules bytes walk → (log_meant rules bytes).base ≡ walk.progress.base
base_stuck laws rules bytes walk s = ap (λ (z : Log). z.base) (ends_so laws rules bytes walk (Some s.why) s.stands s.refused).log

known_first : (standing : Standing) (maps : Tables) (work : Work) (why : Why) → standing ≡ Between true → is_base_known (place_of standing maps work) (Some why) ≡ true
known_first standing maps work why h = ap (λ z. is_base_known (place_of z maps work) (Some why)) h

pub knows_stuck : (laws : LogLaws) (rules : Rules Tables) (bytes : List ℕ) (walk : Walk) → IsStuck rules bytes walk → knows_base rules bytes ≡ true
knows_stuck laws rules bytes walk s =
    (ends_so laws rules bytes walk (Some s.why) s.stands s.refused).base ∙ known_first walk.progress.standing walk.progress.maps (work_in walk.progress) s.why s.first

-- the walk ends early: the base is known where the event there was refused behind the format description
pub ends_early : (laws : LogLaws) (rules : Rules Tables) (bytes : List ℕ) (walk : Walk) (why : Option Why) → Stands rules bytes walk → next_state rules walk.at (state_of walk.progress) (drop walk.at bytes) ≡ Err why →
    knows_base rules bytes ≡ is_base_known (state_of walk.progress).place why
ends_early laws rules bytes walk why s h = (ends_so laws rules bytes walk why s h).base

-- no event is taken there
pub not_moved : (rules : Rules Tables) (bytes : List ℕ) (old new : Walk) (entries : List Entry) → IsStuck rules bytes old → IsMoved rules bytes old new entries → ⊥
not_moved rules bytes old new entries s m =
    let k : ◌≡◌ {A = Result (State Tables) (Option Why)} (Err (Some s.why)) (Ok (with_entries entries (state_of new.progress))) = sym s.refused ∙ m.next in
    absurd (cc)

-- ---- more bytes

begun_more : (laws : LogLaws) (rules : Rules Tables) (bytes piece : List ℕ) (standing : Standing) (at : ℕ) → IsBegunAt rules bytes standing at → IsBegunAt rules (bytes ++ piece) standing at
begun_more laws rules bytes piece Front at b = tt
begun_more laws rules bytes piece (Between first) at b = tt
begun_more laws rules bytes piece (Named g size) at b = (laws.growth rules bytes piece).begins g at b
begun_more laws rules bytes piece (Inside g size) at b = (laws.growth rules bytes piece).begins g at b

stands_more : (laws : LogLaws) (rules : Rules Tables) (bytes piece : List ℕ) (walk : Walk) → Stands rules bytes walk → Stands rules (bytes ++ piece) walk
stands_more laws rules bytes piece walk s = record {
  past = s.past;
  reaches = (laws.steps rules).longer bytes piece walk.at (state_with s.past walk) s.reaches;
  given = s.given;
  few = s.few;
  begun = begun_more laws rules bytes piece walk.progress.standing walk.begun s.begun;
}

pub held_more : (laws : LogLaws) (rules : Rules Tables) (bytes piece : List ℕ) (walk : Walk) → IsFresh walk ⊎ Stands rules bytes walk → IsFresh walk ⊎ Stands rules (bytes ++ piece) walk
held_more laws rules bytes piece walk (◌⊎◌.inl f) = ◌⊎◌.inl f
held_more laws rules bytes piece walk (◌⊎◌.inr s) = ◌⊎◌.inr (stands_more laws rules bytes piece walk s)

stuck_more : (laws : LogLaws) (rules : Rules Tables) (bytes piece : List ℕ) (walk : Walk) → IsStuck rules bytes walk → IsStuck rules (bytes ++ piece) walk
stuck_more laws rules bytes piece walk s = record {
  stands = stands_more laws rules bytes piece walk s.stands;
  first = s.first;
  why = s.why;
  refused = ap (λ z. next_state rules walk.at (state_of walk.progress) z) (drop-append-le walk.at bytes piece (stands_within laws rules bytes walk s.stands))
      ∙ (laws.steps rules).refused walk.at (state_of walk.progress) (drop walk.at bytes) piece s.why s.refused;
}

-- more bytes behind a base that is known
pub walk_more : (laws : LogLaws) (rules : Rules Tables) (bytes piece : List ℕ) (walk : Walk) (refused : Bool) → IsWalk rules bytes walk refused → (refused ≡ true) ⊎ (is_early walk.progress.standing ≡ false) → IsWalk rules (bytes ++ piece) walk refused
walk_more laws rules bytes piece walk refused w (◌⊎◌.inl known) =
    let stuck = stuck_more laws rules bytes piece walk (w.stuck known) in
    record {
      stands = held_more laws rules bytes piece walk w.stands;
      early = λ h. ((w.early h).0, knows_stuck laws rules (bytes ++ piece) walk stuck ∙ sym known);
      stuck = λ h. stuck;
    }
walk_more laws rules bytes piece walk refused w (◌⊎◌.inr known) = record {
  stands = held_more laws rules bytes piece walk w.stands;
  early = λ h. let k : true ≡ false = sym h ∙ known in absurd (cc);
  stuck = λ h. stuck_more laws rules bytes piece walk (w.stuck h);
}

-- ---- bytes without a whole magic

pub none_given : (laws : LogLaws) (rules : Rules Tables) (bytes : List ℕ) (walk : Walk) (refused : Bool) → IsWalk rules bytes walk refused → (has_magic bytes ≡ false) ⊎ (length bytes < 4) → walk.given ≡ 0
none_given laws rules bytes walk refused w h = go w.stands h where
  magic_held : Stands rules bytes walk → (has_magic bytes ≡ true) × (4 ≤ length bytes)
  magic_held s = let w = (laws.steps rules).within bytes walk.at (state_with s.past walk) s.reaches in (w.0, w.1)

  go : IsFresh walk ⊎ Stands rules bytes walk → (has_magic bytes ≡ false) ⊎ (length bytes < 4) → walk.given ≡ 0
  go (◌⊎◌.inl f) k = f.given
  go (◌⊎◌.inr s) (◌⊎◌.inl k) = let e : true ≡ false = sym (magic_held s).0 ∙ k in absurd (cc)
  go (◌⊎◌.inr s) (◌⊎◌.inr k) = let e : 4 ≤ length bytes = (magic_held s).1 in absurd (omega (arith, e, k))

-- ---- a walk up to the next entry

-- what a walk keeps that gives no entry
pub record Goes (rules : Rules Tables) (bytes : List ℕ) (old now : Walk) : Type 0 where
  pub stands : Stands rules bytes now
  pub given : now.given ≡ old.given
  pub later : old.at ≤ now.at
  pub early : is_early now.progress.standing ≡ true → is_early old.progress.standing ≡ true
  pub stuck : IsStuck rules bytes old → IsStuck rules bytes now

pub goes_first : (rules : Rules Tables) (bytes : List ℕ) (old : Walk) → Stands rules bytes old → Goes rules bytes old old
goes_first rules bytes old s = record { stands = s; given = refl; later = omega arith; early = λ h. h; stuck = λ h. h }

was_early : (laws : LogLaws) (rules : Rules Tables) (bytes : List ℕ) (old new : Walk) (entries : List Entry) → IsMoved rules bytes old new entries → (b : Bool) → is_early old.progress.standing ≡ b → is_early new.progress.standing ≡ true → b ≡ true
was_early laws rules bytes old new entries m true p h = refl
was_early laws rules bytes old new entries m false p h = let k : true ≡ false = sym h ∙ stays_late laws rules bytes old new entries m p in absurd (cc)

pub goes_on : (laws : LogLaws) (rules : Rules Tables) (bytes : List ℕ) (old now new : Walk) → Goes rules bytes old now → IsMoved rules bytes now new [] → Goes rules bytes old new
goes_on laws rules bytes old now new g m = record {
  stands = stands_on laws rules bytes now new [] (omega arith) g.stands m;
  given = omega (arith, m.given, g.given);
  later = omega (arith, m.later, g.later);
  early = λ h. g.early (was_early laws rules bytes now new [] m _ refl h);
  stuck = λ s. absurd (not_moved rules bytes now new [] (g.stuck s) m);
}

-- all that is said of a walk that came to something
pub record Comes (rules : Rules Tables) (bytes : List ℕ) (old new : Walk) (to : Type 0) : Type 0 where
  pub stands : Stands rules bytes new
  pub reads : to
  pub later : old.at ≤ new.at
  pub early : is_early new.progress.standing ≡ true → is_early old.progress.standing ≡ true
  pub given : is_early new.progress.standing ≡ true → new.given ≡ old.given
  pub stuck : IsStuck rules bytes old → IsStuck rules bytes new

-- the event that was taken ends an entry
pub comes_to_entry : (laws : LogLaws) (rules : Rules Tables) (bytes : List ℕ) (old now new : Walk) (ended : Option Entry) → Goes rules bytes old now →
    IsSomeAnd ended (λ x. IsMoved rules bytes now new (x ∷ [])) → is_early now.progress.standing ≡ false → Comes rules bytes old new (IsSomeAnd ended (λ x. ReadsNext rules bytes old new x))
comes_to_entry laws rules bytes old now new None g m open_there = absurd m
comes_to_entry laws rules bytes old now new (Some e) g m open_there =
    let r = gives laws rules bytes now new e g.stands m in
    let late : is_early new.progress.standing ≡ false = stays_late laws rules bytes now new (e ∷ []) m open_there in
    let never : is_early new.progress.standing ≡ true → ⊥ = λ h. (let k : true ≡ false = sym h ∙ late in absurd (cc)) in
    record {
      stands = stands_on laws rules bytes now new (e ∷ []) (omega arith) g.stands m;
      reads = (subst (λ z. IsBehind z (log_meant rules bytes).entries e) g.given r.0, r.1, subst (λ z. EntryEndsAt rules bytes z new.at) g.given r.2, r.3 ∙ ap (λ z. z + 1) g.given);
      later = omega (arith, g.later, m.later);
      early = λ h. absurd (never h);
      given = λ h. absurd (never h);
      stuck = λ s. absurd (not_moved rules bytes now new (e ∷ []) (g.stuck s) m);
    }

-- no event is taken any more
pub comes_to_end : (laws : LogLaws) (rules : Rules Tables) (bytes : List ℕ) (old now new : Walk) (why : Option Why) → Goes rules bytes old now →
    next_state rules now.at (state_of now.progress) (drop now.at bytes) ≡ Err why → new ≡ now → Comes rules bytes old new (ReadsEnd rules bytes old new why)
comes_to_end laws rules bytes old now new why g h same =
    subst (λ z. Comes rules bytes old z (ReadsEnd rules bytes old z why)) (sym same)
    (
    let e = ends laws rules bytes now why g.stands h in
    record {
      stands = g.stands;
      reads = (e.0 ∙ g.given, e.1, g.given, left_there laws rules bytes now why h);
      later = g.later;
      early = g.early;
      given = λ k. g.given;
      stuck = g.stuck;
    })

pub comes_to_nothing : (laws : LogLaws) (rules : Rules Tables) (bytes : List ℕ) (old now new : Walk) → Goes rules bytes old now → new ≡ now → Comes rules bytes old new (new.given ≡ old.given)
comes_to_nothing laws rules bytes old now new g same =
    subst (λ z. Comes rules bytes old z (z.given ≡ old.given)) (sym same) (record { stands = g.stands; reads = g.given; later = g.later; early = g.early; given = λ h. g.given; stuck = g.stuck })

-- ---- a walk up to the first event that tells of the base

unknown_there : (standing : Standing) (maps : Tables) (work : Work) → is_early standing ≡ true → is_base_known (place_of standing maps work) None ≡ false
unknown_there Front maps work h = refl
unknown_there (Between true) maps work h = refl
unknown_there (Between false) maps work h = absurd (cc)
unknown_there (Named g size) maps work h = absurd (cc)
unknown_there (Inside g size) maps work h = absurd (cc)

-- no set changes before the base is known
sets_stay : (laws : LogLaws) (rules : Rules Tables) (bytes : List ℕ) (old new : Walk) → IsMoved rules bytes old new [] → is_early new.progress.standing ≡ true →
    (new.progress.base ≡ old.progress.base) × (new.progress.known ≡ old.progress.known)
sets_stay laws rules bytes old new m h =
    (laws.steps rules).early old.at (state_of old.progress) (with_entries [] (state_of new.progress)) (drop old.at bytes) m.next (unknown_there new.progress.standing new.progress.maps (work_in new.progress) h)

pub front_on : (laws : LogLaws) (rules : Rules Tables) (bytes : List ℕ) (first old new : Walk) → IsEarly rules bytes first old → IsMoved rules bytes old new [] → is_early new.progress.standing ≡ true → IsEarly rules bytes first new
front_on laws rules bytes first old new f m h =
    let k = sets_stay laws rules bytes old new m h in
    record {
      stands = stands_on laws rules bytes old new [] (omega arith) f.stands m;
      early = h;
      given = omega (arith, m.given, f.given);
      later = omega (arith, f.later, m.later);
      base = k.0 ∙ f.base;
      known = k.1 ∙ f.known;
    }

pub front_ends : (laws : LogLaws) (rules : Rules Tables) (bytes : List ℕ) (first old new : Walk) → IsEarly rules bytes first old → IsMoved rules bytes old new [] → is_early new.progress.standing ≡ false → IsWalk rules bytes new false
front_ends laws rules bytes first old new f m h = record {
  stands = ◌⊎◌.inr (stands_on laws rules bytes old new [] (omega arith) f.stands m);
  early = λ k. let e : true ≡ false = sym k ∙ h in absurd (cc);
  stuck = λ k. absurd (cc);
}

pub front_unmagic : (rules : Rules Tables) (bytes : List ℕ) (walk : Walk) → IsFresh walk ⊎ Stands rules bytes walk → walk.given ≡ 0 → knows_base rules bytes ≡ false → IsWalk rules bytes walk false
front_unmagic rules bytes walk s g k = record { stands = s; early = λ h. (g, k); stuck = λ h. absurd (cc) }

pub front_stops : (laws : LogLaws) (rules : Rules Tables) (bytes : List ℕ) (first walk : Walk) (why : Option Why) → IsEarly rules bytes first walk → next_state rules walk.at (state_of walk.progress) (drop walk.at bytes) ≡ Err why →
    IsWalk rules bytes walk (is_refused walk.progress.standing why)
front_stops laws rules bytes first walk why f h = record {
  stands = ◌⊎◌.inr f.stands;
  early = λ k. (f.given, ends_early laws rules bytes walk why f.stands h ∙ same walk.progress.standing why f.early);
  stuck = λ k. stuck walk.progress.standing why refl f.early k h;
}
  where
    same : (standing : Standing) (why : Option Why) → is_early standing ≡ true → is_base_known (place_of standing walk.progress.maps (work_in walk.progress)) why ≡ is_refused standing why
    same Front why e = refl
    same (Between true) None e = refl
    same (Between true) (Some w) e = refl
    same (Between false) why e = absurd (cc)
    same (Named g size) why e = absurd (cc)
    same (Inside g size) why e = absurd (cc)

    stuck : (standing : Standing) (why : Option Why) → walk.progress.standing ≡ standing → is_early standing ≡ true → is_refused standing why ≡ true →
        next_state rules walk.at (state_of walk.progress) (drop walk.at bytes) ≡ Err why → IsStuck rules bytes walk
    stuck Front why p e r h = absurd (cc)
    stuck (Between true) None p e r h = absurd (cc)
    stuck (Between true) (Some w) p e r h = record { stands = f.stands; first = p; why = w; refused = h }
    stuck (Between false) why p e r h = absurd (cc)
    stuck (Named g size) why p e r h = absurd (cc)
    stuck (Inside g size) why p e r h = absurd (cc)

-- a walk that has taken an event, or is over bytes with the magic, stands
pub starts : (laws : LogLaws) (rules : Rules Tables) (bytes : List ℕ) (walk : Walk) → IsFresh walk ⊎ Stands rules bytes walk → ((has_magic bytes ≡ true) × (4 ≤ length bytes)) ⊎ (4 < walk.at) → Stands rules bytes walk
starts laws rules bytes walk (◌⊎◌.inl f) (◌⊎◌.inl m) = fresh_stands laws rules bytes walk f m.0 m.1
starts laws rules bytes walk (◌⊎◌.inl f) (◌⊎◌.inr l) = absurd (omega (arith, f.at, l))
starts laws rules bytes walk (◌⊎◌.inr s) k = s

pub front_starts : (laws : LogLaws) (rules : Rules Tables) (bytes : List ℕ) (walk : Walk) → IsFresh walk ⊎ Stands rules bytes walk → is_early walk.progress.standing ≡ true → walk.given ≡ 0 →
    ((has_magic bytes ≡ true) × (4 ≤ length bytes)) ⊎ (4 < walk.at) → IsEarly rules bytes walk walk
front_starts laws rules bytes walk s e g k = record { stands = starts laws rules bytes walk s k; early = e; given = g; later = omega arith; base = refl; known = refl }

pub front_none : (laws : LogLaws) (rules : Rules Tables) (bytes : List ℕ) (walk : Walk) → IsFresh walk ⊎ Stands rules bytes walk → walk.given ≡ 0 → has_magic bytes ≡ false → IsWalk rules bytes walk false
front_none laws rules bytes walk s g h = front_unmagic rules bytes walk s g ((laws.steps rules).unread bytes h).1

pub front_short : (laws : LogLaws) (rules : Rules Tables) (bytes : List ℕ) (walk : Walk) → IsFresh walk ⊎ Stands rules bytes walk → walk.given ≡ 0 → length bytes < 4 → IsWalk rules bytes walk false
front_short laws rules bytes walk s g l = go (has_magic bytes) refl where
  go : (b : Bool) → has_magic bytes ≡ b → IsWalk rules bytes walk false
  go true h = front_unmagic rules bytes walk s g ((laws.steps rules).short bytes h l).1
  go false h = front_none laws rules bytes walk s g h

pub front_stopped : (laws : LogLaws) (rules : Rules Tables) (bytes : List ℕ) (first old new : Walk) (why : Option Why) (refused : Bool) → IsEarly rules bytes first old →
    next_state rules old.at (state_of old.progress) (drop old.at bytes) ≡ Err why → new ≡ old → refused ≡ is_refused new.progress.standing why → IsWalk rules bytes new refused
front_stopped laws rules bytes first old new why refused f h same r =
    subst (λ z. IsWalk rules bytes new z) (sym r) (subst (λ z. IsWalk rules bytes z (is_refused z.progress.standing why)) (sym same) (front_stops laws rules bytes first old why f h))

-- ---- what a reader says of the base

fresh_early : (walk : Walk) → IsFresh walk → is_early walk.progress.standing ≡ true
fresh_early walk f = go walk.progress.standing (ap (λ (s : State Tables). s.place) f.progress) where
  go : (standing : Standing) → place_of standing walk.progress.maps (work_in walk.progress) ≡ place.Front → is_early standing ≡ true
  go Front h = refl
  go (Between first) h = absurd (cc)
  go (Named g size) h = absurd (cc)
  go (Inside g size) h = absurd (cc)

-- the base is known where a walk has passed the event that tells of it, or that event is refused
pub knows : (laws : LogLaws) (rules : Rules Tables) (bytes : List ℕ) (walk : Walk) (refused : Bool) → IsWalk rules bytes walk refused → (refused ≡ true) ⊎ (is_early walk.progress.standing ≡ false) →
    (knows_base rules bytes ≡ true) × (walk.progress.base ≡ (log_meant rules bytes).base)
knows laws rules bytes walk refused w (◌⊎◌.inl h) = (knows_stuck laws rules bytes walk (w.stuck h), sym (base_stuck laws rules bytes walk (w.stuck h)))
knows laws rules bytes walk refused w (◌⊎◌.inr h) = go w.stands where
  go : IsFresh walk ⊎ Stands rules bytes walk → (knows_base rules bytes ≡ true) × (walk.progress.base ≡ (log_meant rules bytes).base)
  go (◌⊎◌.inl f) = let k : true ≡ false = sym (fresh_early walk f) ∙ h in absurd (cc)
  go (◌⊎◌.inr s) = let b = base_late laws rules bytes walk s h in (b.0, sym b.1)

pub knows_not : (laws : LogLaws) (rules : Rules Tables) (bytes : List ℕ) (walk : Walk) (refused : Bool) → IsWalk rules bytes walk refused → refused ≡ false → is_early walk.progress.standing ≡ true →
    (knows_base rules bytes ≡ false) × ((log_meant rules bytes).base ≡ [])
knows_not laws rules bytes walk refused w h e = let k = (w.early e).1 ∙ h in (k, (laws.base rules bytes).unknown k)

-- a reader that was fed nothing
pub walk_new : (laws : LogLaws) (rules : Rules Tables) (walk : Walk) → IsFresh walk → IsWalk rules [] walk false
walk_new laws rules walk f = front_short laws rules [] walk (◌⊎◌.inl f) f.given (omega arith)

-- what a reader answers where the magic isn't whole, or wrong

pub refuses_magic : (laws : LogLaws) (rules : Rules Tables) (bytes : List ℕ) (walk : Walk) (refused : Bool) → IsWalk rules bytes walk refused → has_magic bytes ≡ false →
    (walk.given ≡ length (log_meant rules bytes).entries) × ((log_meant rules bytes).fault ≡ Some (0, BadMagic))
refuses_magic laws rules bytes walk refused w h =
    let is = ((laws.steps rules).unread bytes h).0 in
    (none_given laws rules bytes walk refused w (◌⊎◌.inl h) ∙ ap (λ (z : Log). length z.entries) (sym is), ap (λ (z : Log). z.fault) is)

pub wants_magic : (laws : LogLaws) (rules : Rules Tables) (bytes : List ℕ) (walk : Walk) (refused : Bool) → IsWalk rules bytes walk refused → has_magic bytes ≡ true → length bytes < 4 →
    (walk.given ≡ length (log_meant rules bytes).entries) × ((log_meant rules bytes).fault ≡ None)
wants_magic laws rules bytes walk refused w h l =
    let is = ((laws.steps rules).short bytes h l).0 in
    (none_given laws rules bytes walk refused w (◌⊎◌.inr l) ∙ ap (λ (z : Log). length z.entries) (sym is), ap (λ (z : Log). z.fault) is)
