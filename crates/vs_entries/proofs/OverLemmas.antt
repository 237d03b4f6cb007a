-- A walk that is put back, and one over bytes of which some were let go.
use Rattle.std.proofs.Common.{◌≡◌, ◌≤◌, ◌<◌, ℕ, Bool, true, false, List, [], ◌++◌, length, length-drop, drop, Option, Some, None, Err, refl, ap, sym, subst, ◌∙◌, arith}
use Rattle.std.specs.Prelude.{◌⊎◌}
use Rattle.std.proofs.lemmas.Bool.{cases_lt}
use Rattle.vs_gtid.specs.declared.Work.{Work}
use Rattle.vs_base.specs.declared.Why.{Why}
use Rattle.vs_gtid.specs.Positions.{Position}
use Rattle.vs_rows.specs.Tables.{Tables}
use Rattle.vs_schema.specs.declared.schema.Schema.{Schema}
use Rattle.vs_log.specs.States.{State}
use Rattle.vs_log.specs.Events.{IsPart}
use Rattle.vs_log.specs.Meaning.{has_magic, log_meant}
use Rattle.vs_log.specs.Steps.{Reaches, next_state}
use Rattle.vs_log.specs.Table.{Rules}
use Rattle.vs_entries.specs.Laws.{LogLaws}
use Rattle.vs_entries.specs.Pieces.{Fed, GivesEntry, log_fed}
use Rattle.vs_entries.specs.Reading.{is_early, place_of, state_of, with_entries, work_in}
use Rattle.vs_entries.specs.Rules.{rules_of}
use Rattle.vs_entries.specs.Walks.{IsBack, IsBegunAt, IsEarly, IsFresh, IsOver, IsStuck, IsWalk, KeepsFault, ReadsEnd, Stands, Tells}
use Rattle.vs_entries.specs.Windows.{TellsMagic, Windowed}
use Rattle.vs_entries.specs.declared.magic.Magic.{Magic}
use Rattle.vs_entries.specs.declared.magic.Magic.TheVariants.{Whole, Part, Wrong}
use Rattle.vs_entries.specs.declared.fault.Fault.{Fault}
use Rattle.vs_entries.specs.declared.standing.Standing.{Standing}
use Rattle.vs_entries.specs.declared.standing.Standing.TheVariants.{Front, Between, Named, Inside}
use Rattle.vs_entries.specs.declared.took.LogRefusal.{LogRefusal}
use Rattle.vs_entries.specs.declared.took.LogRefusal.TheVariants.{BadLog, Memory}
use Rattle.vs_entries.specs.declared.walk.Walk.{Walk}
use Rattle.vs_entries.proofs.WalkLemmas.{front_none, front_short, front_starts, stands_within, starts, walk_more, walk_new}

-- ---- a walk that is put back where it began

place_early : (standing : Standing) (maps more : Tables) (work later : Work) → is_early standing ≡ true → place_of standing maps work ≡ place_of standing more later
place_early Front maps more work later h = refl
place_early (Between first) maps more work later h = refl
place_early (Named g size) maps more work later h = absurd (cc)
place_early (Inside g size) maps more work later h = absurd (cc)

state_early : (base base2 known known2 : Position) (standing : Standing) (maps more : Tables) (work later : Work) → base ≡ base2 → known ≡ known2 → is_early standing ≡ true →
    ◌≡◌ {A = State Tables} (record { base = base; entries = []; known = known; place = place_of standing maps work }) (record { base = base2; entries = []; known = known2; place = place_of standing more later })
state_early base base2 known known2 standing maps more work later b k h =
    ap (λ z. record { base = z; entries = []; known = known; place = place_of standing maps work }) b
    ∙ ap (λ z. record { base = base2; entries = []; known = z; place = place_of standing maps work }) k
    ∙ ap (λ z. record { base = base2; entries = []; known = known2; place = z }) (place_early standing maps more work later h)

-- a walk that is put back where it began
pub front_back : (rules : Rules Tables) (bytes : List ℕ) (first now : Walk) → is_early first.progress.standing ≡ true → first.given ≡ 0 → IsEarly rules bytes first now →
    IsBack first (record { at = first.at; begun = first.begun; given = now.given; progress = record now.progress { standing = first.progress.standing } })
front_back rules bytes first now e g f = record {
  at = refl;
  begun = refl;
  given = f.given ∙ sym g;
  standing = refl;
  state = state_early now.progress.base first.progress.base now.progress.known first.progress.known first.progress.standing now.progress.maps first.progress.maps (work_in now.progress) (work_in first.progress) f.base f.known e;
}

stands_back : (rules : Rules Tables) (bytes : List ℕ) (old new : Walk) → IsBack old new → Stands rules bytes old → Stands rules bytes new
stands_back rules bytes old new b s = record {
  past = s.past;
  reaches = subst (λ z. Reaches rules bytes z (with_entries s.past (state_of new.progress))) (sym b.at) (subst (λ z. Reaches rules bytes old.at (with_entries s.past z)) (sym b.state) s.reaches);
  given = s.given ∙ sym b.given;
  few = omega (arith, s.few, b.at, b.given);
  begun = subst (λ z. IsBegunAt rules bytes z new.begun) (sym b.standing) (subst (λ z. IsBegunAt rules bytes old.progress.standing z) (sym b.begun) s.begun);
}

stuck_back : (rules : Rules Tables) (bytes : List ℕ) (old new : Walk) → IsBack old new → IsStuck rules bytes old → IsStuck rules bytes new
stuck_back rules bytes old new b s = record {
  stands = stands_back rules bytes old new b s.stands;
  first = b.standing ∙ s.first;
  why = s.why;
  refused = ap (λ z. next_state rules z (state_of new.progress) (drop z bytes)) b.at ∙ ap (λ z. next_state rules old.at z (drop old.at bytes)) b.state ∙ s.refused;
}

walk_back : (rules : Rules Tables) (bytes : List ℕ) (old new : Walk) (refused : Bool) → IsBack old new → IsWalk rules bytes old refused → IsWalk rules bytes new refused
walk_back rules bytes old new refused b w = record {
  stands = back w.stands;
  early = λ h. (let k = w.early (ap is_early (sym b.standing) ∙ h) in (b.given ∙ k.0, k.1));
  stuck = λ h. stuck_back rules bytes old new b (w.stuck h);
}
  where
    back : IsFresh old ⊎ Stands rules bytes old → IsFresh new ⊎ Stands rules bytes new
    back (◌⊎◌.inl f) = ◌⊎◌.inl (record { at = b.at ∙ f.at; given = b.given ∙ f.given; progress = b.state ∙ f.progress })
    back (◌⊎◌.inr s) = ◌⊎◌.inr (stands_back rules bytes old new b s)

-- ---- the walk over a window

-- the magic is there to be tested, or was passed
pub behind_magic : (window : Windowed) (walk : Walk) → (window.from ≡ 0) ⊎ (4 < walk.at) → TellsMagic window Whole → ((has_magic window.bytes ≡ true) × (4 ≤ length window.bytes)) ⊎ (4 < walk.at)
behind_magic window walk (◌⊎◌.inl z) m = ◌⊎◌.inl (m z)
behind_magic window walk (◌⊎◌.inr l) m = ◌⊎◌.inr l

-- what a reader lets go lies before the walk, and behind the magic
pub over_room : (rules : Rules Tables) (old new : Windowed) (walk : Walk) (refused : Bool) → IsOver rules old walk refused → new.bytes ≡ old.bytes → new.from ≤ walk.at → (walk.at ≤ 4 → new.from ≡ old.from) → IsOver rules new walk refused
over_room rules old new walk refused o same from stays = record {
  is = subst (λ z. IsWalk rules z walk refused) (sym same) o.is;
  from = from;
  begun = go (cases_lt 4 walk.at) o.begun;
}
  where
    go : (4 < walk.at) ⊎ (walk.at ≤ 4) → (old.from ≡ 0) ⊎ (4 < walk.at) → (new.from ≡ 0) ⊎ (4 < walk.at)
    go (◌⊎◌.inl l) b = ◌⊎◌.inr l
    go (◌⊎◌.inr l) (◌⊎◌.inl z) = ◌⊎◌.inl (stays l ∙ z)
    go (◌⊎◌.inr l) (◌⊎◌.inr k) = ◌⊎◌.inr k

pub over_within : (laws : LogLaws) (rules : Rules Tables) (window : Windowed) (walk : Walk) (refused : Bool) → IsOver rules window walk refused → 4 < walk.at → walk.at ≤ length window.bytes
over_within laws rules window walk refused o l = stands_within laws rules window.bytes walk (starts laws rules window.bytes walk o.is.stands (◌⊎◌.inr l))

-- more bytes, where the base is known
pub over_more : (laws : LogLaws) (rules : Rules Tables) (window : Windowed) (piece : List ℕ) (walk : Walk) (refused : Bool) → IsOver rules window walk refused → (refused ≡ true) ⊎ (is_early walk.progress.standing ≡ false) →
    IsOver rules (record window { bytes = window.bytes ++ piece }) walk refused
over_more laws rules window piece walk refused o known = record { is = walk_more laws rules window.bytes piece walk refused o.is known; from = o.from; begun = o.begun }

on_begun : (from old new : ℕ) → old ≤ new → (from ≡ 0) ⊎ (4 < old) → (from ≡ 0) ⊎ (4 < new)
on_begun from old new h (◌⊎◌.inl z) = ◌⊎◌.inl z
on_begun from old new h (◌⊎◌.inr l) = ◌⊎◌.inr (omega (arith, h, l))

-- the walk goes on
pub over_on : (rules : Rules Tables) (old window : Windowed) (walk new : Walk) (was refused : Bool) → IsOver rules old walk was → window.from ≡ old.from → walk.at ≤ new.at → IsWalk rules window.bytes new refused → IsOver rules window new refused
over_on rules old window walk new was refused o same later w = record {
  is = w;
  from = omega (arith, o.from, same, later);
  begun = subst (λ z. (z ≡ 0) ⊎ (4 < new.at)) (sym same) (on_begun old.from walk.at new.at later o.begun);
}

pub over_back : (rules : Rules Tables) (old window : Windowed) (walk new : Walk) (refused : Bool) → IsOver rules old walk refused → window.bytes ≡ old.bytes → window.from ≡ old.from → IsBack walk new → IsOver rules window new refused
over_back rules old window walk new refused o bytes from b =
    over_on rules old window walk new refused refused o from (omega (arith, b.at)) (subst (λ z. IsWalk rules z new refused) (sym bytes) (walk_back rules old.bytes walk new refused b o.is))

pub over_new : (laws : LogLaws) (rules : Rules Tables) (window : Windowed) (walk : Walk) → IsFresh walk → window ≡ record { bytes = []; from = 0 } → IsOver rules window walk false
over_new laws rules window walk f is = subst (λ w. IsOver rules w walk false) (sym is) (record { is = walk_new laws rules walk f; from = omega arith; begun = ◌⊎◌.inl refl })

-- what a walk is that was read on, over the same bytes
walk_on : (rules : Rules Tables) (bytes : List ℕ) (old new : Walk) (refused : Bool) → IsWalk rules bytes old refused → Stands rules bytes new → (is_early new.progress.standing ≡ true → is_early old.progress.standing ≡ true) →
    (is_early new.progress.standing ≡ true → new.given ≡ old.given) → (IsStuck rules bytes old → IsStuck rules bytes new) → IsWalk rules bytes new refused
walk_on rules bytes old new refused w s early given stuck = record {
  stands = ◌⊎◌.inr s;
  early = λ h. (let k = w.early (early h) in (given h ∙ k.0, k.1));
  stuck = λ h. stuck (w.stuck h);
}

pub over_read : (keyspace said : List ℕ) (schema : Schema) (window : Windowed) (old new : Walk) (refused : Bool) → said ≡ keyspace → IsOver (rules_of keyspace schema) window old refused →
    Stands (rules_of said schema) window.bytes new → (is_early new.progress.standing ≡ true → is_early old.progress.standing ≡ true) → (is_early new.progress.standing ≡ true → new.given ≡ old.given) →
    (IsStuck (rules_of said schema) window.bytes old → IsStuck (rules_of said schema) window.bytes new) → old.at ≤ new.at → IsOver (rules_of keyspace schema) window new refused
over_read keyspace said schema window old new refused is o s early given stuck later =
    over_on (rules_of keyspace schema) window window old new refused refused o refl later
    (walk_on (rules_of keyspace schema) window.bytes old new refused o.is (subst (λ z. Stands (rules_of z schema) window.bytes new) is s) early given
    (subst (λ z. IsStuck (rules_of z schema) window.bytes old → IsStuck (rules_of z schema) window.bytes new) is stuck))

pub short_part : (at : ℕ) (bytes : List ℕ) → length bytes < 4 → IsPart (drop at bytes)
short_part at bytes h = ◌⊎◌.inl (omega (arith, length-drop at bytes, h))

pub past_magic : (from at : ℕ) → (from ≡ 0) ⊎ (4 < at) → (from ≡ 0 → ⊥) → 4 < at
past_magic from at (◌⊎◌.inl z) h = absurd (h z)
past_magic from at (◌⊎◌.inr l) h = l

-- ---- the magic

-- a walk behind the magic goes on
pub magic_starts : (laws : LogLaws) (rules : Rules Tables) (window : Windowed) (walk : Walk) → IsFresh walk ⊎ Stands rules window.bytes walk → is_early walk.progress.standing ≡ true → walk.given ≡ 0 →
    (window.from ≡ 0) ⊎ (4 < walk.at) → TellsMagic window Whole → IsEarly rules window.bytes walk walk
magic_starts laws rules window walk s e g begun m = front_starts laws rules window.bytes walk s e g (behind_magic window walk begun m)

-- where the magic is wrong, or isn't whole, nothing is known
pub magic_wanting : (laws : LogLaws) (rules : Rules Tables) (window : Windowed) (walk : Walk) (magic : Magic) → IsFresh walk ⊎ Stands rules window.bytes walk → walk.given ≡ 0 →
    TellsMagic window magic → (magic ≡ Whole → ⊥) → IsWalk rules window.bytes walk false
magic_wanting laws rules window walk Whole s g m other = absurd (other refl)
magic_wanting laws rules window walk Part s g m other = front_short laws rules window.bytes walk s g m.1
magic_wanting laws rules window walk Wrong s g m other = front_none laws rules window.bytes walk s g m

-- ---- a fault that is kept

pub fault_not : (rules : Rules Tables) (bytes : List ℕ) (given : ℕ) (fault : Option Fault) → ((x : Fault) → fault ≡ Some x → ⊥) → KeepsFault rules bytes given fault
fault_not rules bytes given None h = tt
fault_not rules bytes given (Some fault) h = absurd (h fault refl)

-- the one at which a walk ended
pub fault_found : (keyspace said : List ℕ) (schema : Schema) (bytes : List ℕ) (old new : Walk) (ended : Option Why) (why : Why) → said ≡ keyspace → ReadsEnd (rules_of said schema) bytes old new ended → ended ≡ Some why →
    KeepsFault (rules_of keyspace schema) bytes new.given (Some (record { offset = new.at; why = why }))
fault_found keyspace said schema bytes old new ended why same r e =
    let t = subst (λ z. ReadsEnd (rules_of said schema) bytes old new z) e r in
    subst (λ k. (new.given ≡ length (log_meant (rules_of k schema) bytes).entries) × ((log_meant (rules_of k schema) bytes).fault ≡ Some (new.at, why))) same (t.2 ∙ sym t.0, t.1)

-- it stays, whatever bytes come
pub fault_more : (laws : LogLaws) (rules : Rules Tables) (bytes piece : List ℕ) (given now : ℕ) (fault : Option Fault) → now ≡ given → KeepsFault rules bytes given fault → KeepsFault rules (bytes ++ piece) now fault
fault_more laws rules bytes piece given now None same k = tt
fault_more laws rules bytes piece given now (Some fault) same k =
    let stays = (laws.growth rules bytes piece).faulty (fault.offset, fault.why) k.1 in
    (same ∙ k.0 ∙ ap (λ l. length l.entries) (sym stays), ap (λ l. l.fault) stays ∙ k.1)

-- the same, where a window lets bytes go first
pub fault_fed : (laws : LogLaws) (rules : Rules Tables) (old mid new : Windowed) (piece : List ℕ) (given now : ℕ) (fault : Option Fault) → mid.bytes ≡ old.bytes → new ≡ record mid { bytes = mid.bytes ++ piece } → now ≡ given →
    KeepsFault rules old.bytes given fault → KeepsFault rules new.bytes now fault
fault_fed laws rules old mid new piece given now fault same is n k =
    subst (λ (w : Windowed). KeepsFault rules w.bytes now fault) (sym is) (subst (λ z. KeepsFault rules (z ++ piece) now fault) (sym same) (fault_more laws rules old.bytes piece given now fault n k))

-- a fault is told, or that memory ran out
pub tells_fault : (old : Fed) (at : ℕ) (fault : Fault) (refusal : LogRefusal) (spent : Bool) → old.spent ≡ false → old.given ≡ length (log_fed old).entries → (log_fed old).fault ≡ Some (fault.offset, fault.why) →
    Tells fault old.spent refusal spent → GivesEntry old (Err refusal) (record old { at = at; spent = spent })
tells_fault old at fault (BadLog offset why) spent s g f t =
    (s, g, f ∙ ap (λ z. Some (z, fault.why)) (sym t.0) ∙ ap (λ z. Some (offset, z)) (sym t.1), ap (λ z. record old { at = at; spent = z }) t.2)
tells_fault old at fault Memory spent s g f t = ap (λ z. record old { at = at; spent = z }) t
