-- What turns, vectors, lanes and journals have in common with no log beside them.
use Rattle.std.proofs.Common.{◌≡◌, ◌⊎◌, ◌||◌, ℕ, zero, suc, Bool, true, false, List, [], ◌∷◌, ◌++◌, Option, Some, None, IsFalse, slice_get, if◌then◌else◌, refl, ap, sym, ◌∙◌, subst, inl, inr, ⊎_elim, true≢false}
use Rattle.std.specs.List.{list_all, list_any, AllByRecursion}
use Rattle.std.specs.Option.{option_or}
use Rattle.std.proofs.lemmas.Bool.{and_parts, cases_Bool}
use Rattle.std.proofs.Math.Bool.{or-false}
use Rattle.vs_base.specs.declared.ShardName.{ShardName}
use Rattle.vs_base.specs.declared.Gtid.{Gtid}
use Rattle.vs_base.specs.Names.{same_name, same_gtid}
use Rattle.vs_base.proofs.NameLemmas.{same_name-is, same_name-refl}
use Rattle.vs_gtid.specs.declared.JournalValue.{JournalValue}
use Rattle.vs_gtid.specs.declared.Successor.{Successor}
use Rattle.vs_gtid.specs.declared.Entry.{Entry}
use Rattle.vs_gtid.specs.Joins.{added}
use Rattle.vs_gtid.specs.Journals.{same_journal}
use Rattle.vs_gtid.specs.Positions.{Position, has}
use Rattle.vs_gtid.specs.Vectors.{Vector, Place, IsCanonicalPlace, IsCanonicalVector, place_of, stands, is_in}
use Rattle.vs_gtid.proofs.JoinLemmas.{has-added}
use Rattle.vs_model.specs.Logs.{IsPositionAfter, journal_of, first_own, own_of, own_journal, is_own}
use Rattle.vs_model.proofs.Lists.{some_is_not_none, same_some}
use Rattle.vs_model.proofs.Places.{at_name, past_name}
use Rattle.vs_gather.specs.Gathering.{first_of, differs, clash_of, kept_with, has_id}
use Rattle.vs_gather.specs.declared.kept.Kept.{Kept}
use Rattle.vs_gather.specs.declared.refusal.GatherRefusal.{GatherRefusal}
use Rattle.vs_gather.specs.declared.refusal.GatherRefusal.TheVariants.{Differs, Clash}
use Rattle.vs_core.specs.declared.lane.LaneState.{LaneState}
use Rattle.vs_core.specs.declared.lane.LaneState.TheVariants.{Live, AtEnd, Failed, Over}
use Rattle.vs_core.specs.declared.refusal.CoreRefusal.{CoreRefusal}
use Rattle.vs_core.specs.Machine.{CoreState, Sent, TurnTold, is_live, states_of}
use Rattle.vs_core.specs.Machine.Turned.{Went, Refused}

-- a place of a canonical vector is canonical
pub canonical_at : (v : Vector) (s : ShardName) (place : Place) → place_of v s ≡ Some place → IsCanonicalVector v → IsCanonicalPlace place
canonical_at [] s place there all = absurd (some_is_not_none place (sym there))
canonical_at (slot ∷ v) s place there all = ⊎_elim
    (λ same. subst IsCanonicalPlace (same_some slot.1 place (sym (at_name v s slot same) ∙ there)) all.0)
    (λ other. canonical_at v s place (sym (past_name v s slot other) ∙ there) all.1)
    (cases_Bool (same_name slot.0 s))

-- what went is one thing
pub same_new : (a b : CoreState) (x y : List Sent) (t u : TurnTold) → Went a x t ≡ Went b y u → a ≡ b
same_new a b x y t u e = cc

pub same_sent : (a b : CoreState) (x y : List Sent) (t u : TurnTold) → Went a x t ≡ Went b y u → x ≡ y
same_sent a b x y t u e = cc

pub not_refused : (r : CoreRefusal) (b : CoreState) (y : List Sent) (u : TurnTold) → Refused r ≡ Went b y u → ⊥
not_refused r b y u e = cc

-- the position with the GTID
pub grown_by : (p : Position) (e : Entry) (g : Gtid) → e.gtid ≡ g → IsPositionAfter p (e ∷ []) (added p g)
grown_by p e g is x = has-added p g x ∙ ap (λ t. has p x || t) (sym (or-false (same_gtid g x)) ∙ ap (λ y. same_gtid y x || false) (sym is))

-- where none stands, each doesn't
pub none_stand : (v : Vector) (ns : List ShardName) → list_any (stands v) ns ≡ false → AllByRecursion (λ t. IsFalse (stands v t)) ns
none_stand v [] none = tt
none_stand v (n ∷ ns) none = ⊎_elim
    (λ is. absurd (true≢false (sym (ap (λ b. b || list_any (stands v) ns) is) ∙ none)))
    (λ is. (is, none_stand v ns (sym (ap (λ b. b || list_any (stands v) ns) is) ∙ none)))
    (cases_Bool (stands v n))

pub live_not_end : Live ≡ AtEnd → ⊥
live_not_end e = cc

pub live_not_failed : Live ≡ Failed → ⊥
live_not_failed e = cc

pub or_true : (b : Bool) → (b || true) ≡ true
or_true true = refl
or_true false = refl

-- a lane of the shard that is live shows
pub live_shows : (n : ShardName) (names : List ShardName) (states : List LaneState) (k : ℕ) → slice_get names k ≡ Some n → slice_get states k ≡ Some Live →
    list_any is_live (states_of n names states) ≡ true
live_shows n [] states k is live = absurd (some_is_not_none n (sym is))
live_shows n (m ∷ names) [] k is live = absurd (some_is_not_none Live (sym live))
live_shows n (m ∷ names) (st ∷ states) zero is live = rw (same_some m n is, same_name-refl n, same_some st Live live) refl
live_shows n (m ∷ names) (st ∷ states) (suc k) is live = by (same_name m n) refl (live_shows n names states k is live)
  where
    by : (b : Bool) → same_name m n ≡ b → list_any is_live (states_of n names states) ≡ true → list_any is_live (states_of n (m ∷ names) (st ∷ states)) ≡ true
    by true same on = rw same (ap (λ x. is_live st || x) on ∙ or_true (is_live st))
    by false other on = rw other on

pub live_not_over : Live ≡ Over → ⊥
live_not_over e = cc

-- each of the names passes, where all do
pub each_name : (t : ShardName → Bool) (ns : List ShardName) (m : ShardName) → list_all t ns ≡ true → is_in m ns ≡ true → t m ≡ true
each_name t [] m all is = absurd (true≢false (sym is))
each_name t (n ∷ ns) m all is = by (same_name m n) refl (each_name t ns m (and_parts (t n) (list_all t ns) all).1)
  where
    by : (b : Bool) → same_name m n ≡ b → (is_in m ns ≡ true → t m ≡ true) → t m ≡ true
    by true same on = ap t (same_name-is m n same) ∙ (and_parts (t n) (list_all t ns) all).0
    by false other on = on (sym (ap (λ b. b || is_in m ns) other) ∙ is)

-- a name among these and one more
pub in_append : (m n : ShardName) (ns : List ShardName) → is_in m (ns ++ n ∷ []) ≡ true → (is_in m ns ≡ true) ⊎ (same_name m n ≡ true)
in_append m n [] i = inr (sym (or-false (same_name m n)) ∙ i)
in_append m n (x ∷ ns) i = by (same_name m x) refl (in_append m n ns)
  where
    by : (b : Bool) → same_name m x ≡ b → (is_in m (ns ++ n ∷ []) ≡ true → (is_in m ns ≡ true) ⊎ (same_name m n ≡ true)) → (is_in m (x ∷ ns) ≡ true) ⊎ (same_name m n ≡ true)
    by true p on = inl (ap (λ b. b || is_in m ns) p)
    by false p on = ⊎_elim (λ h. inl (ap (λ b. b || is_in m ns) p ∙ h)) (λ h. inr h) (on (sym (ap (λ b. b || is_in m (ns ++ n ∷ [])) p) ∙ i))

pub none_first : (a b : Option GatherRefusal) → first_of a b ≡ None → (a ≡ None) × (b ≡ None)
none_first None b e = (refl, e)
none_first (Some x) b e = absurd (some_is_not_none x e)

pub not_differs : (c : Kept) (j : JournalValue) → differs (Some c) j ≡ None → same_journal c.journal j ≡ true
not_differs c j e = ⊎_elim (λ is. is)
    (λ is. absurd (some_is_not_none (Differs j.id c.journal j) (sym (ap (λ b. if b then None else Some (Differs j.id c.journal j)) is) ∙ e)))
    (cases_Bool (same_journal c.journal j))

pub no_clash : (j : JournalValue) (o : Option Successor) → clash_of j o ≡ None → o ≡ None
no_clash j None e = refl
no_clash j (Some n) e = absurd (some_is_not_none (Clash j.id n.name) e)

pub all_put : (P : Kept → Type 0) (c : Kept) (kept : List Kept) → P c → AllByRecursion P kept → AllByRecursion P (kept_with c kept)
all_put P c [] one all = (one, tt)
all_put P c (x ∷ xs) one all = by (has_id c.journal.id x) refl (all_put P c xs one all.1)
  where
    by : (b : Bool) → has_id c.journal.id x ≡ b → AllByRecursion P (kept_with c xs) → AllByRecursion P (kept_with c (x ∷ xs))
    by true p on = rw p (one, all.1)
    by false p on = rw p (all.0, on)

-- a journal at which a shard stops is its own
pub own_is : (s : ShardName) (o : Option JournalValue) (j : JournalValue) → own_of s o ≡ Some j → is_own s j ≡ true
own_is s None j e = absurd (some_is_not_none j (sym e))
own_is s (Some i) j e = ⊎_elim
    (λ is. ap (is_own s) (sym (same_some i j (sym (ap (λ b. if b then Some i else None) is) ∙ e))) ∙ is)
    (λ is. absurd (some_is_not_none j (sym (sym (ap (λ b. if b then Some i else None) is) ∙ e))))
    (cases_Bool (is_own s i))

pub first_own_is : (s : ShardName) (es : List Entry) (j : JournalValue) → first_own s es ≡ Some j → is_own s j ≡ true
first_own_is s [] j e = absurd (some_is_not_none j (sym e))
first_own_is s (x ∷ es) j e = by (own_journal s x) refl (first_own_is s es j)
  where
    by : (o : Option JournalValue) → own_journal s x ≡ o → (first_own s es ≡ Some j → is_own s j ≡ true) → is_own s j ≡ true
    by None p on = on (sym (ap (λ o. option_or o (first_own s es)) p) ∙ e)
    by (Some i) p on = own_is s (journal_of x.work) j (p ∙ sym (ap (λ o. option_or o (first_own s es)) p) ∙ e)
