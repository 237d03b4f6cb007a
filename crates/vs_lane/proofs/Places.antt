-- The place of a lane behind the entries that it passed, and what is due there.
use Rattle.std.proofs.Common.{◌≡◌, ◌||◌, Bool, true, false, not, cond, List, [], ◌∷◌, ◌++◌, append_assoc, append-nil, Some, None, refl, sym, ap, ◌∙◌, subst, true≢false}
use Rattle.std.specs.List.{list_any}
use Rattle.vs_base.specs.declared.ShardName.{ShardName}
use Rattle.vs_base.specs.declared.Gtid.{Gtid}
use Rattle.vs_base.specs.Names.{same_gtid}
use Rattle.vs_base.proofs.NameLemmas.{same_gtid-refl}
use Rattle.vs_gtid.specs.declared.Entry.{Entry}
use Rattle.vs_gtid.specs.declared.JournalValue.{JournalValue}
use Rattle.vs_gtid.specs.Joins.{added}
use Rattle.vs_gtid.specs.Logs.{Log, HaveDistinctGtids}
use Rattle.vs_gtid.specs.Positions.{IsSubset, Position, has}
use Rattle.vs_gtid.specs.Vectors.Place.{Streaming}
use Rattle.vs_gtid.proofs.JoinLemmas.{has-added}
use Rattle.vs_model.specs.Logs.{after, due, first_own, is_gtid_of, own_journal, stop, up_to_own}
use Rattle.vs_model.specs.Copy as copy
use Rattle.vs_model.specs.Copy.{picked}
use Rattle.vs_model.specs.Core as core
use Rattle.vs_model.specs.Core.{AreGiven, PlaceAfter}
use Rattle.vs_lane.specs.Stands.{IsAtEnd, lacking, position_after}
use Rattle.vs_lane.specs.Steps.{AreIn, but_last}

or_false : (b : Bool) → (b || false) ≡ b
or_false true = refl
or_false false = refl

or_assoc : (a b c : Bool) → ((a || b) || c) ≡ (a || (b || c))
or_assoc true b c = refl
or_assoc false b c = refl

pub has-after : (p : Position) (es : List Entry) (g : Gtid) → has (position_after p es) g ≡ (has p g || is_gtid_of es g)
has-after p [] g = sym (or_false (has p g))
has-after p (e ∷ es) g =
    has-after (added p e.gtid) es g ∙ ap (λ b. b || is_gtid_of es g) (has-added p e.gtid g) ∙ or_assoc (has p g) (same_gtid e.gtid g) (is_gtid_of es g)

-- entries of the position add nothing to those that it lacks
pub lacking_none : (p : Position) (es : List Entry) → AreIn p es → lacking p es ≡ []
lacking_none p [] h = refl
lacking_none p (e ∷ es) h = rw h.0 (lacking_none p es h.1)

pub lacking_cons : (p : Position) (e : Entry) (es : List Entry) (b : Bool) → has p e.gtid ≡ b → lacking p (e ∷ es) ≡ cond (not b) (e ∷ lacking p es) (lacking p es)
lacking_cons p e es b h = rw h refl

cond-append : (b : Bool) (e : Entry) (xs ys : List Entry) → cond b (e ∷ xs) xs ++ ys ≡ cond b (e ∷ xs ++ ys) (xs ++ ys)
cond-append true e xs ys = refl
cond-append false e xs ys = refl

pub lacking-append : (p : Position) (xs ys : List Entry) → lacking p (xs ++ ys) ≡ lacking p xs ++ lacking p ys
lacking-append p [] ys = refl
lacking-append p (x ∷ xs) ys =
    let b = has p x.gtid in
    ap (λ l. cond (not b) (x ∷ l) l) (lacking-append p xs ys) ∙ sym (cond-append (not b) x (lacking p xs) (lacking p ys))

after-append : (p : Position) (xs : List Entry) (e : Entry) → position_after p (xs ++ e ∷ []) ≡ added (position_after p xs) e.gtid
after-append p [] e = refl
after-append p (x ∷ xs) e = after-append (added p x.gtid) xs e

-- the place of a lane behind what it read; entries of its start count for nothing
pub entry_same : (p : Position) (read skipped : List Entry) → AreIn p skipped → position_after p (lacking p (read ++ skipped)) ≡ position_after p (lacking p read)
entry_same p read skipped h = ap (position_after p) (lacking-append p read skipped ∙ ap (λ l. lacking p read ++ l) (lacking_none p skipped h) ∙ append-nil (lacking p read))

pub entry_next : (p : Position) (read skipped : List Entry) (e : Entry) → AreIn p skipped → has p e.gtid ≡ false →
    position_after p (lacking p ((read ++ skipped) ++ e ∷ [])) ≡ added (position_after p (lacking p read)) e.gtid
entry_next p read skipped e h lacks =
    let one : lacking p (e ∷ []) ≡ e ∷ [] = lacking_cons p e [] false lacks in
    ap (position_after p) (lacking-append p (read ++ skipped) (e ∷ []) ∙ ap (λ l. lacking p (read ++ skipped) ++ l) one) ∙ after-append p (lacking p (read ++ skipped)) e
    ∙ ap (λ q. added q e.gtid) (entry_same p read skipped h)

-- so a transaction of that entry leads from the place before to the place behind
pub leads_to : (bound : copy.Bound) (p : Position) (e : Entry) → PlaceAfter (Streaming p) (core.Transaction (picked bound e)) (Streaming (added p e.gtid))
leads_to bound p e = (added p e.gtid, λ g. has-added p e.gtid g ∙ ap (λ b. has p g || b) (sym (or_false (same_gtid e.gtid g))), refl)

-- what is due, where the entries in front are in the position
pub after_front : (log : Log) (p : Position) (front rest : List Entry) → log.entries ≡ front ++ rest → AreIn p front → after log p ≡ lacking p rest
after_front log p front rest are h = ap (lacking p) are ∙ lacking-append p front rest ∙ ap (λ l. l ++ lacking p rest) (lacking_none p front h)

pub none_due : (s : ShardName) (log : Log) (p : Position) → AreIn p log.entries → IsAtEnd s log p
none_due s log p h = let none : after log p ≡ [] = lacking_none p log.entries h in (ap (up_to_own s) none, ap (first_own s) none)

module _ (s : ShardName) (log : Log) (p : Position) (front later : List Entry) (e : Entry) (are : log.entries ≡ front ++ e ∷ later) (h : AreIn p front) (lacks : has p e.gtid ≡ false) where
  is_next : after log p ≡ e ∷ lacking p later
  is_next = after_front log p front (e ∷ later) are h ∙ lacking_cons p e later false lacks

  own_or : own_journal s e ≡ None → up_to_own s (e ∷ lacking p later) ≡ e ∷ up_to_own s (lacking p later)
  own_or none = rw none refl

  pub next_due : own_journal s e ≡ None → due s log p ≡ e ∷ up_to_own s (lacking p later)
  next_due none = ap (up_to_own s) is_next ∙ own_or none

  pub own_next : (j : JournalValue) → own_journal s e ≡ Some j → (due s log p ≡ []) × (stop s log p ≡ Some j)
  own_next j own = (ap (up_to_own s) is_next ∙ rw own refl, ap (first_own s) is_next ∙ rw own refl)

  -- the transaction of the next due entry is what a lane may give from there
  pub given_next : (bound : copy.Bound) → own_journal s e ≡ None → AreGiven bound s log (core.Transaction (picked bound e) ∷ []) None (Streaming p)
  given_next bound none = record {
    told = picked bound e ∷ [];
    are = refl;
    due_ones = record { sent = e ∷ []; rest = up_to_own s (lacking p later); split = next_due none; each = (refl, tt) };
    own = tt;
  }

-- nothing is what a lane may give from anywhere; with its own journal next it may end there
pub given_none : (bound : copy.Bound) (s : ShardName) (log : Log) (p : Position) → AreGiven bound s log [] None (Streaming p)
given_none bound s log p = record { told = []; are = refl; due_ones = record { sent = []; rest = due s log p; split = refl; each = tt }; own = tt }

pub given_own : (bound : copy.Bound) (s : ShardName) (log : Log) (p : Position) (j : JournalValue) → due s log p ≡ [] → stop s log p ≡ Some j → AreGiven bound s log [] (Some j) (Streaming p)
given_own bound s log p j none ahead = record { told = []; are = refl; due_ones = record { sent = []; rest = []; split = none; each = tt }; own = (refl, ahead) }

-- the entries that were read are in the lane's place, and the next one isn't
or_right : (a b : Bool) → b ≡ true → (a || b) ≡ true
or_right true b h = refl
or_right false b h = h

in_after : (p : Position) (es : List Entry) (g : Gtid) → is_gtid_of es g ≡ true → has (position_after p es) g ≡ true
in_after p es g h = has-after p es g ∙ or_right (has p g) (is_gtid_of es g) h

or_left : (a b : Bool) → a ≡ true → (a || b) ≡ true
or_left true b h = refl
or_left false b h = absurd (true≢false (sym h))

kept_in : (b : Bool) (p : Position) (e : Entry) (es : List Entry) → has p e.gtid ≡ b → has (position_after p (lacking p (e ∷ es))) e.gtid ≡ true
kept_in true p e es h = has-after p (lacking p (e ∷ es)) e.gtid ∙ or_left (has p e.gtid) _ h
kept_in false p e es h = rw (lacking_cons p e es false h) (in_after p (e ∷ lacking p es) e.gtid (or_left (same_gtid e.gtid e.gtid) _ (same_gtid-refl e.gtid)))

wider : (a b c : Bool) → (a || c) ≡ true → (a || (b || c)) ≡ true
wider true b c h = refl
wider false true c h = refl
wider false false c h = h

one_more : (b : Bool) (p : Position) (x : Entry) (es : List Entry) (g : Gtid) → has p x.gtid ≡ b → has (position_after p (lacking p es)) g ≡ true → has (position_after p (lacking p (x ∷ es))) g ≡ true
one_more true p x es g h k = rw (lacking_cons p x es true h) k
one_more false p x es g h k = rw (lacking_cons p x es false h) (has-after p (x ∷ lacking p es) g ∙ wider (has p g) (same_gtid x.gtid g) (is_gtid_of (lacking p es) g) (sym (has-after p (lacking p es) g) ∙ k))

more_in : (p : Position) (front es : List Entry) (g : Gtid) → has (position_after p (lacking p es)) g ≡ true → has (position_after p (lacking p (front ++ es))) g ≡ true
more_in p [] es g h = h
more_in p (x ∷ front) es g h = one_more (has p x.gtid) p x (front ++ es) g refl (more_in p front es g h)

all_in : (p : Position) (front es : List Entry) → AreIn (position_after p (lacking p (front ++ es))) es
all_in p front [] = tt
all_in p front (e ∷ es) = (
  more_in p front (e ∷ es) e.gtid (kept_in (has p e.gtid) p e es refl),
  subst (λ l. AreIn (position_after p (lacking p l)) es) (append_assoc front (e ∷ []) es) (all_in p (front ++ e ∷ []) es),
)

pub read_in : (p : Position) (es : List Entry) → AreIn (position_after p (lacking p es)) es
read_in p es = all_in p [] es

-- ---- the next entry isn't among those that were read

or_false_left : (a b : Bool) → (a || b) ≡ false → a ≡ false
or_false_left true b h = absurd (true≢false h)
or_false_left false b h = refl

or_false_right : (a b : Bool) → (a || b) ≡ false → b ≡ false
or_false_right true b h = absurd (true≢false h)
or_false_right false b h = h

any_at : (x : Gtid) (front later : List Entry) (e : Entry) → list_any (λ (f : Entry). same_gtid x f.gtid) (front ++ e ∷ later) ≡ false → same_gtid x e.gtid ≡ false
any_at x [] later e h = or_false_left (same_gtid x e.gtid) _ h
any_at x (y ∷ front) later e h = any_at x front later e (or_false_right (same_gtid x y.gtid) _ h)

not_in_front : (front later : List Entry) (e : Entry) → HaveDistinctGtids (front ++ e ∷ later) → is_gtid_of front e.gtid ≡ false
not_in_front [] later e d = refl
not_in_front (x ∷ front) later e d = rw (any_at x.gtid front later e d.0) (not_in_front front later e d.1)

one_not : (b : Bool) (p : Position) (x : Entry) (es : List Entry) (g : Gtid) → has p x.gtid ≡ b → same_gtid x.gtid g ≡ false → is_gtid_of (lacking p es) g ≡ false → is_gtid_of (lacking p (x ∷ es)) g ≡ false
one_not true p x es g h apart k = rw (lacking_cons p x es true h) k
one_not false p x es g h apart k = rw (lacking_cons p x es false h, apart) k

lacking_not : (p : Position) (es : List Entry) (g : Gtid) → is_gtid_of es g ≡ false → is_gtid_of (lacking p es) g ≡ false
lacking_not p [] g h = refl
lacking_not p (x ∷ es) g h = one_not (has p x.gtid) p x es g refl (or_false_left (same_gtid x.gtid g) _ h) (lacking_not p es g (or_false_right (same_gtid x.gtid g) _ h))

pub not_in : (p : Position) (front later : List Entry) (e : Entry) → HaveDistinctGtids (front ++ e ∷ later) → has p e.gtid ≡ false → has (position_after p (lacking p front)) e.gtid ≡ false
not_in p front later e d lacks =
    has-after p (lacking p front) e.gtid ∙ ap (λ b. b || is_gtid_of (lacking p front) e.gtid) lacks ∙ lacking_not p front e.gtid (not_in_front front later e d)

-- ---- the entry that was read last

pub but_last-behind : (es : List Entry) (e : Entry) → but_last (es ++ e ∷ []) ≡ es
but_last-behind [] e = refl
but_last-behind (x ∷ []) e = refl
but_last-behind (x ∷ (y ∷ es)) e = ap (λ l. x ∷ l) (but_last-behind (y ∷ es) e)

-- no GTID is in the empty set
pub empty_within : (p q : Position) → p ≡ [] → IsSubset p q
unfolding has
empty_within p q is g in_p = let none : has [] g ≡ false = refl in absurd (true≢false (sym (rw is at in_p) ∙ none))

-- ---- a position has the entries that lead to it

gtid_in : (front es : List Entry) (e : Entry) → is_gtid_of (front ++ e ∷ es) e.gtid ≡ true
gtid_in [] es e = or_left (same_gtid e.gtid e.gtid) _ (same_gtid-refl e.gtid)
gtid_in (x ∷ front) es e = or_right (same_gtid x.gtid e.gtid) _ (gtid_in front es e)

after_has : (p : Position) (front es : List Entry) → AreIn (position_after p (front ++ es)) es
after_has p front [] = tt
after_has p front (e ∷ es) = (
  in_after p (front ++ e ∷ es) e.gtid (gtid_in front es e),
  subst (λ l. AreIn (position_after p l) es) (append_assoc front (e ∷ []) es) (after_has p (front ++ e ∷ []) es),
)

pub none_lacks : (p q : Position) (es : List Entry) → q ≡ position_after p es → lacking q es ≡ []
none_lacks p q es is = lacking_none q es (subst (λ x. AreIn x es) (sym is) (after_has p [] es))
