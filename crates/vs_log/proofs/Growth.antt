-- What more bytes do.
use Rattle.std.proofs.Common.{◌≡◌, ◌+◌, ℕ, zero, suc, Bool, true, false, List, [], ◌∷◌, ◌++◌, length, take, drop, nat_eq, if◌then◌else◌, Some, None, Result, Ok, Err, refl, ap, sym, ◌∙◌, append_assoc}
use Rattle.std.specs.Prelude.{◌⊎◌}
use Rattle.std.specs.List.{filter}
use Rattle.std.specs.Cmp.Lexicographic.{pointwise}
use Rattle.std.proofs.lemmas.Bool.{and_parts, and_from, false_from_ne_true}
use Rattle.std.proofs.lemmas.List.{append-nil}
use Rattle.vs_base.specs.declared.Why.{Why}
use Rattle.vs_gtid.specs.declared.Entry.{Entry}
use Rattle.vs_gtid.specs.Logs.{Log}
use Rattle.vs_gtid.specs.Positions.{Position}
use Rattle.vs_log.specs.States.{Place}
use Rattle.vs_log.specs.States.Place.{Between}
use Rattle.vs_log.specs.States.{State}
use Rattle.vs_binlog.specs.Heads.{Event, length_of}
use Rattle.vs_log.specs.Events.{is_held, magic, joined}
use Rattle.vs_log.specs.Table.{Rules, step}
use Rattle.vs_log.specs.Meaning.{head_refusal, log_of, follow, follow_with, has_magic, log_meant}
use Rattle.vs_log.specs.Productions.{is_counted, is_nil, BeginsLog, IsCut, IsLog, IsWholeLog, Means}
use Rattle.vs_log.proofs.Moves.{Moves, step_moves}
use Rattle.vs_log.proofs.Moves.Moves.{formatted, passed_between, passed_named, passed_inside, based, names, singles, begins, saves, maps_on, tells, ends}
use Rattle.vs_log.proofs.Follows.{means}
use Rattle.vs_log.proofs.Only.{log_behind, only}

-- entries come behind those that stood
abbrev pub Extends : List Entry → List Entry → Type 0
Extends es fs = (later : List Entry) × (fs ≡ es ++ later)

same_entries : (es : List Entry) → Extends es es
same_entries es = ([], sym (append-nil es))

extends_on : (es fs gs : List Entry) → Extends es fs → Extends fs gs → Extends es gs
extends_on es fs gs a b = (a.0 ++ b.0, b.1 ∙ ap (λ z. z ++ b.0) a.1 ∙ append_assoc es a.0 b.0)

moves_extend : {M : Type 0} (rules : Rules M) (s : State M) (e : Event) (place : Place M) (next : State M) → Moves rules s e place next → Extends s.entries next.entries
moves_extend rules s e place next (formatted is) = same_entries s.entries
moves_extend rules s e place next (passed_between first k) = same_entries s.entries
moves_extend rules s e place next (passed_named g bytes k) = same_entries s.entries
moves_extend rules s e place next (passed_inside g bytes maps work k) = same_entries s.entries
moves_extend rules s e place next (based set k r) = same_entries s.entries
moves_extend rules s e place next (names first g is new) = same_entries s.entries
moves_extend rules s e place next (singles g bytes statement work says one) = (_, refl)
moves_extend rules s e place next (begins g bytes says) = same_entries s.entries
moves_extend rules s e place next (saves g bytes maps work says) = same_entries s.entries
moves_extend rules s e place next (maps_on g bytes maps work more is) = same_entries s.entries
moves_extend rules s e place next (tells g bytes maps work counted more is t) = same_entries s.entries
moves_extend rules s e place next (ends g bytes maps work end) = (_, refl)

follow_extends : {M : Type 0} (n : ℕ) (rules : Rules M) (at : ℕ) (s : State M) (rest : List ℕ) → Extends s.entries (follow n rules at s rest).entries
unfolding follow_with
follow_extends zero rules at s rest = same_entries s.entries
follow_extends (suc n) rules at s rest =
    turn (is_held at rest) (step rules s (take (length_of rest) rest)) refl (λ next. follow_extends n rules (at + length_of rest) next (drop (length_of rest) rest))
  where
    turn : (whole : Bool) (r : Result (State _) Why) → step rules s (take (length_of rest) rest) ≡ r →
        ((next : State _) → Extends next.entries (follow n rules (at + length_of rest) next (drop (length_of rest) rest)).entries) →
        Extends s.entries (
        if whole
        then (elim r [ Ok next ↦ follow n rules (at + length_of rest) next (drop (length_of rest) rest) | Err why ↦ log_of s at (Some why) ])
        else log_of s at (head_refusal at s.place rest)
        ).entries
    turn false r h k = same_entries s.entries
    turn true (Err why) h k = same_entries s.entries
    turn true (Ok next) h k =
        extends_on s.entries next.entries _ (moves_extend rules s _ s.place next (step_moves rules s (take (length_of rest) rest) next h).1) (k next)

-- the right front of the magic has right fronts
front_fits : (n : ℕ) (xs ys more : List ℕ) → pointwise nat_eq (take n (xs ++ more)) (take (length (xs ++ more)) ys) ≡ true → pointwise nat_eq (take n xs) (take (length xs) ys) ≡ true
front_fits zero [] ys more h = refl
front_fits (suc n) [] ys more h = refl
front_fits zero (x ∷ xs) [] more h = refl
front_fits zero (x ∷ xs) (y ∷ ys) more h = absurd (cc)
front_fits (suc n) (x ∷ xs) [] more h = absurd (cc)
front_fits (suc n) (x ∷ xs) (y ∷ ys) more h =
    let p = and_parts (nat_eq x y) (pointwise nat_eq (take n (xs ++ more)) (take (length (xs ++ more)) ys)) h in
    and_from (nat_eq x y) (pointwise nat_eq (take n xs) (take (length xs) ys)) p.0 (front_fits n xs ys more p.1)

pub no_magic : (bytes more : List ℕ) → has_magic bytes ≡ false → has_magic (bytes ++ more) ≡ false
no_magic bytes more h = false_from_ne_true _ (λ k. let t : has_magic bytes ≡ true = front_fits 4 bytes magic more k in let f : true ≡ false = sym t ∙ h in cc)

pub cut_longer : (bytes more : List ℕ) (events : List Event) (rest : List ℕ) → IsCut bytes events rest → IsCut (bytes ++ more) events (rest ++ more)
cut_longer bytes more events rest c = record {
  are = ap (λ z. z ++ more) c.are ∙ ap (λ z. magic ++ z) (append_assoc (joined events) rest more);
  whole = c.whole;
  short = c.short;
}

pub more_entries : {M : Type 0} (rules : Rules M) (bytes more : List ℕ) → Extends (log_meant rules bytes).entries (log_meant rules (bytes ++ more)).entries
more_entries rules bytes more = go (means rules bytes) where
  go : Means rules bytes (log_meant rules bytes) → Extends (log_meant rules bytes).entries (log_meant rules (bytes ++ more)).entries
  go (◌⊎◌.inl p) =
      let k = log_behind rules (bytes ++ more) p.events (p.rest ++ more) p.state (cut_longer bytes more p.events p.rest p.cut) p.begins in
      let e = follow_extends k.0 rules (4 + length (joined p.events)) p.state (p.rest ++ more) in
      (e.0, ap (λ z. z.entries) k.2 ∙ e.1 ∙ ap (λ z. z ++ e.0) (sym (ap (λ (z : Log). z.entries) p.is)))
  go (◌⊎◌.inr (◌⊎◌.inl short)) = ((log_meant rules (bytes ++ more)).entries, sym (ap (λ (z : Log). z.entries ++ (log_meant rules (bytes ++ more)).entries) short.2))
  go (◌⊎◌.inr (◌⊎◌.inr none)) = ((log_meant rules (bytes ++ more)).entries, sym (ap (λ (z : Log). z.entries ++ (log_meant rules (bytes ++ more)).entries) none.1))

-- where a whole log ends
abbrev pub whole_state : {M : Type 0} → List Event → Position → List Entry → Position → State M
whole_state events base es known = record { base = base; entries = es; known = known; place = Between (is_nil (filter is_counted (drop 1 events))) }

pub whole_begins : {M : Type 0} (rules : Rules M) (events : List Event) (base : Position) (es : List Entry) (known : Position) → IsLog rules events base es known [] →
    BeginsLog rules events (whole_state events base es known)
whole_begins rules [] base es known l = absurd (let h : [] ≡ l.format ∷ l.after = l.are in cc)
whole_begins rules (e ∷ events) base es known l = record { known = known; opened = []; log = l; begun = (refl, refl); first = refl }

-- a whole log means itself
pub whole_log : {M : Type 0} (rules : Rules M) (bytes : List ℕ) (base : Position) (es : List Entry) → IsWholeLog rules bytes base es → log_meant rules bytes ≡ record { base = base; entries = es; fault = None }
unfolding is_held head_refusal
whole_log rules bytes base es w = sym (only rules bytes _ (◌⊎◌.inl (record {
  events = w.events;
  rest = [];
  cut = w.cut;
  state = whole_state w.events base es w.known;
  begins = whole_begins rules w.events base es w.known w.log;
  why = None;
  refused = (refl, refl);
  is = refl;
})))

-- the entries of events that begin the log come first
pub entries_behind : {M : Type 0} (rules : Rules M) (bytes : List ℕ) (events : List Event) (rest : List ℕ) (s : State M) → IsCut bytes events rest → BeginsLog rules events s → Extends s.entries (log_meant rules bytes).entries
entries_behind rules bytes events rest s c b =
    let k = log_behind rules bytes events rest s c b in
    let e = follow_extends k.0 rules (4 + length (joined events)) s rest in
    (e.0, ap (λ z. z.entries) k.2 ∙ e.1)
