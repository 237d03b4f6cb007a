-- What a reader that takes one event after the other has of a log's meaning.
use Rattle.std.proofs.Common.{◌≡◌, ◌≤◌, ◌<◌, ◌+◌, ℕ, Bool, true, false, List, [], ◌∷◌, ◌++◌, length, take, drop, if◌then◌else◌, Option, Some, None, Result, Ok, Err, refl, ap, sym, subst, ◌∙◌, arith, length-append}
use Rattle.std.specs.Prelude.{◌⊎◌}
use Rattle.std.proofs.lemmas.List.{drop-drop, drop-append-le, take_all, take-append-drop}
use Rattle.vs_base.specs.declared.Gtid.{Gtid}
use Rattle.vs_base.specs.declared.Why.{Why}
use Rattle.vs_base.specs.declared.Why.TheVariants.{BadMagic}
use Rattle.vs_gtid.specs.declared.Entry.{Entry}
use Rattle.vs_log.specs.States.{State}
use Rattle.vs_binlog.specs.Heads.{Event, length_of}
use Rattle.vs_log.specs.Events.{IsPart, is_held, joined, last_place, magic}
use Rattle.vs_log.specs.Table.{Rules, step}
use Rattle.vs_log.specs.Meaning.{front, has_magic, head_refusal, is_base_known, knows_base, log_meant, log_of, log_unread}
use Rattle.vs_log.specs.Productions.{BeginsLog, EntryEndsAt, IsCut, RefusesEvent}
use Rattle.vs_log.specs.Steps.{Reaches, next_state, open_gtid, result_with_past, with_past}
use Rattle.vs_log.specs.Laws.{OpensOrEnds, ReadsInSteps, TellsEntries}
use Rattle.vs_log.proofs.Bases.{knows_its_base, step_keeps, step_leaves}
use Rattle.vs_log.proofs.Beginnings.{takes_beginnings}
use Rattle.vs_log.proofs.Cuts.{cut_more, head_taken, held, holds, length_more, magic_front}
use Rattle.vs_log.proofs.Faults.{refusal_stays}
use Rattle.vs_log.proofs.Growth.{cut_longer, entries_behind}
use Rattle.vs_log.proofs.Names.{Opens, step_opens}
use Rattle.vs_log.proofs.Only.{magic_there, only}
use Rattle.vs_log.proofs.Parts.{is_part}
use Rattle.vs_log.proofs.Past.{step_behind}

-- ---- one turn

abbrev chosen : {M : Type 0} → Result (State M) Why → Result (State M) (Option Why)
chosen (Ok next) = Ok next
chosen (Err why) = Err (Some why)

abbrev one_turn : {M : Type 0} → Bool → Result (State M) Why → Option Why → Result (State M) (Option Why)
one_turn held r refusal = if held then chosen r else Err refusal

turn : {M : Type 0} (rules : Rules M) (at : ℕ) (s : State M) (rest : List ℕ) → next_state rules at s rest ≡ one_turn (is_held at rest) (step rules s (take (length_of rest) rest)) (head_refusal at s.place rest)
turn {M} rules at s rest = go (is_held at rest) (step rules s (take (length_of rest) rest)) where
  go : (h : Bool) (r : Result (State M) Why) →
      (if h then (elim r [ Ok next ↦ Ok next | Err why ↦ Err (Some why) ]) else Err (head_refusal at s.place rest)) ≡ one_turn h r (head_refusal at s.place rest)
  go true (Ok next) = refl
  go true (Err why) = refl
  go false r = refl

-- an event was whole, and was taken
record IsTaken {M : Type 0} (rules : Rules M) (at : ℕ) (s : State M) (rest : List ℕ) (next : State M) : Type 0 where
  held : is_held at rest ≡ true
  taken : step rules s (take (length_of rest) rest) ≡ Ok next

took : {M : Type 0} (rules : Rules M) (at : ℕ) (s : State M) (rest : List ℕ) (next : State M) → next_state rules at s rest ≡ Ok next → IsTaken rules at s rest next
took {M} rules at s rest next h = go (is_held at rest) (step rules s (take (length_of rest) rest)) refl refl (sym (turn rules at s rest) ∙ h) where
  go : (b : Bool) (r : Result (State M) Why) → is_held at rest ≡ b → step rules s (take (length_of rest) rest) ≡ r → one_turn b r (head_refusal at s.place rest) ≡ Ok next → IsTaken rules at s rest next
  go true (Ok n) p q k = record { held = p; taken = q ∙ ap (λ z. Ok z) (let e : n ≡ next = cc in e) }
  go true (Err why) p q k = absurd (cc)
  go false r p q k = absurd (cc)

-- nothing whole is left, or it is refused
refuses : {M : Type 0} (rules : Rules M) (at : ℕ) (s : State M) (rest : List ℕ) (why : Option Why) → next_state rules at s rest ≡ Err why → RefusesEvent rules s at rest why
refuses {M} rules at s rest why h = go (is_held at rest) (step rules s (take (length_of rest) rest)) (head_refusal at s.place rest) refl refl refl (sym (turn rules at s rest) ∙ h) where
  of_head : (refusal why : Option Why) → is_held at rest ≡ false → head_refusal at s.place rest ≡ refusal → refusal ≡ why → RefusesEvent rules s at rest why
  of_head None None p q k = (p, q)
  of_head None (Some w) p q k = absurd (cc)
  of_head (Some v) None p q k = absurd (cc)
  of_head (Some v) (Some w) p q k = ◌⊎◌.inr (p, q ∙ k)

  go : (b : Bool) (r : Result (State M) Why) (refusal : Option Why) → is_held at rest ≡ b → step rules s (take (length_of rest) rest) ≡ r → head_refusal at s.place rest ≡ refusal →
      one_turn b r refusal ≡ Err why → RefusesEvent rules s at rest why
  go true (Ok n) refusal p q f k = absurd (cc)
  go true (Err w) refusal p q f k =
      let h = held at rest p in
      let e : Some w ≡ why = cc in
      subst (λ z. RefusesEvent rules s at rest z) e
      (◌⊎◌.inl (record { event = take (length_of rest) rest; more = drop (length_of rest) rest; are = h.are; whole = h.whole; short = subst (λ z. at + z ≤ last_place) (sym h.long) h.short; refused = q }))
  go false r refusal p q f k = of_head refusal why p f (let e : refusal ≡ why = cc in e)

-- and the other way round
stops : {M : Type 0} (rules : Rules M) (at : ℕ) (s : State M) (rest : List ℕ) (why : Why) → RefusesEvent rules s at rest (Some why) → next_state rules at s rest ≡ Err (Some why)
stops rules at s rest why (◌⊎◌.inl w) =
    let is_there : is_held at rest ≡ true = ap (λ z. is_held at z) w.are ∙ holds at w.event w.more w.whole w.short in
    let event : take (length_of rest) rest ≡ w.event = ap (λ z. take (length_of z) z) w.are ∙ head_taken w.event w.more w.whole in
    turn rules at s rest
    ∙ ap (λ b. one_turn b (step rules s (take (length_of rest) rest)) (head_refusal at s.place rest)) is_there
    ∙ ap (λ r. one_turn true r (head_refusal at s.place rest)) (ap (λ z. step rules s z) event ∙ w.refused)
stops rules at s rest why (◌⊎◌.inr h) =
    turn rules at s rest
    ∙ ap (λ b. one_turn b (step rules s (take (length_of rest) rest)) (head_refusal at s.place rest)) h.0
    ∙ ap (λ r. one_turn false (step rules s (take (length_of rest) rest)) r) h.1

stays_refused : {M : Type 0} (rules : Rules M) (at : ℕ) (s : State M) (rest more : List ℕ) (why : Why) → next_state rules at s rest ≡ Err (Some why) → next_state rules at s (rest ++ more) ≡ Err (Some why)
stays_refused rules at s rest more why h = stops rules at s (rest ++ more) why (refusal_stays rules s at rest more why (refuses rules at s rest (Some why) h))

past_turn : {M : Type 0} (rules : Rules M) (at : ℕ) (s : State M) (rest : List ℕ) (past : List Entry) → next_state rules at (with_past past s) rest ≡ result_with_past past (next_state rules at s rest)
past_turn {M} rules at s rest past =
    turn rules at (with_past past s) rest
    ∙ ap (λ r. one_turn (is_held at rest) r (head_refusal at s.place rest)) (step_behind rules past s (take (length_of rest) rest))
    ∙ go (is_held at rest) (step rules s (take (length_of rest) rest)) (head_refusal at s.place rest)
    ∙ ap (λ r. result_with_past past r) (sym (turn rules at s rest))
  where
    go : (b : Bool) (r : Result (State M) Why) (refusal : Option Why) → one_turn b (result_with_past past r) refusal ≡ result_with_past past (one_turn b r refusal)
    go true (Ok next) refusal = refl
    go true (Err why) refusal = refl
    go false r refusal = refl

-- ---- what is reached

starts : {M : Type 0} (rules : Rules M) (bytes : List ℕ) → has_magic bytes ≡ true → 4 ≤ length bytes → Reaches rules bytes 4 front
starts rules bytes h l = record { events = []; cut = record { are = whole; whole = tt; short = omega arith }; place = refl; begins = refl } where
  whole : bytes ≡ magic ++ drop 4 bytes
  whole = sym (take-append-drop 4 bytes) ∙ ap (λ z. z ++ drop 4 bytes) (magic_front bytes h ∙ take_all (length bytes) magic l)

within : {M : Type 0} (rules : Rules M) (bytes : List ℕ) (at : ℕ) (s : State M) → Reaches rules bytes at s → (has_magic bytes ≡ true) × (4 ≤ length bytes) × (at ≤ length bytes) × (at ≤ last_place)
within rules bytes at s r =
    let long : length bytes ≡ length (magic ++ (joined r.events ++ drop at bytes)) = ap length r.cut.are in (
      ap has_magic r.cut.are ∙ magic_there (joined r.events ++ drop at bytes),
      omega (arith, long, length-append magic (joined r.events ++ drop at bytes)),
      omega (arith, r.place, long, length-append magic (joined r.events ++ drop at bytes), length-append (joined r.events) (drop at bytes)),
      omega (arith, r.place, r.cut.short),
    )

-- the events with the next one
record IsOn {M : Type 0} (rules : Rules M) (bytes : List ℕ) (at : ℕ) (s next : State M) (r : Reaches rules bytes at s) : Type 0 where
  event : Event
  cut : IsCut bytes (r.events ++ event ∷ []) (drop (at + length_of (drop at bytes)) bytes)
  place : at + length_of (drop at bytes) ≡ 4 + length (joined (r.events ++ event ∷ []))
  stepped : step rules s event ≡ Ok next
  begins : BeginsLog rules (r.events ++ event ∷ []) next

on : {M : Type 0} (rules : Rules M) (bytes : List ℕ) (at : ℕ) (s next : State M) (r : Reaches rules bytes at s) → next_state rules at s (drop at bytes) ≡ Ok next → IsOn rules bytes at s next r
on rules bytes at s next r h =
    let rest = drop at bytes in
    let t = took rules at s rest next h in
    let k = held at rest t.held in
    let short : (4 + length (joined r.events)) + length (take (length_of rest) rest) ≤ last_place = omega (arith, k.short, k.long, r.place) in
    let left : drop (length_of rest) rest ≡ drop (at + length_of rest) bytes = drop-drop (length_of rest) at bytes in
    record {
      event = take (length_of rest) rest;
      cut = subst (λ z. IsCut bytes (r.events ++ take (length_of rest) rest ∷ []) z) left (cut_more bytes r.events rest _ _ r.cut k.are k.whole short);
      place = omega (arith, r.place, k.long, length_more r.events (take (length_of rest) rest));
      stepped = t.taken;
      begins = (takes_beginnings rules).takes r.events _ _ _ r.begins t.taken;
    }

leads : {M : Type 0} (rules : Rules M) (bytes : List ℕ) (at : ℕ) (s next : State M) → Reaches rules bytes at s → next_state rules at s (drop at bytes) ≡ Ok next → Reaches rules bytes (at + length_of (drop at bytes)) next
leads rules bytes at s next r h = let o = on rules bytes at s next r h in record { events = r.events ++ o.event ∷ []; cut = o.cut; place = o.place; begins = o.begins }

ends : {M : Type 0} (rules : Rules M) (bytes : List ℕ) (at : ℕ) (s : State M) (why : Option Why) → Reaches rules bytes at s → next_state rules at s (drop at bytes) ≡ Err why →
    (log_meant rules bytes ≡ log_of s at why) × (knows_base rules bytes ≡ is_base_known s.place why)
ends rules bytes at s why r h =
    let refused = subst (λ z. RefusesEvent rules s z (drop at bytes) why) r.place (refuses rules at s (drop at bytes) why h) in (
      sym (only rules bytes _ (◌⊎◌.inl (record {
        events = r.events;
        rest = drop at bytes;
        cut = r.cut;
        state = s;
        begins = r.begins;
        why = why;
        refused = refused;
        is = ap (λ z. log_of s z why) r.place;
      }))),
      (knows_its_base rules bytes).parts r.events s (drop at bytes) why r.cut r.begins refused,
    )

longer : {M : Type 0} (rules : Rules M) (bytes more : List ℕ) (at : ℕ) (s : State M) → Reaches rules bytes at s → Reaches rules (bytes ++ more) at s
longer rules bytes more at s r = record {
  events = r.events;
  cut = subst (λ z. IsCut (bytes ++ more) r.events z) (sym (drop-append-le at bytes more (within rules bytes at s r).2)) (cut_longer bytes more r.events (drop at bytes) r.cut);
  place = r.place;
  begins = r.begins;
}

unread : {M : Type 0} (rules : Rules M) (bytes : List ℕ) → has_magic bytes ≡ false → (log_meant rules bytes ≡ log_unread (Some BadMagic)) × (knows_base rules bytes ≡ false)
unread rules bytes h = (sym (only rules bytes (log_unread (Some BadMagic)) (◌⊎◌.inr (◌⊎◌.inr (h, refl)))), (knows_its_base rules bytes).none h)

short : {M : Type 0} (rules : Rules M) (bytes : List ℕ) → has_magic bytes ≡ true → length bytes < 4 → (log_meant rules bytes ≡ log_unread None) × (knows_base rules bytes ≡ false)
short rules bytes h l = (
  sym (only rules bytes (log_unread None) (◌⊎◌.inr (◌⊎◌.inl (l, sym (take_all 4 bytes (omega (arith, l))) ∙ magic_front bytes h, refl)))),
  (knows_its_base rules bytes).short h l,
)

known : {M : Type 0} (rules : Rules M) (at : ℕ) (s next : State M) (rest : List ℕ) → is_base_known s.place None ≡ true → next_state rules at s rest ≡ Ok next → is_base_known next.place None ≡ true
known rules at s next rest k h = (step_keeps rules s _ next k (took rules at s rest next h).taken).0

part_left : {M : Type 0} (rules : Rules M) (at : ℕ) (s : State M) (rest : List ℕ) → next_state rules at s rest ≡ Err None → IsPart rest
part_left rules at s rest h = let r = refuses rules at s rest None h in is_part at s.place rest r.0 r.1

early : {M : Type 0} (rules : Rules M) (at : ℕ) (s next : State M) (rest : List ℕ) → next_state rules at s rest ≡ Ok next → is_base_known next.place None ≡ false → (next.base ≡ s.base) × (next.known ≡ s.known)
early rules at s next rest h = step_leaves rules s _ next (took rules at s rest next h).taken

pub reads_in_steps : {M : Type 0} (rules : Rules M) → ReadsInSteps rules
reads_in_steps rules = record {
  starts = starts rules;
  within = within rules;
  leads = leads rules;
  ends = ends rules;
  entries = λ bytes at s r. entries_behind rules bytes _ _ _ r.cut r.begins;
  base = λ bytes at s r h. (knows_its_base rules bytes).behind r.events s (drop at bytes) r.cut r.begins h;
  known = known rules;
  unread = unread rules;
  short = short rules;
  longer = longer rules;
  refused = stays_refused rules;
  part = part_left rules;
  early = early rules;
  past = past_turn rules;
}

-- ---- which entry is open

opens : {M : Type 0} (rules : Rules M) (bytes : List ℕ) (at : ℕ) (s next : State M) → Reaches rules bytes at s → next_state rules at s (drop at bytes) ≡ Ok next → OpensOrEnds rules bytes at s next (open_gtid s.place)
opens rules bytes at s next r h = go (open_gtid s.place) (step_opens rules s o.event next o.stepped) where
  o : IsOn rules bytes at s next r
  o = on rules bytes at s next r h

  go : (before : Option Gtid) → Opens s o.event before next → OpensOrEnds rules bytes at s next before
  go None k = (
    λ g is_open. record {
      before = r.events;
      event = o.event;
      rest = _;
      cut = o.cut;
      place = r.place;
      state = next;
      begins = o.begins;
      names = k.0 g is_open;
    },
    k.1,
  )
  go (Some g) k = k

entry_ends : {M : Type 0} (rules : Rules M) (bytes : List ℕ) (at : ℕ) (s next : State M) (e : Entry) → Reaches rules bytes at s → next_state rules at s (drop at bytes) ≡ Ok next → next.entries ≡ s.entries ++ e ∷ [] →
    EntryEndsAt rules bytes (length s.entries) (at + length_of (drop at bytes))
entry_ends rules bytes at s next e r h is =
    let o = on rules bytes at s next r h in
    record {
      before = r.events;
      last = o.event;
      rest = _;
      cut = o.cut;
      place = o.place;
      without = s;
      begins_without = r.begins;
      few = refl;
      state = next;
      begins = o.begins;
      more = ap length is ∙ length-append s.entries (e ∷ []);
    }

pub tells_entries : {M : Type 0} (rules : Rules M) → TellsEntries rules
tells_entries rules = record { opens = opens rules; ends = entry_ends rules }
