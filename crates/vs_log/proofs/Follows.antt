-- What the table makes of bytes is what they mean by the productions.
use Rattle.std.proofs.Common.{◌≡◌, ◌≤◌, ◌<◌, ◌+◌, ℕ, zero, suc, Bool, true, false, List, [], ◌∷◌, ◌++◌, length, take, drop, if◌then◌else◌, Option, Some, None, Result, Ok, Err, refl, ap, sym, subst, ◌∙◌, arith}
use Rattle.std.specs.Prelude.{◌⊎◌}
use Rattle.std.proofs.lemmas.Bool.{cases_lt}
use Rattle.std.proofs.lemmas.List.{take_all, drop_all, length-drop, take-append-drop}
use Rattle.vs_base.specs.declared.Why.{Why}
use Rattle.vs_base.specs.declared.Why.TheVariants.{BadMagic}
use Rattle.vs_log.specs.States.{State}
use Rattle.vs_binlog.specs.Heads.{Event, length_of}
use Rattle.vs_log.specs.Events.{is_held, last_place, magic, joined}
use Rattle.vs_log.specs.Table.{Rules, step}
use Rattle.vs_log.specs.Meaning.{front, head_refusal, log_of, log_unread, follow, follow_with, has_magic, log_meant}
use Rattle.vs_log.specs.Productions.{BeginsLog, IsCut, Parts, Means}
use Rattle.vs_log.proofs.Sound.{sound_step}
use Rattle.vs_log.proofs.Cuts.{held, cut_more, length_more, magic_front}

-- the parts of bytes whose events so far begin a log
Goes : {M : Type 0} → Rules M → List ℕ → ℕ → Type 0
Goes rules bytes n =
    (events : List Event) (at : ℕ) (s : State _) (rest : List ℕ) → IsCut bytes events rest → BeginsLog rules events s → at ≡ 4 + length (joined events) → length rest < n →
    Parts rules bytes (follow n rules at s rest)

-- nothing whole is left
stopped : {M : Type 0} (rules : Rules M) (bytes : List ℕ) (events : List Event) (at : ℕ) (s : State M) (rest : List ℕ) (why : Option Why) → IsCut bytes events rest → BeginsLog rules events s →
    at ≡ 4 + length (joined events) → is_held at rest ≡ false → head_refusal at s.place rest ≡ why → Parts rules bytes (log_of s at why)
stopped rules bytes events at s rest None c b p h r = record {
  events = events;
  rest = rest;
  cut = c;
  state = s;
  begins = b;
  why = None;
  refused = (subst (λ z. is_held z rest ≡ false) p h, subst (λ z. head_refusal z s.place rest ≡ None) p r);
  is = ap (λ z. log_of s z None) p;
}
stopped rules bytes events at s rest (Some why) c b p h r = record {
  events = events;
  rest = rest;
  cut = c;
  state = s;
  begins = b;
  why = Some why;
  refused = ◌⊎◌.inr (subst (λ z. is_held z rest ≡ false) p h, subst (λ z. head_refusal z s.place rest ≡ Some why) p r);
  is = ap (λ z. log_of s z (Some why)) p;
}

-- an event is whole
turned : {M : Type 0} (rules : Rules M) (bytes : List ℕ) (n : ℕ) (events : List Event) (at : ℕ) (s : State M) (rest : List ℕ) (r : Result (State M) Why) → IsCut bytes events rest → BeginsLog rules events s →
    at ≡ 4 + length (joined events) → length rest < suc n → is_held at rest ≡ true → step rules s (take (length_of rest) rest) ≡ r → Goes rules bytes n →
    Parts rules bytes (elim r [ Ok next ↦ follow n rules (at + length_of rest) next (drop (length_of rest) rest) | Err why ↦ log_of s at (Some why) ])
unfolding Goes
turned rules bytes n events at s rest (Ok next) c b p l h t goes =
    let k = held at rest h in
    let short : (4 + length (joined events)) + length (take (length_of rest) rest) ≤ last_place = omega (arith, k.short, k.long, p) in
    goes (events ++ take (length_of rest) rest ∷ []) (at + length_of rest) next (drop (length_of rest) rest)
    (cut_more bytes events rest _ _ c k.are k.whole short)
    (sound_step rules events s next _ b t)
    (omega (arith, length_more events (take (length_of rest) rest), k.long, p))
    (omega (arith, length-drop (length_of rest) rest, k.head, k.fits, l))
turned rules bytes n events at s rest (Err why) c b p l h t goes =
    let k = held at rest h in
    record {
      events = events;
      rest = rest;
      cut = c;
      state = s;
      begins = b;
      why = Some why;
      refused = ◌⊎◌.inl (record { event = take (length_of rest) rest; more = drop (length_of rest) rest; are = k.are; whole = k.whole; short = omega (arith, k.short, k.long, p); refused = t });
      is = ap (λ z. log_of s z (Some why)) p;
    }

turn : {M : Type 0} (rules : Rules M) (bytes : List ℕ) (n : ℕ) (events : List Event) (at : ℕ) (s : State M) (rest : List ℕ) (whole : Bool) → IsCut bytes events rest → BeginsLog rules events s →
    at ≡ 4 + length (joined events) → length rest < suc n → is_held at rest ≡ whole → Goes rules bytes n →
    Parts rules bytes (
    if whole
    then (elim (step rules s (take (length_of rest) rest)) [ Ok next ↦ follow n rules (at + length_of rest) next (drop (length_of rest) rest) | Err why ↦ log_of s at (Some why) ])
    else log_of s at (head_refusal at s.place rest)
    )
turn rules bytes n events at s rest true c b p l h goes = turned rules bytes n events at s rest (step rules s (take (length_of rest) rest)) c b p l h refl goes
turn rules bytes n events at s rest false c b p l h goes = stopped rules bytes events at s rest _ c b p h refl

goes : {M : Type 0} (rules : Rules M) (bytes : List ℕ) (n : ℕ) → Goes rules bytes n
unfolding Goes follow_with
goes rules bytes zero events at s rest c b p l = absurd (omega arith)
goes rules bytes (suc n) events at s rest c b p l = turn rules bytes n events at s rest (is_held at rest) c b p l refl (goes rules bytes n)

-- the magic is whole
whole_magic : (bytes : List ℕ) → has_magic bytes ≡ true → 4 ≤ length bytes → bytes ≡ magic ++ drop 4 bytes
whole_magic bytes h l = sym (take-append-drop 4 bytes) ∙ ap (λ z. z ++ drop 4 bytes) (magic_front bytes h ∙ take_all (length bytes) magic l)

pub short_magic : {M : Type 0} (rules : Rules M) (bytes : List ℕ) → has_magic bytes ≡ true → length bytes < 4 → follow (suc (length bytes)) rules 4 front (drop 4 bytes) ≡ log_unread None
unfolding follow_with is_held head_refusal
short_magic rules bytes h l = ap (λ z. follow (suc (length bytes)) rules 4 front z) (drop_all 4 bytes (omega arith))

meant : {M : Type 0} (rules : Rules M) (bytes : List ℕ) (right : Bool) → has_magic bytes ≡ right →
    Means rules bytes (if right then follow (suc (length bytes)) rules 4 front (drop 4 bytes) else log_unread (Some BadMagic))
meant rules bytes false h = ◌⊎◌.inr (◌⊎◌.inr (h, refl))
meant rules bytes true h = elim (cases_lt (length bytes) 4) [
  | ◌⊎◌.inl l ↦ ◌⊎◌.inr (◌⊎◌.inl (l, sym (take_all 4 bytes (omega (arith, l))) ∙ magic_front bytes h, short_magic rules bytes h l))
  | ◌⊎◌.inr l ↦ ◌⊎◌.inl (unfold Goes in goes rules bytes (suc (length bytes)) [] 4 front (drop 4 bytes)
      (record { are = whole_magic bytes h l; whole = tt; short = omega arith }) refl refl (omega (arith, length-drop 4 bytes)))
]

-- what bytes mean by the table, they mean by the productions
pub means : {M : Type 0} (rules : Rules M) (bytes : List ℕ) → Means rules bytes (log_meant rules bytes)
unfolding log_meant
means rules bytes = meant rules bytes (has_magic bytes) refl
