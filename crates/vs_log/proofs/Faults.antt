-- With more bytes entries come behind those that stood, and a fault stays.
use Rattle.std.proofs.Common.{◌≡◌, ◌≤◌, ◌+◌, ℕ, Bool, true, false, List, [], ◌∷◌, ◌++◌, length, take, drop, nat_lt, if◌then◌else◌, Option, Some, None, Err, refl, ap, sym, subst, ◌∙◌, append_assoc, arith, length-append}
use Rattle.std.specs.Prelude.{◌⊎◌}
use Rattle.std.proofs.lemmas.Bool.{ltb-false, le-ltb}
use Rattle.std.proofs.lemmas.List.{take-append-le}
use Rattle.vs_base.specs.declared.Gtid.{Gtid}
use Rattle.vs_base.specs.declared.Why.{Why}
use Rattle.vs_base.specs.declared.Why.TheVariants.{BadLength, TooLarge}
use Rattle.vs_gtid.specs.Logs.{Log}
use Rattle.vs_log.specs.States.{Place}
use Rattle.vs_log.specs.States.{State}
use Rattle.vs_binlog.specs.Heads.{length_of}
use Rattle.vs_log.specs.Events.{sort_of, is_held, limit, last_place, joined}
use Rattle.vs_log.specs.Table.{Rules, bytes_with, line, step}
use Rattle.vs_log.specs.Meaning.{head_refusal, log_of, at_place, log_meant}
use Rattle.vs_log.specs.Productions.{EntryEndsAt, IsWrong, RefusesEvent, Parts, Means, StandsAt}
use Rattle.vs_log.specs.Laws.{Grows}
use Rattle.vs_log.proofs.Cuts.{length_of-append, bytes_with-append, held, Holds}
use Rattle.vs_log.proofs.Follows.{means}
use Rattle.vs_log.proofs.Only.{only}
use Rattle.vs_log.proofs.Growth.{no_magic, cut_longer, more_entries, whole_log}

-- what a head's tests say of it
abbrev pub judged : Bool → Bool → Bool → Bool → ℕ → ℕ → Option Why
judged cut short large past n b = if cut then None else if short then Some (BadLength n) else if large then Some (TooLarge b) else if past then Some (TooLarge n) else None

pub by_tests : {M : Type 0} (at : ℕ) (place : Place M) (rest : List ℕ) →
    head_refusal at place rest
    ≡ judged (nat_lt (length rest) 19) (nat_lt (length_of rest) 19) (nat_lt limit (bytes_with place rest)) (nat_lt last_place (at + length_of rest)) (length_of rest) (bytes_with place rest)
unfolding head_refusal
by_tests at place rest = refl

whole_head : (cut short large past : Bool) (n b : ℕ) (why : Why) → judged cut short large past n b ≡ Some why → cut ≡ false
whole_head true short large past n b why h = absurd (cc)
whole_head false short large past n b why h = refl

large_alone : (large : Bool) (n b : ℕ) (why : Why) → judged false false large false n b ≡ Some why → (large ≡ true) × (TooLarge b ≡ why)
large_alone true n b why h = (refl, cc)
large_alone false n b why h = absurd (cc)

-- a whole head is judged alike with more bytes behind it
judged_alike : {M : Type 0} (at : ℕ) (place : Place M) (rest more : List ℕ) → 19 ≤ length rest → head_refusal at place (rest ++ more) ≡ head_refusal at place rest
judged_alike at place rest more h =
    let n : length_of (rest ++ more) ≡ length_of rest = length_of-append rest more h in
    let b : bytes_with place (rest ++ more) ≡ bytes_with place rest = bytes_with-append place rest more h in
    let l : nat_lt (length (rest ++ more)) 19 ≡ nat_lt (length rest) 19 = le-ltb (length (rest ++ more)) 19 (omega (arith, length-append rest more)) ∙ sym (le-ltb (length rest) 19 h) in
    by_tests at place (rest ++ more)
    ∙ ap (λ z. judged z (nat_lt (length_of (rest ++ more)) 19) (nat_lt limit (bytes_with place (rest ++ more))) (nat_lt last_place (at + length_of (rest ++ more))) (length_of (rest ++ more)) (bytes_with place (rest ++ more))) l
    ∙ ap (λ z. judged (nat_lt (length rest) 19) (nat_lt z 19) (nat_lt limit (bytes_with place (rest ++ more))) (nat_lt last_place (at + z)) z (bytes_with place (rest ++ more))) n
    ∙ ap (λ z. judged (nat_lt (length rest) 19) (nat_lt (length_of rest) 19) (nat_lt limit z) (nat_lt last_place (at + length_of rest)) (length_of rest) z) b
    ∙ sym (by_tests at place rest)

refused_size : {M : Type 0} (rules : Rules M) (s : State M) (e : List ℕ) → nat_lt limit (bytes_with s.place e) ≡ true → step rules s e ≡ Err (TooLarge (bytes_with s.place e))
unfolding step
refused_size rules s e h = ap (λ b. if b then Err (TooLarge (bytes_with s.place e)) else line rules s e s.place (sort_of e)) h

-- an event whose head alone is wrong, is refused once it is whole
wrong_whole : {M : Type 0} (rules : Rules M) (s : State M) (at : ℕ) (rest : List ℕ) (why : Why) → Holds at rest → head_refusal at s.place rest ≡ Some why → IsWrong rules s at rest why
wrong_whole rules s at rest why k h =
    let e = take (length_of rest) rest in
    let long : length (take (length_of rest) rest) ≡ length_of rest = k.long in
    let head : 19 ≤ length_of rest = k.head in
    let fits : length_of rest ≤ length rest = k.fits in
    let short : at + length_of rest ≤ last_place = k.short in
    let same : bytes_with s.place rest ≡ bytes_with s.place (take (length_of rest) rest) = ap (λ z. bytes_with s.place z) k.are ∙ bytes_with-append s.place _ _ (omega arith) in
    let h2 : judged false false (nat_lt limit (bytes_with s.place rest)) false (length_of rest) (bytes_with s.place rest) ≡ Some why =
    sym (by_tests at s.place rest
    ∙ ap (λ z. judged z (nat_lt (length_of rest) 19) (nat_lt limit (bytes_with s.place rest)) (nat_lt last_place (at + length_of rest)) (length_of rest) (bytes_with s.place rest)) (le-ltb (length rest) 19 (omega arith))
    ∙ ap (λ z. judged false z (nat_lt limit (bytes_with s.place rest)) (nat_lt last_place (at + length_of rest)) (length_of rest) (bytes_with s.place rest)) (le-ltb (length_of rest) 19 head)
    ∙ ap (λ z. judged false false (nat_lt limit (bytes_with s.place rest)) z (length_of rest) (bytes_with s.place rest)) (le-ltb last_place (at + length_of rest) short))
    ∙ h in
    let l = large_alone (nat_lt limit (bytes_with s.place rest)) (length_of rest) (bytes_with s.place rest) why h2 in
    record {
      event = take (length_of rest) rest;
      more = drop (length_of rest) rest;
      are = k.are;
      whole = k.whole;
      short = omega arith;
      refused = refused_size rules s _ (subst (λ z. nat_lt limit z ≡ true) same l.0) ∙ ap (λ z. Err z) (ap (λ z. TooLarge z) (sym same) ∙ l.1);
    }

head_stays : {M : Type 0} (rules : Rules M) (s : State M) (at : ℕ) (rest more : List ℕ) (why : Why) → head_refusal at s.place rest ≡ Some why → RefusesEvent rules s at (rest ++ more) (Some why)
head_stays rules s at rest more why h = go (is_held at (rest ++ more)) refl where
  whole : 19 ≤ length rest
  whole = ltb-false (length rest) 19 (whole_head (nat_lt (length rest) 19) _ _ _ _ _ why (sym (by_tests at s.place rest) ∙ h))

  same : head_refusal at s.place (rest ++ more) ≡ Some why
  same = judged_alike at s.place rest more whole ∙ h

  go : (b : Bool) → is_held at (rest ++ more) ≡ b → RefusesEvent rules s at (rest ++ more) (Some why)
  go true k = ◌⊎◌.inl (wrong_whole rules s at (rest ++ more) why (held at (rest ++ more) k) same)
  go false k = ◌⊎◌.inr (k, same)

pub refusal_stays : {M : Type 0} (rules : Rules M) (s : State M) (at : ℕ) (rest more : List ℕ) (why : Why) → RefusesEvent rules s at rest (Some why) → RefusesEvent rules s at (rest ++ more) (Some why)
refusal_stays rules s at rest more why (◌⊎◌.inl w) = ◌⊎◌.inl (record {
  event = w.event;
  more = w.more ++ more;
  are = ap (λ z. z ++ more) w.are ∙ append_assoc w.event w.more more;
  whole = w.whole;
  short = w.short;
  refused = w.refused;
})
refusal_stays rules s at rest more why (◌⊎◌.inr h) = head_stays rules s at rest more why h.1

parts_stay : {M : Type 0} (rules : Rules M) (bytes more : List ℕ) (log : Log) (fault : ℕ × Why) (p : Parts rules bytes log) (why : Option Why) → p.why ≡ why → log.fault ≡ Some fault → Parts rules (bytes ++ more) log
parts_stay rules bytes more log fault p None e h =
    let none : ◌≡◌ {A = Option (ℕ × Why)} None (Some fault) = sym (ap (λ (z : Log). z.fault) p.is ∙ ap (λ z. at_place (4 + length (joined p.events)) z) e) ∙ h in
    absurd (cc)
parts_stay rules bytes more log fault p (Some why) e h = record {
  events = p.events;
  rest = p.rest ++ more;
  cut = cut_longer bytes more p.events p.rest p.cut;
  state = p.state;
  begins = p.begins;
  why = Some why;
  refused = refusal_stays rules p.state _ p.rest more why (subst (λ z. RefusesEvent rules p.state (4 + length (joined p.events)) p.rest z) e p.refused);
  is = p.is ∙ ap (λ z. log_of p.state (4 + length (joined p.events)) z) e;
}

fault_means : {M : Type 0} (rules : Rules M) (bytes more : List ℕ) (log : Log) (fault : ℕ × Why) → log.fault ≡ Some fault → Means rules bytes log → Means rules (bytes ++ more) log
fault_means rules bytes more log fault h (◌⊎◌.inl p) = ◌⊎◌.inl (parts_stay rules bytes more log fault p p.why refl h)
fault_means rules bytes more log fault h (◌⊎◌.inr (◌⊎◌.inl short)) =
    let none : ◌≡◌ {A = Option (ℕ × Why)} None (Some fault) = sym (ap (λ (z : Log). z.fault) short.2) ∙ h in
    absurd (cc)
fault_means rules bytes more log fault h (◌⊎◌.inr (◌⊎◌.inr none)) = ◌⊎◌.inr (◌⊎◌.inr (no_magic bytes more none.0, none.1))

fault_stays : {M : Type 0} (rules : Rules M) (bytes more : List ℕ) (fault : ℕ × Why) → (log_meant rules bytes).fault ≡ Some fault → log_meant rules (bytes ++ more) ≡ log_meant rules bytes
fault_stays rules bytes more fault h = sym (only rules (bytes ++ more) (log_meant rules bytes) (fault_means rules bytes more (log_meant rules bytes) fault h (means rules bytes)))

given_stay : {M : Type 0} (rules : Rules M) (bytes more : List ℕ) (n : ℕ) → n ≤ length (log_meant rules bytes).entries → take n (log_meant rules (bytes ++ more)).entries ≡ take n (log_meant rules bytes).entries
given_stay rules bytes more n h =
    let m = more_entries rules bytes more in
    ap (λ z. take n z) m.1 ∙ take-append-le n (log_meant rules bytes).entries m.0 h

begins_stay : {M : Type 0} (rules : Rules M) (bytes more : List ℕ) (g : Gtid) (at : ℕ) → StandsAt rules bytes g at → StandsAt rules (bytes ++ more) g at
begins_stay rules bytes more g at s = record {
  before = s.before;
  event = s.event;
  rest = s.rest ++ more;
  cut = cut_longer bytes more (s.before ++ s.event ∷ []) s.rest s.cut;
  place = s.place;
  state = s.state;
  begins = s.begins;
  names = s.names;
}

ends_stay : {M : Type 0} (rules : Rules M) (bytes more : List ℕ) (n at : ℕ) → EntryEndsAt rules bytes n at → EntryEndsAt rules (bytes ++ more) n at
ends_stay rules bytes more n at e = record {
  before = e.before;
  last = e.last;
  rest = e.rest ++ more;
  cut = cut_longer bytes more (e.before ++ e.last ∷ []) e.rest e.cut;
  place = e.place;
  without = e.without;
  begins_without = e.begins_without;
  few = e.few;
  state = e.state;
  begins = e.begins;
  more = e.more;
}

pub grows : {M : Type 0} (rules : Rules M) (bytes more : List ℕ) → Grows rules bytes more
grows rules bytes more = record {
  entries = more_entries rules bytes more;
  given = given_stay rules bytes more;
  faulty = fault_stays rules bytes more;
  begins = begins_stay rules bytes more;
  ends = ends_stay rules bytes more;
  whole = whole_log rules bytes;
}
