-- Bytes mean one log by the productions.
use Rattle.std.proofs.Common.{◌≡◌, ◌≤◌, ◌<◌, ◌+◌, ℕ, zero, suc, Bool, true, false, List, [], ◌∷◌, ◌++◌, length, take, drop, nat_eq, if◌then◌else◌, Option, Some, None, Result, Ok, Err, refl, ap, sym, ◌∙◌, append_assoc, arith, length-append}
use Rattle.std.specs.Prelude.{◌⊎◌}
use Rattle.std.specs.List.{AllByRecursion}
use Rattle.std.specs.Cmp.Lexicographic.{pointwise}
use Rattle.std.proofs.lemmas.List.{take_all}
use Rattle.std.proofs.lemmas.Slice.Eq.{bytes_eq-Decides}
use Rattle.vs_base.specs.declared.Why.{Why}
use Rattle.vs_base.specs.declared.Why.TheVariants.{BadMagic}
use Rattle.vs_gtid.specs.Logs.{Log}
use Rattle.vs_log.specs.States.{State}
use Rattle.vs_binlog.specs.Heads.{Event, length_of}
use Rattle.vs_log.specs.Events.{is_held, last_place, magic, joined, IsEvent}
use Rattle.vs_log.specs.Table.{Rules, step}
use Rattle.vs_log.specs.Meaning.{front, head_refusal, log_of, log_unread, follow, follow_with, has_magic, log_meant}
use Rattle.vs_log.specs.Productions.{BeginsLog, IsCut, RefusesEvent, Parts, Means}
use Rattle.vs_log.specs.Laws.{MeansByProductions}
use Rattle.vs_log.proofs.Moves.{chained}
use Rattle.vs_log.proofs.Cuts.{length_of-append, holds, head_taken, head_dropped}
use Rattle.vs_log.proofs.Follows.{means, short_magic}
use Rattle.vs_log.proofs.Takes.{walk}
use Rattle.vs_log.proofs.Complete.{complete}

abbrev gone_on : {M : Type 0} {A : Type 0} → (State M → ℕ → Option Why → A) → ℕ → Rules M → ℕ → State M → List ℕ → Result (State M) Why → A
gone_on tell n rules at s rest r = elim r [ Ok next ↦ follow_with tell n rules (at + length_of rest) next (drop (length_of rest) rest) | Err why ↦ tell s at (Some why) ]

abbrev one_turn : {M : Type 0} {A : Type 0} → (State M → ℕ → Option Why → A) → ℕ → Rules M → ℕ → State M → List ℕ → Bool → A
one_turn tell n rules at s rest whole = if whole then gone_on tell n rules at s rest (step rules s (take (length_of rest) rest)) else tell s at (head_refusal at s.place rest)

follow_turn : {M : Type 0} {A : Type 0} (tell : State M → ℕ → Option Why → A) (n : ℕ) (rules : Rules M) (at : ℕ) (s : State M) (rest : List ℕ) (whole : Bool) → is_held at rest ≡ whole → follow_with tell (suc n) rules at s rest ≡ one_turn tell n rules at s rest whole
unfolding follow_with
follow_turn tell n rules at s rest whole h = ap (λ b. one_turn tell n rules at s rest b) h

follow_event : {M : Type 0} {A : Type 0} (tell : State M → ℕ → Option Why → A) (n : ℕ) (rules : Rules M) (at : ℕ) (s : State M) (e more : List ℕ) (r : Result (State M) Why) → IsEvent e → at + length e ≤ last_place → step rules s e ≡ r →
    follow_with tell (suc n) rules at s (e ++ more) ≡ gone_on tell n rules at s (e ++ more) r
follow_event tell n rules at s e more r is short h =
    follow_turn tell n rules at s (e ++ more) true (holds at e more is short)
    ∙ ap (λ z. gone_on tell n rules at s (e ++ more) (step rules s z)) (head_taken e more is) ∙ ap (λ z. gone_on tell n rules at s (e ++ more) z) h

follow_one : {M : Type 0} {A : Type 0} (tell : State M → ℕ → Option Why → A) (n : ℕ) (rules : Rules M) (at : ℕ) (s next : State M) (e more : List ℕ) → IsEvent e → at + length e ≤ last_place → step rules s e ≡ Ok next →
    follow_with tell (suc n) rules at s (e ++ more) ≡ follow_with tell n rules (at + length e) next more
follow_one tell n rules at s next e more is short h =
    follow_event tell n rules at s e more (Ok next) is short h
    ∙ ap (λ z. follow_with tell n rules (at + z) next (drop (length_of (e ++ more)) (e ++ more))) (length_of-append e more is.head ∙ is.whole)
    ∙ ap (λ z. follow_with tell n rules (at + length e) next z) (head_dropped e more is)

-- events that are taken, are followed
pub follow_walk : {M : Type 0} {A : Type 0} (tell : State M → ℕ → Option Why → A) (n : ℕ) (rules : Rules M) (at : ℕ) (s t : State M) (events : List Event) (rest : List ℕ) → AllByRecursion IsEvent events → at + length (joined events) ≤ last_place →
    walk rules s events ≡ Ok t → length (joined events ++ rest) < n →
    (m : ℕ) × (length rest < m) × (follow_with tell n rules at s (joined events ++ rest) ≡ follow_with tell m rules (at + length (joined events)) t rest)
follow_walk tell n rules at s t [] rest a short w l =
    let same : s ≡ t = cc in
    let here : at ≡ at + 0 = omega arith in
    (n, l, ap (λ z. follow_with tell n rules at z rest) same ∙ ap (λ z. follow_with tell n rules z t rest) here)
follow_walk tell zero rules at s t (e ∷ events) rest a short w l = absurd (omega arith)
follow_walk tell (suc n) rules at s t (e ∷ events) rest a short w l =
    let is : IsEvent e = a.0 in
    let whole = is.head in
    let c = chained (step rules s e) (λ z. walk rules z events) t w in
    let lengths : length (e ++ joined events) ≡ length e + length (joined events) = length-append e (joined events) in
    let regrouped : (e ++ joined events) ++ rest ≡ e ++ (joined events ++ rest) = append_assoc e (joined events) rest in
    let longer : length ((e ++ joined events) ++ rest) ≡ length e + length (joined events ++ rest) = ap length regrouped ∙ length-append e (joined events ++ rest) in
    let short_e : at + length e ≤ last_place = omega arith in
    let short_rest : (at + length e) + length (joined events) ≤ last_place = omega arith in
    let fewer : length (joined events ++ rest) < n = omega arith in
    let k = follow_walk tell n rules (at + length e) c.0 t events rest a.1 short_rest c.2 fewer in
    let sum : (at + length e) + length (joined events) ≡ at + length (e ++ joined events) = omega arith in (
      k.0,
      k.1,
      ap (λ z. follow_with tell (suc n) rules at s z) regrouped ∙ follow_one tell n rules at s c.0 e (joined events ++ rest) is short_e c.1 ∙ k.2 ∙ ap (λ z. follow_with tell k.0 rules z t rest) sum,
    )

-- the reading stops where the rest is refused, or isn't whole
pub follow_stops : {M : Type 0} {A : Type 0} (tell : State M → ℕ → Option Why → A) (n : ℕ) (rules : Rules M) (at : ℕ) (s : State M) (rest : List ℕ) (why : Option Why) → length rest < n → RefusesEvent rules s at rest why → follow_with tell n rules at s rest ≡ tell s at why
follow_stops tell zero rules at s rest why l r = absurd (omega arith)
follow_stops tell (suc n) rules at s rest None l r = follow_turn tell n rules at s rest false r.0 ∙ ap (λ z. tell s at z) r.1
follow_stops tell (suc n) rules at s rest (Some why) l (◌⊎◌.inl w) =
    ap (λ z. follow_with tell (suc n) rules at s z) w.are ∙ follow_event tell n rules at s w.event w.more (Err why) w.whole w.short w.refused
follow_stops tell (suc n) rules at s rest (Some why) l (◌⊎◌.inr h) = follow_turn tell n rules at s rest false h.0 ∙ ap (λ z. tell s at z) h.1

same_bytes : (xs : List ℕ) → pointwise nat_eq xs xs ≡ true
same_bytes xs = (bytes_eq-Decides xs xs).1 refl

none_taken : (n : ℕ) → take {A = ℕ} n [] ≡ []
none_taken zero = refl
none_taken (suc n) = refl

pub magic_there : (more : List ℕ) → has_magic (magic ++ more) ≡ true
magic_there more = ap (λ z. pointwise nat_eq [] z) (none_taken (length more))

log_from : {M : Type 0} (rules : Rules M) (bytes : List ℕ) (right : Bool) → has_magic bytes ≡ right →
    log_meant rules bytes ≡ (if right then follow (suc (length bytes)) rules 4 front (drop 4 bytes) else log_unread (Some BadMagic))
unfolding log_meant
log_from rules bytes right h = ap (λ b. if b then follow (suc (length bytes)) rules 4 front (drop 4 bytes) else log_unread (Some BadMagic)) h

-- what the log is behind events that begin it
pub log_behind : {M : Type 0} (rules : Rules M) (bytes : List ℕ) (events : List Event) (rest : List ℕ) (s : State M) → IsCut bytes events rest → BeginsLog rules events s →
    (m : ℕ) × (length rest < m) × (log_meant rules bytes ≡ follow m rules (4 + length (joined events)) s rest)
log_behind rules bytes events rest s c b =
    let n = suc (length (magic ++ (joined events ++ rest))) in
    let k = follow_walk log_of n rules 4 front s events rest c.whole c.short (complete rules events s b) (omega arith) in
    (k.0, k.1, ap (λ z. log_meant rules z) c.are ∙ log_from rules (magic ++ (joined events ++ rest)) true (magic_there (joined events ++ rest)) ∙ k.2)

only_parts : {M : Type 0} (rules : Rules M) (bytes : List ℕ) (log : Log) → Parts rules bytes log → log ≡ log_meant rules bytes
only_parts rules bytes log p =
    let k = log_behind rules bytes p.events p.rest p.state p.cut p.begins in
    p.is ∙ sym (k.2 ∙ follow_stops log_of k.0 rules (4 + length (joined p.events)) p.state p.rest p.why k.1 p.refused)

pub only : {M : Type 0} (rules : Rules M) (bytes : List ℕ) (log : Log) → Means rules bytes log → log ≡ log_meant rules bytes
only rules bytes log (◌⊎◌.inl parts) = only_parts rules bytes log parts
only rules bytes log (◌⊎◌.inr (◌⊎◌.inl short)) =
    let all : take 4 bytes ≡ bytes = take_all 4 bytes (omega (arith, short.0)) in
    let right : has_magic bytes ≡ true = ap (λ z. pointwise nat_eq z (take (length bytes) magic)) (all ∙ short.1) ∙ same_bytes (take (length bytes) magic) in
    short.2 ∙ sym (log_from rules bytes true right ∙ short_magic rules bytes right short.0)
only rules bytes log (◌⊎◌.inr (◌⊎◌.inr none)) = none.1 ∙ sym (log_from rules bytes false none.0)

pub means_by_productions : {M : Type 0} (rules : Rules M) (bytes : List ℕ) → MeansByProductions rules bytes
means_by_productions rules bytes = record { means = means rules bytes; only = only rules bytes }
