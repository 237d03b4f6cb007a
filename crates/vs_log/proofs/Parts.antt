-- Less than an event is left where none is taken and nothing is wrong.
use Rattle.std.proofs.Common.{◌≡◌, ◌≤◌, ◌+◌, ℕ, Bool, true, false, List, length, nat_lt, None, refl, sym, ◌∙◌, arith}
use Rattle.std.specs.Prelude.{◌⊎◌}
use Rattle.std.proofs.lemmas.Bool.{and_from, cases_lt, le-leb, ltb-false, ltb-true}
use Rattle.vs_binlog.specs.Heads.{Event, length_of}
use Rattle.vs_log.specs.declared.event.Sort.{Sort}
use Rattle.vs_log.specs.declared.event.Sort.TheVariants.{AnonymousEvent, PassedOver, FormatEvent, PreviousEvent, GtidEvent, QueryEvent, XidEvent, MapEvent, RowsEvent, ForeignEvent}
use Rattle.vs_log.specs.States.{Place}
use Rattle.vs_log.specs.Events.{IsPart, is_held, last_place, limit, sort_of}
use Rattle.vs_log.specs.Meaning.{head_refusal}
use Rattle.vs_log.specs.Table.{bytes_with, sum_with}
use Rattle.vs_log.proofs.Faults.{by_tests, judged}

unjudged : (cut short large past : Bool) (n b : ℕ) → judged cut short large past n b ≡ None → (cut ≡ true) ⊎ ((cut ≡ false) × (short ≡ false) × (large ≡ false) × (past ≡ false))
unjudged true short large past n b h = ◌⊎◌.inl refl
unjudged false true large past n b h = absurd (cc)
unjudged false false true past n b h = absurd (cc)
unjudged false false false true n b h = absurd (cc)
unjudged false false false false n b h = ◌⊎◌.inr (refl, refl, refl, refl)

sum_least : {M : Type 0} (place : Place M) (sort : Sort) (n : ℕ) → n ≤ sum_with place sort n
sum_least place AnonymousEvent n = omega arith
sum_least place PassedOver n = omega arith
sum_least place FormatEvent n = omega arith
sum_least place PreviousEvent n = omega arith
sum_least place GtidEvent n = omega arith
sum_least place QueryEvent n = omega arith
sum_least place XidEvent n = omega arith
sum_least place MapEvent n = omega arith
sum_least place RowsEvent n = omega arith
sum_least place ForeignEvent n = omega arith

bytes_least : {M : Type 0} (place : Place M) (e : Event) → length_of e ≤ bytes_with place e
unfolding bytes_with
bytes_least place e = sum_least place (sort_of e) (length_of e)

held_there : (at : ℕ) (rest : List ℕ) → 19 ≤ length rest → 19 ≤ length_of rest → length_of rest ≤ length rest → at + length_of rest ≤ last_place → is_held at rest ≡ true
unfolding is_held
held_there at rest a b c d =
    and_from _ _ (le-leb 19 (length rest) a) (and_from _ _ (le-leb 19 (length_of rest) b) (and_from _ _ (le-leb (length_of rest) (length rest) c) (le-leb (at + length_of rest) last_place d)))

pub is_part : {M : Type 0} (at : ℕ) (place : Place M) (rest : List ℕ) → is_held at rest ≡ false → head_refusal at place rest ≡ None → IsPart rest
is_part at place rest h r = go (unjudged _ _ _ _ _ _ (sym (by_tests at place rest) ∙ r)) where
  go : (nat_lt (length rest) 19 ≡ true)
      ⊎ ((nat_lt (length rest) 19 ≡ false) × (nat_lt (length_of rest) 19 ≡ false) × (nat_lt limit (bytes_with place rest) ≡ false) × (nat_lt last_place (at + length_of rest) ≡ false)) → IsPart rest
  go (◌⊎◌.inl cut) = ◌⊎◌.inl (ltb-true (length rest) 19 cut)
  go (◌⊎◌.inr t) =
      let a = ltb-false (length rest) 19 t.0 in
      let b = ltb-false (length_of rest) 19 t.1 in
      let c = ltb-false limit (bytes_with place rest) t.2 in
      let d = ltb-false last_place (at + length_of rest) t.3 in
      let least = bytes_least place rest in
      elim (cases_lt (length rest) (length_of rest)) [
        | ◌⊎◌.inl less ↦ ◌⊎◌.inr (less, omega (arith, c, least))
        | ◌⊎◌.inr fits ↦ (let e : true ≡ false = sym (held_there at rest a b fits d) ∙ h in absurd (cc))
      ]
