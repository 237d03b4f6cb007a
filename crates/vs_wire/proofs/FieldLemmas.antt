-- A walk goes on field by field, and each field takes some bytes.
use Rattle.std.proofs.Common.{◌≡◌, ℕ, zero, suc, ◌+◌, ◌-◌, ◌*◌, ◌%◌, ◌^◌, ◌<◌, ◌≤◌, ◌==◌, false, inl, inr, List, [], ◌∷◌, length, length-drop, take, drop, Result, Ok, Err, refl, ap, sym, ◌∙◌, arith}
use Rattle.std.proofs.lemmas.List.{take_all}
use Rattle.vs_wire.specs.declared.refusal.Flaw.{Flaw}
use Rattle.vs_wire.specs.Varint.{◌>>=◌, number_in, varint_in}
use Rattle.vs_wire.specs.declared.field.WireType.{WireType}
use Rattle.vs_wire.specs.Fields.{Value, Walk, nothing, with_first, ends_at, tag_parts, tag_in, value_in, field_in, walk, fields_from}
use Rattle.vs_wire.proofs.VarintLemmas.{found, same_parts, below_or_not, number_in-last, number_in-more}

-- ---- what an answer comes from

bind_ok : {A B E : Type 0} (r : Result A E) (f : A → Result B E) (y : B) → (r >>= f) ≡ Ok y → (x : A) × (r ≡ Ok x) × (f x ≡ Ok y)
bind_ok (Ok x) f y h = (x, refl, h)
bind_ok (Err e) f y h = cc

abbrev taken_by : {A E : Type 0} → Result (ℕ × A × ℕ) E → ℕ
taken_by (Ok x) = x.2
taken_by (Err e) = 0

same_taken : {A E : Type 0} (x y : ℕ × A × ℕ) → ◌≡◌ {A = Result (ℕ × A × ℕ) E} (Ok x) (Ok y) → x.2 ≡ y.2
same_taken x y e = ap taken_by e

-- ---- a field takes some bytes

number_takes : (k : ℕ) (bytes : List ℕ) (n taken : ℕ) → number_in k bytes ≡ found n taken → 0 < taken
unfolding number_in
number_takes zero bytes n taken e = cc
number_takes (suc k) [] n taken e = cc
number_takes (suc k) (b ∷ bytes) n taken e = elim (below_or_not b 128) [
  | inl low ↦ omega (arith, (same_parts b 1 n taken (sym (number_in-last k b bytes low) ∙ e)).1)
  | inr high ↦
      let rest = bind_ok (number_in k bytes) (λ m. found (b - 128 + 128 * m.0) (m.1 + 1)) (n, taken) (sym (number_in-more k b bytes high) ∙ e) in
      omega (arith, (same_parts (b - 128 + 128 * rest.0.0) (rest.0.1 + 1) n taken rest.2).1)
]

varint_takes : (bytes : List ℕ) (n taken : ℕ) → varint_in bytes ≡ found n taken → 0 < taken
varint_takes bytes n taken e =
    let read = bind_ok (number_in 10 bytes) (λ m. found (m.0 % 2 ^ 64) m.1) (n, taken) e in
    let some = number_takes 10 bytes read.0.0 read.0.1 read.1 in
    omega (arith, (same_parts (read.0.0 % 2 ^ 64) read.0.1 n taken read.2).1)

tag_takes : (bytes : List ℕ) (tag : ℕ × WireType × ℕ) → tag_in bytes ≡ Ok tag → 0 < tag.2
unfolding tag_in
tag_takes bytes tag e =
    let read = bind_ok (varint_in bytes) (λ t. tag_parts t.0 >>= λ parts. Ok (parts.0, parts.1, t.1)) tag e in
    let parts = bind_ok (tag_parts read.0.0) (λ p. Ok (p.0, p.1, read.0.1)) tag read.2 in
    let some = varint_takes bytes read.0.0 read.0.1 read.1 in
    omega (arith, same_taken (parts.0.0, parts.0.1, read.0.1) tag parts.2)

pub field_takes : (bytes : List ℕ) (f : ℕ × Value × ℕ) → field_in bytes ≡ Ok f → 0 < f.2
unfolding field_in
field_takes bytes f e =
    let tag = bind_ok (tag_in bytes) (λ t. value_in t.1 (drop t.2 bytes) >>= λ v. Ok (t.0, v.0, t.2 + v.1)) f e in
    let value = bind_ok (value_in tag.0.1 (drop tag.0.2 bytes)) (λ v. Ok (tag.0.0, v.0, tag.0.2 + v.1)) f tag.2 in
    let some = tag_takes bytes tag.0 tag.1 in
    omega (arith, same_taken (tag.0.0, value.0.0, tag.0.2 + value.0.1) f value.2)

-- ---- a walk, field by field

walk-end : (k at : ℕ) → walk k at [] ≡ nothing
unfolding walk
walk-end zero at = refl
walk-end (suc k) at = refl

-- what a walk makes of what stands at its front
abbrev step : ℕ → ℕ → List ℕ → Result (ℕ × Value × ℕ) Flaw → Walk
step k at bytes read = elim read [
  | Ok f ↦ with_first (record { field = f.0; at = at; value = f.1 }) (walk k (at + f.2) (drop f.2 bytes))
  | Err flaw ↦ ends_at at flaw
]

walk-step : (k at b : ℕ) (bytes : List ℕ) → walk (suc k) at (b ∷ bytes) ≡ step k at (b ∷ bytes) (field_in (b ∷ bytes))
unfolding walk
walk-step k at b bytes = refl

walk-next : (k at b : ℕ) (bytes : List ℕ) (f : ℕ × Value × ℕ) → field_in (b ∷ bytes) ≡ Ok f →
    walk (suc k) at (b ∷ bytes) ≡ with_first (record { field = f.0; at = at; value = f.1 }) (walk k (at + f.2) (drop f.2 (b ∷ bytes)))
walk-next k at b bytes f e = walk-step k at b bytes ∙ ap (λ r. step k at (b ∷ bytes) r) e

walk-fault : (k at b : ℕ) (bytes : List ℕ) (flaw : Flaw) → field_in (b ∷ bytes) ≡ Err flaw → walk (suc k) at (b ∷ bytes) ≡ ends_at at flaw
walk-fault k at b bytes flaw e = walk-step k at b bytes ∙ ap (λ r. step k at (b ∷ bytes) r) e

-- any bound on the number of fields that is large enough serves
walk-bound : (k j at : ℕ) (bytes : List ℕ) → length bytes ≤ k → length bytes ≤ j → walk k at bytes ≡ walk j at bytes
walk-bound k j at [] h i = walk-end k at ∙ sym (walk-end j at)
walk-bound zero j at (b ∷ bytes) h i = absurd (omega arith)
walk-bound (suc k) zero at (b ∷ bytes) h i = absurd (omega arith)
walk-bound (suc k) (suc j) at (b ∷ bytes) h i =
    elim (field_in (b ∷ bytes)) as (λ r. field_in (b ∷ bytes) ≡ r → walk (suc k) at (b ∷ bytes) ≡ walk (suc j) at (b ∷ bytes)) [
      | Ok f ↦ λ e.
          let some = field_takes (b ∷ bytes) f e in
          let less = length-drop f.2 (b ∷ bytes) in
          walk-next k at b bytes f e
          ∙ ap (λ w. with_first (record { field = f.0; at = at; value = f.1 }) w) (walk-bound k j (at + f.2) (drop f.2 (b ∷ bytes)) (omega arith) (omega arith))
          ∙ sym (walk-next j at b bytes f e)
      | Err flaw ↦ λ e. walk-fault k at b bytes flaw e ∙ sym (walk-fault j at b bytes flaw e)
    ] refl

pub fields_from-end : (at : ℕ) (bytes : List ℕ) → length bytes ≡ 0 → fields_from at bytes ≡ nothing
fields_from-end at [] h = walk-end 0 at
fields_from-end at (b ∷ bytes) h = absurd (omega arith)

none_is_cut : (f : ℕ × Value × ℕ) → field_in [] ≡ Ok f → ⊥
unfolding field_in tag_in number_in
none_is_cut f e = cc

next_after : (at : ℕ) (bytes : List ℕ) (f : ℕ × Value × ℕ) → field_in bytes ≡ Ok f →
    fields_from at bytes ≡ with_first (record { field = f.0; at = at; value = f.1 }) (fields_from (at + f.2) (drop f.2 bytes))
next_after at [] f e = absurd (none_is_cut f e)
next_after at (b ∷ bytes) f e =
    let some = field_takes (b ∷ bytes) f e in
    let less = length-drop f.2 (b ∷ bytes) in
    walk-next (length bytes) at b bytes f e
    ∙ ap (λ w. with_first (record { field = f.0; at = at; value = f.1 }) w)
    (walk-bound (length bytes) (length (drop f.2 (b ∷ bytes))) (at + f.2) (drop f.2 (b ∷ bytes)) (omega arith) (omega arith))

pub fields_from-next : (at : ℕ) (bytes rest : List ℕ) (f : ℕ × Value × ℕ) → field_in bytes ≡ Ok f → rest ≡ drop f.2 bytes →
    fields_from at bytes ≡ with_first (record { field = f.0; at = at; value = f.1 }) (fields_from (at + f.2) rest)
fields_from-next at bytes rest f e same =
    next_after at bytes f e ∙ ap (λ r. with_first (record { field = f.0; at = at; value = f.1 }) (fields_from (at + f.2) r)) (sym same)

pub fields_from-fault : (at : ℕ) (bytes : List ℕ) (flaw : Flaw) → false ≡ (length bytes == 0) → field_in bytes ≡ Err flaw →
    fields_from at bytes ≡ ends_at at flaw
fields_from-fault at [] flaw h e = cc
fields_from-fault at (b ∷ bytes) flaw h e = walk-fault (length bytes) at b bytes flaw e

pub take_rest : (n : ℕ) (xs : List ℕ) → take (length xs - n) (drop n xs) ≡ drop n xs
take_rest n xs = let size = length-drop n xs in take_all (length xs - n) (drop n xs) (omega arith)
