-- The counts of names, before and after a call of the openings.
use Rattle.std.proofs.Common.{◌≡◌, ℕ, suc, ◌+◌, ◌-◌, ◌^◌, min, ◌<◌, ◌≤◌, Bool, true, false, not, ◌&&◌, cond, List, [], ◌∷◌, ◌++◌, length, get_or, position, Some, None, refl, sym, ap, ◌∙◌, arith}
use Rattle.std.proofs.Math.ListN.{set}
use Rattle.std.proofs.Math.Seq.{map-set_same}
use Rattle.std.specs.List.{position_or_len}
use Rattle.std.proofs.lemmas.Bool.{and_parts}
use Rattle.std.proofs.lemmas.List.{map-append}
use Rattle.std.proofs.lemmas.List.Quantifiers.{position-Some}
use Rattle.std.proofs.lemmas.List.Sums.{sum_by-append, sum_by-cons, sum_by-set}
use Rattle.vs_base.specs.declared.shard_name.ShardName.{ShardName}
use Rattle.vs_base.specs.Names.{same_name}
use Rattle.vs_base.proofs.NameLemmas.{same_name-is}
use Rattle.vs_outside.specs.Counts.{raised, KeepsCounts, KeepsOthers}
use Rattle.vs_outside.specs.Feeds.{times}
use Rattle.vs_outside.specs.Openings.{opened_names, returned_of, sum_of}
use Rattle.vs_outside.proofs.FeedLemmas.{times-again}
use Rattle.vs_outside.proofs.PlaceLemmas.{position-None}
use Rattle.vs_outside.specs.declared.openings.Opening.{Opening}

-- an opening of the name whose feed is out
abbrev pub is_out : ShardName → Opening → Bool
is_out name o = same_name o.name name && not o.returned

-- what an opening adds to the sum of a name
abbrev part : (Opening → ℕ) → ShardName → Opening → ℕ
part f name o = cond (same_name o.name name && o.returned) (f o) 0

part-of : (f : Opening → ℕ) (name : ShardName) (o : Opening) (a b : Bool) → same_name o.name name ≡ a → o.returned ≡ b → part f name o ≡ cond (a && b) (f o) 0
part-of f name o a b p q = ap (λ s. cond (s && o.returned) (f o) 0) p ∙ ap (λ r. cond (a && r) (f o) 0) q

-- no more feeds of a name were given back than its log was opened
pub returned_within : (openings : List Opening) (name : ShardName) → returned_of openings name ≤ times name (opened_names openings)
returned_within [] name = omega arith
returned_within (o ∷ os) name =
    let first : cond (same_name o.name name && o.returned) 1 0 ≤ cond (same_name o.name name) 1 0 = one (same_name o.name name) o.returned in
    let rest = returned_within os name in
    let given = sum_by-cons (part (λ _. 1) name) o os in
    let opened = sum_by-cons (λ n. cond (same_name n name) 1 0) o.name (opened_names os) in
    omega arith
  where
    one : (a b : Bool) → cond (a && b) 1 0 ≤ cond a 1 0
    one true true = omega arith
    one true false = omega arith
    one false b = omega arith

-- a count that stops is raised as its sum is
raised-sum : (before now more : ℕ) → now ≡ before + more → min now (2 ^ 64 - 1) ≡ raised more (min before (2 ^ 64 - 1))
raised-sum before now more is = omega arith

was_out : (b : Bool) → not b ≡ true → b ≡ false
was_out true e = cc
was_out false e = refl

-- the feed of the first opening of the name that is out is given back
module _ (openings : List Opening) (name : ShardName) (place : ℕ) (held changed : Opening)
    (at : position (is_out name) openings ≡ Some place) (is : held ≡ get_or openings place held) (kept : changed.name ≡ held.name) (given : changed.returned ≡ true) where
  held_out : (same_name held.name name ≡ true) × (held.returned ≡ false)
  held_out =
      let parts = and_parts _ _ (ap (is_out name) is ∙ (position-Some (is_out name) openings place held at).1) in
      (parts.0, was_out held.returned parts.1)

  sums : (f : Opening → ℕ) (n : ShardName) → sum_of f (set openings place changed) n + part f n held ≡ sum_of f openings n + part f n changed
  sums f n =
      ap (λ o. sum_of f (set openings place changed) n + part f n o) is
      ∙ sum_by-set (part f n) openings place changed held (position-Some (is_out name) openings place held at).0

  pub sum_of-given : (f : Opening → ℕ) → sum_of f (set openings place changed) name ≡ sum_of f openings name + f changed
  sum_of-given f =
      let before : part f name held ≡ 0 = part-of f name held true false held_out.0 held_out.1 in
      let after : part f name changed ≡ f changed = part-of f name changed true true (ap (λ m. same_name m name) kept ∙ held_out.0) given in
      let both = sums f name in
      omega arith

  pub sum_of-other : (f : Opening → ℕ) (n : ShardName) → same_name name n ≡ false → sum_of f (set openings place changed) n ≡ sum_of f openings n
  sum_of-other f n other =
      let differs : same_name held.name n ≡ false = ap (λ m. same_name m n) (same_name-is held.name name held_out.0) ∙ other in
      let before : part f n held ≡ 0 = part-of f n held false held.returned differs refl in
      let after : part f n changed ≡ 0 = part-of f n changed false changed.returned (ap (λ m. same_name m n) kept ∙ differs) refl in
      let both = sums f n in
      omega arith

  pub count_of-given : (f : Opening → ℕ) (more : ℕ) → f changed ≡ more → min (sum_of f (set openings place changed) name) (2 ^ 64 - 1) ≡ raised more (min (sum_of f openings name) (2 ^ 64 - 1))
  count_of-given f more is_more = raised-sum (sum_of f openings name) _ more (sum_of-given f ∙ ap (λ n. sum_of f openings name + n) is_more)

  pub count_of-other : (f : Opening → ℕ) (n : ShardName) → same_name name n ≡ false →
      min (sum_of f (set openings place changed) n) (2 ^ 64 - 1) ≡ min (sum_of f openings n) (2 ^ 64 - 1)
  count_of-other f n other = ap (λ s. min s (2 ^ 64 - 1)) (sum_of-other f n other)

  pub opened_names-set : opened_names (set openings place changed) ≡ opened_names openings
  opened_names-set = map-set_same (λ o. o.name) openings place changed held (kept ∙ ap (λ o. o.name) is)

  pub within-given : (n : ShardName) → returned_of (set openings place changed) n ≤ times n (opened_names (set openings place changed))
  within-given = returned_within (set openings place changed)

abbrev one_if : Bool → ℕ
one_if b = cond b 1 0

-- where no feed of the name is out, each was given back
pub all_given : (openings : List Opening) (name : ShardName) → position (is_out name) openings ≡ None → returned_of openings name ≡ times name (opened_names openings)
all_given openings name none = go openings (position-None (is_out name) openings none)
  where
    is_given : (a b : Bool) (at many : ℕ) → (cond (not (a && not b)) (1 + at) 0 < suc many → ⊥) → one_if (a && b) ≡ one_if a
    is_given true true at many outside = refl
    is_given true false at many outside = absurd (outside (omega arith))
    is_given false b at many outside = refl

    outside_rest : (a b : Bool) (at many : ℕ) → (cond (not (a && not b)) (1 + at) 0 < suc many → ⊥) → at < many → ⊥
    outside_rest true true at many outside lt = outside (omega arith)
    outside_rest true false at many outside lt = outside (omega arith)
    outside_rest false b at many outside lt = outside (omega arith)

    go : (os : List Opening) → (position_or_len (is_out name) os < length os → ⊥) → returned_of os name ≡ times name (opened_names os)
    go [] outside = refl
    go (o ∷ os) outside =
        let at = position_or_len (is_out name) os in
        let first : one_if (same_name o.name name && o.returned) ≡ one_if (same_name o.name name) = is_given _ _ at (length os) outside in
        let rest = go os (outside_rest (same_name o.name name) o.returned at (length os) outside) in
        let given = sum_by-cons (part (λ _. 1) name) o os in
        let opened = sum_by-cons (λ n. cond (same_name n name) 1 0) o.name (opened_names os) in
        omega arith

-- an opening at the end, whose feed is out
pub sum_of-push : (f : Opening → ℕ) (openings : List Opening) (new : Opening) → new.returned ≡ false → KeepsCounts (sum_of f openings) (sum_of f (openings ++ new ∷ []))
sum_of-push f openings new out n =
    let joined = sum_by-append (part f n) openings (new ∷ []) in
    let last = sum_by-cons (part f n) new [] in
    let none : part f n new ≡ 0 = part-of f n new (same_name new.name n) false refl out ∙ no_part (same_name new.name n) in
    omega arith
  where
    no_part : (a : Bool) → cond (a && false) (f new) 0 ≡ 0
    no_part true = refl
    no_part false = refl

pub pushed_is_out : (openings : List Opening) (new : Opening) (name : ShardName) → new.returned ≡ false → new.name ≡ name →
    returned_of (openings ++ new ∷ []) name < times name (opened_names (openings ++ new ∷ []))
pushed_is_out openings new name out is =
    let kept = sum_of-push (λ _. 1) openings new out name in
    let within = returned_within openings name in
    let more : times name (opened_names (openings ++ new ∷ [])) ≡ times name (opened_names openings) + 1 =
    ap (times name) (map-append (λ o. o.name) openings (new ∷ []) ∙ ap (λ m. opened_names openings ++ m ∷ []) is) ∙ times-again (opened_names openings) name
    in
    omega arith

-- where no fault comes and there was none, there is none
pub no_faults-add : (before now : ShardName → ℕ) (name : ShardName) (more : ℕ) → now name ≡ raised more (before name) → more ≡ 0 → KeepsOthers name before now →
    ((n : ShardName) → before n ≡ 0) → (n : ShardName) → now n ≡ 0
no_faults-add before now name more added none others zeros n = go (same_name name n) refl
  where
    go : (b : Bool) → same_name name n ≡ b → now n ≡ 0
    go true same = ap now (sym (same_name-is name n same)) ∙ added ∙ ap (λ k. raised k (before name)) none ∙ ap (raised 0) (zeros name)
    go false other = others n other ∙ zeros n
