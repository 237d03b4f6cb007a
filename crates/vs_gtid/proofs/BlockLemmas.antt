-- The fields of a block, one interval and one UUID at a time.
use Rattle.std.proofs.Common.{◌≡◌, ℕ, suc, ◌+◌, ◌-◌, ◌<◌, ◌≤◌, List, [], ◌∷◌, ◌++◌, Result, Ok, Err, Some, None, refl, ap, sym, ◌∙◌, arith}
use Rattle.std.proofs.lemmas.List.{append_assoc, append-nil}
use Rattle.vs_gtid.specs.declared.interval.Interval.{Interval}
use Rattle.vs_gtid.specs.declared.refusal.GtidRefusal.{GtidRefusal}
use Rattle.vs_gtid.specs.declared.refusal.GtidRefusal.TheVariants.{BadBlock}
use Rattle.vs_gtid.specs.Block.{block_intervals, block_of, both, number_at, set_of, span_at, spans_at, group_at, next_group, groups_at}

abbrev Many : Type 0
Many = Result (List Interval) GtidRefusal

both_assoc : (xs : List Interval) (r s : Many) → both (Ok xs) (both r s) ≡ both (both (Ok xs) r) s
both_assoc xs (Err e) s = refl
both_assoc xs (Ok is) (Err e) = refl
both_assoc xs (Ok is) (Ok js) = ap Ok (sym (append_assoc xs is js))

pub both_none : (xs : List Interval) → both (Ok xs) (Ok []) ≡ Ok xs
both_none xs = ap Ok (append-nil xs)

-- the next interval is read
pub spans_more : (count k : ℕ) (body uuid : List ℕ) (at : ℕ) (xs : List Interval) (i : Interval) → k < count → Ok i ≡ span_at body uuid at →
    both (Ok xs) (spans_at (count - k) body uuid at) ≡ both (Ok (xs ++ i ∷ [])) (spans_at (count - (k + 1)) body uuid (at + 16))
unfolding spans_at
spans_more count k body uuid at xs i l e =
    let n : count - k ≡ suc (count - (k + 1)) = omega arith in
    rw (n, ← e) (both_assoc xs (Ok (i ∷ [])) (spans_at (count - (k + 1)) body uuid (at + 16)))

-- or refused
pub spans_refused : (count k : ℕ) (body uuid : List ℕ) (at : ℕ) (xs : List Interval) (e : GtidRefusal) → k < count → Err e ≡ span_at body uuid at →
    both (Ok xs) (spans_at (count - k) body uuid at) ≡ Err e
unfolding spans_at
spans_refused count k body uuid at xs e l h =
    let n : count - k ≡ suc (count - (k + 1)) = omega arith in
    rw (n, ← h) refl

pub spans_end : (count k : ℕ) (body uuid : List ℕ) (at : ℕ) (xs : List Interval) → count ≤ k → both (Ok xs) (spans_at (count - k) body uuid at) ≡ Ok xs
unfolding spans_at
spans_end count k body uuid at xs l =
    let n : count - k ≡ 0 = omega arith in
    rw n (both_none xs)

-- the next UUID is read with its intervals
pub groups_more : (count k : ℕ) (body : List ℕ) (at : ℕ) (xs ys : List Interval) → k < count → Ok ys ≡ both (Ok xs) (group_at body at) →
    both (Ok xs) (groups_at (count - k) body at) ≡ both (Ok ys) (groups_at (count - (k + 1)) body (next_group body at))
unfolding groups_at
groups_more count k body at xs ys l e =
    let n : count - k ≡ suc (count - (k + 1)) = omega arith in
    rw n (both_assoc xs (group_at body at) (groups_at (count - (k + 1)) body (next_group body at))
    ∙ ap (λ (r : Many). both r (groups_at (count - (k + 1)) body (next_group body at))) (sym e))

pub groups_refused : (count k : ℕ) (body : List ℕ) (at : ℕ) (xs : List Interval) (e : GtidRefusal) → k < count → Err e ≡ both (Ok xs) (group_at body at) →
    both (Ok xs) (groups_at (count - k) body at) ≡ Err e
unfolding groups_at
groups_refused count k body at xs e l h =
    let n : count - k ≡ suc (count - (k + 1)) = omega arith in
    rw n (both_assoc xs (group_at body at) (groups_at (count - (k + 1)) body (next_group body at))
    ∙ ap (λ (r : Many). both r (groups_at (count - (k + 1)) body (next_group body at))) (sym h))

pub groups_end : (count k : ℕ) (body : List ℕ) (at : ℕ) (xs : List Interval) → count ≤ k → both (Ok xs) (groups_at (count - k) body at) ≡ Ok xs
unfolding groups_at
groups_end count k body at xs l =
    let n : count - k ≡ 0 = omega arith in
    rw n (both_none xs)

both_start : (r : Many) → both (Ok []) r ≡ r
both_start (Err e) = refl
both_start (Ok is) = refl

-- a body without its first count
pub block_cut : (body : List ℕ) → None ≡ number_at body 0 → block_of body ≡ Err (BadBlock 0)
unfolding block_intervals
block_cut body e = rw (← e) refl

-- and the others
pub block_read : (body : List ℕ) (count : ℕ) (r : Many) → Some count ≡ number_at body 0 → r ≡ both (Ok []) (groups_at count body 8) → set_of r ≡ block_of body
unfolding block_intervals
block_read body count r e h = rw (← e) (ap set_of (h ∙ both_start (groups_at count body 8)))

-- a refusal is the same, whatever was asked
pub refused_alike : (A B : Type 0) (d e : GtidRefusal) → ◌≡◌ {A = Result A GtidRefusal} (Err d) (Err e) → ◌≡◌ {A = Result B GtidRefusal} (Err d) (Err e)
refused_alike A B d e h = let same : d ≡ e = cc in cc

pub not_refused : (A : Type 0) (x : A) (e : GtidRefusal) → ◌≡◌ {A = Result A GtidRefusal} (Ok x) (Err e) → ⊥
not_refused A x e h = cc
