-- How often a name stands among names, and what that says of feeds that are out.
use Rattle.std.proofs.Common.{◌≡◌, ℕ, ◌+◌, ◌<◌, ◌≤◌, Bool, true, false, cond, List, [], ◌∷◌, ◌++◌, add-zero, refl, sym, ap, subst, ◌∙◌, arith}
use Rattle.std.proofs.lemmas.List.Sums.{sum_by-append, sum_by-cons}
use Rattle.vs_base.specs.declared.shard_name.ShardName.{ShardName}
use Rattle.vs_base.specs.Names.{same_name}
use Rattle.vs_base.proofs.NameLemmas.{same_name-refl, same_name-is}
use Rattle.vs_outside.specs.Counts.{KeepsCounts, KeepsOthers}
use Rattle.vs_outside.specs.Feeds.{times, lent, GivesAllBack}

-- one name more
pub times-push : (names : List ShardName) (name n : ShardName) → times n (names ++ name ∷ []) ≡ times n names + cond (same_name name n) 1 0
times-push names name n =
    let more : times n (names ++ name ∷ []) ≡ times n names + times n (name ∷ []) = sum_by-append (λ m. cond (same_name m n) 1 0) names (name ∷ []) in
    more ∙ ap (λ k. times n names + k) (sum_by-cons (λ m. cond (same_name m n) 1 0) name [] ∙ add-zero (cond (same_name name n) 1 0))

pub times-again : (names : List ShardName) (name : ShardName) → times name (names ++ name ∷ []) ≡ times name names + 1
times-again names name = times-push names name name ∙ ap (λ b. times name names + cond b 1 0) (same_name-refl name)

pub times-longer : (names : List ShardName) (name n : ShardName) → times n names ≤ times n (names ++ name ∷ [])
times-longer names name n = let more = times-push names name n in omega arith

-- a name that was just opened has a feed out
pub opened_is_lent : (opened : List ShardName) (returned : ShardName → ℕ) (name : ShardName) → returned name ≤ times name opened → returned name < times name (opened ++ name ∷ [])
opened_is_lent opened returned name within = let more = times-again opened name in omega arith

-- counts of feeds given back stay within those of openings, where one more of a name that is out is given back
pub within-more : (opened : List ShardName) (returned later : ShardName → ℕ) (name : ShardName) → returned name < times name opened →
    later name ≡ returned name + 1 → KeepsOthers name returned later → ((n : ShardName) → returned n ≤ times n opened) → (n : ShardName) → later n ≤ times n opened
within-more opened returned later name out more others within n = go (same_name name n) refl
  where
    go : (b : Bool) → same_name name n ≡ b → later n ≤ times n opened
    go true same =
        let is : name ≡ n = same_name-is name n same in
        let now : later n ≡ returned n + 1 = ap later (sym is) ∙ more ∙ ap (λ m. returned m + 1) is in
        let below : returned n < times n opened = subst (λ m. returned m < times m opened) is out in
        omega arith
    go false other = let kept = others n other in let before = within n in omega arith

pub gives_back-same : (opened : List ShardName) (returned later : ShardName → ℕ) → KeepsCounts returned later → GivesAllBack opened returned opened later
gives_back-same opened returned later kept n = let is = kept n in omega arith

pub gives_back-once : (opened : List ShardName) (returned later : ShardName → ℕ) (name : ShardName) → later name ≡ returned name + 1 → KeepsOthers name returned later →
    GivesAllBack opened returned (opened ++ name ∷ []) later
gives_back-once opened returned later name more others n = go (same_name name n) refl
  where
    go : (b : Bool) → same_name name n ≡ b → times n (opened ++ name ∷ []) + returned n ≡ later n + times n opened
    go true same =
        let is : name ≡ n = same_name-is name n same in
        let now : later n ≡ returned n + 1 = ap later (sym is) ∙ more ∙ ap (λ m. returned m + 1) is in
        let long : times n (opened ++ name ∷ []) ≡ times n opened + 1 = times-push opened name n ∙ ap (λ b. times n opened + cond b 1 0) same in
        omega arith
    go false other =
        let kept : later n ≡ returned n = others n other in
        let long : times n (opened ++ name ∷ []) ≡ times n opened + 0 = times-push opened name n ∙ ap (λ b. times n opened + cond b 1 0) other in
        omega arith

-- the same with what each call says: one opens the log, and a later one gives the feed back
pub opened_and_returned : (opened longer : List ShardName) (returned between later : ShardName → ℕ) (name : ShardName) → longer ≡ opened ++ name ∷ [] → KeepsCounts returned between →
    later name ≡ between name + 1 → KeepsOthers name between later → GivesAllBack opened returned longer later
opened_and_returned opened longer returned between later name is kept more others =
    let once = gives_back-once opened returned later name (more ∙ ap (λ m. m + 1) (kept name)) (λ n other. others n other ∙ kept n) in
    λ n. ap (λ l. times n l + returned n) is ∙ once n

pub gives_back-joined : (a : List ShardName) (r : ShardName → ℕ) (b : List ShardName) (s : ShardName → ℕ) (c : List ShardName) (t : ShardName → ℕ) →
    GivesAllBack a r b s → GivesAllBack b s c t → GivesAllBack a r c t
gives_back-joined a r b s c t first second n = let p = first n in let q = second n in omega arith

-- which is to say that as many are out
pub gives_back-lent : (a : List ShardName) (r : ShardName → ℕ) (b : List ShardName) (s : ShardName → ℕ) (n : ShardName) → r n ≤ times n a → s n ≤ times n b →
    GivesAllBack a r b s → lent n b s ≡ lent n a r
gives_back-lent a r b s n within later back = let is = back n in omega arith
