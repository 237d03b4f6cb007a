-- The entries of a log make no position that is too large: from a start at its end none of those behind it does.
use Rattle.std.proofs.Common.{◌≡◌, ℕ, zero, suc, ◌≤◌, length, take, drop, true, false, ◌||◌, not, if◌then◌else◌, List, [], ◌∷◌, ◌++◌, Bool, Result, Ok, Err, refl, sym, ap, subst, ◌∙◌, arith}
use Rattle.std.proofs.lemmas.Bool.{or_from}
use Rattle.std.specs.Prelude.{IfOk}
use Rattle.std.specs.List.{AllByRecursion, list_any}
use Rattle.vs_base.specs.declared.Gtid.{Gtid}
use Rattle.vs_base.specs.Names.{same_gtid}
use Rattle.vs_base.proofs.NameLemmas.{same_gtid-refl}
use Rattle.vs_gtid.specs.declared.Entry.{Entry}
use Rattle.vs_gtid.specs.Positions.{Position, has}
use Rattle.vs_gtid.specs.Joins.{added}
use Rattle.vs_gtid.specs.Logs.{Log, HaveDistinctGtids}
use Rattle.vs_gtid.proofs.JoinLemmas.{has-added}
use Rattle.vs_log.specs.Laws.{FitAlong, HasNewGtids}
use Rattle.vs_command.specs.Sending.{IsNextTooLarge, IsTooLargeAlong, lacking, position_after}

-- with one entry more, which fits, the entries fit
pub FitAlong-more : (p : Position) (xs : List Entry) (e : Entry) → FitAlong p xs → length (added (position_after p xs) e.gtid) ≤ 1024 → FitAlong p (xs ++ e ∷ [])
FitAlong-more p [] e fit next = (next, tt)
FitAlong-more p (x ∷ xs) e fit next = (fit.0, FitAlong-more (added p x.gtid) xs e fit.1 next)

-- entries that fit make no position that is too large
pub fit_all : (p : Position) (es : List Entry) → FitAlong p es → IsTooLargeAlong p es → ⊥
fit_all p es fit (sent, rest, are, large) = go p sent rest (subst (λ xs. FitAlong p xs) are fit) large
  where
    go : (p : Position) (sent rest : List Entry) → FitAlong p (sent ++ rest) → IsNextTooLarge (position_after p sent) rest → ⊥
    go p [] [] fit large = large
    go p [] (e ∷ rest) fit large = omega (arith, fit.0, large)
    go p (s ∷ sent) rest fit large = go (added p s.gtid) sent rest fit.1 large

-- those behind the first ones fit behind them
FitAlong-drop : (p : Position) (es : List Entry) (n : ℕ) → FitAlong p es → FitAlong (position_after p (take n es)) (drop n es)
FitAlong-drop p es zero fit = fit
FitAlong-drop p [] (suc n) fit = tt
FitAlong-drop p (e ∷ es) (suc n) fit = FitAlong-drop (added p e.gtid) es n fit.1

-- what a position has, it has with more
has_after : (p : Position) (es : List Entry) (g : Gtid) → has p g ≡ true → has (position_after p es) g ≡ true
has_after p [] g h = h
has_after p (e ∷ es) g h = has_after (added p e.gtid) es g (has-added p e.gtid g ∙ ap (λ b. b || same_gtid e.gtid g) h)

abbrev Lacks : Position → List Entry → Type 0
Lacks p es = AllByRecursion (λ (e : Entry). has p e.gtid ≡ false) es

lacks_all : (p : Position) (es : List Entry) → Lacks p es → lacking p es ≡ es
lacks_all p [] h = refl
lacks_all p (e ∷ es) h = ap (λ b. if not b then e ∷ lacking p es else lacking p es) h.0 ∙ ap (λ l. e ∷ l) (lacks_all p es h.1)

-- with the GTID of an entry before them, others are still lacking
lacks_with : (p : Position) (g : Gtid) (es : List Entry) → Lacks p es → list_any (λ (f : Entry). same_gtid g f.gtid) es ≡ false → Lacks (added p g) es
lacks_with p g [] h other = tt
lacks_with p g (e ∷ es) h other =
    let parts = or_both (same_gtid g e.gtid) (list_any (λ (f : Entry). same_gtid g f.gtid) es) other in
    (has-added p g e.gtid ∙ or_from (has p e.gtid) (same_gtid g e.gtid) h.0 parts.0, lacks_with p g es h.1 parts.1)
  where
    or_both : (a b : Bool) → (a || b) ≡ false → (a ≡ false) × (b ≡ false)
    or_both true b h = absurd (cc)
    or_both false b h = (refl, h)

-- the position behind the first entries lacks just those behind them
lacking_behind : (p : Position) (es : List Entry) (n : ℕ) → Lacks p es → HaveDistinctGtids es → lacking (position_after p (take n es)) es ≡ drop n es
lacking_behind p es zero lacks distinct = lacks_all p es lacks
lacking_behind p [] (suc n) lacks distinct = refl
lacking_behind p (e ∷ es) (suc n) lacks distinct =
    let q : Position = position_after (added p e.gtid) (take n es) in
    let its : has q e.gtid ≡ true = has_after (added p e.gtid) (take n es) e.gtid (has-added p e.gtid e.gtid ∙ ap (λ b. has p e.gtid || b) (same_gtid-refl e.gtid) ∙ or_true (has p e.gtid)) in
    ap (λ b. if not b then e ∷ lacking q es else lacking q es) its ∙ lacking_behind (added p e.gtid) es n (lacks_with p e.gtid es lacks.1 distinct.0) distinct.1
  where
    or_true : (b : Bool) → (b || true) ≡ true
    or_true true = refl
    or_true false = refl

-- from a start behind the first entries of a log all that is due fits
pub fits_behind : {E : Type 0} (log : Log) (n : ℕ) (entries : List Entry) (r : Result Position E) → HasNewGtids log → entries ≡ log.entries →
    IfOk r (λ p. p ≡ position_after log.base (take n entries)) → IfOk r (λ p. FitAlong p (lacking p log.entries))
fits_behind log n entries (Ok p) new all is =
    let at : p ≡ position_after log.base (take n log.entries) = is ∙ ap (λ es. position_after log.base (take n es)) all in
    subst (λ q. FitAlong q (lacking q log.entries)) (sym at) (subst (λ es. FitAlong (position_after log.base (take n log.entries)) es)
    (sym (lacking_behind log.base log.entries n new.lacking new.distinct)) (FitAlong-drop log.base log.entries n new.few))
fits_behind log n entries (Err e) new all is = tt
