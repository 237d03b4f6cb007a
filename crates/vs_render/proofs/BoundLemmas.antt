-- What rules pick of an ordered schema is ordered.
use Rattle.std.proofs.Common.{◌≡◌, ℕ, Option, Some, None, List, [], ◌∷◌, map}
use Rattle.std.specs.List.{AllByRecursion, cons_option}
use Rattle.std.specs.Option.{option_map}
use Rattle.std.specs.Ordering.{nat_cmp}
use Rattle.std.specs.Cmp.Lexicographic.{slice_cmp}
use Rattle.std.specs.declared.cmp.Ordering.TheVariants.{Less}
use Rattle.vs_base.specs.declared.Table.{Table}
use Rattle.vs_select.specs.declared.bound.BoundSelect.{BoundSelect}
use Rattle.vs_filter.specs.Rules.{Meant, picked_as, picked_by, taken_of}
use Rattle.vs_model.specs.Copies.{AreAscending}

-- a name that stands ahead of those of all tables stands ahead of those of the picked ones
below : (rules : List Meant) (x : List ℕ) (tables : List Table) → AllByRecursion (λ y. slice_cmp nat_cmp x y ≡ Less) (map (λ t. t.name) tables) →
    AllByRecursion (λ y. slice_cmp nat_cmp x y ≡ Less) (map (λ p. p.name) (picked_by rules tables))
below rules x [] all = tt
below rules x (t ∷ tables) all = by (taken_of rules t) (below rules x tables all.1)
  where
    by : (o : Option BoundSelect) → AllByRecursion (λ y. slice_cmp nat_cmp x y ≡ Less) (map (λ p. p.name) (picked_by rules tables)) →
        AllByRecursion (λ y. slice_cmp nat_cmp x y ≡ Less) (map (λ p. p.name) (cons_option (option_map (picked_as t) o) (picked_by rules tables)))
    by None rest = rest
    by (Some s) rest = (all.0, rest)

pub ascending : (rules : List Meant) (tables : List Table) → AreAscending (slice_cmp nat_cmp) (map (λ t. t.name) tables) → AreAscending (slice_cmp nat_cmp) (map (λ p. p.name) (picked_by rules tables))
ascending rules [] are = tt
ascending rules (t ∷ tables) are = by (taken_of rules t) (below rules t.name tables are.0) (ascending rules tables are.1)
  where
    by : (o : Option BoundSelect) → AllByRecursion (λ y. slice_cmp nat_cmp t.name y ≡ Less) (map (λ p. p.name) (picked_by rules tables)) → AreAscending (slice_cmp nat_cmp) (map (λ p. p.name) (picked_by rules tables)) →
        AreAscending (slice_cmp nat_cmp) (map (λ p. p.name) (cons_option (option_map (picked_as t) o) (picked_by rules tables)))
    by None less rest = rest
    by (Some s) less rest = (less, rest)
