-- A text that is no select from a place on is refused at that place.
use Rattle.std.proofs.Common.{◌≡◌, ◌++◌, ◌⊎◌, ◌-◌, ◌≤◌, ◌<◌, ℕ, zero, suc, true, false, List, [], ◌∷◌, Option, Some, None, Err, length, refl, ap, sym, ◌∙◌, inl, inr, ⊎_elim, arith, length-append}
use Rattle.std.specs.List.{list_all}
use Rattle.std.specs.Option.{option_and_then}
use Rattle.std.proofs.lemmas.Bool.{and_parts}
use Rattle.vs_select.specs.Grammar.{after, done, ended, finished, run, select_of, step}
use Rattle.vs_select.specs.Parts.{behind, is_blank, left_at, next_in, next_part, part_at, parts_from, placed, with_part}
use Rattle.vs_select.specs.Productions.{AreSelect, BeginsWithParts, CanGoOn, IsMissedAt, IsNoneFrom, IsUnclosed, SelectsAreProductions}
use Rattle.vs_select.specs.declared.part.Part.{Part}
use Rattle.vs_select.specs.declared.part.Part.TheVariants as part
use Rattle.vs_select.specs.declared.state.State.{State}
use Rattle.vs_select.specs.declared.state.State.TheVariants.{Begin}
use Rattle.vs_select.specs.declared.select.Select.{Select}
use Rattle.vs_select.proofs.GrammarLaws.{accept, to_come, walk}
use Rattle.vs_select.proofs.AcceptLaws.{selects_accepted}
use Rattle.vs_select.proofs.ReadLemmas.{behind-first, leaves_less, meant-stopped}
use Rattle.vs_select.proofs.SpellLaws.{behind-none}
use Rattle.vs_select.proofs.RunLaws.{fits_stands, next_at, no_part_run}
use Rattle.vs_select.proofs.SelectLaws.{begins_at_once, behind_walk, can_go, left_is, left_of_unclosed, law_all, law_place, law_some, not_spelled, same_part, unclosed_opens}

-- ---- the state behind the parts that go on

abbrev Reached : State → List Part → Type 0
Reached st ps = (u : State) × (walk st ps ≡ Some u)

reached_more : (ps more : List Part) (s : Select) (o : Option State) → ((u : State) → accept u (ps ++ more) ≡ Some s → Reached u ps) → option_and_then (λ u. accept u (ps ++ more)) o ≡ Some s → (t : State) × (option_and_then (λ u. walk u ps) o ≡ Some t)
reached_more ps more s None later h = absurd (cc)
reached_more ps more s (Some u) later h = later u h

reached : (ps more : List Part) (st : State) (s : Select) → accept st (ps ++ more) ≡ Some s → Reached st ps
reached [] more st s h = (st, refl)
reached (p ∷ ps) more st s h = reached_more ps more s (step st p) (λ u. reached ps more u s) h

walk_on : (o : Option State) (p : Part) (ps : List Part) (t v : State) → ((u : State) → walk u ps ≡ Some t → walk u (ps ++ p ∷ []) ≡ Some v) → option_and_then (λ u. walk u ps) o ≡ Some t → option_and_then (λ u. walk u (ps ++ p ∷ [])) o ≡ Some v
walk_on None p ps t v later h = absurd (cc)
walk_on (Some u) p ps t v later h = later u h

one_step_more : (ps : List Part) (p : Part) (st t v : State) → walk st ps ≡ Some t → step t p ≡ Some v → walk st (ps ++ p ∷ []) ≡ Some v
one_step_more [] p st t v h fits =
    let same : st ≡ t = cc in
    ap (λ u. option_and_then (λ w. Some w) (step u p)) same ∙ ap (option_and_then (λ w. Some w)) fits
one_step_more (q ∷ ps) p st t v h fits = walk_on (step st q) p ps t v (λ u k. one_step_more ps p u t v k fits) h

-- ---- a run over the parts in front

blanks_in_front : (blanks rest : List ℕ) → list_all is_blank blanks ≡ true → behind is_blank (blanks ++ rest) ≡ behind is_blank rest
blanks_in_front [] rest h = refl
blanks_in_front (c ∷ cs) rest h =
    let both = and_parts (is_blank c) (list_all is_blank cs) h in
    behind-first is_blank c (cs ++ rest) both.0 ∙ blanks_in_front cs rest both.1

same_next : (n size : ℕ) (text rest : List ℕ) (st : State) → next_part text ≡ next_part rest → run st (parts_from n size text) ≡ run st (parts_from n size rest)
same_next zero size text rest st e = refl
same_next (suc m) size text rest st e = ap (λ o. run st (with_part size o (parts_from m size))) e

abbrev GoesTo : State → ℕ → ℕ → List ℕ → State → List ℕ → Type 0
GoesTo st n size text u rest = (m : ℕ) × (length rest ≤ m) × (run st (parts_from n size text) ≡ run u (parts_from m size rest))

goes_on_by : (m size at : ℕ) (text rest : List ℕ) (ps : List Part) (u : State) (o : Option State) → ((v : State) → walk v ps ≡ Some u → GoesTo v m size text u rest) → option_and_then (λ v. walk v ps) o ≡ Some u → (k : ℕ) × (length rest ≤ k) × (after o at (λ v. run v (parts_from m size text)) ≡ run u (parts_from k size rest))
goes_on_by m size at text rest ps u None later h = absurd (cc)
goes_on_by m size at text rest ps u (Some v) later h = later v h

runs_front : (ps : List Part) (n size : ℕ) (text rest : List ℕ) (st u : State) → length text ≤ n → BeginsWithParts text ps rest → walk st ps ≡ Some u → GoesTo st n size text u rest
runs_front [] n size text rest st u few b h =
    let same : st ≡ u = cc in
    let long : length text ≡ length (b.0 ++ rest) = ap length b.1 in
    let next : next_part text ≡ next_part rest = ap next_part b.1 ∙ ap next_in (blanks_in_front b.0 rest b.2) in
    (n, omega (arith, length-append b.0 rest), same_next n size text rest st next ∙ ap (λ v. run v (parts_from n size rest)) same)
runs_front (p ∷ ps) zero size text rest st u few b h =
    let next = next_at p text b.0 b.1 b.2 b.3 b.4 b.5 b.6 in
    let less : length b.2 < length text = (leaves_less text (next.0, (p, b.2)) next.1).0 in
    absurd (omega arith)
runs_front (p ∷ ps) (suc m) size text rest st u few b h =
    let next = next_at p text b.0 b.1 b.2 b.3 b.4 b.5 b.6 in
    let less : length b.2 < length text = (leaves_less text (next.0, (p, b.2)) next.1).0 in
    let by_part : run st (with_part size (next_part text) (parts_from m size)) ≡ after (step st p) (size - next.0) (λ v. run v (parts_from m size b.2)) = ap (λ o. run st (with_part size o (parts_from m size))) next.1 in
    let later = goes_on_by m size (size - next.0) b.2 rest ps u (step st p) (λ v k. runs_front ps m size b.2 rest v u (omega arith) b.7 k) h in
    (later.0, later.1, by_part ∙ later.2)

-- ---- the text ends there

ended_by : (text : List ℕ) (at : ℕ) (u : State) (o : Option Select) → done u ≡ o → ((s : Select) → done u ≡ Some s → ⊥) → at ≡ length text - 0 → ended (length text) o ≡ Err at
ended_by text at u (Some s) e none place = absurd (none s e)
ended_by text at u None e none place = let all : length text ≡ at = omega arith in ap Err all

-- ---- a part stands there, or none

unclosed_or_not : (p : Part) → (p ≡ part.Unclosed) ⊎ (p ≡ part.Unclosed → ⊥)
unclosed_or_not part.Unclosed = inl refl
unclosed_or_not p = inr (λ h. cc)

is_unclosed : (c : ℕ) (cs : List ℕ) → next_part (c ∷ cs) ≡ Some (placed (length (c ∷ cs)) (part_at c cs)) → (part_at c cs).0 ≡ part.Unclosed → IsUnclosed (c ∷ cs)
is_unclosed c cs h e = (
  c,
  cs,
  refl,
  unclosed_opens c cs e,
  λ p rest b.
      let next = next_at p (c ∷ cs) b.0 b.1 b.2 b.3 b.4 b.5 b.6 in
      not_spelled p b.1 (same_part (c ∷ cs) b.2 p next.0 (placed (length (c ∷ cs)) (part_at c cs)) next.1 h ∙ e) b.5,
)

place_there : (c : ℕ) (cs : List ℕ) (size at : ℕ) → next_part (c ∷ cs) ≡ Some (placed (length (c ∷ cs)) (part_at c cs)) → (IsUnclosed (c ∷ cs) → at ≡ size) → ((IsUnclosed (c ∷ cs) → ⊥) → at ≡ size - length (c ∷ cs)) → size - left_at (part_at c cs).0 (length (c ∷ cs)) ≡ at
place_there c cs size at h unclosed closed =
    ⊎_elim
    (λ e. let all : size - 0 ≡ size = omega arith in ap (λ p. size - left_at p (length (c ∷ cs))) e ∙ (all ∙ sym (unclosed (is_unclosed c cs h e))))
    (λ ne.
    let left : left_at (part_at c cs).0 (length (c ∷ cs)) ≡ length (c ∷ cs) = left_is (part_at c cs).0 (length (c ∷ cs)) ne in
    ap (λ k. size - k) left ∙ sym (closed (λ u. let none : left_at (part_at c cs).0 (length (c ∷ cs)) ≡ 0 = left_of_unclosed c cs u in let both : length (c ∷ cs) ≡ 0 = sym left ∙ none in omega arith)))
    (unclosed_or_not (part_at c cs).0)

-- what fits there could go on
fitting : (before : List Part) (u v : State) (c : ℕ) (cs : List ℕ) → walk Begin before ≡ Some u → ((p : Part) (rest : List ℕ) → BeginsWithParts (c ∷ cs) (p ∷ []) rest → CanGoOn (before ++ p ∷ []) → ⊥) → step u (part_at c cs).0 ≡ Some v → ⊥
fitting before u v c cs walked stops fits = stops (part_at c cs).0 (part_at c cs).1 (begins_at_once c cs (fits_stands u v (part_at c cs).0 fits)) (can_go (before ++ (part_at c cs).0 ∷ []) v (one_step_more before (part_at c cs).0 Begin u v walked fits))

no_step : (o : Option State) → ((v : State) → o ≡ Some v → ⊥) → o ≡ None
no_step None h = refl
no_step (Some v) h = absurd (h v refl)

refused_at : (text : List ℕ) (at : ℕ) (before : List Part) (rest : List ℕ) → BeginsWithParts text before rest → ((c : ℕ) (cs : List ℕ) → rest ≡ c ∷ cs → is_blank c ≡ false) → CanGoOn before → (rest ≡ [] → (s : Select) → AreSelect before s → ⊥) → ((p : Part) (behind : List ℕ) → BeginsWithParts rest (p ∷ []) behind → CanGoOn (before ++ p ∷ []) → ⊥) → IsMissedAt text rest at → select_of text ≡ Err at
refused_at text at before [] begins no_blank goes_on none stops place =
    let r = reached before goes_on.0 Begin goes_on.1 (selects_accepted (before ++ goes_on.0) goes_on.1 goes_on.2) in
    let g = runs_front before (length text) (length text) text [] Begin r.0 (omega arith) begins r.1 in
    ap (finished (length text)) (g.2 ∙ no_part_run g.0 (length text) [] r.0 refl)
    ∙ ended_by text at r.0 (done r.0) refl (λ s e. none refl s (to_come before Begin s (behind_walk before Begin r.0 r.1 ∙ e))) (place.1 (λ u. let empty : [] ≡ u.0 ∷ u.1 = u.2 in cc))
refused_at text at before (c ∷ cs) begins no_blank goes_on none stops place =
    let next : next_part (c ∷ cs) ≡ Some (placed (length (c ∷ cs)) (part_at c cs)) = ap next_in (behind-none is_blank c cs (no_blank c cs refl)) in
    let r = reached before goes_on.0 Begin goes_on.1 (selects_accepted (before ++ goes_on.0) goes_on.1 goes_on.2) in
    let g = runs_front before (length text) (length text) text (c ∷ cs) Begin r.0 (omega arith) begins r.1 in
    let stopped : step r.0 (part_at c cs).0 ≡ None = no_step (step r.0 (part_at c cs).0) (λ v fits. fitting before r.0 v c cs r.1 stops fits) in
    ap (finished (length text)) g.2
    ∙ (meant-stopped r.0 g.0 (length text) (c ∷ cs) (placed (length (c ∷ cs)) (part_at c cs)) next stopped g.1
    ∙ ap Err (place_there c cs (length text) at next place.0 place.1))

only : (text : List ℕ) (at : ℕ) → IsNoneFrom text at → select_of text ≡ Err at
only text at k = refused_at text at k.before k.rest k.begins k.no_blank k.goes_on k.none k.stops k.place

pub selects_are_productions : SelectsAreProductions
selects_are_productions = record { some = law_some; all = law_all; place = law_place; only = only }
