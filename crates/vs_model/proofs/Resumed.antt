-- Two legal lists, of which the second goes on at the last vector of the first, are one.
use Rattle.std.proofs.Common.{◌≡◌, List, [], ◌∷◌, ◌++◌, Option, Some, None, filter, refl, ap, sym, ◌∙◌, subst, ◌⊎◌, inl, inr, ⊎_elim}
use Rattle.std.specs.List.{last_or}
use Rattle.std.proofs.lemmas.List.Elements.{filter-append}
use Rattle.vs_model.specs.Logs.{Cluster, LogsAreDistinct}
use Rattle.vs_gtid.specs.Vectors.{Vector}
use Rattle.vs_model.specs.Frames.{Frame, vector_after, last_vector, is_no_beat}
use Rattle.vs_model.specs.Frames.Frame.{AllCopied}
use Rattle.vs_model.specs.Copy.{Filter}
use Rattle.vs_model.specs.Legal.{Legal, AllCopiedFollows, IsCopyDoneFrame}
use Rattle.vs_model.specs.Steps.{Steps}
use Rattle.vs_model.proofs.Lists.{same_head, same_tail}
use Rattle.vs_model.proofs.Runs.{steps_are_legal, legal_is_steps}

module _ {X : Type 0} where
  -- where an item of two lists stands
  abbrev pub StandsIn : List X → List X → List X → X → List X → Type 0
  StandsIn xs ys before x behind =
      ((rest : List X) × (xs ≡ before ++ x ∷ rest)) ⊎ ((rest : List X) × (before ≡ xs ++ rest) × (ys ≡ rest ++ x ∷ behind))

  behind_first : (a b : X) (xs ys before : List X) (x : X) (behind : List X) → a ≡ b → StandsIn xs ys before x behind →
      StandsIn (a ∷ xs) ys (b ∷ before) x behind
  behind_first a b xs ys before x behind same (inl h) = inl (h.0, ap (λ y. y ∷ xs) same ∙ ap (λ l. b ∷ l) h.1)
  behind_first a b xs ys before x behind same (inr h) = inr (h.0, ap (λ y. y ∷ before) (sym same) ∙ ap (λ l. a ∷ l) h.1, h.2)

  pub stands_in : (xs ys before : List X) (x : X) (behind : List X) → xs ++ ys ≡ before ++ x ∷ behind → StandsIn xs ys before x behind
  stands_in [] ys before x behind is = inr (before, refl, is)
  stands_in (a ∷ xs) ys [] x behind is = inl (xs, ap (λ y. y ∷ xs) (same_head _ _ _ _ is))
  stands_in (a ∷ xs) ys (b ∷ before) x behind is =
      behind_first a b xs ys before x behind (same_head _ _ _ _ is) (stands_in xs ys before x behind (same_tail _ _ _ _ is))

  pub last_or-append : (o : Option X) (xs ys : List X) → last_or o (xs ++ ys) ≡ last_or (last_or o xs) ys
  last_or-append o [] ys = refl
  last_or-append o (x ∷ xs) ys = last_or-append (Some x) xs ys

copy_done_last : (o : Option Frame) (fs : List Frame) → IsCopyDoneFrame (last_or None fs) → IsCopyDoneFrame (last_or o fs)
copy_done_last o [] h = absurd h
copy_done_last o (f ∷ fs) h = h

follows_both : (fs gs : List Frame) → AllCopiedFollows fs → AllCopiedFollows gs → AllCopiedFollows (fs ++ gs)
follows_both fs gs in_first in_second before behind is = ⊎_elim
    (λ h. in_first before h.0 h.1)
    (λ h. let done = copy_done_last (last_or None (filter is_no_beat fs)) (filter is_no_beat h.0) (in_second h.0 behind h.2) in
    subst (λ l. IsCopyDoneFrame (last_or None (filter is_no_beat l))) (sym h.1)
    (subst (λ l. IsCopyDoneFrame (last_or None l)) (sym (filter-append is_no_beat fs h.0))
    (subst IsCopyDoneFrame (sym (last_or-append None (filter is_no_beat fs) (filter is_no_beat h.0))) done)))
    (stands_in fs gs before AllCopied behind is)

module _ (cluster : Cluster) (rules : Filter) where
  pub steps_both : (fs gs : List Frame) (v : Vector) → Steps cluster rules v fs → Steps cluster rules (last_vector v fs) gs → Steps cluster rules v (fs ++ gs)
  steps_both [] gs v first then = then
  steps_both (f ∷ fs) gs v first then = (first.0, steps_both fs gs (vector_after v f) first.1 then)

  pub resumed : (v0 : Vector) (fs gs : List Frame) → LogsAreDistinct cluster → Legal cluster rules v0 fs → Legal cluster rules (last_vector v0 fs) gs →
      Legal cluster rules v0 (fs ++ gs)
  resumed v0 fs gs distinct first then =
      steps_are_legal cluster rules v0 (fs ++ gs) distinct (follows_both fs gs first.all_copied then.all_copied)
      (steps_both fs gs v0 (legal_is_steps cluster rules v0 fs first) (legal_is_steps cluster rules (last_vector v0 fs) gs then))
