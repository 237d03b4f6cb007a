-- Why a filter isn't built, rule by rule.
use Rattle.std.proofs.Common.{◌≡◌, ℕ, ◌+◌, ◌++◌, ◌∷◌, [], map, ◌<◌, ◌≤◌, List, Some, None, IsSomeAnd, length, get_or, take, drop, sym, ap, ◌∙◌, subst, arith}
use Rattle.std.specs.List.{slice_get}
use Rattle.std.proofs.lemmas.List.{map-append, take_more}
use Rattle.std.proofs.lemmas.Option.{slice_get-get_or}
use Rattle.vs_base.specs.declared.rule_text.RuleText.{RuleText}
use Rattle.vs_outside.specs.Counts.{Rose}
use Rattle.vs_outside.specs.Patterns.{IsPattern}
use Rattle.vs_filter.specs.Causes.{HasNoPattern, HasPatternAt, NotBuiltIs, RuleRefusalIs, meant_as}
use Rattle.vs_filter.specs.Fits.{IsRegexMatch, trimmed}
use Rattle.vs_filter.specs.Rules.{NoPattern, NoSelect, fault_of, first_fault, first_from, meant_by}
use Rattle.vs_filter.specs.declared.filter.FilterRefusal.{FilterRefusal}
use Rattle.vs_filter.specs.declared.filter.FilterRefusal.TheVariants as refusal
use Rattle.vs_filter.specs.declared.rule.Rule.{Rule}
use Rattle.vs_filter.proofs.FirstLemmas.{first_at}

rose_before : (before mid now : ℕ) → before ≤ mid → Rose mid now → Rose before now
rose_before before mid now le rose = omega (arith, le, rose)

module _ (rules : List RuleText) (i : ℕ) (rule : RuleText) (lt : i < length rules) (is : rule ≡ get_or rules i rule) where
  -- the rule at a place has no pattern where none has
  pub has_none_at : HasNoPattern rules → ¬ (IsRegexMatch rule.pattern)
  has_none_at none = subst (λ (r : RuleText). ¬ (IsRegexMatch r.pattern)) (sym is) (none i rule lt)

  -- what the refusal of one rule says of all
  pub not_built : (before mid now : ℕ) → first_from fault_of i (drop i rules) ≡ first_fault rules → first_fault (take i rules) ≡ None → before ≤ mid →
      (e : FilterRefusal) → RuleRefusalIs rule i mid now e → NotBuiltIs rules before now e
  not_built before mid now left front le (refusal.BadPattern index) (same, fault) =
      first_at fault_of rules i rule NoPattern lt is left fault ∙ ap (λ k. Some (k, NoPattern)) (sym same)
  not_built before mid now left front le (refusal.BadRule index at) (same, fault) =
      first_at fault_of rules i rule (NoSelect at) lt is left fault ∙ ap (λ k. Some (k, NoSelect at)) (sym same)
  not_built before mid now left front le (refusal.PatternRefused index) (same, regex, pattern, rose) =
      let found : Some rule ≡ slice_get rules i = ap (λ r. Some r) is ∙ sym (slice_get-get_or rules i rule lt) in
      let here : HasPatternAt rules i = (front, subst (λ o. IsSomeAnd o (λ (r : RuleText). IsRegexMatch r.pattern × IsPattern (trimmed r.pattern))) found (regex, pattern)) in
      (subst (HasPatternAt rules) (sym same) here, rose_before before mid now le rose)
  not_built before mid now left front le (refusal.Unbound index why) none = absurd none
  not_built before mid now left front le refusal.Memory m = m

  -- one rule more
  pub built_more : (built new : List Rule) (made : Rule) → new ≡ built ++ made ∷ [] → map meant_as built ≡ map meant_by (take i rules) →
      meant_as made ≡ meant_by rule → map meant_as new ≡ map meant_by (take (i + 1) rules)
  built_more built new made pushed before meant =
      let more : take (i + 1) rules ≡ take i rules ++ rule ∷ [] = take_more rules i rule lt ∙ ap (λ r. take i rules ++ r ∷ []) (sym is) in
      ap (map meant_as) pushed ∙ map-append meant_as built (made ∷ []) ∙ ap (λ ms. ms ++ meant_as made ∷ []) before
      ∙ ap (λ m. map meant_by (take i rules) ++ m ∷ []) meant ∙ sym (ap (map meant_by) more ∙ map-append meant_by (take i rules) (rule ∷ []))
