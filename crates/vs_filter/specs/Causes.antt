-- When there is no filter, and when it doesn't bind.
use Rattle.std.specs.Prelude.{◌≡◌, ℕ, List, Option, Some, None, IsSomeAnd, All, take}
use Rattle.std.specs.List.{slice_get}
use Rattle.vs_base.specs.declared.rule_text.RuleText.{RuleText}
use Rattle.vs_base.specs.declared.table.Table.{Table}
use Rattle.vs_select.specs.Binding.{Unbound, UnknownColumn, WrongLiteral}
use Rattle.vs_select.specs.declared.refusal.SelectRefusal.{SelectRefusal}
use Rattle.vs_select.specs.declared.refusal.SelectRefusal.TheVariants as select
use Rattle.vs_outside.specs.Counts.{Rose}
use Rattle.vs_outside.specs.Patterns.{IsPattern}
use Rattle.vs_filter.specs.Fits.{IsRegexMatch, trimmed}
use Rattle.vs_filter.specs.Rules.{Fault, NoPattern, NoSelect, Meant, fault_of, first_fault, first_unbound}
use Rattle.vs_filter.specs.declared.rule.Rule.{Rule}
use Rattle.vs_filter.specs.declared.filter.FilterRefusal.{FilterRefusal}
use Rattle.vs_filter.specs.declared.filter.FilterRefusal.TheVariants as refusal

-- the first rule at fault is this, and why
abbrev pub FaultIs : List RuleText → ℕ → Fault → Type 0
FaultIs rules index why = first_fault rules ≡ Some (index, why)

-- the rules before this place have no fault, and the match of the rule there is a pattern
abbrev pub HasPatternAt : List RuleText → ℕ → Type 0
HasPatternAt rules index = (first_fault (take index rules) ≡ None) × IsSomeAnd (slice_get rules index) (λ r. IsRegexMatch r.pattern × IsPattern (trimmed r.pattern))

-- why there is no filter; counts are those of refused patterns before and now
abbrev pub NotBuiltIs : List RuleText → ℕ → ℕ → FilterRefusal → Type 0
NotBuiltIs rules before now (refusal.BadPattern index) = FaultIs rules index NoPattern
NotBuiltIs rules before now (refusal.PatternRefused index) = HasPatternAt rules index × Rose before now
NotBuiltIs rules before now (refusal.BadRule index at) = FaultIs rules index (NoSelect at)
NotBuiltIs rules before now (refusal.Unbound index why) = ⊥
NotBuiltIs rules before now refusal.Memory = Unit {0}

-- the same of one rule, which stands at this place
abbrev pub RuleRefusalIs : RuleText → ℕ → ℕ → ℕ → FilterRefusal → Type 0
RuleRefusalIs rule at before now (refusal.BadPattern index) = (index ≡ at) × (fault_of rule ≡ Some NoPattern)
RuleRefusalIs rule at before now (refusal.PatternRefused index) = (index ≡ at) × IsRegexMatch rule.pattern × IsPattern (trimmed rule.pattern) × Rose before now
RuleRefusalIs rule at before now (refusal.BadRule index place) = (index ≡ at) × (fault_of rule ≡ Some (NoSelect place))
RuleRefusalIs rule at before now (refusal.Unbound index why) = ⊥
RuleRefusalIs rule at before now refusal.Memory = Unit {0}

-- no rule has a pattern that is given to the crate of regular expressions
abbrev pub HasNoPattern : List RuleText → Type 0
HasNoPattern rules = All (λ r. ¬ (IsRegexMatch r.pattern)) rules

-- how a built rule is meant
abbrev pub meant_as : Rule → Meant
meant_as rule = record { pattern = rule.matching.text; take = rule.take }

-- what a refusal says of the select that doesn't bind
abbrev pub WhyIs : Option Unbound → SelectRefusal → Type 0
WhyIs why (select.UnknownColumn name) = why ≡ Some (UnknownColumn name)
WhyIs why (select.WrongLiteral name) = why ≡ Some (WrongLiteral name)
WhyIs why (select.BadSelect at) = ⊥
WhyIs why select.Memory = Unit {0}

-- what a refusal says of rules that don't bind
abbrev pub UnboundIs : List Meant → List Table → FilterRefusal → Type 0
UnboundIs rules schema (refusal.Unbound index (select.UnknownColumn name)) = first_unbound rules schema ≡ Some (index, UnknownColumn name)
UnboundIs rules schema (refusal.Unbound index (select.WrongLiteral name)) = first_unbound rules schema ≡ Some (index, WrongLiteral name)
UnboundIs rules schema (refusal.Unbound index (select.BadSelect at)) = ⊥
UnboundIs rules schema (refusal.Unbound index select.Memory) = ⊥
UnboundIs rules schema (refusal.BadPattern index) = ⊥
UnboundIs rules schema (refusal.PatternRefused index) = ⊥
UnboundIs rules schema (refusal.BadRule index at) = ⊥
UnboundIs rules schema refusal.Memory = Unit {0}
