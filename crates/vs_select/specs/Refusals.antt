-- When a text is refused, and when a table.
use Rattle.std.specs.Prelude.{◌≡◌, ℕ, Option, Some, Result, Err}
use Rattle.vs_select.specs.Binding.{Unbound, UnknownColumn, WrongLiteral}
use Rattle.vs_select.specs.declared.bound.BoundSelect.{BoundSelect}
use Rattle.vs_select.specs.declared.select.Select.{Select}
use Rattle.vs_select.specs.declared.select.Test.{Test}
use Rattle.vs_select.specs.declared.refusal.SelectRefusal.{SelectRefusal}
use Rattle.vs_select.specs.declared.refusal.SelectRefusal.TheVariants as refusal

-- what a refusal says of a text that is read; want of memory says nothing
abbrev pub BadSelectIs : Result Select ℕ → SelectRefusal → Type 0
BadSelectIs r (refusal.BadSelect at) = r ≡ Err at
BadSelectIs r (refusal.UnknownColumn name) = ⊥
BadSelectIs r (refusal.WrongLiteral name) = ⊥
BadSelectIs r refusal.Memory = Unit {0}

-- and of a table on which a select is to stand
abbrev pub UnboundIs : Result BoundSelect Unbound → SelectRefusal → Type 0
UnboundIs r (refusal.BadSelect at) = ⊥
UnboundIs r (refusal.UnknownColumn name) = r ≡ Err (UnknownColumn name)
UnboundIs r (refusal.WrongLiteral name) = r ≡ Err (WrongLiteral name)
UnboundIs r refusal.Memory = Unit {0}

-- and of the first test whose literal doesn't fit its column
abbrev pub WrongIs : Option Test → SelectRefusal → Type 0
WrongIs wrong (refusal.BadSelect at) = ⊥
WrongIs wrong (refusal.UnknownColumn name) = ⊥
WrongIs wrong (refusal.WrongLiteral name) = (t : Test) × (wrong ≡ Some t) × (t.column ≡ name)
WrongIs wrong refusal.Memory = Unit {0}
