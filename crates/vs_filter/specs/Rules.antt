-- The rules of a filter, and what they take of the tables of a schema.
use Rattle.std.specs.Prelude.{ℕ, ◌+◌, not, ◌||◌, nat_eq, List, [], ◌∷◌, map, Option, Some, None, Result, Ok, Err, codes, if◌then◌else◌}
use Rattle.std.specs.Result.{result_err, result_ok}
use Rattle.std.specs.List.{find, filter_map, slice_get}
use Rattle.std.specs.Option.{option_and_then, option_map, option_or}
use Rattle.std.specs.Cmp.Lexicographic.{pointwise}
use Rattle.vs_base.specs.declared.rule_text.RuleText.{RuleText}
use Rattle.vs_base.specs.declared.table.Column.{Column}
use Rattle.vs_base.specs.declared.table.Table.{Table}
use Rattle.vs_select.specs.Grammar.{select_of}
use Rattle.vs_select.specs.Binding.{Unbound, bound_select, whole}
use Rattle.vs_select.specs.declared.select.Select.{Select}
use Rattle.vs_select.specs.declared.bound.BoundSelect.{BoundSelect}
use Rattle.vs_filter.specs.Fits.{begins_with_slash, fits, lacks_pattern}
use Rattle.vs_filter.specs.declared.rule.Take.{Take}
use Rattle.vs_filter.specs.declared.rule.Take.TheVariants.{Nothing, Everything, Chosen}
use Rattle.vs_filter.specs.declared.bound.Picked.{Picked}

-- ---- what a rule's filter takes of the tables that its match fits

abbrev pub chosen_by : Result Select ℕ → Result Take ℕ
chosen_by (Ok s) = Ok (Chosen s)
chosen_by (Err at) = Err at

-- nothing, all of each, or what a select keeps; or the place at which the text is none of these
abbrev pub take_of : List ℕ → Result Take ℕ
take_of [] = Ok Everything
take_of (c ∷ cs) = if pointwise nat_eq (c ∷ cs) (codes "exclude") then Ok Nothing else chosen_by (select_of (c ∷ cs))

-- a select stands on the plain name of its table
abbrev pub place_of_fault : List ℕ → Result Take ℕ → Option ℕ
place_of_fault pattern (Err at) = Some at
place_of_fault pattern (Ok Nothing) = None
place_of_fault pattern (Ok Everything) = None
place_of_fault pattern (Ok (Chosen s)) = if begins_with_slash pattern || not (pointwise nat_eq s.table pattern) then Some 0 else None

-- what is wrong with a rule: its match is no pattern; or its filter is no select on its match, and the place
pub data Fault : Type 0 where
  NoPattern : Fault
  NoSelect : ℕ → Fault

abbrev pub fault_of : RuleText → Option Fault
fault_of rule = if lacks_pattern rule.pattern then Some NoPattern else option_map NoSelect (place_of_fault rule.pattern (take_of rule.filter))

-- the first item that has an answer, by its place, and the answer
abbrev pub first_from : {A B : Type 0} → (A → Option B) → ℕ → List A → Option (ℕ × B)
first_from f i [] = None
first_from f i (x ∷ xs) = option_or (option_map (λ y. (i, y)) (f x)) (first_from f (i + 1) xs)

abbrev pub first_fault : List RuleText → Option (ℕ × Fault)
first_fault rules = first_from fault_of 0 rules

-- a rule as it is meant: which names it fits, and what it takes of these tables; one with a fault takes nothing
pub record Meant : Type 0 where
  pub pattern : List ℕ
  pub take : Take

abbrev pub or_nothing : Result Take ℕ → Take
or_nothing (Ok take) = take
or_nothing (Err at) = Nothing

abbrev pub meant_by : RuleText → Meant
meant_by rule = record { pattern = rule.pattern; take = or_nothing (take_of rule.filter) }

-- ---- what rules take of a table

-- of the tables that a schema lists and doesn't skip
abbrev pub table_in : List Table → List ℕ → Option Table
table_in schema name = find (λ t. pointwise nat_eq t.name name) schema

abbrev pub taken_by : Take → Table → Option BoundSelect
taken_by Nothing table = None
taken_by Everything table = Some (whole table.columns)
taken_by (Chosen s) table = result_ok (bound_select table.columns s)

-- what the first rule that fits the table takes of it
abbrev pub taken_of : List Meant → Table → Option BoundSelect
taken_of rules table = option_and_then (λ r. taken_by r.take table) (find (λ r. fits r.pattern table.name) rules)

-- the columns of a select, in its order
abbrev pub columns_at : List Column → List ℕ → List Column
columns_at columns places = filter_map (slice_get columns) places

abbrev pub picked_as : Table → BoundSelect → Picked
picked_as table select = record { name = table.name; columns = columns_at table.columns select.columns; select = select }

-- the tables of which something is taken, in the order of the schema
abbrev pub picked_by : List Meant → List Table → List Picked
picked_by rules schema = filter_map (λ t. option_map (picked_as t) (taken_of rules t)) schema

abbrev pub picked_tables : List RuleText → List Table → List Picked
picked_tables rules schema = picked_by (map meant_by rules) schema

-- ---- selects that don't bind

-- why the select of a rule doesn't bind to its table, where the schema has that table
abbrev pub unbound_by : List Table → Take → Option Unbound
unbound_by schema Nothing = None
unbound_by schema Everything = None
unbound_by schema (Chosen s) = option_and_then (λ t. result_err (bound_select t.columns s)) (table_in schema s.table)

-- the first rule whose select doesn't bind, whichever rule fits its table first
abbrev pub first_unbound : List Meant → List Table → Option (ℕ × Unbound)
first_unbound rules schema = first_from (λ r. unbound_by schema r.take) 0 rules
