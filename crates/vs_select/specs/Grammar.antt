-- A select text: its parts one after another, and the first that doesn't fit.
use Rattle.std.specs.Prelude.{ℕ, Bool, true, false, not, nat_eq, List, [], ◌∷◌, ◌++◌, length, Option, Some, None, Result, Ok, Err, if◌then◌else◌, codes}
use Rattle.std.specs.List.{list_any}
use Rattle.std.specs.Option.{option_and_then, option_map}
use Rattle.std.specs.Cmp.Lexicographic.{pointwise}
use Rattle.vs_select.specs.Parts.{parts, is_keyword}
use Rattle.vs_select.specs.declared.part.Part.{Part}
use Rattle.vs_select.specs.declared.part.Part.TheVariants as part
use Rattle.vs_select.specs.declared.state.State.{State}
use Rattle.vs_select.specs.declared.state.State.TheVariants.{Begin, Selected, Starred, Listed, Comma, From, Named, Wanting, Column, Compared, Is, IsNot, Tested}
use Rattle.vs_select.specs.declared.select.Literal.{Literal}
use Rattle.vs_select.specs.declared.select.Condition.{Condition}
use Rattle.vs_select.specs.declared.select.Condition.TheVariants.{Compares, IsNull, IsNotNull}
use Rattle.vs_select.specs.declared.select.Select.{Select}

-- a name; no word is reserved
abbrev pub name_in : Part → Option (List ℕ)
name_in (part.Word w) = Some w
name_in (part.Quoted w) = Some w
name_in p = None

abbrev pub literal_in : Part → Option Literal
literal_in (part.Number negative size) = Some (Literal.Number negative size)
literal_in (part.Bytes text) = Some (Literal.Bytes text)
literal_in p = None

abbrev pub goes : Bool → State → Option State
goes true s = Some s
goes false s = None

-- the columns with one more, which is none of them
abbrev pub with_column : List (List ℕ) → List ℕ → Option State
with_column names n = goes (not (list_any (pointwise nat_eq n) names)) (Listed (names ++ n ∷ []))

abbrev pub with_test : Select → List ℕ → Condition → State
with_test s n c = Tested (record s { tests = s.tests ++ record { column = n; condition = c } ∷ [] })

-- the state after one more part, where it fits
abbrev pub step : State → Part → Option State
step Begin p = goes (is_keyword (codes "select") p) Selected
step Selected part.Star = Some Starred
step Selected p = option_and_then (with_column []) (name_in p)
step Starred p = goes (is_keyword (codes "from") p) (From None)
step (Listed names) part.Comma = Some (Comma names)
step (Listed names) p = goes (is_keyword (codes "from") p) (From (Some names))
step (Comma names) p = option_and_then (with_column names) (name_in p)
step (From columns) p = option_map (λ n. Named (record { columns = columns; table = n; tests = [] })) (name_in p)
step (Named s) p = goes (is_keyword (codes "where") p) (Wanting s)
step (Wanting s) p = option_map (Column s) (name_in p)
step (Column s n) (part.Sign by) = Some (Compared s n by)
step (Column s n) p = goes (is_keyword (codes "is") p) (Is s n)
step (Compared s n by) p = option_map (λ l. with_test s n (Compares by l)) (literal_in p)
step (Is s n) p = if is_keyword (codes "null") p then Some (with_test s n IsNull) else goes (is_keyword (codes "not") p) (IsNot s n)
step (IsNot s n) p = goes (is_keyword (codes "null") p) (with_test s n IsNotNull)
step (Tested s) p = goes (is_keyword (codes "and") p) (Wanting s)

-- the select of a text that ends here
abbrev pub done : State → Option Select
done (Named s) = Some s
done (Tested s) = Some s
done s = None

-- on from the state after a part, or the place of a part that doesn't fit
abbrev pub after : Option State → ℕ → (State → Result State ℕ) → Result State ℕ
after None at more = Err at
after (Some s) at more = more s

-- the state after all parts, or the place of the first that doesn't fit
abbrev pub run : State → List (ℕ × Part) → Result State ℕ
run s [] = Ok s
run s (p ∷ ps) = after (step s p.1) p.0 (λ t. run t ps)

abbrev pub ended : ℕ → Option Select → Result Select ℕ
ended size (Some s) = Ok s
ended size None = Err size

abbrev pub finished : ℕ → Result State ℕ → Result Select ℕ
finished size (Ok s) = ended size (done s)
finished size (Err at) = Err at

-- the select, or the place at which the text is none
abbrev pub select_of : List ℕ → Result Select ℕ
select_of text = finished (length text) (run Begin (parts text))
