-- Events by what they begin and end with, and their messages field by field.
use Rattle.std.proofs.Common.{◌≡◌, ℕ, ℤ, pos, Bool, true, false, List, [], ◌∷◌, ◌++◌, length, take, drop, map, nat_lt, refl, ap, ap₂, sym, ◌∙◌, append_assoc, if◌then◌else◌}
use Rattle.std.proofs.lemmas.List.{append-nil}
use Rattle.std.specs.List.{flat_map}
use Rattle.std.specs.Option.{option_map}
use Rattle.vs_base.specs.declared.Cell.{Cell}
use Rattle.vs_base.specs.declared.Change.{Change}
use Rattle.vs_base.specs.declared.table.Column.{Column}
use Rattle.vs_base.specs.Rows.{cell_bytes, cell_length}
use Rattle.vs_wire.specs.Fields.{Value, field_bytes, sized}
use Rattle.vs_wire.specs.Varint.{spelled_in}
use Rattle.vs_proto.specs.Frames.{events_bytes}
use Rattle.vs_proto.specs.Kinds.{enumeration, if_any, if_packed, int64, packed_bytes, zigzag}
use Rattle.vs_proto.specs.Shapes.{all_set, if_set, spelling, values_bytes}
use Rattle.vs_proto.specs.Tables.{event, field, field_event, response, row, row_change, row_event, vgtid}
use Rattle.vs_proto.specs.declared.event.VEvent.{VEvent}
use Rattle.vs_proto.specs.declared.row.Row.{Row}
use Rattle.vs_proto.specs.declared.row.RowChange.{RowChange}
use Rattle.vs_proto.specs.declared.vgtid.VGtid.{VGtid}
use Rattle.vs_proto.specs.declared.event_kind.TheConstants.{FIELD, ROW, VGTID}
use Rattle.vs_render.specs.Events.{EventHead, Changed, Columns, event_of, field_event_of, field_of, plain_event, row_event_of, table_name, type_number, vector_event}
use Rattle.vs_render.specs.Spelling.{event_around, event_end, event_start, said_bytes}
use Rattle.vs_vector.specs.Messages.{row_of}
use Rattle.vs_render.proofs.FieldLemmas.{behind_front}

-- ---- events

-- one event is one field of its message
one_event : (e : VEvent) → events_bytes (e ∷ []) ≡ field_bytes 1 (sized (spelling (event true) e))
unfolding response spelling
one_event e = append-nil (field_bytes 1 (sized (spelling (event true) e)) ++ []) ∙ append-nil (field_bytes 1 (sized (spelling (event true) e)))

-- the parts of an event with one field between its beginning and its end
parts : (a b middle c d : List ℕ) → a ++ (b ++ (middle ++ (c ++ (d ++ [])))) ≡ (a ++ b) ++ (middle ++ (c ++ d))
parts a b middle c d =
    ap (λ (bs : List ℕ). a ++ (b ++ (middle ++ (c ++ bs)))) (append-nil d) ∙ sym (append_assoc a b (middle ++ (c ++ d)))

around : (h : EventHead) (kind : ℤ) (middle more : List ℕ) → middle ≡ more →
    field_bytes 1 (sized (values_bytes 1 (enumeration.spelled kind) ++ (values_bytes 2 (int64.spelled (pos h.time)) ++ (middle ++ (values_bytes 22 (if_any h.keyspace) ++ (values_bytes 23 (if_any h.shard) ++ [])))))) ≡ event_around h kind more
around h kind middle more e =
    ap (λ (bs : List ℕ). field_bytes 1 (sized bs)) (parts (values_bytes 1 (enumeration.spelled kind)) (values_bytes 2 (int64.spelled (pos h.time))) middle (values_bytes 22 (if_any h.keyspace)) (values_bytes 23 (if_any h.shard)))
    ∙ ap (λ (bs : List ℕ). event_around h kind bs) e

plain_bytes : (h : EventHead) (kind : ℤ) → events_bytes (plain_event h kind ∷ []) ≡ event_around h kind []
unfolding event spelling
plain_bytes h kind = one_event (plain_event h kind) ∙ around h kind [] [] refl

vector_bytes : (h : EventHead) (m : VGtid) → events_bytes (vector_event h m ∷ []) ≡ event_around h VGTID (field_bytes 7 (sized (spelling (vgtid true) m)))
unfolding event spelling
vector_bytes h m = one_event (vector_event h m) ∙ around h VGTID (values_bytes 7 (sized (spelling (vgtid true) m) ∷ [])) (field_bytes 7 (sized (spelling (vgtid true) m))) (append-nil (field_bytes 7 (sized (spelling (vgtid true) m))))

row_bytes : (h : EventHead) (c : Change) → said_bytes h (Changed c ∷ []) ≡ event_around h ROW (field_bytes 5 (sized (spelling (row_event true) (row_event_of h.keyspace c))))
unfolding event spelling
row_bytes h c =
    one_event (event_of h (Changed c))
    ∙ around h ROW (values_bytes 5 (sized (spelling (row_event true) (row_event_of h.keyspace c)) ∷ [])) (field_bytes 5 (sized (spelling (row_event true) (row_event_of h.keyspace c)))) (append-nil (field_bytes 5 (sized (spelling (row_event true) (row_event_of h.keyspace c)))))

columns_bytes : (h : EventHead) (table : List ℕ) (columns : List Column) → said_bytes h (Columns table columns ∷ []) ≡ event_around h FIELD (field_bytes 6 (sized (spelling (field_event true) (field_event_of h.keyspace table columns))))
unfolding event spelling
columns_bytes h table columns =
    one_event (event_of h (Columns table columns))
    ∙ around h FIELD (values_bytes 6 (sized (spelling (field_event true) (field_event_of h.keyspace table columns)) ∷ [])) (field_bytes 6 (sized (spelling (field_event true) (field_event_of h.keyspace table columns))))
    (append-nil (field_bytes 6 (sized (spelling (field_event true) (field_event_of h.keyspace table columns)))))

-- an event that is closed behind its message
pub closed_put : (h : EventHead) (kind : ℤ) (front message middle all first second new : List ℕ) (start inside : ℕ) (f : List ℕ → List ℕ) → middle ≡ f message →
    all ≡ front ++ (event_start h kind ++ message) → start ≡ length front → inside ≡ length (front ++ event_start h kind) → first ≡ take inside all ++ f (drop inside all) → second ≡ first ++ event_end h →
    new ≡ take start second ++ field_bytes 1 (sized (drop start second)) → new ≡ front ++ event_around h kind middle
closed_put h kind front message middle all first second new start inside f is_middle is at within a b put =
    let begun : first ≡ (front ++ event_start h kind) ++ middle =
    behind_front f (front ++ event_start h kind) message all first inside within (is ∙ sym (append_assoc front (event_start h kind) message)) a ∙ ap (λ (bs : List ℕ). (front ++ event_start h kind) ++ bs) (sym is_middle) in
    let ended : second ≡ front ++ (event_start h kind ++ (middle ++ event_end h)) =
    b ∙ ap (λ (bs : List ℕ). bs ++ event_end h) begun ∙ append_assoc (front ++ event_start h kind) middle (event_end h) ∙ append_assoc front (event_start h kind) (middle ++ event_end h) in
    behind_front (λ (bs : List ℕ). field_bytes 1 (sized bs)) front (event_start h kind ++ (middle ++ event_end h)) second new start at ended put

pub plain_put : (h : EventHead) (kind : ℤ) (old first second new : List ℕ) (start : ℕ) → start ≡ length old → first ≡ old ++ event_start h kind → second ≡ first ++ event_end h →
    new ≡ take start second ++ field_bytes 1 (sized (drop start second)) → new ≡ old ++ events_bytes (plain_event h kind ∷ [])
plain_put h kind old first second new start at a b put =
    behind_front (λ (bs : List ℕ). field_bytes 1 (sized bs)) old (event_start h kind ++ event_end h) second new start at (b ∙ ap (λ (bs : List ℕ). bs ++ event_end h) a ∙ append_assoc old (event_start h kind) (event_end h)) put
    ∙ ap (λ (bs : List ℕ). old ++ bs) (sym (plain_bytes h kind))

pub vector_put : (h : EventHead) (m : VGtid) (new old : List ℕ) → new ≡ old ++ event_around h VGTID (field_bytes 7 (sized (spelling (vgtid true) m))) →
    new ≡ old ++ events_bytes (vector_event h m ∷ [])
vector_put h m new old put = put ∙ ap (λ (bs : List ℕ). old ++ bs) (sym (vector_bytes h m))

-- ---- rows

some_bytes : (b : Bool) (n x : ℕ) (more rest : List ℕ) → if_any ((if b then n ∷ [] else (x ∷ more)) ++ rest) ≡ sized ((if b then n ∷ [] else (x ∷ more)) ++ rest) ∷ []
some_bytes true n x more rest = refl
some_bytes false n x more rest = refl

-- a packed list is written where it has bytes
any_packed : (zs : List ℤ) → if_any (packed_bytes zs) ≡ if_packed zs
unfolding spelled_in
any_packed [] = refl
any_packed (z ∷ zs) = some_bytes (nat_lt (zigzag z) 128) (zigzag z) _ _ (packed_bytes zs)

row_is : (r : Row) → spelling (row true) r ≡ values_bytes 1 (if_packed r.lengths) ++ values_bytes 2 (if_any r.values)
unfolding row spelling
row_is r = ap (λ (bs : List ℕ). values_bytes 1 (if_packed r.lengths) ++ bs) (append-nil (values_bytes 2 (if_any r.values)))

pub row_put : (cells : List Cell) (lengths values middle new old : List ℕ) → lengths ≡ packed_bytes (map cell_length cells) → values ≡ flat_map cell_bytes cells →
    middle ≡ old ++ values_bytes 1 (if_any lengths) → new ≡ middle ++ values_bytes 2 (if_any values) → new ≡ old ++ spelling (row true) (row_of cells)
row_put cells lengths values middle new old a b c d =
    d ∙ ap₂ (λ (ms vs : List ℕ). ms ++ values_bytes 2 (if_any vs)) (c ∙ ap (λ (ls : List ℕ). old ++ values_bytes 1 (if_any ls)) a ∙ ap (λ (vs : List Value). old ++ values_bytes 1 vs) (any_packed (map cell_length cells))) b
    ∙ append_assoc old (values_bytes 1 (if_packed (map cell_length cells))) (values_bytes 2 (if_any (flat_map cell_bytes cells)))
    ∙ ap (λ (bs : List ℕ). old ++ bs) (sym (row_is (row_of cells)))

change_is : (c : RowChange) → spelling (row_change true) c ≡ values_bytes 1 (if_set (row true) c.before) ++ values_bytes 2 (if_set (row true) c.after)
unfolding row_change spelling
change_is c = ap (λ (bs : List ℕ). values_bytes 1 (if_set (row true) c.before) ++ bs) (append-nil (values_bytes 2 (if_set (row true) c.after)))

row_event_is : (keyspace : List ℕ) (c : Change) →
    spelling (row_event true) (row_event_of keyspace c) ≡ values_bytes 1 (if_any (table_name keyspace c.table)) ++ field_bytes 2 (sized (spelling (row_change true) (record { before = option_map row_of c.before; after = option_map row_of c.after })))
unfolding row_event spelling
row_event_is keyspace c =
    ap (λ (bs : List ℕ). values_bytes 1 (if_any (table_name keyspace c.table)) ++ bs)
    (append-nil (field_bytes 2 (sized (spelling (row_change true) (record { before = option_map row_of c.before; after = option_map row_of c.after }))) ++ [])
    ∙ append-nil (field_bytes 2 (sized (spelling (row_change true) (record { before = option_map row_of c.before; after = option_map row_of c.after })))))

-- the event of a change, as its parts are written
pub change_put : (h : EventHead) (c : Change) (new : List ℕ) →
    new ≡ event_around h ROW (field_bytes 5 (sized (values_bytes 1 (if_any (table_name h.keyspace c.table)) ++ field_bytes 2 (sized (values_bytes 1 (if_set (row true) (option_map row_of c.before)) ++ values_bytes 2 (if_set (row true) (option_map row_of c.after))))))) →
    new ≡ said_bytes h (Changed c ∷ [])
change_put h c new put =
    put
    ∙ ap (λ (bs : List ℕ). event_around h ROW (field_bytes 5 (sized bs)))
    (ap (λ (bs : List ℕ). values_bytes 1 (if_any (table_name h.keyspace c.table)) ++ field_bytes 2 (sized bs)) (sym (change_is (record { before = option_map row_of c.before; after = option_map row_of c.after })))
    ∙ sym (row_event_is h.keyspace c))
    ∙ sym (row_bytes h c)

-- ---- columns

field_is : (column : Column) → spelling (field true) (field_of column) ≡ values_bytes 1 (if_any column.name) ++ values_bytes 2 (enumeration.spelled (type_number column.kind))
unfolding field spelling
field_is column = ap (λ (bs : List ℕ). values_bytes 1 (if_any column.name) ++ bs) (append-nil (values_bytes 2 (enumeration.spelled (type_number column.kind))))

field_event_is : (keyspace table : List ℕ) (columns : List Column) →
    spelling (field_event true) (field_event_of keyspace table columns) ≡ values_bytes 1 (if_any (table_name keyspace table)) ++ values_bytes 2 (all_set (field true) (map field_of columns))
unfolding field_event spelling
field_event_is keyspace table columns = ap (λ (bs : List ℕ). values_bytes 1 (if_any (table_name keyspace table)) ++ bs) (append-nil (values_bytes 2 (all_set (field true) (map field_of columns))))

-- the field of a column, as its parts are written
pub column_put : (column : Column) (old name message new : List ℕ) (start : ℕ) → start ≡ length old →
    name ≡ old ++ values_bytes 1 (if_any column.name) → message ≡ name ++ values_bytes 2 (enumeration.spelled (type_number column.kind)) → new ≡ take start message ++ field_bytes 2 (sized (drop start message)) →
    new ≡ old ++ field_bytes 2 (sized (spelling (field true) (field_of column)))
column_put column old name message new start at n m put =
    behind_front (λ (bs : List ℕ). field_bytes 2 (sized bs)) old (values_bytes 1 (if_any column.name) ++ values_bytes 2 (enumeration.spelled (type_number column.kind))) message new start at
    (m ∙ ap (λ (bs : List ℕ). bs ++ values_bytes 2 (enumeration.spelled (type_number column.kind))) n ∙ append_assoc old (values_bytes 1 (if_any column.name)) (values_bytes 2 (enumeration.spelled (type_number column.kind)))) put
    ∙ ap (λ (bs : List ℕ). old ++ field_bytes 2 (sized bs)) (sym (field_is column))

-- one column more
pub column_more : (column : Column) (columns left : List Column) (all old new : List ℕ) →
    all ≡ old ++ values_bytes 2 (all_set (field true) (map field_of columns)) → columns ≡ column ∷ left → new ≡ old ++ field_bytes 2 (sized (spelling (field true) (field_of column))) →
    all ≡ new ++ values_bytes 2 (all_set (field true) (map field_of left))
column_more column columns left all old new before is put =
    before ∙ ap (λ (cs : List Column). old ++ values_bytes 2 (all_set (field true) (map field_of cs))) is
    ∙ sym (append_assoc old (field_bytes 2 (sized (spelling (field true) (field_of column)))) (values_bytes 2 (all_set (field true) (map field_of left))))
    ∙ ap (λ (bs : List ℕ). bs ++ values_bytes 2 (all_set (field true) (map field_of left))) (sym put)

-- the event of a table's columns, as its parts are written
pub columns_put : (h : EventHead) (named : List ℕ) (columns : List Column) (new : List ℕ) →
    new ≡ event_around h FIELD (field_bytes 6 (sized (values_bytes 1 (if_any (table_name h.keyspace named)) ++ values_bytes 2 (all_set (field true) (map field_of columns))))) → new ≡ said_bytes h (Columns named columns ∷ [])
columns_put h named columns new put =
    put ∙ ap (λ (bs : List ℕ). event_around h FIELD (field_bytes 6 (sized bs))) (sym (field_event_is h.keyspace named columns)) ∙ sym (columns_bytes h named columns)
