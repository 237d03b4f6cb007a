-- Types with their metadata; and tables by their numbers, as a finite map.
use Rattle.std.proofs.Common.{◌≡◌, ◌≢◌, ◌≤◌, ◌<◌, ◌↔◌, ℕ, zero, suc, ◌+◌, ◌==◌, Bool, true, false, cond, nat_lt, List, [], ◌∷◌, ◌++◌, length, map, drop, take, refl, sym, ap, subst, ◌∙◌, arith}
use Rattle.std.specs.Prelude.{Option, Some, None, Result, Ok, Err, if◌then◌else◌}
use Rattle.std.specs.List.{AllByRecursion, flat_map}
use Rattle.std.specs.Ordering.{nat_cmp, is_eq, match_ordering}
use Rattle.std.specs.Cmp.{nat_cmp_is}
use Rattle.std.proofs.lemmas.Bool.{false≢true}
use Rattle.std.specs.declared.cmp.Ordering.{Ordering}
use Rattle.std.specs.declared.cmp.Ordering.TheVariants.{Less, Equal, Greater}
use Rattle.std.specs.BTreeMap.{insert_entry, is_at}
use Rattle.std.specs.Map.{lookup}
use Rattle.std.proofs.lemmas.Bool.Decides.{nat_tests}
use Rattle.vs_columns.specs.Kinds.{meta_length_of}
use Rattle.vs_schema.specs.declared.schema.Schema.{Schema}
use Rattle.vs_rows.specs.declared.columns.TypedColumn.{TypedColumn}
use Rattle.vs_rows.specs.declared.table.Mapped.{Mapped}
use Rattle.vs_rows.specs.Reading.{◌>>=◌}
use Rattle.vs_rows.specs.Layouts.{cut}
use Rattle.vs_rows.specs.Columns.{typed_column, typed_columns}
use Rattle.vs_rows.specs.Tables.{Tables, table_at, with_table, with_map, or_same, tables_behind}
use Rattle.vs_rows.specs.Grammar.{AreTyped}
use Rattle.vs_rows.proofs.RowGrammar.{bind_some, cut_splits, cut_joins, same_parts}

one_splits : (code : ℕ) (metadata : List ℕ) (x : TypedColumn × List ℕ) → typed_column code metadata ≡ Some x → (x.0.code ≡ code) × (metadata ≡ x.0.meta ++ x.1) × (meta_length_of code ≡ Some (length x.0.meta))
unfolding typed_column
one_splits code metadata (column, rest) h =
    let size = bind_some (meta_length_of code) _ (column, rest) h in
    let meta = bind_some (cut size.0 metadata) _ (column, rest) size.2 in
    let made : TypedColumn = record { code = code; meta = meta.0.0 } in
    let parts = same_parts made column meta.0.1 rest meta.2 in
    let c = cut_splits size.0 metadata meta.0 meta.1 in
    let P : TypedColumn → Type 0 = λ x. (x.code ≡ code) × (metadata ≡ x.meta ++ rest) × (meta_length_of code ≡ Some (length x.meta)) in
    subst P parts.0 (refl, c.0 ∙ ap (λ xs. meta.0.0 ++ xs) parts.1, size.1 ∙ ap (λ (n : ℕ). Some n) (sym c.1))

one_joins : (column : TypedColumn) (rest : List ℕ) → meta_length_of column.code ≡ Some (length column.meta) → typed_column column.code (column.meta ++ rest) ≡ Some (column, rest)
unfolding typed_column
one_joins column rest h = rw (h, cut_joins (length column.meta) column.meta rest refl) refl

none_left : (metadata : List ℕ) (b : Bool) (columns : List TypedColumn) → (length metadata == 0) ≡ b → (let o : Option (List TypedColumn) = if b then Some [] else None in o) ≡ Some columns → (columns ≡ []) × (metadata ≡ [])
none_left [] true columns e h = (cc, refl)
none_left (b ∷ bs) true columns e h = absurd (grind (arith, nat_tests))
none_left metadata false columns e h = cc

some_list : (a x : List TypedColumn) → (let o : Option (List TypedColumn) = Some a in o) ≡ Some x → a ≡ x
some_list a x h = cc

typed_splits : (types metadata : List ℕ) (columns : List TypedColumn) → typed_columns types metadata ≡ Some columns → AreTyped types metadata columns
unfolding typed_columns
typed_splits [] metadata columns h =
    let none = none_left metadata (length metadata == 0) columns refl h in
    rw (none.0, none.1) (record { types_are = refl; metadata_are = refl; each = tt })
typed_splits (code ∷ codes) metadata columns h =
    let f = bind_some (typed_column code metadata) _ columns h in
    let s = bind_some (typed_columns codes f.0.1) _ columns f.2 in
    let one = one_splits code metadata f.0 f.1 in
    let more = typed_splits codes f.0.1 s.0 s.1 in
    subst (λ cs. AreTyped (code ∷ codes) metadata cs) (some_list (f.0.0 ∷ s.0) columns s.2) (record {
      types_are = ap (λ x. x ∷ map (λ column. column.code) s.0) one.0 ∙ ap (λ xs. code ∷ xs) more.types_are;
      metadata_are = ap (λ xs. f.0.0.meta ++ xs) more.metadata_are ∙ sym one.1;
      each = (ap meta_length_of one.0 ∙ one.2, more.each);
    })

typed_joins : (columns : List TypedColumn) → AllByRecursion (λ column. meta_length_of column.code ≡ Some (length column.meta)) columns → typed_columns (map (λ column. column.code) columns) (flat_map (λ column. column.meta) columns) ≡ Some columns
unfolding typed_columns
typed_joins [] each = refl
typed_joins (column ∷ columns) each =
    rw (one_joins column (flat_map (λ column. column.meta) columns) each.0, typed_joins columns each.1) refl

-- Types and metadata are those of columns in one way, which is read.
pub typed_read : (types metadata : List ℕ) (columns : List TypedColumn) → (typed_columns types metadata ≡ Some columns) ↔ AreTyped types metadata columns
typed_read types metadata columns =
    (typed_splits types metadata columns, λ are. ap (λ xs. typed_columns xs metadata) (sym are.types_are) ∙ (ap (λ xs. typed_columns (map (λ column. column.code) columns) xs) (sym are.metadata_are) ∙ typed_joins columns are.each))

-- tables by their numbers

cmp_same : (n : ℕ) → nat_cmp n n ≡ Equal
cmp_same n = sym (nat_cmp_is n n Equal refl)

differs : (a b : ℕ) → a ≢ b → is_eq (nat_cmp a b) ≡ false
differs a b h = go (nat_lt a b) refl
  where
    go : (t : Bool) → nat_lt a b ≡ t → is_eq (nat_cmp a b) ≡ false
    go true e = rw e refl
    go false e = let other : (a == b) ≡ false = grind (arith, nat_tests) in rw (e, other) refl

equal_is : (a b : ℕ) → nat_cmp a b ≡ Equal → a ≡ b
equal_is a b h = go (a == b) refl
  where
    go : (t : Bool) → (a == b) ≡ t → a ≡ b
    go true e = grind (arith, nat_tests)
    go false e = let other : a ≢ b = grind (arith, nat_tests) in absurd (false≢true (sym (differs a b other) ∙ ap is_eq h))

-- the table that was put is there
pub table_there : (tables : Tables) (id : ℕ) (mapped : Mapped) → table_at (with_table tables id mapped) id ≡ Some mapped
table_there [] id mapped = rw (cmp_same id) refl
table_there (e ∷ es) id mapped = go (nat_cmp id e.0) refl (table_there es id mapped)
  where
    go : (o : Ordering) → nat_cmp id e.0 ≡ o → lookup (is_at (nat_cmp id)) (insert_entry nat_cmp es id mapped) ≡ Some mapped → lookup (is_at (nat_cmp id)) (match_ordering o ((id, mapped) ∷ e ∷ es) ((e.0, mapped) ∷ es) (e ∷ insert_entry nat_cmp es id mapped)) ≡ Some mapped
    go Less q more = rw (cmp_same id) refl
    go Equal q more = rw q refl
    go Greater q more = rw q more

-- and the others stay
pub others_stay : (tables : Tables) (id other : ℕ) (mapped : Mapped) → other ≢ id → table_at (with_table tables id mapped) other ≡ table_at tables other
others_stay [] id other mapped h = rw (differs other id h) refl
others_stay (e ∷ es) id other mapped h = go (nat_cmp id e.0) refl (others_stay es id other mapped h)
  where
    go : (o : Ordering) → nat_cmp id e.0 ≡ o → lookup (is_at (nat_cmp other)) (insert_entry nat_cmp es id mapped) ≡ lookup (is_at (nat_cmp other)) es → lookup (is_at (nat_cmp other)) (match_ordering o ((id, mapped) ∷ e ∷ es) ((e.0, mapped) ∷ es) (e ∷ insert_entry nat_cmp es id mapped)) ≡ lookup (is_at (nat_cmp other)) (e ∷ es)
    go Less q more = rw (differs other id h) refl
    go Equal q more =
        let same = equal_is id e.0 q in
        let apart : other ≢ e.0 = λ p. h (p ∙ sym same) in
        rw (differs other e.0 apart) refl
    go Greater q more = ap (λ found. cond (is_eq (nat_cmp other e.0)) (Some e.1) found) more

-- one table map behind others
pub one_behind : (keyspace : List ℕ) (schema : Schema) (tables : Tables) (bodies : List (List ℕ)) (body : List ℕ)
    → tables_behind keyspace schema tables (bodies ++ body ∷ []) ≡ or_same (tables_behind keyspace schema tables bodies) (with_map keyspace schema (tables_behind keyspace schema tables bodies) body)
unfolding tables_behind
one_behind keyspace schema tables [] body = refl
one_behind keyspace schema tables (first ∷ bodies) body = one_behind keyspace schema (or_same tables (with_map keyspace schema tables first)) bodies body
