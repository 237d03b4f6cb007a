-- A transaction of rows behind a whole log is its next entry.
use Rattle.std.proofs.Common.{◌≡◌, ◌∙◌, ◌++◌, ◌+◌, ◌≤◌, ◌<◌, ◌^◌, ℕ, Bool, true, false, List, [], ◌∷◌, Option, Some, None, Result, Ok, Err, length, map, refl, ap, sym, subst, inl, inr, append_assoc, append-nil, arith, length-append, cond}
use Rattle.std.specs.Prelude.{◌⊎◌}
use Rattle.std.specs.List.{AllByRecursion, find}
use Rattle.std.proofs.lemmas.Slice.Eq.{bytes_eq-Decides}
use Rattle.byteorder.specs.Endian.{little_bytes}
use Rattle.vs_base.specs.declared.table.Table.{Table}
use Rattle.vs_base.specs.declared.Gtid.{Gtid}
use Rattle.vs_binlog.specs.Heads.{Event, body_of}
use Rattle.vs_binlog.specs.Words.{first_word}
use Rattle.vs_entries.specs.Queries.{said}
use Rattle.vs_entries.specs.Rules.{counted_by, or_why, rules_of}
use Rattle.vs_gtid.specs.declared.Entry.{Entry}
use Rattle.vs_gtid.specs.declared.Work.{Work}
use Rattle.vs_gtid.specs.declared.Work.TheVariants.{Rows}
use Rattle.vs_gtid.specs.Positions.{Position}
use Rattle.vs_log.specs.Events.{joined, limit, sort, sort_of}
use Rattle.vs_log.specs.Productions.{IsEntry, IsTransaction, IsUnended, IsWholeLog, IsWork, counts, is_counted}
use Rattle.vs_log.specs.States.{Counted}
use Rattle.vs_log.specs.States.Counted.{Changed}
use Rattle.vs_log.specs.Table.{gtid_in}
use Rattle.vs_log.specs.declared.event.Sort.TheVariants.{GtidEvent, MapEvent, QueryEvent, RowsEvent, XidEvent}
use Rattle.vs_log.specs.declared.statement.Statement.TheVariants.{Begin}
use Rattle.vs_log.proofs.Growth.{whole_log}
use Rattle.vs_rows.specs.Columns.{typed_columns}
use Rattle.vs_rows.specs.Layouts.{MapSaid, map_body}
use Rattle.vs_rows.specs.Rows.{rows_meant}
use Rattle.vs_rows.specs.Tables.{Tables, listed, map_by, map_meant, map_typed, schema_of, table_by, with_id, with_known, with_map}
use Rattle.vs_schema.specs.Kinds.{same}
use Rattle.vs_schema.specs.Rules.{names_table}
use Rattle.vs_schema.specs.declared.schema.Schema.{Schema}
use Rattle.vs_make.specs.Events.{gtid_event, gtid_layout, query_event, query_layout}
use Rattle.vs_make.specs.Journals.{none}
use Rattle.vs_make.specs.Rows.{ListsTable, WritesTransactions, begin_text, map_event, only, rows_event, transaction_bytes, xid_event}
use Rattle.vs_make.specs.Written.{HasRoom, IsLogOf}
use Rattle.vs_make.proofs.EventLaws.{HasHead, event_head, event_length, gtid_said, is_event, sort_is}
use Rattle.vs_make.proofs.LogLaws.{IsGood, gtid_length, one_more, query_length, statement_known}

-- ---- a table map is known under each schema text that lists the table

same_texts : (a b : List ℕ) → same a b ≡ true → a ≡ b
same_texts a b h = (bytes_eq-Decides a b).0 h

same_choice : {A E : Type 0} (b : Bool) (x y z : Result A E) (m : A) → (x ≡ Ok m → y ≡ Ok m) → cond b x z ≡ Ok m → cond b y z ≡ Ok m
same_choice true x y z m f h = f h
same_choice false x y z m f h = h

named_alike : (tables : Schema) (table : Table) (said : MapSaid) (columns : _) (mapped : _) (b : Bool) → ListsTable tables table → same table.name said.table ≡ b → listed (only table) said.table columns (cond b (Some table) None) ≡ Ok mapped → listed tables said.table columns (find (names_table said.table) tables.tables) ≡ Ok mapped
named_alike tables table said columns mapped true lists e k =
    let is : table.name ≡ said.table = same_texts table.name said.table e in
    ap (listed tables said.table columns) (ap (λ n. find (names_table n) tables.tables) (sym is) ∙ lists) ∙ k
named_alike tables table said columns mapped false lists e k = absurd (cc)

table_alike : (keyspace : List ℕ) (tables : Schema) (table : Table) (said : MapSaid) (columns : _) (mapped : _) → ListsTable tables table → table_by keyspace (only table) said columns ≡ Ok mapped → table_by keyspace tables said columns ≡ Ok mapped
table_alike keyspace tables table said columns mapped lists h =
    same_choice (same said.schema (schema_of keyspace)) (listed (only table) said.table columns (find (names_table said.table) (table ∷ []))) (listed tables said.table columns (find (names_table said.table) tables.tables)) _ mapped
    (λ k. named_alike tables table said columns mapped (same table.name said.table) lists refl k) h

map_alike : (keyspace : List ℕ) (tables : Schema) (table : Table) (body : List ℕ) (maps : Tables) → ListsTable tables table → with_map keyspace (only table) [] body ≡ Ok maps → with_map keyspace tables [] body ≡ Ok maps
unfolding with_map map_meant
map_alike keyspace tables table body maps lists h = by_said (map_body body) h
  where
    by_table : (said : MapSaid) (columns : _) (r : _) → table_by keyspace (only table) said columns ≡ r → with_known [] (with_id said.id r) ≡ Ok maps → with_known [] (with_id said.id (table_by keyspace tables said columns)) ≡ Ok maps
    by_table said columns (Ok mapped) e k = ap (λ q. with_known [] (with_id said.id q)) (table_alike keyspace tables table said columns mapped lists e) ∙ k
    by_table said columns (Err refusal) e k = absurd (cc)

    by_columns : (said : MapSaid) (o : _) → with_known [] (map_typed keyspace (only table) said o) ≡ Ok maps → with_known [] (map_typed keyspace tables said o) ≡ Ok maps
    by_columns said None k = absurd (cc)
    by_columns said (Some columns) k = by_table said columns (table_by keyspace (only table) said columns) refl k

    by_said : (o : Option MapSaid) → with_known [] (map_by keyspace (only table) o) ≡ Ok maps → with_known [] (map_by keyspace tables o) ≡ Ok maps
    by_said None k = absurd (cc)
    by_said (Some said) k = by_columns said (typed_columns said.types said.metadata) k

-- a table map that is read under a schema text without tables is read so under each
journal_alike : (keyspace : List ℕ) (tables : Schema) (said : MapSaid) (columns : _) (mapped : _) → table_by keyspace none said columns ≡ Ok mapped → table_by keyspace tables said columns ≡ Ok mapped
journal_alike keyspace tables said columns mapped h =
    same_choice (same said.schema (schema_of keyspace)) (listed none said.table columns None) (listed tables said.table columns (find (names_table said.table) tables.tables)) _ mapped (λ k. absurd (cc)) h

pub journal_known : (keyspace : List ℕ) (body : List ℕ) (maps : Tables) → with_map keyspace none [] body ≡ Ok maps → (tables : Schema) → with_map keyspace tables [] body ≡ Ok maps
unfolding with_map map_meant
journal_known keyspace body maps h tables = by_said (map_body body) h
  where
    by_table : (said : MapSaid) (columns : _) (r : _) → table_by keyspace none said columns ≡ r → with_known [] (with_id said.id r) ≡ Ok maps → with_known [] (with_id said.id (table_by keyspace tables said columns)) ≡ Ok maps
    by_table said columns (Ok mapped) e k = ap (λ q. with_known [] (with_id said.id q)) (journal_alike keyspace tables said columns mapped e) ∙ k
    by_table said columns (Err refusal) e k = absurd (cc)

    by_columns : (said : MapSaid) (o : _) → with_known [] (map_typed keyspace none said o) ≡ Ok maps → with_known [] (map_typed keyspace tables said o) ≡ Ok maps
    by_columns said None k = absurd (cc)
    by_columns said (Some columns) k = by_table said columns (table_by keyspace none said columns) refl k

    by_said : (o : Option MapSaid) → with_known [] (map_by keyspace none o) ≡ Ok maps → with_known [] (map_by keyspace tables o) ≡ Ok maps
    by_said None k = absurd (cc)
    by_said (Some said) k = by_columns said (typed_columns said.types said.metadata) k

-- ---- the transaction

rows_sort : (kind : ℕ) → (kind ≡ 30) ⊎ (kind ≡ 31) → sort kind 0 ≡ RowsEvent
rows_sort kind (inl e) = ap (λ k. sort k 0) e
rows_sort kind (inr e) = ap (λ k. sort k 0) e

begin_said : (keyspace : List ℕ) → said keyspace (schema_of keyspace) begin_text (first_word begin_text) ≡ Begin
begin_said keyspace = refl

-- an event of this body is good, where it is within the limit and counts
good : (e : Event) (time kind : ℕ) (body : List ℕ) → HasHead e time kind body → 19 + length body ≤ limit → is_counted e ≡ true → IsGood e
good e time kind body h small counted = record { whole = is_event e time kind body h; small = omega (arith, h.size); counts = counted }

map_there : (time : ℕ) (body : List ℕ) → time < 2 ^ 32 → 19 + length body ≤ limit → HasHead (map_event time body) time 19 body
unfolding map_event
map_there time body early small = event_head time 19 body early (omega (arith, small))

rows_there : (time kind : ℕ) (body : List ℕ) → time < 2 ^ 32 → 19 + length body ≤ limit → HasHead (rows_event time kind body) time kind body
unfolding rows_event
rows_there time kind body early small = event_head time kind body early (omega (arith, small))

map_length : (time : ℕ) (body : List ℕ) → length (map_event time body) ≡ 19 + length body
unfolding map_event
map_length time body = event_length time 19 body

rows_length : (time kind : ℕ) (body : List ℕ) → length (rows_event time kind body) ≡ 19 + length body
unfolding rows_event
rows_length time kind body = event_length time kind body

xid_length : (time : ℕ) → length (xid_event time) ≡ 27
unfolding xid_event
xid_length time = event_length time 16 (little_bytes 8 0)

gtid_size : (time : ℕ) (g : Gtid) → length g.uuid ≡ 16 → length (gtid_event time g) ≡ 44
unfolding gtid_event
gtid_size time g long = omega (arith, event_length time 33 (gtid_layout g), gtid_length g long)

query_size : (time : ℕ) (schema text : List ℕ) → length (query_event time schema text) ≡ 33 + length schema + length text
unfolding query_event
query_size time schema text = omega (arith, event_length time 2 (query_layout schema text), query_length schema text)

xid_there : (time : ℕ) → time < 2 ^ 32 → HasHead (xid_event time) time 16 (little_bytes 8 0)
unfolding xid_event
xid_there time early = event_head time 16 (little_bytes 8 0) early (omega arith)

gtid_there : (time : ℕ) (g : Gtid) → time < 2 ^ 32 → length g.uuid ≡ 16 → HasHead (gtid_event time g) time 33 (gtid_layout g)
unfolding gtid_event
gtid_there time g early long = event_head time 33 (gtid_layout g) early (omega (arith, gtid_length g long))

query_there : (time : ℕ) (schema text : List ℕ) → time < 2 ^ 32 → 33 + length schema + length text ≤ limit → HasHead (query_event time schema text) time 2 (query_layout schema text)
unfolding query_event
query_there time schema text early small = event_head time 2 (query_layout schema text) early (omega (arith, query_length schema text, small))

written_lengths : (named begin known told last : List ℕ) → length (named ++ begin ++ known ++ told ++ last) ≡ length named + length begin + length known + length told + length last
written_lengths named begin known told last =
    omega (arith, length-append (named ++ begin ++ known ++ told) last, length-append (named ++ begin ++ known) told, length-append (named ++ begin) known, length-append named begin)

joined_five : (a b c d e : List ℕ) → joined (a ∷ b ∷ c ∷ d ∷ e ∷ []) ≡ a ++ b ++ c ++ d ++ e
joined_five a b c d e =
    ap (λ z. a ++ (b ++ (c ++ (d ++ z)))) (append-nil e)
    ∙ sym (append_assoc (a ++ b ++ c) d e ∙ (append_assoc (a ++ b) c (d ++ e) ∙ append_assoc a b (c ++ (d ++ e))))

-- a transaction of one table map and one rows event, with the work that they tell, is the next entry of a whole log
pub transaction_written : (keyspace : List ℕ) (tables : Schema) (bytes after : List ℕ) (base : Position) (entries : List Entry) (g : Gtid) (schema : List ℕ) (time kind : ℕ) (map_bytes rows_bytes : List ℕ) (maps : Tables) (all_told : List Counted) (work : Work) →
    IsLogOf keyspace tables bytes base entries → (kind ≡ 30) ⊎ (kind ≡ 31) → after ≡ bytes ++ transaction_bytes g schema time kind map_bytes rows_bytes → length schema ≤ 255 → said keyspace schema begin_text (first_word begin_text) ≡ Begin →
    with_map keyspace tables [] map_bytes ≡ Ok maps → counted_by keyspace kind (rows_meant maps kind rows_bytes) ≡ Ok all_told → IsWork all_told work →
    ((size : ℕ) → length after ≡ length bytes + size → HasRoom bytes base entries g size) → time < 2 ^ 32 →
    IsLogOf keyspace tables after base (entries ++ record { gtid = g; time = time; work = work } ∷ [])
transaction_written keyspace tables bytes after base entries g schema time kind map_bytes rows_bytes maps all_told work log is_rows written short begins known_so told_so comes room early =
    let rules = rules_of keyspace tables in
    let named = gtid_event time g in
    let begin = query_event time schema begin_text in
    let known = map_event time map_bytes in
    let told = rows_event time kind rows_bytes in
    let last = xid_event time in
    let all : List ℕ = transaction_bytes g schema time kind map_bytes rows_bytes in
    let room_there : HasRoom bytes base entries g (length all) = room (length all) (ap length written ∙ length-append bytes all) in
    let fits : length all ≤ limit = room_there.fits in
    let sum : length all ≡ length named + length begin + length known + length told + length last = written_lengths named begin known told last in
    let named_size : length named ≡ 44 = gtid_size time g room_there.uuid in
    let begin_size : length begin ≡ 33 + length schema + 5 = query_size time schema begin_text in
    let known_size : length known ≡ 19 + length map_bytes = map_length time map_bytes in
    let told_size : length told ≡ 19 + length rows_bytes = rows_length time kind rows_bytes in
    let last_size : length last ≡ 27 = xid_length time in
    let first = gtid_there time g early room_there.uuid in
    let second = query_there time schema begin_text early (omega (arith, sum, begin_size)) in
    let third = map_there time map_bytes early (omega (arith, sum, known_size)) in
    let fourth = rows_there time kind rows_bytes early (omega (arith, sum, told_size)) in
    let fifth = xid_there time early in
    let first_sort : sort_of named ≡ GtidEvent = sort_is named time 33 (gtid_layout g) first in
    let second_sort : sort_of begin ≡ QueryEvent = sort_is begin time 2 (query_layout schema begin_text) second in
    let third_sort : sort_of known ≡ MapEvent = sort_is known time 19 map_bytes third in
    let fourth_sort : sort_of told ≡ RowsEvent = sort_is told time kind rows_bytes fourth ∙ rows_sort kind is_rows in
    let fifth_sort : sort_of last ≡ XidEvent = sort_is last time 16 (little_bytes 8 0) fifth in
    let e : Entry = record { gtid = g; time = time; work = work } in
    let begun : IsUnended rules (named ∷ begin ∷ known ∷ told ∷ []) g maps work = record {
      gtid = named;
      begin = begin;
      middle = known ∷ told ∷ [];
      are = refl;
      names = record { kind = first_sort; layout = ap gtid_in first.body_is ∙ gtid_said g room_there.uuid };
      begins = record { kind = second_sort; layout = ap rules.statement second.body_is ∙ statement_known keyspace tables schema begin_text short ∙ ap Ok begins };
      counted = all_told;
      tells = inl (
        maps,
        record { kind = third_sort; layout = ap (rules.map []) third.body_is ∙ ap (or_why 19) known_so },
        inr (inl (
          all_told,
          [],
          record {
            kind = fourth_sort;
            layout = ap (λ k. counted_by keyspace k (rows_meant maps k (body_of told))) fourth.kind_is ∙ (ap (λ b. counted_by keyspace kind (rows_meant maps kind b)) fourth.body_is ∙ told_so);
          },
          sym (append-nil all_told),
          (refl, refl),
        )),
      );
      comes = comes;
    } in
    let transaction : IsTransaction rules (named ∷ begin ∷ known ∷ told ∷ last ∷ []) e = record {
      opened = named ∷ begin ∷ known ∷ told ∷ [];
      last = last;
      are = refl;
      maps = maps;
      begun = begun;
      ends = inl (record { kind = fifth_sort; layout = omega (arith, ap length fifth.body_is) });
      time = sym fifth.time_is;
    } in
    let entry : IsEntry rules (named ∷ begin ∷ known ∷ told ∷ last ∷ []) e = record {
      form = inr transaction;
      size = omega (arith, sum, fits, first.size, first.bytes, second.size, second.bytes, third.size, third.bytes, fourth.size, fourth.bytes, fifth.size, fifth.bytes);
    } in
    let goods : AllByRecursion IsGood (named ∷ begin ∷ known ∷ told ∷ last ∷ []) = (
      good named time 33 (gtid_layout g) first (omega (arith, gtid_length g room_there.uuid)) (ap counts first_sort),
      (
        good begin time 2 (query_layout schema begin_text) second (omega (arith, sum, begin_size, query_length schema begin_text)) (ap counts second_sort),
        (
          good known time 19 map_bytes third (omega (arith, sum, known_size)) (ap counts third_sort),
          (good told time kind rows_bytes fourth (omega (arith, sum, told_size)) (ap counts fourth_sort), (good last time 16 (little_bytes 8 0) fifth (omega arith) (ap counts fifth_sort), tt)),
        ),
      ),
    ) in
    let whole = one_more rules bytes base entries (named ∷ begin ∷ known ∷ told ∷ last ∷ []) e log.whole goods entry room_there.new (omega (arith, ap length (joined_five named begin known told last), room_there.ends)) in
    let there : IsWholeLog rules after base (entries ++ e ∷ []) = subst (λ z. IsWholeLog rules z base (entries ++ e ∷ [])) (ap (λ z. bytes ++ z) (joined_five named begin known told last) ∙ sym written) whole in
    record { whole = there; meant = whole_log rules after base (entries ++ e ∷ []) there }

pub writes_transactions : WritesTransactions
writes_transactions keyspace tables bytes after base entries g table time kind changes log lists is_rows written room short early =
    let tells = written.3 keyspace refl in
    transaction_written keyspace tables bytes after base entries g (schema_of keyspace) time kind written.0 written.1 tells.maps (map Changed changes) (Rows changes) log is_rows written.2 (omega arith) (begin_said keyspace)
    (map_alike keyspace tables table written.0 tells.maps lists tells.known) (ap (counted_by keyspace kind) tells.told) refl room early
