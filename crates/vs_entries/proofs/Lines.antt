-- What the lines of a log's table come to where a reader stands.
use Rattle.std.proofs.Common.{◌≡◌, ◌+◌, ◌++◌, ℕ, List, map, refl}
use Rattle.vs_gtid.specs.declared.Work.{Work}
use Rattle.vs_log.specs.States.{Counted}
use Rattle.std.specs.Prelude.{◌⊎◌, IsSomeAnd, Option, Some, None, Result, Ok, Err}
use Rattle.std.proofs.Common.{ap, subst, sym, ◌∙◌}
use Rattle.vs_base.specs.declared.Gtid.{Gtid}
use Rattle.vs_rows.specs.Rows.{rows_meant}
use Rattle.vs_log.specs.States.{Place as place}
use Rattle.vs_base.specs.declared.Why.{Why}
use Rattle.vs_rows.specs.declared.refusal.RowRefusal.{RowRefusal}
use Rattle.vs_rows.specs.declared.refusal.RowRefusal.TheVariants as row
use Rattle.vs_rows.specs.Tables.{Tables, done, with_map}
use Rattle.vs_entries.specs.declared.progress.Progress.{Progress}
use Rattle.vs_entries.specs.declared.refusal.Refusal.{Refusal}
use Rattle.vs_entries.specs.declared.refusal.Refusal.TheVariants.{Wrong, Memory}
use Rattle.vs_entries.specs.declared.out.Out.{Out}
use Rattle.vs_entries.specs.declared.out.Stop.{Stop}
use Rattle.vs_entries.specs.declared.out.Stop.TheVariants as stop
use Rattle.vs_entries.specs.Reading.{Adds, Counts, Moves, MovesTo, StopsBy, refusal_of, with_rows, with_table_map, work_in}
use Rattle.vs_base.specs.declared.Why.TheVariants.{JournalNotAlone, NoFormat}
use Rattle.vs_log.specs.declared.event.Sort.{Sort}
use Rattle.vs_log.specs.declared.event.Sort.TheVariants.{AnonymousEvent, PassedOver, FormatEvent, PreviousEvent, GtidEvent, QueryEvent, XidEvent, MapEvent, RowsEvent, ForeignEvent}
use Rattle.vs_log.specs.States.{Place}
use Rattle.vs_log.specs.States.Place.{Front}
use Rattle.vs_log.specs.States.{State}
use Rattle.vs_binlog.specs.Heads.{Event, body_of, kind_of, length_of}
use Rattle.vs_schema.specs.declared.schema.Schema.{Schema}
use Rattle.vs_log.specs.Table.{more_work, told, sum_with, size, line, ◌>>=◌}
use Rattle.vs_entries.specs.Rules.{counted_by, or_why, rules_of, why_of}

-- what is not passed over counts with the entry that is open
pub sum_with_counted : (place : Place Tables) (sort : Sort) (n : ℕ) → (sort ≡ PassedOver → ⊥) → sum_with place sort n ≡ size place + n
sum_with_counted place AnonymousEvent n counted = refl
sum_with_counted place PassedOver n counted = absurd (counted refl)
sum_with_counted place FormatEvent n counted = refl
sum_with_counted place PreviousEvent n counted = refl
sum_with_counted place GtidEvent n counted = refl
sum_with_counted place QueryEvent n counted = refl
sum_with_counted place XidEvent n counted = refl
sum_with_counted place MapEvent n counted = refl
sum_with_counted place RowsEvent n counted = refl
sum_with_counted place ForeignEvent n counted = refl

-- before the format description nothing else is taken
pub line_front_other : (keyspace : List ℕ) (schema : Schema) (s : State Tables) (e : Event) (sort : Sort) → (sort ≡ FormatEvent → ⊥) → line (rules_of keyspace schema) s e Front sort ≡ Err NoFormat
line_front_other keyspace schema s e AnonymousEvent other = refl
line_front_other keyspace schema s e PassedOver other = refl
line_front_other keyspace schema s e FormatEvent other = absurd (other refl)
line_front_other keyspace schema s e PreviousEvent other = refl
line_front_other keyspace schema s e GtidEvent other = refl
line_front_other keyspace schema s e QueryEvent other = refl
line_front_other keyspace schema s e XidEvent other = refl
line_front_other keyspace schema s e MapEvent other = refl
line_front_other keyspace schema s e RowsEvent other = refl
line_front_other keyspace schema s e ForeignEvent other = refl

-- a table map that isn't taken
abbrev Refused : RowRefusal → Result Tables RowRefusal → Type 0
Refused refusal meant = (◌≡◌ {A = Result (Unit {0}) RowRefusal} (Err refusal) (Err row.Memory)) ⊎ (Err refusal ≡ done meant)

refused_so : (refusal : RowRefusal) (meant : Result Tables RowRefusal) → (refusal ≡ row.Memory → ⊥) → Refused refusal meant → meant ≡ Err refusal
refused_so refusal (Ok tables) other (◌⊎◌.inl h) = absurd (other (cc))
refused_so refusal (Ok tables) other (◌⊎◌.inr h) = cc
refused_so refusal (Err meant) other (◌⊎◌.inl h) = absurd (other (cc))
refused_so refusal (Err meant) other (◌⊎◌.inr h) = cc

pub map_refused : (keyspace : List ℕ) (schema : Schema) (s : State Tables) (e : Event) (g : Gtid) (bytes : ℕ) (maps : Tables) (work : Work) (refusal : RowRefusal) (told : Refusal) (old new : Progress) →
    new ≡ old → told ≡ refusal_of 19 refusal → Refused refusal (with_map keyspace schema maps (body_of e)) → Moves (Err told) old new (with_table_map keyspace schema s e g bytes maps work)
map_refused keyspace schema s e g bytes maps work refusal told old new same is h =
    subst (λ z. Moves (Err z) old new (with_table_map keyspace schema s e g bytes maps work)) (sym is) (go refusal h)
  where
    f : Tables → Result (State Tables) Why
    f more = Ok (record s { place = place.Inside g (bytes + length_of e) more work })

    wrong : (refusal : RowRefusal) → (refusal ≡ row.Memory → ⊥) → Refused refusal (with_map keyspace schema maps (body_of e)) →
        Moves (Err (Wrong (why_of 19 refusal))) old new (with_table_map keyspace schema s e g bytes maps work)
    wrong refusal other h = (ap (λ m. or_why 19 m >>= f) (refused_so refusal (with_map keyspace schema maps (body_of e)) other h), same)

    go : (refusal : RowRefusal) → Refused refusal (with_map keyspace schema maps (body_of e)) → Moves (Err (refusal_of 19 refusal)) old new (with_table_map keyspace schema s e g bytes maps work)
    go row.BadBody h = wrong row.BadBody (λ k. cc) h
    go (row.UnknownTableId id) h = wrong (row.UnknownTableId id) (λ k. cc) h
    go (row.UnknownTable table) h = wrong (row.UnknownTable table) (λ k. cc) h
    go (row.Disagrees table) h = wrong (row.Disagrees table) (λ k. cc) h
    go (row.NotFullImage table) h = wrong (row.NotFullImage table) (λ k. cc) h
    go (row.BadRow table) h = wrong (row.BadRow table) (λ k. cc) h
    go row.Memory h = same

-- a rows event whose rows were added
pub rows_taken : (keyspace : List ℕ) (s : State Tables) (e : Event) (g : Gtid) (bytes : ℕ) (maps : Tables) (work now : Work) (counted : List Counted) (kind size : ℕ) →
    kind ≡ kind_of e → size ≡ length_of e → counted_by keyspace kind (rows_meant maps kind (body_of e)) ≡ Ok counted → more_work work counted ≡ Some now →
    with_rows keyspace s e g bytes maps work ≡ Ok (record s { place = place.Inside g (bytes + size) maps now })
rows_taken keyspace s e g bytes maps work now counted kind size is long said added =
    ap (λ k. counted_by keyspace k (rows_meant maps k (body_of e)) >>= λ counted. told s e g bytes maps (more_work work counted)) (sym is)
    ∙ ap (λ r. r >>= λ counted. told s e g bytes maps (more_work work counted)) said
    ∙ ap (λ w. told s e g bytes maps w) added
    ∙ ap (λ z. Ok (record s { place = place.Inside g (bytes + z) maps now })) (sym long)

-- ---- what is wrong is left in the `Out`

pub left_out : (told : Refusal) (answer : Stop) (old new : Progress) (out : Out) (meant : Result (State Tables) Why) → StopsBy told out answer → Moves (Err told) old new meant → MovesTo (Err answer) old new out meant
left_out (Wrong why) answer old new out meant s m =
    subst (λ z. MovesTo (Err z) old new out meant) (sym s.0) (subst (λ z. IsSomeAnd z (λ w. meant ≡ Err w)) (sym s.1) m.0, m.1)
left_out Memory answer old new out meant s m = subst (λ z. MovesTo (Err z) old new out meant) (sym s) m

-- a rows event that isn't taken
pub rows_refused : (keyspace : List ℕ) (s : State Tables) (e : Event) (g : Gtid) (bytes : ℕ) (maps : Tables) (work : Work) (told : Refusal) (kind : ℕ) (p : Progress) →
    kind ≡ kind_of e → Counts (Err told) (counted_by keyspace kind (rows_meant maps kind (body_of e))) → Moves (Err told) p p (with_rows keyspace s e g bytes maps work)
rows_refused keyspace s e g bytes maps work (Wrong why) kind p is said =
    (ap (λ k. counted_by keyspace k (rows_meant maps k (body_of e)) >>= f) (sym is) ∙ ap (λ r. r >>= f) said, refl)
  where
    f : List Counted → Result (State Tables) Why
    f counted = told s e g bytes maps (more_work work counted)
rows_refused keyspace s e g bytes maps work Memory kind p is said = refl

-- a rows event whose rows can't stand beside the work so far, or for which memory ran out
pub rows_not_added : (keyspace : List ℕ) (s : State Tables) (e : Event) (g : Gtid) (bytes : ℕ) (counted : List Counted) (kind : ℕ) (old new : Progress) (out : Out) (answer : Stop) →
    kind ≡ kind_of e → counted_by keyspace kind (rows_meant old.maps kind (body_of e)) ≡ Ok counted → Adds (Err answer) old new out counted →
    MovesTo (Err answer) old new out (with_rows keyspace s e g bytes old.maps (work_in old))
rows_not_added keyspace s e g bytes counted kind old new out stop.Wrong is said adds =
    let meant : with_rows keyspace s e g bytes old.maps (work_in old) ≡ Err JournalNotAlone =
    ap (λ k. counted_by keyspace k (rows_meant old.maps k (body_of e)) >>= f) (sym is) ∙ ap (λ r. r >>= f) said ∙ ap (λ w. told s e g bytes old.maps w) adds.0 in
    (subst (λ z. IsSomeAnd z (λ w. with_rows keyspace s e g bytes old.maps (work_in old) ≡ Err w)) (sym adds.1) meant, adds.2)
  where
    f : List Counted → Result (State Tables) Why
    f counted = told s e g bytes old.maps (more_work (work_in old) counted)
rows_not_added keyspace s e g bytes counted kind old new out stop.Memory is said adds = adds
