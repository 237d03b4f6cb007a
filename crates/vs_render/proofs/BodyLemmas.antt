-- The bytes of events in a row are those of the events.
use Rattle.std.proofs.Common.{◌≡◌, ℕ, List, [], ◌∷◌, ◌++◌, map, true, refl, ap, ap₂, sym, ◌∙◌, append_assoc}
use Rattle.std.proofs.lemmas.List.{append-nil}
use Rattle.std.specs.List.{flat_map}
use Rattle.vs_base.specs.declared.ShardName.{ShardName}
use Rattle.vs_base.specs.declared.Cell.{Cell}
use Rattle.vs_base.specs.declared.Table.{Table}
use Rattle.vs_base.specs.declared.table.Column.{Column}
use Rattle.vs_gtid.specs.declared.Entry.{Entry}
use Rattle.vs_gtid.specs.declared.Work.{Work}
use Rattle.vs_gtid.specs.declared.Work.TheVariants.{Rows, Ddl, Other, Journal}
use Rattle.vs_wire.specs.Fields.{sized, field_bytes}
use Rattle.vs_base.specs.Frames.{framed}
use Rattle.vs_proto.specs.Frames.{events_bytes}
use Rattle.vs_proto.specs.Frames as proto
use Rattle.vs_proto.specs.Shapes.{spelling}
use Rattle.vs_proto.specs.Tables.{event, response}
use Rattle.vs_proto.specs.declared.event.VEvent.{VEvent}
use Rattle.vs_gtid.specs.Vectors.{Vector}
use Rattle.vs_model.specs.Copy.{picked_work}
use Rattle.vs_filter.specs.declared.bound.Picked.{Picked}
use Rattle.vs_filter.specs.Picks.{bound_in}
use Rattle.vs_render.specs.Groups.{at_last}
use Rattle.vs_render.specs.Events.{EventHead, Saying, Begins, Changed, Columns, VectorAfter, Statement, OtherStatement, Commits, event_of, head_of, closing_said, chunk_said, copied_row}
use Rattle.vs_render.specs.Spelling.{said_bytes}
use Rattle.vs_render.specs.Frames.{fronts_said}
use Rattle.vs_render.specs.Bodies.{body_of, columns_in, entry_body, frame_with, picked_work_in, rendered}
use Rattle.vs_render.specs.Laws.{BodiesMakeFrames, ChunksMakeFrames}

-- each event is a field of the message
abbrev one_bytes : EventHead → Saying → List ℕ
one_bytes h said = field_bytes 1 (sized (spelling (event true) (event_of h said)))

fields_are : (h : EventHead) (said : List Saying) → flat_map (field_bytes 1) (map (λ (m : VEvent). sized (spelling (event true) m)) (map (event_of h) said)) ≡ flat_map (one_bytes h) said
fields_are h [] = refl
fields_are h (x ∷ said) = ap (λ (bs : List ℕ). one_bytes h x ++ bs) (fields_are h said)

spelled : (events : List VEvent) → events_bytes events ≡ flat_map (field_bytes 1) (map (λ (m : VEvent). sized (spelling (event true) m)) events) ++ []
unfolding response spelling
spelled events = refl

said_is : (h : EventHead) (said : List Saying) → said_bytes h said ≡ flat_map (one_bytes h) said
said_is h said = spelled (map (event_of h) said) ∙ append-nil _ ∙ fields_are h said

apart : (xs ys zs : List ℕ) → xs ++ (ys ++ zs) ≡ (xs ++ ys) ++ zs
apart [] ys zs = refl
apart (x ∷ xs) ys zs = ap (λ (bs : List ℕ). x ∷ bs) (apart xs ys zs)

bytes_append : (h : EventHead) (xs ys : List Saying) → flat_map (one_bytes h) (xs ++ ys) ≡ flat_map (one_bytes h) xs ++ flat_map (one_bytes h) ys
bytes_append h [] ys = refl
bytes_append h (x ∷ xs) ys = ap (λ (bs : List ℕ). one_bytes h x ++ bs) (bytes_append h xs ys) ∙ apart (one_bytes h x) (flat_map (one_bytes h) xs) (flat_map (one_bytes h) ys)

pub said_append : (h : EventHead) (xs ys : List Saying) → said_bytes h (xs ++ ys) ≡ said_bytes h xs ++ said_bytes h ys
said_append h xs ys = said_is h (xs ++ ys) ∙ bytes_append h xs ys ∙ sym (ap₂ (λ (a b : List ℕ). a ++ b) (said_is h xs) (said_is h ys))

same_work : (tables : List Picked) (schema : List Table) (w : Work) → picked_work (bound_in tables schema) w ≡ picked_work_in tables w
same_work tables schema (Rows changes) = refl
same_work tables schema (Ddl text) = refl
same_work tables schema Other = refl
same_work tables schema (Journal j) = refl

same_closing : (tables : List Picked) (w : Work) → closing_said (picked_work_in tables w) ≡ closing_said w
same_closing tables (Rows changes) = refl
same_closing tables (Ddl text) = refl
same_closing tables Other = refl
same_closing tables (Journal j) = refl

-- what is put into the last message stands at the end of its bytes
last_bytes : (h : EventHead) (end : List Saying) (fronts : List (List Saying)) → map (said_bytes h) (at_last end fronts) ≡ at_last (said_bytes h end) (map (said_bytes h) fronts)
last_bytes h end [] = refl
last_bytes h end (said ∷ []) = ap (λ (bs : List ℕ). bs ∷ []) (said_append h said end)
last_bytes h end (said ∷ next ∷ fronts) = ap (λ (ms : List (List ℕ)). said_bytes h said ∷ ms) (last_bytes h end (next ∷ fronts))

-- a message of events behind its length, for each message
messages_framed : (h : EventHead) (messages : List (List Saying)) → proto.frame_bytes (map (map (event_of h)) messages) ≡ flat_map framed (map (said_bytes h) messages)
messages_framed h [] = refl
messages_framed h (m ∷ messages) = ap (λ (bs : List ℕ). framed (said_bytes h m) ++ bs) (messages_framed h messages)

-- the frame of some fronts, a vector and a closing event is that of the body
frame_is : (h : EventHead) (v : Vector) (fronts : List (List Saying)) (closing : Saying) →
    proto.frame_bytes (map (map (event_of h)) (at_last (VectorAfter v ∷ (closing ∷ [])) fronts)) ≡ frame_with h v (rendered h fronts closing)
frame_is h v fronts closing =
    messages_framed h (at_last (VectorAfter v ∷ (closing ∷ [])) fronts)
    ∙ ap (λ (ms : List (List ℕ)). flat_map framed ms) (last_bytes h (VectorAfter v ∷ (closing ∷ [])) fronts)
    ∙ ap (λ (end : List ℕ). flat_map framed (at_last end (map (said_bytes h) fronts))) (said_append h (VectorAfter v ∷ []) (closing ∷ []))

pub bodies : BodiesMakeFrames
bodies t tables schema s e v fields =
    frame_is (head_of s e.time) v (fronts_said (head_of s e.time) (t.fields s) (picked_work (bound_in tables schema) e.work)) (closing_said (picked_work (bound_in tables schema) e.work))
    ∙ ap (λ w. frame_with (head_of s e.time) v (rendered (head_of s e.time) (fronts_said (head_of s e.time) (t.fields s) w) (closing_said w))) (same_work tables schema e.work)
    ∙ ap (λ f. frame_with (head_of s e.time) v (rendered (head_of s e.time) (fronts_said (head_of s e.time) f (picked_work_in tables e.work)) (closing_said (picked_work_in tables e.work)))) fields
    ∙ ap (λ c. frame_with (head_of s e.time) v (rendered (head_of s e.time) (fronts_said (head_of s e.time) (columns_in tables) (picked_work_in tables e.work)) c)) (same_closing tables e.work)

pub chunks : ChunksMakeFrames
chunks t tables s table rows time v fields =
    frame_is (head_of s time) v (chunk_said (t.fields s) table rows ∷ []) Commits
    ∙ ap (λ f. frame_with (head_of s time) v (rendered (head_of s time) (chunk_said f table rows ∷ []) Commits)) fields

-- no events have no bytes
pub none_said : (h : EventHead) → said_bytes h [] ≡ []
unfolding response spelling
none_said h = refl

-- ---- the rows of a copy, one by one

pub chunk_begun : (h : EventHead) (fields : List ℕ → List Column) (table : List ℕ) (rows : List (List Cell)) (old middle new columns : List ℕ) →
    old ≡ [] → middle ≡ old ++ said_bytes h (Begins ∷ []) → columns ≡ said_bytes h (Columns table (fields table) ∷ []) → new ≡ middle ++ columns →
    said_bytes h (chunk_said fields table rows) ≡ new ++ said_bytes h (map (λ row. Changed (copied_row table row)) rows)
chunk_begun h fields table rows old middle new columns none a b d =
    said_append h (Begins ∷ (Columns table (fields table) ∷ [])) (map (λ row. Changed (copied_row table row)) rows)
    ∙ ap (λ (bs : List ℕ). bs ++ said_bytes h (map (λ row. Changed (copied_row table row)) rows))
    (said_append h (Begins ∷ []) (Columns table (fields table) ∷ [])
    ∙ sym (d ∙ ap₂ (λ (ms cs : List ℕ). ms ++ cs) (a ∙ ap (λ (bs : List ℕ). bs ++ said_bytes h (Begins ∷ [])) none) b))

pub chunk_more : (h : EventHead) (table : List ℕ) (row : List Cell) (rows left : List (List Cell)) (all old new : List ℕ) →
    all ≡ old ++ said_bytes h (map (λ row. Changed (copied_row table row)) rows) → rows ≡ row ∷ left → new ≡ old ++ said_bytes h (Changed (copied_row table row) ∷ []) →
    all ≡ new ++ said_bytes h (map (λ row. Changed (copied_row table row)) left)
chunk_more h table row rows left all old new before is put =
    before ∙ ap (λ (rs : List (List Cell)). old ++ said_bytes h (map (λ row. Changed (copied_row table row)) rs)) is
    ∙ ap (λ (bs : List ℕ). old ++ bs) (said_append h (Changed (copied_row table row) ∷ []) (map (λ row. Changed (copied_row table row)) left))
    ∙ sym (append_assoc old (said_bytes h (Changed (copied_row table row) ∷ [])) (said_bytes h (map (λ row. Changed (copied_row table row)) left)))
    ∙ ap (λ (bs : List ℕ). bs ++ said_bytes h (map (λ row. Changed (copied_row table row)) left)) (sym put)

pub chunk_done : (h : EventHead) (table : List ℕ) (rows : List (List Cell)) (all old : List ℕ) → all ≡ old ++ said_bytes h (map (λ row. Changed (copied_row table row)) rows) → rows ≡ [] → old ≡ all
chunk_done h table rows all old before none =
    sym (before ∙ ap (λ (rs : List (List Cell)). old ++ said_bytes h (map (λ row. Changed (copied_row table row)) rs)) none ∙ ap (λ (bs : List ℕ). old ++ bs) (none_said h) ∙ append-nil old)

-- ---- entries without changes

pub statement_body : (tables : List Picked) (s : ShardName) (e : Entry) (text out : List ℕ) (m : VEvent) → e.work ≡ Ddl text → out ≡ [] → m ≡ event_of (head_of s e.time) (Statement text) →
    body_of out (events_bytes (m ∷ [])) ≡ entry_body tables s e
statement_body tables s e text out m is none event =
    ap₂ (λ (front : List ℕ) (x : VEvent). body_of front (events_bytes (x ∷ []))) (none ∙ sym (none_said (head_of s e.time))) event
    ∙ sym (ap (λ w. rendered (head_of s e.time) (fronts_said (head_of s e.time) (columns_in tables) (picked_work_in tables w)) (closing_said w)) is)

pub other_body : (tables : List Picked) (s : ShardName) (e : Entry) (out : List ℕ) (m : VEvent) → e.work ≡ Other → out ≡ [] → m ≡ event_of (head_of s e.time) OtherStatement →
    body_of out (events_bytes (m ∷ [])) ≡ entry_body tables s e
other_body tables s e out m is none event =
    ap₂ (λ (front : List ℕ) (x : VEvent). body_of front (events_bytes (x ∷ []))) (none ∙ sym (none_said (head_of s e.time))) event
    ∙ sym (ap (λ w. rendered (head_of s e.time) (fronts_said (head_of s e.time) (columns_in tables) (picked_work_in tables w)) (closing_said w)) is)
