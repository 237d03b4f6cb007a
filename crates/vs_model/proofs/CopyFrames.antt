-- Each frame of a copy leaves the client with what it is to have.
use Rattle.std.proofs.Common.{◌≡◌, ◌≢◌, ◌⊎◌, inl, inr, ℕ, Bool, true, false, not, cond, ◌||◌, List, [], ◌∷◌, ◌++◌, append_assoc, append-nil, map, take, drop, take-append-drop, Option, Some, None, Contains, fold, filter_map, flat_map, refl, ap, sym, ◌∙◌, subst, true≢false}
use Rattle.std.specs.List.{list_any, last_or, AllByRecursion, AllZip}
use Rattle.std.specs.Ordering.{is_eq, nat_cmp}
use Rattle.std.specs.Cmp.Lexicographic.{slice_cmp}
use Rattle.std.specs.declared.cmp.Ordering.{Ordering}
use Rattle.std.specs.declared.cmp.Ordering.TheVariants.{Less, Equal, Greater}
use Rattle.std.proofs.lemmas.Bool.{or_left}
use Rattle.std.proofs.lemmas.Cmp.{alike_right, tied_back, tied_itself}
use Rattle.std.proofs.lemmas.List.Sums.{fold-append}
use Rattle.std.proofs.lemmas.List.Elements.{Contains-append_left, Contains-append_right, Contains-push, All-contains, All-from_recursion, filter_map-append}
use Rattle.vs_base.specs.declared.ShardName.{ShardName}
use Rattle.std.proofs.Math.Bool.{or-false}
use Rattle.vs_base.specs.declared.Gtid.{Gtid}
use Rattle.vs_base.specs.declared.Change.{Change}
use Rattle.vs_base.specs.declared.LastKey.{LastKey}
use Rattle.vs_gtid.specs.declared.Work.{Work}
use Rattle.vs_gtid.specs.declared.Work.TheVariants.{Rows, Ddl, Other, Journal}
use Rattle.vs_gtid.specs.declared.Entry.{Entry}
use Rattle.vs_base.proofs.NameLemmas.{same_gtid-refl}
use Rattle.vs_gtid.specs.Positions.{has}
use Rattle.vs_model.specs.Names.{Position, same_gtid}
use Rattle.vs_model.specs.Logs.{Image, Log, HaveDistinctGtids, IsPositionAfter, due, between, is_gtid_of}
use Rattle.vs_gtid.specs.Vectors.{Place}
use Rattle.vs_gtid.specs.Vectors.Place.{Fresh, Copying, Streaming}
use Rattle.vs_model.specs.Frames.{Frame, frames_of}
use Rattle.vs_model.specs.Frames.Frame.{Tx, Switch, Halt, Chunk, CopyDone, AllCopied, Beat}
use Rattle.vs_model.specs.Copy.{Bound, changes_of, changes_in, is_after, is_after_in, last_of, next_rows, picked_work, picked_change, work_within, change_within, image_within, ReadTo, CopyStep, IsChunk, IsCopyDone, IsCopiedTx, chunk_of}
use Rattle.vs_model.specs.Legal.{Sends, IsTxOf}
use Rattle.vs_model.specs.Reached.{start_of}
use Rattle.vs_model.specs.Copies.{AreAscending, IsOrdered, KeepsKeys, ChangesFit, told_in, client_after, picked_row_at, copied_row}
use Rattle.vs_model.proofs.Lists.{cons_is_not_nil, not_nil, same_some}
use Rattle.vs_model.proofs.Entries.{due_twice, grown_twice}
use Rattle.vs_model.proofs.Each.{all_append, all_of_two, all_weaker}
use Rattle.vs_model.proofs.Keys.{less_turned, greater_turned, greater_twice}
use Rattle.vs_model.proofs.CopyRows.{rows_left, left_found, left_after, after-alike, chunk_front, FirstLeft, first_left, none_left_in}
use Rattle.vs_model.proofs.Client.{tables_total, around, told_rows, other_rows, chunk_told, last_row}
use Rattle.vs_model.proofs.ClientChanges.{cut_image, cut, changes_told}
use Rattle.vs_model.proofs.CopyFronts.{front-sent}

pub flat_map-append : {X A : Type 0} (f : X → List A) (xs ys : List X) → flat_map f (xs ++ ys) ≡ flat_map f xs ++ flat_map f ys
flat_map-append f [] ys = refl
flat_map-append f (x ∷ xs) ys = ap (λ l. f x ++ l) (flat_map-append f xs ys) ∙ sym (append_assoc (f x) (flat_map f xs) (flat_map f ys))

map_agree : {X Y : Type 0} (f g : X → Y) → ((x : X) → f x ≡ g x) → (xs : List X) → map f xs ≡ map g xs
map_agree f g h [] = refl
map_agree f g h (x ∷ xs) = ap (λ y. y ∷ map f xs) (h x) ∙ ap (λ l. g x ∷ l) (map_agree f g h xs)

map_itself : {X : Type 0} (f : X → X) → ((x : X) → f x ≡ x) → (xs : List X) → map f xs ≡ xs
map_itself f h [] = refl
map_itself f h (x ∷ xs) = ap (λ y. y ∷ map f xs) (h x) ∙ ap (λ l. x ∷ l) (map_itself f h xs)

-- the empty position has no entry
nothing_in : (es : List Entry) → IsPositionAfter [] es [] → es ≡ []
unfolding has
nothing_in [] grown = refl
nothing_in (e ∷ es) grown =
    absurd (true≢false (sym (or_left (same_gtid e.gtid e.gtid) (is_gtid_of es e.gtid) (same_gtid-refl e.gtid)) ∙ sym (grown e.gtid)))

-- where a shard streams, every key is within; where it copies, those that the copy has passed
abbrev always : List ℕ → Image → Bool
always table key = true

abbrev passed : Bound → LastKey → List ℕ → Image → Bool
passed bound l table key = not (is_after bound (Some l) table key)

module _ (bound : Bound) where
  whole_image : (t : List ℕ) (image : Option Image) → cut_image bound always t image ≡ image
  whole_image t None = refl
  whole_image t (Some row) = refl

  whole_change : (c : Change) → cut bound always c ≡ c
  whole_change c =
      ap (λ i. record c { before = i; after = cut_image bound always c.table c.after }) (whole_image c.table c.before)
      ∙ ap (λ i. record c { after = i }) (whole_image c.table c.after)

  passed_image : (l : LastKey) (t : List ℕ) (image : Option Image) → image_within bound l t image ≡ cut_image bound (passed bound l) t image
  passed_image l t None = refl
  passed_image l t (Some row) = refl

  passed_change : (l : LastKey) (c : Change) → change_within bound l c ≡ cut bound (passed bound l) c
  passed_change l c =
      ap (λ i. record c { before = i; after = image_within bound l c.table c.after }) (passed_image l c.table c.before)
      ∙ ap (λ i. record c { before = cut_image bound (passed bound l) c.table c.before; after = i }) (passed_image l c.table c.after)

  -- the changes of a picked entry, and of one within the rows that were sent
  picked_changes : (work : Work) → changes_of (picked_work bound work) ≡ filter_map (picked_change bound) (changes_of work)
  picked_changes (Rows changes) = refl
  picked_changes (Ddl text) = refl
  picked_changes Other = refl
  picked_changes (Journal j) = refl

  within_changes : (l : LastKey) (work : Work) → changes_of (work_within bound l work) ≡ map (change_within bound l) (changes_of work)
  within_changes l (Rows changes) = refl
  within_changes l (Ddl text) = refl
  within_changes l Other = refl
  within_changes l (Journal j) = refl

  -- what the frames of entries tell
  one_told : (f : Frame) (e : Entry) → IsTxOf bound f e → told_in f ≡ filter_map (picked_change bound) (changes_of e.work)
  one_told (Tx t w v) e h = ap (λ x. changes_of x.work) h ∙ picked_changes e.work
  one_told (Switch j v) e h = absurd h
  one_told (Halt j v) e h = absurd h
  one_told (Chunk t table rows time v) e h = absurd h
  one_told (CopyDone t time v) e h = absurd h
  one_told AllCopied e h = absurd h
  one_told (Beat now) e h = absurd h

  all_told : (fs : List Frame) (es : List Entry) → AllZip (IsTxOf bound) fs es → flat_map told_in fs ≡ filter_map (picked_change bound) (changes_in es)
  all_told [] [] h = refl
  all_told [] (e ∷ es) h = absurd h
  all_told (f ∷ fs) [] h = absurd h
  all_told (f ∷ fs) (e ∷ es) h =
      ap (λ l. l ++ flat_map told_in fs) (one_told f e h.0) ∙ ap (λ l. filter_map (picked_change bound) (changes_of e.work) ++ l) (all_told fs es h.1)
      ∙ sym (filter_map-append (picked_change bound) (changes_of e.work) (changes_in es))

  module _ (told_key : List ℕ → Image → Image) (ordered : IsOrdered bound) (keeps : KeepsKeys bound told_key) (s : ShardName) (log : Log)
      (distinct : HaveDistinctGtids log.entries) where
    -- what the client has after the changes cs
    abbrev client : List Change → List ℕ → Image → Option Image
    client cs table key = fold (client_after bound told_key table key) None cs

    -- The copy has come to a place by the first entries of its log, and the client has what it is to have there, where these fit.
    pub record CopyAt (place : Place) (cs : List Change) : Type 0 where
      pub sent : List Entry
      pub rest : List Entry
      pub split : due s log [] ≡ sent ++ rest
      pub grown : IsPositionAfter [] sent (start_of place)
      pub rows : ChangesFit bound (changes_in sent) → (table : List ℕ) → Contains bound.tables table → (key : Image) →
          client cs table key ≡ copied_row bound place (changes_in sent) table key

    -- where a copy begins, the client has nothing
    pub fits_nothing : CopyAt Fresh []
    fits_nothing = record {
      sent = [];
      rest = due s log [];
      split = refl;
      grown = λ g. nothing_more g;
      rows = λ fit table picked_table key. refl;
    }
      where
        nothing_more : (g : Gtid) → has [] g ≡ (has [] g || false)
        nothing_more g = sym (or-false (has [] g))

    client-append : (cs more : List Change) (table : List ℕ) (key : Image) →
        client (cs ++ more) table key ≡ fold (client_after bound told_key table key) (client cs table key) more
    client-append cs more table key = fold-append (client_after bound told_key table key) None cs more

    -- the changes of the first entries fit, where those of more entries do
    fits_before : (sent more : List Entry) → ChangesFit bound (changes_in (sent ++ more)) → ChangesFit bound (changes_in sent ++ changes_in more)
    fits_before sent more fit = subst (ChangesFit bound) (flat_map-append (λ e. changes_of e.work) sent more) fit

    fits_first : (xs ys : List Change) → ChangesFit bound (xs ++ ys) → ChangesFit bound xs
    fits_first xs ys fit before behind c is =
        fit before (behind ++ ys) c (ap (λ l. l ++ ys) is ∙ append_assoc before (c ∷ behind) ys)

    -- after entries that were told within some keys
    module _ (within : List ℕ → Image → Bool)
        (alike : (table : List ℕ) → Contains bound.tables table → (k j : Image) → bound.order table k j ≡ Equal → within table k ≡ within table j) where
      entries_told : (cs told : List Change) (sent es : List Entry) → told ≡ filter_map (picked_change bound) (map (cut bound within) (changes_in es)) →
          (ChangesFit bound (changes_in sent) → (table : List ℕ) → Contains bound.tables table → (key : Image) →
          client cs table key ≡ cond (within table key) (picked_row_at bound (changes_in sent) table key) None) →
          ChangesFit bound (changes_in (sent ++ es)) → (table : List ℕ) → Contains bound.tables table → (key : Image) →
          client (cs ++ told) table key ≡ cond (within table key) (picked_row_at bound (changes_in (sent ++ es)) table key) None
      entries_told cs told sent es is had fit table picked_table key =
          let both = fits_before sent es fit in
          client-append cs told table key
          ∙ ap (λ l. fold (client_after bound told_key table key) (client cs table key) l) is
          ∙ ap (λ r. fold (client_after bound told_key table key) r (filter_map (picked_change bound) (map (cut bound within) (changes_in es))))
          (had (fits_first (changes_in sent) (changes_in es) both) table picked_table key)
          ∙ changes_told bound told_key keeps table picked_table (ordered.keys table picked_table) within (alike table picked_table) key (changes_in es) (changes_in sent) both
          ∙ ap (λ l. cond (within table key) (picked_row_at bound l table key) None) (sym (flat_map-append (λ e. changes_of e.work) sent es))

    -- a shard that streams
    pub streamed : (p q : Position) (cs : List Change) (fs : List Frame) → CopyAt (Streaming p) cs → Sends bound s log p q fs →
        CopyAt (Streaming q) (cs ++ flat_map told_in (frames_of s fs))
    streamed p q cs fs at sends =
        let es = between s log p q in
        let told = all_told (frames_of s fs) es sends.frames
        ∙ ap (filter_map (picked_change bound)) (sym (map_itself (cut bound always) whole_change (changes_in es))) in
        record {
          sent = at.sent ++ es;
          rest = sends.first.0;
          split = due_twice s log [] p at.sent at.rest es sends.first.0 distinct at.split at.grown sends.first.1;
          grown = grown_twice [] p q at.sent es at.grown sends.position;
          rows = entries_told always (λ table picked_table k j e. refl) cs (flat_map told_in (frames_of s fs)) at.sent es told at.rows;
        }

    -- a transaction within the rows that were sent
    pub copied_tx : (p : Position) (l : LastKey) (w : Entry) (new : Place) (cs : List Change) → CopyAt (Copying p l) cs →
        IsCopiedTx bound s log p l w (Some new) → CopyAt new (cs ++ changes_of w.work)
    copied_tx p l w new cs at tx =
        let es : List Entry = tx.e ∷ [] in
        let told : changes_of w.work ≡ filter_map (picked_change bound) (map (cut bound (passed bound l)) (changes_in es)) =
        ap (λ x. changes_of x.work) tx.told_is ∙ picked_changes (work_within bound l tx.e.work)
        ∙ ap (filter_map (picked_change bound)) (within_changes l tx.e.work ∙ map_agree (change_within bound l) (cut bound (passed bound l)) (passed_change l) (changes_of tx.e.work)
        ∙ ap (map (cut bound (passed bound l))) (sym (append-nil (changes_of tx.e.work)))) in
        subst (λ x. CopyAt x (cs ++ changes_of w.work)) (sym (same_some new (Copying tx.q l) tx.place)) (record {
          sent = at.sent ++ es;
          rest = tx.rest;
          split = due_twice s log [] p at.sent at.rest es tx.rest distinct at.split at.grown tx.first;
          grown = grown_twice [] p tx.q at.sent es at.grown tx.grown;
          rows = entries_told (passed bound l)
              (λ table picked_table k j e. ap not (after-alike bound table (ordered.keys table picked_table) [] (Some l) k j e))
              cs (changes_of w.work) at.sent es told at.rows;
        })

    -- a copy that reads on to q
    record ReadOn (old : Place) (q : Position) (cs : List Change) : Type 0 where
      sent : List Entry
      rest : List Entry
      split : due s log [] ≡ sent ++ rest
      grown : IsPositionAfter [] sent q
      rows : ChangesFit bound (changes_in sent) → (table : List ℕ) → Contains bound.tables table → (key : Image) →
          client cs table key ≡ cond (not (is_after bound (last_of old) table key)) (picked_row_at bound (changes_in sent) table key) None

    no_rows : (cs : List Change) → CopyAt Fresh cs → (table : List ℕ) → Contains bound.tables table → (key : Image) → client cs table key ≡ None
    no_rows cs at table picked_table key =
        let none = nothing_in at.sent at.grown in
        at.rows (λ before behind c is. absurd (not_nil before behind c (sym is ∙ ap changes_in none))) table picked_table key

    read_on : (old : Place) (q : Position) (cs : List Change) → CopyAt old cs → ReadTo s log old q → ReadOn old q cs
    read_on Fresh q cs at read = record {
      sent = take read.0 (due s log []);
      rest = drop read.0 (due s log []);
      split = sym (take-append-drop read.0 (due s log []));
      grown = read.1;
      rows = λ fit table picked_table key. no_rows cs at table picked_table key;
    }
    read_on (Copying p l) q cs at read = record {
      sent = at.sent;
      rest = at.rest;
      split = at.split;
      grown = subst (IsPositionAfter [] at.sent) (sym read) at.grown;
      rows = at.rows;
    }
    read_on (Streaming p) q cs at read = absurd read

    -- a table of which no row is left is there as a whole
    nothing_left : (changes : List Change) (l : Option LastKey) (table : List ℕ) → Contains bound.tables table → rows_left bound changes l table ≡ [] → (key : Image) →
        cond (not (is_after bound l table key)) (picked_row_at bound changes table key) None ≡ picked_row_at bound changes table key
    nothing_left changes l table picked_table none key = by (is_after bound l table key) refl (picked_row_at bound changes table key) refl
      where
        by : (behind : Bool) → is_after bound l table key ≡ behind → (row : Option Image) → picked_row_at bound changes table key ≡ row →
            cond (not behind) row None ≡ row
        by false e row f = refl
        by true e None f = refl
        by true e (Some row) f = absurd (true≢false (sym (
            sym (ap (list_any (λ r. is_eq (bound.order table r.0 key))) none)
            ∙ left_found bound table (ordered.keys table picked_table) changes l key row e f
            )))

    -- the end of a copy
    pub copy_ends : (old new : Place) (time : ℕ) (cs : List Change) → CopyAt old cs → IsCopyDone bound s log old time (Some new) → CopyAt new (cs ++ [])
    copy_ends old new time cs at done =
        let on = read_on old done.q cs at done.read_to in
        let same = front-sent s log done.q on.sent on.rest distinct on.split on.grown in
        let none = none_left_in bound (changes_in on.sent) (last_of old) bound.tables
        (subst (λ es. next_rows bound (changes_in es) (last_of old) ≡ None) same done.none_left) in
        subst (CopyAt new) (sym (append-nil cs)) (subst (λ x. CopyAt x cs) (sym (same_some new (Streaming done.q) done.place)) (record {
          sent = on.sent;
          rest = on.rest;
          split = on.split;
          grown = on.grown;
          rows = λ fit table picked_table key. on.rows fit table picked_table key
              ∙ nothing_left (changes_in on.sent) (last_of old) table picked_table
              (All-contains (λ t. rows_left bound (changes_in on.sent) (last_of old) t ≡ []) bound.tables table
              (All-from_recursion (λ t. rows_left bound (changes_in on.sent) (last_of old) t ≡ []) bound.tables none) picked_table) key;
        }))

    -- where a table stands, seen from the table of a chunk
    abbrev Stands : List Change → Option LastKey → List ℕ → List ℕ → Type 0
    Stands changes l table t =
        ((slice_cmp nat_cmp t table ≡ Less) × (rows_left bound changes l t ≡ [])) ⊎ ((t ≡ table) ⊎ (slice_cmp nat_cmp t table ≡ Greater))

    tables_stand : (changes : List Change) (l : Option LastKey) (table : List ℕ) (rows : List (Image × Image)) → FirstLeft bound changes l bound.tables table rows →
        AllByRecursion (Stands changes l table) bound.tables
    tables_stand changes l table rows first =
        let sides = around (slice_cmp nat_cmp) first.before first.behind table (subst (AreAscending (slice_cmp nat_cmp)) first.at ordered.tables) in
        subst (AllByRecursion (Stands changes l table)) (sym first.at)
        (all_append (Stands changes l table) first.before (table ∷ first.behind)
        (all_of_two (λ t. slice_cmp nat_cmp t table ≡ Less) (λ t. rows_left bound changes l t ≡ []) (Stands changes l table) (λ t less none. inl (less, none))
        first.before sides.0 first.none_before) (
          inr (inl refl),
          all_weaker (λ t. slice_cmp nat_cmp table t ≡ Less) (Stands changes l table) (λ t less. inr (inr (less_turned tables_total table t less)))
              first.behind sides.1,
        ))

    -- the tables behind that of a chunk have still nothing
    some_row : {X : Type 0} (P : X → Type 0) (xs : List X) → xs ≢ [] → AllByRecursion P xs → (x : X) × P x
    some_row P [] some h = absurd (some refl)
    some_row P (x ∷ xs) some h = (x, h.0)

    behind_in : (last : LastKey) (table t : List ℕ) (key x : Image) (r : Ordering) → slice_cmp nat_cmp table last.table ≡ r → is_after_in bound last table x r ≡ true →
        slice_cmp nat_cmp t table ≡ Greater → slice_cmp nat_cmp t last.table ≡ Greater
    behind_in last table t key x Less e h greater = absurd (true≢false (sym h))
    behind_in last table t key x Equal e h greater = alike_right tables_total last.table table t (tied_back tables_total table last.table e) ∙ greater
    behind_in last table t key x Greater e h greater = greater_twice tables_total t table last.table greater e

    behind : (l : Option LastKey) (table t : List ℕ) (key x : Image) → is_after bound l table x ≡ true → slice_cmp nat_cmp t table ≡ Greater →
        is_after bound l t key ≡ true
    behind None table t key x h greater = refl
    behind (Some last) table t key x h greater =
        ap (is_after_in bound last t key) (behind_in last table t key x (slice_cmp nat_cmp table last.table) refl h greater)

    -- a chunk
    module _ (changes : List Change) (l : Option LastKey) (table : List ℕ) (rows : List (Image × Image)) (first : FirstLeft bound changes l bound.tables table rows)
        (picked_one : Contains bound.tables table) (key : LastKey) (of_table : key.table ≡ table) (last : last_or None (map (λ row. row.0) rows) ≡ Some key.key) where
      abbrev Told : List ℕ → Image → Type 0
      Told t k =
          fold (client_after bound told_key t k) (cond (not (is_after bound l t k)) (picked_row_at bound changes t k) None) (told_rows bound told_key keeps table picked_one (ordered.keys table picked_one) table rows)
          ≡ cond (not (is_after bound (Some key) t k)) (picked_row_at bound changes t k) None

      after_by : (t : List ℕ) (k : Image) (r : Ordering) → slice_cmp nat_cmp t table ≡ r → is_after bound (Some key) t k ≡ is_after_in bound key t k r
      after_by t k r e = ap (λ u. is_after_in bound key t k (slice_cmp nat_cmp t u)) of_table ∙ ap (is_after_in bound key t k) e

      of_other : (t : List ℕ) (k : Image) → Contains bound.tables t → is_eq (slice_cmp nat_cmp table t) ≡ false →
          cond (not (is_after bound l t k)) (picked_row_at bound changes t k) None ≡ cond (not (is_after bound (Some key) t k)) (picked_row_at bound changes t k) None → Told t k
      of_other t k picked_table other same =
          other_rows bound told_key keeps t picked_table (ordered.keys t picked_table) table rows k (cond (not (is_after bound l t k)) (picked_row_at bound changes t k) None) other ∙ same

      of_same : (k : Image) → Told table k
      of_same k =
          let o = ordered.keys table picked_one in
          let front = chunk_front (rows_left bound changes l table) in
          let are : rows_left bound changes l table ≡ rows ++ front.0 = front.1 ∙ ap (λ x. x ++ front.0) (sym first.are) in
          let some : rows ≢ [] = λ none. first.some (chunk_nil (rows_left bound changes l table) (sym first.are ∙ none)) in
          chunk_told bound told_key keeps table picked_one o changes l key front.0 rows are (last_row rows None key.key some last) k
          ∙ ap (λ b. cond (not b) (picked_row_at bound changes table k) None) (sym (after_by table k Equal (tied_itself tables_total table)))
        where
          chunk_nil : (xs : List (Image × Image)) → chunk_of xs ≡ [] → xs ≡ []
          chunk_nil [] e = refl
          chunk_nil (x ∷ xs) e = absurd (cons_is_not_nil _ _ e)

      pub all_tables_told : (t : List ℕ) (k : Image) → Contains bound.tables t → Stands changes l table t → Told t k
      all_tables_told t k picked_table (inl before) =
          of_other t k picked_table (ap is_eq (less_turned tables_total t table before.0))
          (nothing_left changes l t picked_table before.1 k
          ∙ sym (ap (λ b. cond (not b) (picked_row_at bound changes t k) None) (after_by t k Less before.0)))
      all_tables_told t k picked_table (inr (inl same)) = subst (λ u. Told u k) (sym same) (of_same k)
      all_tables_told t k picked_table (inr (inr greater)) =
          let row = some_row (λ r. is_after bound l table r.0 ≡ true) (rows_left bound changes l table) first.some
          (left_after bound table (ordered.keys table picked_one) changes l) in
          of_other t k picked_table (ap is_eq (greater_turned tables_total t table greater))
          (ap (λ b. cond (not b) (picked_row_at bound changes t k) None) (behind l table t k row.0.0 row.1 greater)
          ∙ sym (ap (λ b. cond (not b) (picked_row_at bound changes t k) None) (after_by t k Greater greater)))

    its_place : (before behind : List (List ℕ)) (table : List ℕ) → Contains (before ++ table ∷ behind) table
    its_place before behind table = Contains-append_right before (table ∷ behind) table (Contains-append_left (table ∷ []) behind table (Contains-push [] table))

    pub chunk_sent : (old new : Place) (table : List ℕ) (images : List Image) (time : ℕ) (cs : List Change) → CopyAt old cs →
        IsChunk bound s log old table images time (Some new) →
        CopyAt new (cs ++ map (λ row. record { table = table; before = None; after = Some row }) images)
    chunk_sent old new table images time cs at chunk =
        let on = read_on old chunk.q cs at chunk.read_to in
        let same = front-sent s log chunk.q on.sent on.rest distinct on.split on.grown in
        let changes = changes_in on.sent in
        let first = first_left bound changes (last_of old) bound.tables table chunk.front_rows
        (subst (λ es. next_rows bound (changes_in es) (last_of old) ≡ Some (table, chunk.front_rows)) same chunk.next) in
        let picked_one = subst (λ ts. Contains ts table) (sym first.at) (its_place first.before first.behind table) in
        let stand = tables_stand changes (last_of old) table chunk.front_rows first in
        let told : List Change = map (λ row. record { table = table; before = None; after = Some row }) images in
        subst (λ x. CopyAt x (cs ++ told)) (sym (same_some new (Copying chunk.q chunk.key) chunk.place)) (record {
          sent = on.sent;
          rest = on.rest;
          split = on.split;
          grown = on.grown;
          rows = λ fit t picked_table key.
              client-append cs told t key
              ∙ ap (λ r. fold (client_after bound told_key t key) r told) (on.rows fit t picked_table key)
              ∙ ap (λ xs. fold (client_after bound told_key t key) (cond (not (is_after bound (last_of old) t key)) (picked_row_at bound changes t key) None)
              (map (λ row. record { table = table; before = None; after = Some row }) xs)) chunk.rows_are
              ∙ all_tables_told changes (last_of old) table chunk.front_rows first picked_one chunk.key chunk.of_table chunk.last t key picked_table
              (All-contains (Stands changes (last_of old) table) bound.tables t (All-from_recursion (Stands changes (last_of old) table) bound.tables stand) picked_table);
        })

    -- any frame of a copy
    pub copy_sent : (old new : Place) (f : Frame) (cs : List Change) → CopyAt old cs → CopyStep bound s log old f (Some new) → CopyAt new (cs ++ told_in f)
    copy_sent (Copying p l) new (Tx t e v) cs at step = copied_tx p l e new cs at step
    copy_sent old new (Chunk t table rows time v) cs at step = chunk_sent old new table rows time cs at step
    copy_sent old new (CopyDone t time v) cs at step = copy_ends old new time cs at step
    copy_sent old new f cs at step = absurd step
