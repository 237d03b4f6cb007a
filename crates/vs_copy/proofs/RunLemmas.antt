-- A client that applies all that a copy tells has the picked rows up to the last row that was sent.
use Rattle.std.proofs.Common.{◌≡◌, ℕ, Bool, true, false, not, cond, List, [], ◌∷◌, ◌++◌, append_assoc, append-nil, map, Option, Some, None, OnOk, IfOk, Result, Ok, Err, IfSome, Contains, fold, filter_map, option_and_then, refl, ap, ap₂, sym, ◌∙◌, subst}
use Rattle.std.proofs.Math.Path.{fun_ext}
use Rattle.std.specs.Ordering.{nat_cmp}
use Rattle.std.specs.Cmp.Lexicographic.{slice_cmp}
use Rattle.std.specs.declared.cmp.Ordering.TheVariants.{Equal}
use Rattle.std.proofs.lemmas.List.{flat_map_more}
use Rattle.std.proofs.lemmas.List.Sums.{fold-append}
use Rattle.vs_base.specs.declared.change.Change.{Change}
use Rattle.vs_base.specs.declared.change.LastKey.{LastKey}
use Rattle.vs_base.specs.declared.table.Table.{Table}
use Rattle.vs_base.specs.Picks.{Bound, picked_change}
use Rattle.vs_filter.specs.Keys.{told_key}
use Rattle.vs_filter.specs.Picks.{bound_in}
use Rattle.vs_filter.specs.declared.bound.Picked.{Picked}
use Rattle.vs_model.specs.Copy.{change_within, is_after, next_rows, row_at}
use Rattle.vs_model.specs.Copies.{AreAscending, ChangesFit, IsOrdered, client_after, picked_row_at}
use Rattle.vs_tables.specs.Changes.{Applied, first_unfit, keyed_tables, tables_after, tables_after_one}
use Rattle.vs_tables.specs.Rows.{TableRows}
use Rattle.vs_copy.specs.Copying.{CopyState, HasApplied, copied_bound, copied_of, keyless_in, told_within}
use Rattle.vs_copy.specs.Laws.{GoesOn, IsAsBound, TellsKeys}
use Rattle.vs_copy.specs.Runs.{ClientHas, CopyTurn, HasRun, all_applied, all_told, applied_in, applies, client_row, told_in}
use Rattle.vs_copy.specs.Runs.HasRun.{begins, applies_more, sends_more}
use Rattle.vs_copy.specs.declared.chunk.ChunkRows.{ChunkRows}
use Rattle.vs_copy.specs.declared.copied.CopiedTable.{CopiedTable}
use Rattle.vs_copy.proofs.RowLemmas.{Row, left_at}
use Rattle.vs_copy.proofs.BoundLemmas.{tells_as_bound}
use Rattle.vs_copy.proofs.ClientLemmas.{keys_are_told}
use Rattle.vs_copy.proofs.ToldChangeLemmas.{changes_told}
use Rattle.vs_copy.proofs.ToldChunkLemmas.{all_had, rows_told}

pub all_more : (turns : List CopyTurn) (turn : CopyTurn) → all_applied turns ++ applied_in turn ≡ all_applied (turns ++ turn ∷ [])
all_more turns turn = flat_map_more applied_in [] turns turn

told_more : (turns : List CopyTurn) (turn : CopyTurn) → all_told turns ++ told_in turn ≡ all_told (turns ++ turn ∷ [])
told_more turns turn = flat_map_more told_in [] turns turn

pub none_more : (turns : List CopyTurn) (chunk : ChunkRows) → all_applied turns ≡ all_applied (turns ++ CopyTurn.Sends chunk ∷ [])
none_more turns chunk = sym (append-nil (all_applied turns)) ∙ all_more turns (CopyTurn.Sends chunk)

-- a copy has applied what its turns applied
pub run_applied : (turns : List CopyTurn) (s : CopyState) → HasRun turns s → HasApplied s (all_applied turns)
run_applied turns s (begins applied last) = applied
run_applied turns s (applies_more {turns = before} {old = old} {new = new} changes run is) =
    subst (HasApplied new) (all_more before (applies old changes)) is.applied
run_applied turns s (sends_more {turns = before} {old = old} chunk run next) =
    subst (HasApplied old) (none_more before chunk) (run_applied before old run)

abbrev pub unrefused : List TableRows → Applied
unrefused tables = record { tables = tables; refused = None }

-- and it goes on where more changes are applied
pub applied_more : (turns : List CopyTurn) (old new : CopyState) (changes : List Change) → HasRun turns old →
    new.applied ≡ unrefused (tables_after old.applied.tables changes) → first_unfit old.applied.tables changes ≡ None →
    new.copied ≡ old.copied → new.last ≡ old.last → HasRun (turns ++ applies old changes ∷ []) new
applied_more turns old new changes run applied fit copied last =
    applies_more changes run (record { fit = fit; applied = applied ∙ all copied (run_applied turns old run); copied = copied; last = last })
  where
    all : new.copied ≡ old.copied → HasApplied old (all_applied turns) →
        unrefused (tables_after old.applied.tables changes)
        ≡ unrefused (tables_after (keyed_tables (map (λ t. t.table) new.copied)) (all_applied turns ++ changes))
    all e h =
        ap (λ (a : Applied). unrefused (tables_after a.tables changes)) h
        ∙ ap unrefused (sym (fold-append tables_after_one (keyed_tables (map (λ t. t.table) old.copied)) (all_applied turns) changes)
        ∙ ap (λ (c : List CopiedTable). tables_after (keyed_tables (map (λ t. t.table) c)) (all_applied turns ++ changes)) (sym e))

-- as the calls of a copy say it
pub apply_runs : {T E : Type 0} (r : Result T E) (old new : CopyState) (changes : List Change) →
    (old.applied.refused ≡ None → OnOk r (new.applied ≡ unrefused (tables_after old.applied.tables changes))) →
    (old.applied.refused ≡ None → OnOk r (first_unfit old.applied.tables changes ≡ None)) → new.copied ≡ old.copied → new.last ≡ old.last →
    (turns : List CopyTurn) → HasRun turns old → OnOk r (HasRun (turns ++ applies old changes ∷ []) new)
apply_runs r old new changes applied fits copied last turns run =
    go r (applied unrefused_yet) (fits unrefused_yet)
  where
    unrefused_yet : old.applied.refused ≡ None
    unrefused_yet = ap (λ (a : Applied). a.refused) (run_applied turns old run)

    go : {T E : Type 0} (r : Result T E) → OnOk r (new.applied ≡ unrefused (tables_after old.applied.tables changes)) →
        OnOk r (first_unfit old.applied.tables changes ≡ None) → OnOk r (HasRun (turns ++ applies old changes ∷ []) new)
    go (Ok x) a f = applied_more turns old new changes run a f copied last
    go (Err e) a f = tt

pub fresh_runs : {E : Type 0} (r : Result CopyState E) → IfOk r (λ s. HasApplied s []) → IfOk r (λ s. s.last ≡ None) → IfOk r (λ s. HasRun [] s)
fresh_runs (Ok s) applied last = begins applied last
fresh_runs (Err e) applied last = tt

pub goes_on : GoesOn
goes_on turns s t run copied last applied =
    let same : t.applied ≡ s.applied = applied ∙ sym (at_copied copied (run_applied turns s run)) in
    subst (HasRun turns) (as_one (sym same) (sym copied) (sym last)) run
  where
    at_copied : t.copied ≡ s.copied → HasApplied s (all_applied turns) →
        s.applied ≡ record { tables = tables_after (keyed_tables (map (λ u. u.table) t.copied)) (all_applied turns); refused = None }
    at_copied e h = h ∙ sym (ap (λ (c : List CopiedTable). record { tables = tables_after (keyed_tables (map (λ (u : CopiedTable). u.table) c)) (all_applied turns); refused = None }) e)

    as_one : s.applied ≡ t.applied → s.copied ≡ t.copied → s.last ≡ t.last → s ≡ t
    as_one p q r =
        ap (λ (a : Applied). record s { applied = a }) p
        ∙ ap (λ (c : List CopiedTable). record s { applied = t.applied; copied = c }) q
        ∙ ap (λ (l : Option LastKey). record s { applied = t.applied; copied = t.copied; last = l }) r

module _ (schema : List Table) (picked : List Picked) (is : keyless_in schema picked ≡ None)
    (ascend : AreAscending (slice_cmp nat_cmp) (map (λ (p : Picked). p.name) picked)) where
  abbrev bound : Bound
  bound = bound_in picked schema

  abbrev tell : List ℕ → Row → Row
  tell = told_key picked schema

  keys : TellsKeys schema picked
  keys = keys_are_told schema picked is

  ordered : IsOrdered bound
  ordered = keys.ordered ascend

  same : IsAsBound schema picked
  same = tells_as_bound schema picked is

  abbrev had : List Change → Option LastKey → List ℕ → Row → Option Row
  had changes last t k = cond (is_after bound last t k) None (picked_row_at bound changes t k)

  turned : (b : Bool) (row : Option Row) → cond b None row ≡ cond (not b) row None
  turned true row = refl
  turned false row = refl

  -- what is told of changes, by the last row that was sent
  abbrev told_by : Option LastKey → List Change → List Change
  told_by None changes = []
  told_by (Some l) changes = filter_map (λ c. picked_change bound (change_within bound l c)) changes

  abbrev no_change : Change → Option Change
  no_change c = None

  none_told : (changes : List Change) → filter_map no_change changes ≡ []
  none_told [] = refl
  none_told (c ∷ changes) = none_told changes

  told_is : (s : CopyState) (changes : List Change) (last : Option LastKey) → s.last ≡ last → s.copied ≡ copied_of schema picked →
      filter_map (told_within s) changes ≡ told_by last changes
  told_is s changes None e copied =
      ap (λ (f : Change → Option Change). filter_map f changes) (fun_ext (λ c.
      ap (option_and_then (λ l. picked_change (copied_bound s.copied) (change_within (copied_bound s.copied) l c))) e)) ∙ none_told changes
  told_is s changes (Some l) e copied =
      ap (λ (f : Change → Option Change). filter_map f changes) (fun_ext (λ c.
      ap (option_and_then (λ m. picked_change (copied_bound s.copied) (change_within (copied_bound s.copied) m c))) e
      ∙ ap (λ u. picked_change (copied_bound u) (change_within (copied_bound u) l c)) copied ∙ same.within l c))

  module _ (t : List ℕ) (k : Row) (here : Contains bound.tables t) where
    abbrev client : Option Row → Change → Option Row
    client = client_after bound tell t k

    own : (changes : List Change) (row : Row) → row_at bound changes t k ≡ Some row → bound.order t (bound.key t row) k ≡ Equal
    own changes row e =
        subst (λ i. IfSome i (λ x. bound.order t (bound.key t x) k ≡ Equal)) e
        ((left_at bound t (ordered.keys t here) (λ _. Unit {0}) (λ _. tt) changes).own k)

    applied_told : (last : Option LastKey) (before changes : List Change) → ChangesFit bound (before ++ changes) →
        fold client (had before last t k) (told_by last changes) ≡ had (before ++ changes) last t k
    applied_told None before changes fit = refl
    applied_told (Some l) before changes fit =
        ap (λ r. fold client r (told_by (Some l) changes)) (turned (is_after bound (Some l) t k) (picked_row_at bound before t k))
        ∙ changes_told bound tell keys.keeps t here (ordered.keys t here) k l own changes before fit
        ∙ sym (turned (is_after bound (Some l) t k) (picked_row_at bound (before ++ changes) t k))

    fits_first : (xs ys : List Change) → ChangesFit bound (xs ++ ys) → ChangesFit bound xs
    fits_first xs ys fit before behind c e =
        fit before (behind ++ ys) c (ap (λ l. l ++ ys) e ∙ append_assoc before (c ∷ behind) ys)

    run_told : (turns : List CopyTurn) (s : CopyState) → HasRun turns s → s.copied ≡ copied_of schema picked → ChangesFit bound (all_applied turns) →
        client_row bound tell (all_told turns) t k ≡ had (all_applied turns) s.last t k
    run_told turns s (begins applied last) copied fit = sym (ap (λ m. had [] m t k) last)
    run_told turns s (applies_more {turns = before} {old = old} {new = new} changes run applied) copied fit =
        let turn = applies old changes in
        let fit_all = subst (ChangesFit bound) (sym (all_more before turn)) fit in
        let copied_then = sym applied.copied ∙ copied in
        let on = run_told before old run copied_then (fits_first (all_applied before) changes fit_all) in
        ap (λ l. fold client None l) (sym (told_more before turn))
        ∙ fold-append client None (all_told before) (filter_map (told_within old) changes)
        ∙ ap₂ (λ r l. fold client r l) on (told_is old changes old.last refl copied_then)
        ∙ applied_told old.last (all_applied before) changes fit_all
        ∙ ap₂ (λ cs m. had cs m t k) (all_more before turn) (sym applied.last)
    run_told turns s (sends_more {turns = before} {old = old} chunk run next) copied fit =
        let turn = CopyTurn.Sends chunk in
        let on = run_told before old run copied (subst (ChangesFit bound) (sym (none_more before chunk)) fit) in
        ap (λ l. fold client None l) (sym (told_more before turn))
        ∙ fold-append client None (all_told before) (told_in turn)
        ∙ ap₂ (λ r (rows : List Row). fold client r (map (λ row. record { table = chunk.table; before = None; after = Some row }) rows)) on next.rows
        ∙ rows_told bound tell ordered keys.keeps (all_applied before) old.last chunk.table next.front
        (sym (same.next (all_applied before) old.last) ∙ ap (λ u. next_rows (copied_bound u) (all_applied before) old.last) (sym copied) ∙ next.next_is)
        chunk.last_key next.last next.of_table t k here
        ∙ ap (λ cs. had cs (Some chunk.last_key) t k) (none_more before chunk)

  pub run_has : (turns : List CopyTurn) (s : CopyState) → HasRun turns s → s.copied ≡ copied_of schema picked → ChangesFit bound (all_applied turns) →
      ClientHas bound tell turns s.last
  run_has turns s run copied fit = record {
    up_to_last = λ t k here. run_told t k here turns s run copied fit;
    at_end = λ none t k here. run_told t k here turns s run copied fit ∙ all_had bound tell ordered keys.keeps (all_applied turns) s.last none t k here;
  }
