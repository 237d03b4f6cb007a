use Rattle.std.proofs.Common.{◌≡◌, IfSome, List, None, Some, ap, filter_map, map, option_map, subst, sym, ◌∙◌}
use Rattle.std.specs.Map.{values_of}
use Rattle.std.specs.List.{last_or}
use Rattle.vs_base.specs.declared.cell.Cell.{Cell}
use Rattle.vs_base.specs.Cells.{FitsKey}
use Rattle.vs_model.specs.Copy.{chunk_of}
use Rattle.vs_tables.specs.Rows.{AreLawfulRows, table_rows}
use Rattle.vs_copy.specs.Chunks.{listed, rows_left, told_row}
use Rattle.vs_copy.specs.CopiedTables.{AreKeyed}
use Rattle.vs_copy.specs.Copying.{CopyState, copied_in}
use Rattle.vs_copy.proofs.ChunkLemmas.{Told, none_last}
use Rattle.vs_copy.proofs.FindLemmas.{last_fits, told_is}
use Rattle.vs_copy.proofs.copier.Copier.chunk_in.Goals as goal

pub returns-in_default-last : goal.returns-in_default-last
returns-in_default-last c = λ changes applied.
    let s = c.args.self.now in
    let name = c.args.name.now in
    let u = c.in-Some.table.now in
    let is : copied_in s.copied name ≡ Some u =
    sym (c.in-Some.ensures ∙ ap (λ tables. copied_in tables name) (c.as_slice.ensures ∙ ap (λ (x : CopyState). x.copied) c.self.view_is)) in
    let rows : values_of c.in-Some-2.rows ≡ rows_left s name =
    sym (ap (λ o. listed (option_map values_of o)) c.in-Some-2.is) ∙ c.in_ok-rows.ensures.rows in
    told_is s name u is ∙ ap (filter_map (told_row u)) (sym rows)
    ∙ none_last (filter_map (told_row u) (values_of c.in-Some-2.rows)) (sym c.in_ok-rows-2.ensures.last ∙ c.in_default-last.is)

pub returns-in_default-new : goal.returns-in_default-new
returns-in_default-new c = λ changes applied.
    let s = c.args.self.now in
    let name = c.args.name.now in
    let u = c.in-Some.table.now in
    let is : copied_in s.copied name ≡ Some u =
    sym (c.in-Some.ensures ∙ ap (λ tables. copied_in tables name) (c.as_slice.ensures ∙ ap (λ (x : CopyState). x.copied) c.self.view_is)) in
    let rows : values_of c.in-Some-2.rows ≡ rows_left s name =
    sym (ap (λ o. listed (option_map values_of o)) c.in-Some-2.is) ∙ c.in_ok-rows.ensures.rows in
    let keyed = subst (λ (x : CopyState). AreKeyed x.copied) c.self.view_is c.self.invariant in
    let lawful = subst (λ o. IfSome o (λ _. IfSome (table_rows s.applied.tables name) AreLawfulRows)) c.in-Some-2.is c.in_ok-rows.ensures.lawful in
    let last : last_or None (map (λ (row : Told). row.0) (chunk_of (filter_map (told_row u) (rows_left s name)))) ≡ Some c.in-Some-last.key =
    ap (λ (r : List (List Cell)). last_or None (map (λ (row : Told). row.0) (chunk_of (filter_map (told_row u) r)))) (sym rows)
    ∙ sym c.in_ok-rows-2.ensures.last ∙ c.in-Some-last.is in
    absurd (c.in_default-new.ensures
    (subst (λ n. FitsKey n c.in-Some-last.key) (sym (c.in_ok-copy.ensures ∙ c.in_ok-name.ensures))
    (last_fits s changes name u c.in-Some-last.key applied keyed is lawful last)))
