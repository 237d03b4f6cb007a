-- The cells of a row, one by one.
use Rattle.std.proofs.Common.{◌≡◌, ◌+◌, ◌∙◌, ℕ, List, [], ◌∷◌, ◌++◌, length, drop, refl, sym, ap, suc, ◌<◌, get_or, append_assoc, arith}
use Rattle.std.specs.Prelude.{map, ℤ, pos}
use Rattle.std.specs.List.{flat_map}
use Rattle.std.proofs.lemmas.List.{drop_more}
use Rattle.std.proofs.Math.Seq.{take-append_seam, drop-append_seam}
use Rattle.vs_base.specs.Cells.{FitsKey}
use Rattle.vs_base.specs.declared.cell.Cell.{Cell}
use Rattle.vs_base.specs.declared.cell.Cell.TheVariants.{Null, Bytes}
use Rattle.vs_proto.specs.declared.row.Row.{Row}
use Rattle.vs_request.specs.Keys.{behind_cell, cell_of, cells_of, cell_bytes, cell_length, IsRowOf}

spelled-cells : (cells : List Cell) → cells_of (map cell_length cells) (flat_map cell_bytes cells) ≡ cells
spelled-cells [] = refl
spelled-cells (Null ∷ cells) = ap (λ more. Null ∷ more) (spelled-cells cells)
spelled-cells (Bytes b ∷ cells) =
    let rest : List ℕ = flat_map cell_bytes cells in
    ap (λ front. Bytes front ∷ cells_of (map cell_length cells) (drop (length b) (b ++ rest))) (take-append_seam b rest)
    ∙ ap (λ back. Bytes b ∷ cells_of (map cell_length cells) back) (drop-append_seam b rest)
    ∙ ap (λ more. Bytes b ∷ more) (spelled-cells cells)

-- the row of some cells says these cells
pub row-cells : (row : Row) (cells : List Cell) → IsRowOf row cells → cells_of row.lengths row.values ≡ cells
row-cells row cells of =
    ap (λ lengths. cells_of lengths row.values) of.lengths
    ∙ ap (λ values. cells_of (map cell_length cells) values) of.values
    ∙ spelled-cells cells

-- each length is one cell
pub length-cells_of : (lengths : List ℤ) (values : List ℕ) → length (cells_of lengths values) ≡ length lengths
length-cells_of [] values = refl
length-cells_of (n ∷ lengths) values = ap (λ k. suc k) (length-cells_of lengths (behind_cell n values))

-- one cell more was read
pub next_cell : (read : List Cell) (lengths : List ℤ) (i : ℕ) (values : List ℕ) (all : List Cell) → i < length lengths →
    read ++ cells_of (drop i lengths) values ≡ all →
    read ++ cell_of (get_or lengths i (pos 0)) values ∷ [] ++ cells_of (drop (i + 1) lengths) (behind_cell (get_or lengths i (pos 0)) values) ≡ all
next_cell read lengths i values all inside h =
    let n : ℤ = get_or lengths i (pos 0) in
    append_assoc read (cell_of n values ∷ []) (cells_of (drop (i + 1) lengths) (behind_cell n values))
    ∙ ap (λ left. read ++ cells_of left values) (sym (drop_more lengths i (pos 0) inside))
    ∙ h

-- too many lengths are too many cells
pub many_cells : (table : List ℕ) (lengths : List ℤ) (values : List ℕ) → 4096 < length lengths → ¬ FitsKey table (cells_of lengths values)
many_cells table lengths values many = λ fits. let same : length (cells_of lengths values) ≡ length lengths = length-cells_of lengths values in omega (arith, fits.1)
