-- How the cells of a row stand in one piece of memory: marks, which say how long the cells are, and behind them the texts.
use Rattle.std.specs.Prelude.{ℕ, zero, suc, ◌/◌, ◌%◌, List, [], ◌∷◌, ◌++◌, ◌==◌, length, take, drop, if◌then◌else◌}
use Rattle.vs_base.specs.declared.cell.Cell.{Cell}

-- The cells, by their marks; `text` are the bytes of a cell of which some marks were read. NULL has the mark 255; of 254 bytes of a
-- cell that goes on the mark is 254; any other mark says how many bytes are left of the cell.
abbrev pub cells_of : List ℕ → List ℕ → List ℕ → List Cell
cells_of text [] texts = []
cells_of text (mark ∷ marks) texts =
    if mark == 255 then Cell.Null ∷ cells_of text marks texts
    else if mark == 254 then cells_of (text ++ take 254 texts) marks (drop 254 texts)
    else Cell.Bytes (text ++ take mark texts) ∷ cells_of [] marks (drop mark texts)

-- so many times 254
abbrev pub pieces : ℕ → List ℕ
pieces zero = []
pieces (suc n) = 254 ∷ pieces n

-- the marks of a text of this length
abbrev pub length_marks : ℕ → List ℕ
length_marks n = pieces (n / 254) ++ (n % 254) ∷ []

abbrev pub mark_of : Cell → List ℕ
mark_of Cell.Null = 255 ∷ []
mark_of (Cell.Bytes text) = length_marks (length text)

abbrev pub marks_of : List Cell → List ℕ
marks_of [] = []
marks_of (cell ∷ cells) = mark_of cell ++ marks_of cells

abbrev pub text_of : Cell → List ℕ
text_of Cell.Null = []
text_of (Cell.Bytes text) = text

abbrev pub texts_of : List Cell → List ℕ
texts_of [] = []
texts_of (cell ∷ cells) = text_of cell ++ texts_of cells
