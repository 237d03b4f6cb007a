-- What was packed is read again.
use Rattle.std.proofs.Common.{◌≡◌, ℕ, zero, suc, ◌+◌, ◌-◌, ◌*◌, ◌/◌, ◌%◌, ◌<◌, ◌≤◌, false, List, [], ◌∷◌, ◌++◌, length, take, drop, ◌==◌, refl, ap, ap₂, sym, ◌∙◌, arith}
use Rattle.std.proofs.Math.Seq.{take-append_seam, drop-append_seam}
use Rattle.std.proofs.lemmas.List.{append_assoc, drop-append-le, length-drop, take-append-drop, take-append-le}
use Rattle.std.proofs.lemmas.Nat.{div-add-mod', mod_below}
use Rattle.std.proofs.lemmas.Bool.Decides.{nat_tests}
use Rattle.vs_base.specs.declared.cell.Cell.{Cell}
use Rattle.vs_tables.specs.Packed.{cells_of, length_marks, mark_of, marks_of, pieces, text_of, texts_of}

-- a length is neither of the other marks
no_mark : (r mark : ℕ) → r < mark → (r == mark) ≡ false
no_mark r mark below = grind (arith, nat_tests)

one_piece : (r : ℕ) (text t more marks : List ℕ) → r < 254 → length t ≡ r →
    cells_of text (r ∷ marks) (t ++ more) ≡ Cell.Bytes (text ++ t) ∷ cells_of [] marks more
one_piece r text t more marks below is =
    rw (no_mark r 255 (omega (arith, below)), no_mark r 254 below)
    (ap₂ (λ piece left. Cell.Bytes (text ++ piece) ∷ cells_of [] marks left)
    (ap (λ n. take n (t ++ more)) (sym is) ∙ take-append_seam t more)
    (ap (λ n. drop n (t ++ more)) (sym is) ∙ drop-append_seam t more))

reads : (q r : ℕ) (text t more marks : List ℕ) → r < 254 → length t ≡ q * 254 + r →
    cells_of text (pieces q ++ r ∷ marks) (t ++ more) ≡ Cell.Bytes (text ++ t) ∷ cells_of [] marks more
reads zero r text t more marks below is = one_piece r text t more marks below (omega (arith, is))
reads (suc q) r text t more marks below is =
    let long : 254 ≤ length t = omega (arith, is) in
    ap₂ (λ piece left. cells_of (text ++ piece) (pieces q ++ r ∷ marks) left) (take-append-le 254 t more long) (drop-append-le 254 t more long)
    ∙ reads q r (text ++ take 254 t) (drop 254 t) more marks below (omega (arith, is, length-drop 254 t))
    ∙ ap (λ whole. Cell.Bytes whole ∷ cells_of [] marks more) (append_assoc text (take 254 t) (drop 254 t) ∙ ap (λ piece. text ++ piece) (take-append-drop 254 t))

reads_cell : (cell : Cell) (more marks : List ℕ) → cells_of [] (mark_of cell ++ marks) (text_of cell ++ more) ≡ cell ∷ cells_of [] marks more
reads_cell Cell.Null more marks = refl
reads_cell (Cell.Bytes t) more marks =
    ap (λ all. cells_of [] all (t ++ more)) (append_assoc (pieces (length t / 254)) (length t % 254 ∷ []) marks)
    ∙ reads (length t / 254) (length t % 254) [] t more marks (mod_below (length t) 254 (omega arith)) (sym (div-add-mod' (length t) 254))

reads_row : (cells : List Cell) → cells_of [] (marks_of cells) (texts_of cells) ≡ cells
reads_row [] = refl
reads_row (cell ∷ cells) = reads_cell cell (texts_of cells) (marks_of cells) ∙ ap (λ rest. cell ∷ rest) (reads_row cells)

pub packed : (cells : List Cell) (bytes : List ℕ) (marks : ℕ) → bytes ≡ marks_of cells ++ texts_of cells → marks ≡ length (marks_of cells) →
    cells_of [] (take marks bytes) (drop marks bytes) ≡ cells
packed cells bytes marks is long =
    ap₂ (λ n all. cells_of [] (take n all) (drop n all)) long is
    ∙ ap₂ (λ ms ts. cells_of [] ms ts) (take-append_seam (marks_of cells) (texts_of cells)) (drop-append_seam (marks_of cells) (texts_of cells))
    ∙ reads_row cells

-- the marks of a length, one by one
pub marks_more : (n : ℕ) → 254 ≤ n → length_marks n ≡ 254 ∷ length_marks (n - 254)
marks_more n long =
    let count : n / 254 ≡ suc ((n - 254) / 254) = omega (arith, long) in
    let rest : n % 254 ≡ (n - 254) % 254 = omega (arith, long) in
    ap₂ (λ q r. pieces q ++ r ∷ []) count rest

pub marks_last : (n : ℕ) → n < 254 → length_marks n ≡ n ∷ []
marks_last n short =
    let count : n / 254 ≡ 0 = omega (arith, short) in
    let rest : n % 254 ≡ n = omega (arith, short) in
    ap₂ (λ q r. pieces q ++ r ∷ []) count rest
