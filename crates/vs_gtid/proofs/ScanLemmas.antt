-- One byte of a scan, and many.
use Rattle.std.proofs.Common.{◌≡◌, ℕ, ◌+◌, ◌<◌, ◌≤◌, List, [], ◌∷◌, ◌++◌, length, take, drop, get_or, Some, None, refl, ap, sym, ◌∙◌, arith}
use Rattle.std.proofs.Math.ListN.{drop_of_length-le}
use Rattle.std.proofs.lemmas.List.{length-take-le, take_all, take_more, drop_more}
use Rattle.vs_gtid.specs.declared.span.Span.{Span}
use Rattle.vs_gtid.specs.declared.part.Part.{Part}
use Rattle.vs_gtid.specs.declared.part.Part.TheVariants.{Opening}
use Rattle.vs_gtid.specs.Parts.{begun, end_of, ended, next, scanned, scanned_from, Scanned}

pub scan_none : (front : List ℕ) (spans : List Span) (part : Part) (b : ℕ) (rest : List ℕ) → next front part b ≡ None →
    scanned_from front spans part (b ∷ rest) ≡ record { spans = spans ++ begun part; stop = Some (length front) }
unfolding scanned_from
scan_none front spans part b rest h = rw (h, scanned_from) refl

pub scan_some : (front : List ℕ) (spans : List Span) (part after : Part) (b : ℕ) (rest : List ℕ) → next front part b ≡ Some after →
    scanned_from front spans part (b ∷ rest) ≡ scanned_from (front ++ b ∷ []) (spans ++ ended part b) after rest
unfolding scanned_from
scan_some front spans part after b rest h = rw (h, scanned_from) refl

pub scan_end : (front : List ℕ) (spans : List Span) (part : Part) →
    scanned_from front spans part [] ≡ record { spans = spans ++ begun part; stop = end_of part (length front) }
unfolding scanned_from
scan_end front spans part = refl

pub scan_begin : (text : List ℕ) → scanned_from [] [] Opening text ≡ scanned text
unfolding scanned
scan_begin text = refl

-- the same at a place of a text
pub none_at : (text : List ℕ) (spans : List Span) (part : Part) (i : ℕ) → i < length text → next (take i text) part (get_or text i 0) ≡ None →
    scanned_from (take i text) spans part (drop i text) ≡ record { spans = spans ++ begun part; stop = Some i }
none_at text spans part i l h =
    let n : length (take i text) ≡ i = length-take-le i text (omega arith) in
    ap (λ (r : List ℕ). scanned_from (take i text) spans part r) (drop_more text i 0 l)
    ∙ (scan_none (take i text) spans part (get_or text i 0) (drop (i + 1) text) h
    ∙ ap (λ (k : ℕ). let s : Scanned = record { spans = spans ++ begun part; stop = Some k } in s) n)

pub some_at : (text : List ℕ) (spans more : List Span) (part after : Part) (i : ℕ) → i < length text → next (take i text) part (get_or text i 0) ≡ Some after →
    more ≡ spans ++ ended part (get_or text i 0) →
    scanned_from (take i text) spans part (drop i text) ≡ scanned_from (take (i + 1) text) more after (drop (i + 1) text)
some_at text spans more part after i l h e =
    ap (λ (r : List ℕ). scanned_from (take i text) spans part r) (drop_more text i 0 l)
    ∙ (scan_some (take i text) spans part after (get_or text i 0) (drop (i + 1) text) h
    ∙ (ap (λ (f : List ℕ). scanned_from f (spans ++ ended part (get_or text i 0)) after (drop (i + 1) text)) (sym (take_more text i 0 l))
    ∙ ap (λ (m : List Span). scanned_from (take (i + 1) text) m after (drop (i + 1) text)) (sym e)))

pub end_at : (text : List ℕ) (spans : List Span) (part : Part) (i : ℕ) → length text ≤ i →
    scanned_from (take i text) spans part (drop i text) ≡ record { spans = spans ++ begun part; stop = end_of part (length text) }
end_at text spans part i l =
    ap (λ (r : List ℕ). scanned_from (take i text) spans part r) (drop_of_length-le text {i = i} l)
    ∙ ap (λ (f : List ℕ). scanned_from f spans part []) (take_all i text l)
    ∙ scan_end text spans part
