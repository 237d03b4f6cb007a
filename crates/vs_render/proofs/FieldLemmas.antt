-- A field is made of the bytes from a place on, by putting its head in front of them.
use Rattle.std.proofs.Common.{◌≡◌, ◌≤◌, ℕ, ◌+◌, ◌-◌, ◌*◌, List, [], ◌++◌, length, take, drop, ap, ap₂, sym, ◌∙◌, append_assoc, arith, length-drop, take_all}
use Rattle.std.proofs.lemmas.List.{append-nil, drop-drop, drop-take, drop_all, take-append-le}
use Rattle.std.proofs.Math.Seq.{drop-append_seam, take-append_seam}
use Rattle.vs_wire.specs.Fields.{field_bytes, sized}
use Rattle.vs_wire.specs.Varint.{varint}
use borrow.Rule.Slice.PartMut.{put_mid, post_of}

-- the bytes between two places changed places with those behind
pub turned : (d x : List ℕ) (start end : ℕ) → start ≤ end → end ≤ length d →
    x ≡ drop (length (take (length d - start) (drop start d)) - (length d - end)) (take (length d - start) (drop start d)) ++ take (length (take (length d - start) (drop start d)) - (length d - end)) (take (length d - start) (drop start d)) →
    put_mid start (length d - start) d x ≡ take start d ++ (drop end d ++ drop start (take end d))
turned d x start end ordered within is =
    let whole : take (length d - start) (drop start d) ≡ drop start d = take_all (length d - start) (drop start d) (omega (arith, length-drop start d)) in
    let count : length (take (length d - start) (drop start d)) - (length d - end) ≡ end - start = ap (λ (bs : List ℕ). length bs - (length d - end)) whole ∙ omega (arith, length-drop start d) in
    let rest : post_of start (length d - start) d ≡ [] = drop_all (length d - start) (drop start d) (omega (arith, length-drop start d)) in
    let last : drop (end - start) (drop start d) ≡ drop end d = drop-drop (end - start) start d ∙ ap (λ (n : ℕ). drop n d) (omega arith) in
    let first : take (end - start) (drop start d) ≡ drop start (take end d) = sym (drop-take start (end - start) d) ∙ ap (λ (n : ℕ). drop start (take n d)) (omega arith) in
    let moved : x ≡ drop end d ++ drop start (take end d) =
    is ∙ ap₂ (λ (n : ℕ) (bs : List ℕ). drop n bs ++ take n bs) count whole ∙ ap₂ (λ (a b : List ℕ). a ++ b) last first in
    ap₂ (λ (a b : List ℕ). take start d ++ (a ++ b)) moved rest ∙ ap (λ (bs : List ℕ). take start d ++ bs) (append-nil (drop end d ++ drop start (take end d)))

-- the head of a field was written behind its value, and then brought in front of it
pub enclosed : (old all new : List ℕ) (start field size : ℕ) → start ≤ length old → size ≡ length old - start → all ≡ (old ++ varint (field * 8 + 2)) ++ varint size →
    new ≡ take start all ++ (drop (length old) all ++ drop start (take (length old) all)) → new ≡ take start old ++ field_bytes field (sized (drop start old))
unfolding field_bytes
enclosed old all new start field size within count is put =
    let head : List ℕ = varint (field * 8 + 2) ++ varint size in
    let parts : all ≡ old ++ head = is ∙ append_assoc old (varint (field * 8 + 2)) (varint size) in
    let front : take start all ≡ take start old = ap (λ (bs : List ℕ). take start bs) parts ∙ take-append-le start old head within in
    let middle : drop (length old) all ≡ head = ap (λ (bs : List ℕ). drop (length old) bs) parts ∙ drop-append_seam old head in
    let value : take (length old) all ≡ old = ap (λ (bs : List ℕ). take (length old) bs) parts ∙ take-append_seam old head in
    let length_is : size ≡ length (drop start old) = count ∙ sym (length-drop start old) in
    put ∙ ap₂ (λ (a b : List ℕ). a ++ b) front (ap₂ (λ (a b : List ℕ). a ++ drop start b) middle value)
    ∙ ap (λ (n : ℕ). take start old ++ ((varint (field * 8 + 2) ++ varint n) ++ drop start old)) length_is

-- what stands behind a front, made into something else
pub behind_front : (f : List ℕ → List ℕ) (front inside all new : List ℕ) (start : ℕ) → start ≡ length front → all ≡ front ++ inside → new ≡ take start all ++ f (drop start all) → new ≡ front ++ f inside
behind_front f front inside all new start at is put =
    put ∙ ap₂ (λ (n : ℕ) (bs : List ℕ). take n bs ++ f (drop n bs)) at is ∙ ap₂ (λ (a b : List ℕ). a ++ f b) (take-append_seam front inside) (drop-append_seam front inside)
