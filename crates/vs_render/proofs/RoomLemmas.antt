-- Bytes in a room, and the messages in them.
use Rattle.std.proofs.Common.{arith, ◌≡◌, ℕ, zero, suc, ◌+◌, ◌-◌, ◌≤◌, ◌<◌, List, [], ◌∷◌, ◌++◌, length, take, drop, refl, ap, ap₂, sym, ◌∙◌, append_assoc}
use Rattle.std.proofs.lemmas.List.{drop-append-le, drop-drop, length-drop, take-append-le}
use Rattle.std.proofs.Math.Seq.{drop-append-add, take-append-add, take-length}
use Rattle.std.proofs.lemmas.List.{append-nil}
use Rattle.std.specs.List.{flat_map}
use Rattle.vs_base.specs.Frames.{framed}
use Rattle.vs_render.specs.Groups.{at_last}
use Rattle.vs_render.specs.Bodies.{behind_pieces, body_bytes, body_in, pieces, total_length}

pub pieces_count : (ns bytes : List ℕ) → length (pieces ns bytes) ≡ length ns
pieces_count [] bytes = refl
pieces_count (n ∷ ns) bytes = ap suc (pieces_count ns (drop n bytes))

pub one_more : (ns : List ℕ) (last : ℕ) → length ns + 1 ≡ length (ns ++ last ∷ [])
one_more [] last = refl
one_more (n ∷ ns) last = let k : length ns + 1 ≡ length (ns ++ last ∷ []) = one_more ns last in omega arith

take_drop : (n : ℕ) (bytes : List ℕ) → take n bytes ++ drop n bytes ≡ bytes
take_drop zero bytes = refl
take_drop (suc n) [] = refl
take_drop (suc n) (b ∷ bytes) = ap (λ (bs : List ℕ). b ∷ bs) (take_drop n bytes)

-- all of a body are its bytes
pub body_is : (ns bytes : List ℕ) → body_bytes (body_in ns bytes) ≡ bytes
body_is [] bytes = refl
body_is (n ∷ ns) bytes =
    append_assoc (take n bytes) (flat_map (λ m. m) (pieces ns (drop n bytes))) (behind_pieces ns (drop n bytes))
    ∙ ap (λ (bs : List ℕ). take n bytes ++ bs) (body_is ns (drop n bytes)) ∙ take_drop n bytes

-- a part that goes over the end of the first of two lists
pub over_both : (first rest : List ℕ) (from count : ℕ) → from < length first → length first - from < count → drop from first ++ take (count - (length first - from)) rest ≡ take count (drop from (first ++ rest))
over_both first rest from count h k =
    let sized : length (drop from first) ≡ length first - from = length-drop from first in
    let all : length (drop from first) + (count - (length first - from)) ≡ count = omega arith in
    sym (take-append-add (drop from first) rest (count - (length first - from)))
    ∙ ap (λ (n : ℕ). take n (drop from first ++ rest)) all
    ∙ ap (λ (bs : List ℕ). take count bs) (sym (drop-append-le from first rest (omega arith)))

-- a part behind the first
pub rest_part : (first rest : List ℕ) (from count : ℕ) → length first ≤ from → take count (drop (from - length first) rest) ≡ take count (drop from (first ++ rest))
rest_part first rest from count h =
    ap (λ (bs : List ℕ). take count bs)
    (sym (drop-append-add first rest (from - length first)) ∙ ap (λ (n : ℕ). drop n (first ++ rest)) (let k : length first + (from - length first) ≡ from = omega arith in k))

-- a part of the first
pub first_part : (first rest : List ℕ) (from count : ℕ) → from < length first → count ≤ length first - from → take count (drop from first) ≡ take count (drop from (first ++ rest))
first_part first rest from count h k =
    let sized : length (drop from first) ≡ length first - from = length-drop from first in
    sym (take-append-le count (drop from first) rest (omega arith)) ∙ ap (λ (bs : List ℕ). take count bs) (sym (drop-append-le from first rest (omega arith)))

-- the same, as two parts are written
pub both_parts : (out first rest : List ℕ) (from count : ℕ) → from < length first → length first - from < count →
    (out ++ take (length first - from) (drop from first)) ++ take (count - (length first - from)) (drop 0 rest) ≡ out ++ take count (drop from (first ++ rest))
both_parts out first rest from count h k =
    append_assoc out (take (length first - from) (drop from first)) (take (count - (length first - from)) rest)
    ∙ ap (λ (bs : List ℕ). out ++ (bs ++ take (count - (length first - from)) rest)) (ap (λ (n : ℕ). take n (drop from first)) (sym (length-drop from first)) ∙ take-length (drop from first))
    ∙ ap (λ (bs : List ℕ). out ++ bs) (over_both first rest from count h k)

-- what was there before stays, where what came to it stays
pub kept_front : (old more new : List ℕ) → take (length (old ++ more)) new ≡ old ++ more → take (length old) new ≡ old
kept_front [] more new h = refl
kept_front (b ∷ old) more [] h = absurd (let k : [] ≡ b ∷ (old ++ more) = h in cc)
kept_front (b ∷ old) more (d ∷ new) h = ap₂ (λ (x : ℕ) (xs : List ℕ). x ∷ xs) (let k : d ∷ take (length (old ++ more)) new ≡ b ∷ (old ++ more) = h in cc) (kept_front old more new (let k : d ∷ take (length (old ++ more)) new ≡ b ∷ (old ++ more) = h in cc))

pub kept_twice : (old middle new : List ℕ) → take (length old) middle ≡ old → take (length middle) new ≡ middle → take (length old) new ≡ old
kept_twice [] middle new h k = refl
kept_twice (b ∷ old) [] new h k = absurd (let l : [] ≡ b ∷ old = h in cc)
kept_twice (b ∷ old) (d ∷ middle) [] h k = absurd (let l : [] ≡ d ∷ middle = k in cc)
kept_twice (b ∷ old) (d ∷ middle) (e ∷ new) h k =
    let l : d ∷ take (length old) middle ≡ b ∷ old = h in
    let m : e ∷ take (length middle) new ≡ d ∷ middle = k in
    ap₂ (λ (x : ℕ) (xs : List ℕ). x ∷ xs) (let n : e ≡ b = cc in n) (kept_twice old middle new (let n : take (length old) middle ≡ old = cc in n) (let n : take (length middle) new ≡ middle = cc in n))

pub kept_through : (old middle more new : List ℕ) → take (length old) middle ≡ old → take (length (middle ++ more)) new ≡ middle ++ more → take (length old) new ≡ old
kept_through old middle more new h k = kept_twice old middle new h (kept_front middle more new k)

-- ---- the messages of a body, one after the other

drop_both : (n m : ℕ) (bytes : List ℕ) → drop (n + m) bytes ≡ drop m (drop n bytes)
drop_both n m bytes = sym (drop-drop m n bytes)

with_last : (n : ℕ) (ns : List ℕ) (last : ℕ) (bytes end : List ℕ) →
    at_last end (pieces (n ∷ (ns ++ last ∷ [])) bytes) ≡ take n bytes ∷ at_last end (pieces (ns ++ last ∷ []) (drop n bytes))
with_last n [] last bytes end = refl
with_last n (m ∷ ns) last bytes end = refl

-- a frame is the messages but the last, and the last one with what is put into it
pub last_is : (ns : List ℕ) (last : ℕ) (bytes end : List ℕ) →
    flat_map framed (at_last end (pieces (ns ++ last ∷ []) bytes)) ≡ flat_map framed (pieces ns bytes) ++ framed (take last (drop (total_length ns) bytes) ++ end)
last_is [] last bytes end = append-nil (framed (take last bytes ++ end))
last_is (n ∷ ns) last bytes end =
    ap (λ (ms : List (List ℕ)). flat_map framed ms) (with_last n ns last bytes end)
    ∙ ap (λ (bs : List ℕ). framed (take n bytes) ++ bs) (last_is ns last (drop n bytes) end)
    ∙ sym (append_assoc (framed (take n bytes)) (flat_map framed (pieces ns (drop n bytes))) (framed (take last (drop (total_length ns) (drop n bytes)) ++ end)))
    ∙ ap (λ (bs : List ℕ). (framed (take n bytes) ++ flat_map framed (pieces ns (drop n bytes))) ++ framed (take last bs ++ end)) (sym (drop_both n (total_length ns) bytes))

pub behind_pieces_is : (ns : List ℕ) (last : ℕ) (bytes : List ℕ) → behind_pieces (ns ++ last ∷ []) bytes ≡ drop (total_length ns + last) bytes
behind_pieces_is [] last bytes = ap (λ (n : ℕ). drop n bytes) (let k : last ≡ 0 + last = omega arith in k)
behind_pieces_is (n ∷ ns) last bytes = behind_pieces_is ns last (drop n bytes) ∙ sym (drop_both n (total_length ns + last) bytes) ∙ ap (λ (m : ℕ). drop m bytes) (let k : n + (total_length ns + last) ≡ (n + total_length ns) + last = omega arith in k)

pub total_last : (ns : List ℕ) (last : ℕ) → total_length (ns ++ last ∷ []) ≡ total_length ns + last
total_last [] last = omega arith
total_last (n ∷ ns) last = let k : total_length (ns ++ last ∷ []) ≡ total_length ns + last = total_last ns last in omega arith

pub put_together : (out earlier new bytes ns slice : List ℕ) (last place : ℕ) (event vector : List ℕ) → slice ≡ ns → place ≡ total_length slice →
    earlier ≡ out ++ flat_map framed (pieces slice bytes) → vector ≡ event → new ≡ earlier ++ framed (take last (drop place bytes) ++ (vector ++ drop (place + last) bytes)) →
    new ≡ out ++ flat_map framed (at_last (event ++ behind_pieces (ns ++ last ∷ []) bytes) (pieces (ns ++ last ∷ []) bytes))
put_together out earlier new bytes ns slice last place event vector same there written is put =
    put
    ∙ ap₂ (λ (e v : List ℕ). e ++ framed (take last (drop place bytes) ++ (v ++ drop (place + last) bytes))) written is
    ∙ ap (λ (n : ℕ). (out ++ flat_map framed (pieces slice bytes)) ++ framed (take last (drop n bytes) ++ (event ++ drop (n + last) bytes))) there
    ∙ ap (λ (xs : List ℕ). (out ++ flat_map framed (pieces xs bytes)) ++ framed (take last (drop (total_length xs) bytes) ++ (event ++ drop (total_length xs + last) bytes))) same
    ∙ append_assoc out (flat_map framed (pieces ns bytes)) (framed (take last (drop (total_length ns) bytes) ++ (event ++ drop (total_length ns + last) bytes)))
    ∙ ap (λ (bs : List ℕ). out ++ (flat_map framed (pieces ns bytes) ++ framed (take last (drop (total_length ns) bytes) ++ (event ++ bs)))) (sym (behind_pieces_is ns last bytes))
    ∙ ap (λ (bs : List ℕ). out ++ bs) (sym (last_is ns last bytes (event ++ behind_pieces (ns ++ last ∷ []) bytes)))
