-- One frame stands at the front of some bytes, and one list of frames.
use Rattle.std.proofs.Common.{◌≡◌, lit<, ℕ, zero, suc, ◌+◌, ◌<◌, ◌≤◌, ◌^◌, List, [], ◌∷◌, ◌++◌, append_assoc, append-nil, length, length-take, get_or, take, drop, refl, ap, sym, ◌∙◌, arith}
use Rattle.std.specs.Int.{w32, to_be_bytes, from_be_bytes}
use Rattle.std.proofs.lemmas.List.{take-append-drop}
use Rattle.std.proofs.lemmas.List.Elements.{All-head, All-tail, All-append, All-cons, All-nil}
use Rattle.std.proofs.lemmas.Nat.{be_bytes_4, from_be_bytes-to_be_bytes_4}
use Rattle.std.proofs.Math.Seq.{take-append_seam, drop-append_seam}
use Rattle.vs_base.specs.Frames.{framed}
use Rattle.vs_frame.specs.Frames.{frames_bytes, IsWithinLimit, BeginsWithFrame, HasFrame, IsGiven, HasNoFrame}

-- ---- four bytes are a length

small_front : (k : ℕ) (bytes : List ℕ) → ((i : ℕ) → get_or bytes i 0 < 256) → (i : ℕ) → get_or (take k bytes) i 0 < 256
small_front zero bytes small i = lit< tt
small_front (suc k) [] small i = lit< tt
small_front (suc k) (b ∷ bytes) small zero = small 0
small_front (suc k) (b ∷ bytes) small (suc i) = small_front k bytes (λ j. small (suc j)) i

pub head_is : (bytes head rest : List ℕ) (n : ℕ) → head ≡ take 4 bytes → rest ≡ drop 4 bytes → length rest + 4 ≡ length bytes →
    ((i : ℕ) → get_or bytes i 0 < 256) → n ≡ from_be_bytes w32 head → bytes ≡ to_be_bytes w32 n ++ rest
head_is bytes head rest n e f long small is =
    let size : length (take 4 bytes) ≡ 4 = length-take 4 bytes ∙ omega arith in
    let front : to_be_bytes w32 n ≡ take 4 bytes =
    be_bytes_4 (take 4 bytes) n size (small_front 4 bytes small) (is ∙ ap (λ h. from_be_bytes w32 h) e) in
    sym (take-append-drop 4 bytes)
    ∙ ap (λ r. take 4 bytes ++ r) (sym f)
    ∙ ap (λ h. h ++ rest) (sym front)

-- a length, and at least so many bytes
pub frame_at : (bytes rest : List ℕ) (n : ℕ) → bytes ≡ to_be_bytes w32 n ++ rest → n ≤ 16777216 → n ≤ length rest → HasFrame bytes
frame_at bytes rest n e within long =
    let size : length (take n rest) ≡ n = length-take n rest ∙ omega arith in (
      take n rest,
      drop n rest,
      (
        e ∙ ap (λ r. to_be_bytes w32 n ++ r) (sym (take-append-drop n rest)) ∙ ap (λ k. to_be_bytes w32 k ++ (take n rest ++ drop n rest)) (sym size)
            ∙ sym (append_assoc (to_be_bytes w32 (length (take n rest))) (take n rest) (drop n rest)),
        omega arith,
      ),
    )

-- ---- one frame

-- equal bytes have equal lengths at the front
one_length : (n m : ℕ) (rest left : List ℕ) → n < 2 ^ 32 → m < 2 ^ 32 → to_be_bytes w32 n ++ rest ≡ to_be_bytes w32 m ++ left → n ≡ m
one_length n m rest left h i e =
    let heads : to_be_bytes w32 n ≡ to_be_bytes w32 m = ap (λ b. take 4 b) e in
    sym (from_be_bytes-to_be_bytes_4 n h) ∙ ap (λ b. from_be_bytes w32 b) heads ∙ from_be_bytes-to_be_bytes_4 m i

split_at : (m n rest left : List ℕ) → length m ≡ length n → m ++ rest ≡ n ++ left → (m ≡ n) × (rest ≡ left)
split_at m n rest left size e =
    let front : m ≡ n = sym (take-append_seam m rest) ∙ ap (λ b. take (length m) b) e ∙ ap (λ k. take k (n ++ left)) size ∙ take-append_seam n left in
    let back : rest ≡ left = sym (drop-append_seam m rest) ∙ ap (λ b. drop (length m) b) e ∙ ap (λ k. drop k (n ++ left)) size ∙ drop-append_seam n left in
    (front, back)

pub one_frame : (bytes m n rest left : List ℕ) → BeginsWithFrame bytes m rest → BeginsWithFrame bytes n left → (m ≡ n) × (rest ≡ left)
one_frame bytes m n rest left is was =
    let a = is.1 in
    let b = was.1 in
    let whole : framed m ++ rest ≡ framed n ++ left = sym is.0 ∙ was.0 in
    let flat : to_be_bytes w32 (length m) ++ (m ++ rest) ≡ to_be_bytes w32 (length n) ++ (n ++ left) =
    sym (append_assoc (to_be_bytes w32 (length m)) m rest) ∙ whole ∙ append_assoc (to_be_bytes w32 (length n)) n left in
    let size : length m ≡ length n = one_length (length m) (length n) (m ++ rest) (n ++ left) (omega arith) (omega arith) flat in
    split_at m n rest left size (ap (λ b. drop 4 b) flat)

-- ---- lists of frames

frames_bytes-append : (ms ns : List (List ℕ)) → frames_bytes (ms ++ ns) ≡ frames_bytes ms ++ frames_bytes ns
frames_bytes-append [] ns = refl
frames_bytes-append (m ∷ ms) ns =
    ap (λ b. framed m ++ b) (frames_bytes-append ms ns) ∙ sym (append_assoc (framed m) (frames_bytes ms) (frames_bytes ns))

pub given_one : (fed held m rest : List ℕ) (ms : List (List ℕ)) → IsGiven fed ms held → BeginsWithFrame held m rest → IsGiven fed (ms ++ m ∷ []) rest
given_one fed held m rest ms is next = (
  is.0
      ∙ ap (λ b. frames_bytes ms ++ b) (next.0 ∙ ap (λ b. b ++ rest) (sym (append-nil (framed m))))
      ∙ sym (append_assoc (frames_bytes ms) (framed m ++ []) rest)
      ∙ ap (λ b. b ++ rest) (sym (frames_bytes-append ms (m ∷ []))),
  All-append IsWithinLimit ms (m ∷ []) is.1 (All-cons IsWithinLimit m [] next.1 (All-nil IsWithinLimit)),
)

first_begins : (fed held m : List ℕ) (ms : List (List ℕ)) → IsGiven fed (m ∷ ms) held → BeginsWithFrame fed m (frames_bytes ms ++ held)
first_begins fed held m ms is = (is.0 ∙ append_assoc (framed m) (frames_bytes ms) held, All-head IsWithinLimit m ms is.1)

pub given_first : (fed held left : List ℕ) (ms ns : List (List ℕ)) → IsGiven fed ms held → IsGiven fed ns left → HasNoFrame left →
    (more : List (List ℕ)) × (ns ≡ ms ++ more)
given_first fed held left [] ns is was none = (ns, refl)
given_first fed held left (m ∷ ms) [] is was none =
    let first = first_begins fed held m ms is in
    absurd (none m (frames_bytes ms ++ held) (sym was.0 ∙ first.0, first.1))
given_first fed held left (m ∷ ms) (n ∷ ns) is was none =
    let first = first_begins fed held m ms is in
    let other = first_begins fed left n ns was in
    let same = one_frame fed m n (frames_bytes ms ++ held) (frames_bytes ns ++ left) first other in
    let rest : IsGiven (frames_bytes ns ++ left) ms held = (sym same.1, All-tail IsWithinLimit m ms is.1) in
    let rests : IsGiven (frames_bytes ns ++ left) ns left = (refl, All-tail IsWithinLimit n ns was.1) in
    let more = given_first (frames_bytes ns ++ left) held left ms ns rest rests none in
    (more.0, ap (λ x. x ∷ ns) (sym same.0) ∙ ap (λ xs. m ∷ xs) more.1)

pub given_all : (fed held left : List ℕ) (ms ns : List (List ℕ)) → IsGiven fed ms held → IsGiven fed ns left → HasNoFrame held → HasNoFrame left →
    (ms ≡ ns) × (held ≡ left)
given_all fed held left [] [] is was none nor = (refl, sym is.0 ∙ was.0)
given_all fed held left [] (n ∷ ns) is was none nor =
    let other = first_begins fed left n ns was in
    absurd (none n (frames_bytes ns ++ left) (sym is.0 ∙ other.0, other.1))
given_all fed held left (m ∷ ms) [] is was none nor =
    let first = first_begins fed held m ms is in
    absurd (nor m (frames_bytes ms ++ held) (sym was.0 ∙ first.0, first.1))
given_all fed held left (m ∷ ms) (n ∷ ns) is was none nor =
    let first = first_begins fed held m ms is in
    let other = first_begins fed left n ns was in
    let same = one_frame fed m n (frames_bytes ms ++ held) (frames_bytes ns ++ left) first other in
    let rest : IsGiven (frames_bytes ns ++ left) ms held = (sym same.1, All-tail IsWithinLimit m ms is.1) in
    let rests : IsGiven (frames_bytes ns ++ left) ns left = (refl, All-tail IsWithinLimit n ns was.1) in
    let all = given_all (frames_bytes ns ++ left) held left ms ns rest rests none nor in
    (ap (λ x. x ∷ ms) same.0 ∙ ap (λ xs. n ∷ xs) all.0, all.1)

pub begins_alike : (bytes m rest n left : List ℕ) → BeginsWithFrame bytes m rest → n ≡ m → left ≡ rest → BeginsWithFrame bytes n left
begins_alike bytes m rest n left is e f = (
  is.0 ∙ ap (λ b. framed b ++ rest) (sym e) ∙ ap (λ b. framed n ++ b) (sym f),
  let within = is.1 in omega (arith, ap length e),
)
