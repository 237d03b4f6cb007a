-- How the spelling of a number goes on, and that it is read again.
use Rattle.std.proofs.Common.{◌≡◌, ℕ, zero, suc, ◌+◌, ◌-◌, ◌*◌, ◌/◌, ◌%◌, ◌^◌, ◌<◌, ◌≤◌, ◌⊎◌, inl, inr, true, false, nat_lt, List, [], ◌∷◌, ◌++◌, append_assoc, length, add-one, All, Result, Ok, Err, refl, ap, sym, ◌∙◌, arith}
use Rattle.std.proofs.lemmas.Bool.{lt-ltb, le-ltb, ltb-true, ltb-false}
use Rattle.std.proofs.lemmas.List.Elements.{All-head, All-tail}
use Rattle.std.proofs.Math.Nat.{pow-succ', mod-eq_of_lt}
use Rattle.vs_wire.specs.declared.refusal.Flaw.{Flaw}
use Rattle.vs_wire.specs.Varint.{◌>>=◌, number_in, varint_in, spelled_in, varint}

pub below_or_not : (n m : ℕ) → (n < m) ⊎ (m ≤ n)
below_or_not n m = elim (nat_lt n m) as (λ t. nat_lt n m ≡ t → (n < m) ⊎ (m ≤ n)) [
  | true ↦ λ e. inl (ltb-true n m e)
  | false ↦ λ e. inr (ltb-false n m e)
] refl

high_part : (k n : ℕ) → n < 128 ^ suc k → n / 128 < 128 ^ k
high_part k n h = omega (arith, pow-succ' 128 k)

-- ---- the spelling, group by group

spelled_in-last : (k n : ℕ) → n < 128 → spelled_in (suc k) n ≡ n ∷ []
unfolding spelled_in
spelled_in-last k n h = rw lt-ltb refl

spelled_in-more : (k n : ℕ) → 128 ≤ n → spelled_in (suc k) n ≡ (128 + n % 128) ∷ spelled_in k (n / 128)
unfolding spelled_in
spelled_in-more k n h = rw le-ltb refl

-- room for one group more changes nothing
spelled_in-suc : (k n : ℕ) → n < 128 ^ suc k → spelled_in (suc k) n ≡ spelled_in (suc (suc k)) n
spelled_in-suc zero n h = let low : n < 128 = h in spelled_in-last zero n low ∙ sym (spelled_in-last 1 n low)
spelled_in-suc (suc k) n h = elim (below_or_not n 128) [
  | inl low ↦ spelled_in-last (suc k) n low ∙ sym (spelled_in-last (suc (suc k)) n low)
  | inr high ↦ spelled_in-more (suc k) n high
      ∙ ap (λ s. (128 + n % 128) ∷ s) (spelled_in-suc k (n / 128) (high_part (suc k) n h))
      ∙ sym (spelled_in-more (suc (suc k)) n high)
]

spelled_in-len : (k n : ℕ) → length (spelled_in k n) ≤ k
unfolding spelled_in
spelled_in-len zero n = omega arith
spelled_in-len (suc k) n = elim (below_or_not n 128) [
  | inl low ↦ rw spelled_in-last (omega arith)
  | inr high ↦ rw spelled_in-more (let rest = spelled_in-len k (n / 128) in omega arith)
]

pub varint-last : (n : ℕ) → n < 128 → varint n ≡ n ∷ []
varint-last n h = spelled_in-last 9 n h

pub varint-more : (n : ℕ) → 128 ≤ n → n < 2 ^ 64 → varint n ≡ (128 + n % 128) ∷ varint (n / 128)
varint-more n h fits = spelled_in-more 9 n h ∙ ap (λ s. (128 + n % 128) ∷ s) (spelled_in-suc 8 (n / 128) (omega arith))

pub varint-len : (n : ℕ) → n < 2 ^ 64 → length (varint n) ≤ 10
varint-len n h = spelled_in-len 10 n

-- ---- a spelling that grows by a group

pub appended : (base s out more new : List ℕ) → out ≡ base ++ s → new ≡ out ++ more → new ≡ base ++ (s ++ more)
appended base s out more new e f = f ∙ ap (λ t. t ++ more) e ∙ append_assoc base s more

pub spelled_on : (s : List ℕ) (n rest : ℕ) → 128 ≤ rest → rest < 2 ^ 64 → s ++ varint rest ≡ varint n →
    (s ++ (128 + rest % 128) ∷ []) ++ varint (rest / 128) ≡ varint n
spelled_on s n rest h fits e =
    append_assoc s ((128 + rest % 128) ∷ []) (varint (rest / 128)) ∙ ap (λ t. s ++ t) (sym (varint-more rest h fits)) ∙ e

pub spelled_whole : (base s out new : List ℕ) (n rest : ℕ) → rest < 128 → s ++ varint rest ≡ varint n → out ≡ base ++ s →
    new ≡ out ++ rest ∷ [] → new ≡ base ++ varint n
spelled_whole base s out new n rest h whole e f =
    appended base s out (rest ∷ []) new e f ∙ ap (λ t. base ++ (s ++ t)) (sym (varint-last rest h)) ∙ ap (λ t. base ++ t) whole

-- ---- the spelling is read again

pub number_in-last : (k b : ℕ) (bytes : List ℕ) → b < 128 → number_in (suc k) (b ∷ bytes) ≡ Ok (b, 1)
unfolding number_in
number_in-last k b bytes h = rw lt-ltb refl

pub number_in-more : (k b : ℕ) (bytes : List ℕ) → 128 ≤ b →
    number_in (suc k) (b ∷ bytes) ≡ (number_in k bytes >>= λ high. Ok (b - 128 + 128 * high.0, high.1 + 1))
unfolding number_in
number_in-more k b bytes h = rw le-ltb refl

abbrev pub found : ℕ → ℕ → Result (ℕ × ℕ) Flaw
found n taken = Ok (n, taken)

abbrev Read : ℕ → List ℕ → ℕ → ℕ → Type 0
Read k bytes n taken = number_in k bytes ≡ found n taken

pub alike : (n n' taken taken' : ℕ) → n ≡ n' → taken ≡ taken' → ◌≡◌ {A = ℕ × ℕ} (n, taken) (n', taken')
alike n n' taken taken' e f = cc

one_more : (k b : ℕ) (bytes : List ℕ) (n taken : ℕ) → 128 ≤ b → Read k bytes n taken →
    Read (suc k) (b ∷ bytes) (b - 128 + 128 * n) (taken + 1)
one_more k b bytes n taken h e =
    number_in-more k b bytes h ∙ ap (λ r. r >>= λ high. Ok (b - 128 + 128 * high.0, high.1 + 1)) e

number_in-spelled : (k n : ℕ) (after : List ℕ) → n < 128 ^ suc k →
    Read (suc k) (spelled_in (suc k) n ++ after) n (length (spelled_in (suc k) n))
number_in-spelled zero n after h = let low : n < 128 = h in rw spelled_in-last (number_in-last zero n after low)
number_in-spelled (suc k) n after h = elim (below_or_not n 128) [
  | inl low ↦ rw spelled_in-last (number_in-last (suc k) n after low)
  | inr high ↦
      let rest = one_more (suc k) (128 + n % 128) _ (n / 128) _ (omega arith) (number_in-spelled k (n / 128) after (high_part (suc k) n h)) in
      rw spelled_in-more (rest ∙ ap Ok (alike _ _ _ _ (omega arith) (omega arith)))
]

pub varint_in-varint : (n : ℕ) (after : List ℕ) → n < 2 ^ 64 → varint_in (varint n ++ after) ≡ Ok (n, length (varint n))
varint_in-varint n after h =
    ap (λ r. r >>= λ found. Ok (found.0 % 2 ^ 64, found.1)) (number_in-spelled 9 n after (omega arith))
    ∙ ap (λ m. Ok (m, length (varint n))) (mod-eq_of_lt h)

-- ---- no spelling is shorter

-- a number that was read from so many groups is below 128 to their number
abbrev FitsGroups : ℕ → ℕ → ℕ → Type 0
FitsGroups k n taken = (n < 128 ^ taken) × (0 < taken) × (taken ≤ k)

abbrev IsByte : ℕ → Type 0
IsByte b = b < 256

pub same_parts : (a b n taken : ℕ) → found a b ≡ found n taken → (a ≡ n) × (b ≡ taken)
same_parts a b n taken e =
    let pair : ◌≡◌ {A = ℕ × ℕ} (a, b) (n, taken) = cc in
    (ap (λ p. p.0) pair, ap (λ p. p.1) pair)

fits_one : (k b n taken : ℕ) → b < 128 → found b 1 ≡ found n taken → FitsGroups (suc k) n taken
fits_one k b n taken h e =
    let same = same_parts b 1 n taken e in
    let size : 128 ^ 1 ≡ 128 ^ taken = ap (λ t. 128 ^ t) same.1 in
    (omega (arith, same.0), omega (arith, same.1), omega (arith, same.1))

fits_more : (k b n m taken groups : ℕ) → b < 256 → FitsGroups k m groups → found (b - 128 + 128 * m) (groups + 1) ≡ found n taken →
    FitsGroups (suc k) n taken
fits_more k b n m taken groups byte h e =
    let same = same_parts (b - 128 + 128 * m) (groups + 1) n taken e in
    let size : 128 ^ taken ≡ 128 * 128 ^ groups =
    ap (λ t. 128 ^ t) (sym same.1) ∙ ap (λ t. 128 ^ t) (add-one groups) ∙ pow-succ' 128 groups in
    (omega (arith, h.0, same.0), omega (arith, same.1), omega (arith, h.2, same.1))

fits_groups : (k : ℕ) (bytes : List ℕ) (n taken : ℕ) → All IsByte bytes → Read k bytes n taken → FitsGroups k n taken
unfolding number_in
fits_groups zero bytes n taken small e = cc
fits_groups (suc k) [] n taken small e = cc
fits_groups (suc k) (b ∷ bytes) n taken small e = elim (below_or_not b 128) [
  | inl low ↦ fits_one k b n taken low (sym (number_in-last k b bytes low) ∙ e)
  | inr high ↦
      elim (number_in k bytes) as (λ r. number_in k bytes ≡ r → ((r >>= λ m. found (b - 128 + 128 * m.0) (m.1 + 1)) ≡ found n taken) → FitsGroups (suc k) n taken) [
        | Ok m ↦ λ was is. fits_more k b n m.0 taken m.1 (All-head IsByte b bytes small)
            (fits_groups k bytes m.0 m.1 (All-tail IsByte b bytes small) was) is
        | Err flaw ↦ λ was is. cc
      ] refl (sym (number_in-more k b bytes high) ∙ e)
]

spelled_in-short : (groups k n : ℕ) → n < 128 ^ suc groups → length (spelled_in k n) ≤ suc groups
unfolding spelled_in
spelled_in-short groups zero n h = omega arith
spelled_in-short zero (suc k) n h = let low : n < 128 = h in rw spelled_in-last (omega arith)
spelled_in-short (suc groups) (suc k) n h = elim (below_or_not n 128) [
  | inl low ↦ rw spelled_in-last (omega arith)
  | inr high ↦ rw spelled_in-more (let rest = spelled_in-short groups k (n / 128) (high_part (suc groups) n h) in omega arith)
]

short_as_read : (n m taken : ℕ) → FitsGroups 10 m taken → n ≤ m → length (varint n) ≤ taken
short_as_read n m zero h e = absurd (omega (arith, h.1))
short_as_read n m (suc groups) h e = spelled_in-short groups 10 n (omega (arith, h.0))

pub varint-shortest : (n taken : ℕ) (bytes : List ℕ) → All IsByte bytes → varint_in bytes ≡ found n taken → length (varint n) ≤ taken
varint-shortest n taken bytes small e =
    elim (number_in 10 bytes) as (λ r. number_in 10 bytes ≡ r → (r >>= λ m. found (m.0 % 2 ^ 64) m.1) ≡ found n taken → length (varint n) ≤ taken) [
      | Ok m ↦ λ was is.
          let same = same_parts (m.0 % 2 ^ 64) m.1 n taken is in
          let short = short_as_read n m.0 m.1 (fits_groups 10 bytes m.0 m.1 small was) (omega (arith, same.0)) in
          omega (arith, same.1)
      | Err flaw ↦ λ was is. cc
    ] refl e
