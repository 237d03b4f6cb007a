-- A number that is read group by group, from the low one on.
use Rattle.std.proofs.Common.{lit<, ◌≡◌, ℕ, zero, suc, ◌+◌, ◌-◌, ◌*◌, ◌%◌, ◌^◌, ◌<◌, ◌≤◌, nat_lt, if◌then◌else◌, List, [], ◌∷◌, length, drop, get_or, inl, inr, Result, Ok, Err, refl, ap, sym, subst, ◌∙◌, arith, add-one, drop-cons}
use Rattle.std.proofs.lemmas.Bool.{lt-ltb, le-ltb}
use Rattle.std.proofs.lemmas.List.{drop_all}
use Rattle.std.proofs.Math.Nat.{pow-suc, pow-le-pow_right, mul-le-mul_right, mod-eq_of_lt}
use Rattle.vs_wire.specs.declared.refusal.Flaw.{Flaw}
use Rattle.vs_wire.specs.declared.refusal.Flaw.TheVariants as flaws
use Rattle.vs_wire.specs.Varint.{◌>>=◌, number_in, varint_in}
use Rattle.vs_wire.proofs.VarintLemmas.{found, alike, below_or_not, number_in-last, number_in-more}

-- what the groups from the i-th on make of the number, where those before it give low
abbrev pub read_on : ℕ → ℕ → ℕ → Result (ℕ × ℕ) Flaw → Result (ℕ × ℕ) Flaw
read_on low weight i rest = rest >>= λ high. found (low + weight * high.0) (i + high.1)

-- the first i groups give low, and there are more
pub record IsReadTo (bytes : List ℕ) (i low weight : ℕ) : Type 0 where
  pub left : ℕ
  pub count : left + i ≡ 10
  pub few : i ≤ 9
  pub size : weight ≡ 128 ^ i
  pub below : low < weight
  pub same : number_in 10 bytes ≡ read_on low weight i (number_in left (drop i bytes))

pub weight_fits : (i weight : ℕ) → weight ≡ 128 ^ i → i ≤ 8 → weight ≤ 2 ^ 56
weight_fits i weight e h =
    let least : 128 ^ i ≤ 128 ^ 8 = pow-le-pow_right (lit< tt) h in
    omega arith

pub weight_full : (low weight : ℕ) → weight ≡ 128 ^ 9 → low < weight → low < 2 ^ 63
weight_full low weight e h = omega arith

pub group_fits : (group weight : ℕ) → group < 128 → group * weight ≤ 127 * weight
group_fits group weight h = mul-le-mul_right weight (omega arith)

read_on-start : (r : Result (ℕ × ℕ) Flaw) → r ≡ read_on 0 1 0 r
read_on-start (Ok m) = ap Ok (alike _ _ _ _ (omega arith) (omega arith))
read_on-start (Err flaw) = refl

pub is_read-start : (bytes : List ℕ) → IsReadTo bytes 0 0 1
is_read-start bytes = record {
  left = 10;
  count = refl;
  few = omega arith;
  size = refl;
  below = omega arith;
  same = read_on-start (number_in 10 bytes);
}

read_on-more : (low weight i b : ℕ) (r : Result (ℕ × ℕ) Flaw) →
    read_on low weight i (r >>= λ high. Ok (b - 128 + 128 * high.0, high.1 + 1)) ≡ read_on (low + (b - 128) * weight) (weight * 128) (i + 1) r
read_on-more low weight i b (Ok m) = ap Ok (alike _ _ _ _ (omega arith) (omega arith))
read_on-more low weight i b (Err flaw) = refl

-- the group at i, and those behind it
same_at : (bytes : List ℕ) (i low weight left : ℕ) → i < length bytes →
    number_in 10 bytes ≡ read_on low weight i (number_in left (drop i bytes)) →
    number_in 10 bytes ≡ read_on low weight i (number_in left (get_or bytes i 0 ∷ drop (i + 1) bytes))
same_at bytes i low weight left h e =
    e ∙ ap (λ r. read_on low weight i (number_in left r)) (drop-cons bytes i 0 h ∙ ap (λ k. get_or bytes i 0 ∷ drop k bytes) (sym (add-one i)))

more_at : (bytes rest : List ℕ) (i b low weight left : ℕ) → 128 ≤ b →
    number_in 10 bytes ≡ read_on low weight i (number_in (suc left) (b ∷ rest)) →
    number_in 10 bytes ≡ read_on (low + (b - 128) * weight) (weight * 128) (i + 1) (number_in left rest)
more_at bytes rest i b low weight left h e =
    e ∙ ap (λ r. read_on low weight i r) (number_in-more left b rest h) ∙ read_on-more low weight i b (number_in left rest)

last_at : (bytes rest : List ℕ) (i b low weight left : ℕ) → b < 128 →
    number_in 10 bytes ≡ read_on low weight i (number_in (suc left) (b ∷ rest)) →
    number_in 10 bytes ≡ found (low + weight * b) (i + 1)
last_at bytes rest i b low weight left h e = e ∙ ap (λ r. read_on low weight i r) (number_in-last left b rest h)

pub is_read-more : (bytes : List ℕ) (i low weight : ℕ) → IsReadTo bytes i low weight → i ≤ 8 → i < length bytes →
    128 ≤ get_or bytes i 0 → get_or bytes i 0 < 256 →
    IsReadTo bytes (i + 1) (low + (get_or bytes i 0 - 128) * weight) (weight * 128)
is_read-more bytes i low weight known few inside high byte = go known.left known.count known.same where
  go : (left : ℕ) → left + i ≡ 10 → number_in 10 bytes ≡ read_on low weight i (number_in left (drop i bytes)) →
      IsReadTo bytes (i + 1) (low + (get_or bytes i 0 - 128) * weight) (weight * 128)
  go zero count same = absurd (omega arith)
  go (suc left) count same = record {
    left = left;
    count = omega arith;
    few = omega arith;
    size = ap (λ w. w * 128) known.size ∙ sym (pow-suc 128 i) ∙ ap (λ k. 128 ^ k) (sym (add-one i));
    below = (let most = group_fits (get_or bytes i 0 - 128) weight (omega arith) in let under = known.below in omega arith);
    same = more_at bytes (drop (i + 1) bytes) i (get_or bytes i 0) low weight left high (same_at bytes i low weight (suc left) inside same);
  }

whole_number : (n taken : ℕ) → n < 2 ^ 64 → found (n % 2 ^ 64) taken ≡ found n taken
whole_number n taken h = ap (λ m. found m taken) (mod-eq_of_lt h)

pub is_read-last : (bytes : List ℕ) (i low weight : ℕ) → IsReadTo bytes i low weight → i ≤ 8 → i < length bytes →
    get_or bytes i 0 < 128 → found (low + get_or bytes i 0 * weight) (i + 1) ≡ varint_in bytes
is_read-last bytes i low weight known few inside small = go known.left known.count known.same where
  go : (left : ℕ) → left + i ≡ 10 → number_in 10 bytes ≡ read_on low weight i (number_in left (drop i bytes)) →
      found (low + get_or bytes i 0 * weight) (i + 1) ≡ varint_in bytes
  go zero count same = absurd (omega arith)
  go (suc left) count same =
      let read = last_at bytes (drop (i + 1) bytes) i (get_or bytes i 0) low weight left small (same_at bytes i low weight (suc left) inside same) in
      let most = group_fits (get_or bytes i 0) weight small in
      let fits = weight_fits i weight known.size few in
      let under = known.below in
      sym (ap (λ r. r >>= λ m. found (m.0 % 2 ^ 64) m.1) read
      ∙ ap (λ n. found (n % 2 ^ 64) (i + 1)) (omega arith)
      ∙ whole_number (low + get_or bytes i 0 * weight) (i + 1) (omega arith))

pub is_read-cut : (bytes : List ℕ) (i low weight : ℕ) → IsReadTo bytes i low weight → length bytes ≤ i → Err flaws.Cut ≡ varint_in bytes
unfolding number_in
is_read-cut bytes i low weight known past = go known.left known.count known.same where
  go : (left : ℕ) → left + i ≡ 10 → number_in 10 bytes ≡ read_on low weight i (number_in left (drop i bytes)) → Err flaws.Cut ≡ varint_in bytes
  go zero count same = absurd (omega arith)
  go (suc left) count same =
      let none : drop i bytes ≡ [] = drop_all i bytes past in
      let read : number_in 10 bytes ≡ Err flaws.Cut = same ∙ ap (λ r. read_on low weight i (number_in (suc left) r)) none in
      sym (ap (λ r. r >>= λ m. found (m.0 % 2 ^ 64) m.1) read)

tenth_long : (low b : ℕ) (bytes rest : List ℕ) → 128 ≤ b → number_in 10 bytes ≡ read_on low (128 ^ 9) 9 (number_in 1 (b ∷ rest)) →
    number_in 10 bytes ≡ Err flaws.Long
unfolding number_in
tenth_long low b bytes rest h e = e ∙ ap (λ r. read_on low (128 ^ 9) 9 r) (number_in-more 0 b rest h)

top_bit : (low b : ℕ) → low < 2 ^ 63 → (low + 2 ^ 63 * b) % 2 ^ 64 ≡ low + 2 ^ 63 * (b % 2)
top_bit low b h = omega arith

tenth_at : (low b : ℕ) (bytes rest : List ℕ) → low < 2 ^ 63 → number_in 10 bytes ≡ read_on low (128 ^ 9) 9 (number_in 1 (b ∷ rest)) →
    (if nat_lt b 128 then found (low + 2 ^ 63 * (b % 2)) 10 else Err flaws.Long) ≡ varint_in bytes
tenth_at low b bytes rest h e = elim (below_or_not b 128) [
  | inl small ↦ rw lt-ltb (sym (ap (λ r. r >>= λ m. found (m.0 % 2 ^ 64) m.1) (last_at bytes rest 9 b low (128 ^ 9) 0 small e) ∙ ap (λ n. found n 10) (top_bit low b h)))
  | inr large ↦ rw le-ltb (sym (ap (λ r. r >>= λ m. found (m.0 % 2 ^ 64) m.1) (tenth_long low b bytes rest large e)))
]

at_tenth : (bytes : List ℕ) (low weight : ℕ) → IsReadTo bytes 9 low weight → 9 < length bytes →
    (if nat_lt (get_or bytes 9 0) 128 then found (low + 2 ^ 63 * (get_or bytes 9 0 % 2)) 10 else Err flaws.Long) ≡ varint_in bytes
at_tenth bytes low weight known inside =
    let one : known.left ≡ 1 = omega (arith, known.count) in
    tenth_at low (get_or bytes 9 0) bytes (drop 10 bytes) (weight_full low weight known.size known.below)
    (same_at bytes 9 low weight known.left inside known.same
    ∙ ap (λ k. read_on low weight 9 (number_in k (get_or bytes 9 0 ∷ drop 10 bytes))) one
    ∙ ap (λ w. read_on low w 9 (number_in 1 (get_or bytes 9 0 ∷ drop 10 bytes))) known.size)

pub is_read-tenth : (bytes : List ℕ) (i low weight : ℕ) → IsReadTo bytes i low weight → i < length bytes → i ≡ 9 →
    (if nat_lt (get_or bytes i 0) 128 then found (low + 2 ^ 63 * (get_or bytes i 0 % 2)) 10 else Err flaws.Long) ≡ varint_in bytes
is_read-tenth bytes i low weight known inside e =
    let AtGroup : ℕ → Type 0 = λ j. IsReadTo bytes j low weight → j < length bytes →
    (if nat_lt (get_or bytes j 0) 128 then found (low + 2 ^ 63 * (get_or bytes j 0 % 2)) 10 else Err flaws.Long) ≡ varint_in bytes in
    subst AtGroup (sym e) (at_tenth bytes low weight) known inside
