-- Numbers on the wire: groups of seven bits, the low group first. The highest bit of a byte says that another follows.
use Rattle.std.specs.Prelude.{ℕ, zero, suc, ◌+◌, ◌-◌, ◌*◌, ◌/◌, ◌%◌, ◌^◌, nat_lt, if◌then◌else◌, List, [], ◌∷◌, Result, Ok, Err}
use Rattle.vs_wire.specs.declared.refusal.Flaw.{Flaw}
use Rattle.vs_wire.specs.declared.refusal.Flaw.TheVariants as flaws

infixl 10 ◌>>=◌
abbrev pub ◌>>=◌ : {A B E : Type 0} → Result A E → (A → Result B E) → Result B E
(Ok x) >>= f = f x
(Err e) >>= f = Err e

-- the number in at most k bytes at the front, and how many it takes
unfoldable pub number_in : ℕ → List ℕ → Result (ℕ × ℕ) Flaw
number_in zero bytes = Err flaws.Long
number_in (suc k) [] = Err flaws.Cut
number_in (suc k) (b ∷ bytes) = if nat_lt b 128 then Ok (b, 1) else (number_in k bytes >>= λ high. Ok (b - 128 + 128 * high.0, high.1 + 1))

-- the number in at most ten bytes, without the bits past the 64th
abbrev pub varint_in : List ℕ → Result (ℕ × ℕ) Flaw
varint_in bytes = number_in 10 bytes >>= λ found. Ok (found.0 % 2 ^ 64, found.1)

-- the shortest spelling, in at most k bytes
unfoldable pub spelled_in : ℕ → ℕ → List ℕ
spelled_in zero n = []
spelled_in (suc k) n = if nat_lt n 128 then n ∷ [] else (128 + n % 128) ∷ spelled_in k (n / 128)

-- the shortest spelling of a number below 2 ^ 64
abbrev pub varint : ℕ → List ℕ
varint n = spelled_in 10 n
