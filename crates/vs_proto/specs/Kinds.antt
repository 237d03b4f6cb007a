-- What a field can hold: its default, the values that spell it, and what one more value on the wire makes of it.
use Rattle.std.specs.Prelude.{ℕ, zero, suc, ◌+◌, ◌*◌, ◌/◌, ◌%◌, ◌^◌, nat_lt, ◌==◌, if◌then◌else◌, Bool, true, false, not, ◌||◌, List, [], ◌∷◌, ◌++◌, length, drop, map, Result, Ok, Err, ℤ, pos, negsuc}
use Rattle.std.specs.List.{list_all, flat_map}
use Rattle.std.specs.Str.{is_utf8}
use Rattle.std.specs.Int.{w32, w64, cast_signed, cast_unsigned}
use Rattle.vs_wire.specs.Varint.{◌>>=◌, varint_in, varint}
use Rattle.vs_wire.specs.Fields.{Value, number, fixed64, sized, fixed32}
use Rattle.vs_wire.specs.Seen.{refusal}
use Rattle.vs_proto.specs.declared.refusal.Fault.{Fault}
use Rattle.vs_proto.specs.declared.refusal.Fault.TheVariants.{Wire, NotUtf8}

pub record Kind (A : Type 0) : Type 0 where
  -- the default
  pub empty : A
  -- the values that spell it, in order: none for the default
  pub spelled : A → List Value
  -- what one more value makes of it; one of another wire type is passed over
  pub taken : A → Value → Result A Fault
  -- it is in the range of its type, and text where that is asked
  pub fits : A → Bool

-- ---- texts and bytes

-- Read strictly, a text is UTF-8. Without that rule any bytes are.
abbrev pub is_text : Bool → List ℕ → Bool
is_text strict bytes = not strict || is_utf8 bytes

abbrev pub if_any : List ℕ → List Value
if_any [] = []
if_any (b ∷ bs) = sized (b ∷ bs) ∷ []

-- the last one counts
abbrev pub take_text : Bool → List ℕ → Value → Result (List ℕ) Fault
take_text strict old (sized b) = if is_text strict b then Ok b else Err NotUtf8
take_text strict old (number n) = Ok old
take_text strict old (fixed64 b) = Ok old
take_text strict old (fixed32 b) = Ok old

abbrev pub text : Bool → Kind (List ℕ)
text strict = record { empty = []; spelled = if_any; taken = take_text strict; fits = is_text strict }

abbrev pub take_bytes : List ℕ → Value → Result (List ℕ) Fault
take_bytes old (sized b) = Ok b
take_bytes old (number n) = Ok old
take_bytes old (fixed64 b) = Ok old
take_bytes old (fixed32 b) = Ok old

abbrev pub bytes : Kind (List ℕ)
bytes = record { empty = []; spelled = if_any; taken = take_bytes; fits = λ b. true }

-- texts in a row: each one is one more
abbrev pub take_texts : Bool → List (List ℕ) → Value → Result (List (List ℕ)) Fault
take_texts strict old (sized b) = if is_text strict b then Ok (old ++ b ∷ []) else Err NotUtf8
take_texts strict old (number n) = Ok old
take_texts strict old (fixed64 b) = Ok old
take_texts strict old (fixed32 b) = Ok old

abbrev pub texts : Bool → Kind (List (List ℕ))
texts strict = record { empty = []; spelled = map sized; taken = take_texts strict; fits = list_all (is_text strict) }

-- ---- numbers

abbrev pub if_some : ℕ → List Value
if_some n = if n == 0 then [] else number n ∷ []

-- a number that stands for a value of another type; the last one counts
abbrev pub take_number : {A : Type 0} → (ℕ → A) → A → Value → Result A Fault
take_number from old (number n) = Ok (from n)
take_number from old (sized b) = Ok old
take_number from old (fixed64 b) = Ok old
take_number from old (fixed32 b) = Ok old

abbrev pub numeric : {A : Type 0} → (A → ℕ) → (ℕ → A) → (A → Bool) → Kind A
numeric to from fits = record { empty = from 0; spelled = λ x. if_some (to x); taken = take_number from; fits = fits }

abbrev pub uint64 : Kind ℕ
uint64 = numeric (λ n. n) (λ n. n) (λ n. nat_lt n (2 ^ 64))

-- at least -half, and below half
abbrev pub fits_signed : ℕ → ℤ → Bool
fits_signed half (pos n) = nat_lt n half
fits_signed half (negsuc n) = nat_lt n half

-- a number by the pattern of its 64 bits
abbrev pub int64 : Kind ℤ
int64 = numeric (cast_unsigned w64) (cast_signed w64) (fits_signed (2 ^ 63))

-- read as the low 32 bits, written like the int64 of equal value
abbrev pub enumeration : Kind ℤ
enumeration = numeric (cast_unsigned w64) (λ n. cast_signed w32 (n % 2 ^ 32)) (fits_signed (2 ^ 31))

abbrev pub from_flag : Bool → ℕ
from_flag true = 1
from_flag false = 0

-- each number but 0 is true
abbrev pub flag : Kind Bool
flag = numeric from_flag (λ n. not (n == 0)) (λ b. true)

-- ---- lists of signed numbers, packed when written

-- 0, -1, 1, -2, 2 and so on are 0, 1, 2, 3, 4
abbrev pub zigzag : ℤ → ℕ
zigzag (pos n) = 2 * n
zigzag (negsuc n) = 2 * n + 1

abbrev pub unzigzag : ℕ → ℤ
unzigzag n = if n % 2 == 0 then pos (n / 2) else negsuc (n / 2)

-- the numbers of a packed list from a place on; each takes at least one byte, so k is the number of bytes
unfoldable pub numbers_in : ℕ → ℕ → List ℕ → Result (List ℕ) Fault
numbers_in zero at bs = Ok []
numbers_in (suc k) at [] = Ok []
numbers_in (suc k) at (b ∷ bs) = elim (varint_in (b ∷ bs)) [
  | Ok n ↦ numbers_in k (at + n.1) (drop n.1 (b ∷ bs)) >>= λ ns. Ok (n.0 ∷ ns)
  | Err flaw ↦ Err (Wire (refusal at flaw))
]

abbrev pub numbers_from : ℕ → List ℕ → Result (List ℕ) Fault
numbers_from at b = numbers_in (length b) at b

abbrev pub packed_bytes : List ℤ → List ℕ
packed_bytes zs = flat_map (λ z. varint (zigzag z)) zs

abbrev pub if_packed : List ℤ → List Value
if_packed [] = []
if_packed (z ∷ zs) = sized (packed_bytes (z ∷ zs)) ∷ []

abbrev pub with_numbers : List ℤ → Result (List ℕ) Fault → Result (List ℤ) Fault
with_numbers old read = read >>= λ ns. Ok (old ++ map unzigzag ns)

-- packed or one by one, they are appended
abbrev pub take_packed : List ℤ → Value → Result (List ℤ) Fault
take_packed old (sized b) = with_numbers old (numbers_from 0 b)
take_packed old (number n) = Ok (old ++ unzigzag n ∷ [])
take_packed old (fixed64 b) = Ok old
take_packed old (fixed32 b) = Ok old

abbrev pub sint64s : Kind (List ℤ)
sint64s = record { empty = []; spelled = if_packed; taken = take_packed; fits = list_all (fits_signed (2 ^ 63)) }
