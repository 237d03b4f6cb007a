-- A message on the wire is a list of fields. A field is a tag, the number times 8 plus the kind, and then its value.
use Rattle.std.specs.Prelude.{◌≡◌, ℕ, zero, suc, ◌+◌, ◌*◌, ◌/◌, ◌%◌, ◌^◌, ◌<◌, nat_lt, ◌==◌, if◌then◌else◌, List, [], ◌∷◌, ◌++◌, length, take, drop, Option, Some, None, Result, Ok, Err}
use Rattle.vs_wire.specs.declared.refusal.Flaw.{Flaw}
use Rattle.vs_wire.specs.declared.refusal.Flaw.TheVariants as flaws
use Rattle.vs_wire.specs.declared.field.WireType.{WireType}
use Rattle.vs_wire.specs.declared.field.WireType.TheVariants as types
use Rattle.vs_wire.specs.Varint.{◌>>=◌, varint_in, varint}

-- a value, by wire type
pub data Value : Type 0 where
  number : ℕ → Value
  fixed64 : List ℕ → Value
  sized : List ℕ → Value
  fixed32 : List ℕ → Value

-- a field, and where its tag begins
pub record Placed : Type 0 where
  pub field : ℕ
  pub at : ℕ
  pub value : Value

-- ---- reading

-- n bytes
abbrev pub bytes_in : ℕ → List ℕ → Result (List ℕ) Flaw
bytes_in n bytes = if nat_lt (length bytes) n then Err flaws.Cut else Ok (take n bytes)

abbrev pub varint_value_in : List ℕ → Result (Value × ℕ) Flaw
varint_value_in bytes = varint_in bytes >>= λ n. Ok (number n.0, n.1)

abbrev pub fixed64_in : List ℕ → Result (Value × ℕ) Flaw
fixed64_in bytes = bytes_in 8 bytes >>= λ b. Ok (fixed64 b, 8)

abbrev pub fixed32_in : List ℕ → Result (Value × ℕ) Flaw
fixed32_in bytes = bytes_in 4 bytes >>= λ b. Ok (fixed32 b, 4)

-- a length, and that many bytes
abbrev pub sized_in : List ℕ → Result (Value × ℕ) Flaw
sized_in bytes = varint_in bytes >>= λ n. bytes_in n.0 (drop n.1 bytes) >>= λ b. Ok (sized b, n.1 + n.0)

-- the value of this type at the front, and how many bytes it takes
unfoldable pub value_in : WireType → List ℕ → Result (Value × ℕ) Flaw
value_in types.Varint bytes = varint_value_in bytes
value_in types.Fixed64 bytes = fixed64_in bytes
value_in types.Sized bytes = sized_in bytes
value_in types.Fixed32 bytes = fixed32_in bytes

abbrev pub wire_type_of : ℕ → Result WireType Flaw
wire_type_of kind =
    if kind == 0 then Ok types.Varint
    else (if kind == 1 then Ok types.Fixed64
    else (if kind == 2 then Ok types.Sized
    else (if kind == 5 then Ok types.Fixed32
    else Err (flaws.BadKind kind))))

-- the field's number and the type of its value, of which a tag below 2 ^ 32 is made
unfoldable pub tag_parts : ℕ → Result (ℕ × WireType) Flaw
tag_parts tag =
    if nat_lt tag (2 ^ 32) then (wire_type_of (tag % 8) >>= λ type. if tag / 8 == 0 then Err flaws.ZeroField else Ok (tag / 8, type))
    else Err flaws.Long

-- the parts of the tag at the front, and how many bytes it takes
unfoldable pub tag_in : List ℕ → Result (ℕ × WireType × ℕ) Flaw
tag_in bytes = varint_in bytes >>= λ tag. tag_parts tag.0 >>= λ parts. Ok (parts.0, parts.1, tag.1)

-- a field at the front: its number, its value, and how many bytes it takes. What is wrong with the tag comes before what
-- is wrong with the value.
unfoldable pub field_in : List ℕ → Result (ℕ × Value × ℕ) Flaw
field_in bytes =
    tag_in bytes >>= λ tag. value_in tag.1 (drop tag.2 bytes) >>= λ value. Ok (tag.0, value.0, tag.2 + value.1)

-- the fields of some bytes, and the first thing that is none, with its place
pub record Walk : Type 0 where
  pub fields : List Placed
  pub fault : Option (ℕ × Flaw)

abbrev pub nothing : Walk
nothing = record { fields = []; fault = None }

abbrev pub with_first : Placed → Walk → Walk
with_first f w = record { fields = f ∷ w.fields; fault = w.fault }

abbrev pub ends_at : ℕ → Flaw → Walk
ends_at at flaw = record { fields = []; fault = Some (at, flaw) }

-- what stands from a place on; each field takes at least one byte, so k is the number of bytes
unfoldable pub walk : ℕ → ℕ → List ℕ → Walk
walk zero at bytes = nothing
walk (suc k) at [] = nothing
walk (suc k) at (b ∷ bytes) = elim (field_in (b ∷ bytes)) [
  | Ok f ↦ with_first (record { field = f.0; at = at; value = f.1 }) (walk k (at + f.2) (drop f.2 (b ∷ bytes)))
  | Err flaw ↦ ends_at at flaw
]

abbrev pub fields_from : ℕ → List ℕ → Walk
fields_from at bytes = walk (length bytes) at bytes

abbrev pub fields_of : List ℕ → Walk
fields_of bytes = fields_from 0 bytes

-- these fields, and then what stands behind them
abbrev pub then_from : List Placed → Walk → Walk
then_from fields w = record { fields = fields ++ w.fields; fault = w.fault }

-- ---- writing

abbrev pub value_bytes : ℕ → Value → List ℕ
value_bytes field (number n) = varint (field * 8) ++ varint n
value_bytes field (fixed64 b) = varint (field * 8 + 1) ++ b
value_bytes field (sized b) = varint (field * 8 + 2) ++ varint (length b) ++ b
value_bytes field (fixed32 b) = varint (field * 8 + 5) ++ b

-- the one canonical spelling of a field
unfoldable pub field_bytes : ℕ → Value → List ℕ
field_bytes field value = value_bytes field value

-- a value that has a spelling
abbrev pub IsValue : Value → Type 0
IsValue (number n) = n < 2 ^ 64
IsValue (fixed64 b) = length b ≡ 8
IsValue (sized b) = length b < 2 ^ 64
IsValue (fixed32 b) = length b ≡ 4

-- a field that has one
abbrev pub IsField : ℕ × Value → Type 0
IsField f = (0 < f.0) × (f.0 < 2 ^ 29) × IsValue f.1

abbrev pub spelled : List (ℕ × Value) → List ℕ
spelled [] = []
spelled (f ∷ fs) = field_bytes f.0 f.1 ++ spelled fs

-- the same fields, each with its place
abbrev pub placed : ℕ → List (ℕ × Value) → List Placed
placed at [] = []
placed at (f ∷ fs) = record { field = f.0; at = at; value = f.1 } ∷ placed (at + length (field_bytes f.0 f.1)) fs
