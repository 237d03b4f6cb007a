-- What stands behind a backslash in a string: `\"`, `\'`, `\\`, `\n`, `\r`, `\t`, `\x` and two hexadecimal digits, or one to three octal digits.
use Rattle.std.specs.Prelude.{ℕ, ◌+◌, ◌-◌, ◌*◌, ◌≤◌, Bool, true, false, ◌&&◌, ◌||◌, ◌==◌, nat_le, List, [], ◌∷◌, Option, Some, None}
use Rattle.vs_base.specs.Numbers.{is_digit}
use Rattle.vs_journal.specs.declared.escape.Escape.{Escape}
use Rattle.vs_journal.specs.declared.escape.Escape.TheVariants.{Stands, Unknown, Cut}

-- the byte that one byte stands for
abbrev pub simple_escape : ℕ → Option ℕ
simple_escape c =
    elim (c == 0x22 || (c == 0x27 || c == 0x5C)) [
      | true ↦ Some c
      | false ↦
          elim (c == 0x6E) [
            | true ↦ Some 0x0A
            | false ↦
                elim (c == 0x72) [
                  | true ↦ Some 0x0D
                  | false ↦
                      elim (c == 0x74) [ true ↦ Some 0x09 | false ↦ None ]
                ]
          ]
    ]

abbrev pub hex_value : ℕ → Option ℕ
hex_value c =
    elim (is_digit c) [
      | true ↦ Some (c - 0x30)
      | false ↦
          elim (nat_le 0x41 c && nat_le c 0x46) [
            | true ↦ Some (c - 0x41 + 10)
            | false ↦
                elim (nat_le 0x61 c && nat_le c 0x66) [ true ↦ Some (c - 0x61 + 10) | false ↦ None ]
          ]
    ]

abbrev pub hex_byte : ℕ → Option ℕ → Escape
hex_byte high None = Unknown
hex_byte high (Some low) = Stands (16 * high + low) 3

abbrev pub hex_second : Option ℕ → List ℕ → Escape
hex_second None text = Unknown
hex_second (Some high) [] = Cut
hex_second (Some high) (c ∷ cs) = hex_byte high (hex_value c)

abbrev pub hex_escape : List ℕ → Escape
hex_escape [] = Cut
hex_escape (c ∷ cs) = hex_second (hex_value c) cs

abbrev pub is_octal : ℕ → Bool
is_octal c = nat_le 0x30 c && nat_le c 0x37

-- digits of this worth are a byte where it is at most 255
abbrev pub octal_byte : ℕ → ℕ → Escape
octal_byte value width = elim (nat_le value 255) [ true ↦ Stands value width | false ↦ Unknown ]

-- a second digit, without a third
abbrev pub octal_pair : ℕ → ℕ → Escape
octal_pair a b = elim (is_octal b) [ true ↦ octal_byte (8 * (a - 0x30) + (b - 0x30)) 2 | false ↦ octal_byte (a - 0x30) 1 ]

abbrev pub octal_escape : ℕ → List ℕ → Escape
octal_escape a [] = octal_byte (a - 0x30) 1
octal_escape a (b ∷ []) = octal_pair a b
octal_escape a (b ∷ c ∷ cs) =
    elim (is_octal b && is_octal c) [
      | true ↦ octal_byte (64 * (a - 0x30) + (8 * (b - 0x30) + (c - 0x30))) 3
      | false ↦ octal_pair a b
    ]

abbrev pub escape_by : Option ℕ → ℕ → List ℕ → Escape
escape_by (Some value) c cs = Stands value 1
escape_by None c cs =
    elim (c == 0x78) [
      | true ↦ hex_escape cs
      | false ↦
          elim (is_octal c) [ true ↦ octal_escape c cs | false ↦ Unknown ]
    ]

abbrev pub escape_at : List ℕ → Escape
escape_at [] = Cut
escape_at (c ∷ cs) = escape_by (simple_escape c) c cs

-- an escape is within the text
abbrev pub IsWide : ℕ → Escape → Type 0
IsWide size (Stands value width) = (1 ≤ width) × (width ≤ size)
IsWide size Unknown = Unit {0}
IsWide size Cut = Unit {0}
