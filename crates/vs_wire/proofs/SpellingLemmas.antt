-- Fields that are spelled are read again, whatever follows.
use Rattle.std.proofs.Common.{refl, subst, ◌≡◌, ℕ, zero, suc, ◌+◌, ◌*◌, ◌/◌, ◌%◌, ◌^◌, ◌<◌, ◌==◌, false, if◌then◌else◌, List, [], ◌∷◌, ◌++◌, append_assoc, length, length-append, take, drop, All, Result, Ok, Err, ap, sym, ◌∙◌, arith}
use Rattle.std.proofs.lemmas.Bool.{lt-ltb, le-ltb}
use Rattle.std.proofs.lemmas.List.Elements.{All-head, All-tail}
use Rattle.std.proofs.Math.Dec.{eqb-suc-zero}
use Rattle.std.proofs.Math.Seq.{take-append_seam, drop-append_seam}
use Rattle.vs_wire.specs.declared.refusal.Flaw.{Flaw}
use Rattle.vs_wire.specs.declared.refusal.Flaw.TheVariants as flaws
use Rattle.vs_wire.specs.declared.field.WireType.{WireType}
use Rattle.vs_wire.specs.declared.field.WireType.TheVariants as types
use Rattle.vs_wire.specs.Varint.{◌>>=◌, varint}
use Rattle.vs_wire.specs.Fields.{Value, number, fixed64, sized, fixed32, Placed, with_first, then_from, bytes_in, wire_type_of, tag_parts, tag_in, value_in, field_in, fields_from, field_bytes, IsValue, IsField, spelled, placed}
use Rattle.vs_wire.proofs.VarintLemmas.{varint_in-varint}
use Rattle.vs_wire.proofs.FieldLemmas.{fields_from-next}

-- ---- a tag

abbrev tagged : ℕ → WireType → ℕ → Result (ℕ × WireType × ℕ) Flaw
tagged field type taken = Ok (field, type, taken)

abbrev numbered : ℕ → WireType → Result (ℕ × WireType) Flaw
numbered field type = Ok (field, type)

-- what the wire type makes of a tag of this number
abbrev typed : ℕ → Result WireType Flaw → Result (ℕ × WireType) Flaw
typed field read = read >>= λ type. if field == 0 then Err flaws.ZeroField else numbered field type

not_zero : (n : ℕ) → 0 < n → (n == 0) ≡ false
not_zero zero h = absurd (omega arith)
not_zero (suc n) h = eqb-suc-zero n

-- the tag of a field
abbrev IsTag : ℕ → ℕ → WireType → Type 0
IsTag tag field type = (tag < 2 ^ 32) × (0 < field) × (tag / 8 ≡ field) × (wire_type_of (tag % 8) ≡ Ok type)

is_tag : (field kind : ℕ) (type : WireType) → 0 < field → field < 2 ^ 29 → kind < 8 → wire_type_of kind ≡ Ok type → IsTag (field * 8 + kind) field type
is_tag field kind type low high few e =
    let same : kind ≡ (field * 8 + kind) % 8 = omega arith in
    (omega arith, low, omega arith, ap (λ k. wire_type_of k) (sym same) ∙ e)

tag_parts-tag : (tag field : ℕ) (type : WireType) → IsTag tag field type → tag_parts tag ≡ numbered field type
unfolding tag_parts
tag_parts-tag tag field type is =
    ap (λ b. if b then typed (tag / 8) (wire_type_of (tag % 8)) else Err flaws.Long) (lt-ltb tag (2 ^ 32) is.0)
    ∙ ap (λ r. typed (tag / 8) r) is.3
    ∙ ap (λ n. if n == 0 then Err flaws.ZeroField else numbered n type) is.2
    ∙ ap (λ b. if b then Err flaws.ZeroField else numbered field type) (not_zero field is.1)

tag_in-tag : (tag field : ℕ) (type : WireType) (after : List ℕ) → IsTag tag field type →
    tag_in (varint tag ++ after) ≡ tagged field type (length (varint tag))
unfolding tag_in
tag_in-tag tag field type after is =
    ap (λ r. r >>= λ t. tag_parts t.0 >>= λ parts. tagged parts.0 parts.1 t.1) (varint_in-varint tag after (omega (arith, is.0)))
    ∙ ap (λ r. r >>= λ parts. tagged parts.0 parts.1 (length (varint tag))) (tag_parts-tag tag field type is)

-- ---- bytes

abbrev valued : Value → ℕ → Result (Value × ℕ) Flaw
valued v taken = Ok (v, taken)

abbrev fielded : ℕ → Value → ℕ → Result (ℕ × Value × ℕ) Flaw
fielded field v taken = Ok (field, v, taken)

bytes_in-front : (b after : List ℕ) → bytes_in (length b) (b ++ after) ≡ Ok b
bytes_in-front b after =
    let size = length-append b after in
    ap (λ t. if t then Err flaws.Cut else Ok (take (length b) (b ++ after))) (le-ltb (length (b ++ after)) (length b) (omega arith))
    ∙ ap Ok (take-append_seam b after)

bytes_in-seam : (n : ℕ) (b after : List ℕ) → length b ≡ n → bytes_in n (b ++ after) ≡ Ok b
bytes_in-seam n b after h = ap (λ k. bytes_in k (b ++ after)) (sym h) ∙ bytes_in-front b after

-- ---- a field whose tag and value are read

abbrev after_value : ℕ → ℕ → Result (Value × ℕ) Flaw → Result (ℕ × Value × ℕ) Flaw
after_value field taken read = read >>= λ v. fielded field v.0 (taken + v.1)

abbrev after_tag : List ℕ → Result (ℕ × WireType × ℕ) Flaw → Result (ℕ × Value × ℕ) Flaw
after_tag bytes read = read >>= λ t. after_value t.0 t.2 (value_in t.1 (drop t.2 bytes))

-- s spells the value v, as a value of this type
abbrev Spells : WireType → Value → List ℕ → List ℕ → Type 0
Spells type v s after = value_in type (s ++ after) ≡ valued v (length s)

field_in-parts : (tag field : ℕ) (type : WireType) (v : Value) (s after : List ℕ) → IsTag tag field type →
    Spells type v s after → field_in ((varint tag ++ s) ++ after) ≡ fielded field v (length (varint tag ++ s))
unfolding field_in
field_in-parts tag field type v s after is e =
    let t = varint tag in
    ap field_in (append_assoc t s after)
    ∙ ap (λ r. after_tag (t ++ (s ++ after)) r) (tag_in-tag tag field type (s ++ after) is)
    ∙ ap (λ r. after_value field (length t) (value_in type r)) (drop-append_seam t (s ++ after))
    ∙ ap (λ r. after_value field (length t) r) e
    ∙ ap (λ n. fielded field v n) (sym (length-append t s))

-- ---- the values

number_spells : (n : ℕ) (after : List ℕ) → n < 2 ^ 64 → Spells types.Varint (number n) (varint n) after
unfolding value_in
number_spells n after h = ap (λ r. r >>= λ m. valued (number m.0) m.1) (varint_in-varint n after h)

fixed64_spells : (b after : List ℕ) → length b ≡ 8 → Spells types.Fixed64 (fixed64 b) b after
unfolding value_in
fixed64_spells b after h = ap (λ r. r >>= λ c. valued (fixed64 c) 8) (bytes_in-seam 8 b after h) ∙ ap (λ n. valued (fixed64 b) n) (sym h)

fixed32_spells : (b after : List ℕ) → length b ≡ 4 → Spells types.Fixed32 (fixed32 b) b after
unfolding value_in
fixed32_spells b after h = ap (λ r. r >>= λ c. valued (fixed32 c) 4) (bytes_in-seam 4 b after h) ∙ ap (λ n. valued (fixed32 b) n) (sym h)

sized_spells : (b after : List ℕ) → length b < 2 ^ 64 → Spells types.Sized (sized b) (varint (length b) ++ b) after
unfolding value_in
sized_spells b after h =
    let l = varint (length b) in
    let read : Result (ℕ × ℕ) Flaw → Result (Value × ℕ) Flaw =
    λ r. r >>= λ n. bytes_in n.0 (drop n.1 (l ++ (b ++ after))) >>= λ c. valued (sized c) (n.1 + n.0) in
    ap (λ r. value_in types.Sized r) (append_assoc l b after)
    ∙ ap read (varint_in-varint (length b) (b ++ after) h)
    ∙ ap (λ r. bytes_in (length b) r >>= λ c. valued (sized c) (length l + length b)) (drop-append_seam l (b ++ after))
    ∙ ap (λ r. r >>= λ c. valued (sized c) (length l + length b)) (bytes_in-front b after)
    ∙ ap (λ n. valued (sized b) n) (sym (length-append l b))

-- ---- fields

pub field_in-field_bytes : (field : ℕ) (v : Value) (after : List ℕ) → 0 < field → field < 2 ^ 29 → IsValue v →
    field_in (field_bytes field v ++ after) ≡ fielded field v (length (field_bytes field v))
unfolding field_bytes
field_in-field_bytes field (number n) after low high is =
    let first : field * 8 + 0 ≡ field * 8 = omega arith in
    let tag = subst (λ (t : ℕ). IsTag t field types.Varint) first (is_tag field 0 types.Varint low high (omega arith) refl) in
    field_in-parts (field * 8) field types.Varint (number n) (varint n) after tag (number_spells n after is)
field_in-field_bytes field (fixed64 b) after low high is =
    field_in-parts (field * 8 + 1) field types.Fixed64 (fixed64 b) b after (is_tag field 1 types.Fixed64 low high (omega arith) refl) (fixed64_spells b after is)
field_in-field_bytes field (sized b) after low high is =
    let whole = append_assoc (varint (field * 8 + 2)) (varint (length b)) b in
    let tag = is_tag field 2 types.Sized low high (omega arith) refl in
    ap (λ s. field_in (s ++ after)) whole
    ∙ field_in-parts (field * 8 + 2) field types.Sized (sized b) (varint (length b) ++ b) after tag (sized_spells b after is)
    ∙ ap (λ s. fielded field (sized b) (length s)) (sym whole)
field_in-field_bytes field (fixed32 b) after low high is =
    field_in-parts (field * 8 + 5) field types.Fixed32 (fixed32 b) b after (is_tag field 5 types.Fixed32 low high (omega arith) refl) (fixed32_spells b after is)

pub fields_from-spelled : (at : ℕ) (fs : List (ℕ × Value)) (after : List ℕ) → All IsField fs →
    fields_from at (spelled fs ++ after) ≡ then_from (placed at fs) (fields_from (at + length (spelled fs)) after)
fields_from-spelled at [] after all = ap (λ n. fields_from n after) (omega arith)
fields_from-spelled at (f ∷ fs) after all =
    let s = field_bytes f.0 f.1 in
    let first = All-head IsField f fs all in
    let p : Placed = record { field = f.0; at = at; value = f.1 } in
    let place : at + length s + length (spelled fs) ≡ at + length (s ++ spelled fs) = omega (arith, length-append s (spelled fs)) in
    ap (λ bytes. fields_from at bytes) (append_assoc s (spelled fs) after)
    ∙ fields_from-next at (s ++ (spelled fs ++ after)) (spelled fs ++ after) (f.0, f.1, length s)
    (field_in-field_bytes f.0 f.1 (spelled fs ++ after) first.0 first.1 first.2) (sym (drop-append_seam s (spelled fs ++ after)))
    ∙ ap (λ w. with_first p w) (fields_from-spelled (at + length s) fs after (All-tail IsField f fs all))
    ∙ ap (λ n. then_from (placed at (f ∷ fs)) (fields_from n after)) place
