-- How many bytes a field has, and how a spelling grows at its front.
use Rattle.std.proofs.Common.{◌≡◌, ℕ, ◌+◌, ◌-◌, ◌*◌, ◌==◌, false, List, [], ◌∷◌, ◌++◌, append_assoc, append-nil, length, length-append, ℤ, refl, ap, sym, ◌∙◌, arith}
use Rattle.vs_wire.specs.Varint.{varint}
use Rattle.vs_wire.specs.Fields.{number, sized, field_bytes}
use Rattle.vs_proto.specs.Kinds.{if_packed, packed_bytes}
use Rattle.vs_proto.specs.Shapes.{Shape, Slot, slots_before, slots_bytes, spelling, values_bytes}

pub sized_field-len : (field : ℕ) (b : List ℕ) →
    length (field_bytes field (sized b)) ≡ length (varint (field * 8 + 2)) + length (varint (length b)) + length b
unfolding field_bytes
sized_field-len field b =
    length-append (varint (field * 8 + 2) ++ varint (length b)) b ∙ ap (λ n. n + length b) (length-append (varint (field * 8 + 2)) (varint (length b)))

pub number_before : (field n : ℕ) (after : List ℕ) → varint (field * 8) ++ (varint n ++ after) ≡ field_bytes field (number n) ++ after
unfolding field_bytes
number_before field n after = sym (append_assoc (varint (field * 8)) (varint n) after)

sized_before : (field : ℕ) (b after : List ℕ) →
    varint (field * 8 + 2) ++ (varint (length b) ++ (b ++ after)) ≡ field_bytes field (sized b) ++ after
unfolding field_bytes
sized_before field b after =
    sym (append_assoc (varint (field * 8 + 2)) (varint (length b)) (b ++ after)) ∙ sym (append_assoc (varint (field * 8 + 2) ++ varint (length b)) b after)

grown : (b after : List ℕ) (before : ℕ) → before ≡ length after → length (b ++ after) - before ≡ length b
grown b after before e = let size = length-append b after in omega arith

-- a head in front of what was written since there were only the bytes behind it
pub headed : (field : ℕ) (b after whole : List ℕ) (before : ℕ) → whole ≡ b ++ after → before ≡ length after →
    varint (field * 8 + 2) ++ (varint (length whole - before) ++ whole) ≡ field_bytes field (sized b) ++ after
headed field b after whole before e size =
    ap (λ w. varint (field * 8 + 2) ++ (varint (length w - before) ++ w)) e
    ∙ ap (λ n. varint (field * 8 + 2) ++ (varint n ++ (b ++ after))) (grown b after before size)
    ∙ sized_before field b after

-- a list that isn't empty is spelled as one field
pub packed_values : (field : ℕ) (zs : List ℤ) → false ≡ (length zs == 0) →
    values_bytes field (if_packed zs) ≡ field_bytes field (sized (packed_bytes zs))
packed_values field [] h = cc
packed_values field (z ∷ zs) h = append-nil (field_bytes field (sized (packed_bytes (z ∷ zs))))

before_slots : {M : Type 0} (slots : List (Slot M)) (m : M) (after : List ℕ) → slots_before slots m after ≡ slots_bytes slots m ++ after
before_slots [] m after = refl
before_slots (s ∷ ss) m after =
    ap (λ b. values_bytes s.field (s.spelled m) ++ b) (before_slots ss m after)
    ∙ sym (append_assoc (values_bytes s.field (s.spelled m)) (slots_bytes ss m) after)

pub spelling_before : {M : Type 0} (shape : Shape M) (m : M) (after : List ℕ) → slots_before shape.slots m after ≡ spelling shape m ++ after
unfolding spelling
spelling_before shape m after = before_slots shape.slots m after
