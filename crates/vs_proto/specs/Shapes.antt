-- The shape of a message: a slot for each field, which is its number, its kind, and where it stands in the value.
use Rattle.std.specs.Prelude.{◌≡◌, ℕ, ◌<◌, ◌^◌, nat_lt, ◌==◌, if◌then◌else◌, Bool, true, ◌&&◌, List, [], ◌∷◌, ◌++◌, length, map, Option, Some, None, unwrap_or, Result, Ok, Err}
use Rattle.std.specs.List.{list_all, flat_map}
use Rattle.vs_wire.specs.Varint.{◌>>=◌}
use Rattle.vs_wire.specs.declared.refusal.Flaw.{Flaw}
use Rattle.vs_wire.specs.declared.refusal.WireRefusal.TheVariants as refusals
use Rattle.vs_wire.specs.Fields.{Value, number, fixed64, sized, fixed32, Placed, Walk, fields_of, field_bytes}
use Rattle.vs_wire.specs.Seen.{refusal}
use Rattle.vs_proto.specs.declared.refusal.Fault.{Fault}
use Rattle.vs_proto.specs.declared.refusal.Fault.TheVariants.{Wire}
use Rattle.vs_proto.specs.Kinds.{Kind}

-- how a part of a value is read off and put in
pub record Lens (M A : Type 0) : Type 0 where
  pub get : M → A
  pub put : M → A → M

abbrev pub lens : {M A : Type 0} → (M → A) → (M → A → M) → Lens M A
lens get put = record { get = get; put = put }

pub record Slot (M : Type 0) : Type 0 where
  pub field : ℕ
  pub spelled : M → List Value
  pub taken : M → Value → Result M Fault
  pub fits : M → Bool
  -- the value with the default here, and with what another has here
  pub cleared : M → M
  pub copied : M → M → M

abbrev pub slot : {M A : Type 0} → ℕ → Kind A → Lens M A → Slot M
slot n kind part = record {
  field = n;
  spelled = λ m. kind.spelled (part.get m);
  taken = λ m v. kind.taken (part.get m) v >>= λ a. Ok (part.put m a);
  fits = λ m. kind.fits (part.get m);
  cleared = λ m. part.put m kind.empty;
  copied = λ from m. part.put m (part.get from);
}

-- the numbers are above this one, ascend, and are below 2 ^ 29
abbrev pub ascend : {M : Type 0} → ℕ → List (Slot M) → Bool
ascend low [] = true
ascend low (s ∷ ss) = nat_lt low s.field && (nat_lt s.field (2 ^ 29) && ascend s.field ss)

-- A message is filled slot by slot with what another has there. These are the states on the way, each with the default put
-- where the next slot is.
abbrev pub cleared_states : {M : Type 0} → List (Slot M) → (M → M) → List (M → M)
cleared_states [] state = state ∷ []
cleared_states (s ∷ ss) state = (λ m. s.cleared (state m)) ∷ cleared_states ss (λ m. s.copied m (state m))

-- The same states as they are, and at the end the other message.
abbrev pub states : {M : Type 0} → List (Slot M) → (M → M) → List (M → M)
states [] state = (λ m. m) ∷ []
states (s ∷ ss) state = state ∷ states ss (λ m. s.copied m (state m))

pub record Shape (M : Type 0) : Type 0 where
  pub slots : List (Slot M)
  -- the message without fields
  pub empty : M
  -- a rule over the whole message, asked when all of it is read
  pub is_whole : M → Bool
  -- the numbers of the slots ascend
  pub in_order : ascend 0 slots ≡ true
  -- each slot is empty when its turn comes, and all slots together make the message
  pub complete : cleared_states slots (λ m. empty) ≡ states slots (λ m. empty)

-- a message without a rule over the whole: what it is without fields, and its slots
abbrev pub plain : {M : Type 0} (empty : M) (slots : List (Slot M)) → ascend 0 slots ≡ true →
    cleared_states slots (λ m. empty) ≡ states slots (λ m. empty) → Shape M
plain empty slots in_order complete = record { slots = slots; empty = empty; is_whole = λ m. true; in_order = in_order; complete = complete }

-- ---- the one canonical spelling: ascending numbers, no defaults

-- a field of this number for each value
abbrev pub values_bytes : ℕ → List Value → List ℕ
values_bytes n vs = flat_map (field_bytes n) vs

abbrev pub slots_bytes : {M : Type 0} → List (Slot M) → M → List ℕ
slots_bytes slots m = flat_map (λ s. values_bytes s.field (s.spelled m)) slots

unfoldable pub spelling : {M : Type 0} → Shape M → M → List ℕ
spelling shape m = slots_bytes shape.slots m

-- the spelling in front of some bytes, field by field
abbrev pub slots_before : {M : Type 0} → List (Slot M) → M → List ℕ → List ℕ
slots_before [] m after = after
slots_before (s ∷ ss) m after = values_bytes s.field (s.spelled m) ++ slots_before ss m after

abbrev pub slots_fit : {M : Type 0} → List (Slot M) → M → Bool
slots_fit [] m = true
slots_fit (s ∷ ss) m = s.fits m && slots_fit ss m

-- each field is in its range, and the rule over the whole holds
unfoldable pub fits : {M : Type 0} → Shape M → M → Bool
fits shape m = slots_fit shape.slots m && shape.is_whole m

-- ---- reading: each field in turn, unknown ones passed over

abbrev pub take_field : {M : Type 0} → List (Slot M) → M → ℕ → Value → Result M Fault
take_field [] m n v = Ok m
take_field (s ∷ ss) m n v = if n == s.field then s.taken m v else take_field ss m n v

-- a fault, and the place of the field
abbrev pub placed_at : {M : Type 0} → ℕ → Result M Fault → Result M (ℕ × Fault)
placed_at at (Ok m) = Ok m
placed_at at (Err fault) = Err (at, fault)

-- the fields were followed by something that is none, or the message ends
abbrev pub ended : {M : Type 0} → Shape M → Option (ℕ × Flaw) → M → Result M (ℕ × Fault)
ended shape (Some flaw) m = Err (flaw.0, Wire (refusal flaw.0 flaw.1))
ended shape None m = if shape.is_whole m then Ok m else Err (0, Wire (refusals.Cut 0))

unfoldable pub take_fields : {M : Type 0} → Shape M → Option (ℕ × Flaw) → M → List Placed → Result M (ℕ × Fault)
take_fields shape flaw m [] = ended shape flaw m
take_fields shape flaw m (f ∷ fs) = placed_at f.at (take_field shape.slots m f.field f.value) >>= λ m'. take_fields shape flaw m' fs

abbrev pub read_walk : {M : Type 0} → Shape M → M → Walk → Result M (ℕ × Fault)
read_walk shape m walk = take_fields shape walk.fault m walk.fields

-- the bytes of a message, on top of what was read of it before
abbrev pub read_into : {M : Type 0} → Shape M → M → List ℕ → Result M (ℕ × Fault)
read_into shape m bytes = read_walk shape m (fields_of bytes)

-- the message of these bytes, or the first fault with the place of its field
abbrev pub read : {M : Type 0} → Shape M → List ℕ → Result M (ℕ × Fault)
read shape bytes = read_into shape shape.empty bytes

-- ---- messages as fields of messages

-- of a fault inside, the place of the field outside counts
abbrev pub inside : {M : Type 0} → Result M (ℕ × Fault) → Result M Fault
inside (Ok m) = Ok m
inside (Err fault) = Err fault.1

abbrev pub if_set : {M : Type 0} → Shape M → Option M → List Value
if_set shape None = []
if_set shape (Some m) = sized (spelling shape m) ∷ []

-- a second one is read on top of the first
abbrev pub take_one : {M : Type 0} → Shape M → Option M → Value → Result (Option M) Fault
take_one shape old (sized b) = inside (read_into shape (unwrap_or old shape.empty) b) >>= λ m. Ok (Some m)
take_one shape old (number n) = Ok old
take_one shape old (fixed64 b) = Ok old
take_one shape old (fixed32 b) = Ok old

abbrev pub one_fits : {M : Type 0} → Shape M → Option M → Bool
one_fits shape None = true
one_fits shape (Some m) = fits shape m

abbrev pub all_set : {M : Type 0} → Shape M → List M → List Value
all_set shape ms = map (λ m. sized (spelling shape m)) ms

abbrev pub take_more : {M : Type 0} → Shape M → List M → Value → Result (List M) Fault
take_more shape old (sized b) = inside (read shape b) >>= λ m. Ok (old ++ m ∷ [])
take_more shape old (number n) = Ok old
take_more shape old (fixed64 b) = Ok old
take_more shape old (fixed32 b) = Ok old

-- a message that may be absent
abbrev pub one : {M : Type 0} → Shape M → Kind (Option M)
one shape = record { empty = None; spelled = if_set shape; taken = take_one shape; fits = one_fits shape }

-- messages in a row
abbrev pub many : {M : Type 0} → Shape M → Kind (List M)
many shape = record { empty = []; spelled = all_set shape; taken = take_more shape; fits = list_all (fits shape) }

-- ---- what is written is read again

-- What is written is read as an equal value, where each field is in the range of its type, each text is UTF-8 where that is
-- asked, and the cells of each row fill its bytes.
abbrev pub IsReadAgain : {M : Type 0} → Shape M → Type 0
IsReadAgain {M} shape = (m : M) → fits shape m ≡ true → length (spelling shape m) < 2 ^ 64 → read shape (spelling shape m) ≡ Ok m
