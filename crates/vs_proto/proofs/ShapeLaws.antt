-- What is spelled is read again, slot by slot.
use Rattle.std.proofs.Common.{◌≡◌, ℕ, ◌+◌, ◌<◌, ◌^◌, ◌==◌, nat_lt, Bool, true, false, ◌&&◌, if◌then◌else◌, List, [], ◌∷◌, ◌++◌, append_assoc, append-nil, length, length-append, All, None, Result, Ok, Err, refl, ap, sym, ◌∙◌, arith}
use Rattle.std.proofs.lemmas.Bool.{ltb-true}
use Rattle.std.proofs.lemmas.Bool.Decides.{nat_tests}
use Rattle.std.proofs.lemmas.List.Elements.{All-nil, All-cons}
use Rattle.vs_wire.specs.Varint.{◌>>=◌}
use Rattle.vs_wire.specs.Fields.{Value, number, fixed64, sized, fixed32, field_bytes, IsValue, IsField, spelled, placed, then_from, fields_of}
use Rattle.vs_wire.proofs.FieldLemmas.{fields_from-end}
use Rattle.vs_wire.proofs.SpellingLemmas.{fields_from-spelled}
use Rattle.vs_wire.specs.declared.refusal.WireRefusal.TheVariants.{Cut}
use Rattle.vs_proto.specs.declared.refusal.Fault.{Fault}
use Rattle.vs_proto.specs.declared.refusal.Fault.TheVariants.{Wire}
use Rattle.vs_proto.specs.Kinds.{Kind}
use Rattle.vs_proto.specs.Shapes.{Lens, Slot, Shape, slot, ascend, cleared_states, states, values_bytes, slots_bytes, spelling, slots_fit, fits, take_field, placed_at, ended, take_fields, read_walk, read, IsReadAgain}
use Rattle.vs_proto.proofs.SpellingLemmas.{sized_field-len}

-- ---- what a kind keeps

abbrev pub Each : {A : Type 0} → (A → Type 0) → List A → Type 0
Each P [] = Unit {0}
Each P (x ∷ xs) = P x × Each P xs

-- all but the bound on the length
abbrev pub IsRanged : Value → Type 0
IsRanged (number n) = n < 2 ^ 64
IsRanged (fixed64 b) = length b ≡ 8
IsRanged (sized b) = Unit {0}
IsRanged (fixed32 b) = length b ≡ 4

abbrev pub take_all : {A : Type 0} → (A → Value → Result A Fault) → A → List Value → Result A Fault
take_all taken a [] = Ok a
take_all taken a (v ∷ vs) = taken a v >>= λ a'. take_all taken a' vs

pub record KindLaw {A : Type 0} (k : Kind A) : Type 0 where
  pub reads : (a : A) → k.fits a ≡ true → Each IsValue (k.spelled a) → take_all k.taken k.empty (k.spelled a) ≡ Ok a
  pub ranged : (a : A) → k.fits a ≡ true → Each IsRanged (k.spelled a)

-- ---- what a slot keeps

-- What spells this part of a message is taken as an equal part, on top of a message that has the default there.
pub record SlotLaw {M : Type 0} (s : Slot M) : Type 0 where
  pub reads : (m start : M) → s.fits m ≡ true → s.cleared start ≡ start → Each IsValue (s.spelled m) →
      take_all s.taken start (s.spelled m) ≡ Ok (s.copied m start)
  pub ranged : (m : M) → s.fits m ≡ true → Each IsRanged (s.spelled m)

-- what is there after a was put, after b was put over it, and after what was there was put again
abbrev pub after_puts : {M A : Type 0} → Lens M A → M → A → A → A × (M × M)
after_puts l m a b = (l.get (l.put m a), (l.put (l.put m a) b, l.put m (l.get m)))

abbrev pub last_put : {M A : Type 0} → Lens M A → M → A → A → A × (M × M)
last_put l m a b = (a, (l.put m b, m))

-- what is there is what was put last
abbrev pub IsLens : {M A : Type 0} → Lens M A → Type 0
IsLens l = after_puts l ≡ last_put l

get_put : {M A : Type 0} (l : Lens M A) → IsLens l → (m : M) (a : A) → l.get (l.put m a) ≡ a
get_put l is m a = ap (λ f. (f m a a).0) is

put_put : {M A : Type 0} (l : Lens M A) → IsLens l → (m : M) (a b : A) → l.put (l.put m a) b ≡ l.put m b
put_put l is m a b = ap (λ f. (f m a b).1.0) is

put_get : {M A : Type 0} (l : Lens M A) → IsLens l → (m : M) → l.put m (l.get m) ≡ m
put_get l is m = ap (λ f. (f m (l.get m) (l.get m)).1.1) is

put_twice : {M A : Type 0} (l : Lens M A) → IsLens l → (m : M) (a : A) (r : Result A Fault) →
    (r >>= λ c. Ok (l.put (l.put m a) c)) ≡ (r >>= λ c. Ok (l.put m c))
put_twice l is m a (Ok c) = ap Ok (put_put l is m a c)
put_twice l is m a (Err fault) = refl

through : {M A : Type 0} (n : ℕ) (k : Kind A) (l : Lens M A) → IsLens l → (m : M) (vs : List Value) →
    take_all (slot n k l).taken m vs ≡ (take_all k.taken (l.get m) vs >>= λ a. Ok (l.put m a))
through n k l is m [] = ap Ok (sym (put_get l is m))
through n k l is m (v ∷ vs) =
    elim (k.taken (l.get m) v) as (λ r. ((r >>= λ a. Ok (l.put m a)) >>= λ m'. take_all (slot n k l).taken m' vs)
    ≡ ((r >>= λ a. take_all k.taken a vs) >>= λ a. Ok (l.put m a))) [
      | Ok a ↦ through n k l is (l.put m a) vs
          ∙ ap (λ b. take_all k.taken b vs >>= λ c. Ok (l.put (l.put m a) c)) (get_put l is m a)
          ∙ put_twice l is m a (take_all k.taken a vs)
      | Err fault ↦ refl
    ]

pub kept : {M A : Type 0} {n : ℕ} {k : Kind A} {l : Lens M A} → KindLaw k → IsLens l → SlotLaw (slot n k l)
kept {n = n} {k = k} {l = l} law is = record {
  reads = λ m start fit clear small.
      let start_empty : l.get start ≡ k.empty = ap l.get (sym clear) ∙ get_put l is start k.empty in
      through n k l is start (k.spelled (l.get m))
      ∙ ap (λ a. take_all k.taken a (k.spelled (l.get m)) >>= λ b. Ok (l.put start b)) start_empty
      ∙ ap (λ r. r >>= λ b. Ok (l.put start b)) (law.reads (l.get m) fit small);
  ranged = λ m fit. law.ranged (l.get m) fit;
}

abbrev pub SlotsKeep : {M : Type 0} → List (Slot M) → Type 0
SlotsKeep [] = Unit {0}
SlotsKeep (s ∷ ss) = SlotLaw s × SlotsKeep ss

-- ---- each slot is found by its number

-- from the slots whose numbers are above `low` on, numbers above it are looked up
abbrev LooksUp : {M : Type 0} → List (Slot M) → List (Slot M) → ℕ → Type 0
LooksUp {M} slots ss low = (n : ℕ) → low < n → (m : M) (v : Value) → take_field slots m n v ≡ take_field ss m n v

and_first : (a b : Bool) → (a && b) ≡ true → a ≡ true
and_first true b e = refl
and_first false b e = cc

and_second : (a b : Bool) → (a && b) ≡ true → b ≡ true
and_second true b e = e
and_second false b e = cc

-- the first slot's number is in range, and the others' are above it
above : {M : Type 0} (low : ℕ) (s : Slot M) (ss : List (Slot M)) → ascend low (s ∷ ss) ≡ true →
    (low < s.field) × ((s.field < 2 ^ 29) × (ascend s.field ss ≡ true))
above low s ss e =
    let rest = and_second (nat_lt low s.field) (nat_lt s.field (2 ^ 29) && ascend s.field ss) e in (
      ltb-true low s.field (and_first (nat_lt low s.field) (nat_lt s.field (2 ^ 29) && ascend s.field ss) e),
      (
        ltb-true s.field (2 ^ 29) (and_first (nat_lt s.field (2 ^ 29)) (ascend s.field ss) rest),
        and_second (nat_lt s.field (2 ^ 29)) (ascend s.field ss) rest,
      ),
    )

same_number : (n : ℕ) → (n == n) ≡ true
same_number n = grind (arith, nat_tests)

greater_number : (low n : ℕ) → low < n → (n == low) ≡ false
greater_number low n h = grind (arith, nat_tests)

found : {M : Type 0} (slots : List (Slot M)) (s : Slot M) (ss : List (Slot M)) (low : ℕ) → LooksUp slots (s ∷ ss) low → low < s.field →
    (m : M) (v : Value) → take_field slots m s.field v ≡ s.taken m v
found slots s ss low looks h m v =
    looks s.field h m v ∙ ap (λ t. if t then s.taken m v else take_field ss m s.field v) (same_number s.field)

looks_on : {M : Type 0} (slots : List (Slot M)) (s : Slot M) (ss : List (Slot M)) (low : ℕ) → LooksUp slots (s ∷ ss) low → low < s.field →
    LooksUp slots ss s.field
looks_on slots s ss low looks h n over m v =
    looks n (omega arith) m v ∙ ap (λ t. if t then s.taken m v else take_field ss m n v) (greater_number s.field n over)

-- ---- the spelling as fields

-- the fields of the spelling
abbrev numbered : ℕ → List Value → List (ℕ × Value)
numbered n [] = []
numbered n (v ∷ vs) = (n, v) ∷ numbered n vs

abbrev slots_fields : {M : Type 0} → List (Slot M) → M → List (ℕ × Value)
slots_fields [] m = []
slots_fields (s ∷ ss) m = numbered s.field (s.spelled m) ++ slots_fields ss m

spelled-append : (fs gs : List (ℕ × Value)) → spelled (fs ++ gs) ≡ spelled fs ++ spelled gs
spelled-append [] gs = refl
spelled-append (f ∷ fs) gs = ap (λ b. field_bytes f.0 f.1 ++ b) (spelled-append fs gs) ∙ sym (append_assoc (field_bytes f.0 f.1) (spelled fs) (spelled gs))

spelled-numbered : (n : ℕ) (vs : List Value) → spelled (numbered n vs) ≡ values_bytes n vs
spelled-numbered n [] = refl
spelled-numbered n (v ∷ vs) = ap (λ b. field_bytes n v ++ b) (spelled-numbered n vs)

spelled-slots : {M : Type 0} (ss : List (Slot M)) (m : M) → spelled (slots_fields ss m) ≡ slots_bytes ss m
spelled-slots [] m = refl
spelled-slots (s ∷ ss) m =
    spelled-append (numbered s.field (s.spelled m)) (slots_fields ss m)
    ∙ ap (λ b. b ++ spelled (slots_fields ss m)) (spelled-numbered s.field (s.spelled m))
    ∙ ap (λ b. values_bytes s.field (s.spelled m) ++ b) (spelled-slots ss m)

-- the fields taken one after the other
abbrev take_list : {M : Type 0} → List (Slot M) → M → List (ℕ × Value) → Result M Fault
take_list slots m [] = Ok m
take_list slots m (f ∷ fs) = take_field slots m f.0 f.1 >>= λ m'. take_list slots m' fs

take_list-append : {M : Type 0} (slots : List (Slot M)) (m : M) (fs gs : List (ℕ × Value)) →
    take_list slots m (fs ++ gs) ≡ (take_list slots m fs >>= λ m'. take_list slots m' gs)
take_list-append slots m [] gs = refl
take_list-append slots m (f ∷ fs) gs =
    elim (take_field slots m f.0 f.1) as (λ r. (r >>= λ m'. take_list slots m' (fs ++ gs)) ≡ ((r >>= λ m'. take_list slots m' fs) >>= λ m'. take_list slots m' gs)) [
      | Ok m' ↦ take_list-append slots m' fs gs
      | Err fault ↦ refl
    ]

take_list-numbered : {M : Type 0} (slots : List (Slot M)) (s : Slot M) → ((m : M) (v : Value) → take_field slots m s.field v ≡ s.taken m v) →
    (m : M) (vs : List Value) → take_list slots m (numbered s.field vs) ≡ take_all s.taken m vs
take_list-numbered slots s found m [] = refl
take_list-numbered slots s found m (v ∷ vs) =
    ap (λ r. r >>= λ m'. take_list slots m' (numbered s.field vs)) (found m v)
    ∙ elim (s.taken m v) as (λ r. (r >>= λ m'. take_list slots m' (numbered s.field vs)) ≡ (r >>= λ m'. take_all s.taken m' vs)) [
      | Ok m' ↦ take_list-numbered slots s found m' vs
      | Err fault ↦ refl
    ]

-- ---- each field is one that has a spelling

value_small : (n : ℕ) (v : Value) → IsRanged v → length (field_bytes n v) < 2 ^ 64 → IsValue v
value_small n (number k) is h = is
value_small n (fixed64 b) is h = is
value_small n (sized b) is h = let size = sized_field-len n b in omega arith
value_small n (fixed32 b) is h = is

values_small : (n : ℕ) (vs : List Value) → Each IsRanged vs → length (values_bytes n vs) < 2 ^ 64 → Each IsValue vs
values_small n [] is h = tt
values_small n (v ∷ vs) is h =
    let size = length-append (field_bytes n v) (values_bytes n vs) in
    (value_small n v is.0 (omega arith), values_small n vs is.1 (omega arith))

numbered_fields : (n : ℕ) (vs : List Value) → 0 < n → n < 2 ^ 29 → Each IsValue vs → Each IsField (numbered n vs)
numbered_fields n [] low high is = tt
numbered_fields n (v ∷ vs) low high is = ((low, high, is.0), numbered_fields n vs low high is.1)

Each-append : {A : Type 0} (P : A → Type 0) (xs ys : List A) → Each P xs → Each P ys → Each P (xs ++ ys)
Each-append P [] ys p q = q
Each-append P (x ∷ xs) ys p q = (p.0, Each-append P xs ys p.1 q)

-- of a list of states, the first, and the others
abbrev first_of : {M : Type 0} → List (M → M) → M → M
first_of [] m = m
first_of (f ∷ fs) m = f m

abbrev rest_of : {M : Type 0} → List (M → M) → List (M → M)
rest_of [] = []
rest_of (f ∷ fs) = fs

slots_small : {M : Type 0} (ss : List (Slot M)) (low : ℕ) (m : M) → SlotsKeep ss → ascend low ss ≡ true → slots_fit ss m ≡ true →
    length (slots_bytes ss m) < 2 ^ 64 → Each IsField (slots_fields ss m)
slots_small [] low m keep order fit h = tt
slots_small (s ∷ ss) low m keep order fit h =
    let size = length-append (values_bytes s.field (s.spelled m)) (slots_bytes ss m) in
    let first = and_first (s.fits m) (slots_fit ss m) fit in
    let small = values_small s.field (s.spelled m) (keep.0.ranged m first) (omega arith) in
    let range = above low s ss order in
    Each-append IsField (numbered s.field (s.spelled m)) (slots_fields ss m)
    (numbered_fields s.field (s.spelled m) (omega arith) range.1.0 small)
    (slots_small ss s.field m keep.1 range.1.1 (and_second (s.fits m) (slots_fit ss m) fit) (omega arith))

slots_read : {M : Type 0} (slots ss : List (Slot M)) (low : ℕ) (state : M → M) (m : M) → SlotsKeep ss → LooksUp slots ss low → ascend low ss ≡ true →
    cleared_states ss state ≡ states ss state → slots_fit ss m ≡ true →
    length (slots_bytes ss m) < 2 ^ 64 → take_list slots (state m) (slots_fields ss m) ≡ Ok m
slots_read slots [] low state m keep looks order complete fit h = ap Ok (ap (λ fs. first_of fs m) complete)
slots_read slots (s ∷ ss) low state m keep looks order complete fit h =
    let size = length-append (values_bytes s.field (s.spelled m)) (slots_bytes ss m) in
    let first = and_first (s.fits m) (slots_fit ss m) fit in
    let small = values_small s.field (s.spelled m) (keep.0.ranged m first) (omega arith) in
    let range = above low s ss order in
    take_list-append slots (state m) (numbered s.field (s.spelled m)) (slots_fields ss m)
    ∙ ap (λ r. r >>= λ m'. take_list slots m' (slots_fields ss m))
    (take_list-numbered slots s (found slots s ss low looks range.0) (state m) (s.spelled m)
    ∙ keep.0.reads m (state m) first (ap (λ fs. first_of fs m) complete) small)
    ∙ slots_read slots ss s.field (λ x. s.copied x (state x)) m keep.1 (looks_on slots s ss low looks range.0) range.1.1 (ap (λ fs. rest_of fs) complete)
    (and_second (s.fits m) (slots_fit ss m) fit) (omega arith)

-- ---- a message is read again

placed_read : {M : Type 0} (shape : Shape M) (fs : List (ℕ × Value)) (at : ℕ) (m new : M) → take_list shape.slots m fs ≡ Ok new →
    take_fields shape None m (placed at fs) ≡ ended shape None new
unfolding take_fields
placed_read shape [] at m new e = let same : m ≡ new = cc in ap (λ x. ended shape None x) same
placed_read shape (f ∷ fs) at m new e =
    elim (take_field shape.slots m f.0 f.1) as (λ r. (r >>= λ m'. take_list shape.slots m' fs) ≡ Ok new →
    (placed_at at r >>= λ m'. take_fields shape None m' (placed (at + length (field_bytes f.0 f.1)) fs)) ≡ ended shape None new) [
      | Ok m' ↦ λ h. placed_read shape fs (at + length (field_bytes f.0 f.1)) m' new h
      | Err fault ↦ λ h. cc
    ] e

all_of : {A : Type 0} (P : A → Type 0) (xs : List A) → Each P xs → All P xs
all_of P [] each = All-nil P
all_of P (x ∷ xs) each = All-cons P x xs each.0 (all_of P xs each.1)

fields_are : (fs : List (ℕ × Value)) → Each IsField fs → fields_of (spelled fs) ≡ record { fields = placed 0 fs; fault = None }
fields_are fs is =
    ap fields_of (sym (append-nil (spelled fs)))
    ∙ fields_from-spelled 0 fs [] (all_of IsField fs is)
    ∙ ap (λ w. then_from (placed 0 fs) w) (fields_from-end (0 + length (spelled fs)) [] refl)
    ∙ ap (λ l. record { fields = l; fault = None }) (append-nil (placed 0 fs))

pub read_again : {M : Type 0} (shape : Shape M) → SlotsKeep shape.slots → IsReadAgain shape
unfolding spelling fits
read_again shape keep m fit small =
    let fit_slots = and_first (slots_fit shape.slots m) (shape.is_whole m) fit in
    let whole = and_second (slots_fit shape.slots m) (shape.is_whole m) fit in
    let fields = slots_small shape.slots 0 m keep shape.in_order fit_slots small in
    ap (λ b. read shape b) (sym (spelled-slots shape.slots m))
    ∙ ap (λ w. read_walk shape shape.empty w) (fields_are (slots_fields shape.slots m) fields)
    ∙ placed_read shape (slots_fields shape.slots m) 0 shape.empty m
    (slots_read shape.slots shape.slots 0 (λ x. shape.empty) m keep (λ n h x v. refl) shape.in_order shape.complete fit_slots small)
    ∙ ap (λ t. if t then Ok m else Err (0, Wire (Cut 0))) whole
