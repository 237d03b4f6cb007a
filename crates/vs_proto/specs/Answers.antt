-- How what a function returned answers what reading or spelling gives.
use Rattle.std.specs.Prelude.{◌≡◌, ℕ, true, if◌then◌else◌, List, Result, Ok, Err}
use Rattle.vs_wire.specs.declared.refusal.WireRefusal.{WireRefusal}
use Rattle.vs_wire.specs.declared.refusal.WireRefusal.TheVariants.{Cut, LongVarint, BadWireType, ZeroField}
use Rattle.vs_proto.specs.Kinds.{is_text}
use Rattle.vs_proto.specs.declared.refusal.Fault.{Fault}
use Rattle.vs_proto.specs.declared.refusal.Fault.TheVariants as faults
use Rattle.vs_proto.specs.declared.refusal.Stop.{Stop}
use Rattle.vs_proto.specs.declared.refusal.Stop.TheVariants as stops
use Rattle.vs_proto.specs.declared.refusal.ProtoRefusal.{ProtoRefusal}
use Rattle.vs_proto.specs.declared.refusal.ProtoRefusal.TheVariants as refusals

-- want of memory, or this fault
abbrev pub Stops : {A : Type 0} → Stop → Result A Fault → Type 0
Stops stops.Memory read = Unit {0}
Stops (stops.Bad fault) read = read ≡ Err fault

-- the slot is now what taking gives, unless it stops
abbrev pub TakesField : {A : Type 0} → Result (Unit {0}) Stop → A → Result A Fault → Type 0
TakesField (Ok u) new read = read ≡ Ok new
TakesField (Err e) new read = Stops e read

abbrev pub RefusesMessage : {A : Type 0} → ProtoRefusal → Result A (ℕ × Fault) → Type 0
RefusesMessage refusals.Memory read = Unit {0}
RefusesMessage (refusals.BadMessage at why) read = read ≡ Err (at, faults.Wire why)
RefusesMessage (refusals.NotUtf8 at) read = read ≡ Err (at, faults.NotUtf8)

-- the message that reading gives, or its fault, or want of memory
abbrev pub ReadsMessage : {A : Type 0} → Result A ProtoRefusal → Result A (ℕ × Fault) → Type 0
ReadsMessage (Ok m) read = read ≡ Ok m
ReadsMessage (Err e) read = RefusesMessage e read

-- the same where the message is left in new
abbrev pub ReadsInto : {A : Type 0} → Result (Unit {0}) ProtoRefusal → A → Result A (ℕ × Fault) → Type 0
ReadsInto (Ok u) new read = read ≡ Ok new
ReadsInto (Err e) new read = RefusesMessage e read

abbrev pub refusal_at : ℕ → Stop → ProtoRefusal
refusal_at at stops.Memory = refusals.Memory
refusal_at at (stops.Bad (faults.Wire why)) = refusals.BadMessage at why
refusal_at at (stops.Bad faults.NotUtf8) = refusals.NotUtf8 at

-- a refusal inside, without its place
abbrev pub stop_of : ProtoRefusal → Stop
stop_of refusals.Memory = stops.Memory
stop_of (refusals.BadMessage at why) = stops.Bad (faults.Wire why)
stop_of (refusals.NotUtf8 at) = stops.Bad faults.NotUtf8

abbrev pub place_of : WireRefusal → ℕ
place_of (Cut at) = at
place_of (LongVarint at) = at
place_of (BadWireType at kind) = at
place_of (ZeroField at) = at

-- ---- strings

-- the text of these bytes, which are UTF-8, or their fault
abbrev pub IsString : Result (List ℕ) Stop → List ℕ → Type 0
IsString (Ok t) b = (t ≡ b) × (is_text true b ≡ true)
IsString (Err e) b = Stops {A = List ℕ} e (if is_text true b then Ok b else Err faults.NotUtf8)
