-- How the declared types are seen.
use Rattle.std.specs.Prelude.{◌≡◌, ℕ, Option, Some, None, Result, Ok, Err}
use Rattle.vs_wire.specs.declared.refusal.Flaw.{Flaw}
use Rattle.vs_wire.specs.declared.refusal.Flaw.TheVariants as flaws
use Rattle.vs_wire.specs.Fields.{Value, number, fixed64, sized, fixed32, Placed, Walk, nothing, with_first, ends_at}
use Rattle.vs_wire.specs.declared.refusal.WireRefusal.{WireRefusal}
use Rattle.vs_wire.specs.declared.refusal.WireRefusal.TheVariants as refusals
use Rattle.vs_wire.specs.declared.field.FieldValue.{FieldValue}
use Rattle.vs_wire.specs.declared.field.FieldValue.TheVariants as values
use Rattle.vs_wire.specs.declared.field.Field.{Field}

abbrev pub refusal : ℕ → Flaw → WireRefusal
refusal at flaws.Cut = refusals.Cut at
refusal at flaws.Long = refusals.LongVarint at
refusal at (flaws.BadKind kind) = refusals.BadWireType at kind
refusal at flaws.ZeroField = refusals.ZeroField at

-- what reading the front answers, with its place
abbrev pub refused_at : {A : Type 0} → ℕ → Result A Flaw → Result A WireRefusal
refused_at at (Ok x) = Ok x
refused_at at (Err flaw) = Err (refusal at flaw)

abbrev pub seen_value : FieldValue → Value
seen_value (values.Varint n) = number n
seen_value (values.Fixed64 b) = fixed64 b
seen_value (values.Bytes b) = sized b.now
seen_value (values.Fixed32 b) = fixed32 b

abbrev pub seen : Field → Placed
seen f = record { field = f.number; at = f.at; value = seen_value f.value }

-- what a function returned, seen by view
abbrev pub GivesAs : {X Y E : Type 0} → (X → Y) → Result X E → Result Y E → Type 0
GivesAs view (Ok x) read = read ≡ Ok (view x)
GivesAs view (Err e) read = read ≡ Err e

-- one step of a walk: a field and what follows it, the fault and then nothing, or nothing
abbrev pub StepsField : Walk → Option (Result Field WireRefusal) → Walk → Type 0
StepsField old None new = (old ≡ nothing) × (new ≡ nothing)
StepsField old (Some (Ok f)) new = old ≡ with_first (seen f) new
StepsField old (Some (Err e)) new = (at : ℕ) × (flaw : Flaw) × (e ≡ refusal at flaw) × (old ≡ ends_at at flaw) × (new ≡ nothing)
