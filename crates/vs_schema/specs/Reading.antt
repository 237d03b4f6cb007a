-- How the reader of a schema text stands for a draft, and what its answers say.
use Rattle.std.specs.Prelude.{◌≡◌, Option, Some, None, Result, Ok, Err}
use Rattle.vs_schema.specs.declared.builder.Builder.{Builder}
use Rattle.vs_schema.specs.declared.fault.LineFault.{LineFault}
use Rattle.vs_schema.specs.declared.fault.LineFault.TheVariants.{Wrong, Memory}
use Rattle.vs_schema.specs.Rules.{Draft}

abbrev pub draft_of : Builder → Draft
draft_of b = record { tables = b.tables; skipped = b.skipped; current = b.current }

-- it holds what it was meant to; where that is nothing it says so; unless memory ran out
abbrev pub Holds : {A : Type 0} → Result (Unit {0}) LineFault → A → Option A → Type 0
Holds (Ok x) now meant = meant ≡ Some now
Holds (Err Wrong) now meant = meant ≡ None
Holds (Err Memory) now meant = Unit {0}

-- the same of a value that is given
abbrev pub GivesLine : {A : Type 0} → Result A LineFault → Option A → Type 0
GivesLine (Ok x) meant = meant ≡ Some x
GivesLine (Err Wrong) meant = meant ≡ None
GivesLine (Err Memory) meant = Unit {0}
