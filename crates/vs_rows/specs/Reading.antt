-- Steps of which each may find nothing; and how what the code gives stands for what is meant.
use Rattle.std.specs.Prelude.{◌≡◌, Option, Some, None, Result, Ok, Err}
use Rattle.vs_rows.specs.declared.fault.Fault.{Fault}
use Rattle.vs_rows.specs.declared.fault.Fault.TheVariants.{Wrong, Memory}

infixl 10 ◌>>=◌
abbrev pub ◌>>=◌ : {A B : Type 0} → Option A → (A → Option B) → Option B
None >>= f = None
(Some x) >>= f = f x

-- what the code gives, seen by view, is what is meant; where that is nothing it says so; unless memory ran out
abbrev pub Fails : {B : Type 0} → Fault → Option B → Type 0
Fails Wrong meant = meant ≡ None
Fails Memory meant = Unit {0}

abbrev pub GivesSeen : {A B : Type 0} → (A → B) → Result A Fault → Option B → Type 0
GivesSeen view (Ok x) meant = meant ≡ Some (view x)
GivesSeen view (Err fault) meant = Fails fault meant
