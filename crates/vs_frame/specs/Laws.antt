-- Statements of laws by name: what stands at the front of some bytes is one of three, and one thing of its kind.
use Rattle.std.specs.Prelude.{◌≡◌, ℕ, List}
use Rattle.vs_frame.specs.Frames.{BeginsWithFrame, HasNoFrame, IsPart, IsTooLong}

-- less than a frame is no frame
abbrev pub PartIsNoFrame : Type 0
PartIsNoFrame = (bytes : List ℕ) → IsPart bytes → HasNoFrame bytes

-- nor is it a length over the limit
abbrev pub PartIsNotTooLong : Type 0
PartIsNotTooLong = (bytes : List ℕ) (n : ℕ) → IsPart bytes → ¬ (IsTooLong bytes n)

-- a length over the limit is no frame
abbrev pub TooLongIsNoFrame : Type 0
TooLongIsNoFrame = (bytes : List ℕ) (n : ℕ) → IsTooLong bytes n → HasNoFrame bytes

abbrev pub HasOneLength : Type 0
HasOneLength = (bytes : List ℕ) (n m : ℕ) → IsTooLong bytes n → IsTooLong bytes m → n ≡ m

-- one message, and one rest behind it
abbrev pub HasOneFrame : Type 0
HasOneFrame = (bytes m n rest left : List ℕ) → BeginsWithFrame bytes m rest → BeginsWithFrame bytes n left → (m ≡ n) × (rest ≡ left)
