-- The bytes of a log of which the front was let go: all of them, for the contracts, and where those begin that are still there.
use Rattle.std.specs.Prelude.{◌≡◌, ◌≤◌, ◌<◌, ◌+◌, ◌⊎◌, ℕ, true, false, List, [], ◌∷◌, ◌++◌, length, take}
use Rattle.vs_log.specs.Meaning.{has_magic}
use Rattle.vs_entries.specs.declared.magic.Magic.{Magic}
use Rattle.vs_entries.specs.declared.magic.Magic.TheVariants.{Whole, Part, Wrong}
use Rattle.vs_entries.specs.declared.window.Gone.{Gone}

pub record Windowed : Type 0 where
  pub bytes : List ℕ
  pub from : ℕ

-- what was let go, in order
abbrev pub gone_of : List Gone → List ℕ
gone_of [] = []
gone_of (g ∷ gone) = take g.count.value g.bytes.value.items ++ gone_of gone

-- All bytes are as they were. Perhaps more of them were let go, up to this place: no fewer than stay behind it, and have to be moved.
pub record LetsGo (at : ℕ) (old new : Windowed) : Type 0 where
  pub bytes : new.bytes ≡ old.bytes
  pub from : (new.from ≡ old.from) ⊎ ((new.from ≡ at) × (old.from + length old.bytes ≤ at + at))

-- What the first bytes are. Once some were let go the magic was passed, and nothing is told of it.
abbrev pub TellsMagic : Windowed → Magic → Type 0
TellsMagic window Whole = window.from ≡ 0 → (has_magic window.bytes ≡ true) × (4 ≤ length window.bytes)
TellsMagic window Part = (has_magic window.bytes ≡ true) × (length window.bytes < 4)
TellsMagic window Wrong = has_magic window.bytes ≡ false
