-- What a read of a feed says of its buffer, of what the feed gave and has given, and of its waits.
use Rattle.std.specs.Prelude.{◌≡◌, ℕ, ◌<◌, ◌≤◌, List, ◌++◌, length, take}
use Rattle.vs_outside.specs.declared.feed.Got.{Got}
use Rattle.vs_outside.specs.declared.feed.Got.TheVariants.{Bytes, NotYet, End}
use Rattle.vs_outside.specs.Told.{IsPrefixOf}

-- bytes fit the buffer, and there is one unless the buffer is empty
abbrev pub FillsBuffer : Got → List ℕ → Type 0
FillsBuffer (Bytes n) buf = (n ≤ length buf) × (0 < length buf → 0 < n)
FillsBuffer NotYet buf = Unit {0}
FillsBuffer End buf = Unit {0}

-- bytes are the next ones of all, and End comes where all was given before
abbrev pub GivesNext : Got → List ℕ → List ℕ → List ℕ → List ℕ → Type 0
GivesNext (Bytes n) buf all before after = (after ≡ before ++ take n buf) × IsPrefixOf after all
GivesNext NotYet buf all before after = after ≡ before
GivesNext End buf all before after = (after ≡ before) × (before ≡ all)

-- P, if the feed had nothing yet
abbrev pub OnNotYet : Got → Type 0 → Type 0
OnNotYet (Bytes n) P = Unit {0}
OnNotYet NotYet P = P
OnNotYet End P = Unit {0}
