-- The text of a position in a request: empty for a copy, `current` for the log's end, or a set of GTIDs.
use Rattle.std.specs.Prelude.{◌≡◌, ◌≢◌, ℕ, List, [], length, codes, Ok, Err}
use Rattle.vs_gtid.specs.declared.refusal.GtidRefusal.{GtidRefusal}
use Rattle.vs_gtid.specs.declared.refusal.GtidRefusal.TheVariants.{BadText, ZeroNumber, EmptyInterval, BadBlock, TooManyIntervals, Memory}
use Rattle.vs_gtid.specs.Readings.{ReadsSet}
use Rattle.vs_request.specs.declared.request.StartAt.{StartAt}
use Rattle.vs_request.specs.declared.request.StartAt.TheVariants.{Fresh, Current, At}

-- the text is neither of the two words that aren't read as a set
abbrev pub NamesSet : List ℕ → Type 0
NamesSet text = (text ≢ []) × (text ≢ codes "current")

-- the text says to start so
abbrev pub StartsAs : List ℕ → StartAt → Type 0
StartsAs text Fresh = text ≡ []
StartsAs text Current = text ≡ codes "current"
StartsAs text (At set) = NamesSet text × ReadsSet text (Ok set)

-- the place in the text of what is wrong with a set; its end for a set of too many intervals
abbrev pub place_in : List ℕ → GtidRefusal → ℕ
place_in text (BadText at) = at
place_in text (ZeroNumber at) = at
place_in text (EmptyInterval at) = at
place_in text (BadBlock at) = at
place_in text TooManyIntervals = length text
place_in text Memory = 0

-- the text says no start, and its first fault stands at this place
abbrev pub IsRefusedAt : List ℕ → ℕ → Type 0
IsRefusedAt text at = NamesSet text × (refusal : GtidRefusal) × ReadsSet text (Err refusal) × (place_in text refusal ≡ at)
