-- The head of an event: the 19 bytes with which it begins. Numbers have the lowest byte first. The length counts the head too.
use Rattle.std.specs.Prelude.{◌≡◌, ◌≤◌, ◌<◌, ℕ, List, length, drop, slice_index}
use Rattle.byteorder.specs.Endian.{little_number}
use Rattle.vs_binlog.specs.declared.event.Head.{Head}
use Rattle.vs_binlog.specs.declared.event.Step.{Step}
use Rattle.vs_binlog.specs.declared.event.Step.TheVariants as step

-- an event is its bytes: a head and a body
abbrev pub Event : Type 0
Event = List ℕ

-- seconds since 1970
unfoldable pub time_of : Event → ℕ
time_of e = little_number 4 e

unfoldable pub kind_of : Event → ℕ
kind_of e = slice_index e 4

-- behind the server's number
unfoldable pub length_of : Event → ℕ
length_of e = little_number 4 (drop 9 e)

-- behind the place of the next event
unfoldable pub flags_of : Event → ℕ
flags_of e = little_number 2 (drop 17 e)

unfoldable pub body_of : Event → List ℕ
body_of e = drop 19 e

abbrev pub head_of : Event → Head
head_of e = record { time = time_of e; kind = kind_of e; length = length_of e; flags = flags_of e }

-- What stands at the front of the bytes: less than a head, a head whose length is below its own, or else the head of an event.
-- One of the three stands there, and no other.
abbrev pub StandsInFront : List ℕ → Step → Type 0
StandsInFront bytes step.Short = length bytes < 19
StandsInFront bytes (step.Bad n) = (19 ≤ length bytes) × (length_of bytes < 19) × (n ≡ length_of bytes)
StandsInFront bytes (step.Event head) = (19 ≤ length bytes) × (19 ≤ length_of bytes) × (head ≡ head_of bytes)
