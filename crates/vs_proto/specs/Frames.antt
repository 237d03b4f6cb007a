-- Messages on the wire, each behind four bytes of its length, and frames, which are messages in a row.
use Rattle.std.specs.Prelude.{◌≡◌, ℕ, ◌^◌, ◌<◌, Bool, true, false, List, [], ◌∷◌, ◌++◌, length}
use Rattle.std.specs.List.{AllByRecursion, flat_map}
use Rattle.vs_base.specs.Frames.{framed}
use Rattle.vs_proto.specs.declared.event.VEvent.{VEvent}
use Rattle.vs_proto.specs.Shapes.{spelling, fits}
use Rattle.vs_proto.specs.Tables.{response}

abbrev pub events_bytes : List VEvent → List ℕ
events_bytes events = spelling (response true) (record { events = events })

-- the events behind their length
abbrev pub message_bytes : List VEvent → List ℕ
message_bytes events = framed (events_bytes events)

abbrev pub frame_bytes : List (List VEvent) → List ℕ
frame_bytes messages = flat_map message_bytes messages

abbrev pub frames_bytes : List (List (List VEvent)) → List ℕ
frames_bytes frames = flat_map frame_bytes frames

-- numbers in the ranges of their types (texts and rows may be any), and fewer than 2 ^ 32 bytes
abbrev pub IsSpelled : List VEvent → Type 0
IsSpelled events = (fits (response false) (record { events = events }) ≡ true) × (length (events_bytes events) < 2 ^ 32)

-- Some messages in a row, of which the last alone passes the test. Where every message is a frame by itself, the test is
-- always true.
abbrev pub EndsOnce : (List VEvent → Bool) → List (List VEvent) → Type 0
EndsOnce ends [] = ⊥
EndsOnce ends (m ∷ []) = ends m ≡ true
EndsOnce ends (m ∷ n ∷ ms) = (ends m ≡ false) × EndsOnce ends (n ∷ ms)

abbrev pub IsFrame : (List VEvent → Bool) → List (List VEvent) → Type 0
IsFrame ends frame = EndsOnce ends frame × AllByRecursion IsSpelled frame

-- lists of events with equal bytes are equal
abbrev pub SpellsEventsOnce : Type 0
SpellsEventsOnce = (es fs : List VEvent) → IsSpelled es → IsSpelled fs → events_bytes es ≡ events_bytes fs → es ≡ fs

-- lists of frames with equal bytes are equal
abbrev pub SpellsOnce : Type 0
SpellsOnce = (ends : List VEvent → Bool) (fs gs : List (List (List VEvent))) → AllByRecursion (IsFrame ends) fs → AllByRecursion (IsFrame ends) gs → frames_bytes fs ≡ frames_bytes gs → fs ≡ gs

-- no frame's bytes begin another's
abbrev pub NoneBegins : Type 0
NoneBegins = (ends : List VEvent → Bool) (f g : List (List VEvent)) (more : List ℕ) → IsFrame ends f → IsFrame ends g → frame_bytes f ++ more ≡ frame_bytes g → more ≡ []
