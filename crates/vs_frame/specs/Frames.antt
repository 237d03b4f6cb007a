-- Frames one after the other, what stands at the front of some bytes, and a framer.
use Rattle.std.specs.Prelude.{◌≡◌, ℕ, ◌^◌, ◌<◌, ◌≤◌, ◌⊎◌, List, [], ◌∷◌, ◌++◌, length, All, Option, Some, None, Result, Ok, Err}
use Rattle.std.specs.Int.{w32, to_be_bytes}
use Rattle.vs_base.specs.Frames.{framed}
use Rattle.vs_base.specs.Limits.{most_message}
use Rattle.vs_frame.specs.declared.refusal.FrameRefusal.{FrameRefusal}
use Rattle.vs_frame.specs.declared.refusal.FrameRefusal.TheVariants.{FrameTooLong, Memory}

-- frames one after the other
abbrev pub frames_bytes : List (List ℕ) → List ℕ
frames_bytes [] = []
frames_bytes (m ∷ ms) = framed m ++ frames_bytes ms

-- at most 16 MiB
abbrev pub IsWithinLimit : List ℕ → Type 0
IsWithinLimit message = length message ≤ most_message

-- the bytes begin with the frame of this message, and this is behind it
abbrev pub BeginsWithFrame : List ℕ → List ℕ → List ℕ → Type 0
BeginsWithFrame bytes message rest = (bytes ≡ framed message ++ rest) × IsWithinLimit message

-- the bytes begin with a frame
abbrev pub HasFrame : List ℕ → Type 0
HasFrame bytes = (message : List ℕ) × (rest : List ℕ) × BeginsWithFrame bytes message rest

-- the bytes begin with a length over the limit
abbrev pub IsTooLong : List ℕ → ℕ → Type 0
IsTooLong bytes n = (most_message < n) × (n < 2 ^ 32) × ((rest : List ℕ) × (bytes ≡ to_be_bytes w32 n ++ rest))

-- less than a frame: not all of a length, or a length within the limit and fewer bytes than it says
abbrev pub IsPart : List ℕ → Type 0
IsPart bytes = (length bytes < 4) ⊎ ((n : ℕ) × (rest : List ℕ) × (bytes ≡ to_be_bytes w32 n ++ rest) × (n ≤ most_message) × (length rest < n))

-- ---- a framer

-- the bytes that were fed and not yet given, and the refusal that stands from then on
pub record Held : Type 0 where
  pub bytes : List ℕ
  pub refused : Option FrameRefusal

abbrev pub holding : List ℕ → Held
holding bytes = record { bytes = bytes; refused = None }

-- more bytes are held
abbrev pub with_more : Held → List ℕ → Held
with_more h piece = record h { bytes = h.bytes ++ piece }

-- why a framer that refused nothing yet refuses, and what it holds then: a length over the limit stands at the front, and
-- stays; or memory ran out
abbrev pub RefusesFrame : List ℕ → FrameRefusal → List ℕ → Type 0
RefusesFrame bytes (FrameTooLong n) left = IsTooLong bytes n × (left ≡ bytes)
RefusesFrame bytes Memory left = Unit {0}

-- What the next frame of a framer is: none yet, the one at the front, or a refusal, which stays.
abbrev pub GivesFrame : Held → Result (Option (List ℕ)) FrameRefusal → Held → Type 0
GivesFrame old (Ok None) new = (old.refused ≡ None) × IsPart old.bytes × (new ≡ old)
GivesFrame old (Ok (Some message)) new = (old.refused ≡ None) × BeginsWithFrame old.bytes message new.bytes × (new.refused ≡ None)
GivesFrame old (Err e) new = (new.refused ≡ Some e) × ((new ≡ old) ⊎ ((old.refused ≡ None) × RefusesFrame old.bytes e new.bytes))

-- ---- the laws

-- all that was fed are the frames of the messages that were given, each within the limit, and what is held
abbrev pub IsGiven : List ℕ → List (List ℕ) → List ℕ → Type 0
IsGiven fed messages held = (fed ≡ frames_bytes messages ++ held) × All IsWithinLimit messages

-- no frame stands at the front
abbrev pub HasNoFrame : List ℕ → Type 0
HasNoFrame bytes = (message rest : List ℕ) → ¬ (BeginsWithFrame bytes message rest)
