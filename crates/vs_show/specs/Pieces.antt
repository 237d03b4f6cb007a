-- What one piece of the input adds to what was shown, whatever is behind it.
use Rattle.std.specs.Prelude.{◌≡◌, ℕ, ◌+◌, Bool, true, false, List, [], ◌++◌, Option, Result, Ok, Err}
use Rattle.vs_frame.specs.Frames.{IsPart}
use Rattle.vs_frame.specs.declared.refusal.FrameWhy.{FrameWhy}
use Rattle.vs_frame.specs.declared.refusal.FrameWhy.TheVariants as whys
use Rattle.vs_outside.specs.Told.{IsPrefixOf, Writes}
use Rattle.vs_proto.specs.Shapes.{read}
use Rattle.vs_proto.specs.Tables.{response}
use Rattle.vs_proto.specs.declared.event.VStreamResponse.{VStreamResponse}
use Rattle.vs_proto.specs.declared.refusal.Fault.{Fault}
use Rattle.vs_show.specs.Answers.{WritesLines}
use Rattle.vs_show.specs.Lines.{frame_lines}
use Rattle.vs_show.specs.Recordings.{recorded_from, with_lines, bad_at}
use Rattle.vs_show.specs.declared.frames.Stop.{Stop}
use Rattle.vs_show.specs.declared.frames.Stop.TheVariants.{Bad, Memory}
use Rattle.vs_show.specs.declared.recording.ShowEnd.{ShowEnd}
use Rattle.vs_show.specs.declared.recording.ShowEnd.TheVariants as ends

-- the bytes held record these lines and then what the bytes held afterwards record from this number on
abbrev pub GoesOn : ℕ → List ℕ → List ℕ → ℕ → List ℕ → Type 0
GoesOn n held lines m left = (rest : List ℕ) → recorded_from n (held ++ rest) ≡ with_lines lines (recorded_from m (left ++ rest))

-- the bytes held record these lines and then a frame that is none
abbrev pub EndsBadly : ℕ → List ℕ → List ℕ → ℕ → FrameWhy → Type 0
EndsBadly n held lines m why = (rest : List ℕ) → recorded_from n (held ++ rest) ≡ with_lines lines (bad_at m why)

-- the lines of the message are appended, or it can't be read
abbrev pub PutsMessage : ℕ → List ℕ → List ℕ → Result (Unit {0}) Stop → List ℕ → Type 0
PutsMessage n message old (Ok u) new = (f : VStreamResponse) × (read (response true) message ≡ Ok f) × (new ≡ old ++ frame_lines n f)
PutsMessage n message old (Err (Bad m why)) new = (fault : ℕ × Fault) × (read (response true) message ≡ Err fault) × (new ≡ old) × (m ≡ n) × (why ≡ whys.Message)
PutsMessage n message old (Err Memory) new = Unit {0}

-- the lines of the next frame are appended, if a whole one is held
abbrev pub PutsNext : ℕ → List ℕ → List ℕ → Result Bool Stop → List ℕ → List ℕ → Type 0
PutsNext n held old (Ok true) left new = (lines : List ℕ) × (new ≡ old ++ lines) × GoesOn n held lines (n + 1) left
PutsNext n held old (Ok false) left new = (new ≡ old) × (left ≡ held) × IsPart held
PutsNext n held old (Err (Bad m why)) left new = (new ≡ old) × EndsBadly n held [] m why
PutsNext n held old (Err Memory) left new = Unit {0}

-- the lines of all whole frames that are held are appended; the next frame has the number in the answer
abbrev pub PutsFrames : ℕ → List ℕ → List ℕ → Result ℕ Stop → List ℕ → List ℕ → Type 0
PutsFrames n held old (Ok m) left new = (lines : List ℕ) × (new ≡ old ++ lines) × GoesOn n held lines m left × IsPart left
PutsFrames n held old (Err (Bad m why)) left new = (lines : List ℕ) × (new ≡ old ++ lines) × EndsBadly n held lines m why
PutsFrames n held old (Err Memory) left new = Unit {0}

-- The lines that a piece adds, and what is left. Where the output fails or memory runs out, they are a beginning of what the
-- bytes record.
abbrev pub AddsLines : ℕ → List ℕ → Result ℕ ShowEnd → List ℕ → List ℕ → Type 0
AddsLines n held (Ok m) left lines = GoesOn n held lines m left × IsPart left
AddsLines n held (Err (ends.BadFrame m why)) left lines = EndsBadly n held lines m why
AddsLines n held (Err ends.LinkFault) left lines = (rest : List ℕ) → IsPrefixOf lines (recorded_from n (held ++ rest)).lines
AddsLines n held (Err ends.Memory) left lines = lines ≡ []
AddsLines n held (Err ends.Whole) left lines = ⊥
AddsLines n held (Err ends.InputFault) left lines = ⊥

-- what was written of the lines
abbrev pub Sends : Result ℕ ShowEnd → List ℕ → List ℕ → Type 0
Sends (Ok m) lines w = w ≡ lines
Sends (Err e) lines w = WritesLines lines e w

-- the lines of a piece, and what the sink took of them
pub record ShowsPiece (n : ℕ) (held : List ℕ) (r : Result ℕ ShowEnd) (left : List ℕ) (before now : Option (List ℕ)) : Type 0 where
  pub lines : List ℕ
  pub adds : AddsLines n held r left lines
  pub wrote : Writes before now (Sends r lines)
