-- How the printing of a recording may end, and what was written then.
use Rattle.std.specs.Prelude.{◌≡◌, ℕ, ◌==◌, if◌then◌else◌, List, Option, Some, None}
use Rattle.vs_frame.specs.declared.refusal.FrameWhy.{FrameWhy}
use Rattle.vs_frame.specs.declared.refusal.FrameWhy.TheVariants.{Cut}
use Rattle.vs_outside.specs.Told.{IsPrefixOf}
use Rattle.vs_show.specs.declared.recording.ShowEnd.{ShowEnd}
use Rattle.vs_show.specs.declared.recording.ShowEnd.TheVariants.{Whole, BadFrame, LinkFault, InputFault, Memory}

-- the answer where nothing fails
abbrev pub answer_of : Option (ℕ × FrameWhy) → ShowEnd
answer_of None = Whole
answer_of (Some p) = BadFrame p.0 p.1

-- something failed, and the recording was given up
abbrev pub HasFailed : ShowEnd → Type 0
HasFailed Whole = ⊥
HasFailed (BadFrame n why) = ⊥
HasFailed LinkFault = Unit {0}
HasFailed InputFault = Unit {0}
HasFailed Memory = Unit {0}

-- all the lines were written, or a beginning of them where something failed
abbrev pub WritesLines : List ℕ → ShowEnd → List ℕ → Type 0
WritesLines lines Whole w = w ≡ lines
WritesLines lines (BadFrame n why) w = w ≡ lines
WritesLines lines LinkFault w = IsPrefixOf w lines
WritesLines lines InputFault w = IsPrefixOf w lines
WritesLines lines Memory w = IsPrefixOf w lines

-- the answer where the input ends and so many bytes of the frame with this number are held
abbrev pub rest_answer : ℕ → ℕ → ShowEnd
rest_answer held n = if held == 0 then Whole else BadFrame n Cut
