-- What the printing of a recording writes, and what its answers say.
use Rattle.std.specs.Prelude.{◌≡◌, ℕ, List, []}
use Rattle.vs_outside.specs.Told.{IsPrefixOf}
use Rattle.vs_show.specs.declared.recording.ShowEnd.{ShowEnd}
use Rattle.vs_show.specs.declared.recording.ShowEnd.TheVariants as ends
use Rattle.vs_command.specs.declared.status.Status.{Status}
use Rattle.vs_command.specs.declared.status.Status.TheVariants.{Done, Memory, Usage, Request, UnknownShard, Purged, BadLog, FeedFault, LinkFault, InputFault, OpenFault, PositionTooLarge, Stopped, BadSchema, BadFrame}

-- the end of the printing, as a status
abbrev pub status_of : ShowEnd → Status
status_of ends.Whole = Done
status_of (ends.BadFrame number frame_why) = BadFrame number frame_why
status_of ends.LinkFault = LinkFault
status_of ends.InputFault = InputFault
status_of ends.Memory = Memory

-- What was written of these lines: all of them with a whole recording and up to a bad frame, a beginning of them where something failed, and nothing with other words.
abbrev pub IsShown : List ℕ → Status → List ℕ → Type 0
IsShown lines Done w = w ≡ lines
IsShown lines (BadFrame number frame_why) w = w ≡ lines
IsShown lines LinkFault w = IsPrefixOf w lines
IsShown lines InputFault w = IsPrefixOf w lines
IsShown lines Memory w = IsPrefixOf w lines
IsShown lines Usage w = w ≡ []
IsShown lines (Request fault) w = ⊥
IsShown lines (UnknownShard name) w = ⊥
IsShown lines (Purged name missing) w = ⊥
IsShown lines (BadLog name offset why) w = ⊥
IsShown lines (FeedFault name) w = ⊥
IsShown lines (OpenFault name) w = ⊥
IsShown lines (PositionTooLarge name) w = ⊥
IsShown lines (Stopped name id) w = ⊥
IsShown lines (BadSchema name line) w = ⊥
