-- When a heartbeat is due.
use Rattle.std.specs.Prelude.{ℕ, ◌<◌, ◌≤◌, ◌+◌}
use Rattle.vs_pace.specs.declared.beat.Beat.{Beat}

-- heartbeats were asked for, and the last frame is at least an interval ago
abbrev pub IsDue : Beat → ℕ → Type 0
IsDue beat now = (0 < beat.interval) × (beat.last + beat.interval ≤ now)
