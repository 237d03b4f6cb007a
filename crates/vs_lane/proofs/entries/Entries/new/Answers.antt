use Rattle.std.proofs.Common.{rules, false, length, ap}
use Rattle.vs_entries.specs.Pieces.{Fed}
use Rattle.vs_lane.proofs.Feeds.{reading_first, sound_of}
use Rattle.vs_lane.proofs.entries.Entries.new.Goals as goal

pub invariant_of-result : goal.invariant_of-result
invariant_of-result g c = reading_first _ _ _ _ c.requires (ap (λ (f : Fed). f.bytes) c.in-Ok.ensures) (search rules)

pub returns-clause-sound : goal.returns-clause-sound
returns-clause-sound g c = sound_of _ _ _ _ _ _ c.in-Ok.reader false (length c.in-Ok-vec.buf.items) (reading_first _ _ _ _ c.requires (ap (λ (f : Fed). f.bytes) c.in-Ok.ensures) (search rules))
