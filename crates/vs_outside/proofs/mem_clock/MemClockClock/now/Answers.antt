use Rattle.vs_outside.proofs.TimeLemmas.{told_answers-next}
use Rattle.vs_outside.proofs.mem_clock.MemClockClock.now.Goals as goal

pub returns : goal.returns
returns c = rw c.next_time-time.ensures (told_answers-next c.args.self.now.times.items c.args.self.now.calls _ c.saturating_add-self.ensures)
