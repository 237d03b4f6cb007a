use Rattle.vs_show.proofs.RecordingLaws.{recording-bad, recording-lines, recording-some}
use Rattle.vs_show.proofs.laws.law_recordings.Goals as goal

pub returns : goal.returns
returns c = record { some = recording-some; lines = recording-lines; bad = recording-bad }
