use Rattle.std.proofs.Common.{◌≡◌, ◌++◌, drop, map}
use Rattle.std.specs.List.{flat_map}
use Rattle.vs_journal.specs.Judgement.{plain_name}
use Rattle.vs_journal.specs.Texts.{participant_text}
use Rattle.vs_journal.proofs.write.put_participants.Given as goal

abbrev pub invariant-loop-name : goal.invariant-loop-name
invariant-loop-name l = l.text.items ++ flat_map participant_text (map plain_name (drop l.name-index l.names)) ≡ l.fn.text.items ++ flat_map participant_text (map plain_name l.names)
