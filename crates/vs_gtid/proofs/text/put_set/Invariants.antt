use Rattle.std.proofs.Common.{◌≡◌, ◌-◌, ◌++◌, [], drop, get_or}
use Rattle.vs_gtid.specs.Text.{following_text, set_text}
use Rattle.vs_gtid.proofs.text.put_set.Given as goal

-- the text so far and what follows it are the whole text
abbrev pub invariant-loop-place : goal.invariant-loop-place
invariant-loop-place l =
    l.text.items ++ following_text (get_or l.intervals (l.place - 1) (record { uuid = []; first = 0; last = 0 })) (drop l.place l.intervals)
    ≡ l.fn.text.items ++ set_text l.intervals
