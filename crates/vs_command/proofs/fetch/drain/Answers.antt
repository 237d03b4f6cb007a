use Rattle.std.proofs.Common.{sym, subst}
use Rattle.vs_command.specs.Fetched.{HasGiven}
use Rattle.vs_command.proofs.FetchLemmas.{HasGiven-more, IsSameLog-more, fewer_left}
use Rattle.vs_command.proofs.fetch.drain.Goals as goal

pub entries-smaller : goal.entries-smaller
entries-smaller c = fewer_left c.entries.reader c.next_entry.new.self c.in-Ok-Entry.entry c.in-Ok-Entry.at _ (rw c.in-Ok-Entry.field-0-is at c.in-Ok-Entry.ensures.gives)

pub entries-preserved : goal.entries-preserved
entries-preserved c =
    let gives = rw c.in-Ok-Entry.field-0-is at c.in-Ok-Entry.ensures.gives in
    record {
      given = subst (λ l. HasGiven c.next_entry.new.self l) (sym c.in_ok-push-in-Ok-Entry.ensures.ok)
          (HasGiven-more c.entries.reader c.next_entry.new.self c.entries.entries c.in-Ok-Entry.entry c.in-Ok-Entry.at _ c.entries.invariant.given gives);
      same = IsSameLog-more c.args.reader.now c.entries.reader c.next_entry.new.self c.in-Ok-Entry.entry c.in-Ok-Entry.at _ c.entries.invariant.same gives;
    }
