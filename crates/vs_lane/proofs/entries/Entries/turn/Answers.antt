use Rattle.std.proofs.Common.{rules, ℕ, List, length, take, refl, ap, ◌∙◌}
use Rattle.vs_entries.specs.Pieces.{with_piece}
use Rattle.vs_lane.proofs.Feeds.{ends_turned, entry_turned, fed_turned, lost_turned, reading_in, spent_turned, waits_turned, written_is}
use Rattle.vs_lane.proofs.entries.Entries.turn.Goals as goal

pub invariant_of-self : goal.invariant_of-self
invariant_of-self g c = (entry_turned (g.F.Feed.origin c.self.inside.feed) (g.F.Feed.all c.self.inside.feed) (g.F.Feed.given c.self.inside.feed) (g.F.Feed.sound c.self.inside.feed) (g.F.Feed.faults c.self.inside.feed) (g.F.Feed.waits c.self.inside.feed) c.self.inside.reader c.self.inside.spent (length c.self.inside.buf.items) c.self.invariant c.next_entry.new.self c.in-Ok-Entry.entry c.in-Ok-Entry.at _ (rw c.in-Ok-Entry.field-0-is at c.in-Ok-Entry.ensures.gives) c.in-Ok-Entry.ensures.later).0

pub returns-in-Ok-Entry-clause-comes : goal.returns-in-Ok-Entry-clause-comes
returns-in-Ok-Entry-clause-comes g c = rw (← c.self.view_is) (entry_turned (g.F.Feed.origin c.self.inside.feed) (g.F.Feed.all c.self.inside.feed) (g.F.Feed.given c.self.inside.feed) (g.F.Feed.sound c.self.inside.feed) (g.F.Feed.faults c.self.inside.feed) (g.F.Feed.waits c.self.inside.feed) c.self.inside.reader c.self.inside.spent (length c.self.inside.buf.items) c.self.invariant c.next_entry.new.self c.in-Ok-Entry.entry c.in-Ok-Entry.at _ (rw c.in-Ok-Entry.field-0-is at c.in-Ok-Entry.ensures.gives) c.in-Ok-Entry.ensures.later).2

pub returns-in-Ok-Entry-clause-sound : goal.returns-in-Ok-Entry-clause-sound
returns-in-Ok-Entry-clause-sound g c = (entry_turned (g.F.Feed.origin c.self.inside.feed) (g.F.Feed.all c.self.inside.feed) (g.F.Feed.given c.self.inside.feed) (g.F.Feed.sound c.self.inside.feed) (g.F.Feed.faults c.self.inside.feed) (g.F.Feed.waits c.self.inside.feed) c.self.inside.reader c.self.inside.spent (length c.self.inside.buf.items) c.self.invariant c.next_entry.new.self c.in-Ok-Entry.entry c.in-Ok-Entry.at _ (rw c.in-Ok-Entry.field-0-is at c.in-Ok-Entry.ensures.gives) c.in-Ok-Entry.ensures.later).3

pub returns-in-Err-Memory-clause-sound : goal.returns-in-Err-Memory-clause-sound
returns-in-Err-Memory-clause-sound g c = (spent_turned (g.F.Feed.origin c.self.inside.feed) (g.F.Feed.all c.self.inside.feed) (g.F.Feed.given c.self.inside.feed) (g.F.Feed.sound c.self.inside.feed) (g.F.Feed.faults c.self.inside.feed) (g.F.Feed.waits c.self.inside.feed) c.self.inside.reader c.self.inside.spent (length c.self.inside.buf.items) c.self.invariant c.next_entry.new.self (rw c.in-Err-Memory.field-0-is at c.in-Err-Memory.ensures.gives) c.in-Err-Memory.ensures.later).3

pub invariant_of-self-in-Ok : goal.invariant_of-self-in-Ok
invariant_of-self-in-Ok g c = reading_in _ _ _ _ (length c.self.inside.buf.items) _ (fed_turned (g.F.Feed.origin c.self.inside.feed) (g.F.Feed.all c.self.inside.feed) (g.F.Feed.given c.self.inside.feed) (g.F.Feed.sound c.self.inside.feed) (g.F.Feed.faults c.self.inside.feed) (g.F.Feed.waits c.self.inside.feed) c.self.inside.reader c.self.inside.spent (length c.self.inside.buf.items) c.self.invariant c.next_entry.new.self (rw c.in-Ok-More.field-0-is at c.in-Ok-More.ensures.gives) c.in-Ok-More.ensures.later (g.F.Feed.all c.read.new.self) (g.F.Feed.given c.read.new.self) (g.F.Feed.sound c.read.new.self) (g.F.Feed.faults c.read.new.self) (g.F.Feed.waits c.read.new.self) (g.F.Feed.origin c.read.new.self) c.in-Ok-Bytes.ensures.origin c.in-Ok-Bytes.ensures.all c.in-Ok-Bytes.ensures.sound c.in-Ok-Bytes.ensures.faults_later c.in-Ok-Bytes.ensures.waits_later c.law_part.ensures c.read.new.buf c.in-Ok-Bytes.n c.feed.new.self (search rules) (rw c.in-Ok-Bytes.field-0-is at c.in-Ok-Bytes.ensures.fills) (rw c.in-Ok-Bytes.field-0-is at c.in-Ok-Bytes.ensures.gives) (c.in-Ok.ensures.ok ∙ ap (λ (b : List ℕ). with_piece c.next_entry.new.self (take c.in-Ok-Bytes.n b) c.feed.new.self.at c.feed.new.self.from) (c.deref.ensures.value ∙ written_is c.self.inside.buf.len c.read.new.buf c.self.inside.buf.items (search rules) (search rules))) c.in-Ok.ensures.later).0 (ap (λ (l : List ℕ). length l) (written_is c.self.inside.buf.len c.read.new.buf c.self.inside.buf.items (search rules) (search rules)) ∙ (search rules))

pub invariant_of-self-in-Ok-End : goal.invariant_of-self-in-Ok-End
invariant_of-self-in-Ok-End g c = reading_in _ _ _ _ (length c.self.inside.buf.items) _ (ends_turned (g.F.Feed.origin c.self.inside.feed) (g.F.Feed.all c.self.inside.feed) (g.F.Feed.given c.self.inside.feed) (g.F.Feed.sound c.self.inside.feed) (g.F.Feed.faults c.self.inside.feed) (g.F.Feed.waits c.self.inside.feed) c.self.inside.reader c.self.inside.spent (length c.self.inside.buf.items) c.self.invariant c.next_entry.new.self (rw c.in-Ok-More.field-0-is at c.in-Ok-More.ensures.gives) c.in-Ok-More.ensures.later (g.F.Feed.all c.read.new.self) (g.F.Feed.given c.read.new.self) (g.F.Feed.sound c.read.new.self) (g.F.Feed.faults c.read.new.self) (g.F.Feed.waits c.read.new.self) (g.F.Feed.origin c.read.new.self) c.in-Ok-End.ensures.origin c.in-Ok-End.ensures.all c.in-Ok-End.ensures.sound c.in-Ok-End.ensures.faults_later c.in-Ok-End.ensures.waits_later c.read.new.buf (rw c.in-Ok-End.field-0-is at c.in-Ok-End.ensures.gives)).0 (ap (λ (l : List ℕ). length l) (written_is c.self.inside.buf.len c.read.new.buf c.self.inside.buf.items (search rules) (search rules)) ∙ (search rules))

pub returns-in-Ok-clause-later : goal.returns-in-Ok-clause-later
returns-in-Ok-clause-later g c = rw (← c.self.view_is) (fed_turned (g.F.Feed.origin c.self.inside.feed) (g.F.Feed.all c.self.inside.feed) (g.F.Feed.given c.self.inside.feed) (g.F.Feed.sound c.self.inside.feed) (g.F.Feed.faults c.self.inside.feed) (g.F.Feed.waits c.self.inside.feed) c.self.inside.reader c.self.inside.spent (length c.self.inside.buf.items) c.self.invariant c.next_entry.new.self (rw c.in-Ok-More.field-0-is at c.in-Ok-More.ensures.gives) c.in-Ok-More.ensures.later (g.F.Feed.all c.read.new.self) (g.F.Feed.given c.read.new.self) (g.F.Feed.sound c.read.new.self) (g.F.Feed.faults c.read.new.self) (g.F.Feed.waits c.read.new.self) (g.F.Feed.origin c.read.new.self) c.in-Ok-Bytes.ensures.origin c.in-Ok-Bytes.ensures.all c.in-Ok-Bytes.ensures.sound c.in-Ok-Bytes.ensures.faults_later c.in-Ok-Bytes.ensures.waits_later c.law_part.ensures c.read.new.buf c.in-Ok-Bytes.n c.feed.new.self (search rules) (rw c.in-Ok-Bytes.field-0-is at c.in-Ok-Bytes.ensures.fills) (rw c.in-Ok-Bytes.field-0-is at c.in-Ok-Bytes.ensures.gives) (c.in-Ok.ensures.ok ∙ ap (λ (b : List ℕ). with_piece c.next_entry.new.self (take c.in-Ok-Bytes.n b) c.feed.new.self.at c.feed.new.self.from) (c.deref.ensures.value ∙ written_is c.self.inside.buf.len c.read.new.buf c.self.inside.buf.items (search rules) (search rules))) c.in-Ok.ensures.later).1

pub returns-in-Ok-clause-comes : goal.returns-in-Ok-clause-comes
returns-in-Ok-clause-comes g c = rw (← c.self.view_is) ((fed_turned (g.F.Feed.origin c.self.inside.feed) (g.F.Feed.all c.self.inside.feed) (g.F.Feed.given c.self.inside.feed) (g.F.Feed.sound c.self.inside.feed) (g.F.Feed.faults c.self.inside.feed) (g.F.Feed.waits c.self.inside.feed) c.self.inside.reader c.self.inside.spent (length c.self.inside.buf.items) c.self.invariant c.next_entry.new.self (rw c.in-Ok-More.field-0-is at c.in-Ok-More.ensures.gives) c.in-Ok-More.ensures.later (g.F.Feed.all c.read.new.self) (g.F.Feed.given c.read.new.self) (g.F.Feed.sound c.read.new.self) (g.F.Feed.faults c.read.new.self) (g.F.Feed.waits c.read.new.self) (g.F.Feed.origin c.read.new.self) c.in-Ok-Bytes.ensures.origin c.in-Ok-Bytes.ensures.all c.in-Ok-Bytes.ensures.sound c.in-Ok-Bytes.ensures.faults_later c.in-Ok-Bytes.ensures.waits_later c.law_part.ensures c.read.new.buf c.in-Ok-Bytes.n c.feed.new.self (search rules) (rw c.in-Ok-Bytes.field-0-is at c.in-Ok-Bytes.ensures.fills) (rw c.in-Ok-Bytes.field-0-is at c.in-Ok-Bytes.ensures.gives) (c.in-Ok.ensures.ok ∙ ap (λ (b : List ℕ). with_piece c.next_entry.new.self (take c.in-Ok-Bytes.n b) c.feed.new.self.at c.feed.new.self.from) (c.deref.ensures.value ∙ written_is c.self.inside.buf.len c.read.new.buf c.self.inside.buf.items (search rules) (search rules))) c.in-Ok.ensures.later).2, refl)

pub returns-in-Ok-clause-sound : goal.returns-in-Ok-clause-sound
returns-in-Ok-clause-sound g c = (fed_turned (g.F.Feed.origin c.self.inside.feed) (g.F.Feed.all c.self.inside.feed) (g.F.Feed.given c.self.inside.feed) (g.F.Feed.sound c.self.inside.feed) (g.F.Feed.faults c.self.inside.feed) (g.F.Feed.waits c.self.inside.feed) c.self.inside.reader c.self.inside.spent (length c.self.inside.buf.items) c.self.invariant c.next_entry.new.self (rw c.in-Ok-More.field-0-is at c.in-Ok-More.ensures.gives) c.in-Ok-More.ensures.later (g.F.Feed.all c.read.new.self) (g.F.Feed.given c.read.new.self) (g.F.Feed.sound c.read.new.self) (g.F.Feed.faults c.read.new.self) (g.F.Feed.waits c.read.new.self) (g.F.Feed.origin c.read.new.self) c.in-Ok-Bytes.ensures.origin c.in-Ok-Bytes.ensures.all c.in-Ok-Bytes.ensures.sound c.in-Ok-Bytes.ensures.faults_later c.in-Ok-Bytes.ensures.waits_later c.law_part.ensures c.read.new.buf c.in-Ok-Bytes.n c.feed.new.self (search rules) (rw c.in-Ok-Bytes.field-0-is at c.in-Ok-Bytes.ensures.fills) (rw c.in-Ok-Bytes.field-0-is at c.in-Ok-Bytes.ensures.gives) (c.in-Ok.ensures.ok ∙ ap (λ (b : List ℕ). with_piece c.next_entry.new.self (take c.in-Ok-Bytes.n b) c.feed.new.self.at c.feed.new.self.from) (c.deref.ensures.value ∙ written_is c.self.inside.buf.len c.read.new.buf c.self.inside.buf.items (search rules) (search rules))) c.in-Ok.ensures.later).3

pub returns-in-Ok-NotYet-clause-sound : goal.returns-in-Ok-NotYet-clause-sound
returns-in-Ok-NotYet-clause-sound g c = (waits_turned (g.F.Feed.origin c.self.inside.feed) (g.F.Feed.all c.self.inside.feed) (g.F.Feed.given c.self.inside.feed) (g.F.Feed.sound c.self.inside.feed) (g.F.Feed.faults c.self.inside.feed) (g.F.Feed.waits c.self.inside.feed) c.self.inside.reader c.self.inside.spent (length c.self.inside.buf.items) c.self.invariant c.next_entry.new.self (rw c.in-Ok-More.field-0-is at c.in-Ok-More.ensures.gives) c.in-Ok-More.ensures.later (g.F.Feed.all c.read.new.self) (g.F.Feed.given c.read.new.self) (g.F.Feed.sound c.read.new.self) (g.F.Feed.faults c.read.new.self) (g.F.Feed.waits c.read.new.self) (g.F.Feed.origin c.read.new.self) c.in-Ok-NotYet.ensures.origin c.in-Ok-NotYet.ensures.all c.in-Ok-NotYet.ensures.sound c.in-Ok-NotYet.ensures.faults_later c.in-Ok-NotYet.ensures.waits_later c.read.new.buf (rw c.in-Ok-NotYet.field-0-is at c.in-Ok-NotYet.ensures.gives) (rw c.in-Ok-NotYet.field-0-is at c.in-Ok-NotYet.ensures.waited)).3

pub returns-in-Ok-End-clause-sound : goal.returns-in-Ok-End-clause-sound
returns-in-Ok-End-clause-sound g c = (ends_turned (g.F.Feed.origin c.self.inside.feed) (g.F.Feed.all c.self.inside.feed) (g.F.Feed.given c.self.inside.feed) (g.F.Feed.sound c.self.inside.feed) (g.F.Feed.faults c.self.inside.feed) (g.F.Feed.waits c.self.inside.feed) c.self.inside.reader c.self.inside.spent (length c.self.inside.buf.items) c.self.invariant c.next_entry.new.self (rw c.in-Ok-More.field-0-is at c.in-Ok-More.ensures.gives) c.in-Ok-More.ensures.later (g.F.Feed.all c.read.new.self) (g.F.Feed.given c.read.new.self) (g.F.Feed.sound c.read.new.self) (g.F.Feed.faults c.read.new.self) (g.F.Feed.waits c.read.new.self) (g.F.Feed.origin c.read.new.self) c.in-Ok-End.ensures.origin c.in-Ok-End.ensures.all c.in-Ok-End.ensures.sound c.in-Ok-End.ensures.faults_later c.in-Ok-End.ensures.waits_later c.read.new.buf (rw c.in-Ok-End.field-0-is at c.in-Ok-End.ensures.gives)).3

pub invariant_of-self-in-Err-feed : goal.invariant_of-self-in-Err-feed
invariant_of-self-in-Err-feed g c = reading_in _ _ _ _ (length c.self.inside.buf.items) _ (lost_turned (g.F.Feed.origin c.self.inside.feed) (g.F.Feed.all c.self.inside.feed) (g.F.Feed.given c.self.inside.feed) (g.F.Feed.sound c.self.inside.feed) (g.F.Feed.faults c.self.inside.feed) (g.F.Feed.waits c.self.inside.feed) c.self.inside.reader c.self.inside.spent (length c.self.inside.buf.items) c.self.invariant c.next_entry.new.self (rw c.in-Ok-More.field-0-is at c.in-Ok-More.ensures.gives) c.in-Ok-More.ensures.later (g.F.Feed.all c.read.new.self) (g.F.Feed.given c.read.new.self) (g.F.Feed.sound c.read.new.self) (g.F.Feed.faults c.read.new.self) (g.F.Feed.waits c.read.new.self) (g.F.Feed.origin c.read.new.self) c.in-Ok-Bytes.ensures.origin c.in-Ok-Bytes.ensures.all c.in-Ok-Bytes.ensures.sound c.in-Ok-Bytes.ensures.faults_later c.in-Ok-Bytes.ensures.waits_later c.feed.new.self c.in-Err-feed.ensures.err).0 (ap (λ (l : List ℕ). length l) (written_is c.self.inside.buf.len c.read.new.buf c.self.inside.buf.items (search rules) (search rules)) ∙ (search rules))
