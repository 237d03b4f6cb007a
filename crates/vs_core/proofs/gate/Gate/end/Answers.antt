use Rattle.std.proofs.Common.{ap, sym, subst, ◌∙◌, slice_get}
use Rattle.vs_render.specs.declared.piece.EndCause.{EndCause}
use Rattle.vs_render.specs.declared.piece.EndCause.TheVariants as cause
use Rattle.vs_render.specs.declared.piece.Piece.TheVariants as piece
use Rattle.vs_core.specs.Machine.{handled_of}
use Rattle.vs_core.specs.Tells.{IsHandled}
use Rattle.vs_core.proofs.gate.Gate.end.Goals as goal

pub returns-in-AtEnd : goal.returns-in-AtEnd
returns-in-AtEnd c = λ room.
    let s = c.args.self.now in
    let out = c.args.out.now.items in
    subst (λ (x : EndCause). IsHandled c.args.lane (handled_of s c.args.lane (slice_get s.names c.args.lane) (piece.End x room)) s c.at_end.new.self out out c.at_end.result) (sym c.in-AtEnd.is) (c.at_end.ensures room out)

pub returns-in-OwnJournal : goal.returns-in-OwnJournal
returns-in-OwnJournal c = λ room.
    let s = c.args.self.now in
    subst (λ (x : EndCause). IsHandled c.args.lane (handled_of s c.args.lane (slice_get s.names c.args.lane) (piece.End x room)) s c.own_journal.new.self c.args.out.now.items c.own_journal.new.out.items c.own_journal.result)
    (sym c.in-OwnJournal.is) (c.own_journal.ensures room)

pub returns-in-FeedFault : goal.returns-in-FeedFault
returns-in-FeedFault c = λ room.
    let s = c.args.self.now in
    let out = c.args.out.now.items in
    subst (λ (x : EndCause). IsHandled c.args.lane (handled_of s c.args.lane (slice_get s.names c.args.lane) (piece.End x room)) s c.feed_fault.new.self out out c.feed_fault.result) (sym c.in-FeedFault.is) (c.feed_fault.ensures room out)

pub returns-in_ok-why-in-BadLog : goal.returns-in_ok-why-in-BadLog
returns-in_ok-why-in-BadLog c = λ room.
    let s = c.args.self.now in
    let out = c.args.out.now.items in
    subst (λ (x : EndCause). IsHandled c.args.lane (handled_of s c.args.lane (slice_get s.names c.args.lane) (piece.End x room)) s s out out c.refuse.result)
    (ap (cause.BadLog c.in-BadLog.offset) c.in_ok-why-in-BadLog.ensures ∙ sym c.in-BadLog.is) (c.refuse.ensures room out)

pub returns-in-Purged : goal.returns-in-Purged
returns-in-Purged c = λ room.
    let s = c.args.self.now in
    let out = c.args.out.now.items in
    subst (λ (x : EndCause). IsHandled c.args.lane (handled_of s c.args.lane (slice_get s.names c.args.lane) (piece.End x room)) s s out out c.refuse-in-Purged.result) (sym c.in-Purged.is) (c.refuse-in-Purged.ensures room out)

pub returns-in-Memory : goal.returns-in-Memory
returns-in-Memory c = λ room.
    let s = c.args.self.now in
    let out = c.args.out.now.items in
    subst (λ (x : EndCause). IsHandled c.args.lane (handled_of s c.args.lane (slice_get s.names c.args.lane) (piece.End x room)) s s out out c.refuse-in-Memory.result) (sym c.in-Memory.is) (c.refuse-in-Memory.ensures room out)
