use Rattle.std.proofs.Common.{sym, subst, slice_get}
use Rattle.vs_render.specs.declared.piece.Piece.{Piece}
use Rattle.vs_core.specs.Machine.{handled_of}
use Rattle.vs_core.specs.Tells.{IsHandled}
use Rattle.vs_core.proofs.gate.Gate.handle.Goals as goal

pub returns-in-CopyDone : goal.returns-in-CopyDone
returns-in-CopyDone c =
    let s = c.args.self.now in
    subst (λ (x : Piece). IsHandled c.args.lane (handled_of s c.args.lane (slice_get s.names c.args.lane) x) s c.copy_done.new.self c.args.out.now.items c.copy_done.new.out.items c.copy_done.result)
    (sym c.in-CopyDone.is) (c.copy_done.ensures c.in-CopyDone.room)

pub returns-in-Idle : goal.returns-in-Idle
returns-in-Idle c =
    let s = c.args.self.now in
    let out = c.args.out.now.items in
    subst (λ (x : Piece). IsHandled c.args.lane (handled_of s c.args.lane (slice_get s.names c.args.lane) x) s s out out c.idle.result) (sym c.in-Idle.is) (c.idle.ensures c.in-Idle.room out)

pub returns-in-End : goal.returns-in-End
returns-in-End c =
    let s = c.args.self.now in
    subst (λ (x : Piece). IsHandled c.args.lane (handled_of s c.args.lane (slice_get s.names c.args.lane) x) s c.end.new.self c.args.out.now.items c.end.new.out.items c.end.result)
    (sym c.in-End.is) (c.end.ensures c.in-End.room)
