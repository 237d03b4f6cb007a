use Rattle.std.proofs.Common.{◌≡◌, None, ap, sym, subst}
use Rattle.vs_gtid.specs.declared.Entry.{Entry}
use Rattle.vs_model.specs.Logs.{own_journal}
use Rattle.vs_render.specs.Bodies.{HeldBody}
use Rattle.vs_lane.specs.Answers.{GivesPiece}
use Rattle.vs_lane.proofs.piece.piece_of.Goals as goal

pub returns-in-Ok-render-clause-piece : goal.returns-in-Ok-render-clause-piece
returns-in-Ok-render-clause-piece c =
    subst (λ (e : Entry). GivesPiece c.args.name.now c.args.bound.now e c.args.at c.with_body.result) c.in-Ok.ensures.0
    (c.with_body.ensures.piece c.args.name.now c.args.bound.now c.args.at (ap (λ (b : HeldBody). b.body) c.in-Ok-render.ensures.body)
    (subst (λ (e : Entry). own_journal c.args.name.now e ≡ None) (sym c.in-Ok.ensures.0) c.in-Ok.ensures.1))
