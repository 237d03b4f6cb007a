use Rattle.vs_render.proofs.FieldLemmas.{turned}
use Rattle.vs_render.proofs.spelling.bring_forward.Goals as goal

pub returns-clause-items : goal.returns-clause-items
returns-clause-items c = turned c.args.bytes.now c.rotate_right.new.self c.args.start c.args.end c.requires.ordered c.requires.within c.rotate_right.ensures.after
