use Rattle.std.proofs.Common.{◌∙◌}
use Rattle.vs_columns.proofs.DecimalLemmas.{plain_kept, plain_flipped}
use Rattle.vs_columns.proofs.decimal.make_plain.Goals as goal
use Rattle.vs_columns.proofs.decimal.make_plain.Goals.{then-bytes-lt128, else-bytes-lt128}

pub returns : goal.returns
returns c =
    elim c.if-bytes-lt128.branch [
      | then-bytes-lt128 w ↦ plain_flipped c.args.bytes.now c.if-bytes-lt128.bytes c.requires w.if-bytes-lt128.true (w.bytes-is ∙ w.flip.ensures)
      | else-bytes-lt128 w ↦ plain_kept c.args.bytes.now c.if-bytes-lt128.bytes c.requires w.if-bytes-lt128.false w.bytes-is
    ]
