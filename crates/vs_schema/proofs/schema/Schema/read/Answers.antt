use Rattle.vs_schema.proofs.Lawful.{lawful_if_read}
use Rattle.vs_schema.proofs.schema.Schema.read.Goals as goal

pub returns-clause-lawful : goal.returns-clause-lawful
returns-clause-lawful c = lawful_if_read c.args.text.now c.read_text.result c.read_text.ensures
