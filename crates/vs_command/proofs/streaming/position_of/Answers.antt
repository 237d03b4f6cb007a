use Rattle.vs_command.proofs.StreamLemmas.{fits_at_end, started_at_end}
use Rattle.vs_command.proofs.streaming.position_of.Goals as goal

pub returns-in-Current-clause-start : goal.returns-in-Current-clause-start
returns-in-Current-clause-start c =
    started_at_end c.args.fetched.now c.args.start c.as_slice-entries.result.now c.count_at-count.result _ c.in-Current.is c.as_slice-entries.ensures c.count_at-count.ensures.unmarked c.position_behind.ensures

pub returns-in-Current-clause-fits : goal.returns-in-Current-clause-fits
returns-in-Current-clause-fits c current =
    fits_at_end c.args.fetched.now c.as_slice-entries.result.now c.count_at-count.result _ c.requires c.as_slice-entries.ensures c.position_behind.ensures
