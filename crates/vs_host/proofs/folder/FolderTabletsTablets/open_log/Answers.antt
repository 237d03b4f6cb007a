use Rattle.vs_outside.proofs.MemoryLemmas.{failures_of-rose}
use Rattle.vs_host.proofs.folder.FolderTabletsTablets.open_log.Goals as goal

pub returns-in_ok-push_copy-in-Err-Failed-clause-failed : goal.returns-in_ok-push_copy-in-Err-Failed-clause-failed
returns-in_ok-push_copy-in-Err-Failed-clause-failed g c = λ _. failures_of-rose c.args.self.now.failed.items _ c.args.name.now c.in_ok-push_copy-in-Err-Failed.ensures.ok
