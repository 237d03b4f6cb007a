use Rattle.std.proofs.Common.{◌≡◌, sym, ◌∙◌, subst, Some}
use Rattle.vs_outside.specs.Clusters.{find_shard}
use Rattle.vs_outside.specs.Memory.{cluster_of}
use Rattle.vs_outside.proofs.MemoryLemmas.{failures_of-rose, quiet_before}
use Rattle.vs_outside.proofs.mem_tablets.MemTabletsTablets.open_log.Goals as goal

pub returns-then-fails_at-clause-failed : goal.returns-then-fails_at-clause-failed
returns-then-fails_at-clause-failed c = λ _. failures_of-rose c.args.self.now.failed.items _ c.args.name.now c.in_ok-push_copy.ensures.ok

pub invariant_of-self-in-Break-branch-4 : goal.invariant_of-self-in-Break-branch-4
invariant_of-self-in-Break-branch-4 c = record {
  quiet = λ quiet.
      let none = c.args.self.now.quiet quiet in
      (λ n. c.in_err-push.ensures.faults n ∙ none.0 n, none.1, none.2);
}

pub invariant_of-self-2 : goal.invariant_of-self-2
invariant_of-self-2 c = record {
  quiet = λ quiet.
      let none = c.args.self.now.quiet (quiet_before c.args.self.now.held.items c.advance.new.held.items c.args.self.now.fetches.items c.args.self.now.fetches.items c.args.self.now.lists.items c.args.self.now.lists.items
      (λ e. sym c.advance.ensures.quiet ∙ e) (λ e. e) (λ e. e) quiet)
      in
      (λ n. c.in_ok-push.ensures.faults n ∙ none.0 n, none.1, none.2);
}

pub returns-clause-log : goal.returns-clause-log
returns-clause-log c = λ cluster told.
    let same : cluster_of c.args.self.now.held.items ≡ cluster = cc in
    let found = rw (c.in-Some.is, c.deref-2.ensures.value) at c.in_ok-opened.ensures.log in
    (found.0, subst (λ k. find_shard k c.args.name.now ≡ Some found.0) same found.1, found.2, found.3, found.4)
