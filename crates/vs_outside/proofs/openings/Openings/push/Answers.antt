use Rattle.std.proofs.Common.{◌-◌, ◌^◌, min, ap, refl}
use Rattle.vs_outside.proofs.OpeningLemmas.{sum_of-push, pushed_is_out, returned_within}
use Rattle.vs_outside.proofs.openings.Openings.push.Goals as goal

pub invariant_of-self : goal.invariant_of-self
invariant_of-self c = record { within = returned_within c.push.new.self.items }

pub returns-clause-lent : goal.returns-clause-lent
returns-clause-lent c = rw c.in_ok-push.ensures.items (pushed_is_out c.args.self.now.openings.items _ c.args.name.now refl c.in_ok-copy.ensures)

pub returns-clause-faults : goal.returns-clause-faults
returns-clause-faults c = rw c.in_ok-push.ensures.items (λ n. ap (λ s. min s (2 ^ 64 - 1)) (sum_of-push (λ o. o.faults) c.args.self.now.openings.items _ refl n))

pub returns-clause-waits : goal.returns-clause-waits
returns-clause-waits c = rw c.in_ok-push.ensures.items (λ n. ap (λ s. min s (2 ^ 64 - 1)) (sum_of-push (λ o. o.waits) c.args.self.now.openings.items _ refl n))

pub returns-clause-returned : goal.returns-clause-returned
returns-clause-returned c = rw c.in_ok-push.ensures.items (sum_of-push (λ _. 1) c.args.self.now.openings.items _ refl)
