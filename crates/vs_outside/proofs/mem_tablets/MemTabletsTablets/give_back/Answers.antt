use Rattle.std.proofs.Common.{◌∙◌, arith}
use Rattle.vs_outside.specs.Openings.{faults_of, waits_of}
use Rattle.vs_outside.specs.Scripts.{has_no_failure, has_no_faults}
use Rattle.vs_outside.proofs.CountLemmas.{none_fell_raised}
use Rattle.vs_outside.proofs.OpeningLemmas.{no_faults-add}
use Rattle.vs_outside.proofs.mem_tablets.MemTabletsTablets.give_back.Goals as goal

pub invariant_of-self : goal.invariant_of-self
invariant_of-self c = record {
  quiet = λ quiet.
      let none = c.args.self.now.quiet quiet in
      let feed_none = c.faults.ensures ∙ has_no_faults (has_no_failure c.args.feed.script.items) c.args.feed.faults (c.requires.sound quiet) in
      (no_faults-add (faults_of c.args.self.now.openings.openings.items) (faults_of c.add.new.self.openings.items) c.args.name.now _ c.add.ensures.faults (omega (arith, feed_none)) c.add.ensures.other_faults none.0, none.1, none.2);
}

pub returns-clause-faults_later : goal.returns-clause-faults_later
returns-clause-faults_later c =
    none_fell_raised c.args.name.now (faults_of c.args.self.now.openings.openings.items) (faults_of c.add.new.self.openings.items) c.faults.result (λ n. omega arith) c.add.ensures.faults c.add.ensures.other_faults

pub returns-clause-waits_later : goal.returns-clause-waits_later
returns-clause-waits_later c =
    none_fell_raised c.args.name.now (waits_of c.args.self.now.openings.openings.items) (waits_of c.add.new.self.openings.items) c.waits.result (λ n. omega arith) c.add.ensures.waits c.add.ensures.other_waits
