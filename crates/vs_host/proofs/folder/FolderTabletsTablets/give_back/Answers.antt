use Rattle.std.proofs.Common.{arith}
use Rattle.vs_outside.specs.Openings.{faults_of, waits_of}
use Rattle.vs_outside.proofs.CountLemmas.{none_fell_raised}
use Rattle.vs_host.proofs.folder.FolderTabletsTablets.give_back.Goals as goal

pub returns-clause-faults_later : goal.returns-clause-faults_later
returns-clause-faults_later g c =
    none_fell_raised c.args.name.now (faults_of c.args.self.now.openings.openings.items) (faults_of c.add.new.self.openings.items) c.faults.result (λ n. omega arith) c.add.ensures.faults c.add.ensures.other_faults

pub returns-clause-waits_later : goal.returns-clause-waits_later
returns-clause-waits_later g c =
    none_fell_raised c.args.name.now (waits_of c.args.self.now.openings.openings.items) (waits_of c.add.new.self.openings.items) 0 (λ n. omega arith) c.add.ensures.waits c.add.ensures.other_waits
