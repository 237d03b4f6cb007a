use Rattle.std.proofs.Common.{ap}
use Rattle.vs_entries.specs.Reading.{state_of, work_in}
use Rattle.vs_entries.proofs.Lines.{left_out, map_refused}
use Rattle.vs_entries.proofs.progress.Progress.take_table_map.Goals as goal

pub returns-in-Err : goal.returns-in-Err
returns-in-Err c =
    let told = rw (c.in-Err.is, c.body_of.ensures) at c.put.ensures.told in
    let same = rw c.in-Err.is at c.put.ensures.err in
    left_out c.refused.result c.leave_in.result c.args.self.now _ c.leave_in.new.out _ c.leave_in.ensures (map_refused c.args.keyspace.now c.args.schema.now (state_of c.args.self.now) c.args.event.now c.args.gtid c.args.bytes c.args.self.now.maps (work_in c.args.self.now) c.in-Err.refusal c.refused.result c.args.self.now (record c.args.self.now { maps = c.put.new.self }) (ap (λ m. record c.args.self.now { maps = m }) same) c.refused.ensures told)
