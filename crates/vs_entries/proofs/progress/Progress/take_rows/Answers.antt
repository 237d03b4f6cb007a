use Rattle.std.proofs.Common.{ap}
use Rattle.vs_binlog.specs.declared.event.Head.{Head}
use Rattle.vs_entries.specs.Reading.{counted_in, state_of, work_in}
use Rattle.vs_entries.proofs.Lines.{left_out, rows_not_added, rows_refused, rows_taken}
use Rattle.vs_entries.proofs.progress.Progress.take_rows.Goals as goal

pub returns-in-Err : goal.returns-in-Err
returns-in-Err c =
    left_out c.in-Err.refusal c.leave_in.result c.args.self.now c.args.self.now c.leave_in.new.out _ c.leave_in.ensures
    (rows_refused c.args.keyspace.now (state_of c.args.self.now) c.args.event.now c.args.gtid c.args.bytes c.args.self.now.maps (work_in c.args.self.now) c.in-Err.refusal c.read_head-kind.result.kind c.args.self.now
    (ap (λ (h : Head). h.kind) c.read_head-kind.ensures) (rw c.body_of.ensures at c.in-Err.ensures))
