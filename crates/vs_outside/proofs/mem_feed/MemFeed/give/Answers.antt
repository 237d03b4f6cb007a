use Rattle.std.proofs.Common.{◌+◌, drop, arith}
use Rattle.std.proofs.Math.Seq.{take-add, take-append_seam}
use Rattle.std.proofs.lemmas.List.{take-append-drop}
use Rattle.std.proofs.lemmas.Grind.{common_steps}
use Rattle.vs_outside.proofs.mem_feed.MemFeed.give.Goals as goal

pub returns-clause-gives : goal.returns-clause-gives
returns-clause-gives c =
    let log = c.args.self.now.log.items in
    let at = c.args.self.now.at in
    let n = c.min-n.result in
    let split = take-add at n log in
    let seam = take-append_seam c.copy_from_slice.new.self (drop n c.args.buf.now) in (
      grind (arith, common_steps),
      (drop (at + n) log, take-append-drop (at + n) log),
    )
