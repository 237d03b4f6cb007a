use Rattle.std.proofs.Common.{◌≡◌, take, drop, ◌++◌, ◌+◌, refl, arith}
use Rattle.std.proofs.Math.Seq.{take-append_seam}
use Rattle.std.proofs.lemmas.List.{take-append-drop}
use Rattle.std.proofs.lemmas.Grind.{common_steps}
use Rattle.vs_outside.proofs.mem_source.MemSourceSource.read.Goals as goal

pub returns-clause-takes : goal.returns-clause-takes
returns-clause-takes c =
    let bytes = c.args.self.now.bytes.items in
    let at = c.args.self.now.at in
    let n = c.min-n.result in
    let seam = take-append_seam c.copy_from_slice.new.self (drop n c.args.buf.now) in
    let split = take-append-drop n (drop at bytes) in
    let is : drop at bytes ≡ take n (c.copy_from_slice.new.self ++ drop n c.args.buf.now) ++ drop (at + n) bytes = grind (arith, common_steps) in
    (take n (c.copy_from_slice.new.self ++ drop n c.args.buf.now), drop (at + n) bytes, is, refl, refl)
