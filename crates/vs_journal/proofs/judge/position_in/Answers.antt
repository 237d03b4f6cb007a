use Rattle.std.proofs.Common.{◌≡◌, false, length, rules, arith}
use Rattle.std.proofs.lemmas.Grind.{common_steps}
use Rattle.vs_journal.specs.Refusals.{is_want_of_memory}
use Rattle.vs_journal.proofs.JudgeLemmas.{position_read, position_refused}
use Rattle.vs_journal.proofs.judge.position_in.Goals as goal

pub returns-in-Ok : goal.returns-in-Ok
returns-in-Ok c =
    let some : length c.args.text.now ≡ 0 → ⊥ = first_of (search rules, grind (arith, common_steps)) in
    position_read c.args.text.now c.in-Ok.set some c.in-Ok.ensures.reads

pub returns-else-is_want_of_memory : goal.returns-else-is_want_of_memory
returns-else-is_want_of_memory c =
    let some : length c.args.text.now ≡ 0 → ⊥ = first_of (search rules, grind (arith, common_steps)) in
    let other : is_want_of_memory c.in-Err.refusal ≡ false = first_of (search rules, grind (arith, common_steps)) in
    position_refused c.args.text.now c.in-Err.refusal some other c.in-Err.ensures.reads
