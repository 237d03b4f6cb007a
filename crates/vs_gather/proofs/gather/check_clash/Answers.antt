use Rattle.std.proofs.Common.{◌≡◌, List, Some, is_some, rules, ap, sym, ◌∙◌, inr, true≢false, to_z, of_z, w64}
use Rattle.std.specs.List.{find}
use Rattle.vs_gtid.specs.declared.JournalValue.{JournalValue}
use Rattle.vs_gtid.specs.declared.Successor.{Successor}
use Rattle.vs_gtid.specs.Vectors.{Vector, stands}
use Rattle.vs_gather.specs.Gathering.{clash, clash_of}
use Rattle.vs_gather.specs.declared.refusal.GatherRefusal.TheVariants.{Clash}
use Rattle.vs_gather.proofs.gather.check_clash.Goals as goal

-- the first successor that stands there is the clash
the_clash : (v : Vector) (j : JournalValue) (n : Successor) (ns : List Successor) → Some n ≡ find (λ m. stands v m.name) ns → ns ≡ j.successors → Some (Clash j.id n.name) ≡ clash v j
the_clash v j n ns e is = ap (clash_of j) (e ∙ ap (find (λ m. stands v m.name)) is)

pub returns-in_err-copy-in-Some-clause-sure : goal.returns-in_err-copy-in-Some-clause-sure
returns-in_err-copy-in-Some-clause-sure c = λ none. absurd (true≢false (ap is_some (the_clash c.args.vector.now c.args.journal.now c.in-Some.successor.now c.as_slice.result.now c.in-Some.ensures c.as_slice.ensures ∙ none)))

pub returns-in_ok-copy-in-Some-clause-err : goal.returns-in_ok-copy-in-Some-clause-err
returns-in_ok-copy-in-Some-clause-err c =
    let back : to_z w64 (of_z w64 c.args.journal.now.id) ≡ c.args.journal.now.id = search rules in
    inr (sym (the_clash c.args.vector.now c.args.journal.now c.in-Some.successor.now c.as_slice.result.now c.in-Some.ensures c.as_slice.ensures) ∙ ap (λ m. Some (Clash c.args.journal.now.id m)) (sym c.in_ok-copy-in-Some.ensures) ∙ ap (λ i. Some (Clash i c.in_ok-copy-in-Some.field-0)) (sym back))

pub returns-in_ok-copy-in-Some-clause-sure : goal.returns-in_ok-copy-in-Some-clause-sure
returns-in_ok-copy-in-Some-clause-sure c = λ none. absurd (true≢false (ap is_some (the_clash c.args.vector.now c.args.journal.now c.in-Some.successor.now c.as_slice.result.now c.in-Some.ensures c.as_slice.ensures ∙ none)))
