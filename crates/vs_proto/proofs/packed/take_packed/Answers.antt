use Rattle.std.proofs.Common.{◌≡◌, ◌+◌, ◌∷◌, ◌++◌, [], ap, sym, ◌∙◌, arith, length, length-append, length-drop}
use Rattle.std.specs.Int.{w64}
use Rattle.std.proofs.lemmas.Int.{to_z-of_z}
use Rattle.std.proofs.Common.{rules}
use Rattle.vs_wire.specs.Varint.{varint_in}
use Rattle.vs_proto.specs.Kinds.{unzigzag}
use Rattle.vs_proto.proofs.PackedLemmas.{packed_on, packed_fault, packed_end, ok_within, fault_within}
use Rattle.vs_proto.proofs.packed.take_packed.Goals as goal

pub loop-at-preserved : goal.loop-at-preserved
loop-at-preserved c =
    let known = c.loop-at.invariant in
    let inside = c.loop-at-test.true in
    let takes = c.in-Ok.ensures.within in
    let back = to_z-of_z w64 c.signed_of.result (search rules) in
    let grown : c.push.new.self ≡ c.loop-at.slot ++ unzigzag c.in-Ok.n ∷ [] =
    c.in_ok-push-in-Ok.ensures.ok ∙ ap (λ z. c.loop-at.slot ++ z ∷ []) (back ∙ c.signed_of.ensures) in
    let more : length c.push.new.self ≡ length c.loop-at.slot + 1 = ap length grown ∙ length-append c.loop-at.slot (unzigzag c.in-Ok.n ∷ []) in
    let left = length-drop c.loop-at.at c.args.bytes.now in
    let rest = ap length c.split_at.ensures.back in
    let read = ap varint_in (sym c.split_at.ensures.back) ∙ ok_within _ _ c.in-Ok.ensures.value in
    record {
      within = omega arith;
      begun = omega arith;
      few = omega arith;
      same = packed_on c.args.bytes.now c.loop-at.slot c.push.new.self (length c.args.slot.now) c.loop-at.at c.in-Ok.n c.in-Ok.taken _ inside known.few read known.same grown;
    }

pub returns-in-Err : goal.returns-in-Err
returns-in-Err c =
    let known = c.loop-at.invariant in
    let fault = fault_within c.in-Err.why _ c.in-Err.ensures.value in
    let read = ap varint_in (sym c.split_at.ensures.back) ∙ fault.1 in
    rw (c.moved.ensures fault.0 fault.2)
    (packed_fault c.args.bytes.now c.loop-at.slot (length c.args.slot.now) c.loop-at.at fault.0 _ c.loop-at-test.true known.few read known.same)

pub returns : goal.returns
returns c = packed_end c.args.bytes.now c.loop-at.slot _ c.loop-at.at _ c.loop-at-test.false c.loop-at.invariant.same
