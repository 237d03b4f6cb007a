use Rattle.std.proofs.Common.{◌++◌, ◌∷◌, [], ◌+◌, ◌%◌, arith}
use Rattle.vs_wire.proofs.VarintLemmas.{appended, spelled_on, spelled_whole}
use Rattle.vs_wire.proofs.varint.push_varint.Goals as goal

pub loop-rest-preserved : goal.loop-rest-preserved
loop-rest-preserved c =
    let known = c.loop-rest.invariant in
    let rest = c.loop-rest.rest in
    (known.0 ++ (128 + rest % 128) ∷ [], appended _ known.0 _ _ _ known.1 c.in_ok-push.ensures.items, spelled_on known.0 _ rest (omega arith) (omega arith) known.2)

pub returns-clause-ok : goal.returns-clause-ok
returns-clause-ok c =
    let known = c.loop-rest.invariant in
    spelled_whole _ known.0 _ _ _ c.loop-rest.rest (omega arith) known.2 known.1 c.in_ok-push-2.ensures.items
