use Rattle.std.proofs.Common.{◌≡◌, false, ◌++◌, ◌∷◌, suc, drop, ap, sym, subst, ◌∙◌}
use Rattle.std.proofs.Math.Seq.{drop-cons}
use Rattle.vs_gtid.specs.Vectors.{begun_at, stands}
use Rattle.vs_vector.proofs.ChangeLemmas.{IsJoining, joining-absent}
use Rattle.vs_vector.proofs.vector.Vector.append_all.Goals as goal

pub append-requires-clause-absent : goal.append-requires-clause-absent
append-requires-clause-absent c =
    let i = c.loop-successor.successor-index in
    let ns = c.args.successors.now in
    let n = c.successor-item.result in
    let left = drop-cons ns i n c.loop-successor-test.true ∙ ap (λ m. m ∷ drop (suc i) ns) (sym c.successor-item.is) in
    let all = c.args.self.now ++ begun_at ns in
    subst (λ m. stands c.loop-successor.self m ≡ false) (sym c.in_ok-copy-2.ensures)
    (joining-absent c.loop-successor.self n (drop (suc i) ns) all (subst (λ l. IsJoining c.loop-successor.self l all) left c.loop-successor.invariant))
