use Rattle.std.proofs.Common.{◌<◌, length, ap, sym, subst, ◌∙◌, arith, ⊎_elim, inl, inr}
use Rattle.vs_gtid.specs.Vectors.{Vector, stands}
use Rattle.vs_gather.specs.Gathering.{arrival}
use Rattle.vs_core.specs.Machine.{CoreState}
use Rattle.vs_core.proofs.ArrivalLemmas.{arrival_told, named_at}
use Rattle.vs_core.proofs.gate.Gate.foresees.Goals as goal

pub returns-in-Ok-clause-ok : goal.returns-in-Ok-clause-ok
returns-in-Ok-clause-ok c =
    let s = c.args.self.now in
    let n = c.in-Some.name.now in
    let j = c.args.journal.now in
    let is = sym c.self.view_is in
    let less : c.args.lane < length c.self.inside.states.items = omega (arith, c.self.inside.states.ok.0, c.if-lane-len.false, c.len.ensures) in
    record {
      name = n;
      named = named_at s _ c.deref.result.now c.args.lane c.in-Some.name c.self.view_is c.deref.ensures.value c.in-Some.ensures.lookup;
      lane_there = subst (λ m. c.args.lane < m) (sym (ap (λ (y : CoreState). length y.states) is)) less;
      stands_there = ap (λ (y : CoreState). stands y.vector n) is ∙ ap (λ (v : Vector). stands v n) (sym c.as_vector.ensures) ∙ sym c.stands.ensures ∙ c.if-not-stands.false;
      arrived = c.in-Ok.ensures.0;
      due = ap (λ (y : CoreState). arrival y.vector n j y.kept) is ∙ ap (λ (v : Vector). arrival v n j c.self.inside.gather) (sym c.as_vector-2.ensures) ∙ c.in-Ok.ensures.1;
      completes = c.in-Ok.ensures.2;
    }

pub returns-in-Err-clause-err : goal.returns-in-Err-clause-err
returns-in-Err-clause-err c = λ room.
    let s = c.args.self.now in
    let n = c.in-Some.name.now in
    let j = c.args.journal.now in
    arrival_told s c.args.lane n (named_at s _ c.deref.result.now c.args.lane c.in-Some.name c.self.view_is c.deref.ensures.value c.in-Some.ensures.lookup) room j c.in-Err.e c.told_refusal.result c.told_refusal.ensures
    (⊎_elim (λ m. inl m) (λ due. inr (ap (λ (y : CoreState). arrival y.vector n j y.kept) (sym c.self.view_is) ∙ ap (λ (v : Vector). arrival v n j c.self.inside.gather) (sym c.as_vector-2.ensures) ∙ due)) c.in-Err.ensures)
