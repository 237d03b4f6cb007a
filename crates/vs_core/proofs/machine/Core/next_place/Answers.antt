use Rattle.std.proofs.Common.{◌<◌, ℕ, length, map, ap, sym, subst, ◌∙◌, slice_get, arith}
use Rattle.vs_pace.specs.Heads.{IsNext}
use Rattle.vs_pace.specs.declared.head.Head.{Head}
use Rattle.vs_core.specs.Choices.{heads_below}
use Rattle.vs_core.specs.Machine.{CoreState}
use Rattle.vs_core.proofs.NextLemmas.{chosen_at, front_at}
use Rattle.vs_core.proofs.ScanLemmas.{item_at}
use Rattle.vs_core.proofs.machine.Core.next_place.Goals as goal

pub returns-then-lane-lanes : goal.returns-then-lane-lanes
returns-then-lane-lanes c =
    let x = c.in-Some.field-0.now in
    let s = c.args.self.now in
    let is = sym c.self.view_is in
    let less : x.0 < length c.self.inside.gate.names = omega (arith, c.if-lane-lanes.true, c.lanes-lanes.ensures) in
    front_at s.flags.max_skew (length s.names) s.held x.0 x.1
    (ap (λ (y : CoreState). y.flags.max_skew) is ∙ sym c.max_skew-skew.ensures ∙ c.if-skew-eq0.true)
    (ap (λ (y : CoreState). slice_get y.held 0) is ∙ item_at c.self.inside.held.items 0 c.in-Some.field-0 c.in-Some.ensures.item)
    (subst (λ n. x.0 < n) (sym (ap (λ (y : CoreState). length y.names) is)) less)

pub returns-in-Some-Some : goal.returns-in-Some-Some
returns-in-Some-Some c =
    let s = c.args.self.now in
    let is = sym c.self.view_is in
    let count = c.lanes-lanes.ensures ∙ sym (ap (λ (y : CoreState). length y.names) is) in
    let held_is = sym (ap (λ (y : CoreState). y.held) is) in
    let skew_is = c.max_skew-skew.ensures ∙ sym (ap (λ (y : CoreState). y.flags.max_skew) is) in
    let heads = c.in_ok-heads.heads.heads.items in
    let lanes = c.in_ok-heads.heads.lanes.items in
    chosen_at s.flags.max_skew (length s.names) s.held lanes heads c.in-Some-choose.i c.in-Some-Some.lane.now c.in-Some-Some.head.now
    (c.in_ok-heads.ensures.lanes ∙ ap (λ n. map (λ (h : ℕ × Head). h.0) (heads_below n c.self.inside.held.items)) count ∙ ap (λ l. map (λ (h : ℕ × Head). h.0) (heads_below (length s.names) l)) held_is)
    (c.in_ok-heads.ensures.heads ∙ ap (λ n. map (λ (h : ℕ × Head). h.1) (heads_below n c.self.inside.held.items)) count ∙ ap (λ l. map (λ (h : ℕ × Head). h.1) (heads_below (length s.names) l)) held_is)
    (subst (λ n. IsNext n heads c.in-Some-choose.i) skew_is (subst (λ l. IsNext c.max_skew-skew.result l c.in-Some-choose.i) c.as_slice.ensures.value c.in-Some-choose.ensures))
    (ap (λ l. slice_get l c.in-Some-choose.i) (sym c.deref.ensures.value) ∙ item_at c.deref.result.now c.in-Some-choose.i c.in-Some-Some.lane c.in-Some-Some.ensures.lookup)
    (ap (λ l. slice_get l c.in-Some-choose.i) (sym c.deref-in-Some-choose.ensures.value) ∙ item_at c.deref-in-Some-choose.result.now c.in-Some-choose.i c.in-Some-Some.head c.in-Some-Some.ensures'.lookup)
