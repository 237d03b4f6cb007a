use Rattle.std.proofs.Common.{◌≡◌, ◌&&◌, Bool, true, false, ap, sym, refl, subst, ◌∙◌}
use Rattle.vs_gather.specs.Gathering.{AreWaiting}
use Rattle.vs_core.specs.Machine.{CoreState}
use Rattle.vs_core.specs.declared.turn.Turn.TheVariants as turn
use Rattle.vs_core.proofs.TurnLemmas.{all_ended, all_rest, ends_done, ends_stuck, goes_on, is_stopped, rests_still, some_wait}
use Rattle.vs_core.proofs.machine.Core.at_rest.Goals as goal
use Rattle.vs_core.proofs.machine.Core.at_rest.Goals.{else-standing-2-via-then-standing-2+else-standing-3, else-standing-2-via-else-standing-2}

pub returns-then-not-until_end : goal.returns-then-not-until_end
returns-then-not-until_end c =
    let s = c.args.self.now in
    rests_still s turn.Nothing refl (goes_on s (ap (λ (y : CoreState). y.until_end) (sym c.self.view_is) ∙ sym c.until_end.ensures ∙ c.if-not-until_end.true))

pub returns-then-standing : goal.returns-then-standing
returns-then-standing c =
    let s = c.args.self.now in
    ends_done s (ap (λ (y : CoreState). y.until_end) (sym c.self.view_is) ∙ sym c.until_end.ensures ∙ c.if-not-until_end.false)
    (ap all_ended (sym c.self.view_is) ∙ sym c.standing-standing.ensures.ended ∙ c.if-standing.true)

pub returns-then-standing-3 : goal.returns-then-standing-3
returns-then-standing-3 c =
    let s = c.args.self.now in
    ends_stuck s c.in_ok-ids.ids (ap (λ (y : CoreState). y.until_end) (sym c.self.view_is) ∙ sym c.until_end.ensures ∙ c.if-not-until_end.false)
    (ap all_ended (sym c.self.view_is) ∙ sym c.standing-standing.ensures.ended ∙ c.if-standing.false)
    (ap all_rest (sym c.self.view_is) ∙ sym c.standing-standing.ensures.rest ∙ c.if-standing-2.true)
    (ap some_wait (sym c.self.view_is) ∙ sym c.standing-standing.ensures.wait ∙ c.if-standing-3.true)
    (subst (λ (y : CoreState). AreWaiting c.in_ok-ids.ids.items y.kept) c.self.view_is c.in_ok-ids.ensures)

not_both : (a b : Bool) → b ≡ false → (a && b) ≡ false
not_both true b is = is
not_both false b is = refl

pub returns : goal.returns
returns c =
    let s = c.args.self.now in
    rests_still s turn.Nothing refl (is_stopped s (ap (λ (y : CoreState). y.until_end) (sym c.self.view_is) ∙ sym c.until_end.ensures ∙ c.if-not-until_end.false)
    (ap all_ended (sym c.self.view_is) ∙ sym c.standing-standing.ensures.ended ∙ c.if-standing.false)
    (elim c.else-standing-2.branch as (λ _. (all_rest s && some_wait s) ≡ false) [
      | else-standing-2-via-then-standing-2+else-standing-3 w ↦ not_both (all_rest s) (some_wait s) (ap some_wait (sym c.self.view_is) ∙ sym c.standing-standing.ensures.wait ∙ w.if-standing-3.false)
      | else-standing-2-via-else-standing-2 w ↦ ap (λ b. b && some_wait s) (ap all_rest (sym c.self.view_is) ∙ sym c.standing-standing.ensures.rest ∙ w.if-standing-2.false)
    ]))
