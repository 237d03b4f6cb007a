use Rattle.std.proofs.Common.{Bool, Some, None, List, ℕ, ap, ap₂, sym, ◌∙◌, if◌then◌else◌}
use Rattle.vs_filter.specs.Picks.{picked_in}
use Rattle.vs_filter.specs.declared.bound.Picked.{Picked}
use Rattle.vs_render.specs.Rendering.{taken_change}
use Rattle.vs_render.proofs.TakeLemmas.{taken_is}
use Rattle.vs_render.proofs.spelled.SpelledRow.spell.Goals as goal

pub returns-in_ok-kept-in-Some-clause-none : goal.returns-in_ok-kept-in-Some-clause-none
returns-in_ok-kept-in-Some-clause-none c =
    λ e. taken_is c.args.bound.now.tables c.in-Some.picked.now c.args.change.now c.in_ok-kept-in-Some.kept (sym (c.in-Some.ensures ∙ ap₂ (λ (ts : List Picked) (n : List ℕ). picked_in ts n) c.as_slice.ensures c.as_bytes.ensures)) c.in_ok-kept-in-Some.ensures.kept ∙ ap (λ (b : Bool). if b then Some (taken_change c.in-Some.picked.now.select c.args.change.now) else None) e

pub returns-in_ok-kept-in-Some-clause-some : goal.returns-in_ok-kept-in-Some-clause-some
returns-in_ok-kept-in-Some-clause-some c = λ e. record {
  change = taken_change c.in-Some.picked.now.select c.args.change.now;
  is = taken_is c.args.bound.now.tables c.in-Some.picked.now c.args.change.now c.in_ok-kept-in-Some.kept (sym (c.in-Some.ensures ∙ ap₂ (λ (ts : List Picked) (n : List ℕ). picked_in ts n) c.as_slice.ensures c.as_bytes.ensures)) c.in_ok-kept-in-Some.ensures.kept ∙ ap (λ (b : Bool). if b then Some (taken_change c.in-Some.picked.now.select c.args.change.now) else None) e;
  spelled = c.in_ok-kept-in-Some.ensures.spelled;
}
