use Rattle.std.proofs.Common.{ap, ◌∙◌}
use Rattle.vs_lane.specs.Stands.{Seen}
use Rattle.vs_lane.proofs.Stepping.{checked_on, keeps_on, owes_on}
use Rattle.vs_lane.proofs.lane.Lane.step.Goals as goal

pub answer-piece-requires : goal.answer-piece-requires
answer-piece-requires g c =
    checked_on c.self.inside.name c.self.inside.start c.self.inside.entries c.next_due-came.new.entries c.self.inside.checked c.self.inside.course c.self.invariant c.next_due-came.ensures.later

pub invariant_of-self : goal.invariant_of-self
invariant_of-self g c = keeps_on c.self.inside.name c.self.inside.bound c.self.inside.start c.self.inside.until_end c.self.inside.entries c.next_due-came.new.entries c.self.inside.checked c.answer-piece.new.checked c.self.inside.course c.behind-self-inside.result c.next_due-came.result c.answer-piece.result c.is_entry-at_entry.result c.self.invariant (ap (λ (s : Seen). s.ended) c.self.view_is ∙ c.requires.goes_on) (ap (λ (s : Seen). s.seeks) c.self.view_is ∙ c.requires.found) c.next_due-came.ensures.later c.next_due-came.ensures.comes c.next_due-came.ensures.sound c.answer-piece.ensures.says c.answer-piece.ensures.checked c.is_entry-at_entry.ensures c.behind-self-inside.ensures

pub returns-clause-leads : goal.returns-clause-leads
returns-clause-leads g c = c.law_step.ensures.leads _ _ _ (owes_on c.self.inside.name c.self.inside.bound c.self.inside.start c.self.inside.until_end c.self.inside.entries c.next_due-came.new.entries c.self.inside.checked c.answer-piece.new.checked c.self.inside.course c.behind-self-inside.result c.next_due-came.result c.answer-piece.result c.is_entry-at_entry.result c.self.invariant (ap (λ (s : Seen). s.ended) c.self.view_is ∙ c.requires.goes_on) (ap (λ (s : Seen). s.seeks) c.self.view_is ∙ c.requires.found) c.next_due-came.ensures.later c.next_due-came.ensures.comes c.next_due-came.ensures.sound c.answer-piece.ensures.says c.answer-piece.ensures.checked c.is_entry-at_entry.ensures c.behind-self-inside.ensures c.args.self.now c.self.view_is).0

pub returns-clause-comes : goal.returns-clause-comes
returns-clause-comes g c = (owes_on c.self.inside.name c.self.inside.bound c.self.inside.start c.self.inside.until_end c.self.inside.entries c.next_due-came.new.entries c.self.inside.checked c.answer-piece.new.checked c.self.inside.course c.behind-self-inside.result c.next_due-came.result c.answer-piece.result c.is_entry-at_entry.result c.self.invariant (ap (λ (s : Seen). s.ended) c.self.view_is ∙ c.requires.goes_on) (ap (λ (s : Seen). s.seeks) c.self.view_is ∙ c.requires.found) c.next_due-came.ensures.later c.next_due-came.ensures.comes c.next_due-came.ensures.sound c.answer-piece.ensures.says c.answer-piece.ensures.checked c.is_entry-at_entry.ensures c.behind-self-inside.ensures c.args.self.now c.self.view_is).1
