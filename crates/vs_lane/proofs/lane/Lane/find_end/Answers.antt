use Rattle.std.proofs.Common.{refl, ap, ◌∙◌}
use Rattle.vs_lane.specs.Stands.{Seen}
use Rattle.vs_lane.proofs.Starting.{finds_start, has_no_start}
use Rattle.vs_lane.proofs.lane.Lane.find_end.Goals as goal

pub returns-in-Ok-clause-finds : goal.returns-in-Ok-clause-finds
returns-in-Ok-clause-finds g c =
    finds_start c.self.inside.name c.self.inside.bound c.self.inside.start c.self.inside.until_end c.self.inside.entries c.seek_end.new.entries c.self.inside.checked c.self.inside.course c.self.invariant
    (ap (λ (s : Seen). s.ended) c.self.view_is ∙ c.requires.goes_on) c.seek_end.ensures.later c.seek_end.ensures.sound c.in-Ok-Some.start c.in-Ok.copied (rw c.in-Ok-Some.field-0-is at c.in-Ok-Some.ensures.finds) c.in-Ok.ensures.same c.args.self.now c.self.view_is

pub returns-in-Err-clause-finds : goal.returns-in-Err-clause-finds
returns-in-Err-clause-finds g c = (
  refl,
  has_no_start c.self.inside.name c.self.inside.bound c.self.inside.start c.self.inside.until_end c.self.inside.entries c.seek_end.new.entries c.self.inside.checked c.self.inside.course c.self.invariant
      (ap (λ (s : Seen). s.ended) c.self.view_is ∙ c.requires.goes_on) c.seek_end.ensures.later c.seek_end.ensures.sound c.in-Err.cause c.in-Err.ensures.finds c.args.self.now c.self.view_is,
)
