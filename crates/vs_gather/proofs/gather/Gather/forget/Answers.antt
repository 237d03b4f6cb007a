use Rattle.std.proofs.Common.{rules, not, ap, ◌∙◌}
use Rattle.std.proofs.lemmas.Fn.{filter_same}
use Rattle.vs_gather.specs.Gathering.{has_id, kept_without}
use Rattle.vs_gather.proofs.gather.Gather.forget.Goals as goal

pub returns : goal.returns
returns c =
    filter_same _ (λ k. not (has_id c.args.id k)) _ (λ x b g call. search rules) c.self.inside.kept.items c.retain.new.self.items c.retain.ensures.filtered ∙ ap (kept_without c.args.id) c.self.view_is
