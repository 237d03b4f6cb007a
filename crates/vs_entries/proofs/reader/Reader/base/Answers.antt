use Rattle.std.proofs.Common.{◌≡◌, true, false, [], sym, subst}
use Rattle.std.specs.Prelude.{◌⊎◌}
use Rattle.vs_log.specs.Meaning.{knows_base}
use Rattle.vs_entries.specs.Pieces.{Fed, log_fed, rules_fed}
use Rattle.vs_entries.proofs.WalkLemmas.{knows, knows_not}
use Rattle.vs_entries.proofs.reader.Reader.base.Goals.{then-self-via-then-self, then-self-via-else-self+then-not-is_early}
use Rattle.vs_entries.proofs.reader.Reader.base.Goals as goal

pub returns-then-self : goal.returns-then-self
returns-then-self c =
    subst (λ (f : Fed). (knows_base (rules_fed f) f.bytes ≡ true) × (c.self.inside.walk.progress.base ≡ (log_fed f).base)) c.self.view_is
    (knows c.laws.ensures _ _ _ c.self.inside.refused c.self.invariant.over.is (elim c.then-self.branch [
      | then-self-via-then-self w ↦ ◌⊎◌.inl w.if-self.true
      | then-self-via-else-self+then-not-is_early w ↦ ◌⊎◌.inr (sym w.if-not-is_early.ensures)
    ]))

pub returns : goal.returns
returns c =
    subst (λ (f : Fed). (knows_base (rules_fed f) f.bytes ≡ false) × ((log_fed f).base ≡ [])) c.self.view_is
    (knows_not c.laws.ensures _ _ _ c.self.inside.refused c.self.invariant.over.is c.if-self.false (sym c.if-not-is_early.ensures))
