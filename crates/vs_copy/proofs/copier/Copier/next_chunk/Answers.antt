use Rattle.std.proofs.Common.{[], ◌∷◌, ◌++◌, Some, ap, subst, sym, ◌∙◌}
use Rattle.vs_copy.specs.Chunks.{HasNext, TellsNext, next_told}
use Rattle.vs_copy.specs.CopiedTables.{AreKeyed}
use Rattle.vs_base.specs.declared.change.LastKey.{LastKey}
use Rattle.vs_copy.specs.Copying.{CopyState}
use Rattle.vs_copy.specs.Runs.{CopyTurn, HasRun, all_applied}
use Rattle.vs_copy.specs.Runs.HasRun.{sends_more}
use Rattle.vs_copy.proofs.RunLemmas.{run_applied}
use Rattle.vs_copy.proofs.NextLemmas.{next_is}
use Rattle.vs_copy.proofs.copier.Copier.next_chunk.Goals as goal

pub returns-in_default-clause-rows : goal.returns-in_default-clause-rows
returns-in_default-clause-rows c = λ changes applied.
    let s = c.args.self.now in
    sym (next_is s changes applied (subst (λ (x : CopyState). AreKeyed x.copied) c.self.view_is c.self.invariant))
    ∙ subst (TellsNext (next_told s)) c.in_default.is (c.in_ok-chunk.ensures changes applied)

pub returns-clause-rows : goal.returns-clause-rows
returns-clause-rows c = λ changes applied.
    let s = c.args.self.now in
    subst (λ next. HasNext next c.in-Some.chunk) (next_is s changes applied (subst (λ (x : CopyState). AreKeyed x.copied) c.self.view_is c.self.invariant))
    (subst (TellsNext (next_told s)) c.in-Some.is (c.in_ok-chunk.ensures changes applied))

pub returns-clause-run : goal.returns-clause-run
returns-clause-run c = λ turns run.
    let s = c.args.self.now in
    let next = subst (λ next. HasNext next c.in-Some.chunk) (next_is s (all_applied turns) (run_applied turns s run) (subst (λ (x : CopyState). AreKeyed x.copied) c.self.view_is c.self.invariant))
    (subst (TellsNext (next_told s)) c.in-Some.is (c.in_ok-chunk.ensures (all_applied turns) (run_applied turns s run))) in
    let sent = sends_more c.in-Some.chunk run next in
    let inside : CopyState = record { applied = c.self.inside.tables; copied = c.self.inside.copied; last = c.self.inside.last } in
    subst (HasRun (turns ++ CopyTurn.Sends c.in-Some.chunk ∷ []))
    (ap (λ (x : CopyState). record x { last = Some c.in-Some.chunk.last_key }) (sym c.self.view_is)
    ∙ ap (λ (l : LastKey). record inside { last = Some l }) (sym c.in_ok-copy.ensures)) sent
