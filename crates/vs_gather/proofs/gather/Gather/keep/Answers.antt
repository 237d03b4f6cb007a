use Rattle.std.proofs.Common.{◌≡◌, None, ◌++◌, ◌∷◌, [], ap, subst, sym, ◌∙◌, position}
use Rattle.std.proofs.lemmas.Result.{on_ok_weaker}
use Rattle.std.proofs.Math.ListN.{set}
use Rattle.vs_gather.specs.Gathering.{arrived_of, differs, has_id, kept_of, kept_with}
use Rattle.vs_gather.proofs.KeptLemmas.{kept_again, kept_as, kept_first}
use Rattle.vs_gather.proofs.gather.Gather.keep.Goals as goal

pub returns-in-Some-clause-ok : goal.returns-in-Some-clause-ok
returns-in-Some-clause-ok c =
    let xs = c.self.inside.kept.items in
    let j = c.args.journal in
    let whole = c.self.view_is in
    on_ok_weaker c.add.result
    (λ more. kept_again xs j c.args.shard.now c.in-Some.i c.index_mut.result.now c.add.new.self (ap (position (has_id j.id)) whole ∙ sym c.place_of.ensures ∙ c.in-Some.is) c.index_mut.ensures.value
    (ap (λ l. differs (kept_of j.id l) j) whole ∙ c.requires) c.add.ensures.journal (more ∙ ap (λ n. c.index_mut.result.now.arrived ++ n ∷ []) c.in_ok-name.ensures)
    ∙ ap (λ l. kept_with (kept_as j (arrived_of (kept_of j.id l) ++ c.args.shard.now ∷ [])) l) whole)
    c.add.ensures.ok

pub returns-in_ok-push-in-None-2-clause-ok : goal.returns-in_ok-push-in-None-2-clause-ok
returns-in_ok-push-in-None-2-clause-ok c =
    let xs = c.self.inside.kept.items in
    let j = c.args.journal in
    let whole = c.self.view_is in
    c.in_ok-push-in-None-2.ensures.items
    ∙ ap (λ l. xs ++ kept_as j l ∷ []) (c.in_ok-push-in-None.ensures.ok ∙ ap (λ l. l ++ c.in_ok-name.name ∷ []) c.new-arrived.ensures ∙ ap (λ n. n ∷ []) c.in_ok-name.ensures)
    ∙ kept_first xs j c.args.shard.now (ap (position (has_id j.id)) whole ∙ sym c.place_of.ensures ∙ c.in-None.is)
    ∙ ap (λ l. kept_with (kept_as j (arrived_of (kept_of j.id l) ++ c.args.shard.now ∷ [])) l) whole
