use Rattle.std.proofs.Common.{◌≡◌, ◌<◌, false, Err, length, ap, sym, subst, ◌∙◌, arith}
use Rattle.std.proofs.lemmas.List.Elements.{All-get_or}
use Rattle.std.proofs.lemmas.Result.{err_from_is_err_and}
use Rattle.vs_request.specs.declared.request.Wanted.{Wanted}
use Rattle.vs_opening.specs.Asked.{IsAskedBy, IsUnlisted, asks_for_all}
use Rattle.vs_opening.proofs.AskedLemmas.{AreAsked-more, stops_there}
use Rattle.vs_opening.proofs.OutsideLemmas.{lists-then}
use Rattle.vs_opening.proofs.names.ask_all.Goals as goal

pub returns-in_err-push_asked-clause-cause : goal.returns-in_err-push_asked-clause-cause
returns-in_err-push_asked-clause-cause g c =
    let p = err_from_is_err_and c.from_residual.result c.from_residual.ensures.1 in
    let end = c.in_err-push_asked.field-0.0 in
    let is : c.from_residual.result ≡ Err end = p.1 ∙ ap (λ x. Err x) p.2 in
    let inside : c.loop-wanted.wanted-index < length c.args.entries.now = omega arith in
    let unlisted = subst (λ t. IsUnlisted t c.wanted-item.result end) c.loop-wanted.invariant.only.same_cluster c.in_err-push_asked.ensures.unlisted in
    rw is (stops_there (g.T.Tablets.cluster c.args.tablets.now) c.args.entries.now c.loop-wanted.wanted-index c.wanted-item.result c.loop-wanted.named end inside c.wanted-item.is
    c.loop-wanted.invariant.asked unlisted)

pub loop-wanted-preserved : goal.loop-wanted-preserved
loop-wanted-preserved g c =
    let part = c.in_ok-push_asked.ensures.asked in
    let inside : c.loop-wanted.wanted-index < length c.args.entries.now = omega arith in
    let by = subst (λ t. IsAskedBy t c.wanted-item.result part.0) c.loop-wanted.invariant.only.same_cluster part.2 in
    record {
      asked = AreAsked-more (g.T.Tablets.cluster c.args.tablets.now) c.args.entries.now c.loop-wanted.wanted-index c.wanted-item.result c.loop-wanted.named c.push_asked.new.named part.0 inside c.wanted-item.is
          c.loop-wanted.invariant.asked part.1 by;
      quiet = λ all.
          c.push_asked.ensures.quiet (subst (λ (w : Wanted). asks_for_all w ≡ false) (sym c.wanted-item.is) (All-get_or (λ (w : Wanted). asks_for_all w ≡ false) c.args.entries.now c.loop-wanted.wanted-index c.wanted-item.result inside all))
          ∙ c.loop-wanted.invariant.quiet all;
      only = lists-then g.T.Tablets.cluster g.T.Tablets.opened g.T.Tablets.returned g.T.Tablets.faults g.T.Tablets.waits g.T.Tablets.open_faults g.T.Tablets.list_faults g.T.Tablets.pattern_faults g.T.Tablets.folder g.T.Tablets.sound
          c.args.tablets.now c.loop-wanted.tablets c.push_asked.new.tablets c.loop-wanted.invariant.only c.push_asked.ensures.only;
    }
