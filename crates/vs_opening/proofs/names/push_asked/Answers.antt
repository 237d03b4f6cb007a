use Rattle.std.proofs.Common.{◌≡◌, ◌==◌, ◌∷◌, [], true, false, length, ap, sym, subst, ◌∙◌}
use Rattle.vs_opening.specs.Asked.{IsListed, asks_for_all}
use Rattle.vs_opening.proofs.AskedLemmas.{IsAskedBy-all, IsAskedBy-one}
use Rattle.vs_opening.proofs.names.push_asked.Goals as goal
use Rattle.vs_opening.proofs.names.push_asked.Goals.{then-is_empty+in_ok-shards+in_ok-push_shards, else-is_empty+in_ok-name_by+in_ok-push}

pub returns-clause-asked : goal.returns-clause-asked
returns-clause-asked g c = elim c.if-is_empty.branch [
  | then-is_empty+in_ok-shards+in_ok-push_shards w ↦
      let all : asks_for_all c.args.wanted.now ≡ true = ap (λ l. length l == 0) (sym c.as_bytes.ensures) ∙ (sym c.is_empty.ensures ∙ w.if-is_empty.true) in
      let pushed = w.in_ok-push_shards.ensures in
      let listed = subst (λ l. IsListed (g.T.Tablets.cluster c.args.tablets.now) c.args.wanted.now.keyspace l) (sym w.as_slice.ensures.value) w.in_ok-shards.ensures.listed in
      (pushed.0, w.named-is ∙ pushed.1, IsAskedBy-all (g.T.Tablets.cluster c.args.tablets.now) c.args.wanted.now w.as_slice.result.now pushed.0 all listed pushed.2)
  | else-is_empty+in_ok-name_by+in_ok-push w ↦
      let one : asks_for_all c.args.wanted.now ≡ false = ap (λ l. length l == 0) (sym c.as_bytes.ensures) ∙ (sym c.is_empty.ensures ∙ w.if-is_empty.false) in
      (w.in_ok-name_by.field-0 ∷ [], w.named-is ∙ w.in_ok-push.ensures.ok, IsAskedBy-one (g.T.Tablets.cluster c.args.tablets.now) c.args.wanted.now w.in_ok-name_by.field-0 one w.in_ok-name_by.ensures)
]
