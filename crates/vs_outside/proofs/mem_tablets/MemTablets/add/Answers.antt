use Rattle.std.proofs.Common.{◌≡◌, ℕ, Some, ◌∙◌, true, false, Bool, List, [], ◌∷◌, ◌++◌, cond, ap, subst, refl, is_ok}
use Rattle.std.specs.List.{list_all}
use Rattle.std.proofs.lemmas.List.{map-append}
use Rattle.vs_base.specs.declared.shard_name.ShardName.{ShardName}
use Rattle.vs_outside.specs.Clusters.{Shard}
use Rattle.vs_outside.specs.Memory.{cluster_of, shard_of, holds_no_failure}
use Rattle.vs_outside.specs.declared.mem_shard.Held.{Held}
use Rattle.vs_outside.proofs.MemoryLemmas.{all_before, quiet_before}
use Rattle.vs_outside.proofs.mem_tablets.MemTablets.add.Goals as goal

abbrev shard_with : ShardName → List ℕ → List ℕ → Shard
shard_with name log schema = record { name = name; log = log; schema = schema }

abbrev HoldsNone : List Held → Type 0
HoldsNone held = list_all holds_no_failure held ≡ true

-- pushed or not
before_push : (b : Bool) (held : List Held) (h : Held) → HoldsNone (cond b (held ++ h ∷ []) held) → HoldsNone held
before_push true held h e = all_before holds_no_failure held (h ∷ []) e
before_push false held h e = e

pub invariant_of-self : goal.invariant_of-self
invariant_of-self c = record {
  quiet = λ quiet.
      c.args.self.now.quiet (quiet_before c.args.self.now.held.items c.push.new.self.items c.args.self.now.fetches.items c.args.self.now.fetches.items c.args.self.now.lists.items c.args.self.now.lists.items
      (λ e. before_push (is_ok c.push.result) c.args.self.now.held.items _ (subst HoldsNone c.push.ensures.items e)) (λ e. e) (λ e. e) quiet);
}

pub returns-clause-ok : goal.returns-clause-ok
returns-clause-ok c =
    let held = c.args.self.now.held.items in
    let log : shard_with c.args.name c.in_ok-from_slice.field-0.items c.in_ok-from_bytes.field-0 ≡ shard_with c.args.name c.args.log.now c.in_ok-from_bytes.field-0 =
    ap (λ l. shard_with c.args.name l c.in_ok-from_bytes.field-0) c.in_ok-from_slice.ensures.items
    in
    let schema : shard_with c.args.name c.args.log.now c.in_ok-from_bytes.field-0 ≡ shard_with c.args.name c.args.log.now c.args.schema.now =
    ap (λ t. shard_with c.args.name c.args.log.now t) c.in_ok-from_bytes.ensures
    in (
      cluster_of held,
      refl,
      ap (λ l. Some l) (ap cluster_of c.in_ok-push.ensures.items ∙ map-append shard_of held _ ∙ ap (λ s. cluster_of held ++ s ∷ []) (log ∙ schema)),
    )
