use Rattle.std.proofs.Common.{sym, ap, ◌∙◌}
use Rattle.std.proofs.lemmas.List.Quantifiers.{position-Some}
use Rattle.vs_base.proofs.NameLemmas.{same_name-is}
use Rattle.vs_outside.specs.Memory.{holds_no_failure, shard_of}
use Rattle.vs_outside.proofs.MemoryLemmas.{has_name, find_shard-Some, find_shard-None}
use Rattle.vs_outside.proofs.PlaceLemmas.{list_all-get}
use Rattle.vs_outside.proofs.mem_shards.open_held.Goals as goal

pub returns-in_default-clause-log : goal.returns-in_default-clause-log
returns-in_default-clause-log c = find_shard-None c.args.held.now c.args.name.now (sym c.place_of.ensures ∙ c.in_default.is)

pub returns-clause-log : goal.returns-clause-log
returns-clause-log c =
    let shard = c.index-held-place.result in
    let found = find_shard-Some c.args.held.now c.args.name.now c.in-Some.place shard (sym c.place_of.ensures ∙ c.in-Some.is) c.index-held-place.is in
    (shard_of shard, found, c.in_ok-opened.ensures.all, c.in_ok-opened.ensures.given, c.in_ok-opened.ensures.schema)

pub returns-clause-origin : goal.returns-clause-origin
returns-clause-origin c =
    let shard = c.index-held-place.result in
    let parts = position-Some (has_name c.args.name.now) c.args.held.now c.in-Some.place shard (sym c.place_of.ensures ∙ c.in-Some.is) in
    c.in_ok-opened.ensures.origin ∙ ap (λ h. h.name) c.index-held-place.is ∙ same_name-is _ c.args.name.now parts.1

pub returns-clause-sound : goal.returns-clause-sound
returns-clause-sound c = λ quiet.
    let shard = c.index-held-place.result in
    let parts = position-Some (has_name c.args.name.now) c.args.held.now c.in-Some.place shard (sym c.place_of.ensures ∙ c.in-Some.is) in
    c.in_ok-opened.ensures.sound (ap holds_no_failure c.index-held-place.is ∙ list_all-get holds_no_failure c.args.held.now c.in-Some.place shard parts.0 quiet)
