use Rattle.vs_wire.specs.Fields.{field_bytes}
use Rattle.vs_wire.proofs.VarintLemmas.{appended}
use Rattle.vs_wire.proofs.put.push_bytes.Goals as goal

pub returns-clause-ok : goal.returns-clause-ok
unfolding field_bytes
returns-clause-ok c =
    appended _ _ _ _ _ (appended _ _ _ _ _ c.in_ok-push_varint.ensures.ok c.in_ok-push_varint-2.ensures.ok) c.in_ok-extend_from_slice.ensures.items
