-- Names, and GTIDs, with equal parts are equal.
use Rattle.std.proofs.Common.{◌≡◌, ◌&&◌, Bool, true}
use Rattle.std.proofs.lemmas.Bool.{eq-eqb}
use Rattle.std.proofs.lemmas.Slice.Eq.{bytes_eq-Decides}
use Rattle.vs_base.specs.Names.{same_gtid, same_name}
use Rattle.vs_base.specs.declared.Gtid.{Gtid}
use Rattle.vs_base.specs.declared.ShardName.{ShardName}
use Rattle.vs_base.proofs.NameLemmas.{same_gtid-is, same_name-is}

both : (x y : Bool) → x ≡ true → y ≡ true → (x && y) ≡ true
both x y p q = cc

pub name_of_parts : (n m : ShardName) → n.keyspace ≡ m.keyspace → n.shard ≡ m.shard → n ≡ m
unfolding same_name
name_of_parts n m p q = same_name-is n m (both _ _ ((bytes_eq-Decides n.keyspace m.keyspace).1 p) ((bytes_eq-Decides n.shard m.shard).1 q))

pub gtid_of_parts : (g h : Gtid) → g.uuid ≡ h.uuid → g.number ≡ h.number → g ≡ h
unfolding same_gtid
gtid_of_parts g h p q = same_gtid-is g h (both _ _ ((bytes_eq-Decides g.uuid h.uuid).1 p) (eq-eqb g.number h.number q))
