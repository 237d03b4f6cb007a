-- The least GTID of one set that another lacks.
use Rattle.vs_base.specs.declared.gtid.Gtid.{Gtid}
use Rattle.vs_gtid.specs.Positions.{Position, has}
use Rattle.std.specs.Prelude.{◌≡◌, Bool, true, false}
use Rattle.std.specs.Ordering.{nat_cmp, is_gt, ordering_then}
use Rattle.std.specs.Cmp.Lexicographic.{slice_cmp}

-- whether g comes after x: its UUID is greater by bytes, or the UUIDs are the same and its number is greater
abbrev pub comes_after : Gtid → Gtid → Bool
comes_after g x = is_gt (ordering_then (slice_cmp nat_cmp g.uuid x.uuid) (nat_cmp g.number x.number))

-- g is in p and not in q, and comes after none that is
pub record IsFirstMissing (p q : Position) (g : Gtid) : Type 0 where
  pub is_in : has p g ≡ true
  pub is_missing : has q g ≡ false
  pub least : (x : Gtid) → has p x ≡ true → has q x ≡ false → comes_after g x ≡ false
