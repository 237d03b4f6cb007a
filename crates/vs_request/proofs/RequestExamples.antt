-- Small values of the definitions, computed.
use Rattle.std.proofs.Common.{◌≡◌, true, false, [], ◌∷◌, refl}
use Rattle.std.specs.Prelude.{codes, pos, negsuc}
use Rattle.vs_base.specs.declared.cell.Cell.TheVariants.{Null, Bytes}
use Rattle.vs_request.specs.Entries.{is_named}
use Rattle.vs_request.specs.Keys.{cells_of}

cells : cells_of (pos 1 ∷ negsuc 0 ∷ pos 0 ∷ []) (codes "a") ≡ Bytes (codes "a") ∷ Null ∷ Bytes [] ∷ []
cells = refl

shard : is_named (codes "c") (codes "-80") ≡ true
shard = refl

all_shards : is_named (codes "c") [] ≡ true
all_shards = refl

no_keyspace : is_named [] (codes "0") ≡ false
no_keyspace = refl

dots : is_named (codes "c") (codes "..") ≡ false
dots = refl

slash : is_named (codes "c/") [] ≡ false
slash = refl
