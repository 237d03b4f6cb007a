-- A lane that stops before its journal, at small values.
use Rattle.std.proofs.Common.{◌≡◌, ◌||◌, List, [], ◌∷◌, refl, ap, sym, ◌∙◌}
use Rattle.std.proofs.Math.Bool.{or-false}
use Rattle.vs_base.specs.Names.{same_name, same_gtid}
use Rattle.vs_gtid.specs.declared.Entry.{Entry}
use Rattle.vs_gtid.specs.Positions.{Position, has}
use Rattle.vs_gtid.specs.Joins.{joined, added}
use Rattle.vs_gtid.proofs.JoinLemmas.{has-added}
use Rattle.vs_model.specs.Logs.{HaveDistinctGtids, IsPositionAfter, due, stop}
use Rattle.vs_model.specs.Copy.{picked}
use Rattle.vs_model.specs.Steps.{AreFirstDue}
use Rattle.vs_model.proofs.Examples.{shard, split, one, resharded, up_to}
use Rattle.vs_model.proofs.CopyExamples.{below_nine}
use Rattle.vs_model.proofs.Lanes.{next_piece, lane_end}

-- a position with one more GTID is that position and the entry
pub one_more : (p q : Position) (e : Entry) → added p e.gtid ≡ q → IsPositionAfter p (e ∷ []) q
one_more p q e is g = ap (λ x. has x g) (sym is) ∙ has-added p e.gtid g ∙ ap (λ b. has p g || b) (sym (or-false (same_gtid e.gtid g)))

pub to_first : IsPositionAfter [] (one ∷ []) (up_to 1 1)
unfolding added joined
to_first = one_more [] (up_to 1 1) one refl

distinct : HaveDistinctGtids (resharded split).entries
unfolding same_gtid
distinct = (refl, (refl, (refl, tt)))

given : AreFirstDue below_nine (shard 1 80) (resharded split) [] (one ∷ [])
unfolding has same_name
given = record { sent = one ∷ []; rest = []; split = refl; each = (refl, tt) }

first_piece : (p : Position) → IsPositionAfter [] [] p → (e : Entry) × (rest : List Entry) × (due (shard 1 80) (resharded split) p ≡ e ∷ rest) × (one ≡ picked below_nine e)
first_piece p grown = next_piece below_nine (shard 1 80) (resharded split) [] p [] distinct grown one [] given

all_given : (due (shard 1 80) (resharded split) (up_to 1 1) ≡ [])
    × (stop (shard 1 80) (resharded split) (up_to 1 1) ≡ stop (shard 1 80) (resharded split) [])
unfolding given
all_given = lane_end below_nine (shard 1 80) (resharded split) [] (up_to 1 1) (one ∷ []) distinct to_first given refl
