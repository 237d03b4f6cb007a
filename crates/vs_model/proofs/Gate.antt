-- A piece that a lane may give is sent by a lawful step.
use Rattle.std.proofs.Common.{◌≡◌, ◌||◌, true, false, List, [], ◌∷◌, Option, Some, IfSome, refl, ap, sym, ◌∙◌, subst}
use Rattle.vs_base.specs.declared.ShardName.{ShardName}
use Rattle.vs_gtid.specs.declared.JournalValue.{JournalValue}
use Rattle.vs_gtid.specs.declared.Entry.{Entry}
use Rattle.vs_model.specs.Names.{Position, SameSet, same_gtid, has}
use Rattle.vs_model.specs.Logs.{Cluster, LogsAreDistinct, log_of, journal_of}
use Rattle.vs_gtid.specs.Vectors.{Vector, Place, IsCanonicalPlace, IsCanonicalVector, place_of, is_copy, moved}
use Rattle.vs_gtid.specs.Vectors.Place.{Fresh, Copying, Streaming}
use Rattle.vs_model.specs.Frames.{shard_of, vector_after}
use Rattle.vs_model.specs.Frames.Frame.{Tx}
use Rattle.vs_model.specs.Copy.{Bound, Filter, CopyStep}
use Rattle.vs_model.specs.Legal.{NoParticipantStands, JournalFits}
use Rattle.vs_model.specs.Steps.{Step}
use Rattle.vs_model.specs.Core.{Piece, PlaceAfter, IsOfCopy, AreGiven, HasBase, IsNoStranger, frame_of}
use Rattle.vs_model.specs.Core.Piece.{Transaction, CopiedRows, CopyEnd}
use Rattle.vs_model.proofs.Places.{moved_either}
use Rattle.vs_model.proofs.OneStep.{step_tx, step_copy, journal_of-picked}
use Rattle.vs_model.proofs.Given.{next_streamed, rows_not_streamed, end_not_streamed, same_place}

-- positions stay canonical
pub canonical_moved : (v : Vector) (s : ShardName) (place : Place) → IsCanonicalVector v → IsCanonicalPlace place → IsCanonicalVector (moved v s place)
canonical_moved [] s place all one = tt
canonical_moved (slot ∷ v) s place all one =
    moved_either IsCanonicalVector v s place slot (λ e. (one, all.1)) (λ e. (all.0, canonical_moved v s place all.1 one))

-- the frame of a piece
pub shard_of_piece : (s : ShardName) (piece : Piece) (v : Vector) → shard_of (frame_of s piece v) ≡ Some s
shard_of_piece s (Transaction w) v = refl
shard_of_piece s (CopiedRows table rows time q l) v = refl
shard_of_piece s (CopyEnd time q) v = refl

pub after_piece : (s : ShardName) (piece : Piece) (v w : Vector) → vector_after v (frame_of s piece w) ≡ w
after_piece s (Transaction told) v w = refl
after_piece s (CopiedRows table rows time q l) v w = refl
after_piece s (CopyEnd time q) v w = refl

journal_of_piece : (cluster : Cluster) (s : ShardName) (piece : Piece) (v w : Vector) → IsNoStranger s v piece → JournalFits cluster v (frame_of s piece w)
journal_of_piece cluster s (Transaction told) v w h = h
journal_of_piece cluster s (CopiedRows table rows time q l) v w h = tt
journal_of_piece cluster s (CopyEnd time q) v w h = tt

copy_step : (bound : Bound) (cluster : Cluster) (s : ShardName) (old new : Place) (piece : Piece) (w : Vector) →
    IsOfCopy bound s (log_of cluster s) old piece new → CopyStep bound s (log_of cluster s) old (frame_of s piece w) (Some new)
copy_step bound cluster s Fresh new (Transaction told) w h = absurd h
copy_step bound cluster s (Copying p l) new (Transaction told) w h = h
copy_step bound cluster s (Streaming p) new (Transaction told) w h = absurd h
copy_step bound cluster s Fresh new (CopiedRows table rows time q l) w h = h.0
copy_step bound cluster s (Copying p k) new (CopiedRows table rows time q l) w h = h.0
copy_step bound cluster s (Streaming p) new (CopiedRows table rows time q l) w h = h.0
copy_step bound cluster s Fresh new (CopyEnd time q) w h = h.0
copy_step bound cluster s (Copying p l) new (CopyEnd time q) w h = h.0
copy_step bound cluster s (Streaming p) new (CopyEnd time q) w h = h.0

-- a piece that a lane may give is sent by a lawful step
module _ (cluster : Cluster) (rules : Filter) (distinct : LogsAreDistinct cluster) (v : Vector) (s : ShardName) (to : Place)
    (canonical : IsCanonicalPlace to) (all_canonical : IsCanonicalVector v) where
  abbrev GivenAt : Piece → List Piece → Option JournalValue → Place → Type 0
  GivenAt piece rest last from = AreGiven (rules s) s (log_of cluster s) (piece ∷ rest) last from

  piece_of_stream : (p : Position) (told : Entry) (rest : List Piece) (last : Option JournalValue) → place_of v s ≡ Some (Streaming p) →
      GivenAt (Transaction told) rest last (Streaming p) → HasBase (log_of cluster s) (Streaming p) → PlaceAfter (Streaming p) (Transaction told) to →
      IsNoStranger s v (Transaction told) → Step cluster rules v (Tx s told (moved v s to))
  piece_of_stream p told rest last there given base moves foreign =
      let next = next_streamed (rules s) s (log_of cluster s) p told rest last given in
      step_tx cluster rules v (moved v s to) s told distinct (record {
        p = p;
        e = next.e;
        rest = next.rest;
        q = moves.0;
        streams = there;
        first = next.first;
        told_is = next.told_is;
        base = base;
        grown = λ g. moves.1 g ∙ ap (λ x. has p g || (same_gtid x.gtid g || false)) next.told_is;
        vector = ap (moved v s) moves.2;
        canonical = canonical_moved v s to all_canonical canonical;
        foreign = subst (λ o. IfSome o (NoParticipantStands s v))
            (ap (λ x. journal_of x.work) next.told_is ∙ journal_of-picked (rules s) next.e) foreign;
      })

  piece_of_copy : (from mid : Place) (piece : Piece) → place_of v s ≡ Some from → is_copy from ≡ true →
      IsOfCopy (rules s) s (log_of cluster s) from piece mid → IsCanonicalPlace mid → SameSet (log_of cluster s).base [] → PlaceAfter from piece to →
      IsNoStranger s v piece → Step cluster rules v (frame_of s piece (moved v s to))
  piece_of_copy from mid piece there copy step canonical_mid base moves foreign =
      let same = same_place (rules s) s (log_of cluster s) from mid to piece step canonical_mid moves canonical in
      step_copy cluster rules v s (frame_of s piece (moved v s to)) (record {
        old = from;
        new = to;
        of_s = shard_of_piece s piece (moved v s to);
        copies = (there, copy);
        base = base;
        step = copy_step (rules s) cluster s from to piece (moved v s to) (subst (IsOfCopy (rules s) s (log_of cluster s) from piece) same step);
        vector = after_piece s piece v (moved v s to);
        canonical = subst IsCanonicalVector (sym (after_piece s piece v (moved v s to))) (canonical_moved v s to all_canonical canonical);
        foreign = journal_of_piece cluster s piece v (moved v s to) foreign;
      })

  pub piece_step : (from : Place) (piece : Piece) (rest : List Piece) (last : Option JournalValue) → place_of v s ≡ Some from →
      GivenAt piece rest last from → HasBase (log_of cluster s) from → PlaceAfter from piece to → IsNoStranger s v piece →
      Step cluster rules v (frame_of s piece (moved v s to))
  piece_step Fresh piece rest last there given base moves foreign =
      piece_of_copy Fresh given.0 piece there refl given.2 given.1 base moves foreign
  piece_step (Copying p l) piece rest last there given base moves foreign =
      piece_of_copy (Copying p l) given.0 piece there refl given.2 given.1 base moves foreign
  piece_step (Streaming p) (Transaction told) rest last there given base moves foreign =
      piece_of_stream p told rest last there given base moves foreign
  piece_step (Streaming p) (CopiedRows table rows time q l) rest last there given base moves foreign =
      absurd (rows_not_streamed (rules s) s (log_of cluster s) p table rows time q l rest last given)
  piece_step (Streaming p) (CopyEnd time q) rest last there given base moves foreign =
      absurd (end_not_streamed (rules s) s (log_of cluster s) p time q rest last given)
