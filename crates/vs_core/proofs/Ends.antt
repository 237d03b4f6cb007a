-- Where a shard copied and none does any more, the end of all copies was sent, or is due.
use Rattle.std.proofs.Common.{◌≡◌, ◌||◌, ℕ, Bool, not, true, false, List, [], ◌∷◌, ◌++◌, append_assoc, Option, Some, None, refl, ap, sym, ◌∙◌, subst, ◌⊎◌, inl, inr, ⊎_elim, true≢false}
use Rattle.std.specs.List.{list_any}
use Rattle.std.specs.Option.{option_map_or}
use Rattle.std.proofs.lemmas.Bool.{cases_Bool}
use Rattle.vs_base.specs.declared.LastKey.{LastKey}
use Rattle.vs_base.specs.declared.ShardName.{ShardName}
use Rattle.vs_base.specs.Names.{same_name}
use Rattle.vs_base.proofs.NameLemmas.{same_name-is}
use Rattle.vs_gtid.specs.declared.Entry.{Entry}
use Rattle.vs_gtid.specs.Positions.{Position}
use Rattle.vs_gtid.specs.Vectors.{Vector, Place, Copies, place_of, names, is_copy}
use Rattle.vs_gtid.specs.Vectors.Place.{Fresh, Copying, Streaming}
use Rattle.vs_model.specs.Logs.{Image}
use Rattle.vs_model.specs.Frames.{Frame}
use Rattle.vs_model.specs.Frames.Frame.{AllCopied}
use Rattle.vs_model.specs.Core.{Piece, PlaceAfter, HasAllCopied, IsNoCopyDone, frame_of, ends_copies, copies_in, some_copies}
use Rattle.vs_model.specs.Core.Piece.{Transaction, CopiedRows, CopyEnd}
use Rattle.vs_model.proofs.Places.{streams_or_copies}
use Rattle.vs_model.proofs.Each.{all_append}

-- a shard that copies
abbrev pub SomeCopies : Vector → Type 0
SomeCopies v = (s : ShardName) × (place : Place) × Copies v s place

copies_there : (v : Vector) (s : ShardName) (o : Option Place) → place_of v s ≡ o → option_map_or is_copy o false ≡ true → SomeCopies v
copies_there v s None is h = absurd (true≢false (sym h))
copies_there v s (Some place) is h = (s, place, (is, h))

copier_among : (v : Vector) (ns : List ShardName) → list_any (copies_in v) ns ≡ true → SomeCopies v
copier_among v [] h = absurd (true≢false (sym h))
copier_among v (n ∷ ns) h = ⊎_elim
    (λ e. copies_there v n (place_of v n) refl e)
    (λ e. copier_among v ns (sym (ap (λ b. b || list_any (copies_in v) ns) e) ∙ h))
    (cases_Bool (copies_in v n))

-- some shard copies still, or the end of all copies is due, or was sent
abbrev pub CopiesOrEnded : List Frame → Vector → Bool → Type 0
CopiesOrEnded fs v due = SomeCopies v ⊎ ((due ≡ true) ⊎ HasAllCopied fs)

all_copied_more : (fs : List Frame) (f : Frame) → IsNoCopyDone f → HasAllCopied fs → HasAllCopied (fs ++ f ∷ [])
all_copied_more fs f other h =
    (h.0, h.1 ++ f ∷ [], ap (λ l. l ++ f ∷ []) h.2 ∙ append_assoc h.0 (AllCopied ∷ h.1) (f ∷ []), all_append IsNoCopyDone h.1 (f ∷ []) h.3 (other, tt))

-- a frame that ends no copy, and takes no copying shard away
pub ends_still : (fs : List Frame) (f : Frame) (v w : Vector) (due : Bool) → IsNoCopyDone f → (SomeCopies v → SomeCopies w) →
    CopiesOrEnded fs v due → CopiesOrEnded (fs ++ f ∷ []) w due
ends_still fs f v w due other on (inl copies) = inl (on copies)
ends_still fs f v w due other on (inr (inl is)) = inr (inl is)
ends_still fs f v w due other on (inr (inr ended)) = inr (inr (all_copied_more fs f other ended))

pub ends_now : (fs : List Frame) (v : Vector) (due : Bool) → CopiesOrEnded (fs ++ AllCopied ∷ []) v due
ends_now fs v due = inr (inr (fs, [], refl, tt))

module _ (v w : Vector) (s : ShardName) (from to : Place) (there : place_of v s ≡ Some from) (at : place_of w s ≡ Some to)
    (elsewhere : (t : ShardName) → same_name s t ≡ false → place_of w t ≡ place_of v t) where
  -- a transaction leaves every copy a copy
  copies_still : (x : Place) → from ≡ x → (told : Entry) → PlaceAfter x (Transaction told) to → SomeCopies v → SomeCopies w
  copies_still Fresh is told moves copies = absurd moves
  copies_still (Copying p l) is told moves copies = (s, Copying moves.0 l, (at ∙ ap Some moves.2, refl))
  copies_still (Streaming p) is told moves copies = ⊎_elim
      (λ same. absurd (streams_or_copies v s p copies.1 (there ∙ ap Some is) (subst (λ n. Copies v n copies.1) (sym (same_name-is s copies.0 same)) copies.2)))
      (λ other. (copies.0, copies.1, (elsewhere copies.0 other ∙ copies.2.0, copies.2.1)))
      (cases_Bool (same_name s copies.0))

  rows_copy : (x : Place) (table : List ℕ) (rows : List Image) (time : ℕ) (q : Position) (l : LastKey) → PlaceAfter x (CopiedRows table rows time q l) to → SomeCopies w
  rows_copy Fresh table rows time q l moves = (s, Copying q l, (at ∙ ap Some moves, refl))
  rows_copy (Copying p k) table rows time q l moves = (s, Copying q l, (at ∙ ap Some moves, refl))
  rows_copy (Streaming p) table rows time q l moves = (s, Copying q l, (at ∙ ap Some moves, refl))

  pub ends_piece : (piece : Piece) (due : Bool) → due ≡ false → PlaceAfter from piece to → (fs : List Frame) → CopiesOrEnded fs v due →
      CopiesOrEnded (fs ++ frame_of s piece w ∷ []) w (ends_copies piece w)
  ends_piece (Transaction told) due not_due moves fs (inl copies) = inl (copies_still from refl told moves copies)
  ends_piece (Transaction told) due not_due moves fs (inr (inl is)) = absurd (true≢false (sym is ∙ not_due))
  ends_piece (Transaction told) due not_due moves fs (inr (inr ended)) = inr (inr (all_copied_more fs (frame_of s (Transaction told) w) tt ended))
  ends_piece (CopiedRows table rows time q l) due not_due moves fs before = inl (rows_copy from table rows time q l moves)
  ends_piece (CopyEnd time q) due not_due moves fs before = ⊎_elim
      (λ e. inl (copier_among w (names w) e))
      (λ e. inr (inl (ap not e)))
      (cases_Bool (some_copies w))
