-- When the end of all copies is due, and what stands before it in a stream.
use Rattle.std.proofs.Common.{◌≡◌, true, false, List, [], ◌∷◌, ◌++◌, append-nil, Option, None, is_some, filter, refl, ap, sym, ◌∙◌, subst, ⊎_elim, true≢false}
use Rattle.std.proofs.lemmas.Bool.{not-true}
use Rattle.std.specs.List.{last_or}
use Rattle.std.specs.Option.{option_map_or}
use Rattle.std.proofs.lemmas.List.Elements.{filter-append}
use Rattle.vs_base.specs.declared.ShardName.{ShardName}
use Rattle.vs_base.proofs.NameLemmas.{same_name-is}
use Rattle.vs_model.specs.Names.{same_name}
use Rattle.vs_gtid.specs.Vectors.{Vector, Place, Copies, names, is_copy}
use Rattle.vs_model.specs.Frames.{Frame, is_no_beat}
use Rattle.vs_model.specs.Frames.Frame.{AllCopied}
use Rattle.vs_model.specs.Legal.{NoneCopies, AllCopiedFollows, IsCopyDoneFrame}
use Rattle.vs_model.specs.Core.{Piece, frame_of, ends_copies, copies_in, some_copies}
use Rattle.vs_model.specs.Core.Piece.{Transaction, CopiedRows, CopyEnd}
use Rattle.vs_model.proofs.Lists.{not_nil, same_head, same_tail}
use Rattle.vs_model.proofs.Each.{any_by}
use Rattle.vs_model.proofs.Places.{stands-names}
use Rattle.vs_model.proofs.Resumed.{stands_in, last_or-append}

-- where a shard copies, some shard does
pub one_copies : (v : Vector) (s : ShardName) (place : Place) → Copies v s place → some_copies v ≡ true
one_copies v s place copies =
    let at_s : copies_in v s ≡ true = ap (λ o. option_map_or is_copy o false) copies.0 ∙ copies.1 in
    any_by (λ n. same_name n s) (copies_in v) (names v) (λ n e. ap (copies_in v) (same_name-is n s e) ∙ at_s)
    (sym (stands-names v s) ∙ ap is_some copies.0)

pub none_copies : (v : Vector) → some_copies v ≡ false → NoneCopies v
none_copies v none s place copies = true≢false (sym (one_copies v s place copies) ∙ none)

-- one frame more
one_frame : (f g : Frame) (rest behind : List Frame) → f ∷ [] ≡ rest ++ g ∷ behind → (f ≡ g) × (rest ≡ [])
one_frame f g [] behind is = (same_head _ _ _ _ is, refl)
one_frame f g (x ∷ rest) behind is = absurd (not_nil rest behind g (sym (same_tail _ _ _ _ is)))

pub follows_one : (fs : List Frame) (f : Frame) → AllCopiedFollows fs → (f ≡ AllCopied → IsCopyDoneFrame (last_or None (filter is_no_beat fs))) →
    AllCopiedFollows (fs ++ f ∷ [])
follows_one fs f follows one before behind is = ⊎_elim
    (λ h. follows before h.0 h.1)
    (λ h. let only = one_frame f AllCopied h.0 behind h.2 in
    let same : fs ≡ before = sym (append-nil fs) ∙ sym (h.1 ∙ ap (λ l. fs ++ l) only.1) in
    subst (λ l. IsCopyDoneFrame (last_or None (filter is_no_beat l))) same (one only.0))
    (stands_in fs (f ∷ []) before AllCopied behind is)

pub last_frame : (fs : List Frame) (f : Frame) → last_or None (filter is_no_beat (fs ++ f ∷ [])) ≡ last_or (last_or None (filter is_no_beat fs)) (filter is_no_beat (f ∷ []))
last_frame fs f = ap (last_or None) (filter-append is_no_beat fs (f ∷ [])) ∙ last_or-append None (filter is_no_beat fs) (filter is_no_beat (f ∷ []))

-- which frame a piece is
pub not_all_copied : (s : ShardName) (piece : Piece) (w : Vector) → frame_of s piece w ≡ AllCopied → ⊥
not_all_copied s (Transaction told) w e = cc
not_all_copied s (CopiedRows table rows time q l) w e = cc
not_all_copied s (CopyEnd time q) w e = cc

-- the end of all copies is due only behind the end of a copy
pub due_of_piece : (s : ShardName) (piece : Piece) (w : Vector) (before : Option Frame) → ends_copies piece w ≡ true →
    IsCopyDoneFrame (last_or before (filter is_no_beat (frame_of s piece w ∷ []))) × (some_copies w ≡ false)
due_of_piece s (Transaction told) w before e = absurd (true≢false (sym e))
due_of_piece s (CopiedRows table rows time q l) w before e = absurd (true≢false (sym e))
due_of_piece s (CopyEnd time q) w before e = (tt, not-true (some_copies w) e)
