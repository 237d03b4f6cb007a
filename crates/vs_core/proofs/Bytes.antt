-- The bytes of what was sent are those of its frames.
use Rattle.std.proofs.Common.{◌≡◌, List, [], ◌∷◌, ◌++◌, refl, ap, sym, ◌∙◌}
use Rattle.std.specs.List.{AllZip}
use Rattle.vs_model.specs.Frames.{Frame}
use Rattle.vs_model.specs.Frames.Frame.{Tx, Switch, Halt, Chunk, CopyDone, AllCopied, Beat}
use Rattle.vs_render.specs.Bodies.{frame_with}
use Rattle.vs_render.specs.Events.{Telling, head_of}
use Rattle.vs_render.specs.Frames.{frame_bytes, frames_bytes}
use Rattle.vs_core.specs.Machine.{Sent}
use Rattle.vs_core.specs.Machine.Sent.{SentBody, SentCopyDone, SentSwitch, SentHalt, SentAllCopied, SentBeat}
use Rattle.vs_render.specs.Posted.{BodySpelling}
use Rattle.vs_core.specs.Runs.{IsSentFrame}
use Rattle.vs_core.specs.Spelling.{SpellsFrames, sent_bytes, stream_bytes}

module _ (spells : BodySpelling) (t : Telling) (whole : SpellsFrames spells t) where
  one : (x : Sent) (f : Frame) → IsSentFrame spells x f → sent_bytes t.journals x ≡ frame_bytes t f
  one (SentBody s time body v) (Tx n e w) is =
      sym (ap (λ b. frame_with (head_of s time) v b) is.3) ∙ sym (ap (λ m. frame_with (head_of s m) v (spells.entry s e)) is.2)
      ∙ whole.entries s e v ∙ ap (frame_bytes t) (ap (λ m. Tx m e v) is.0 ∙ ap (λ m. Tx n e m) is.1)
  one (SentBody s time body v) (Chunk n table rows at w) is =
      sym (ap (λ b. frame_with (head_of s time) v b) is.3) ∙ whole.rows s table rows time v
      ∙ ap (frame_bytes t) (ap (λ m. Chunk m table rows time v) is.0 ∙ ap (λ m. Chunk n table rows time m) is.1 ∙ sym (ap (λ m. Chunk n table rows m w) is.2))
  one (SentBody s time body v) (Switch j w) is = absurd is
  one (SentBody s time body v) (Halt j w) is = absurd is
  one (SentBody s time body v) (CopyDone n at w) is = absurd is
  one (SentBody s time body v) AllCopied is = absurd is
  one (SentBody s time body v) (Beat now) is = absurd is
  one (SentCopyDone s time v) (CopyDone n at w) is =
      ap (frame_bytes t) (ap (λ m. CopyDone m time v) is.0 ∙ sym (ap (λ m. CopyDone n m v) is.1) ∙ ap (λ m. CopyDone n at m) is.2)
  one (SentCopyDone s time v) (Tx n e w) is = absurd is
  one (SentCopyDone s time v) (Chunk n table rows at w) is = absurd is
  one (SentCopyDone s time v) (Switch j w) is = absurd is
  one (SentCopyDone s time v) (Halt j w) is = absurd is
  one (SentCopyDone s time v) AllCopied is = absurd is
  one (SentCopyDone s time v) (Beat now) is = absurd is
  one (SentSwitch j v) (Switch k w) is = ap (frame_bytes t) (ap (λ m. Switch m v) is.0 ∙ ap (λ m. Switch k m) is.1)
  one (SentSwitch j v) (Tx n e w) is = absurd is
  one (SentSwitch j v) (Chunk n table rows at w) is = absurd is
  one (SentSwitch j v) (CopyDone n at w) is = absurd is
  one (SentSwitch j v) (Halt k w) is = absurd is
  one (SentSwitch j v) AllCopied is = absurd is
  one (SentSwitch j v) (Beat now) is = absurd is
  one (SentHalt j v) (Halt k w) is = ap (frame_bytes t) (ap (λ m. Halt m v) is.0 ∙ ap (λ m. Halt k m) is.1)
  one (SentHalt j v) (Tx n e w) is = absurd is
  one (SentHalt j v) (Chunk n table rows at w) is = absurd is
  one (SentHalt j v) (CopyDone n at w) is = absurd is
  one (SentHalt j v) (Switch k w) is = absurd is
  one (SentHalt j v) AllCopied is = absurd is
  one (SentHalt j v) (Beat now) is = absurd is
  one SentAllCopied AllCopied is = refl
  one SentAllCopied (Tx n e w) is = absurd is
  one SentAllCopied (Chunk n table rows at w) is = absurd is
  one SentAllCopied (CopyDone n at w) is = absurd is
  one SentAllCopied (Switch k w) is = absurd is
  one SentAllCopied (Halt k w) is = absurd is
  one SentAllCopied (Beat now) is = absurd is
  one (SentBeat now) (Beat at) is = ap (λ m. frame_bytes t (Beat m)) is
  one (SentBeat now) (Tx n e w) is = absurd is
  one (SentBeat now) (Chunk n table rows at w) is = absurd is
  one (SentBeat now) (CopyDone n at w) is = absurd is
  one (SentBeat now) (Switch k w) is = absurd is
  one (SentBeat now) (Halt k w) is = absurd is
  one (SentBeat now) AllCopied is = absurd is

  pub stream_is : (sent : List Sent) (fs : List Frame) → AllZip (IsSentFrame spells) sent fs → stream_bytes t.journals sent ≡ frames_bytes t fs
  stream_is [] [] all = refl
  stream_is [] (f ∷ fs) all = absurd all
  stream_is (x ∷ sent) [] all = absurd all
  stream_is (x ∷ sent) (f ∷ fs) all = ap (λ b. b ++ stream_bytes t.journals sent) (one x f all.0) ∙ ap (λ b. frame_bytes t f ++ b) (stream_is sent fs all.1)
