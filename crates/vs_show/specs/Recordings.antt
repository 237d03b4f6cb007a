-- What a recording says: frames to its end, or to the first that is none, and the lines of these frames.
use Rattle.std.specs.Prelude.{◌≡◌, ℕ, zero, suc, ◌+◌, ◌==◌, nat_lt, if◌then◌else◌, List, [], ◌∷◌, ◌++◌, length, take, drop, Option, Some, None, Result, Ok, Err, true, ◌<◌}
use Rattle.std.specs.Int.{w32, from_be_bytes}
use Rattle.vs_base.specs.Limits.{most_message}
use Rattle.vs_frame.specs.Frames.{BeginsWithFrame, IsGiven, IsPart, IsTooLong}
use Rattle.vs_frame.specs.declared.refusal.FrameWhy.{FrameWhy}
use Rattle.vs_frame.specs.declared.refusal.FrameWhy.TheVariants.{Cut, TooLong, Message}
use Rattle.vs_proto.specs.Shapes.{read}
use Rattle.vs_proto.specs.Tables.{response}
use Rattle.vs_proto.specs.declared.event.VStreamResponse.{VStreamResponse}
use Rattle.vs_proto.specs.declared.refusal.Fault.{Fault}
use Rattle.vs_show.specs.Lines.{frame_lines}

-- ---- a recording as a whole

-- each of the messages is read as the frame at its place
abbrev pub AreRead : List (List ℕ) → List VStreamResponse → Type 0
AreRead [] [] = Unit {0}
AreRead [] (f ∷ fs) = ⊥
AreRead (m ∷ ms) [] = ⊥
AreRead (m ∷ ms) (f ∷ fs) = (read (response true) m ≡ Ok f) × AreRead ms fs

-- what stands behind the readable frames: nothing; or a frame that the bytes end in, whose length is over the limit, or whose
-- message can't be read
abbrev pub EndsIn : List ℕ → Option FrameWhy → Type 0
EndsIn rest None = rest ≡ []
EndsIn rest (Some Cut) = (0 < length rest) × IsPart rest
EndsIn rest (Some TooLong) = (n : ℕ) × IsTooLong rest n
EndsIn rest (Some Message) = (m more : List ℕ) × (fault : ℕ × Fault) × BeginsWithFrame rest m more × (read (response true) m ≡ Err fault)

-- the bytes are these frames, and what stands behind them is no more frame, for this reason
pub record IsRecording (bytes : List ℕ) (frames : List VStreamResponse) (why : Option FrameWhy) : Type 0 where
  pub messages : List (List ℕ)
  pub rest : List ℕ
  pub given : IsGiven bytes messages rest
  pub read : AreRead messages frames
  pub ends : EndsIn rest why

-- the lines of frames in a row, of which the first has this number
abbrev pub frames_lines : ℕ → List VStreamResponse → List ℕ
frames_lines n [] = []
frames_lines n (f ∷ fs) = frame_lines n f ++ frames_lines (n + 1) fs

-- the number of the frame behind so many, and why it is none
abbrev pub placed_behind : ℕ → Option FrameWhy → Option (ℕ × FrameWhy)
placed_behind n None = None
placed_behind n (Some why) = Some (n, why)

-- ---- the same computed, frame by frame

pub data Front : Type 0 where
  nothing : Front
  part : Front
  too_long : Front
  whole : List ℕ → List ℕ → Front

-- behind a length
abbrev pub front_behind : ℕ → List ℕ → Front
front_behind n rest = if nat_lt most_message n then too_long else (if nat_lt (length rest) n then part else whole (take n rest) (drop n rest))

-- what stands at the front of the bytes: a whole frame comes with its message and what is behind it
unfoldable pub front : List ℕ → Front
front bytes = if length bytes == 0 then nothing else (if nat_lt (length bytes) 4 then part else front_behind (from_be_bytes w32 (take 4 bytes)) (drop 4 bytes))

-- the lines of the readable frames, and where and why a frame isn't one
pub record Recorded : Type 0 where
  pub lines : List ℕ
  pub bad : Option (ℕ × FrameWhy)

abbrev pub ended : Recorded
ended = record { lines = []; bad = None }

abbrev pub bad_at : ℕ → FrameWhy → Recorded
bad_at n why = record { lines = []; bad = Some (n, why) }

-- more lines in front
abbrev pub with_lines : List ℕ → Recorded → Recorded
with_lines lines r = record r { lines = lines ++ r.lines }

-- a message that is read has lines, and others follow
abbrev pub recorded_read : ℕ → Result VStreamResponse (ℕ × Fault) → Recorded → Recorded
recorded_read n (Ok f) more = with_lines (frame_lines n f) more
recorded_read n (Err fault) more = bad_at n Message

abbrev pub recorded_at : ℕ → Front → (List ℕ → Recorded) → Recorded
recorded_at n nothing more = ended
recorded_at n part more = bad_at n Cut
recorded_at n too_long more = bad_at n TooLong
recorded_at n (whole m rest) more = recorded_read n (read (response true) m) (more rest)

-- of the frames from number n on, as many as k; a frame has at least one byte, so the number of bytes is enough
unfoldable pub recorded_in : ℕ → ℕ → List ℕ → Recorded
recorded_in zero n bytes = ended
recorded_in (suc k) n bytes = recorded_at n (front bytes) (recorded_in k (n + 1))

abbrev pub recorded_from : ℕ → List ℕ → Recorded
recorded_from n bytes = recorded_in (length bytes) n bytes

-- the lines of a recording, and the number and the fault of its first frame that is none
abbrev pub lines : List ℕ → List ℕ
lines bytes = (recorded_from 1 bytes).lines

abbrev pub bad_frame : List ℕ → Option (ℕ × FrameWhy)
bad_frame bytes = (recorded_from 1 bytes).bad
