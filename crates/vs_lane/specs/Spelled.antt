-- What bodies spell is what frames are made of.
use Rattle.std.specs.Prelude.{◌≡◌, ℕ, List}
use Rattle.vs_base.specs.declared.ShardName.{ShardName}
use Rattle.vs_gtid.specs.declared.Entry.{Entry}
use Rattle.vs_gtid.specs.Vectors.{Vector}
use Rattle.vs_model.specs.Logs.{Image}
use Rattle.vs_model.specs.Frames.Frame.{Tx, Chunk}
use Rattle.vs_render.specs.Bodies.{frame_with}
use Rattle.vs_render.specs.Events.{Telling, head_of}
use Rattle.vs_render.specs.Frames.{frame_bytes}
use Rattle.vs_render.specs.Posted.{spelled_by}

-- the frame of an entry is what is spelled of it, with the vector put in, by the columns that are told
abbrev pub EntriesMakeFrames : Type 0
EntriesMakeFrames = (t : Telling) (s : ShardName) (e : Entry) (v : Vector) → frame_with (head_of s e.time) v ((spelled_by t.fields).entry s e) ≡ frame_bytes t (Tx s e v)

-- the same of the frame of some rows
abbrev pub RowsMakeFrames : Type 0
RowsMakeFrames = (t : Telling) (s : ShardName) (table : List ℕ) (rows : List Image) (time : ℕ) (v : Vector) →
    frame_with (head_of s time) v ((spelled_by t.fields).rows s table rows time) ≡ frame_bytes t (Chunk s table rows time v)
