-- The bytes of what is sent.
use Rattle.std.specs.Prelude.{◌≡◌, ℕ, Bool, List, []}
use Rattle.std.specs.List.{flat_map}
use Rattle.vs_base.specs.declared.ShardName.{ShardName}
use Rattle.vs_gtid.specs.declared.Entry.{Entry}
use Rattle.vs_gtid.specs.Vectors.{Vector}
use Rattle.vs_model.specs.Logs.{Image}
use Rattle.vs_model.specs.Frames.Frame.{Tx, Switch, Halt, Chunk, CopyDone, AllCopied, Beat}
use Rattle.vs_render.specs.Bodies.{frame_with}
use Rattle.vs_render.specs.Events.{Telling, head_of}
use Rattle.vs_render.specs.Frames.{frame_bytes}
use Rattle.vs_core.specs.Machine.{Sent}
use Rattle.vs_core.specs.Machine.Sent.{SentBody, SentCopyDone, SentSwitch, SentHalt, SentAllCopied, SentBeat}
use Rattle.vs_render.specs.Posted.{BodySpelling}

-- what is told by frames that name no table
abbrev pub told_without_tables : Bool → Telling
told_without_tables journals = record { journals = journals; fields = λ s table. [] }

-- the bytes of one frame; journals are told in switches or not
abbrev pub sent_bytes : Bool → Sent → List ℕ
sent_bytes journals (SentBody s time body v) = frame_with (head_of s time) v body
sent_bytes journals (SentCopyDone s time v) = frame_bytes (told_without_tables journals) (CopyDone s time v)
sent_bytes journals (SentSwitch j v) = frame_bytes (told_without_tables journals) (Switch j v)
sent_bytes journals (SentHalt j v) = frame_bytes (told_without_tables journals) (Halt j v)
sent_bytes journals SentAllCopied = frame_bytes (told_without_tables journals) AllCopied
sent_bytes journals (SentBeat now) = frame_bytes (told_without_tables journals) (Beat now)

abbrev pub stream_bytes : Bool → List Sent → List ℕ
stream_bytes journals sent = flat_map (sent_bytes journals) sent

-- with the vector put in, bodies are the frames of entries and of rows
pub record SpellsFrames (spells : BodySpelling) (t : Telling) : Type 0 where
  pub entries : (s : ShardName) (e : Entry) (v : Vector) → frame_with (head_of s e.time) v (spells.entry s e) ≡ frame_bytes t (Tx s e v)
  pub rows : (s : ShardName) (table : List ℕ) (rows : List Image) (time : ℕ) (v : Vector) →
      frame_with (head_of s time) v (spells.rows s table rows time) ≡ frame_bytes t (Chunk s table rows time v)
