-- What the pieces of a lane say, and which pieces a lane of a shard may post from a place.
use Rattle.std.specs.Prelude.{◌≡◌, ◌≢◌, ℕ, List, [], ◌∷◌, Option, Some, None, IsFalse}
use Rattle.vs_base.specs.declared.ShardName.{ShardName}
use Rattle.vs_base.specs.declared.table.Column.{Column}
use Rattle.vs_gtid.specs.declared.JournalValue.{JournalValue}
use Rattle.vs_gtid.specs.declared.Entry.{Entry}
use Rattle.vs_gtid.specs.Vectors.{Place}
use Rattle.vs_model.specs.Logs.{Cluster, Image, journal_of, log_of}
use Rattle.vs_model.specs.Copy.{Filter}
use Rattle.vs_model.specs.Core.{Piece as Given, AreGiven, HasBase}
use Rattle.vs_model.specs.Core.Piece.{Transaction, CopiedRows, CopyEnd}
use Rattle.vs_render.specs.Events.{Commits, chunk_said, closing_said, head_of}
use Rattle.vs_render.specs.Frames.{fronts_said}
use Rattle.vs_render.specs.Bodies.{Rendered, rendered}
use Rattle.vs_render.specs.declared.piece.Piece.{Piece}
use Rattle.vs_render.specs.declared.piece.Piece.TheVariants as piece
use Rattle.vs_render.specs.declared.piece.EndCause.{EndCause}
use Rattle.vs_render.specs.declared.piece.EndCause.TheVariants as cause

-- what bodies spell: of a transaction, and of some rows of a table
pub record BodySpelling : Type 0 where
  pub entry : ShardName → Entry → Rendered
  pub rows : ShardName → List ℕ → List Image → ℕ → Rendered

-- the entry is no SHARDS journal
abbrev pub IsNoSwitch : Entry → Type 0
IsNoSwitch e = (j : JournalValue) → journal_of e.work ≡ Some j → IsFalse j.shards

abbrev pub IsEndAt : EndCause → Option JournalValue → Type 0
IsEndAt (cause.OwnJournal j) last = last ≡ Some j
IsEndAt c last = last ≡ None

-- The pieces of a lane say what it gives, Idle left out, and the journal that ends it. An end is the last piece.
abbrev pub Shows : BodySpelling → ShardName → List Piece → List Given → Option JournalValue → Type 0
Shows spells s [] told last = (told ≡ []) × (last ≡ None)
Shows spells s (piece.Idle room ∷ pieces) told last = Shows spells s pieces told last
Shows spells s (piece.End c room ∷ pieces) told last = (pieces ≡ []) × (told ≡ []) × IsEndAt c last
Shows spells s (piece.Tx g time body ∷ pieces) told last =
    (e : Entry) × (rest : List Given) × (told ≡ Transaction e ∷ rest) × (e.gtid ≡ g) × (e.time ≡ time) × IsNoSwitch e × (spells.entry s e ≡ body.body) × Shows spells s pieces rest last
Shows spells s (piece.Foreign g time j body ∷ pieces) told last =
    (e : Entry) × (rest : List Given) × (told ≡ Transaction e ∷ rest) × (e.gtid ≡ g) × (e.time ≡ time) × (journal_of e.work ≡ Some j) × (spells.entry s e ≡ body.body) × Shows spells s pieces rest last
Shows spells s (piece.Chunk q l time body ∷ pieces) told last =
    (table : List ℕ) × (rows : List Image) × (rest : List Given) × (told ≡ CopiedRows table rows time q l ∷ rest) × (spells.rows s table rows time ≡ body.body) × Shows spells s pieces rest last
Shows spells s (piece.CopyDone q time room ∷ pieces) told last =
    (rest : List Given) × (told ≡ CopyEnd time q ∷ rest) × Shows spells s pieces rest last

-- The pieces are some that a lane of the shard may post from a place: those of the first entries that are due there, or what goes on with a copy.
pub record ArePosted (spells : BodySpelling) (cluster : Cluster) (rules : Filter) (s : ShardName) (start : Place) (pieces : List Piece) : Type 0 where
  pub told : List Given
  pub last : Option JournalValue
  pub given_there : AreGiven (rules s) s (log_of cluster s) told last start
  pub base : told ≢ [] → HasBase (log_of cluster s) start
  pub shows : Shows spells s pieces told last

-- What bodies spell, where these columns leave of each shard's tables.
abbrev pub spelled_by : (ShardName → List ℕ → List Column) → BodySpelling
spelled_by fields = record {
  entry = λ s e. rendered (head_of s e.time) (fronts_said (head_of s e.time) (fields s) e.work) (closing_said e.work);
  rows = λ s table rows time. rendered (head_of s time) (chunk_said (fields s) table rows ∷ []) Commits;
}
