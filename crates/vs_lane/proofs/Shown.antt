-- What lists of pieces show, put together and taken apart.
use Rattle.std.proofs.Common.{inl, inr, ◌≡◌, Bool, false, ℕ, List, [], ◌∷◌, ◌++◌, append-nil, Option, None, refl, sym, ap, ◌∙◌, subst, true≢false}
use Rattle.std.specs.Prelude.{◌⊎◌}
use Rattle.vs_base.specs.declared.ShardName.{ShardName}
use Rattle.vs_base.specs.declared.table.Column.{Column}
use Rattle.vs_gtid.specs.declared.Entry.{Entry}
use Rattle.vs_gtid.specs.declared.JournalValue.{JournalValue}
use Rattle.vs_gtid.specs.Logs.{Log}
use Rattle.vs_gtid.specs.Vectors.{Place}
use Rattle.vs_model.specs.Copy.{Bound}
use Rattle.vs_model.specs.Logs.{Image}
use Rattle.vs_model.specs.Core.{Piece as Given, AreGiven}
use Rattle.vs_model.specs.Core.Piece.{Transaction, CopiedRows, CopyEnd}
use Rattle.vs_model.proofs.Given.{given_before}
use Rattle.vs_render.specs.Events.{Commits, chunk_said, closing_said, head_of}
use Rattle.vs_render.specs.Frames.{fronts_said}
use Rattle.vs_render.specs.Bodies.{rendered}
use Rattle.vs_render.specs.Posted.{BodySpelling, Shows, spelled_by}
use Rattle.vs_render.specs.declared.piece.Piece.{Piece}
use Rattle.vs_render.specs.declared.piece.Piece.TheVariants.{Tx, Foreign, Chunk, CopyDone, Idle, End}
use Rattle.vs_render.specs.declared.piece.EndCause.{EndCause}
use Rattle.vs_lane.specs.Pieces.{EndIsLast, OnEnd}

pub end-behind : (e : Bool) (l ps : List Piece) → EndIsLast false l → EndIsLast e ps → EndIsLast e (l ++ ps)
end-behind e [] ps h k = k
end-behind e (Tx gtid time body ∷ l) ps h k = end-behind e l ps h k
end-behind e (Foreign gtid time journal body ∷ l) ps h k = end-behind e l ps h k
end-behind e (Chunk position last time body ∷ l) ps h k = end-behind e l ps h k
end-behind e (CopyDone position time room ∷ l) ps h k = end-behind e l ps h k
end-behind e (Idle room ∷ l) ps h k = end-behind e l ps h k
end-behind e (End cause room ∷ l) ps h k = absurd (true≢false (sym h.0))

pub on_end-behind : (P : EndCause → Type 0) (l ps : List Piece) → EndIsLast false l → OnEnd P ps → OnEnd P (l ++ ps)
on_end-behind P [] ps h k = k
on_end-behind P (Tx gtid time body ∷ l) ps h k = on_end-behind P l ps h k
on_end-behind P (Foreign gtid time journal body ∷ l) ps h k = on_end-behind P l ps h k
on_end-behind P (Chunk position last time body ∷ l) ps h k = on_end-behind P l ps h k
on_end-behind P (CopyDone position time room ∷ l) ps h k = on_end-behind P l ps h k
on_end-behind P (Idle room ∷ l) ps h k = on_end-behind P l ps h k
on_end-behind P (End cause room ∷ l) ps h k = absurd (true≢false (sym h.0))

module _ (spells : BodySpelling) (s : ShardName) where
  pub shows-behind : (l ps : List Piece) (told more : List Given) (last end : Option JournalValue) → EndIsLast false l → Shows spells s l told last → Shows spells s ps more end →
      Shows spells s (l ++ ps) (told ++ more) end
  shows-behind [] ps told more last end none h k = subst (λ x. Shows spells s ps (x ++ more) end) (sym h.0) k
  shows-behind (Tx g time body ∷ l) ps told more last end none h k =
      (h.0, h.1 ++ more, ap (λ x. x ++ more) h.2, h.3, h.4, h.5, h.6, shows-behind l ps h.1 more last end none h.7 k)
  shows-behind (Foreign g time j body ∷ l) ps told more last end none h k =
      (h.0, h.1 ++ more, ap (λ x. x ++ more) h.2, h.3, h.4, h.5, h.6, shows-behind l ps h.1 more last end none h.7 k)
  shows-behind (Chunk q key time body ∷ l) ps told more last end none h k =
      (h.0, h.1, h.2 ++ more, ap (λ x. x ++ more) h.3, h.4, shows-behind l ps h.2 more last end none h.5 k)
  shows-behind (CopyDone q time room ∷ l) ps told more last end none h k =
      (h.0 ++ more, ap (λ x. x ++ more) h.1, shows-behind l ps h.0 more last end none h.2 k)
  shows-behind (Idle room ∷ l) ps told more last end none h k = shows-behind l ps told more last end none h k
  shows-behind (End cause room ∷ l) ps told more last end none h k = absurd (true≢false (sym none.0))

  -- without an End no journal ends the pieces
  pub none_last : (l : List Piece) (told : List Given) (last : Option JournalValue) → EndIsLast false l → Shows spells s l told last → last ≡ None
  none_last [] told last none h = h.1
  none_last (Tx g time body ∷ l) told last none h = none_last l h.1 last none h.7
  none_last (Foreign g time j body ∷ l) told last none h = none_last l h.1 last none h.7
  none_last (Chunk q key time body ∷ l) told last none h = none_last l h.2 last none h.5
  none_last (CopyDone q time room ∷ l) told last none h = none_last l h.0 last none h.2
  none_last (Idle room ∷ l) told last none h = none_last l told last none h
  none_last (End cause room ∷ l) told last none h = absurd (true≢false (sym none.0))

  -- What the first pieces show of what all show. Where a journal ends the first, nothing is told behind.
  pub record ShowsFront (a : List Piece) (told : List Given) (last : Option JournalValue) : Type 0 where
    pub front : List Given
    pub rest : List Given
    pub end : Option JournalValue
    pub are : told ≡ front ++ rest
    pub shows : Shows spells s a front end
    pub whole : (end ≡ None) ⊎ ((rest ≡ []) × (end ≡ last))

  nil_left : {A : Type 0} (xs ys : List A) → xs ++ ys ≡ [] → xs ≡ []
  nil_left [] ys e = refl
  nil_left (x ∷ xs) ys e = absurd (cc)

  pub shows_front : (a b : List Piece) (told : List Given) (last : Option JournalValue) → Shows spells s (a ++ b) told last → ShowsFront a told last
  shows_front [] b told last h = record { front = []; rest = told; end = None; are = refl; shows = (refl, refl); whole = inl refl }
  shows_front (Tx g time body ∷ a) b told last h =
      let f = shows_front a b h.1 last h.7 in
      record { front = Transaction h.0 ∷ f.front; rest = f.rest; end = f.end; are = h.2 ∙ ap (λ l. Transaction h.0 ∷ l) f.are; shows = (h.0, f.front, refl, h.3, h.4, h.5, h.6, f.shows); whole = f.whole }
  shows_front (Foreign g time j body ∷ a) b told last h =
      let f = shows_front a b h.1 last h.7 in
      record { front = Transaction h.0 ∷ f.front; rest = f.rest; end = f.end; are = h.2 ∙ ap (λ l. Transaction h.0 ∷ l) f.are; shows = (h.0, f.front, refl, h.3, h.4, h.5, h.6, f.shows); whole = f.whole }
  shows_front (Chunk q key time body ∷ a) b told last h =
      let f = shows_front a b h.2 last h.5 in
      record { front = CopiedRows h.0 h.1 time q key ∷ f.front; rest = f.rest; end = f.end; are = h.3 ∙ ap (λ l. CopiedRows h.0 h.1 time q key ∷ l) f.are; shows = (h.0, h.1, f.front, refl, h.4, f.shows); whole = f.whole }
  shows_front (CopyDone q time room ∷ a) b told last h =
      let f = shows_front a b h.0 last h.2 in
      record { front = CopyEnd time q ∷ f.front; rest = f.rest; end = f.end; are = h.1 ∙ ap (λ l. CopyEnd time q ∷ l) f.are; shows = (f.front, refl, f.shows); whole = f.whole }
  shows_front (Idle room ∷ a) b told last h =
      let f = shows_front a b told last h in
      record { front = f.front; rest = f.rest; end = f.end; are = f.are; shows = f.shows; whole = f.whole }
  shows_front (End cause room ∷ a) b told last h =
      record { front = []; rest = []; end = last; are = h.1; shows = (nil_left a b h.0, refl, h.2); whole = inr (refl, refl) }

  -- another spelling that spells the same of this shard
  pub shows_same : (other : BodySpelling) → ((e : Entry) → spells.entry s e ≡ other.entry s e) → ((table : List ℕ) (rows : List Image) (time : ℕ) → spells.rows s table rows time ≡ other.rows s table rows time) →
      (l : List Piece) (told : List Given) (last : Option JournalValue) → Shows spells s l told last → Shows other s l told last
  shows_same other entries rows [] told last h = h
  shows_same other entries rows (Tx g time body ∷ l) told last h = (h.0, h.1, h.2, h.3, h.4, h.5, sym (entries h.0) ∙ h.6, shows_same other entries rows l h.1 last h.7)
  shows_same other entries rows (Foreign g time j body ∷ l) told last h = (h.0, h.1, h.2, h.3, h.4, h.5, sym (entries h.0) ∙ h.6, shows_same other entries rows l h.1 last h.7)
  shows_same other entries rows (Chunk q key time body ∷ l) told last h = (h.0, h.1, h.2, h.3, sym (rows h.0 h.1 time) ∙ h.4, shows_same other entries rows l h.2 last h.5)
  shows_same other entries rows (CopyDone q time room ∷ l) told last h = (h.0, h.1, shows_same other entries rows l h.0 last h.2)
  shows_same other entries rows (Idle room ∷ l) told last h = shows_same other entries rows l told last h
  shows_same other entries rows (End cause room ∷ l) told last h = h

-- spellings by columns that are the same of this shard
pub spelled_same : (f g : ShardName → List ℕ → List Column) (s : ShardName) → f s ≡ g s → (l : List Piece) (told : List Given) (last : Option JournalValue) →
    Shows (spelled_by f) s l told last → Shows (spelled_by g) s l told last
spelled_same f g s is l told last h =
    shows_same (spelled_by f) s (spelled_by g)
    (λ e. ap (λ x. rendered (head_of s e.time) (fronts_said (head_of s e.time) x e.work) (closing_said e.work)) is)
    (λ table rows time. ap (λ x. rendered (head_of s time) (chunk_said x table rows ∷ []) Commits) is)
    l told last h

-- the first of what a lane may give, with the journal that ends the first
pub given_front : (bound : Bound) (s : ShardName) (log : Log) (start : Place) (told front rest : List Given) (last end : Option JournalValue) →
    told ≡ front ++ rest → (end ≡ None) ⊎ ((rest ≡ []) × (end ≡ last)) → AreGiven bound s log told last start → AreGiven bound s log front end start
given_front bound s log start told front rest last end are (◌⊎◌.inl none) given =
    subst (λ x. AreGiven bound s log front x start) (sym none) (given_before bound s log front rest last start (subst (λ x. AreGiven bound s log x last start) are given))
given_front bound s log start told front rest last end are (◌⊎◌.inr whole) given =
    subst (λ x. AreGiven bound s log front x start) (sym whole.1)
    (subst (λ x. AreGiven bound s log x last start) (are ∙ ap (λ r. front ++ r) whole.0 ∙ append-nil front) given)
