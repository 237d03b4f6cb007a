-- The frames of a shard's first due entries are legal, and end where nothing is due where they are all of them.
use Rattle.std.proofs.Common.{◌≡◌, ℕ, Bool, true, false, ◌||◌, ◌&&◌, List, [], ◌∷◌, ◌++◌, Some, None, IsTrue, IsFalse, if◌then◌else◌, is_some, refl, sym, ap, subst, ◌∙◌}
use Rattle.std.specs.Prelude.{IfSome, ◌⊎◌}
use Rattle.std.specs.List.{AllByRecursion}
use Rattle.std.proofs.Math.Bool.{or-false, or_assoc}
use Rattle.vs_base.specs.declared.ShardName.{ShardName}
use Rattle.vs_base.specs.declared.Gtid.{Gtid}
use Rattle.vs_base.specs.Names.{same_gtid, same_name}
use Rattle.vs_base.specs.declared.table.Table.{Table}
use Rattle.vs_filter.specs.Picks.{bound_in}
use Rattle.vs_filter.specs.declared.bound.Picked.{Picked}
use Rattle.vs_render.specs.Bodies.{columns_in}
use Rattle.vs_render.specs.Events.{Telling}
use Rattle.vs_render.specs.Frames.{frame_bytes, frames_bytes}
use Rattle.vs_render.specs.Laws.{BodiesMakeFrames}
use Rattle.vs_base.proofs.NameLemmas.{same_name-refl}
use Rattle.vs_gtid.specs.declared.Work.{Work}
use Rattle.vs_gtid.specs.declared.Work.TheVariants.{Rows, Ddl, Other, Journal}
use Rattle.vs_gtid.specs.declared.Entry.{Entry}
use Rattle.vs_gtid.specs.Positions.{Position, has, IsSubset, IsCanonical}
use Rattle.vs_gtid.specs.Joins.{added}
use Rattle.vs_gtid.specs.Logs.{Log}
use Rattle.vs_gtid.proofs.JoinLemmas.{has-added}
use Rattle.vs_model.specs.Logs.{Cluster, LogsAreDistinct, log_of, due, journal_of, IsPositionAfter, is_gtid_of}
use Rattle.vs_gtid.specs.Vectors.{Vector, Place, is_in, place_of, moved, stands}
use Rattle.vs_gtid.specs.Vectors.Place.{Streaming}
use Rattle.vs_model.specs.Frames.{Frame, last_vector}
use Rattle.vs_model.specs.Frames.Frame.{AllCopied}
use Rattle.vs_model.specs.Copy.{Filter, picked}
use Rattle.vs_model.specs.Legal.{AllCopiedFollows, NoParticipantStands}
use Rattle.vs_model.specs.Steps.{SendsTx, Steps}
use Rattle.vs_command.specs.Sending.{vector_at, position_after, entries_bytes, entry_bytes, entry_frames, next_frame, IsCanonicalAlong}
use Rattle.vs_model.specs.Laws.{DueGoesOn, TransactionsAreSteps}

-- the position with a GTID is the one after its entry
after_one : (p : Position) (e : Entry) → IsPositionAfter p (e ∷ []) (added p e.gtid)
after_one p e g = has-added p e.gtid g ∙ ap (λ b. has p g || b) (sym (or-false (same_gtid e.gtid g)))

pub after_all : (p : Position) (es : List Entry) → IsPositionAfter p es (position_after p es)
after_all p [] g = sym (or-false (has p g))
after_all p (e ∷ es) g =
    after_all (added p e.gtid) es g ∙ ap (λ b. b || is_gtid_of es g) (has-added p e.gtid g) ∙ or_assoc (has p g) (same_gtid e.gtid g) (is_gtid_of es g)

-- an entry is picked alike under each schema
picked_same : (tables : List Picked) (schema : List Table) (g : Gtid) (t : ℕ) (w : Work) →
    ◌≡◌ {A = Entry} (picked (bound_in tables []) (record { gtid = g; time = t; work = w })) (picked (bound_in tables schema) (record { gtid = g; time = t; work = w }))
picked_same tables schema g t (Ddl text) = refl
picked_same tables schema g t Other = refl
picked_same tables schema g t (Rows changes) = refl
picked_same tables schema g t (Journal j) = refl

-- no participant of a foreign journal stands in the vector of the one shard
none_stands : (s : ShardName) (p : Position) (names : List ShardName) → is_in s names ≡ false → AllByRecursion (λ t. IsFalse (stands (vector_at s p) t)) names
none_stands s p [] h = tt
none_stands s p (n ∷ names) h = (first, none_stands s p names (or_second (same_name s n) (is_in s names) h))
  where
    or_first : (a b : Bool) → (a || b) ≡ false → a ≡ false
    or_first true b h = absurd (cc)
    or_first false b h = refl

    or_second : (a b : Bool) → (a || b) ≡ false → b ≡ false
    or_second true b h = absurd (cc)
    or_second false b h = h

    first : IsFalse (stands (vector_at s p) n)
    first = ap (λ b. is_some (if b then Some (Streaming p) else None)) (or_first (same_name s n) (is_in s names) h)

not_foreign : (s : ShardName) (p : Position) (w : Work) → IfSome (journal_of w) (NoParticipantStands s (vector_at s p))
not_foreign s p (Ddl text) = tt
not_foreign s p Other = tt
not_foreign s p (Rows changes) = tt
not_foreign s p (Journal j) = λ shards foreign. none_stands s p j.participants (and_second j.shards (is_in s j.participants) shards foreign)
  where
    and_second : (a b : Bool) → IsTrue a → IsFalse (a && b) → b ≡ false
    and_second true b h k = k
    and_second false b h k = absurd (cc)

stands_at : (s : ShardName) (p : Position) → place_of (vector_at s p) s ≡ Some (Streaming p)
stands_at s p = ap (λ b. if b then Some (Streaming p) else None) (same_name-refl s)

moved_at : (s : ShardName) (p q : Position) → vector_at s q ≡ moved (vector_at s p) s (Streaming q)
moved_at s p q = let slot : ShardName × Place = (s, Streaming p) in sym (ap (λ b. if b then (s, Streaming q) ∷ [] else slot ∷ []) (same_name-refl s))

subset_added : (base p : Position) (g : Gtid) → IsSubset base p → IsSubset base (added p g)
subset_added base p g within x h = subst IsTrue (sym (has-added p g x)) (or_true (has p x) (same_gtid g x) (within x h))
  where
    or_true : (a b : Bool) → IsTrue a → IsTrue (a || b)
    or_true true b h = refl
    or_true false b h = absurd (cc)

-- the filter of the shard picks from these tables
abbrev pub PicksFrom : Filter → ShardName → List Picked → Type 0
PicksFrom rules s tables = (schema : List Table) × (rules s ≡ bound_in tables schema)

told_is : (rules : Filter) (s : ShardName) (tables : List Picked) (e : Entry) → PicksFrom rules s tables → picked (bound_in tables []) e ≡ picked (rules s) e
told_is rules s tables e (schema, is) = picked_same tables schema e.gtid e.time e.work ∙ ap (λ b. picked b e) (sym is)

sends : (cluster : Cluster) (rules : Filter) (tables : List Picked) (s : ShardName) (p : Position) (e : Entry) (rest : List Entry) → PicksFrom rules s tables → due s (log_of cluster s) p ≡ e ∷ rest →
    IsSubset (log_of cluster s).base p → IsCanonical (added p e.gtid) → SendsTx cluster rules (vector_at s p) s (picked (bound_in tables []) e) (vector_at s (added p e.gtid))
sends cluster rules tables s p e rest picks first base canonical = record {
  p = p;
  e = e;
  rest = rest;
  q = added p e.gtid;
  streams = stands_at s p;
  first = first;
  told_is = told_is rules s tables e picks;
  base = base;
  grown = after_one p e;
  vector = moved_at s p (added p e.gtid);
  canonical = (canonical, tt);
  foreign = not_foreign s p e.work;
}

pub steps_sent : TransactionsAreSteps → DueGoesOn → (cluster : Cluster) (rules : Filter) (tables : List Picked) (s : ShardName) → PicksFrom rules s tables → LogsAreDistinct cluster → (p : Position) (sent rest : List Entry) →
    due s (log_of cluster s) p ≡ sent ++ rest → (sent ≡ []) ⊎ IsSubset (log_of cluster s).base p → IsCanonicalAlong p sent →
    Steps cluster rules (vector_at s p) (entry_frames tables s p sent)
steps_sent tx due_law cluster rules tables s picks distinct p [] rest are base canonical = tt
steps_sent tx due_law cluster rules tables s picks distinct p (e ∷ es) rest are (◌⊎◌.inl none) canonical = absurd (cc)
steps_sent tx due_law cluster rules tables s picks distinct p (e ∷ es) rest are (◌⊎◌.inr base) canonical = (
  tx cluster rules (vector_at s p) (vector_at s (added p e.gtid)) s (picked (bound_in tables []) e) distinct (sends cluster rules tables s p e (es ++ rest) picks are base canonical.0),
  steps_sent tx due_law cluster rules tables s picks distinct (added p e.gtid) es rest
      (due_law s (log_of cluster s) p (added p e.gtid) (e ∷ []) (es ++ rest) (distinct s) are (after_one p e))
      (◌⊎◌.inr (subset_added (log_of cluster s).base p e.gtid base)) canonical.1,
)

-- the bytes of the frames are those of the bodies with the vectors
pub frames_spelled : BodiesMakeFrames → (t : Telling) (tables : List Picked) (s : ShardName) → t.fields s ≡ columns_in tables → (p : Position) (es : List Entry) →
    frames_bytes t (entry_frames tables s p es) ≡ entries_bytes tables s p es
unfolding entry_bytes
frames_spelled law t tables s fields p [] = refl
frames_spelled law t tables s fields p (e ∷ es) =
    ap (λ l. frame_bytes t (next_frame tables s p e) ++ l) (frames_spelled law t tables s fields (added p e.gtid) es)
    ∙ ap (λ l. l ++ entries_bytes tables s (added p e.gtid) es) (law t tables [] s e (vector_at s (added p e.gtid)) fields)

-- no copy ends among transactions
none_copied : (tables : List Picked) (s : ShardName) (p : Position) (sent : List Entry) (before behind : List Frame) → entry_frames tables s p sent ≡ before ++ AllCopied ∷ behind → ⊥
none_copied tables s p [] [] behind h = cc
none_copied tables s p [] (b ∷ before) behind h = cc
none_copied tables s p (e ∷ es) [] behind h = cc
none_copied tables s p (e ∷ es) (b ∷ before) behind h = none_copied tables s (added p e.gtid) es before behind (let t : entry_frames tables s (added p e.gtid) es ≡ before ++ AllCopied ∷ behind = cc in t)

pub copies_sent : (tables : List Picked) (s : ShardName) (p : Position) (sent : List Entry) → AllCopiedFollows (entry_frames tables s p sent)
copies_sent tables s p sent before behind h = absurd (none_copied tables s p sent before behind h)

pub last_sent : (tables : List Picked) (s : ShardName) (p : Position) (sent : List Entry) → last_vector (vector_at s p) (entry_frames tables s p sent) ≡ vector_at s (position_after p sent)
last_sent tables s p [] = refl
last_sent tables s p (e ∷ es) = last_sent tables s (added p e.gtid) es
