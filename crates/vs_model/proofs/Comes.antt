-- What stands in a vector has come from a reached start, by the first entries that were due there.
use Rattle.std.proofs.Common.{◌≡◌, ℕ, List, [], ◌∷◌, ◌++◌, take, drop, take-append-drop, Option, Some, None, is_some, refl, ap, sym, ◌∙◌, subst, ⊎_elim, true≢false}
use Rattle.std.proofs.lemmas.Bool.{cases_Bool}
use Rattle.std.proofs.Math.Bool.{or-false}
use Rattle.vs_base.specs.declared.ShardName.{ShardName}
use Rattle.vs_base.specs.declared.LastKey.{LastKey}
use Rattle.vs_base.proofs.NameLemmas.{same_name-is, same_name-refl}
use Rattle.vs_gtid.specs.declared.Entry.{Entry}
use Rattle.vs_gtid.specs.declared.JournalValue.{JournalValue}
use Rattle.vs_model.specs.Names.{Position, same_name, has}
use Rattle.vs_model.specs.Logs.{Cluster, Image, HaveDistinctGtids, LogsAreDistinct, log_of, due, stop, between, IsPositionAfter}
use Rattle.vs_gtid.specs.Vectors.{Vector, Place, place_of, Streams, Copies, switched, successors_of}
use Rattle.vs_gtid.specs.Vectors.Place.{Fresh, Copying, Streaming}
use Rattle.vs_model.specs.Frames.{Frame, shard_of, vector_after, last_vector}
use Rattle.vs_model.specs.Frames.Frame.{Tx, Switch, Halt, Chunk, CopyDone, AllCopied, Beat}
use Rattle.vs_model.specs.Copy.{Bound, Filter, CopyStep, ReadTo, IsChunk, IsCopyDone, IsCopiedTx}
use Rattle.vs_model.specs.Legal.{Continues, HasGathered}
use Rattle.vs_model.specs.Steps.{Step, Steps}
use Rattle.vs_model.specs.Reached.{Reached, IsEffective}
use Rattle.vs_model.specs.Reached.Reached.{at_first, by_journal}
use Rattle.vs_model.proofs.Lists.{some_is_not_none, same_some}
use Rattle.vs_model.proofs.Places.{same_names_stand, successor_streams, switched_from}
use Rattle.vs_model.proofs.Entries.{due-sent, stop-sent, due_twice, grown_twice}

module _ (cluster : Cluster) (v0 : Vector) (s : ShardName) where
  -- the shard has come to q: from a reached start, by the first entries that are due there
  pub record ComesTo (q : Position) : Type 0 where
    pub start : Position
    pub reached : Reached cluster v0 s start
    pub sent : List Entry
    pub rest : List Entry
    pub split : due s (log_of cluster s) start ≡ sent ++ rest
    pub grown : IsPositionAfter start sent q

  -- it comes to its start
  pub at_start : (p : Position) → Reached cluster v0 s p → ComesTo p
  at_start p reached = record {
    start = p;
    reached = reached;
    sent = [];
    rest = due s (log_of cluster s) p;
    split = refl;
    grown = λ g. sym (or-false (has p g));
  }

  -- and on, by the first entries that are due
  pub goes_on : (p q : Position) (es rest : List Entry) → HaveDistinctGtids (log_of cluster s).entries → ComesTo p →
      due s (log_of cluster s) p ≡ es ++ rest → IsPositionAfter p es q → ComesTo q
  goes_on p q es rest distinct come split grown = record {
    start = come.start;
    reached = come.reached;
    sent = come.sent ++ es;
    rest = rest;
    split = due_twice s (log_of cluster s) come.start p come.sent come.rest es rest distinct come.split come.grown split;
    grown = grown_twice come.start p q come.sent es come.grown grown;
  }

  pub same_stop : (q : Position) (come : ComesTo q) → HaveDistinctGtids (log_of cluster s).entries →
      stop s (log_of cluster s) q ≡ stop s (log_of cluster s) come.start
  same_stop q come distinct = stop-sent s (log_of cluster s) come.start q come.sent come.rest distinct come.split come.grown

  pub due_rest : (q : Position) (come : ComesTo q) → HaveDistinctGtids (log_of cluster s).entries → due s (log_of cluster s) q ≡ come.rest
  due_rest q come distinct = due-sent s (log_of cluster s) come.start q come.sent come.rest distinct come.split come.grown

  -- a fresh copy starts at the empty set, and the others have come to their position
  abbrev pub Comes : Place → Type 0
  Comes Fresh = Reached cluster v0 s []
  Comes (Copying q l) = ComesTo q
  Comes (Streaming q) = ComesTo q

  pub first_comes : (place : Place) → place_of v0 s ≡ Some place → Comes place
  first_comes Fresh is = at_first Fresh is refl
  first_comes (Copying q l) is = at_start q (at_first (Copying q l) is refl)
  first_comes (Streaming q) is = at_start q (at_first (Streaming q) is refl)

-- each shard of the vector has come to its place
abbrev pub AllCome : Cluster → Vector → Vector → Type 0
AllCome cluster v0 v = (s : ShardName) (place : Place) → place_of v s ≡ Some place → Comes cluster v0 s place

-- a shard that copies comes on
module _ (cluster : Cluster) (v0 : Vector) (distinct : LogsAreDistinct cluster) (s : ShardName) where
  read_comes : (old : Place) (q : Position) → Comes cluster v0 s old → ReadTo s (log_of cluster s) old q → ComesTo cluster v0 s q
  read_comes Fresh q come read =
      let all = due s (log_of cluster s) [] in
      goes_on cluster v0 s [] q (take read.0 all) (drop read.0 all) (distinct s) (at_start cluster v0 s [] come) (sym (take-append-drop read.0 all)) read.1
  read_comes (Copying p l) q come same = subst (ComesTo cluster v0 s) (sym same) come
  read_comes (Streaming p) q come read = absurd read

  chunk_comes : (bound : Bound) (old new : Place) (table : List ℕ) (rows : List Image) (time : ℕ) → Comes cluster v0 s old →
      IsChunk bound s (log_of cluster s) old table rows time (Some new) → Comes cluster v0 s new
  chunk_comes bound old new table rows time come chunk =
      subst (Comes cluster v0 s) (sym (same_some new (Copying chunk.q chunk.key) chunk.place)) (read_comes old chunk.q come chunk.read_to)

  done_comes : (bound : Bound) (old new : Place) (time : ℕ) → Comes cluster v0 s old →
      IsCopyDone bound s (log_of cluster s) old time (Some new) → Comes cluster v0 s new
  done_comes bound old new time come done =
      subst (Comes cluster v0 s) (sym (same_some new (Streaming done.q) done.place)) (read_comes old done.q come done.read_to)

  tx_comes : (bound : Bound) (p : Position) (l : LastKey) (new : Place) (told : Entry) → ComesTo cluster v0 s p →
      IsCopiedTx bound s (log_of cluster s) p l told (Some new) → Comes cluster v0 s new
  tx_comes bound p l new told come tx =
      subst (Comes cluster v0 s) (sym (same_some new (Copying tx.q l) tx.place))
      (goes_on cluster v0 s p tx.q (tx.e ∷ []) tx.rest (distinct s) come tx.first tx.grown)

  copied : (bound : Bound) (old new : Place) (f : Frame) → Comes cluster v0 s old → CopyStep bound s (log_of cluster s) old f (Some new) →
      Comes cluster v0 s new
  copied bound (Copying p l) new (Tx t e v) come step = tx_comes bound p l new e come step
  copied bound old new (Chunk t table rows time v) come step = chunk_comes bound old new table rows time come step
  copied bound old new (CopyDone t time v) come step = done_comes bound old new time come step
  copied bound old new f come step = absurd step

module _ (cluster : Cluster) (rules : Filter) (v0 : Vector) (distinct : LogsAreDistinct cluster) (v : Vector) (all : AllCome cluster v0 v) where
  -- the participants of a journal that takes effect are reached, and stop at it
  pub gathered_takes_effect : (j : JournalValue) → HasGathered cluster v j → IsEffective cluster v0 j
  gathered_takes_effect j gathered = record {
    shards = gathered.shards;
    some = gathered.some;
    reached = λ t i.
        let arrived = gathered.arrived t i in
        let come = all t (Streaming arrived.0) arrived.1 in
        (come.start, come.reached, sym (same_stop cluster v0 t arrived.0 come (distinct t)) ∙ arrived.3);
  }

  pub effective_reaches : (j : JournalValue) (s : ShardName) (p : Position) → IsEffective cluster v0 j → Streams (successors_of j) s p → Reached cluster v0 s p
  effective_reaches j s p effective streams =
      by_journal j (λ t i. (effective.reached t i).0) effective.shards effective.some (λ t i. (effective.reached t i).1) (λ t i. (effective.reached t i).2) streams

  switch_comes : (j : JournalValue) → HasGathered cluster v j → AllCome cluster v0 (switched v j)
  switch_comes j gathered s place is =
      ⊎_elim (λ before. all s place before)
      (λ successor.
      let streams = successor_streams j.successors s place successor in
      let reached = effective_reaches j s streams.0 (gathered_takes_effect j gathered) (successor ∙ ap Some streams.1) in
      subst (Comes cluster v0 s) (sym streams.1) (at_start cluster v0 s streams.0 reached))
      (switched_from v j s place is)

  -- a frame that is no switch
  module _ (f : Frame) (step : Step cluster rules v f) (moves : Continues v f) (s : ShardName) (place : Place)
      (is : place_of (vector_after v f) s ≡ Some place) where
    streaming_comes : (p : Position) → Streams v s p → Comes cluster v0 s place
    streaming_comes p from =
        let on = moves.stream s p from in
        let sends = step.sends s p on.0 from on.1 in
        subst (Comes cluster v0 s) (same_some (Streaming on.0) place (sym on.1 ∙ is))
        (goes_on cluster v0 s p on.0 (between s (log_of cluster s) p on.0) sends.first.0 (distinct s) (all s (Streaming p) from) sends.first.1 sends.position)

    copying_comes : (old : Place) → Copies v s old → (o : Option ShardName) → shard_of f ≡ o → Comes cluster v0 s place
    copying_comes old copies None of_none =
        let kept = moves.copy s old copies (λ of_s. some_is_not_none s (sym of_s ∙ of_none)) in
        subst (Comes cluster v0 s) (same_some old place (sym kept ∙ is)) (all s old copies.0)
    copying_comes old copies (Some t) of_t = ⊎_elim
        (λ same.
        let step_it = (step.lawful.copy s old (of_t ∙ ap Some (same_name-is t s same)) copies).1 in
        copied cluster v0 distinct s (rules s) old place f (all s old copies.0) (subst (CopyStep (rules s) s (log_of cluster s) old f) is step_it))
        (λ other.
        let kept = moves.copy s old copies (λ of_s. true≢false (sym (ap (λ n. same_name n s) (same_some t s (sym of_t ∙ of_s)) ∙ same_name-refl s) ∙ other)) in
        subst (Comes cluster v0 s) (same_some old place (sym kept ∙ is)) (all s old copies.0))
        (cases_Bool (same_name t s))

    by_old : (o : Option Place) → place_of v s ≡ o → Comes cluster v0 s place
    by_old None none =
        absurd (true≢false (sym (ap is_some is) ∙ same_names_stand (vector_after v f) v s moves.same_names ∙ ap is_some none))
    by_old (Some (Streaming p)) from = streaming_comes p from
    by_old (Some Fresh) from = copying_comes Fresh (from, refl) (shard_of f) refl
    by_old (Some (Copying p l)) from = copying_comes (Copying p l) (from, refl) (shard_of f) refl

  step_comes : (f : Frame) → Step cluster rules v f → AllCome cluster v0 (vector_after v f)
  step_comes (Switch j w) step s place is = switch_comes j step.lawful.journal s place (subst (λ x. place_of x s ≡ Some place) step.lawful.vector is)
  step_comes (Tx t e w) step s place is = by_old (Tx t e w) step step.lawful.vector s place is (place_of v s) refl
  step_comes (Halt j w) step s place is = by_old (Halt j w) step step.lawful.vector s place is (place_of v s) refl
  step_comes (Chunk t table rows time w) step s place is = by_old (Chunk t table rows time w) step step.lawful.vector s place is (place_of v s) refl
  step_comes (CopyDone t time w) step s place is = by_old (CopyDone t time w) step step.lawful.vector s place is (place_of v s) refl
  step_comes AllCopied step s place is = all s place is
  step_comes (Beat now) step s place is = all s place is

pub steps_come : (cluster : Cluster) (rules : Filter) (v0 : Vector) → LogsAreDistinct cluster → (fs : List Frame) (v : Vector) →
    Steps cluster rules v fs → AllCome cluster v0 v → AllCome cluster v0 (last_vector v fs)
steps_come cluster rules v0 distinct [] v steps all = all
steps_come cluster rules v0 distinct (f ∷ fs) v steps all =
    steps_come cluster rules v0 distinct fs (vector_after v f) steps.1 (step_comes cluster rules v0 distinct v all f steps.0)
