-- Each kind of frame is a lawful step.
use Rattle.std.proofs.Common.{◌≡◌, ℕ, true, false, List, [], ◌∷◌, Some, None, IsTrue, IfSome, is_some, refl, ap, sym, ◌∙◌, subst, ⊎_elim}
use Rattle.std.specs.List.{AllZip}
use Rattle.std.proofs.lemmas.Bool.{cases_Bool, cond-true, cond-false}
use Rattle.vs_base.specs.declared.ShardName.{ShardName}
use Rattle.vs_base.proofs.NameLemmas.{same_name-is, same_name-refl}
use Rattle.vs_gtid.specs.declared.Entry.{Entry}
use Rattle.vs_gtid.specs.declared.JournalValue.{JournalValue}
use Rattle.vs_gtid.specs.declared.Work.{Work}
use Rattle.vs_gtid.specs.declared.Work.TheVariants.{Rows, Ddl, Other, Journal}
use Rattle.vs_model.specs.Names.{Position, SameSet, same_name, is_in}
use Rattle.vs_model.specs.Logs.{Cluster, LogsAreDistinct, log_of, journal_of}
use Rattle.vs_gtid.specs.Vectors.{Vector, Place, IsCanonicalVector, Streams, Copies, place_of, stands, names, moved, switched}
use Rattle.vs_gtid.specs.Vectors.Place.{Streaming}
use Rattle.vs_model.specs.Frames.{Frame, shard_of, is_of, frames_of, vector_after}
use Rattle.vs_model.specs.Frames.Frame.{Tx, Switch, Halt, Chunk, CopyDone, AllCopied, Beat}
use Rattle.vs_model.specs.Copy.{Bound, Filter, picked, picked_work, CopyStep}
use Rattle.vs_model.specs.Legal.{Sends, IsTxOf, Continues, VectorMoves, CopiesEnd, HasGathered, NoParticipantStands, JournalFits, NoneCopies}
use Rattle.vs_model.specs.Steps.{SendsTx, SendsCopy, Step}
use Rattle.vs_model.proofs.Lists.{same_some, some_is_not_none}
use Rattle.vs_model.proofs.Places.{same_position, streams_or_copies, place_of-moved, place_of-moved_other, names-moved, place_of-switched, place_of-switched_out}
use Rattle.vs_model.proofs.Sent.{between-sent, sends_from, sends_nothing}

-- what a frame after the vector v owes of a shard that streams
abbrev SendsAt : Cluster → Filter → Vector → Frame → Position → Position → ShardName → Type 0
SendsAt cluster rules v f p q s = Streams v s p → Streams (vector_after v f) s q → Sends (rules s) s (log_of cluster s) p q (f ∷ [])

-- a shard that keeps its place, and has no frame
module _ (cluster : Cluster) (rules : Filter) (v w : Vector) (s : ShardName) (p q : Position) (fs : List Frame) where
  pub sends_still : place_of w s ≡ place_of v s → frames_of s fs ≡ [] → Streams v s p → Streams w s q → Sends (rules s) s (log_of cluster s) p q fs
  sends_still same no_frame from to =
      subst (λ r. Sends (rules s) s (log_of cluster s) p r fs) (same_position w s p q (same ∙ from) to)
      (sends_nothing (rules s) s (log_of cluster s) p fs no_frame)

no_frame_of_other : (s t : ShardName) (f : Frame) → shard_of f ≡ Some s → same_name s t ≡ false → frames_of t (f ∷ []) ≡ []
no_frame_of_other s t f of_s other = cond-false (is_of t (shard_of f)) (f ∷ []) [] (ap (is_of t) of_s ∙ other)

-- a frame after which the vector is the same, and which is of no shard
module _ (v : Vector) where
  pub continues_still : (f : Frame) → vector_after v f ≡ v → Continues v f
  continues_still f same = record {
    same_names = ap names same;
    stream = λ s p streams. (p, subst (λ w. Streams w s p) (sym same) streams);
    copy = λ s place copies others. subst (λ w. place_of w s ≡ Some place) (sym same) copies.0;
  }

  pub step_of_none : (cluster : Cluster) (rules : Filter) (f : Frame) → shard_of f ≡ None → vector_after v f ≡ v → VectorMoves v f →
      JournalFits cluster v f → CopiesEnd v f → IsCanonicalVector v → Step cluster rules v f
  step_of_none cluster rules f of_none same moves journal copies_end canonical = record {
    lawful = record {
      shard = subst (λ o. IfSome o (λ s. IsTrue (stands v s))) (sym of_none) tt;
      vector = moves;
      journal = journal;
      copy = λ s place of_s copies. absurd (some_is_not_none s (sym of_s ∙ of_none));
      copies_end = copies_end;
      canonical = subst IsCanonicalVector (sym same) canonical;
    };
    sends = λ s p q from to. sends_still cluster rules v (vector_after v f) s p q (f ∷ []) (ap (λ w. place_of w s) same)
        (cond-false (is_of s (shard_of f)) (f ∷ []) [] (ap (is_of s) of_none)) from to;
  }

module _ (cluster : Cluster) (rules : Filter) (v : Vector) where
  pub step_beat : (now : ℕ) → IsCanonicalVector v → Step cluster rules v (Beat now)
  step_beat now canonical = step_of_none v cluster rules (Beat now) refl refl (continues_still v (Beat now) refl) tt tt canonical

  pub step_all_copied : NoneCopies v → IsCanonicalVector v → Step cluster rules v AllCopied
  step_all_copied none canonical = step_of_none v cluster rules AllCopied refl refl (continues_still v AllCopied refl) tt none canonical

  pub step_halt : (j : JournalValue) → HasGathered cluster v j → IsCanonicalVector v → Step cluster rules v (Halt j v)
  step_halt j gathered canonical = step_of_none v cluster rules (Halt j v) refl refl (continues_still v (Halt j v) refl) gathered tt canonical

  -- the participants leave, the others stay where they are, and none of the successors was there
  module _ (j : JournalValue) (gathered : HasGathered cluster v j) where
    stays : (s : ShardName) (p q : Position) → Streams v s p → Streams (switched v j) s q → place_of (switched v j) s ≡ place_of v s
    stays s p q from to =
        ⊎_elim (λ e. absurd (some_is_not_none _ (sym to ∙ place_of-switched_out v j s e (ap is_some from) gathered.new)))
        (λ e. place_of-switched v j s e (ap is_some from))
        (cases_Bool (is_in s j.participants))

    pub step_switch : IsCanonicalVector (switched v j) → Step cluster rules v (Switch j (switched v j))
    step_switch canonical = record {
      lawful = record {
        shard = tt;
        vector = refl;
        journal = gathered;
        copy = λ s place of_s copies. absurd (some_is_not_none s (sym of_s));
        copies_end = tt;
        canonical = canonical;
      };
      sends = λ s p q from to. sends_still cluster rules v (switched v j) s p q (Switch j (switched v j) ∷ []) (stays s p q from to) refl from to;
    }

pub journal_of-picked : (bound : Bound) (e : Entry) → journal_of (picked bound e).work ≡ journal_of e.work
journal_of-picked bound e = by_work e.work
  where
    by_work : (work : Work) → journal_of (picked_work bound work) ≡ journal_of work
    by_work (Rows changes) = refl
    by_work (Ddl text) = refl
    by_work Other = refl
    by_work (Journal j) = refl

-- a frame of the shard s, after which the vector has another place for it
module _ (v : Vector) (f : Frame) (s : ShardName) (new : Place) (of_s : shard_of f ≡ Some s) (vector : vector_after v f ≡ moved v s new)
    (there : stands v s ≡ true) where
  place_at : place_of (vector_after v f) s ≡ Some new
  place_at = ap (λ w. place_of w s) vector ∙ place_of-moved v s new there

  elsewhere : (t : ShardName) → same_name s t ≡ false → place_of (vector_after v f) t ≡ place_of v t
  elsewhere t other = ap (λ w. place_of w t) vector ∙ place_of-moved_other v s t new other

  StreamsOn : ShardName → Type 0
  StreamsOn t = (p : Position) → Streams v t p → (q : Position) × Streams (vector_after v f) t q

  continues_moved : ((p : Position) → Streams v s p → (q : Position) × (new ≡ Streaming q)) → Continues v f
  unfolding StreamsOn
  continues_moved goes_on = record {
    same_names = ap names vector ∙ names-moved v s new;
    stream = λ t. ⊎_elim
        (λ same. subst StreamsOn (same_name-is s t same) (λ p streams. let on = goes_on p streams in (on.0, place_at ∙ ap Some on.1)))
        (λ other p streams. (p, elsewhere t other ∙ streams))
        (cases_Bool (same_name s t));
    copy = λ t place copies others. ⊎_elim
        (λ same. absurd (others (of_s ∙ ap Some (same_name-is s t same))))
        (λ other. elsewhere t other ∙ copies.0)
        (cases_Bool (same_name s t));
  }

  sends_moved : (cluster : Cluster) (rules : Filter) → ((p q : Position) → SendsAt cluster rules v f p q s) →
      (t : ShardName) (p q : Position) → SendsAt cluster rules v f p q t
  sends_moved cluster rules at_s t p q = ⊎_elim
      (λ same. subst (SendsAt cluster rules v f p q) (same_name-is s t same) (at_s p q))
      (λ other. sends_still cluster rules v (vector_after v f) t p q (f ∷ []) (elsewhere t other) (no_frame_of_other s t f of_s other))
      (cases_Bool (same_name s t))

-- a transaction of a shard that streams
module _ (cluster : Cluster) (rules : Filter) (v w : Vector) (s : ShardName) (told : Entry) (distinct : LogsAreDistinct cluster)
    (sends : SendsTx cluster rules v s told w) where
  open sends use {p, e, rest, q, streams}

  abbrev frame : Frame
  frame = Tx s told w

  there : stands v s ≡ true
  there = ap is_some streams

  here : Streams w s q
  here = place_at v frame s (Streaming q) refl sends.vector there

  one_frame : frames_of s (frame ∷ []) ≡ frame ∷ []
  one_frame = cond-true (same_name s s) (frame ∷ []) [] (same_name-refl s)

  one_sent : Sends (rules s) s (log_of cluster s) p q (frame ∷ [])
  one_sent =
      let is = between-sent s (log_of cluster s) p q (e ∷ []) rest (distinct s) sends.first sends.grown in
      sends_from (rules s) s (log_of cluster s) p q (frame ∷ []) (e ∷ []) rest is sends.first
      (subst (λ l. AllZip (IsTxOf (rules s)) l (e ∷ [])) (sym one_frame) (sends.told_is, tt))
      (λ some. sends.base) sends.grown

  sent_at : (p' q' : Position) → SendsAt cluster rules v frame p' q' s
  sent_at p' q' from to =
      subst (λ x. Sends (rules s) s (log_of cluster s) x q' (frame ∷ [])) (same_position v s p p' streams from)
      (subst (λ x. Sends (rules s) s (log_of cluster s) p x (frame ∷ [])) (same_position w s q q' here to) one_sent)

  pub step_tx : Step cluster rules v frame
  step_tx = record {
    lawful = record {
      shard = there;
      vector = continues_moved v frame s (Streaming q) refl sends.vector there (λ p' from. (q, refl));
      journal = subst (λ o. IfSome o (NoParticipantStands s v)) (sym (ap (λ x. journal_of x.work) sends.told_is ∙ journal_of-picked (rules s) e)) sends.foreign;
      copy = λ t place of_t copies. absurd (streams_or_copies v s p place streams (subst (λ n. Copies v n place) (sym (same_some s t of_t)) copies));
      copies_end = tt;
      canonical = sends.canonical;
    };
    sends = sends_moved v frame s (Streaming q) refl sends.vector there cluster rules sent_at;
  }

-- a frame of a shard that copies
moves_of : (v : Vector) (f : Frame) (s : ShardName) → shard_of f ≡ Some s → Continues v f → VectorMoves v f
moves_of v (Tx t e w) s of_s on = on
moves_of v (Switch j w) s of_s on = absurd (some_is_not_none s (sym of_s))
moves_of v (Halt j w) s of_s on = on
moves_of v (Chunk t table rows time w) s of_s on = on
moves_of v (CopyDone t time w) s of_s on = on
moves_of v AllCopied s of_s on = on
moves_of v (Beat now) s of_s on = on

copies_end_of : (v : Vector) (f : Frame) (s : ShardName) → shard_of f ≡ Some s → CopiesEnd v f
copies_end_of v (Tx t e w) s of_s = tt
copies_end_of v (Switch j w) s of_s = tt
copies_end_of v (Halt j w) s of_s = tt
copies_end_of v (Chunk t table rows time w) s of_s = tt
copies_end_of v (CopyDone t time w) s of_s = tt
copies_end_of v AllCopied s of_s = absurd (some_is_not_none s (sym of_s))
copies_end_of v (Beat now) s of_s = tt

module _ (cluster : Cluster) (rules : Filter) (v : Vector) (s : ShardName) (f : Frame) (sends : SendsCopy cluster rules v s f) where
  open sends use {old, new, of_s, copies}

  stands_there : stands v s ≡ true
  stands_there = ap is_some copies.0

  -- what a frame of a shard that copies from a place owes
  CopiesAt : ShardName → Place → Type 0
  CopiesAt t place = SameSet (log_of cluster t).base [] × CopyStep (rules t) t (log_of cluster t) place f (place_of (vector_after v f) t)

  copies_at : (place : Place) → Copies v s place → CopiesAt s place
  unfolding CopiesAt
  copies_at place from =
      subst (CopiesAt s) (same_some old place (sym copies.0 ∙ from.0))
      (sends.base, subst (CopyStep (rules s) s (log_of cluster s) old f) (sym (place_at v f s new of_s sends.vector stands_there)) sends.step)

  pub step_copy : Step cluster rules v f
  unfolding CopiesAt
  step_copy = record {
    lawful = record {
      shard = subst (λ o. IfSome o (λ t. IsTrue (stands v t))) (sym of_s) stands_there;
      vector = moves_of v f s of_s (continues_moved v f s new of_s sends.vector stands_there (λ p from. absurd (streams_or_copies v s p old from copies)));
      journal = sends.foreign;
      copy = λ t place of_t. subst (λ n. Copies v n place → CopiesAt n place) (same_some s t (sym of_s ∙ of_t)) (copies_at place);
      copies_end = copies_end_of v f s of_s;
      canonical = sends.canonical;
    };
    sends = sends_moved v f s new of_s sends.vector stands_there cluster rules (λ p q from. absurd (streams_or_copies v s p old from copies));
  }
