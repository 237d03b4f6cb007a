-- A client that applies the frames of a shard from the beginning of its copy has the picked rows, as far as the copy has come.
use Rattle.std.proofs.Common.{◌≡◌, ℕ, true, false, List, [], ◌∷◌, ◌++◌, append_assoc, append-nil, Option, Some, None, Contains, IsTrue, is_some, flat_map, refl, ap, sym, ◌∙◌, subst, ⊎_elim, true≢false}
use Rattle.std.specs.List.{AllByRecursion}
use Rattle.std.proofs.lemmas.Bool.{cases_Bool, cond-true, cond-false}
use Rattle.std.proofs.lemmas.List.Elements.{filter-append}
use Rattle.vs_base.specs.declared.ShardName.{ShardName}
use Rattle.vs_base.specs.declared.Change.{Change}
use Rattle.vs_base.proofs.NameLemmas.{same_name-is, same_name-refl}
use Rattle.vs_model.specs.Names.{same_name, is_in}
use Rattle.vs_model.specs.Logs.{Cluster, Image, LogsAreDistinct, log_of}
use Rattle.vs_gtid.specs.Vectors.{Vector, Place, Copies, place_of, stands}
use Rattle.vs_gtid.specs.Vectors.Place.{Fresh, Copying, Streaming}
use Rattle.vs_model.specs.Frames.{Frame, shard_of, is_of, frames_of, vector_after, last_vector, vectors_along}
use Rattle.vs_model.specs.Frames.Frame.{Tx, Switch, Halt, Chunk, CopyDone, AllCopied, Beat}
use Rattle.vs_model.specs.Copy.{Filter, CopyStep, changes_in, front}
use Rattle.vs_model.specs.Legal.{Legal, Continues}
use Rattle.vs_model.specs.Steps.{Step, Steps}
use Rattle.vs_model.specs.Reached.{start_of}
use Rattle.vs_model.specs.Copies.{IsOrdered, KeepsKeys, ChangesFit, told_in, client_row, copied_row}
use Rattle.vs_model.proofs.Lists.{same_some, some_is_not_none}
use Rattle.vs_model.proofs.Places.{place_of-switched, place_of-switched_out}
use Rattle.vs_model.proofs.Runs.{first_along, legal_is_steps}
use Rattle.vs_model.proofs.CopyFronts.{front-sent}
use Rattle.vs_model.proofs.CopyFrames.{CopyAt, streamed, copy_sent, flat_map-append, fits_nothing}

module _ (cluster : Cluster) (rules : Filter) (distinct : LogsAreDistinct cluster) (told_key : List ℕ → Image → Image) (s : ShardName)
    (ordered : IsOrdered (rules s)) (keeps : KeepsKeys (rules s) told_key) where
  -- the shard stands at a place of its copy, and the client has what it is to have there
  record Has (v : Vector) (cs : List Change) : Type 0 where
    place : Place
    there : place_of v s ≡ Some place
    at : CopyAt (rules s) told_key ordered keeps s (log_of cluster s) (distinct s) place cs

  told_by : List Frame → List Change
  told_by fs = flat_map told_in (frames_of s fs)

  no_frame : (f : Frame) → is_of s (shard_of f) ≡ false → told_by (f ∷ []) ≡ []
  unfolding told_by
  no_frame f other = ap (flat_map told_in) (cond-false (is_of s (shard_of f)) (f ∷ []) [] other)

  one_frame : (f : Frame) → shard_of f ≡ Some s → told_by (f ∷ []) ≡ told_in f
  unfolding told_by
  one_frame f of_s =
      ap (flat_map told_in) (cond-true (is_of s (shard_of f)) (f ∷ []) [] (ap (is_of s) of_s ∙ same_name-refl s)) ∙ append-nil (told_in f)

  -- a frame after which the shard is where it was, and which tells nothing of it
  still : (v w : Vector) (f : Frame) (cs : List Change) → Has v cs → place_of w s ≡ place_of v s → is_of s (shard_of f) ≡ false → Has w (cs ++ told_by (f ∷ []))
  still v w f cs has same other = record {
    place = has.place;
    there = same ∙ has.there;
    at = subst (CopyAt (rules s) told_key ordered keeps s (log_of cluster s) (distinct s) has.place)
        (sym (append-nil cs) ∙ ap (λ l. cs ++ l) (sym (no_frame f other))) has.at;
  }

  module _ (v : Vector) (f : Frame) (step : Step cluster rules v f) (cs : List Change) (has : Has v cs) (stays : IsTrue (stands (vector_after v f) s)) where
    copied : (place : Place) → Copies v s place → CopyAt (rules s) told_key ordered keeps s (log_of cluster s) (distinct s) place cs → Continues v f →
        (o : Option ShardName) → shard_of f ≡ o → Has (vector_after v f) (cs ++ told_by (f ∷ []))
    copied place copies at moves None of_none =
        still v (vector_after v f) f cs has (moves.copy s place copies (λ of_s. some_is_not_none s (sym of_s ∙ of_none)) ∙ sym copies.0) (ap (is_of s) of_none)
    copied place copies at moves (Some t) of_t = ⊎_elim
        (λ same. of_it (of_t ∙ ap Some (same_name-is t s same)) (place_of (vector_after v f) s) refl stays)
        (λ other. still v (vector_after v f) f cs has
        (moves.copy s place copies (λ of_s. true≢false (sym (ap (λ n. same_name n s) (same_some t s (sym of_t ∙ of_s)) ∙ same_name-refl s) ∙ other)) ∙ sym copies.0)
        (ap (is_of s) of_t ∙ other))
        (cases_Bool (same_name t s))
      where
        of_it : shard_of f ≡ Some s → (o : Option Place) → place_of (vector_after v f) s ≡ o → IsTrue (is_some o) → Has (vector_after v f) (cs ++ told_by (f ∷ []))
        of_it of_s None e there = absurd (true≢false (sym there))
        of_it of_s (Some new) e there =
            let step_it = subst (CopyStep (rules s) s (log_of cluster s) place f) e (step.lawful.copy s place of_s copies).1 in
            record {
              place = new;
              there = e;
              at = subst (CopyAt (rules s) told_key ordered keeps s (log_of cluster s) (distinct s) new) (ap (λ l. cs ++ l) (sym (one_frame f of_s)))
                  (copy_sent (rules s) told_key ordered keeps s (log_of cluster s) (distinct s) place new f cs at step_it);
            }

    goes_on : Continues v f → (place : Place) → place_of v s ≡ Some place →
        CopyAt (rules s) told_key ordered keeps s (log_of cluster s) (distinct s) place cs → Has (vector_after v f) (cs ++ told_by (f ∷ []))
    unfolding told_by
    goes_on moves Fresh there at = copied Fresh (there, refl) at moves (shard_of f) refl
    goes_on moves (Copying p l) there at = copied (Copying p l) (there, refl) at moves (shard_of f) refl
    goes_on moves (Streaming p) there at =
        let on = moves.stream s p there in
        record {
          place = Streaming on.0;
          there = on.1;
          at = streamed (rules s) told_key ordered keeps s (log_of cluster s) (distinct s) p on.0 cs (f ∷ []) at (step.sends s p on.0 there on.1);
        }

  step_has : (v : Vector) (f : Frame) (cs : List Change) → Step cluster rules v f → Has v cs → IsTrue (stands (vector_after v f) s) →
      Has (vector_after v f) (cs ++ told_by (f ∷ []))
  step_has v (Switch j w) cs step has stays = ⊎_elim
      (λ out. absurd (gone out))
      (λ in_it. still v w (Switch j w) cs has (ap (λ x. place_of x s) step.lawful.vector ∙ place_of-switched v j s in_it (ap is_some has.there)) refl)
      (cases_Bool (is_in s j.participants))
    where
      gone : is_in s j.participants ≡ true → ⊥
      gone out = true≢false (sym stays ∙ ap is_some
          (ap (λ x. place_of x s) step.lawful.vector ∙ place_of-switched_out v j s out (ap is_some has.there) step.lawful.journal.new))
  step_has v (Tx t e w) cs step has stays = goes_on v (Tx t e w) step cs has stays step.lawful.vector has.place has.there has.at
  step_has v (Halt j w) cs step has stays = goes_on v (Halt j w) step cs has stays step.lawful.vector has.place has.there has.at
  step_has v (Chunk t table rows time w) cs step has stays = goes_on v (Chunk t table rows time w) step cs has stays step.lawful.vector has.place has.there has.at
  step_has v (CopyDone t time w) cs step has stays = goes_on v (CopyDone t time w) step cs has stays step.lawful.vector has.place has.there has.at
  step_has v AllCopied cs step has stays = goes_on v AllCopied step cs has stays step.lawful.vector has.place has.there has.at
  step_has v (Beat now) cs step has stays = goes_on v (Beat now) step cs has stays step.lawful.vector has.place has.there has.at

  steps_have : (fs : List Frame) (v : Vector) (cs : List Change) → Steps cluster rules v fs → Has v cs →
      AllByRecursion (λ x. IsTrue (stands x s)) (vectors_along v fs) → Has (last_vector v fs) (cs ++ told_by fs)
  unfolding told_by
  steps_have [] v cs steps has stand = subst (Has v) (sym (append-nil cs)) has
  steps_have (f ∷ fs) v cs steps has stand =
      let on = step_has v f cs steps.0 has (first_along (λ x. IsTrue (stands x s)) (vector_after v f) fs stand.1) in
      let all = steps_have fs (vector_after v f) (cs ++ told_by (f ∷ [])) steps.1 on stand.1 in
      subst (Has (last_vector (vector_after v f) fs))
      (append_assoc cs (told_by (f ∷ [])) (told_by fs)
      ∙ ap (λ l. cs ++ l) (sym (ap (flat_map told_in) (filter-append (λ g. is_of s (shard_of g)) (f ∷ []) fs)
      ∙ flat_map-append told_in (frames_of s (f ∷ [])) (frames_of s fs)))) all

  module _ (v0 : Vector) (fs : List Frame) (place : Place) (legal : Legal cluster rules v0 fs) (fresh : place_of v0 s ≡ Some Fresh)
      (stand : AllByRecursion (λ v. IsTrue (stands v s)) (vectors_along v0 fs)) (there : place_of (last_vector v0 fs) s ≡ Some place)
      (fit : ChangesFit (rules s) (changes_in (front (log_of cluster s) (start_of place)))) where
    pub copies_rows : (table : List ℕ) (key : Image) → Contains (rules s).tables table →
        client_row (rules s) told_key (frames_of s fs) table key
        ≡ copied_row (rules s) place (changes_in (front (log_of cluster s) (start_of place))) table key
    unfolding told_by
    copies_rows table key picked =
        let has = steps_have fs v0 [] (legal_is_steps cluster rules v0 fs legal)
        (record { place = Fresh; there = fresh; at = fits_nothing (rules s) told_key ordered keeps s (log_of cluster s) (distinct s) }) stand in
        let same_place = same_some has.place place (sym has.there ∙ there) in
        let at = subst (λ x. CopyAt (rules s) told_key ordered keeps s (log_of cluster s) (distinct s) x (told_by fs)) same_place has.at in
        let sent = front-sent s (log_of cluster s) (start_of place) at.sent at.rest (distinct s) at.split at.grown in
        at.rows (subst (λ es. ChangesFit (rules s) (changes_in es)) sent fit) table picked key
        ∙ ap (λ es. copied_row (rules s) place (changes_in es) table key) (sym sent)
