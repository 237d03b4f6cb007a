-- A shard stands in the vectors, and goes on streaming, until a switch takes it out.
use Rattle.std.proofs.Common.{◌≡◌, List, [], ◌∷◌, ◌++◌, IsTrue, IsFalse, is_some, refl, ap, sym, ◌∙◌, subst, ◌⊎◌, inl, inr, ⊎_elim}
use Rattle.std.specs.List.{AllByRecursion}
use Rattle.std.proofs.lemmas.Bool.{cases_Bool}
use Rattle.vs_base.specs.declared.ShardName.{ShardName}
use Rattle.vs_gtid.specs.declared.JournalValue.{JournalValue}
use Rattle.vs_model.specs.Names.{Position, is_in}
use Rattle.vs_model.specs.Logs.{Cluster}
use Rattle.vs_gtid.specs.Vectors.{Vector, stands, Streams}
use Rattle.vs_model.specs.Frames.{Frame, vector_after, last_vector, vectors_along}
use Rattle.vs_model.specs.Frames.Frame.{Tx, Switch, Halt, Chunk, CopyDone, AllCopied, Beat}
use Rattle.vs_model.specs.Copy.{Filter}
use Rattle.vs_model.specs.Steps.{Step, Steps}
use Rattle.vs_model.proofs.Places.{place_of-switched, same_names_stand}

-- the frame is no switch that takes the shard out
abbrev pub StaysAt : ShardName → Frame → Type 0
StaysAt s (Switch j w) = IsFalse (is_in s j.participants)
StaysAt s f = Unit {0}

abbrev pub Leaves : ShardName → List Frame → Type 0
Leaves s fs = (j : JournalValue) × (w : Vector) × (rest : List Frame) × (fs ≡ Switch j w ∷ rest) × IsTrue (is_in s j.participants)

-- the frames up to the first that takes the shard out, if there is one
pub record FirstOut (s : ShardName) (fs : List Frame) : Type 0 where
  pub middle : List Frame
  pub behind : List Frame
  pub is : fs ≡ middle ++ behind
  pub stays : AllByRecursion (StaysAt s) middle
  pub ends : (behind ≡ []) ⊎ Leaves s behind

stays_or_leaves : (s : ShardName) (f : Frame) (fs : List Frame) → StaysAt s f ⊎ Leaves s (f ∷ fs)
stays_or_leaves s (Switch j w) fs = ⊎_elim (λ out. inr (j, w, fs, refl, out)) (λ stays. inl stays) (cases_Bool (is_in s j.participants))
stays_or_leaves s f fs = inl tt

pub first_out : (s : ShardName) (fs : List Frame) → FirstOut s fs
first_out s [] = record { middle = []; behind = []; is = refl; stays = tt; ends = inl refl }
first_out s (f ∷ fs) =
    let out = first_out s fs in
    ⊎_elim
    (λ stays. record { middle = f ∷ out.middle; behind = out.behind; is = ap (λ l. f ∷ l) out.is; stays = (stays, out.stays); ends = out.ends })
    (λ leaves. record { middle = []; behind = f ∷ fs; is = refl; stays = tt; ends = inr leaves })
    (stays_or_leaves s f fs)

module _ (cluster : Cluster) (rules : Filter) (s : ShardName) where
  step_stands : (v : Vector) (f : Frame) → Step cluster rules v f → StaysAt s f → IsTrue (stands v s) → IsTrue (stands (vector_after v f) s)
  step_stands v (Switch j w) step stays there =
      subst (λ x. IsTrue (stands x s)) (sym step.lawful.vector) (ap is_some (place_of-switched v j s stays there) ∙ there)
  step_stands v (Tx t e w) step stays there = same_names_stand w v s step.lawful.vector.same_names ∙ there
  step_stands v (Halt j w) step stays there = same_names_stand w v s step.lawful.vector.same_names ∙ there
  step_stands v (Chunk t table rows time w) step stays there = same_names_stand w v s step.lawful.vector.same_names ∙ there
  step_stands v (CopyDone t time w) step stays there = same_names_stand w v s step.lawful.vector.same_names ∙ there
  step_stands v AllCopied step stays there = there
  step_stands v (Beat now) step stays there = there

  pub stands_on : (fs : List Frame) (v : Vector) → Steps cluster rules v fs → AllByRecursion (StaysAt s) fs → IsTrue (stands v s) →
      IsTrue (stands (last_vector v fs) s)
  stands_on [] v steps stays there = there
  stands_on (f ∷ fs) v steps stays there =
      stands_on fs (vector_after v f) steps.1 stays.1 (step_stands v f steps.0 stays.0 there)

  step_streams : (v : Vector) (f : Frame) (p : Position) → Step cluster rules v f → StaysAt s f → Streams v s p →
      (q : Position) × Streams (vector_after v f) s q
  step_streams v (Switch j w) p step stays from =
      (p, subst (λ x. Streams x s p) (sym step.lawful.vector) (place_of-switched v j s stays (ap is_some from) ∙ from))
  step_streams v (Tx t e w) p step stays from = step.lawful.vector.stream s p from
  step_streams v (Halt j w) p step stays from = step.lawful.vector.stream s p from
  step_streams v (Chunk t table rows time w) p step stays from = step.lawful.vector.stream s p from
  step_streams v (CopyDone t time w) p step stays from = step.lawful.vector.stream s p from
  step_streams v AllCopied p step stays from = (p, from)
  step_streams v (Beat now) p step stays from = (p, from)

  pub streams_along : (fs : List Frame) (v : Vector) (p : Position) → Steps cluster rules v fs → AllByRecursion (StaysAt s) fs → Streams v s p →
      AllByRecursion (λ w. (r : Position) × Streams w s r) (vectors_along v fs)
  streams_along [] v p steps stays from = ((p, from), tt)
  streams_along (f ∷ fs) v p steps stays from =
      let on = step_streams v f p steps.0 stays.0 from in
      ((p, from), streams_along fs (vector_after v f) on.0 steps.1 stays.1 on.1)

pub last_along : (C : Vector → Type 0) (v : Vector) (fs : List Frame) → AllByRecursion C (vectors_along v fs) → C (last_vector v fs)
last_along C v [] h = h.0
last_along C v (f ∷ fs) h = last_along C (vector_after v f) fs h.1
