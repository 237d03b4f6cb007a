-- Lawful steps one after another are a legal list, and a legal list is such steps.
use Rattle.std.proofs.Common.{◌≡◌, ◌≢◌, ◌||◌, List, [], ◌∷◌, ◌++◌, append_assoc, IsTrue, refl, ap, sym, ◌∙◌, subst}
use Rattle.std.specs.List.{AllZip, AllByRecursion}
use Rattle.std.proofs.lemmas.List.Elements.{filter-append}
use Rattle.std.proofs.Math.Bool.{or-false}
use Rattle.vs_base.specs.declared.ShardName.{ShardName}
use Rattle.vs_base.specs.declared.Gtid.{Gtid}
use Rattle.vs_gtid.specs.declared.Entry.{Entry}
use Rattle.vs_model.specs.Names.{Position, IsSubset, has}
use Rattle.vs_model.specs.Logs.{Cluster, Log, HaveDistinctGtids, LogsAreDistinct, log_of, due, between, IsPositionAfter, is_gtid_of}
use Rattle.vs_gtid.specs.Vectors.{Vector, Streams}
use Rattle.vs_model.specs.Frames.{Frame, shard_of, is_of, frames_of, vector_after, last_vector, vectors_along}
use Rattle.vs_model.specs.Copy.{Bound, Filter}
use Rattle.vs_model.specs.Legal.{Sends, IsTxOf, Legal, AllCopiedFollows}
use Rattle.vs_model.specs.Steps.{Step, Steps}
use Rattle.vs_model.proofs.Lists.{cons_is_not_nil}
use Rattle.vs_model.proofs.Places.{same_position}
use Rattle.vs_model.proofs.Entries.{due_twice, grown_twice}
use Rattle.vs_model.proofs.Sent.{between-sent, sends_from, sends_nothing}

module _ {A B : Type 0} (R : A → B → Type 0) where
  pub AllZip-append : (xs : List A) (ys : List B) (us : List A) (vs : List B) → AllZip R xs ys → AllZip R us vs → AllZip R (xs ++ us) (ys ++ vs)
  AllZip-append [] [] us vs h k = k
  AllZip-append [] (y ∷ ys) us vs h k = absurd h
  AllZip-append (x ∷ xs) [] us vs h k = absurd h
  AllZip-append (x ∷ xs) (y ∷ ys) us vs h k = (h.0, AllZip-append xs ys us vs h.1 k)

  pub AllZip-nil : (ys : List B) → AllZip R [] ys → ys ≡ []
  AllZip-nil [] h = refl
  AllZip-nil (y ∷ ys) h = absurd h

-- from p to q and from q to r is from p to r
module _ (bound : Bound) (s : ShardName) (log : Log) (p q r : Position) (fs gs : List Frame) (distinct : HaveDistinctGtids log.entries)
    (to_q : Sends bound s log p q fs) (to_r : Sends bound s log q r gs) where
  abbrev one : List Entry
  one = between s log p q

  abbrev two : List Entry
  two = between s log q r

  split : due s log p ≡ (one ++ two) ++ to_r.first.0
  split = due_twice s log p q one to_q.first.0 two to_r.first.0 distinct to_q.first.1 to_q.position to_r.first.1

  grown : IsPositionAfter p (one ++ two) r
  grown = grown_twice p q r one two to_q.position to_r.position

  both : frames_of s (fs ++ gs) ≡ frames_of s fs ++ frames_of s gs
  both = filter-append (λ f. is_of s (shard_of f)) fs gs

  -- the base is in p: by the first part, or where that is empty by the second
  base_by : (ours : List Frame) → frames_of s fs ≡ ours → (ours ++ frames_of s gs ≢ []) → IsSubset log.base p
  base_by (f ∷ ours) is some = to_q.base (λ none. cons_is_not_nil f ours (sym is ∙ none))
  base_by [] is some =
      let none = AllZip-nil (IsTxOf bound) one (subst (λ l. AllZip (IsTxOf bound) l one) is to_q.frames) in
      λ g in_base. same_set none g (to_r.base some g in_base)
    where
      same_set : one ≡ [] → (g : Gtid) → IsTrue (has q g) → IsTrue (has p g)
      same_set none g h = sym (or-false (has p g)) ∙ (sym (ap (λ es. has p g || is_gtid_of es g) none) ∙ sym (to_q.position g) ∙ h)

  pub Sends-append : Sends bound s log p r (fs ++ gs)
  Sends-append =
      let is = between-sent s log p r (one ++ two) to_r.first.0 distinct split grown in
      let zipped = AllZip-append (IsTxOf bound) (frames_of s fs) one (frames_of s gs) two to_q.frames to_r.frames in
      sends_from bound s log p r (fs ++ gs) (one ++ two) to_r.first.0 is split
      (subst (λ l. AllZip (IsTxOf bound) l (one ++ two)) (sym both) zipped)
      (λ some. base_by (frames_of s fs) refl (λ none. some (both ∙ none))) grown

pub first_along : (C : Vector → Type 0) (v : Vector) (fs : List Frame) → AllByRecursion C (vectors_along v fs) → C v
first_along C v [] h = h.0
first_along C v (f ∷ fs) h = h.0

module _ (cluster : Cluster) (rules : Filter) (distinct : LogsAreDistinct cluster) (s : ShardName) where
  -- a shard that streams all along
  pub Sends-along : (fs : List Frame) (v : Vector) (p q : Position) → Steps cluster rules v fs →
      AllByRecursion (λ w. (r : Position) × Streams w s r) (vectors_along v fs) → Streams v s p → Streams (last_vector v fs) s q →
      Sends (rules s) s (log_of cluster s) p q fs
  Sends-along [] v p q steps all from to =
      subst (λ r. Sends (rules s) s (log_of cluster s) p r []) (same_position v s p q from to) (sends_nothing (rules s) s (log_of cluster s) p [] refl)
  Sends-along (f ∷ fs) v p q steps all from to =
      let between_them = first_along (λ w. (r : Position) × Streams w s r) (vector_after v f) fs all.1 in
      let r = between_them.0 in
      Sends-append (rules s) s (log_of cluster s) p r q (f ∷ []) fs (distinct s)
      (steps.0.sends s p r from between_them.1)
      (Sends-along fs (vector_after v f) r q steps.1 all.1 between_them.1 to)

pub last_vector-append : (fs gs : List Frame) (v : Vector) → last_vector v (fs ++ gs) ≡ last_vector (last_vector v fs) gs
last_vector-append [] gs v = refl
last_vector-append (f ∷ fs) gs v = last_vector-append fs gs (vector_after v f)

module _ (cluster : Cluster) (rules : Filter) where
  pub steps_behind : (fs gs : List Frame) (v : Vector) → Steps cluster rules v (fs ++ gs) → Steps cluster rules (last_vector v fs) gs
  steps_behind [] gs v steps = steps
  steps_behind (f ∷ fs) gs v steps = steps_behind fs gs (vector_after v f) steps.1

  pub steps_before : (fs gs : List Frame) (v : Vector) → Steps cluster rules v (fs ++ gs) → Steps cluster rules v fs
  steps_before [] gs v steps = tt
  steps_before (f ∷ fs) gs v steps = (steps.0, steps_before fs gs (vector_after v f) steps.1)

  pub steps_are_legal : (v0 : Vector) (fs : List Frame) → LogsAreDistinct cluster → AllCopiedFollows fs → Steps cluster rules v0 fs → Legal cluster rules v0 fs
  steps_are_legal v0 fs distinct follows steps = record {
    sends = λ before middle behind is s p q all from to.
        let from_there = steps_behind before (middle ++ behind) v0 (subst (Steps cluster rules v0) is steps) in
        Sends-along cluster rules distinct s middle (last_vector v0 before) p q (steps_before middle behind (last_vector v0 before) from_there)
        all from (subst (λ w. Streams w s q) (last_vector-append before middle v0) to);
    each = λ before behind f is. (steps_behind before (f ∷ behind) v0 (subst (Steps cluster rules v0) is steps)).0.lawful;
    all_copied = follows;
  }

  module _ (v0 : Vector) (fs : List Frame) (legal : Legal cluster rules v0 fs) where
    steps_from : (middle before : List Frame) → fs ≡ before ++ middle → Steps cluster rules (last_vector v0 before) middle
    steps_from [] before is = tt
    steps_from (f ∷ middle) before is =
        let after_it = last_vector-append before (f ∷ []) v0 in
        let step : Step cluster rules (last_vector v0 before) f = record {
          lawful = legal.each before middle f is;
          sends = λ s p q from to.
              legal.sends before (f ∷ []) middle is s p q ((p, from), ((q, to), tt)) from (subst (λ w. Streams w s q) (sym after_it) to);
        } in
        (step, subst (λ w. Steps cluster rules w middle) after_it (steps_from middle (before ++ f ∷ []) (is ∙ sym (append_assoc before (f ∷ []) middle))))

    pub legal_is_steps : Steps cluster rules v0 fs
    legal_is_steps = steps_from fs [] refl
