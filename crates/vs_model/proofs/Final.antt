-- A settled stream has come to the final positions, by all that was due.
use Rattle.std.proofs.Common.{◌≡◌, ◌≢◌, true, List, [], ◌∷◌, ◌++◌, append_assoc, append-nil, Option, Some, None, IsTrue, is_some, refl, ap, sym, ◌∙◌, subst, ◌⊎◌, inl, inr, ⊎_elim, true≢false, ◌||◌}
use Rattle.std.specs.List.{AllZip}
use Rattle.std.proofs.lemmas.Bool.{or_left, false_from_ne_true}
use Rattle.vs_base.specs.declared.ShardName.{ShardName}
use Rattle.vs_base.proofs.NameLemmas.{same_name-refl}
use Rattle.vs_gtid.specs.declared.JournalValue.{JournalValue}
use Rattle.vs_model.specs.Names.{Position, SameSet, same_name, has, is_in}
use Rattle.vs_model.specs.Logs.{Cluster, Log, HaveDistinctGtids, LogsAreDistinct, log_of, due, stop, between, IsPositionAfter, is_gtid_of}
use Rattle.vs_gtid.specs.Vectors.{Vector, Place, place_of, stands, Streams, successors_of}
use Rattle.vs_gtid.specs.Vectors.Place.{Streaming}
use Rattle.vs_model.specs.Frames.{Frame, frames_of, last_vector}
use Rattle.vs_model.specs.Frames.Frame.{Switch}
use Rattle.vs_model.specs.Copy.{Bound, Filter}
use Rattle.vs_model.specs.Legal.{Legal, Sends, HasGathered, IsTxOf}
use Rattle.vs_model.specs.Steps.{Steps}
use Rattle.vs_model.specs.Reached.{Reached, IsEffective, StartsAreUnique, FinalAt, IsSettled, IsFinal, HasAllDue, StartsToStream}
use Rattle.vs_model.specs.Reached.Reached.{at_first, by_journal}
use Rattle.vs_model.proofs.Lists.{same_some, some_is_not_none}
use Rattle.vs_model.proofs.Places.{same_position, successor_in}
use Rattle.vs_model.proofs.Entries.{due-sent, due-same, stop-same}
use Rattle.vs_model.proofs.Runs.{last_vector-append, steps_behind, steps_before, legal_is_steps}
use Rattle.vs_model.proofs.Comes.{Comes, ComesTo, AllCome, first_comes, same_stop, due_rest, gathered_takes_effect, steps_come}
use Rattle.vs_model.proofs.Stays.{Leaves, first_out, stands_on, streams_along, last_along}

some_place : (o : Option Place) → is_some o ≡ true → (place : Place) × (o ≡ Some place)
some_place None e = absurd (true≢false (sym e))
some_place (Some place) e = (place, refl)

some_participant : (names : List ShardName) → names ≢ [] → (t : ShardName) × IsTrue (is_in t names)
some_participant [] some = absurd (some refl)
some_participant (t ∷ names) some = (t, or_left (same_name t t) (is_in t names) (same_name-refl t))

-- where nothing is due at q, all that was due at p lies between
all_between : (bound : Bound) (s : ShardName) (log : Log) (p q : Position) (fs : List Frame) → HaveDistinctGtids log.entries →
    Sends bound s log p q fs → due s log q ≡ [] → due s log p ≡ between s log p q
all_between bound s log p q fs distinct sends none =
    let es = between s log p q in
    let rest = due-sent s log p q es sends.first.0 distinct sends.first.1 sends.position in
    sends.first.1 ∙ ap (λ l. es ++ l) (sym rest ∙ none) ∙ append-nil es

module _ (cluster : Cluster) (rules : Filter) (v0 : Vector) (fs : List Frame) (distinct : LogsAreDistinct cluster) (unique : StartsAreUnique cluster v0)
    (legal : Legal cluster rules v0 fs) (settled : IsSettled cluster (last_vector v0 fs)) where
  steps_at : (before behind : List Frame) → fs ≡ before ++ behind → Steps cluster rules (last_vector v0 before) behind
  steps_at before behind is = steps_behind cluster rules before behind v0 (subst (Steps cluster rules v0) is (legal_is_steps cluster rules v0 fs legal))

  all_at : (before behind : List Frame) → fs ≡ before ++ behind → AllCome cluster v0 (last_vector v0 before)
  all_at before behind is =
      steps_come cluster rules v0 distinct before v0
      (steps_before cluster rules before behind v0 (subst (Steps cluster rules v0) is (legal_is_steps cluster rules v0 fs legal)))
      (first_comes cluster v0)

  all_at_end : AllCome cluster v0 (last_vector v0 fs)
  all_at_end = all_at fs [] (sym (append-nil fs))

  -- a shard stops at the journal of its start, wherever it has come to
  same_stop_at : (s : ShardName) (p q : Position) → ComesTo cluster v0 s q → Reached cluster v0 s p → stop s (log_of cluster s) q ≡ stop s (log_of cluster s) p
  same_stop_at s p q come reached =
      same_stop cluster v0 s q come (distinct s) ∙ stop-same s (log_of cluster s) come.start p (unique s come.start p come.reached reached)

  -- at a switch its journal has gathered its participants, and takes effect
  switch_gathers : (before behind : List Frame) (j : JournalValue) (w : Vector) → fs ≡ before ++ Switch j w ∷ behind → HasGathered cluster (last_vector v0 before) j
  switch_gathers before behind j w is = (legal.each before behind (Switch j w) is).journal

  takes_effect : (before behind : List Frame) (j : JournalValue) (w : Vector) → fs ≡ before ++ Switch j w ∷ behind → IsEffective cluster v0 j
  takes_effect before behind j w is =
      gathered_takes_effect cluster rules v0 distinct (last_vector v0 before) (all_at before (Switch j w ∷ behind) is) j (switch_gathers before behind j w is)

  -- a shard that a journal takes out is not there at the end
  not_at_end : (s : ShardName) (p : Position) (j : JournalValue) → Reached cluster v0 s p → stop s (log_of cluster s) p ≡ Some j →
      IsTrue (stands (last_vector v0 fs) s) → ⊥
  not_at_end s p j reached stops there =
      let place = some_place (place_of (last_vector v0 fs) s) there in
      let end = settled s place.0 place.1 in
      let come = subst (Comes cluster v0 s) end.1 (all_at_end s place.0 place.1) in
      some_is_not_none j (sym (sym end.3 ∙ same_stop_at s p end.0 come reached ∙ stops))

  -- the shard stands in a vector of the stream
  record Stood (s : ShardName) : Type 0 where
    before : List Frame
    behind : List Frame
    is : fs ≡ before ++ behind
    there : IsTrue (stands (last_vector v0 before) s)

  -- it streams in one, from p
  record StreamsFrom (s : ShardName) (p : Position) : Type 0 where
    before : List Frame
    behind : List Frame
    is : fs ≡ before ++ behind
    from : Streams (last_vector v0 before) s p

  record HasSwitch (j : JournalValue) : Type 0 where
    before : List Frame
    behind : List Frame
    w : Vector
    is : fs ≡ before ++ Switch j w ∷ behind

  -- the frames of a middle part
  steps_in : (before middle behind : List Frame) → fs ≡ before ++ (middle ++ behind) → Steps cluster rules (last_vector v0 before) middle
  steps_in before middle behind is = steps_before cluster rules middle behind (last_vector v0 before) (steps_at before (middle ++ behind) is)

  end_of : (before middle behind : List Frame) → fs ≡ before ++ (middle ++ behind) → behind ≡ [] →
      last_vector (last_vector v0 before) middle ≡ last_vector v0 fs
  end_of before middle behind is none =
      let all : fs ≡ before ++ middle = is ∙ ap (λ l. before ++ (middle ++ l)) none ∙ ap (λ l. before ++ l) (append-nil middle) in
      sym (last_vector-append before middle v0) ∙ ap (last_vector v0) (sym all)

  leaves_at : (before middle behind : List Frame) (j : JournalValue) (w : Vector) (rest : List Frame) → fs ≡ before ++ (middle ++ behind) →
      behind ≡ Switch j w ∷ rest → fs ≡ (before ++ middle) ++ Switch j w ∷ rest
  leaves_at before middle behind j w rest is first =
      is ∙ ap (λ l. before ++ (middle ++ l)) first ∙ sym (append_assoc before middle (Switch j w ∷ rest))

  -- a switch of the stream takes the shard out
  record LeavesAt (s : ShardName) : Type 0 where
    before : List Frame
    behind : List Frame
    j : JournalValue
    w : Vector
    is : fs ≡ before ++ Switch j w ∷ behind
    out : IsTrue (is_in s j.participants)

  stays_or_leaves : (s : ShardName) → Stood s → IsTrue (stands (last_vector v0 fs) s) ⊎ LeavesAt s
  stays_or_leaves s stood =
      let out = first_out s stood.behind in
      let is : fs ≡ stood.before ++ (out.middle ++ out.behind) = stood.is ∙ ap (λ l. stood.before ++ l) out.is in
      let v = last_vector v0 stood.before in
      let on = stands_on cluster rules s out.middle v (steps_in stood.before out.middle out.behind is) out.stays stood.there in
      ⊎_elim
      (λ none. inl (subst (λ x. IsTrue (stands x s)) (end_of stood.before out.middle out.behind is none) on))
      (λ leaves. inr (record {
        before = stood.before ++ out.middle;
        behind = leaves.2;
        j = leaves.0;
        w = leaves.1;
        is = leaves_at stood.before out.middle out.behind leaves.0 leaves.1 leaves.2 is leaves.3;
        out = leaves.4;
      }))
      out.ends

  -- the switch that takes out a shard is that of the journal at which it stops
  switch_of : (t : ShardName) (p : Position) (j : JournalValue) → Stood t → Reached cluster v0 t p → stop t (log_of cluster t) p ≡ Some j → HasSwitch j
  switch_of t p j stood reached stops = ⊎_elim
      (λ there. absurd (not_at_end t p j reached stops there))
      (λ leaves.
      let arrived = (switch_gathers leaves.before leaves.behind leaves.j leaves.w leaves.is).arrived t leaves.out in
      let come = all_at leaves.before (Switch leaves.j leaves.w ∷ leaves.behind) leaves.is t (Streaming arrived.0) arrived.1 in
      let same : leaves.j ≡ j = same_some leaves.j j (sym arrived.3 ∙ same_stop_at t p arrived.0 come reached ∙ stops) in
      record {
        before = leaves.before;
        behind = leaves.behind;
        w = leaves.w;
        is = subst (λ k. fs ≡ leaves.before ++ Switch k leaves.w ∷ leaves.behind) same leaves.is;
      })
      (stays_or_leaves t stood)

  -- behind the switch its successors stream
  successor_streams_from : (j : JournalValue) (s : ShardName) (p : Position) → HasSwitch j → Streams (successors_of j) s p → StreamsFrom s p
  successor_streams_from j s p switch streams =
      let v = last_vector v0 switch.before in
      let after_it = last_vector-append switch.before (Switch j switch.w ∷ []) v0 in
      let lawful = legal.each switch.before switch.behind (Switch j switch.w) switch.is in
      record {
        before = switch.before ++ Switch j switch.w ∷ [];
        behind = switch.behind;
        is = switch.is ∙ sym (append_assoc switch.before (Switch j switch.w ∷ []) switch.behind);
        from = subst (λ x. Streams x s p) (sym (after_it ∙ lawful.vector)) (successor_in v j s (Streaming p) lawful.journal.new streams);
      }

  stood_from : (s : ShardName) (p : Position) → StreamsFrom s p → Stood s
  stood_from s p h = record { before = h.before; behind = h.behind; is = h.is; there = ap is_some h.from }

  -- each shard that is reached stands in a vector of the stream
  reached_stood : {s : ShardName} {p : Position} → Reached cluster v0 s p → Stood s
  reached_stood (at_first place is start) = record { before = []; behind = fs; is = refl; there = ap is_some is }
  reached_stood (by_journal {s = s} {p = p} j start shards some reached stops streams) =
      let t = some_participant j.participants some in
      let switch = switch_of t.0 (start t.0 t.1) j (reached_stood (reached t.0 t.1)) (reached t.0 t.1) (stops t.0 t.1) in
      stood_from s p (successor_streams_from j s p switch streams)

  switch_of_effective : (j : JournalValue) → IsEffective cluster v0 j → HasSwitch j
  switch_of_effective j effective =
      let t = some_participant j.participants effective.some in
      let it = effective.reached t.0 t.1 in
      switch_of t.0 it.0 j (reached_stood it.1) it.1 it.2

  -- a shard with nothing due has come by all that was due at its start
  by_all : (s : ShardName) (q : Position) (come : ComesTo cluster v0 s q) → due s (log_of cluster s) q ≡ [] →
      IsPositionAfter come.start (due s (log_of cluster s) come.start) q
  by_all s q come none =
      let all : due s (log_of cluster s) come.start ≡ come.sent =
      come.split ∙ ap (λ l. come.sent ++ l) (sym (due_rest cluster v0 s q come (distinct s)) ∙ none) ∙ append-nil come.sent in
      subst (λ es. IsPositionAfter come.start es q) (sym all) come.grown

  final_only : (s : ShardName) (place : Place) → place_of (last_vector v0 fs) s ≡ Some place → (q : Position) × (place ≡ Streaming q) × FinalAt cluster v0 s q
  final_only s place is =
      let end = settled s place is in
      let come = subst (Comes cluster v0 s) end.1 (all_at_end s place is) in (
        end.0,
        end.1,
        record {
          start = come.start;
          reached = come.reached;
          stays = λ j effective. false_from_ne_true (is_in s j.participants) (λ out.
              let it = effective.reached s out in not_at_end s it.0 j it.1 it.2 (ap is_some is));
          all = by_all s end.0 come end.2;
        },
      )

  same_end : (s : ShardName) (p q : Position) → (come : ComesTo cluster v0 s q) → Reached cluster v0 s p → due s (log_of cluster s) q ≡ [] →
      IsPositionAfter p (due s (log_of cluster s) p) q
  same_end s p q come reached none g =
      let same = unique s come.start p come.reached reached in
      by_all s q come none g ∙ ap (λ b. b || is_gtid_of (due s (log_of cluster s) come.start) g) (same g)
      ∙ ap (λ es. has p g || is_gtid_of es g) (due-same s (log_of cluster s) come.start p same)

  stands_at_end : (s : ShardName) (q : Position) → FinalAt cluster v0 s q → IsTrue (stands (last_vector v0 fs) s)
  stands_at_end s q final = ⊎_elim
      (λ there. there)
      (λ leaves.
      let stays = final.stays leaves.j (takes_effect leaves.before leaves.behind leaves.j leaves.w leaves.is) in
      absurd (true≢false (sym leaves.out ∙ stays)))
      (stays_or_leaves s (reached_stood final.reached))

  final_there : (s : ShardName) (q : Position) → FinalAt cluster v0 s q → (r : Position) × Streams (last_vector v0 fs) s r × SameSet q r
  final_there s q final =
      let place = some_place (place_of (last_vector v0 fs) s) (stands_at_end s q final) in
      let end = settled s place.0 place.1 in
      let come = subst (Comes cluster v0 s) end.1 (all_at_end s place.0 place.1) in
      (end.0, place.1 ∙ ap Some end.1, λ g. final.all g ∙ sym (same_end s final.start end.0 come final.reached end.2 g))

  pub final : IsFinal cluster v0 (last_vector v0 fs)
  final = record { there = final_there; only = final_only }

  -- a shard that streams has nothing due where it leaves, or at the end
  nothing_due : (s : ShardName) (r : Position) (before middle behind : List Frame) → fs ≡ before ++ (middle ++ behind) →
      (behind ≡ []) ⊎ Leaves s behind → Streams (last_vector (last_vector v0 before) middle) s r → due s (log_of cluster s) r ≡ []
  nothing_due s r before middle behind is ends streams = ⊎_elim
      (λ none.
      let at_end : Streams (last_vector v0 fs) s r = subst (λ v. Streams v s r) (end_of before middle behind is none) streams in
      let end = settled s (Streaming r) at_end in
      subst (λ x. due s (log_of cluster s) x ≡ []) (sym (same_position (last_vector v0 fs) s r end.0 at_end (at_end ∙ ap Some end.1))) end.2)
      (λ leaves.
      let here = leaves_at before middle behind leaves.0 leaves.1 leaves.2 is leaves.3 in
      let arrived = (switch_gathers (before ++ middle) leaves.2 leaves.0 leaves.1 here).arrived s leaves.4 in
      let streams' = subst (λ v. Streams v s r) (sym (last_vector-append before middle v0)) streams in
      subst (λ x. due s (log_of cluster s) x ≡ []) (same_position (last_vector v0 (before ++ middle)) s arrived.0 r arrived.1 streams') arrived.2)
      ends

  all_due_from : (s : ShardName) (p : Position) → StreamsFrom s p → HasAllDue cluster rules fs s p
  all_due_from s p h =
      let out = first_out s h.behind in
      let is : fs ≡ h.before ++ (out.middle ++ out.behind) = h.is ∙ ap (λ l. h.before ++ l) out.is in
      let v = last_vector v0 h.before in
      let along = streams_along cluster rules s out.middle v p (steps_in h.before out.middle out.behind is) out.stays h.from in
      let end = last_along (λ w. (r : Position) × Streams w s r) v out.middle along in
      let to = subst (λ x. Streams x s end.0) (sym (last_vector-append h.before out.middle v0)) end.1 in
      let sends = legal.sends h.before out.middle out.behind is s p end.0 along h.from to in
      let none = nothing_due s end.0 h.before out.middle out.behind is out.ends end.1 in
      let all = all_between (rules s) s (log_of cluster s) p end.0 out.middle (distinct s) sends none in
      (h.before, out.middle, out.behind, is, subst (AllZip (IsTxOf (rules s)) (frames_of s out.middle)) (sym all) sends.frames)

  pub has_all_due : (s : ShardName) (p : Position) → StartsToStream cluster v0 s p → HasAllDue cluster rules fs s p
  has_all_due s p starts = ⊎_elim
      (λ from. all_due_from s p (record { before = []; behind = fs; is = refl; from = from }))
      (λ h. all_due_from s p (successor_streams_from h.0 s p (switch_of_effective h.0 h.1) h.2))
      starts
