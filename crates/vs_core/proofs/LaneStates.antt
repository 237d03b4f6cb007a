-- The states of the lanes of a shard, lane by lane.
use Rattle.std.proofs.Common.{◌≡◌, ◌≤◌, ℕ, zero, suc, ◌+◌, Bool, true, false, ◌||◌, List, [], ◌∷◌, ◌++◌, append-nil, add-one, length, take, Option, Some, None, if◌then◌else◌, slice_get, refl, ap, sym, ◌∙◌, arith}
use Rattle.std.specs.List.{filter, list_any}
use Rattle.std.specs.Option.{option_map_or}
use Rattle.std.proofs.lemmas.List.Folds.{list_any-append}
use Rattle.vs_base.specs.declared.ShardName.{ShardName}
use Rattle.vs_base.specs.Names.{same_name}
use Rattle.vs_core.proofs.ScanLemmas.{or_false}
use Rattle.vs_core.specs.Machine.{is_failed, is_live, last_at_end, states_of}
use Rattle.vs_core.specs.Scans.{lane_state, state_if}
use Rattle.vs_core.specs.declared.lane.LaneState.{LaneState}

abbrev if_there : Option LaneState → List LaneState
if_there None = []
if_there (Some st) = st ∷ []

none_there : (b : Bool) → if_there (state_if b None) ≡ []
none_there true = refl
none_there false = refl

module _ (s : ShardName) where
  abbrev front : List ShardName → List LaneState → ℕ → List LaneState
  front names states i = states_of s (take i names) (take i states)

  next : (names : List ShardName) (states : List LaneState) (i : ℕ) → front names states (suc i) ≡ front names states i ++ if_there (lane_state s names states i)
  next [] states zero = refl
  next [] states (suc i) = refl
  next (n ∷ names) [] zero = sym (none_there (same_name n s))
  next (n ∷ names) [] (suc i) = sym (none_there (option_map_or (λ m. same_name m s) (slice_get names i) false))
  next (n ∷ names) (x ∷ states) zero = by (same_name n s)
    where
      by : (b : Bool) → (if b then x ∷ [] else []) ≡ [] ++ if_there (state_if b (Some x))
      by true = refl
      by false = refl
  next (n ∷ names) (x ∷ states) (suc i) = by (same_name n s) (next names states i)
    where
      by : (b : Bool) → front names states (suc i) ≡ front names states i ++ if_there (lane_state s names states i) →
          (if b then x ∷ front names states (suc i) else front names states (suc i)) ≡ (if b then x ∷ front names states i else front names states i) ++ if_there (lane_state s names states i)
      by true on = ap (λ l. x ∷ l) on
      by false on = on

  pub states_next : (names : List ShardName) (states : List LaneState) (i : ℕ) →
      states_of s (take (i + 1) names) (take (i + 1) states) ≡ states_of s (take i names) (take i states) ++ if_there (lane_state s names states i)
  states_next names states i = ap (front names states) (add-one i) ∙ next names states i

  pub states_whole : (names : List ShardName) (states : List LaneState) (i : ℕ) → length names ≤ i → states_of s (take i names) (take i states) ≡ states_of s names states
  states_whole [] states zero le = refl
  states_whole [] states (suc i) le = refl
  states_whole (n ∷ names) states zero le = absurd (omega (arith, le))
  states_whole (n ∷ names) [] (suc i) le = refl
  states_whole (n ∷ names) (x ∷ states) (suc i) le = by (same_name n s) (states_whole names states i (omega (arith, le)))
    where
      by : (b : Bool) → front names states i ≡ states_of s names states → (if b then x ∷ front names states i else front names states i) ≡ (if b then x ∷ states_of s names states else states_of s names states)
      by true on = ap (λ l. x ∷ l) on
      by false on = on

-- ---- what is asked of the states, with one more

last-more : (states : List LaneState) (st : LaneState) → last_at_end (states ++ st ∷ []) ≡ last_at_end (st ∷ [])
last-more [] st = refl
last-more (a ∷ []) st = refl
last-more (a ∷ b ∷ states) st = last-more (b ∷ states) st

failed-more : (states : List LaneState) (st : LaneState) → is_failed st ≡ true → length (filter is_failed (states ++ st ∷ [])) ≡ suc (length (filter is_failed states))
failed-more [] st is = rw is refl
failed-more (a ∷ states) st is = by (is_failed a) refl (failed-more states st is)
  where
    by : (b : Bool) → is_failed a ≡ b → length (filter is_failed (states ++ st ∷ [])) ≡ suc (length (filter is_failed states)) →
        length (filter is_failed (a ∷ states ++ st ∷ [])) ≡ suc (length (filter is_failed (a ∷ states)))
    by true p on = rw p (ap suc on)
    by false p on = rw p on

failed-same : (states : List LaneState) (st : LaneState) → is_failed st ≡ false → length (filter is_failed (states ++ st ∷ [])) ≡ length (filter is_failed states)
failed-same [] st is = rw is refl
failed-same (a ∷ states) st is = by (is_failed a) refl (failed-same states st is)
  where
    by : (b : Bool) → is_failed a ≡ b → length (filter is_failed (states ++ st ∷ [])) ≡ length (filter is_failed states) →
        length (filter is_failed (a ∷ states ++ st ∷ [])) ≡ length (filter is_failed (a ∷ states))
    by true p on = rw p (ap suc on)
    by false p on = rw p on

module _ (states : List LaneState) where
  last_by : (o : Option LaneState) → option_map_or (λ x. last_at_end (x ∷ [])) o (last_at_end states) ≡ last_at_end (states ++ if_there o)
  last_by None = ap last_at_end (sym (append-nil states))
  last_by (Some st) = sym (last-more states st)

  live_by : (o : Option LaneState) → (list_any is_live states || option_map_or is_live o false) ≡ list_any is_live (states ++ if_there o)
  live_by None = or_false (list_any is_live states) ∙ ap (list_any is_live) (sym (append-nil states))
  live_by (Some st) = ap (λ b. list_any is_live states || b) (sym (or_false (is_live st))) ∙ sym (list_any-append is_live states (st ∷ []))

  failed_by : (o : Option LaneState) → option_map_or is_failed o false ≡ true → length (filter is_failed states) + 1 ≡ length (filter is_failed (states ++ if_there o))
  failed_by None is = absurd (let e : false ≡ true = is in cc)
  failed_by (Some st) is = add-one (length (filter is_failed states)) ∙ sym (failed-more states st is)

  not_failed_by : (o : Option LaneState) → option_map_or is_failed o false ≡ false → length (filter is_failed states) ≡ length (filter is_failed (states ++ if_there o))
  not_failed_by None is = ap (λ l. length (filter is_failed l)) (sym (append-nil states))
  not_failed_by (Some st) is = sym (failed-same states st is)

-- ---- the steps of a loop over the lanes

module _ (s : ShardName) (names : List ShardName) (states : List LaneState) (i : ℕ) (o : Option LaneState) (is : o ≡ lane_state s names states i) where
  abbrev before : List LaneState
  before = states_of s (take i names) (take i states)

  grown : before ++ if_there o ≡ states_of s (take (i + 1) names) (take (i + 1) states)
  grown = ap (λ x. before ++ if_there x) is ∙ sym (states_next s names states i)

  pub last_step : (old new : Bool) → old ≡ last_at_end before → new ≡ option_map_or (λ x. last_at_end (x ∷ [])) o old → new ≡ last_at_end (states_of s (take (i + 1) names) (take (i + 1) states))
  last_step old new was now = now ∙ ap (λ b. option_map_or (λ (x : LaneState). last_at_end (x ∷ [])) o b) was ∙ last_by before o ∙ ap last_at_end grown

  pub live_step : (old new : Bool) → old ≡ list_any is_live before → new ≡ (old || option_map_or is_live o false) → new ≡ list_any is_live (states_of s (take (i + 1) names) (take (i + 1) states))
  live_step old new was now = now ∙ ap (λ b. b || option_map_or is_live o false) was ∙ live_by before o ∙ ap (list_any is_live) grown

  pub failed_step : (old new : ℕ) → old ≡ length (filter is_failed before) → option_map_or is_failed o false ≡ true → new ≡ old + 1 →
      new ≡ length (filter is_failed (states_of s (take (i + 1) names) (take (i + 1) states)))
  failed_step old new was failed now = now ∙ ap (λ n. n + 1) was ∙ failed_by before o failed ∙ ap (λ l. length (filter is_failed l)) grown

  pub same_step : (old new : ℕ) → old ≡ length (filter is_failed before) → option_map_or is_failed o false ≡ false → new ≡ old →
      new ≡ length (filter is_failed (states_of s (take (i + 1) names) (take (i + 1) states)))
  same_step old new was failed now = now ∙ was ∙ not_failed_by before o failed ∙ ap (λ l. length (filter is_failed l)) grown
