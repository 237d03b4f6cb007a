-- A legal stream: one shard streams up to its journal, another is copied meanwhile.
use Rattle.std.proofs.Common.{◌≡◌, ℕ, ◌<◌, ◌≤◌, ◌-◌, ◌^◌, Bool, true, false, cond, List, [], ◌∷◌, ◌++◌, Some, None, IsTrue, refl, sym, ◌∙◌, subst, arith}
use Rattle.std.proofs.Math.Bool.{or-false}
use Rattle.vs_base.specs.Names.{same_name, same_gtid}
use Rattle.vs_base.specs.declared.ShardName.{ShardName}
use Rattle.vs_base.proofs.NameLemmas.{same_name-is}
use Rattle.vs_gtid.specs.Positions.{IsCanonical, has}
use Rattle.vs_gtid.specs.Joins.{joined, added}
use Rattle.vs_model.specs.Names.{Position, is_in}
use Rattle.vs_model.specs.Logs.{Cluster, HaveDistinctGtids, IsPositionAfter, LogsAreDistinct, due, log_of, no_log, stop}
use Rattle.vs_gtid.specs.Vectors.{Vector, IsCanonicalVector, Streams, switched}
use Rattle.vs_gtid.specs.Vectors.Place.{Fresh, Copying, Streaming}
use Rattle.vs_model.specs.Frames.{Frame}
use Rattle.vs_model.specs.Frames.Frame.{Tx, Switch, Chunk, CopyDone, AllCopied}
use Rattle.vs_model.specs.Copy.{Filter, IsChunk, IsCopyDone}
use Rattle.vs_model.specs.Legal.{AllCopiedFollows, HasGathered, Legal, NoneCopies}
use Rattle.vs_model.specs.Steps.{Step, Steps}
use Rattle.vs_model.specs.Core.{Piece, AreGiven, HasBase}
use Rattle.vs_model.specs.Core.Piece.{Transaction, CopiedRows, CopyEnd}
use Rattle.vs_model.proofs.Lists.{cons_is_not_nil, not_nil}
use Rattle.vs_model.proofs.Entries.{grown_twice}
use Rattle.vs_model.proofs.Examples.{shard, split, one, resharded, up_to, is_interval}
use Rattle.vs_model.proofs.CopyExamples.{below_nine, inserts, renames, copied, row, last_key}
use Rattle.vs_model.proofs.LaneExamples.{one_more, to_first}
use Rattle.vs_model.proofs.Given.{given_on}
use Rattle.vs_model.proofs.Gate.{piece_step}
use Rattle.vs_model.proofs.Ends.{follows_one, none_copies}
use Rattle.vs_model.proofs.OneStep.{step_all_copied, step_switch}
use Rattle.vs_model.proofs.Runs.{steps_are_legal}

abbrev pub a : ShardName
a = shard 1 80

abbrev pub b : ShardName
b = shard 2 0

abbrev pub cluster : Cluster
cluster = (a, resharded split) ∷ (b, copied) ∷ []

abbrev pub rules : Filter
rules = λ s. below_nine

abbrev pub first : Vector
first = (a, Streaming []) ∷ (b, Fresh) ∷ []

-- the rows 2, 3 and 5, which both entries left, and the end of the copy there
abbrev rows : Piece
rows = CopiedRows (7 ∷ []) (row 2 ∷ row 3 ∷ row 5 ∷ []) 102 (up_to 1 2) (last_key 5)

abbrev end : Piece
end = CopyEnd 102 (up_to 1 2)

abbrev pub after_rows : Vector
after_rows = (a, Streaming []) ∷ (b, Copying (up_to 1 2) (last_key 5)) ∷ []

abbrev pub after_one : Vector
after_one = (a, Streaming (up_to 1 1)) ∷ (b, Copying (up_to 1 2) (last_key 5)) ∷ []

abbrev pub after_copy : Vector
after_copy = (a, Streaming (up_to 1 1)) ∷ (b, Streaming (up_to 1 2)) ∷ []

canonical_up_to : (s n : ℕ) → s < 256 → 1 ≤ n → n ≤ 2 ^ 63 - 2 → IsCanonical (up_to s n)
canonical_up_to s n few from to = (is_interval s 1 n few (omega arith) from to, tt, tt)

canonical_one : IsCanonical (up_to 1 1)
canonical_one = canonical_up_to 1 1 (omega arith) (omega arith) (omega arith)

canonical_two : IsCanonical (up_to 1 2)
canonical_two = canonical_up_to 1 2 (omega arith) (omega arith) (omega arith)

abbrev pub frames : List Frame
frames =
    Chunk b (7 ∷ []) (row 2 ∷ row 3 ∷ row 5 ∷ []) 102 after_rows ∷ Tx a one after_one ∷ CopyDone b 102 after_copy ∷ AllCopied
    ∷ Switch split (switched after_copy split) ∷ []

-- what the lanes gave is what their logs let them
both_read : IsPositionAfter [] (inserts ∷ renames ∷ []) (up_to 1 2)
unfolding added joined
both_read =
    grown_twice [] (up_to 1 1) (up_to 1 2) (inserts ∷ []) (renames ∷ [])
    (one_more [] (up_to 1 1) inserts refl) (one_more (up_to 1 1) (up_to 1 2) renames refl)

-- a transaction, and then its journal
of_a : AreGiven (rules a) a (log_of cluster a) (Transaction one ∷ []) (Some split) (Streaming [])
unfolding has same_name
of_a = record {
  told = one ∷ [];
  are = refl;
  due_ones = record { sent = one ∷ []; rest = []; split = refl; each = (refl, tt) };
  own = (refl, refl);
}

base_of_a : HasBase (log_of cluster a) (Streaming [])
unfolding has same_name
base_of_a g in_base = in_base

rows_fit : IsChunk below_nine b copied Fresh (7 ∷ []) (row 2 ∷ row 3 ∷ row 5 ∷ []) 102 (Some (Copying (up_to 1 2) (last_key 5)))
unfolding has same_name
rows_fit = record {
  q = up_to 1 2;
  key = last_key 5;
  front_rows = (row 2, row 2) ∷ (row 3, row 3) ∷ (row 5, row 5) ∷ [];
  read_to = (2, both_read);
  next = refl;
  rows_are = refl;
  last = refl;
  of_table = refl;
  time_is = refl;
  place = refl;
}

end_fits : IsCopyDone below_nine b copied (Copying (up_to 1 2) (last_key 5)) 102 (Some (Streaming (up_to 1 2)))
unfolding has same_name
end_fits = record { q = up_to 1 2; read_to = refl; none_left = refl; time_is = refl; place = refl }

-- a copy
of_b : AreGiven (rules b) b (log_of cluster b) (rows ∷ end ∷ []) None Fresh
unfolding has same_name
of_b = (
  Copying (up_to 1 2) (last_key 5),
  canonical_two,
  (rows_fit, refl),
  (
    Streaming (up_to 1 2),
    canonical_two,
    (end_fits, refl),
    record { told = []; are = refl; due_ones = record { sent = []; rest = due b copied (up_to 1 2); split = refl; each = tt }; own = tt },
  ),
)

base_of_b : HasBase (log_of cluster b) Fresh
unfolding has same_name
base_of_b g = refl

pub distinct_logs : (x y : Bool) → HaveDistinctGtids (cond x (resharded split) (cond y copied no_log)).entries
unfolding same_gtid
distinct_logs true y = (refl, (refl, (refl, tt)))
distinct_logs false true = (refl, (refl, tt))
distinct_logs false false = tt

distinct : LogsAreDistinct cluster
distinct s = distinct_logs (same_name a s) (same_name b s)

-- the steps
rows_step : Step cluster rules first (Chunk b (7 ∷ []) (row 2 ∷ row 3 ∷ row 5 ∷ []) 102 after_rows)
unfolding same_name
rows_step =
    piece_step cluster rules distinct first b (Copying (up_to 1 2) (last_key 5)) canonical_two (tt, (tt, tt)) Fresh rows (end ∷ []) None refl
    of_b base_of_b refl tt

one_step : Step cluster rules after_rows (Tx a one after_one)
unfolding same_name
one_step =
    piece_step cluster rules distinct after_rows a (Streaming (up_to 1 1)) canonical_one (tt, (canonical_two, tt)) (Streaming []) (Transaction one) []
    (Some split) refl of_a base_of_a (up_to 1 1, to_first, refl) tt

rest_of_b : AreGiven (rules b) b (log_of cluster b) (end ∷ []) None (Copying (up_to 1 2) (last_key 5))
rest_of_b = given_on (rules b) b (log_of cluster b) (distinct b) (end ∷ []) None (Copying (up_to 1 2) (last_key 5)) canonical_two Fresh rows of_b refl

end_step : Step cluster rules after_one (CopyDone b 102 after_copy)
unfolding has same_name
end_step =
    piece_step cluster rules distinct after_one b (Streaming (up_to 1 2)) canonical_two (canonical_one, (canonical_two, tt)) (Copying (up_to 1 2) (last_key 5))
    end [] None refl rest_of_b (λ g. refl) refl tt

canonical_then : IsCanonicalVector after_copy
canonical_then = (canonical_one, (canonical_two, tt))

none_copies_then : NoneCopies after_copy
unfolding same_name
none_copies_then = none_copies after_copy refl

copied_step : Step cluster rules after_copy AllCopied
copied_step = step_all_copied cluster rules after_copy none_copies_then canonical_then

no_other : (s : ShardName) → IsTrue (is_in s (a ∷ [])) → a ≡ s
no_other s h = sym (same_name-is s a (sym (or-false (same_name s a)) ∙ h))

abbrev Arrived : ShardName → Type 0
Arrived s = (p : Position) × Streams after_copy s p × (due s (log_of cluster s) p ≡ []) × (stop s (log_of cluster s) p ≡ Some split)

a_arrived : Arrived a
unfolding has same_name
a_arrived = (up_to 1 1, refl, refl, refl)

gathered : HasGathered cluster after_copy split
unfolding same_name
gathered = record {
  shards = refl;
  some = cons_is_not_nil _ _;
  arrived = λ s i. subst Arrived (no_other s i) a_arrived;
  new = (refl, (refl, tt));
}

canonical_last : IsCanonicalVector (switched after_copy split)
unfolding same_name
canonical_last =
    (canonical_two, (canonical_up_to 2 1 (omega arith) (omega arith) (omega arith), (canonical_up_to 3 1 (omega arith) (omega arith) (omega arith), tt)))

steps : Steps cluster rules first frames
steps = (rows_step, (one_step, (end_step, (copied_step, (step_switch cluster rules after_copy split gathered canonical_last, tt)))))

abbrev until_copied : List Frame
until_copied = Chunk b (7 ∷ []) (row 2 ∷ row 3 ∷ row 5 ∷ []) 102 after_rows ∷ Tx a one after_one ∷ CopyDone b 102 after_copy ∷ []

follows : AllCopiedFollows frames
follows =
    let none : AllCopiedFollows [] = λ before behind is. absurd (not_nil before behind AllCopied (sym is)) in
    let one_frame = follows_one [] (Chunk b (7 ∷ []) (row 2 ∷ row 3 ∷ row 5 ∷ []) 102 after_rows) none (λ e. cc) in
    let two = follows_one (Chunk b (7 ∷ []) (row 2 ∷ row 3 ∷ row 5 ∷ []) 102 after_rows ∷ []) (Tx a one after_one) one_frame (λ e. cc) in
    let three = follows_one (Chunk b (7 ∷ []) (row 2 ∷ row 3 ∷ row 5 ∷ []) 102 after_rows ∷ Tx a one after_one ∷ []) (CopyDone b 102 after_copy) two (λ e. cc) in
    let four = follows_one until_copied AllCopied three (λ e. tt) in
    follows_one (until_copied ++ AllCopied ∷ []) (Switch split (switched after_copy split)) four (λ e. cc)

pub legal : Legal cluster rules first frames
legal = steps_are_legal cluster rules first frames distinct follows steps
