-- Scripts of feeds in memory that hold no failure.
use Rattle.std.specs.Prelude.{◌≡◌, ℕ, Bool, true, false, ◌&&◌, ◌==◌, List, IsTrue}
use Rattle.std.specs.List.{list_all}
use Rattle.std.proofs.lemmas.Bool.{and_parts, eqb-true}
use Rattle.vs_outside.specs.declared.mem_feed.FeedAnswer.{FeedAnswer}
use Rattle.vs_outside.specs.declared.mem_feed.FeedAnswer.TheVariants.{Give, Wait, Fail}

abbrev pub is_no_failure : FeedAnswer → Bool
is_no_failure (Give n) = true
is_no_failure Wait = true
is_no_failure Fail = false

abbrev pub has_no_failure : List FeedAnswer → Bool
has_no_failure script = list_all is_no_failure script

pub has_no_faults : (scripted : Bool) (faults : ℕ) → IsTrue (scripted && faults == 0) → faults ≡ 0
has_no_faults scripted faults sound = eqb-true faults 0 (and_parts _ _ sound).1
