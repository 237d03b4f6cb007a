-- What calls one after another leave of the tablets.
use Rattle.std.proofs.Common.{◌≡◌, ℕ, ◌+◌, ◌≤◌, Bool, true, false, List, Option, refl, sym, ap, subst, ◌∙◌, arith, min, ◌^◌, ◌-◌}
use Rattle.std.specs.Prelude.{IsTrue}
use Rattle.vs_base.specs.declared.ShardName.{ShardName}
use Rattle.vs_base.specs.Names.{same_name}
use Rattle.vs_base.proofs.NameLemmas.{same_name-is}
use Rattle.vs_outside.specs.Clusters.{ClusterBytes}
use Rattle.vs_outside.specs.Counts.{KeepsCounts, KeepsOthers, NoneFell, raised}
use Rattle.vs_opening.specs.Outside.{OnlyLists}

module _ {T : Type 0} (cluster : T → Option ClusterBytes) (opened : T → List ShardName) (returned faults waits open_faults : T → ShardName → ℕ) (list_faults pattern_faults : T → ℕ) (folder : T → List ℕ) (sound : T → Bool) where
  pub lists-then : (a b d : T) → OnlyLists cluster opened returned faults waits open_faults list_faults pattern_faults folder sound a b →
      OnlyLists cluster opened returned faults waits open_faults list_faults pattern_faults folder sound b d →
      OnlyLists cluster opened returned faults waits open_faults list_faults pattern_faults folder sound a d
  lists-then a b d first second = record {
    same_cluster = second.same_cluster ∙ first.same_cluster;
    same_opened = second.same_opened ∙ first.same_opened;
    same_returned = λ n. second.same_returned n ∙ first.same_returned n;
    same_faults = λ n. second.same_faults n ∙ first.same_faults n;
    same_waits = λ n. second.same_waits n ∙ first.same_waits n;
    same_open_faults = λ n. second.same_open_faults n ∙ first.same_open_faults n;
    later = omega (arith, first.later, second.later);
    steady = λ h. second.steady (subst IsTrue (sym first.same_sound) h) ∙ first.steady h;
    same_pattern_faults = second.same_pattern_faults ∙ first.same_pattern_faults;
    same_folder = second.same_folder ∙ first.same_folder;
    same_sound = second.same_sound ∙ first.same_sound;
  }

-- a feed that had counted nothing raises no count
pub kept_fresh : (before between now : ShardName → ℕ) (name : ShardName) (count : ℕ) → count ≡ 0 → KeepsCounts before between → now name ≡ raised count (between name) →
    NoneFell between now → KeepsOthers name between now → KeepsCounts before now
kept_fresh before between now name count none kept rose later others n = by (same_name name n) refl
  where
    same : now name ≡ between name
    same = let l : between name ≤ now name = later name in let m : now name ≡ min (between name + count) (2 ^ 64 - 1) = rose in omega arith

    by : (test : Bool) → same_name name n ≡ test → now n ≡ before n
    by true is = subst (λ m. now m ≡ between m) (same_name-is name n is) same ∙ kept n
    by false is = others n is ∙ kept n
