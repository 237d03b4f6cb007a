-- What a call leaves of the tablets that it works on.
use Rattle.std.specs.Prelude.{◌≡◌, ℕ, Bool, List, Option}
use Rattle.vs_base.specs.declared.ShardName.{ShardName}
use Rattle.vs_base.specs.declared.rule_text.RuleText.{RuleText}
use Rattle.vs_outside.specs.Clusters.{ClusterBytes}
use Rattle.vs_outside.specs.Counts.{NoneFell}
use Rattle.vs_command.specs.declared.start.Start.{Start}
use Rattle.vs_command.specs.Requests.{Asks}

-- The tablets tell the same cluster, and whether nothing can fail, as before; no listing failed, and no count of a name fell.
pub record GoesOn {T : Type 0} (cluster : T → Option ClusterBytes) (faults waits open_faults : T → ShardName → ℕ) (list_faults : T → ℕ) (sound : T → Bool) (old new : T) : Type 0 where
  pub same_cluster : cluster new ≡ cluster old
  pub faults_later : NoneFell (faults old) (faults new)
  pub waits_later : NoneFell (waits old) (waits new)
  pub open_faults_later : NoneFell (open_faults old) (open_faults new)
  pub same_list_faults : list_faults new ≡ list_faults old
  pub same_sound : sound new ≡ sound old

-- the counts of a name stayed
pub record KeepsName {T : Type 0} (faults waits open_faults : T → ShardName → ℕ) (old new : T) (n : ShardName) : Type 0 where
  pub same_faults : faults new n ≡ faults old n
  pub same_waits : waits new n ≡ waits old n
  pub same_open_faults : open_faults new n ≡ open_faults old n

-- the counts of names that the input doesn't ask for, by rules without a fault, stayed
abbrev pub KeepsUnasked : {T : Type 0} → (T → ShardName → ℕ) → (T → ShardName → ℕ) → (T → ShardName → ℕ) → T → T → List ℕ → Type 0
KeepsUnasked faults waits open_faults old new input = (n : ShardName) → ((start : Start) (rules : List RuleText) → Asks input n start rules → ⊥) → KeepsName faults waits open_faults old new n
