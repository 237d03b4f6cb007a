-- What calls one after another leave of the tablets.
use Rattle.std.proofs.Common.{◌≡◌, ◌≢◌, ℕ, ◌+◌, Bool, true, false, List, [], ◌∷◌, ◌++◌, Option, Some, None, refl, sym, ap, subst, ◌∙◌}
use Rattle.std.specs.Prelude.{IfSome}
use Rattle.vs_base.specs.declared.ShardName.{ShardName}
use Rattle.vs_base.specs.declared.rule_text.RuleText.{RuleText}
use Rattle.vs_filter.specs.Rules.{Fault, first_fault}
use Rattle.vs_base.specs.Names.{same_name}
use Rattle.vs_base.proofs.NameLemmas.{same_name-is}
use Rattle.vs_outside.specs.Counts.{KeepsCounts, KeepsOthers}
use Rattle.vs_outside.specs.Feeds.{GivesAllBack, times}
use Rattle.vs_outside.proofs.FeedLemmas.{gives_back-once}
use Rattle.vs_command.specs.declared.start.Start.{Start}
use Rattle.vs_command.specs.Outside.{KeepsName, KeepsUnasked}
use Rattle.vs_command.specs.Requests.{Asks, AsksBy}

-- ---- of one call and the next

module _ {T : Type 0} (faults waits open_faults : T → ShardName → ℕ) where
  -- the folder was named
  pub keeps_pointed : (a b : T) → KeepsCounts (faults a) (faults b) → KeepsCounts (waits a) (waits b) → KeepsCounts (open_faults a) (open_faults b) →
      (n : ShardName) → KeepsName faults waits open_faults a b n
  keeps_pointed a b kept_faults kept_waits kept_opens n = record { same_faults = kept_faults n; same_waits = kept_waits n; same_open_faults = kept_opens n }

  pub keeps_then : (a b d : T) (n : ShardName) → KeepsName faults waits open_faults a b n → KeepsName faults waits open_faults b d n → KeepsName faults waits open_faults a d n
  keeps_then a b d n first second = record {
    same_faults = second.same_faults ∙ first.same_faults;
    same_waits = second.same_waits ∙ first.same_waits;
    same_open_faults = second.same_open_faults ∙ first.same_open_faults;
  }

  -- ---- of the names that an input asks for

  pub unasked_others : (left : Option (List ℕ)) (name : ShardName) (start : Start) (rules : List RuleText) (a b : T) → IfSome left (λ input. AsksBy input name start rules) →
      ((n : ShardName) → same_name name n ≡ false → KeepsName faults waits open_faults a b n) → ((n : ShardName) → first_fault rules ≢ None → KeepsName faults waits open_faults a b n) →
      IfSome left (KeepsUnasked faults waits open_faults a b)
  unasked_others None name start rules a b asks kept unlawful = tt
  unasked_others (Some input) name start rules a b asks kept unlawful = λ n none. by_test n none (same_name name n) refl (first_fault rules) refl
    where
      by_test : (n : ShardName) → ((other : Start) (by : List RuleText) → Asks input n other by → ⊥) → (test : Bool) → same_name name n ≡ test → (fault : Option (ℕ × Fault)) → first_fault rules ≡ fault →
          KeepsName faults waits open_faults a b n
      by_test n none false is fault first = kept n is
      by_test n none true is None first = absurd (none start rules (subst (λ m. AsksBy input m start rules) (same_name-is name n is) asks, first))
      by_test n none true is (Some fault) first = unlawful n (λ h. let clash : ◌≡◌ {A = Option (ℕ × Fault)} (Some fault) None = sym first ∙ h in cc)

  -- the counts stay where a call before kept them
  pub keeps_built : (a b d : T) → KeepsCounts (faults a) (faults b) → KeepsCounts (waits a) (waits b) → KeepsCounts (open_faults a) (open_faults b) → (n : ShardName) →
      KeepsName faults waits open_faults b d n → KeepsName faults waits open_faults a d n
  keeps_built a b d kept_faults kept_waits kept_opens n later = keeps_then a b d n (keeps_pointed a b kept_faults kept_waits kept_opens n) later

  pub unasked_then : (left : Option (List ℕ)) (a b d : T) → ((n : ShardName) → KeepsName faults waits open_faults a b n) → IfSome left (KeepsUnasked faults waits open_faults b d) →
      IfSome left (KeepsUnasked faults waits open_faults a d)
  unasked_then None a b d first second = tt
  unasked_then (Some input) a b d first second = λ n none. keeps_then a b d n (first n) (second n none)

-- ---- feeds that are given back

-- a log was opened, and its feed given back
pub back_returned : (before between now : List ShardName) (r s t : ShardName → ℕ) (name : ShardName) → between ≡ before ++ name ∷ [] → KeepsCounts r s → now ≡ between →
    t name ≡ s name + 1 → KeepsOthers name s t → GivesAllBack before r now t
back_returned before between now r s t name one kept same more others =
    subst (λ l. GivesAllBack before r l t) (sym (same ∙ one))
    (gives_back-once before r t name (more ∙ ap (λ n. n + 1) (kept name)) (λ n other. others n other ∙ kept n))

-- nothing was opened or given back in the call before
pub back_kept : (opened between now : List ShardName) (r s t : ShardName → ℕ) → between ≡ opened → KeepsCounts r s → GivesAllBack between s now t → GivesAllBack opened r now t
back_kept opened between now r s t same kept back n =
    ap (λ k. times n now + k) (sym (kept n)) ∙ back n ∙ ap (λ l. t n + times n l) same
