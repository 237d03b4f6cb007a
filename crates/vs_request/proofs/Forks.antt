-- A choice by whether a fact holds.
use Rattle.std.proofs.Common.{◌≡◌, ◌<◌, ◌≤◌, ◌⊎◌, ℕ, Bool, true, false, IsTrue, refl, sym, ◌∙◌, inl, inr, arith}
use Rattle.std.proofs.lemmas.Bool.{cases_Bool, cases_lt}

abbrev pub Choice : Type 0 → Type 0
Choice P = P ⊎ (¬ P)

abbrev pub fork : {P A : Type 0} → Choice P → A → A → A
fork (inl so) a b = a
fork (inr unlike) a b = b

pub fork-yes : {P A : Type 0} (d : Choice P) (a b : A) → P → fork d a b ≡ a
fork-yes (inl so) a b p = refl
fork-yes (inr unlike) a b p = absurd (unlike p)

pub fork-no : {P A : Type 0} (d : Choice P) (a b : A) → ¬ P → fork d a b ≡ b
fork-no (inl so) a b n = absurd (n so)
fork-no (inr unlike) a b n = refl

-- what holds on both sides holds
pub fork-holds : {P A : Type 0} (Q : A → Type 0) (d : Choice P) (a b : A) → (P → Q a) → (¬ P → Q b) → Q (fork d a b)
fork-holds Q (inl so) a b p n = p so
fork-holds Q (inr unlike) a b p n = n unlike

pub true_or_not : (b : Bool) → Choice (IsTrue b)
true_or_not b = elim (cases_Bool b) [ inl so ↦ inl so | inr unlike ↦ inr (λ so. let h : true ≡ false = sym so ∙ unlike in cc) ]

pub less_or_not : (m n : ℕ) → Choice (m < n)
less_or_not m n = elim (cases_lt m n) [ inl less ↦ inl less | inr other ↦ inr (λ less. omega arith) ]

pub not_less : (m n : ℕ) → ¬ (m < n) → n ≤ m
not_less m n unlike = elim (cases_lt m n) [ inl less ↦ absurd (unlike less) | inr other ↦ other ]
