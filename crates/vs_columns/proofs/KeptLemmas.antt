-- What stood in front still stands there, and what is appended to what was appended. A fact that follows where a call is Ok,
-- or an Err.
use Rattle.std.proofs.Common.{◌≡◌, ◌≤◌, ℕ, List, ◌++◌, length, take, refl, sym, ap, ◌∙◌, arith, Result, Ok, Err}
use Rattle.std.specs.Result.{OnOk, OnErr, IfOk}
use Rattle.std.proofs.lemmas.List.{take_at, take-take, length-append, append_assoc}

pub kept_behind : (old more mid new : List ℕ) → mid ≡ old ++ more → take (length mid) new ≡ mid → take (length old) new ≡ old
kept_behind old more mid new e h =
    let short : length old ≤ length mid = omega (arith, ap length e, length-append old more) in
    sym (take-take (length old) (length mid) new short) ∙ ap (λ xs. take (length old) xs) (h ∙ e) ∙ take_at old more (length old) refl

pub appended : (old mid new s t : List ℕ) → mid ≡ old ++ s → new ≡ mid ++ t → new ≡ old ++ (s ++ t)
appended old mid new s t p q = q ∙ ap (λ xs. xs ++ t) p ∙ append_assoc old s t

pub on_ok_so : {T E : Type 0} (r : Result T E) (P Q : Type 0) → (P → Q) → OnOk r P → OnOk r Q
on_ok_so (Ok x) P Q f p = f p
on_ok_so (Err e) P Q f p = tt

pub on_err_so : {T E : Type 0} (r : Result T E) (P Q : Type 0) → (P → Q) → OnErr r P → OnErr r Q
on_err_so (Ok x) P Q f p = tt
on_err_so (Err e) P Q f p = f p

pub if_ok_so : {T E : Type 0} (r : Result T E) (P Q : T → Type 0) → ((x : T) → P x → Q x) → IfOk r P → IfOk r Q
if_ok_so (Ok x) P Q f p = f x p
if_ok_so (Err e) P Q f p = tt

pub on_err_holds : {T E : Type 0} (r : Result T E) (P : Type 0) → P → OnErr r P
on_err_holds (Ok x) P p = tt
on_err_holds (Err e) P p = p
