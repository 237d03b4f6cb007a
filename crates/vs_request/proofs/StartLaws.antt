-- The text of a position says one thing.
use Rattle.std.proofs.Common.{◌≡◌, ◌∙◌, ℕ, Bool, true, false, List, [], ◌∷◌, Result, Ok, Err, refl, sym, ap, subst, inl, inr, nat_eq}
use Rattle.std.specs.Prelude.{codes}
use Rattle.std.specs.Cmp.Lexicographic.{pointwise}
use Rattle.std.proofs.lemmas.Bool.{cases_Bool}
use Rattle.std.proofs.lemmas.Slice.Eq.{bytes_eq-Decides}
use Rattle.vs_gtid.specs.declared.refusal.GtidRefusal.{GtidRefusal}
use Rattle.vs_gtid.specs.Positions.{Position}
use Rattle.vs_gtid.specs.Readings.{ReadsSet, read}
use Rattle.vs_gtid.proofs.ReadingLemmas.{only, reads}
use Rattle.vs_request.specs.declared.request.StartAt.{StartAt}
use Rattle.vs_request.specs.declared.request.StartAt.TheVariants.{Fresh, Current, At}
use Rattle.vs_request.specs.Starts.{IsRefusedAt, NamesSet, StartsAs, place_in}

abbrev of_set : List ℕ → Result Position GtidRefusal → Result StartAt ℕ
of_set text (Ok set) = Ok (At set)
of_set text (Err refusal) = Err (place_in text refusal)

abbrev of_text : List ℕ → Bool → Result StartAt ℕ
of_text text true = Ok Current
of_text text false = of_set text (read text)

abbrev is_current : List ℕ → Bool
is_current text = pointwise nat_eq text (codes "current")

-- the start that a text says, or the place of its fault
abbrev pub said : List ℕ → Result StartAt ℕ
said [] = Ok Fresh
said (b ∷ text) = of_text (b ∷ text) (is_current (b ∷ text))

not_true : (b : Bool) → (b ≡ true → ⊥) → b ≡ false
not_true b unlike = elim (cases_Bool b) [ inl so ↦ absurd (unlike so) | inr other ↦ other ]

set-said : (text : List ℕ) → NamesSet text → said text ≡ of_set text (read text)
set-said [] names = absurd (names.0 refl)
set-said (b ∷ text) names = ap (of_text (b ∷ text)) (not_true (is_current (b ∷ text)) (λ so. names.1 ((bytes_eq-Decides (b ∷ text) (codes "current")).0 so)))

pub starts-said : (text : List ℕ) (start : StartAt) → StartsAs text start → said text ≡ Ok start
starts-said text Fresh h = ap (λ t. said t) h
starts-said text Current h = ap (λ t. said t) h
starts-said text (At set) h = set-said text h.0 ∙ ap (of_set text) (sym (only text (Ok set) h.1))

pub refused-said : (text : List ℕ) (at : ℕ) → IsRefusedAt text at → said text ≡ Err at
refused-said text at h = set-said text h.0 ∙ ap (of_set text) (sym (only text (Err h.1) h.2)) ∙ ap (λ k. Err k) h.3

abbrev pub SaysStart : List ℕ → Result StartAt ℕ → Type 0
SaysStart text (Ok start) = StartsAs text start
SaysStart text (Err at) = IsRefusedAt text at

set-holds : (text : List ℕ) → NamesSet text → (r : Result Position GtidRefusal) → ReadsSet text r → SaysStart text (of_set text r)
set-holds text names (Ok set) h = (names, h)
set-holds text names (Err refusal) h = (names, refusal, h, refl)

pub said-holds : (text : List ℕ) → SaysStart text (said text)
said-holds [] = refl
said-holds (b ∷ text) =
    let decides = bytes_eq-Decides (b ∷ text) (codes "current") in
    elim (cases_Bool (is_current (b ∷ text))) [
      | inl so ↦ subst (λ r. SaysStart (b ∷ text) r) (sym (ap (of_text (b ∷ text)) so)) (decides.0 so)
      | inr unlike ↦ let names : NamesSet (b ∷ text) = ((λ e. absurd (cc)), (λ e. let h : true ≡ false = sym (decides.1 e) ∙ unlike in cc)) in
          subst (λ r. SaysStart (b ∷ text) r) (sym (ap (of_text (b ∷ text)) unlike)) (set-holds (b ∷ text) names (read (b ∷ text)) (reads (b ∷ text)))
    ]
