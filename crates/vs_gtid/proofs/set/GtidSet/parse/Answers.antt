use Rattle.std.proofs.Common.{◌≡◌, ◌∙◌, ◌⊎◌, ℕ, List, [], Result, Ok, Err, refl, inl, inr, sym, subst}
use Rattle.vs_gtid.specs.declared.refusal.GtidRefusal.{GtidRefusal}
use Rattle.vs_gtid.specs.declared.refusal.GtidRefusal.TheVariants.{Memory}
use Rattle.vs_gtid.specs.Positions.{Position}
use Rattle.vs_gtid.specs.SetTexts.{prefix}
use Rattle.vs_gtid.specs.Readings.{read, ReadsSet}
use Rattle.vs_gtid.proofs.ReadingLemmas.{only, reads}
use Rattle.vs_gtid.proofs.PrintedLemmas.{printed}
use Rattle.vs_gtid.proofs.set.GtidSet.parse.Goals as goal

abbrev Answer : Type 0
Answer = Result Position GtidRefusal

or_memory : (text : List ℕ) (r s : Answer) → (r ≡ Err Memory) ⊎ (r ≡ read text) → ReadsSet text s → (r ≡ Err Memory) ⊎ (r ≡ s)
or_memory text r s h k = elim h [ inl m ↦ inl m | inr e ↦ inr (e ∙ sym (only text s k)) ]

pub returns : goal.returns
returns c =
    let text = c.args.text.now in
    let r = c.read_set.result in
    let h = c.read_set.ensures.read in
    record {
      reads = elim h [ inl m ↦ inl m | inr e ↦ inr (subst (λ (s : Answer). ReadsSet text s) (sym e) (reads text)) ];
      only = λ s k. or_memory text r s h k;
      printed = λ p canonical few e. or_memory text r (Ok p) h (elim e [
        | inl plain ↦ subst (λ (t : List ℕ). ReadsSet t (Ok p)) (sym plain) (printed [] p (inl refl) canonical few)
        | inr prefixed ↦ subst (λ (t : List ℕ). ReadsSet t (Ok p)) (sym prefixed) (printed prefix p (inr refl) canonical few)
      ]);
      position = c.read_set.ensures.position;
    }
