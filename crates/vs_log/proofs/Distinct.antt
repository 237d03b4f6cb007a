-- No GTID of a log stands twice, or lies in its base, and the GTIDs of its front are never too many.
use Rattle.std.proofs.Common.{◌≡◌, ℕ, false, List, [], ◌∷◌, refl, sym, subst, ◌∙◌}
use Rattle.std.specs.Prelude.{◌⊎◌}
use Rattle.std.specs.List.{AllByRecursion, list_any}
use Rattle.std.proofs.lemmas.Bool.{or_parts, or_from}
use Rattle.vs_base.specs.declared.Gtid.{Gtid}
use Rattle.vs_base.specs.Names.{same_gtid}
use Rattle.vs_gtid.specs.declared.Entry.{Entry}
use Rattle.vs_gtid.specs.Positions.{Position, has}
use Rattle.vs_gtid.specs.Joins.{added}
use Rattle.vs_gtid.specs.Logs.{Log, HaveDistinctGtids}
use Rattle.vs_gtid.proofs.JoinLemmas.{has-added}
use Rattle.vs_log.specs.States.{State}
use Rattle.vs_binlog.specs.Heads.{Event}
use Rattle.vs_log.specs.Table.{Rules}
use Rattle.vs_log.specs.Meaning.{log_meant}
use Rattle.vs_log.specs.Productions.{AreEntries, BeginsLog, Means}
use Rattle.vs_log.specs.Laws.{FitAlong, HasNewGtids}
use Rattle.vs_log.proofs.Follows.{means}

-- the set lacks the entries' GTIDs
abbrev Lacks : Position → List Entry → Type 0
Lacks known es = AllByRecursion (λ (e : Entry). has known e.gtid ≡ false) es

lacks_also : (known : Position) (g x : Gtid) → has (added known g) x ≡ false → (has known x ≡ false) × (same_gtid g x ≡ false)
lacks_also known g x h = or_parts (has known x) (same_gtid g x) (sym (has-added known g x) ∙ h)

lacks_before : (known : Position) (g : Gtid) (es : List Entry) → Lacks (added known g) es → Lacks known es
lacks_before known g [] a = tt
lacks_before known g (e ∷ es) a = ((lacks_also known g e.gtid a.0).0, lacks_before known g es a.1)

lacks_it : (known : Position) (g : Gtid) (es : List Entry) → Lacks (added known g) es → list_any (λ f. same_gtid g f.gtid) es ≡ false
lacks_it known g [] a = refl
lacks_it known g (e ∷ es) a =
    let first : same_gtid g e.gtid ≡ false = (lacks_also known g e.gtid a.0).1 in
    let rest : list_any (λ f. same_gtid g f.gtid) es ≡ false = lacks_it known g es a.1 in
    or_from (same_gtid g e.gtid) (list_any (λ f. same_gtid g f.gtid) es) first rest

abbrev NewIn : Position → List Entry → Type 0
NewIn base es = Lacks base es × HaveDistinctGtids es × FitAlong base es

new_ones : {M : Type 0} (rules : Rules M) (known after : Position) (groups : List (List Event)) (es : List Entry) → AreEntries rules known groups es after → NewIn known es
new_ones rules known after [] [] a = (tt, tt, tt)
new_ones rules known after [] (e ∷ es) a = elim a [ ]
new_ones rules known after (group ∷ groups) [] a = elim a [ ]
new_ones rules known after (group ∷ groups) (e ∷ es) a =
    let rest = new_ones rules (added known e.gtid) after groups es a.2 in
    ((a.1.lacks, lacks_before known e.gtid es rest.0), (lacks_it known e.gtid es rest.0, rest.1), (a.1.few, rest.2))

of_state : {M : Type 0} (rules : Rules M) (events : List Event) (s : State M) → BeginsLog rules events s → NewIn s.base s.entries
of_state rules [] s b = subst (λ z. NewIn z.base z.entries) (sym b) (tt, tt, tt)
of_state rules (e ∷ events) s b = new_ones rules s.base b.known b.log.groups s.entries b.log.are_entries

of_log : {M : Type 0} (rules : Rules M) (bytes : List ℕ) (log : Log) → Means rules bytes log → NewIn log.base log.entries
of_log rules bytes log (◌⊎◌.inl parts) = subst (λ z. NewIn z.base z.entries) (sym parts.is) (of_state rules parts.events parts.state parts.begins)
of_log rules bytes log (◌⊎◌.inr (◌⊎◌.inl short)) = subst (λ z. NewIn z.base z.entries) (sym short.2) (tt, tt, tt)
of_log rules bytes log (◌⊎◌.inr (◌⊎◌.inr none)) = subst (λ z. NewIn z.base z.entries) (sym none.1) (tt, tt, tt)

pub new_gtids : {M : Type 0} (rules : Rules M) (bytes : List ℕ) → HasNewGtids (log_meant rules bytes)
new_gtids rules bytes =
    let n = of_log rules bytes (log_meant rules bytes) (means rules bytes) in
    record { distinct = n.1; lacking = n.0; few = n.2 }
