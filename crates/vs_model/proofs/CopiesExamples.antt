-- A client of the stream of the two shards: it has the rows that the copied log leaves.
use Rattle.std.proofs.Common.{◌≡◌, ◌<◌, Bool, true, false, cond, List, [], ◌∷◌, ◌++◌, append-nil, append_assoc, Some, None, IfSome, Contains, nat_lt, refl, ap, sym, ◌∙◌, subst, arith}
use Rattle.std.proofs.lemmas.Cmp.{on_total, nat_cmp_total}
use Rattle.vs_base.specs.Names.{same_name}
use Rattle.vs_base.specs.declared.Change.{Change}
use Rattle.vs_gtid.specs.Positions.{has}
use Rattle.vs_gtid.specs.Vectors.Place.{Streaming}
use Rattle.vs_model.specs.Frames.{frames_of}
use Rattle.vs_model.specs.Copy.{Bound, changes_in, row_at}
use Rattle.vs_model.specs.Copies.{IsOrdered, KeepsKeys, ChangesFit, client_row}
use Rattle.vs_model.proofs.Lists.{not_nil, same_head, same_tail}
use Rattle.vs_model.proofs.Examples.{up_to}
use Rattle.vs_model.proofs.CopyExamples.{below_nine, id_of, inserts, renames, row}
use Rattle.vs_model.proofs.StreamExamples.{a, b, cluster, rules, first, frames, legal, distinct_logs}
use Rattle.vs_model.proofs.CopiesLaw.{copies_rows}

-- how a change fits those before it
abbrev Fits : Bound → List Change → Change → Type 0
Fits bound before c = Contains bound.tables c.table →
    IfSome c.before (λ x. row_at bound before c.table (bound.key c.table x) ≡ Some x)
    × IfSome c.after (λ x. IfSome (row_at bound before c.table (bound.key c.table x)) (λ there. c.before ≡ Some there))

abbrev AllFit : Bound → List Change → List Change → Type 0
AllFit bound before [] = Unit {0}
AllFit bound before (c ∷ cs) = Fits bound before c × AllFit bound (before ++ c ∷ []) cs

fit_at : (bound : Bound) (xs cs before behind : List Change) (c : Change) → AllFit bound xs cs → cs ≡ before ++ c ∷ behind → Fits bound (xs ++ before) c
fit_at bound xs [] before behind c fit is = absurd (not_nil before behind c (sym is))
fit_at bound xs (d ∷ cs) [] behind c fit is =
    subst (λ l. Fits bound l c) (sym (append-nil xs)) (subst (Fits bound xs) (same_head _ _ _ _ is) fit.0)
fit_at bound xs (d ∷ cs) (y ∷ before) behind c fit is =
    subst (λ l. Fits bound l c) (append_assoc xs (d ∷ []) before ∙ ap (λ x. xs ++ x ∷ before) (same_head _ _ _ _ is))
    (fit_at bound (xs ++ d ∷ []) cs before behind c fit.1 (same_tail _ _ _ _ is))

fit : ChangesFit below_nine (changes_in (inserts ∷ renames ∷ []))
fit before behind c is = fit_at below_nine [] (changes_in (inserts ∷ renames ∷ [])) before behind c all is
  where
    all : AllFit below_nine [] (changes_in (inserts ∷ renames ∷ []))
    all = (λ one. (tt, tt), (λ two. (tt, tt), (λ three. (tt, tt), (λ renamed. (refl, tt), tt))))

ordered : IsOrdered below_nine
ordered = record { tables = (tt, tt); keys = λ table picked. on_total id_of nat_cmp_total }

keeps : KeepsKeys below_nine (λ table told. told)
keeps table image picked = by (nat_lt (id_of image) 9)
  where
    by : (kept : Bool) → IfSome (cond kept (Some image) None) (λ told. told ≡ image)
    by true = refl
    by false = tt

-- row 1 became row 5, and row 9 was never there
has_five : client_row below_nine (λ table told. told) (frames_of b frames) (7 ∷ []) (row 5) ≡ Some (row 5)
unfolding has same_name
has_five =
    copies_rows cluster rules (λ s. distinct_logs (same_name a s) (same_name b s)) (λ table told. told) b ordered keeps first frames (Streaming (up_to 1 2))
    legal refl (refl, (refl, (refl, (refl, (refl, (refl, tt)))))) refl fit (7 ∷ []) (row 5) (0, one_table, refl)
  where
    one_table : 0 < 1
    one_table = omega arith

lost_one : client_row below_nine (λ table told. told) (frames_of b frames) (7 ∷ []) (row 1) ≡ None
unfolding same_name
lost_one = refl
