-- Parts of a line, written one after the other.
use Rattle.std.proofs.Common.{◌≡◌, ℕ, ◌+◌, ◌<◌, List, [], ◌∷◌, ◌++◌, length, take, drop, get_or, Option, Result, Ok, Err, refl, sym, ap, subst, ◌∙◌, append_assoc, append-nil, codes, decimal, add-one, if◌then◌else◌}
use Rattle.std.proofs.lemmas.Grind.{flat_map-append}
use Rattle.std.proofs.Math.Seq.{take-suc}
use Rattle.std.proofs.lemmas.Bool.{eq-eqb}
use Rattle.std.proofs.lemmas.List.{take-append-drop}
use Rattle.uuid.specs.Text.{hyphenated_text, lower}
use Rattle.vs_base.specs.declared.gtid.Gtid.{Gtid}
use Rattle.vs_gtid.specs.Joins.{added, joined}
use Rattle.vs_gtid.specs.Text.{set_text, opening_text, following_text}
use Rattle.vs_outside.specs.declared.Failed.{Failed}
use Rattle.vs_outside.specs.Told.{IsPrefixOf, Writes}
use Rattle.vs_outside.proofs.ToldLemmas.{IsPrefixOf-behind, Writes-then, Writes-weaken}
use Rattle.vs_command.specs.declared.line.Part.{Part}
use Rattle.vs_command.specs.Lines.{IsWritten, part_text, text_of}

-- the text of the set of one GTID
gtid_text : (g : Gtid) → set_text (added [] g) ≡ hyphenated_text lower g.uuid ++ codes ":" ++ decimal g.number
unfolding set_text opening_text following_text added joined
gtid_text g =
    append-nil _
    ∙ ap (λ b. hyphenated_text lower g.uuid ++ codes ":" ++ (if b then decimal g.number else (decimal g.number ++ codes "-" ++ decimal g.number))) (eq-eqb g.number g.number refl)

-- its parts, one after the other
pub gtid_parts : (g : Gtid) → hyphenated_text lower g.uuid ++ (codes ":" ++ (decimal g.number ++ [])) ≡ set_text (added [] g)
gtid_parts g =
    ap (λ n. hyphenated_text lower g.uuid ++ (codes ":" ++ n)) (append-nil (decimal g.number))
    ∙ sym (append_assoc (hyphenated_text lower g.uuid) (codes ":") (decimal g.number)) ∙ sym (gtid_text g)

-- the first parts with the next
pub text_of-next : (parts : List Part) (i : ℕ) (d : Part) → i < length parts →
    text_of (take (i + 1) parts) ≡ text_of (take i parts) ++ part_text (get_or parts i d)
text_of-next parts i d within =
    let part = get_or parts i d in
    ap (λ k. text_of (take k parts)) (add-one i) ∙ ap text_of (take-suc parts i d within)
    ∙ flat_map-append part_text (take i parts) (part ∷ []) ∙ ap (λ l. text_of (take i parts) ++ l) (append-nil (part_text part))

-- all parts are the first, the next and the others
pub text_of-split : (parts : List Part) (i : ℕ) (d : Part) → i < length parts →
    (text_of (take i parts) ++ part_text (get_or parts i d)) ++ text_of (drop (i + 1) parts) ≡ text_of parts
text_of-split parts i d within =
    ap (λ l. l ++ text_of (drop (i + 1) parts)) (sym (text_of-next parts i d within))
    ∙ sym (flat_map-append part_text (take (i + 1) parts) (drop (i + 1) parts)) ∙ ap text_of (take-append-drop (i + 1) parts)

-- a text after a text that was written
pub Writes-both : (before between now : Option (List ℕ)) (xs ys : List ℕ) (r : Result Unit Failed) →
    Writes before between (λ w. w ≡ xs) → Writes between now (IsWritten ys r) → Writes before now (IsWritten (xs ++ ys) r)
Writes-both before between now xs ys (Ok u) first second =
    Writes-then (λ w. w ≡ xs) (IsWritten ys (Ok u)) (IsWritten (xs ++ ys) (Ok u)) before between now (λ v w p q. ap (λ l. l ++ w) p ∙ ap (λ l. xs ++ l) q) first second
Writes-both before between now xs ys (Err e) first second =
    Writes-then (λ w. w ≡ xs) (IsWritten ys (Err e)) (IsWritten (xs ++ ys) (Err e)) before between now
    (λ v w p q. subst (λ l. IsPrefixOf (l ++ w) (xs ++ ys)) (sym p) (IsPrefixOf-behind xs w ys q)) first second

-- a beginning of a text begins what the text begins
pub Writes-longer : (before now : Option (List ℕ)) (xs ys all : List ℕ) → xs ++ ys ≡ all → Writes before now (λ w. IsPrefixOf w xs) → Writes before now (λ w. IsPrefixOf w all)
Writes-longer before now xs ys all is wrote =
    Writes-weaken (λ w. IsPrefixOf w xs) (λ w. IsPrefixOf w all) before now
    (λ w p. (p.0 ++ ys, sym (append_assoc w p.0 ys) ∙ ap (λ l. l ++ ys) p.1 ∙ is)) wrote
