-- What was let go and what is held are all bytes.
use Rattle.std.proofs.Common.{◌≡◌, ◌≤◌, ◌+◌, ℕ, List, [], ◌∷◌, ◌++◌, length, take, drop, ap, sym, ◌∙◌, arith, append-nil, append_assoc, length-append}
use Rattle.std.specs.Prelude.{◌⊎◌}
use Rattle.std.proofs.lemmas.List.{take-append-drop, length-take-le}
use Rattle.std.proofs.Math.Seq.{take-append-add}
use Rattle.vs_entries.specs.declared.window.Gone.{Gone}
use Rattle.vs_entries.specs.Windows.{Windowed, LetsGo, gone_of}

pub gone_more : (gone : List Gone) (g : Gone) → gone_of (gone ++ g ∷ []) ≡ gone_of gone ++ take g.count.value g.bytes.value.items
gone_more [] g = append-nil (take g.count.value g.bytes.value.items)
gone_more (x ∷ gone) g =
    ap (λ z. take x.count.value x.bytes.value.items ++ z) (gone_more gone g)
    ∙ sym (append_assoc (take x.count.value x.bytes.value.items) (gone_of gone) (take g.count.value g.bytes.value.items))

-- what stays is all, whatever is let go
pub whole_stays : (gone new held left : List ℕ) (n : ℕ) → new ≡ gone ++ take n held → left ≡ drop n held → new ++ left ≡ gone ++ held
whole_stays gone new held left n is rest =
    ap (λ z. z ++ left) is ∙ ap (λ z. (gone ++ take n held) ++ z) rest ∙ append_assoc gone (take n held) (drop n held) ∙ ap (λ z. gone ++ z) (take-append-drop n held)

pub gone_length : (gone new held : List ℕ) (n from at : ℕ) → n ≤ length held → new ≡ gone ++ take n held → length gone ≡ from → from + n ≡ at → length new ≡ at
gone_length gone new held n from at h is k e = omega (arith, ap length is, length-append gone (take n held), length-take-le n held h, k, e)

pub lets_go : (at : ℕ) (old new : Windowed) (size : ℕ) → new.bytes ≡ old.bytes → new.from ≡ at → length old.bytes ≡ size → old.from + size ≤ at + at → LetsGo at old new
lets_go at old new size b f k m = record { bytes = b; from = ◌⊎◌.inr (f, omega (arith, k, m)) }

pub taken_back : (gone held left : List ℕ) (n from : ℕ) → length gone ≡ from → left ≡ take n held → gone ++ left ≡ take (from + n) (gone ++ held)
taken_back gone held left n from k is = ap (λ z. gone ++ z) is ∙ sym (take-append-add gone held n) ∙ ap (λ z. take (z + n) (gone ++ held)) k
