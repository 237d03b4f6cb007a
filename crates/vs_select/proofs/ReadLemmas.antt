-- Each part leaves less of its text, so a text has no more parts than bytes.
use Rattle.std.proofs.Common.{◌≡◌, ◌≤◌, ◌<◌, ◌+◌, ◌-◌, ℕ, zero, suc, Bool, true, false, List, [], ◌∷◌, length, drop, refl, arith, sym, ap, ◌∙◌, length-drop}
use Rattle.std.specs.Prelude.{Option, Some, None, cond, Result, Ok, Err, ◌==◌, ◌||◌}
use Rattle.std.specs.List.{prefix_len}
use Rattle.vs_base.specs.Numbers.{is_digit}
use Rattle.vs_select.specs.Parts.{Next, behind, closed, is_blank, is_letter, is_word_byte, left_at, long_sign, next_in, next_part, part_at, parts_from, placed, sign_at, sign_by, up_to_backquote, up_to_quote, with_byte, with_part}
use Rattle.vs_select.specs.Grammar.{after, finished, run, step}
use Rattle.vs_select.specs.declared.part.Part.{Part}
use Rattle.vs_select.specs.declared.part.Part.TheVariants.{Quoted, Bytes, Unclosed}
use Rattle.vs_select.specs.declared.select.Select.{Select}
use Rattle.vs_select.specs.declared.select.Comparison.{Comparison}
use Rattle.vs_select.specs.declared.state.State.{State}

-- what holds of both cases holds of the choice
pub of_choice : {A : Type 0} (P : A → Type 0) (b : Bool) (x y : A) → (b ≡ true → P x) → (b ≡ false → P y) → P (elim b [ true ↦ x | false ↦ y ])
of_choice P true x y f g = f refl
of_choice P false x y f g = g refl

abbrev Leaves : ℕ → Part × List ℕ → Type 0
Leaves n cut = length cut.1 ≤ n

abbrev LeavesIfSome : ℕ → Option (List ℕ × List ℕ) → Type 0
LeavesIfSome n None = Unit {0}
LeavesIfSome n (Some p) = length p.1 ≤ n

with_byte-leaves : (n c : ℕ) (o : Option (List ℕ × List ℕ)) → LeavesIfSome n o → LeavesIfSome (suc n) (with_byte c o)
with_byte-leaves n c None h = tt
with_byte-leaves n c (Some p) h = omega arith

more-leaves : (n : ℕ) (o : Option (List ℕ × List ℕ)) → LeavesIfSome n o → LeavesIfSome (suc n) o
more-leaves n None h = tt
more-leaves n (Some p) h = omega arith

backquote-leaves : (text : List ℕ) → LeavesIfSome (length text) (up_to_backquote text)
backquote-leaves [] = tt
backquote-leaves (c ∷ cs) = of_choice (LeavesIfSome (suc (length cs))) (c == 0x60) _ _ (λ _. omega arith) (λ _. with_byte-leaves _ c _ (backquote-leaves cs))

quote-leaves : (flag : Bool) (text : List ℕ) → LeavesIfSome (length text) (up_to_quote flag text)
quote-leaves true [] = omega arith
quote-leaves false [] = tt
quote-leaves true (c ∷ cs) = of_choice (LeavesIfSome (suc (length cs))) (c == 0x27) _ _ (λ _. with_byte-leaves _ 0x27 _ (quote-leaves false cs)) (λ _. omega arith)
quote-leaves false (c ∷ cs) = of_choice (LeavesIfSome (suc (length cs))) (c == 0x27) _ _ (λ _. more-leaves _ _ (quote-leaves true cs)) (λ _. with_byte-leaves _ c _ (quote-leaves false cs))

closed-leaves : (n : ℕ) (make : List ℕ → Part) (o : Option (List ℕ × List ℕ)) → LeavesIfSome n o → Leaves n (closed make o)
closed-leaves n make None h = omega arith
closed-leaves n make (Some p) h = h

sign_by-leaves : (o : Option Comparison) (c d : ℕ) (cs : List ℕ) → Leaves (suc (length cs)) (sign_by o c d cs)
sign_by-leaves None c d cs = omega arith
sign_by-leaves (Some by) c d cs = omega arith

sign-leaves : (c : ℕ) (cs : List ℕ) → Leaves (length cs) (sign_at c cs)
sign-leaves c [] = omega arith
sign-leaves c (d ∷ cs) = sign_by-leaves (long_sign c d) c d cs

pub behind-short : (p : ℕ → Bool) (text : List ℕ) → length (behind p text) ≤ length text
behind-short p text = omega (arith, length-drop (prefix_len p text) text)

-- a first byte that passes is no part of what is left
pub behind-first : (p : ℕ → Bool) (c : ℕ) (cs : List ℕ) → p c ≡ true → behind p (c ∷ cs) ≡ behind p cs
behind-first p c cs h =
    let e : 1 + prefix_len p cs ≡ suc (prefix_len p cs) = omega arith in
    ap (λ b. drop (cond b (1 + prefix_len p cs) 0) (c ∷ cs)) h ∙ ap (λ n. drop n (c ∷ cs)) e

or_right : (a b d : Bool) → b ≡ true → (a || (b || d)) ≡ true
or_right true b d h = refl
or_right false true d h = refl
or_right false false d h = absurd (cc)

pub digit-is-word : (c : ℕ) → is_digit c ≡ true → is_word_byte c ≡ true
digit-is-word c h = or_right (is_letter c) (is_digit c) (c == 0x5F) h

pub part-leaves : (c : ℕ) (cs : List ℕ) → Leaves (length cs) (part_at c cs)
part-leaves c cs =
    let P : Part × List ℕ → Type 0 = Leaves (length cs) in
    let run : (p : ℕ → Bool) → p c ≡ true → length (behind p (c ∷ cs)) ≤ length cs = λ p e. rw (behind-first p c cs e) (behind-short p cs) in
    of_choice P (c == 0x60) _ _ (λ _. closed-leaves _ Quoted _ (backquote-leaves cs)) (λ _.
    of_choice P (c == 0x27) _ _ (λ _. closed-leaves _ Bytes _ (quote-leaves false cs)) (λ _.
    of_choice P (c == 0x2A) _ _ (λ _. omega arith) (λ _.
    of_choice P (c == 0x2C) _ _ (λ _. omega arith) (λ _.
    of_choice P (c == 0x2D) _ _ (λ _. behind-short is_word_byte cs) (λ _.
    of_choice P (is_digit c) _ _ (λ e. run is_word_byte (digit-is-word c e)) (λ _.
    of_choice P (is_word_byte c) _ _ (λ e. run is_word_byte e) (λ _. sign-leaves c cs)))))))

left_at-within : (p : Part) (left : ℕ) → left_at p left ≤ left
left_at-within Unclosed left = omega arith
left_at-within p left = omega arith

next_in-leaves : (text : List ℕ) (n : Next) → next_in text ≡ Some n → (length n.1.1 < length text) × (n.0 ≤ length text)
next_in-leaves [] n h = absurd (cc)
next_in-leaves (c ∷ cs) n h =
    let e : placed (length (c ∷ cs)) (part_at c cs) ≡ n = cc in
    let less = part-leaves c cs in
    let at = left_at-within (part_at c cs).0 (length (c ∷ cs)) in
    rw (← e) (omega arith, at)

-- a part leaves less of the text, and begins within it
pub leaves_less : (text : List ℕ) (n : Next) → next_part text ≡ Some n → (length n.1.1 < length text) × (n.0 ≤ length text)
leaves_less text n h =
    let less = next_in-leaves (behind is_blank text) n h in
    let short = behind-short is_blank text in
    (omega arith, omega arith)

-- what a text means, from a state on and over so many parts
abbrev pub meant_from : State → ℕ → ℕ → List ℕ → Result Select ℕ
meant_from state n size text = finished size (run state (parts_from n size text))

-- a text without parts
pub meant-ended : (state : State) (n size : ℕ) (text : List ℕ) → next_part text ≡ None → meant_from state n size text ≡ finished size (Ok state)
meant-ended state zero size text h = refl
meant-ended state (suc n) size text h = rw h refl

-- a part that fits
pub meant-more : (state next : State) (n size : ℕ) (text : List ℕ) (cut : Next) → next_part text ≡ Some cut → step state cut.1.0 ≡ Some next → length text ≤ n → (m : ℕ) × (length cut.1.1 ≤ m) × (meant_from next m size cut.1.1 ≡ meant_from state n size text)
meant-more state next zero size text cut h fits few = absurd (let less = leaves_less text cut h in omega arith)
meant-more state next (suc m) size text cut h fits few =
    let less = leaves_less text cut h in
    let by_part : meant_from state (suc m) size text ≡ finished size (after (step state cut.1.0) (size - cut.0) (λ t. run t (parts_from m size cut.1.1))) = ap (λ o. finished size (run state (with_part size o (parts_from m size)))) h in
    let by_step = ap (λ o. finished size (after o (size - cut.0) (λ t. run t (parts_from m size cut.1.1)))) fits in
    (m, omega arith, sym (by_part ∙ by_step))

-- a part that doesn't
pub meant-stopped : (state : State) (n size : ℕ) (text : List ℕ) (cut : Next) → next_part text ≡ Some cut → step state cut.1.0 ≡ None → length text ≤ n → meant_from state n size text ≡ Err (size - cut.0)
meant-stopped state zero size text cut h stops few = absurd (let less = leaves_less text cut h in omega arith)
meant-stopped state (suc m) size text cut h stops few =
    let by_part : meant_from state (suc m) size text ≡ finished size (after (step state cut.1.0) (size - cut.0) (λ t. run t (parts_from m size cut.1.1))) = ap (λ o. finished size (run state (with_part size o (parts_from m size)))) h in
    by_part ∙ ap (λ o. finished size (after o (size - cut.0) (λ t. run t (parts_from m size cut.1.1)))) stops
