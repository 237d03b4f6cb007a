-- A text is read as a select exactly where the productions say that it is one.
use Rattle.std.proofs.Common.{◌≡◌, ◌++◌, ◌⊎◌, ◌-◌, ℕ, Bool, true, false, List, [], ◌∷◌, Option, Some, None, Result, Ok, Err, length, refl, ap, sym, ◌∙◌, subst, inl, inr, ⊎_elim, append_assoc, append-nil, arith}
use Rattle.std.specs.Prelude.{◌||◌, ◌==◌, ◌&&◌, nat_le}
use Rattle.std.specs.List.{list_all, take_while}
use Rattle.std.specs.Option.{option_and_then}
use Rattle.std.proofs.lemmas.Bool.{eqb-true, or_cases, or_left, or_right}
use Rattle.vs_base.specs.Numbers.{is_digit, small_value}
use Rattle.vs_select.specs.Grammar.{done, ended, finished, run, select_of, step}
use Rattle.vs_select.specs.Parts.{Next, behind, closed, is_blank, is_word_byte, left_at, long_sign, next_in, next_part, number_by, number_of_run, part_at, parts, placed, short_sign, sign_at, sign_by, sign_part, up_to_backquote, up_to_quote}
use Rattle.vs_select.specs.Productions.{AreSelect, BeginsWithParts, CanGoOn, IsMissedAt, IsNoneFrom, IsSelect, IsUnclosed, Spells}
use Rattle.vs_select.specs.declared.part.Part.{Part}
use Rattle.vs_select.specs.declared.part.Part.TheVariants as part
use Rattle.vs_select.specs.declared.state.State.{State}
use Rattle.vs_select.specs.declared.state.State.TheVariants.{Begin}
use Rattle.vs_select.specs.declared.select.Comparison.{Comparison}
use Rattle.vs_select.specs.declared.select.Select.{Select}
use Rattle.vs_select.proofs.GrammarLaws.{accept, accept-behind, to_come, walk}
use Rattle.vs_select.proofs.AcceptLaws.{can_end, selects_accepted}
use Rattle.vs_select.proofs.ReadLemmas.{of_choice}
use Rattle.vs_select.proofs.SpellLaws.{Stands, rest_stops}
use Rattle.vs_select.proofs.PartLaws.{part_cut}
use Rattle.vs_select.proofs.RunLaws.{Ran, Stopped, next_at, parts_to_runs, runs_to_parts, runs_to_stop}

-- ---- a select

abbrev Walked : State → List Part → Select → Type 0
Walked st ps s = (t : State) × (walk st ps ≡ Some t) × (done t ≡ Some s)

walked_more : (ps : List Part) (s : Select) (o : Option State) → ((u : State) → accept u ps ≡ Some s → Walked u ps s) → option_and_then (λ u. accept u ps) o ≡ Some s → (t : State) × (option_and_then (λ u. walk u ps) o ≡ Some t) × (done t ≡ Some s)
walked_more ps s None later h = absurd (cc)
walked_more ps s (Some u) later h = later u h

accept_walks : (ps : List Part) (st : State) (s : Select) → accept st ps ≡ Some s → Walked st ps s
accept_walks [] st s h = (st, refl, h)
accept_walks (p ∷ ps) st s h = walked_more ps s (step st p) (λ u. accept_walks ps u s) h

pub behind_walk : (ps : List Part) (st t : State) → walk st ps ≡ Some t → accept st ps ≡ done t
behind_walk ps st t h = ap (accept st) (sym (append-nil ps)) ∙ accept-behind ps [] st t h

done_is : (size : ℕ) (o : Option Select) (s : Select) → ended size o ≡ Ok s → o ≡ Some s
done_is size None s h = absurd (cc)
done_is size (Some t) s h = let e : t ≡ s = cc in ap Some e

run_is_select : (text : List ℕ) (s : Select) (r : Result State ℕ) → run Begin (parts text) ≡ r → finished (length text) r ≡ Ok s → IsSelect text s
run_is_select text s (Ok t) e h =
    let ran = runs_to_parts (length text) (length text) text Begin t (omega arith) e in
    (ran.0, ran.1, to_come ran.0 Begin s (behind_walk ran.0 Begin t ran.2 ∙ done_is (length text) (done t) s h))
run_is_select text s (Err at) e h = absurd (cc)

pub law_some : (text : List ℕ) (s : Select) → select_of text ≡ Ok s → IsSelect text s
law_some text s h = run_is_select text s (run Begin (parts text)) refl h

pub law_all : (text : List ℕ) (s : Select) → IsSelect text s → select_of text ≡ Ok s
law_all text s i =
    let walked = accept_walks i.0 Begin s (selects_accepted i.0 s i.2) in
    ap (finished (length text)) (parts_to_runs i.0 (length text) (length text) text Begin walked.0 (omega arith) i.1 walked.1) ∙ ap (ended (length text)) walked.2

-- ---- none

pub can_go : (ps : List Part) (u : State) → walk Begin ps ≡ Some u → CanGoOn ps
can_go ps u h =
    let e = can_end u in
    (e.0, e.1, to_come (ps ++ e.0) Begin e.1 (accept-behind ps e.0 Begin u h ∙ e.2))

none_at_end : (p : Part) (rest : List ℕ) → BeginsWithParts [] (p ∷ []) rest → ⊥
none_at_end p rest b =
    let next = next_at p [] b.0 b.1 b.2 b.3 b.4 b.5 b.6 in
    let nothing : next_part [] ≡ None = refl in
    let some : next_part [] ≡ Some (next.0, (p, b.2)) = next.1 in
    cc

end_is_none : (text : List ℕ) (at : ℕ) (t : State) → Ran Begin text t → done t ≡ None → at ≡ length text → IsNoneFrom text at
end_is_none text at t ran none e = record {
  before = ran.0;
  rest = [];
  begins = ran.1;
  no_blank = λ c cs h. absurd (cc);
  goes_on = can_go ran.0 t ran.2;
  none = λ _ s a. let x : Some s ≡ None = sym (selects_accepted ran.0 s a) ∙ (behind_walk ran.0 Begin t ran.2 ∙ none) in cc;
  stops = λ p rest b _. none_at_end p rest b;
  place = (λ _. e, λ _. let same : length text ≡ length text - 0 = omega arith in e ∙ same);
}

-- ---- where a text is missed that isn't closed

number_by_closed : (negative : Bool) (o : Option ℕ) → number_by negative o ≡ part.Unclosed → ⊥
number_by_closed negative None h = cc
number_by_closed negative (Some size) h = cc

number_closed : (negative : Bool) (run : List ℕ) → number_of_run negative run ≡ part.Unclosed → ⊥
number_closed negative run =
    let P : Part → Type 0 = λ p. p ≡ part.Unclosed → ⊥ in
    of_choice P (list_all is_digit run && (nat_le 1 (length run) && nat_le (length run) 19)) _ _ (λ _. number_by_closed negative (small_value run)) (λ _ h. cc)

sign_part_closed : (o : Option Comparison) → sign_part o ≡ part.Unclosed → ⊥
sign_part_closed None h = cc
sign_part_closed (Some by) h = cc

sign_by_closed : (o : Option Comparison) (c d : ℕ) (cs : List ℕ) → (sign_by o c d cs).0 ≡ part.Unclosed → ⊥
sign_by_closed None c d cs h = sign_part_closed (short_sign c) h
sign_by_closed (Some by) c d cs h = cc

sign_closed : (c : ℕ) (cs : List ℕ) → (sign_at c cs).0 ≡ part.Unclosed → ⊥
sign_closed c [] h = sign_part_closed (short_sign c) h
sign_closed c (d ∷ cs) h = sign_by_closed (long_sign c d) c d cs h

pub unclosed_opens : (c : ℕ) (cs : List ℕ) → (part_at c cs).0 ≡ part.Unclosed → (c == 0x27 || c == 0x60) ≡ true
unclosed_opens c cs =
    let P : Part × List ℕ → Type 0 = λ cut. cut.0 ≡ part.Unclosed → (c == 0x27 || c == 0x60) ≡ true in
    of_choice P (c == 0x60) _ _ (λ e _. or_right (c == 0x27) (c == 0x60) e) (λ _.
    of_choice P (c == 0x27) _ _ (λ e _. or_left (c == 0x27) (c == 0x60) e) (λ _.
    of_choice P (c == 0x2A) _ _ (λ _ h. absurd (cc)) (λ _.
    of_choice P (c == 0x2C) _ _ (λ _ h. absurd (cc)) (λ _.
    of_choice P (c == 0x2D) _ _ (λ _ h. absurd (number_closed true (take_while is_word_byte cs) h)) (λ _.
    of_choice P (is_digit c) _ _ (λ _ h. absurd (number_closed false (take_while is_word_byte (c ∷ cs)) h)) (λ _.
    of_choice P (is_word_byte c) _ _ (λ _ h. absurd (cc)) (λ _ h. absurd (sign_closed c cs h))))))))

abbrev IsOpen : Part → Type 0
IsOpen p = (p ≡ part.Unclosed) ⊎ Stands p

bytes_open : (o : Option (List ℕ × List ℕ)) → IsOpen (closed part.Bytes o).0
bytes_open None = inl refl
bytes_open (Some p) = inr tt

quoted_open : (o : Option (List ℕ × List ℕ)) → IsOpen (closed part.Quoted o).0
quoted_open None = inl refl
quoted_open (Some p) = inr tt

opened : (c : ℕ) (cs : List ℕ) → (c == 0x27 || c == 0x60) ≡ true → IsOpen (part_at c cs).0
opened c cs h =
    let Q : ℕ → Type 0 = λ x. IsOpen (part_at x cs).0 in
    ⊎_elim (λ e. subst Q (sym (eqb-true c 0x27 e)) (bytes_open (up_to_quote false cs))) (λ e. subst Q (sym (eqb-true c 0x60 e)) (quoted_open (up_to_backquote cs))) (or_cases (c == 0x27) (c == 0x60) h)

pub left_is : (p : Part) (left : ℕ) → (p ≡ part.Unclosed → ⊥) → left_at p left ≡ left
left_is part.Unclosed left h = absurd (h refl)
left_is p left h = refl

pub same_part : (text rest : List ℕ) (p : Part) (left : ℕ) (n : Next) → next_part text ≡ Some (left, (p, rest)) → next_part text ≡ Some n → p ≡ n.1.0
same_part text rest p left n h k = let same : (left, (p, rest)) ≡ n = cc in ap (λ (m : Next). m.1.0) same

-- a text that begins with a part at once
pub begins_at_once : (c : ℕ) (cs : List ℕ) → Stands (part_at c cs).0 → BeginsWithParts (c ∷ cs) ((part_at c cs).0 ∷ []) (part_at c cs).1
begins_at_once c cs stands =
    let cut = part_cut c cs stands in
    ([], cut.0, (part_at c cs).1, cut.1, refl, cut.2, cut.3, ([], refl, refl))

abbrev LeftIs : List ℕ → ℕ → Type 0
LeftIs rest left = (IsUnclosed rest → left ≡ 0) × ((IsUnclosed rest → ⊥) → left ≡ length rest)

pub left_of_unclosed : (c : ℕ) (cs : List ℕ) → IsUnclosed (c ∷ cs) → left_at (part_at c cs).0 (length (c ∷ cs)) ≡ 0
left_of_unclosed c cs u =
    let first : u.0 ≡ c = cc in
    let opens : (c == 0x27 || c == 0x60) ≡ true = ap (λ x. x == 0x27 || x == 0x60) (sym first) ∙ u.3 in
    ⊎_elim (λ e. ap (λ p. left_at p (length (c ∷ cs))) e) (λ stands. absurd (u.4 (part_at c cs).0 (part_at c cs).1 (begins_at_once c cs stands))) (opened c cs opens)

pub not_spelled : (p : Part) (spelled : List ℕ) → p ≡ part.Unclosed → Spells p spelled → ⊥
not_spelled p spelled e h = let S : Part → Type 0 = λ q. Spells q spelled in subst S e h

left_of_closed : (c : ℕ) (cs : List ℕ) (n : Next) → next_part (c ∷ cs) ≡ Some n → (part_at c cs).0 ≡ n.1.0 → (IsUnclosed (c ∷ cs) → ⊥) → left_at (part_at c cs).0 (length (c ∷ cs)) ≡ length (c ∷ cs)
left_of_closed c cs n h same closed_there = left_is (part_at c cs).0 (length (c ∷ cs)) (λ e. closed_there (
  c,
  cs,
  refl,
  unclosed_opens c cs e,
  λ p rest b.
      let next = next_at p (c ∷ cs) b.0 b.1 b.2 b.3 b.4 b.5 b.6 in
      not_spelled p b.1 (same_part (c ∷ cs) b.2 p next.0 n next.1 h ∙ (sym same ∙ e)) b.5,
))

left_there : (rest : List ℕ) (n : Next) → next_in rest ≡ Some n → next_part rest ≡ Some n → LeftIs rest n.0
left_there [] n h k = absurd (cc)
left_there (c ∷ cs) n h k =
    let same : placed (length (c ∷ cs)) (part_at c cs) ≡ n = cc in
    let left : n.0 ≡ left_at (part_at c cs).0 (length (c ∷ cs)) = ap (λ (m : Next). m.0) (sym same) in
    let there : (part_at c cs).0 ≡ n.1.0 = ap (λ (m : Next). m.1.0) same in
    (λ u. left ∙ left_of_unclosed c cs u, λ u. left ∙ left_of_closed c cs n k there u)

missed_at : (text rest : List ℕ) (at : ℕ) (n : Next) → behind is_blank rest ≡ rest → next_part rest ≡ Some n → at ≡ length text - n.0 → IsMissedAt text rest at
missed_at text rest at n still h place =
    let left = left_there rest n (ap next_in (sym still) ∙ h) h in
    let all : length text - 0 ≡ length text = omega arith in
    (λ u. place ∙ (ap (λ k. length text - k) (left.0 u) ∙ all), λ u. place ∙ ap (λ k. length text - k) (left.1 u))

-- ---- a part that doesn't fit

abbrev then_accept : List Part → Option State → Option Select
then_accept more o = option_and_then (λ t. accept t more) o

cannot_go : (before more : List Part) (p : Part) (s : Select) (u : State) → walk Begin before ≡ Some u → step u p ≡ None → AreSelect ((before ++ p ∷ []) ++ more) s → ⊥
cannot_go before more p s u walked stops a =
    let x : Some s ≡ None = sym (selects_accepted _ s a) ∙ (ap (accept Begin) (append_assoc before (p ∷ []) more) ∙ (accept-behind before (p ∷ more) Begin u walked ∙ ap (then_accept more) stops)) in
    cc

stop_is_none : (text : List ℕ) (at : ℕ) → Stopped Begin text (length text) at → IsNoneFrom text at
stop_is_none text at s = record {
  before = s.before;
  rest = s.rest;
  begins = s.begins;
  no_blank = λ c cs e. rest_stops is_blank s.rest c cs (s.no_blank ∙ e);
  goes_on = can_go s.before s.state s.walked;
  none = λ e t a. let x : None ≡ Some s.next = ap next_part (sym e) ∙ s.next_is in cc;
  stops = λ p rest b g.
      let next = next_at p s.rest b.0 b.1 b.2 b.3 b.4 b.5 b.6 in
      let same : p ≡ s.next.1.0 = same_part s.rest b.2 p next.0 s.next next.1 s.next_is in
      cannot_go s.before g.0 p g.1 s.state s.walked (ap (step s.state) same ∙ s.stops) g.2;
  place = missed_at text s.rest at s.next s.no_blank s.next_is s.place;
}

ended_none : (size at : ℕ) (o : Option Select) → ended size o ≡ Err at → (o ≡ None) × (at ≡ size)
ended_none size at None h = let e : size ≡ at = cc in (refl, sym e)
ended_none size at (Some s) h = absurd (cc)

run_is_none : (text : List ℕ) (at : ℕ) (r : Result State ℕ) → run Begin (parts text) ≡ r → finished (length text) r ≡ Err at → IsNoneFrom text at
run_is_none text at (Ok t) e h =
    let none = ended_none (length text) at (done t) h in
    end_is_none text at t (runs_to_parts (length text) (length text) text Begin t (omega arith) e) none.0 none.1
run_is_none text at (Err stop) e h =
    let same : stop ≡ at = cc in
    stop_is_none text at (runs_to_stop (length text) (length text) at text Begin (omega arith) (e ∙ ap Err same))

pub law_place : (text : List ℕ) (at : ℕ) → select_of text ≡ Err at → IsNoneFrom text at
law_place text at h = run_is_none text at (run Begin (parts text)) refl h
