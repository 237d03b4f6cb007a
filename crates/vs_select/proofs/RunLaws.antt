-- The parts of a text are those that it begins with, so the machine goes over a text as over its parts.
use Rattle.std.proofs.Common.{◌≡◌, ◌++◌, ◌-◌, ◌<◌, ◌≤◌, ℕ, zero, suc, List, [], ◌∷◌, Option, Some, None, Ok, Err, length, refl, ap, sym, ◌∙◌, subst, arith}
use Rattle.std.specs.List.{take_while}
use Rattle.std.specs.Option.{option_and_then}
use Rattle.vs_select.specs.Grammar.{after, step, run}
use Rattle.vs_select.specs.Parts.{Next, behind, is_blank, left_at, next_in, next_part, part_at, parts_from, placed, with_part}
use Rattle.vs_select.specs.Productions.{AreBlanks, BeginsWithParts, PartEndsAt, Spells}
use Rattle.vs_select.specs.declared.part.Part.{Part}
use Rattle.vs_select.specs.declared.part.Part.TheVariants as part
use Rattle.vs_select.specs.declared.state.State.{State}
use Rattle.vs_select.specs.declared.state.State.TheVariants.{Begin, Selected, Starred, Listed, Comma, From, Named, Wanting, Column, Compared, Is, IsNot, Tested}
use Rattle.vs_select.proofs.GrammarLaws.{walk}
use Rattle.vs_select.proofs.ReadLemmas.{leaves_less}
use Rattle.vs_select.proofs.SpellLaws.{IsCut, Stands, StopsAt, behind-none, front_and_rest, front_passes, one_front, stops_behind}
use Rattle.vs_select.proofs.PartLaws.{part_all, part_cut}

-- ---- the next part

-- a part that is spelled behind blanks is the next one
pub next_at : (p : Part) (text blanks spelled rest : List ℕ) → text ≡ blanks ++ (spelled ++ rest) → AreBlanks blanks → Spells p spelled → PartEndsAt p rest → (left : ℕ) × (next_part text ≡ Some (left, (p, rest)))
next_at p text blanks spelled rest e all h ends =
    let b = part_all p spelled rest h ends in
    let first : behind is_blank text ≡ b.0 ∷ b.1 = ap (behind is_blank) (e ∙ ap (λ r. blanks ++ r) b.2) ∙ (one_front is_blank blanks (b.0 ∷ b.1) all b.3).1 in
    (left_at p (length (b.0 ∷ b.1)), ap next_in first ∙ ap (λ q. Some (placed (length (b.0 ∷ b.1)) q)) b.4)

-- the text begins with blanks and the spelling of the part
abbrev pub IsNext : List ℕ → Part → List ℕ → Type 0
IsNext text p rest = (blanks spelled : List ℕ) × (text ≡ blanks ++ (spelled ++ rest)) × AreBlanks blanks × Spells p spelled × PartEndsAt p rest

next_cut : (text rest : List ℕ) (n : Next) → behind is_blank text ≡ rest → next_in rest ≡ Some n → Stands n.1.0 → IsNext text n.1.0 n.1.1
next_cut text [] n e h stands = absurd (cc)
next_cut text (c ∷ cs) n e h stands =
    let same : placed (length (c ∷ cs)) (part_at c cs) ≡ n = cc in
    let part_is : part_at c cs ≡ n.1 = ap (λ (m : Next). m.1) same in
    let cut = subst (IsCut (c ∷ cs)) part_is (part_cut c cs) stands in
    (take_while is_blank text, cut.0, front_and_rest is_blank text ∙ ap (λ r. take_while is_blank text ++ r) (e ∙ cut.1), front_passes is_blank text, cut.2, cut.3)

pub next_is : (text : List ℕ) (n : Next) → next_part text ≡ Some n → Stands n.1.0 → IsNext text n.1.0 n.1.1
next_is text n h stands = next_cut text (behind is_blank text) n refl h stands

only_blanks : (text rest : List ℕ) → behind is_blank text ≡ rest → next_in rest ≡ None → BeginsWithParts text [] []
only_blanks text [] e h = (take_while is_blank text, front_and_rest is_blank text ∙ ap (λ r. take_while is_blank text ++ r) e, front_passes is_blank text)
only_blanks text (c ∷ cs) e h = absurd (cc)

pub none_left : (text : List ℕ) → next_part text ≡ None → BeginsWithParts text [] []
none_left text h = only_blanks text (behind is_blank text) refl h

pub left_none : (text : List ℕ) → BeginsWithParts text [] [] → next_part text ≡ None
left_none text b = ap next_in (ap (behind is_blank) b.1 ∙ (one_front is_blank b.0 [] b.2 tt).1)

-- ---- what has no blank in front

still : (rest : List ℕ) → StopsAt is_blank rest → behind is_blank rest ≡ rest
still [] h = refl
still (c ∷ cs) h = behind-none is_blank c cs h

pub behind_still : (text : List ℕ) → behind is_blank (behind is_blank text) ≡ behind is_blank text
behind_still text = still (behind is_blank text) (stops_behind is_blank text)

-- ---- what never fits

wrong_stops : (st : State) → step st part.Wrong ≡ None
wrong_stops Begin = refl
wrong_stops Selected = refl
wrong_stops Starred = refl
wrong_stops (Listed names) = refl
wrong_stops (Comma names) = refl
wrong_stops (From columns) = refl
wrong_stops (Named q) = refl
wrong_stops (Wanting q) = refl
wrong_stops (Column q n) = refl
wrong_stops (Compared q n by) = refl
wrong_stops (Is q n) = refl
wrong_stops (IsNot q n) = refl
wrong_stops (Tested q) = refl

unclosed_stops : (st : State) → step st part.Unclosed ≡ None
unclosed_stops Begin = refl
unclosed_stops Selected = refl
unclosed_stops Starred = refl
unclosed_stops (Listed names) = refl
unclosed_stops (Comma names) = refl
unclosed_stops (From columns) = refl
unclosed_stops (Named q) = refl
unclosed_stops (Wanting q) = refl
unclosed_stops (Column q n) = refl
unclosed_stops (Compared q n by) = refl
unclosed_stops (Is q n) = refl
unclosed_stops (IsNot q n) = refl
unclosed_stops (Tested q) = refl

pub fits_stands : (st u : State) (p : Part) → step st p ≡ Some u → Stands p
fits_stands st u part.Wrong h = absurd (let e = wrong_stops st in cc)
fits_stands st u part.Unclosed h = absurd (let e = unclosed_stops st in cc)
fits_stands st u p h = tt

-- ---- from a text to its parts

abbrev pub Ran : State → List ℕ → State → Type 0
Ran st text t = (ps : List Part) × BeginsWithParts text ps [] × (walk st ps ≡ Some t)

ran_more : (st u t : State) (text : List ℕ) (n : Next) → next_part text ≡ Some n → step st n.1.0 ≡ Some u → Ran u n.1.1 t → Ran st text t
ran_more st u t text n h fits later =
    let i = next_is text n h (fits_stands st u n.1.0 fits) in
    (n.1.0 ∷ later.0, (i.0, i.1, n.1.1, i.2, i.3, i.4, i.5, later.1), ap (option_and_then (λ v. walk v later.0)) fits ∙ later.2)

empty_of : (text : List ℕ) → length text ≤ 0 → text ≡ []
empty_of [] h = refl
empty_of (c ∷ cs) h = absurd (omega arith)

abbrev LaterRuns : ℕ → ℕ → State → Type 0
LaterRuns m size t = (rest : List ℕ) (u : State) → length rest ≤ m → run u (parts_from m size rest) ≡ Ok t → Ran u rest t

ran_fit : (m size : ℕ) (text : List ℕ) (st t : State) (n : Next) → length text ≤ suc m → LaterRuns m size t → next_part text ≡ Some n → (o : Option State) → step st n.1.0 ≡ o → after o (size - n.0) (λ u. run u (parts_from m size n.1.1)) ≡ Ok t → Ran st text t
ran_fit m size text st t n few later e None fits k = absurd (cc)
ran_fit m size text st t n few later e (Some u) fits k =
    let less : length n.1.1 < length text = (leaves_less text n e).0 in
    ran_more st u t text n e fits (later n.1.1 u (omega arith) k)

ran_next : (m size : ℕ) (text : List ℕ) (st t : State) → length text ≤ suc m → LaterRuns m size t → (o : Option Next) → next_part text ≡ o → run st (with_part size o (parts_from m size)) ≡ Ok t → Ran st text t
ran_next m size text st t few later None e k = let same : st ≡ t = cc in ([], none_left text e, ap Some same)
ran_next m size text st t few later (Some n) e k = ran_fit m size text st t n few later e (step st n.1.0) refl k

pub runs_to_parts : (n size : ℕ) (text : List ℕ) (st t : State) → length text ≤ n → run st (parts_from n size text) ≡ Ok t → Ran st text t
runs_to_parts zero size text st t few h =
    let same : st ≡ t = cc in
    ([], ([], empty_of text few, refl), ap Some same)
runs_to_parts (suc m) size text st t few h = ran_next m size text st t few (λ rest u. runs_to_parts m size rest u t) (next_part text) refl h

-- ---- up to a part that doesn't fit

pub record Stopped (st : State) (text : List ℕ) (size at : ℕ) : Type 0 where
  pub before : List Part
  pub rest : List ℕ
  pub state : State
  pub next : Next
  pub begins : BeginsWithParts text before rest
  pub no_blank : behind is_blank rest ≡ rest
  pub walked : walk st before ≡ Some state
  pub next_is : next_part rest ≡ Some next
  pub stops : step state next.1.0 ≡ None
  pub place : at ≡ size - next.0

stopped_more : (st u : State) (text : List ℕ) (size at : ℕ) (n : Next) → next_part text ≡ Some n → step st n.1.0 ≡ Some u → Stopped u n.1.1 size at → Stopped st text size at
stopped_more st u text size at n h fits s =
    let i = next_is text n h (fits_stands st u n.1.0 fits) in
    record {
      before = n.1.0 ∷ s.before;
      rest = s.rest;
      state = s.state;
      next = s.next;
      begins = (i.0, i.1, n.1.1, i.2, i.3, i.4, i.5, s.begins);
      no_blank = s.no_blank;
      walked = ap (option_and_then (λ v. walk v s.before)) fits ∙ s.walked;
      next_is = s.next_is;
      stops = s.stops;
      place = s.place;
    }

abbrev LaterStops : ℕ → ℕ → ℕ → Type 0
LaterStops m size at = (rest : List ℕ) (u : State) → length rest ≤ m → run u (parts_from m size rest) ≡ Err at → Stopped u rest size at

stopped_fit : (m size at : ℕ) (text : List ℕ) (st : State) (n : Next) → length text ≤ suc m → LaterStops m size at → next_part text ≡ Some n → (o : Option State) → step st n.1.0 ≡ o → after o (size - n.0) (λ u. run u (parts_from m size n.1.1)) ≡ Err at → Stopped st text size at
stopped_fit m size at text st n few later e None fits k =
    let same : size - n.0 ≡ at = cc in
    record {
      before = [];
      rest = behind is_blank text;
      state = st;
      next = n;
      begins = (take_while is_blank text, front_and_rest is_blank text, front_passes is_blank text);
      no_blank = behind_still text;
      walked = refl;
      next_is = ap next_in (behind_still text) ∙ e;
      stops = fits;
      place = sym same;
    }
stopped_fit m size at text st n few later e (Some u) fits k =
    let less : length n.1.1 < length text = (leaves_less text n e).0 in
    stopped_more st u text size at n e fits (later n.1.1 u (omega arith) k)

stopped_next : (m size at : ℕ) (text : List ℕ) (st : State) → length text ≤ suc m → LaterStops m size at → (o : Option Next) → next_part text ≡ o → run st (with_part size o (parts_from m size)) ≡ Err at → Stopped st text size at
stopped_next m size at text st few later None e k = absurd (cc)
stopped_next m size at text st few later (Some n) e k = stopped_fit m size at text st n few later e (step st n.1.0) refl k

pub runs_to_stop : (n size at : ℕ) (text : List ℕ) (st : State) → length text ≤ n → run st (parts_from n size text) ≡ Err at → Stopped st text size at
runs_to_stop zero size at text st few h = absurd (cc)
runs_to_stop (suc m) size at text st few h = stopped_next m size at text st few (λ rest u. runs_to_stop m size at rest u) (next_part text) refl h

-- ---- and back

pub no_part_run : (n size : ℕ) (text : List ℕ) (st : State) → next_part text ≡ None → run st (parts_from n size text) ≡ Ok st
no_part_run zero size text st e = refl
no_part_run (suc m) size text st e = ap (λ o. run st (with_part size o (parts_from m size))) e

fit_run : (m size at : ℕ) (rest : List ℕ) (ps : List Part) (t : State) (o : Option State) → ((u : State) → walk u ps ≡ Some t → run u (parts_from m size rest) ≡ Ok t) → option_and_then (λ u. walk u ps) o ≡ Some t → after o at (λ u. run u (parts_from m size rest)) ≡ Ok t
fit_run m size at rest ps t None later h = absurd (cc)
fit_run m size at rest ps t (Some u) later h = later u h

pub parts_to_runs : (ps : List Part) (n size : ℕ) (text : List ℕ) (st t : State) → length text ≤ n → BeginsWithParts text ps [] → walk st ps ≡ Some t → run st (parts_from n size text) ≡ Ok t
parts_to_runs [] n size text st t few b h =
    let same : st ≡ t = cc in
    no_part_run n size text st (left_none text b) ∙ ap Ok same
parts_to_runs (p ∷ ps) zero size text st t few b h =
    let next = next_at p text b.0 b.1 b.2 b.3 b.4 b.5 b.6 in
    let less : length b.2 < length text = (leaves_less text (next.0, (p, b.2)) next.1).0 in
    absurd (omega arith)
parts_to_runs (p ∷ ps) (suc m) size text st t few b h =
    let next = next_at p text b.0 b.1 b.2 b.3 b.4 b.5 b.6 in
    let less : length b.2 < length text = (leaves_less text (next.0, (p, b.2)) next.1).0 in
    let by_part : run st (with_part size (next_part text) (parts_from m size)) ≡ after (step st p) (size - next.0) (λ u. run u (parts_from m size b.2)) = ap (λ o. run st (with_part size o (parts_from m size))) next.1 in
    by_part ∙ fit_run m size (size - next.0) b.2 ps t (step st p) (λ u. parts_to_runs ps m size b.2 u t (omega arith) b.7) h
