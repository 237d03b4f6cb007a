-- The text of a set in which one interval grew by its next number: what stands before that number and behind it stays.
use Rattle.std.proofs.Common.{arith, ◌≡◌, ◌<◌, ◌≤◌, ◌+◌, ◌-◌, ◌==◌, ℕ, suc, Bool, true, false, List, [], ◌∷◌, ◌++◌, length, take, drop, set, get_or, codes, decimal, refl, ap, ap₂, sym, subst, ◌∙◌, inl, inr, add-one, add-zero, append_assoc, get_or-drop, length-drop, length-take-le, if◌then◌else◌, nat_eq, min, max}
use Rattle.std.specs.Cmp.Lexicographic.{pointwise}
use Rattle.std.proofs.Math.Seq.{drop-append-add, drop-append_seam, take-append_seam}
use Rattle.std.proofs.lemmas.Bool.{false_from_ne_true}
use Rattle.std.proofs.lemmas.Bool.Decides.{nat_tests}
use Rattle.std.proofs.lemmas.List.{drop_more, take-append-drop}
use Rattle.std.specs.Cmp.Lexicographic.{slice_cmp}
use Rattle.std.specs.Ordering.{nat_cmp}
use Rattle.std.specs.declared.cmp.Ordering.TheVariants.{Less}
use Rattle.vs_base.specs.declared.gtid.Gtid.{Gtid}
use Rattle.uuid.specs.Text.{hyphenated_text, lower}
use Rattle.vs_gtid.specs.declared.interval.Interval.{Interval}
use Rattle.vs_gtid.specs.Joins.{added, alone, hull, joined, stands_before}
use Rattle.vs_gtid.specs.Positions.{Position, IsCanonical, IsInterval, IsPosition, StandsBefore, StandsBeforeFirst}
use Rattle.vs_gtid.proofs.AddLemmas.{before_first, joined_first, joined_meets, not_after, stands_before-from}
use Rattle.vs_gtid.proofs.JoinLemmas.{IsCanonical-added}
use Rattle.std.specs.List.{slice_index}
use Rattle.vs_gtid.proofs.Order.{Before-trans, not_less, stands_before-is}
use Rattle.vs_gtid.specs.Text.{following_text, next_text, opening_text, set_text, span_text}
use Rattle.vs_gtid.specs.Kept.{GrowsAt, RaisingKeeps, end_of, raised}

abbrev interval_of : List ℕ → ℕ → ℕ → Interval
interval_of u f l = record { uuid = u; first = f; last = l }

not_equal : (a b : ℕ) → a < b → (a == b) ≡ false
not_equal a b h = grind (arith, nat_tests)

-- what stands in front of an interval's last number, where it has two
abbrev span_front : Interval → List ℕ
span_front i = decimal i.first ++ codes "-"

abbrev opening_front : Interval → List ℕ
opening_front i = hyphenated_text lower i.uuid ++ (codes ":" ++ span_front i)

abbrev next_front : Interval → Interval → List ℕ
next_front before i = if pointwise nat_eq before.uuid i.uuid then codes ":" ++ span_front i else codes "," ++ opening_front i

span_of : (i : Interval) → i.first < i.last → span_text i ≡ span_front i ++ decimal i.last
span_of i h =
    ap (λ b. if b then decimal i.first else decimal i.first ++ codes "-" ++ decimal i.last) (not_equal i.first i.last h)

opening_of : (i : Interval) → i.first < i.last → opening_text i ≡ opening_front i ++ decimal i.last
unfolding opening_text
opening_of i h =
    ap (λ (s : List ℕ). (hyphenated_text lower i.uuid ++ codes ":") ++ s) (span_of i h)
    ∙ append_assoc (hyphenated_text lower i.uuid) (codes ":") (span_front i ++ decimal i.last)
    ∙ sym (append_assoc (hyphenated_text lower i.uuid) (codes ":" ++ span_front i) (decimal i.last))

next_of : (before i : Interval) → i.first < i.last → next_text before i ≡ next_front before i ++ decimal i.last
unfolding next_text
next_of before i h = by (pointwise nat_eq before.uuid i.uuid) (span_of i h) (opening_of i h)
  where
    by : (b : Bool) → span_text i ≡ span_front i ++ decimal i.last → opening_text i ≡ opening_front i ++ decimal i.last →
        (if b then codes ":" ++ span_text i else codes "," ++ opening_text i) ≡ (if b then codes ":" ++ span_front i else codes "," ++ opening_front i) ++ decimal i.last
    by true s o = ap (λ (t : List ℕ). codes ":" ++ t) s
    by false s o = ap (λ (t : List ℕ). codes "," ++ t) o

following_same : (i : Interval) (rest : Position) → following_text (raised i) rest ≡ following_text i rest
unfolding following_text next_text
following_same i [] = refl
following_same i (j ∷ rest) = refl

-- what stands in front of the last number of an interval behind others
abbrev front_behind : Interval → Position → Interval → List ℕ
front_behind before [] i = next_front before i
front_behind before (j ∷ js) i = next_text before j ++ front_behind j js i

abbrev front_of : Position → Interval → List ℕ
front_of [] i = opening_front i
front_of (j ∷ js) i = opening_text j ++ front_behind j js i

behind_parts : (before : Interval) (js : Position) (i : Interval) (rest : Position) → i.first < i.last →
    following_text before (js ++ i ∷ rest) ≡ front_behind before js i ++ (decimal i.last ++ following_text i rest)
unfolding following_text
behind_parts before [] i rest h = ap (λ (t : List ℕ). t ++ following_text i rest) (next_of before i h) ∙ append_assoc (next_front before i) (decimal i.last) (following_text i rest)
behind_parts before (j ∷ js) i rest h =
    ap (λ (t : List ℕ). next_text before j ++ t) (behind_parts j js i rest h) ∙ sym (append_assoc (next_text before j) (front_behind j js i) (decimal i.last ++ following_text i rest))

set_parts : (before : Position) (i : Interval) (rest : Position) → i.first < i.last → set_text (before ++ i ∷ rest) ≡ front_of before i ++ (decimal i.last ++ following_text i rest)
unfolding set_text
set_parts [] i rest h = ap (λ (t : List ℕ). t ++ following_text i rest) (opening_of i h) ∙ append_assoc (opening_front i) (decimal i.last) (following_text i rest)
set_parts (j ∷ js) i rest h =
    ap (λ (t : List ℕ). opening_text j ++ t) (behind_parts j js i rest h) ∙ sym (append_assoc (opening_text j) (front_behind j js i) (decimal i.last ++ following_text i rest))

front_same : (before : Position) (i : Interval) → front_of before (raised i) ≡ front_of before i
front_same [] i = refl
front_same (j ∷ js) i = ap (λ (t : List ℕ). opening_text j ++ t) (by j js)
  where
    by : (k : Interval) (ks : Position) → front_behind k ks (raised i) ≡ front_behind k ks i
    by k [] = refl
    by k (l ∷ ks) = ap (λ (t : List ℕ). next_text k l ++ t) (by l ks)

none_follows : (i : Interval) → following_text i [] ≡ []
unfolding following_text
none_follows i = refl

length_append : (xs ys : List ℕ) → length (xs ++ ys) ≡ length xs + length ys
length_append [] ys = omega arith
length_append (x ∷ xs) ys = let k : length (xs ++ ys) ≡ length xs + length ys = length_append xs ys in omega arith

between : (front number back new text : List ℕ) (end : ℕ) → text ≡ front ++ (number ++ back) → end ≡ length front + length number →
    front ++ (new ++ back) ≡ take (end - length number) text ++ (new ++ drop end text)
between front number back new text end are there =
    let first : end - length number ≡ length front = omega arith in
    ap₂ (λ (a b : List ℕ). a ++ (new ++ b))
    (sym (ap₂ (λ (n : ℕ) (t : List ℕ). take n t) first are ∙ take-append_seam front (number ++ back)))
    (sym (ap₂ (λ (n : ℕ) (t : List ℕ). drop n t) there are ∙ drop-append-add front (number ++ back) (length number) ∙ drop-append_seam number back))

nil_length : (xs : List ℕ) → length (xs ++ []) ≡ length xs
nil_length [] = refl
nil_length (x ∷ xs) = ap suc (nil_length xs)

ends_at : (before : Position) (i : Interval) → i.first < i.last → length (set_text (before ++ i ∷ [])) ≡ length (front_of before i) + length (decimal i.last)
ends_at before i h =
    ap (λ (t : List ℕ). length t) (set_parts before i [] h)
    ∙ length_append (front_of before i) (decimal i.last ++ following_text i [])
    ∙ ap (λ (n : ℕ). length (front_of before i) + n) (ap (λ (t : List ℕ). length (decimal i.last ++ t)) (none_follows i) ∙ nil_length (decimal i.last))

pub keeps : RaisingKeeps
keeps before rest i end h there =
    set_parts before (raised i) rest (let k : i.first < i.last + 1 = omega arith in k)
    ∙ ap₂ (λ (f b : List ℕ). f ++ (decimal (i.last + 1) ++ b)) (front_same before i) (following_same i rest)
    ∙ between (front_of before i) (decimal i.last) (following_text i rest) (decimal (i.last + 1)) (set_text (before ++ i ∷ rest)) end (set_parts before i rest h) (there ∙ ends_at before i h)

-- ---- at a place of a set

seam_read : (before : Position) (i : Interval) (rest : Position) (d : Interval) → get_or (before ++ i ∷ rest) (length before) d ≡ i
seam_read [] i rest d = refl
seam_read (j ∷ js) i rest d = seam_read js i rest d

seam_inside : (before : Position) (i : Interval) (rest : Position) → length before < length (before ++ i ∷ rest)
seam_inside [] i rest = omega arith
seam_inside (j ∷ js) i rest = let h : length js < length (js ++ i ∷ rest) = seam_inside js i rest in omega arith

seam_set : (before : Position) (i y : Interval) (rest : Position) → set (before ++ i ∷ rest) (length before) y ≡ before ++ y ∷ rest
seam_set [] i y rest = refl
seam_set (j ∷ js) i y rest = ap (λ (r : Position). j ∷ r) (seam_set js i y rest)

seam_count : (before : Position) (i y : Interval) (rest : Position) → length (before ++ y ∷ rest) ≡ length (before ++ i ∷ rest)
seam_count [] i y rest = refl
seam_count (j ∷ js) i y rest = ap suc (seam_count js i y rest)

interval_in : (before : Position) (i : Interval) (rest : Position) → IsCanonical (before ++ i ∷ rest) → IsInterval i
interval_in [] i rest c = c.0
interval_in (j ∷ js) i rest c = interval_in js i rest c.2

seam_take : (before : Position) (i : Interval) (rest : Position) → take (suc (length before)) (before ++ i ∷ rest) ≡ before ++ i ∷ []
seam_take [] i rest = refl
seam_take (j ∷ js) i rest = ap (λ (r : Position). j ∷ r) (seam_take js i rest)

front_taken : (before : Position) (i : Interval) (rest : Position) → take (length before + 1) (before ++ i ∷ rest) ≡ before ++ i ∷ []
front_taken before i rest = ap (λ (n : ℕ). take n (before ++ i ∷ rest)) (add-one (length before)) ∙ seam_take before i rest

-- what is known of a set at the place of an interval that grows
pub record RaisedAt (p : Position) (at end : ℕ) (g : Gtid) (text : List ℕ) : Type 0 where
  pub i : Interval
  pub inside : at < length p
  pub read : (d : Interval) → get_or p at d ≡ i
  pub short : length (decimal i.last) ≤ end
  pub within : end ≤ length text
  pub position : IsPosition p → IsPosition (added p g)
  pub set : (d : Interval) → set p at (record { uuid = (get_or p at d).uuid; first = (get_or p at d).first; last = g.number }) ≡ added p g
  pub spelled : (number : List ℕ) → number ≡ decimal g.number → length number ≡ length (decimal i.last) →
      take (end - length number) text ++ (number ++ drop end text) ≡ set_text (added p g)
  pub ends : length (decimal g.number) ≡ length (decimal i.last) → end ≡ end_of (added p g) at

raised_parts : (before rest : Position) (i : Interval) (g : Gtid) (end : ℕ) (text : List ℕ) → i.uuid ≡ g.uuid → i.first < i.last → g.number ≡ i.last + 1 →
    end ≡ end_of (before ++ i ∷ rest) (length before) → text ≡ set_text (before ++ i ∷ rest) → added (before ++ i ∷ rest) g ≡ before ++ raised i ∷ rest →
    RaisedAt (before ++ i ∷ rest) (length before) end g text
raised_parts before rest i g end text server two next there is grown =
    let stands : end ≡ length (set_text (before ++ i ∷ [])) = there ∙ ap (λ (q : Position). length (set_text q)) (front_taken before i rest) in
    let last : end ≡ length (front_of before i) + length (decimal i.last) = stands ∙ ends_at before i two in
    let all : length text ≡ length (front_of before i) + (length (decimal i.last) + length (following_text i rest)) =
    ap (λ (t : List ℕ). length t) (is ∙ set_parts before i rest two)
    ∙ length_append (front_of before i) (decimal i.last ++ following_text i rest)
    ∙ ap (λ (n : ℕ). length (front_of before i) + n) (length_append (decimal i.last) (following_text i rest)) in
    let grew : i.first < (raised i).last = omega arith in
    record {
      i = i;
      inside = seam_inside before i rest;
      read = λ d. seam_read before i rest d;
      short = omega arith;
      within = omega arith;
      position = λ here.
          let whole = interval_in before i rest here.canonical in
          record {
            canonical = IsCanonical-added (before ++ i ∷ rest) g (subst (λ (u : List ℕ). length u ≡ 16) server whole.uuid)
                (subst (λ (u : List ℕ). (k : ℕ) → slice_index u k < 256) server whole.bytes) here.canonical;
            few = let n = ap (λ (q : Position). length q) grown ∙ seam_count before i (raised i) rest in let few = here.few in omega arith;
          };
      set = λ d.
          ap (λ (x : Interval). set (before ++ i ∷ rest) (length before) (record { uuid = x.uuid; first = x.first; last = g.number })) (seam_read before i rest d)
          ∙ ap (λ (n : ℕ). set (before ++ i ∷ rest) (length before) (record { uuid = i.uuid; first = i.first; last = n })) next
          ∙ seam_set before i (raised i) rest ∙ sym grown;
      spelled = λ number e same.
          let digits : number ≡ decimal (i.last + 1) = e ∙ ap (λ (n : ℕ). decimal n) next in
          ap (λ (n : ℕ). take (end - n) text ++ (number ++ drop end text)) same
          ∙ ap₂ (λ (n t : List ℕ). take (end - length (decimal i.last)) t ++ (n ++ drop end t)) digits is
          ∙ sym (keeps before rest i end two stands) ∙ ap (λ (q : Position). set_text q) (sym grown);
      ends = λ same.
          let digits : length (decimal (i.last + 1)) ≡ length (decimal i.last) = ap (λ (n : ℕ). length (decimal n)) (sym next) ∙ same in
          last
          ∙ ap₂ (λ (f : List ℕ) (n : ℕ). length f + n) (sym (front_same before i)) (sym digits)
          ∙ sym (ends_at before (raised i) grew)
          ∙ ap (λ (q : Position). length (set_text q)) (sym (front_taken before (raised i) rest))
          ∙ ap (λ (q : Position). end_of q (length before)) (sym grown);
    }

pub raised_at : (p : Position) (at end : ℕ) (g : Gtid) (text : List ℕ) → GrowsAt p at g → end ≡ end_of p at → text ≡ set_text p → RaisedAt p at end g text
raised_at p at end g text w there is =
    let At : Position → ℕ → Type 0 = λ q n. end ≡ end_of q n → text ≡ set_text q → added q g ≡ w.before ++ raised w.interval ∷ w.rest → RaisedAt q n end g text in
    subst (λ (n : ℕ). At p n) (sym w.place)
    (subst (λ (q : Position). At q (length w.before)) (sym w.split) (λ a b c. raised_parts w.before w.rest w.interval g end text w.server w.two w.next a b c)) there is w.grown

-- how many digits the last number of the interval has
pub digits_at : (p : Position) (at end : ℕ) (g : Gtid) (text : List ℕ) (r : RaisedAt p at end g text) (x d : Interval) (digits : List ℕ) → x ≡ get_or p at d → digits ≡ decimal x.last →
    length digits ≡ length (decimal r.i.last)
digits_at p at end g text r x d digits e f = ap (λ (t : List ℕ). length t) f ∙ ap (λ (i : Interval). length (decimal i.last)) (e ∙ r.read d)

-- ---- when an interval grows

first_before : (j : Interval) (js : Position) (i : Interval) (rest : Position) → IsCanonical (j ∷ (js ++ i ∷ rest)) → StandsBefore j i
first_before j [] i rest c = c.1
first_before j (l ∷ js) i rest c =
    Before-trans j.uuid l.uuid i.uuid j.last l.first l.last i.first c.2.0.ascends c.1 (first_before l js i rest c.2)

-- a GTID that is the next number of an interval of a canonical list, and stands before what follows, makes it longer
grown_in : (before : Position) (i : Interval) (rest : Position) (g : Gtid) → IsCanonical (before ++ i ∷ rest) → i.uuid ≡ g.uuid → g.number ≡ i.last + 1 →
    StandsBeforeFirst (alone g) rest → joined (alone g) (before ++ i ∷ rest) ≡ before ++ raised i ∷ rest
unfolding joined
grown_in [] i rest g c same next follows =
    let ascends : i.first ≤ i.last = c.0.ascends in
    let not_behind : stands_before i (alone g) ≡ false = false_from_ne_true _ (λ t. meets (stands_before-is i (alone g) t)) in
    let not_before : stands_before (alone g) i ≡ false = false_from_ne_true _ (λ t. meets_back (stands_before-is (alone g) i t)) in
    let least : min g.number i.first ≡ i.first = omega arith in
    let most : max g.number i.last ≡ i.last + 1 = omega arith in
    let is : hull (alone g) i ≡ raised i =
    ap (λ (u : List ℕ). interval_of u (min g.number i.first) (max g.number i.last)) (sym same)
    ∙ ap₂ (λ (f l : ℕ). interval_of i.uuid f l) least most in
    joined_meets i (alone g) rest not_before not_behind
    ∙ ap (λ (h : Interval). joined h rest) is ∙ joined_first rest (raised i) (first_of rest follows)
  where
    meets : StandsBefore i (alone g) → ⊥
    meets (inl less) = not_less i.uuid g.uuid same less
    meets (inr apart) = let h : i.last + 1 < g.number = apart.1 in omega arith

    meets_back : StandsBefore (alone g) i → ⊥
    meets_back (inl less) = not_less g.uuid i.uuid (sym same) less
    meets_back (inr apart) = let h : g.number + 1 < i.first = apart.1 in let a : i.first ≤ i.last = c.0.ascends in omega arith

    first_of : (r : Position) → StandsBeforeFirst (alone g) r → StandsBeforeFirst (raised i) r
    first_of [] f = tt
    first_of (l ∷ r) (inl less) = inl (subst (λ (u : List ℕ). slice_cmp nat_cmp u l.uuid ≡ Less) (sym same) less)
    first_of (l ∷ r) (inr apart) = inr (same ∙ apart.0, (let h : g.number + 1 < l.first = apart.1 in omega arith))
grown_in (j ∷ js) i rest g c same next follows =
    let ascends : j.first ≤ j.last = c.0.ascends in
    let one : g.number ≤ g.number = omega arith in
    let before : StandsBefore j (alone g) = reach (first_before j js i rest c) (order js c.2) in
    let yes = stands_before-from j (alone g) before in
    rw (not_after j (alone g) ascends one yes, yes) (ap (λ (r : Position). j ∷ r) (grown_in js i rest g c.2 same next follows))
  where
    order : (ks : Position) → IsCanonical (ks ++ i ∷ rest) → i.first ≤ i.last
    order [] k = k.0.ascends
    order (l ∷ ks) k = order ks k.2

    reach : StandsBefore j i → i.first ≤ i.last → StandsBefore j (alone g)
    reach (inl less) a = inl (subst (λ (u : List ℕ). slice_cmp nat_cmp j.uuid u ≡ Less) same less)
    reach (inr apart) a = inr (apart.0 ∙ same, (let h : j.last + 1 < i.first = apart.1 in omega arith))

pub grows : (p : Position) (at : ℕ) (g : Gtid) (d : Interval) → IsCanonical p → at < length p → (get_or p at d).uuid ≡ g.uuid → (get_or p at d).first < (get_or p at d).last →
    g.number ≡ (get_or p at d).last + 1 → (at + 1 < length p → stands_before (alone g) (get_or p (at + 1) d) ≡ true) → GrowsAt p at g
unfolding added
grows p at g d c l same two next follows =
    let i = get_or p at d in
    let rest = drop (at + 1) p in
    let split : p ≡ take at p ++ i ∷ rest = sym (take-append-drop at p) ∙ ap (λ (r : Position). take at p ++ r) (drop_more p at d l) in
    let first : StandsBeforeFirst (alone g) rest =
    before_first (alone g) rest d (λ n. rw (get_or-drop (at + 1) p 0 d, add-zero) (follows (omega (arith, length-drop {A = Interval})))) in
    record {
      before = take at p;
      interval = i;
      rest = rest;
      split = split;
      place = sym (length-take-le at p (omega arith));
      server = same;
      two = two;
      next = next;
      grown = ap (λ (q : Position). joined (alone g) q) split ∙ grown_in (take at p) i rest g (subst (λ (q : Position). IsCanonical q) split c) same next first;
    }
