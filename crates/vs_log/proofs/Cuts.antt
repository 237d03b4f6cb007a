-- How bytes are cut into events.
use Rattle.std.proofs.Common.{◌≡◌, ◌≤◌, ◌+◌, ◌&&◌, ℕ, zero, suc, true, List, [], ◌∷◌, ◌++◌, length, take, drop, nat_le, get_or, refl, ap, sym, ◌∙◌, append_assoc, arith, length-append}
use Rattle.std.specs.Cmp.Lexicographic.{same_text}
use Rattle.std.proofs.lemmas.Bool.{leb-true, le-leb, and_parts, and_from}
use Rattle.std.proofs.lemmas.List.{append-nil, take_at, drop_at, length-take-le, length-drop, take-append-drop, drop-append-le, get_or_append_left}
use Rattle.byteorder.specs.Endian.{little_from}
use Rattle.vs_binlog.specs.Heads.{Event, length_of, kind_of, flags_of}
use Rattle.vs_log.specs.Events.{sort, sort_of, is_held, last_place, magic, joined, IsEvent}
use Rattle.vs_log.specs.States.{Place}
use Rattle.vs_log.specs.Table.{sum_with, bytes_with}
use Rattle.vs_log.specs.Meaning.{has_magic}
use Rattle.vs_log.specs.Productions.{IsCut}
use Rattle.vs_log.proofs.Shapes.{all_more}

number_in_front : (i n : ℕ) (xs ys : List ℕ) → i + n ≤ length xs → little_from i n (xs ++ ys) ≡ little_from i n xs
number_in_front i zero xs ys h = refl
number_in_front i (suc n) xs ys h =
    let a : get_or (xs ++ ys) i 0 ≡ get_or xs i 0 = get_or_append_left xs ys 0 i (omega arith) in
    let b : little_from (suc i) n (xs ++ ys) ≡ little_from (suc i) n xs = number_in_front (suc i) n xs ys (omega arith) in
    omega arith

pub length_of-append : (e more : List ℕ) → 19 ≤ length e → length_of (e ++ more) ≡ length_of e
unfolding length_of
length_of-append e more h =
    ap (λ z. little_from 0 4 z) (drop-append-le 9 e more (omega arith))
    ∙ number_in_front 0 4 (drop 9 e) more (omega (arith, length-drop 9 e))

sort_of-append : (e more : List ℕ) → 19 ≤ length e → sort_of (e ++ more) ≡ sort_of e
unfolding sort_of kind_of flags_of
sort_of-append e more h =
    let kind : get_or (e ++ more) 4 0 ≡ get_or e 4 0 = get_or_append_left e more 0 4 (omega arith) in
    let flags : little_from 0 2 (drop 17 (e ++ more)) ≡ little_from 0 2 (drop 17 e) =
    ap (λ z. little_from 0 2 z) (drop-append-le 17 e more (omega arith)) ∙ number_in_front 0 2 (drop 17 e) more (omega (arith, length-drop 17 e)) in
    ap (λ z. sort z (little_from 0 2 (drop 17 (e ++ more)))) kind ∙ ap (λ z. sort (get_or e 4 0) z) flags

pub bytes_with-append : {M : Type 0} (place : Place M) (e more : List ℕ) → 19 ≤ length e → bytes_with place (e ++ more) ≡ bytes_with place e
unfolding bytes_with
bytes_with-append place e more h =
    ap (λ z. sum_with place z (length_of (e ++ more))) (sort_of-append e more h) ∙ ap (λ z. sum_with place (sort_of e) z) (length_of-append e more h)

-- what a test of the rest's front tells
pub record Holds (at : ℕ) (rest : List ℕ) : Type 0 where
  pub head : 19 ≤ length_of rest
  pub fits : length_of rest ≤ length rest
  pub short : at + length_of rest ≤ last_place
  pub whole : IsEvent (take (length_of rest) rest)
  pub long : length (take (length_of rest) rest) ≡ length_of rest
  pub are : rest ≡ take (length_of rest) rest ++ drop (length_of rest) rest

pub held : (at : ℕ) (rest : List ℕ) → is_held at rest ≡ true → Holds at rest
unfolding is_held
held at rest h =
    let a = and_parts (nat_le 19 (length rest)) (nat_le 19 (length_of rest) && (nat_le (length_of rest) (length rest) && nat_le (at + length_of rest) last_place)) h in
    let b = and_parts (nat_le 19 (length_of rest)) (nat_le (length_of rest) (length rest) && nat_le (at + length_of rest) last_place) a.1 in
    let c = and_parts (nat_le (length_of rest) (length rest)) (nat_le (at + length_of rest) last_place) b.1 in
    let head : 19 ≤ length_of rest = leb-true 19 (length_of rest) b.0 in
    let fits : length_of rest ≤ length rest = leb-true (length_of rest) (length rest) c.0 in
    let short : at + length_of rest ≤ last_place = leb-true (at + length_of rest) last_place c.1 in
    let long : length (take (length_of rest) rest) ≡ length_of rest = length-take-le _ rest fits in
    let are : rest ≡ take (length_of rest) rest ++ drop (length_of rest) rest = sym (take-append-drop (length_of rest) rest) in
    let large : 19 ≤ length (take (length_of rest) rest) = omega (arith, long, head) in
    record {
      head = head;
      fits = fits;
      short = short;
      whole = record { head = large; whole = sym (ap length_of are ∙ length_of-append _ _ large) ∙ sym long };
      long = long;
      are = are;
    }

-- a whole event that ends by the last place is held, and is what the head says
pub holds : (at : ℕ) (e more : List ℕ) → IsEvent e → at + length e ≤ last_place → is_held at (e ++ more) ≡ true
unfolding is_held
holds at e more is short =
    let n : length_of (e ++ more) ≡ length e = length_of-append e more is.head ∙ is.whole in
    let l : length (e ++ more) ≡ length e + length more = length-append e more in
    let head : 19 ≤ length e = is.head in
    and_from _ _ (le-leb 19 (length (e ++ more)) (omega (arith, l, head)))
    (and_from _ _ (le-leb 19 (length_of (e ++ more)) (omega (arith, n, head)))
    (and_from _ _ (le-leb (length_of (e ++ more)) (length (e ++ more)) (omega (arith, n, l))) (le-leb (at + length_of (e ++ more)) last_place (omega (arith, n, short)))))

pub head_taken : (e more : List ℕ) → IsEvent e → take (length_of (e ++ more)) (e ++ more) ≡ e
head_taken e more is = take_at e more _ (sym (length_of-append e more is.head ∙ is.whole))

pub head_dropped : (e more : List ℕ) → IsEvent e → drop (length_of (e ++ more)) (e ++ more) ≡ more
head_dropped e more is = drop_at e more _ (sym (length_of-append e more is.head ∙ is.whole))

pub joined-append : (xs ys : List (List ℕ)) → joined (xs ++ ys) ≡ joined xs ++ joined ys
joined-append [] ys = refl
joined-append (x ∷ xs) ys = ap (λ z. x ++ z) (joined-append xs ys) ∙ sym (append_assoc x (joined xs) (joined ys))

pub joined_more : (events : List Event) (e : Event) → joined (events ++ e ∷ []) ≡ joined events ++ e
joined_more events e = joined-append events (e ∷ []) ∙ ap (λ z. joined events ++ z) (append-nil e)

pub cut_more : (bytes : List ℕ) (events : List Event) (rest e more : List ℕ) → IsCut bytes events rest → rest ≡ e ++ more → IsEvent e →
    (4 + length (joined events)) + length e ≤ last_place → IsCut bytes (events ++ e ∷ []) more
cut_more bytes events rest e more c are is short = record {
  are =
      c.are ∙ ap (λ z. magic ++ (joined events ++ z)) are
      ∙ ap (λ z. magic ++ z) (sym (append_assoc (joined events) e more) ∙ ap (λ z. z ++ more) (sym (joined_more events e)));
  whole = all_more IsEvent events e c.whole is;
  short = omega (arith, ap length (joined_more events e), length-append (joined events) e, short);
}

pub length_more : (events : List Event) (e : Event) → 4 + length (joined (events ++ e ∷ [])) ≡ (4 + length (joined events)) + length e
length_more events e = omega (arith, ap length (joined_more events e), length-append (joined events) e)

-- the magic, or its front
pub magic_front : (bytes : List ℕ) → has_magic bytes ≡ true → take 4 bytes ≡ take (length bytes) magic
magic_front bytes h = same_text _ _ (sym h)
