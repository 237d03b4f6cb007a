-- The first word of a text is the one that its grammar gives.
use Rattle.std.proofs.Common.{◌≡◌, ◌<◌, ◌||◌, ◌&&◌, ℕ, zero, suc, Bool, true, false, not, List, [], ◌∷◌, ◌++◌, length, drop, refl, ap, sym, subst, ◌∙◌, append_assoc, arith, length-append}
use Rattle.std.specs.Prelude.{◌⊎◌, ◌==◌, cond}
use Rattle.std.specs.List.{AllByRecursion, concat, list_all, take_while}
use Rattle.std.proofs.lemmas.Bool.{and_parts, and_from, or_parts}
use Rattle.std.proofs.lemmas.Bool.Decides.{nat_tests}
use Rattle.std.proofs.lemmas.List.Sums.{take_while-cons}
use Rattle.vs_binlog.specs.Words.{begins_with, behind, closes_comment, is_blank, is_word, opens_comment, word_in}
use Rattle.vs_binlog.specs.FirstWords.{IsComment, IsFirstWord, IsSkipped, begins_word, has_end}
use Rattle.vs_binlog.proofs.WordLemmas.{behind-blank, behind-inside, behind-opened}

-- whether an end begins here depends on two bytes alone
same_close : (c : ℕ) (inner more : List ℕ) → closes_comment (c ∷ (inner ++ 42 ∷ 47 ∷ more)) ≡ closes_comment (c ∷ (inner ++ 42 ∷ []))
same_close c [] more = refl
same_close c (d ∷ inner) more = refl

-- an inner text without an end is passed over up to the end behind it
pass_inner : (inner more : List ℕ) → has_end (inner ++ 42 ∷ []) ≡ false → behind true (inner ++ 42 ∷ 47 ∷ more) ≡ behind false more
pass_inner [] more h = refl
pass_inner (c ∷ inner) more h =
    let parts = or_parts (closes_comment (c ∷ (inner ++ 42 ∷ []))) (has_end (inner ++ 42 ∷ [])) h in
    behind-inside (c ∷ (inner ++ 42 ∷ 47 ∷ more)) (same_close c inner more ∙ parts.0) ∙ pass_inner inner more parts.1

opens : (inner more : List ℕ) → begins_with 33 inner ≡ false → opens_comment (47 ∷ 42 ∷ (inner ++ 42 ∷ 47 ∷ more)) ≡ true
opens [] more h = refl
opens (c ∷ inner) more h = rw h refl

-- a comment and what follows it
comment_front : (inner more : List ℕ) → (47 ∷ 42 ∷ (inner ++ 42 ∷ 47 ∷ [])) ++ more ≡ 47 ∷ 42 ∷ (inner ++ 42 ∷ 47 ∷ more)
comment_front inner more = ap (λ z. 47 ∷ 42 ∷ z) (append_assoc inner (42 ∷ 47 ∷ []) more)

pass_skipped : (part more : List ℕ) → IsSkipped part → behind false (part ++ more) ≡ behind false more
pass_skipped part more (◌⊎◌.inl b) = ap (λ z. behind false (z ++ more)) b.are ∙ behind-blank (b.byte ∷ more) (omega arith) b.blank
pass_skipped part more (◌⊎◌.inr c) =
    ap (λ z. behind false (z ++ more)) c.are ∙ ap (behind false) (comment_front c.inner more)
    ∙ behind-opened (47 ∷ 42 ∷ (c.inner ++ 42 ∷ 47 ∷ more)) refl (opens c.inner more c.plain) ∙ pass_inner c.inner more c.first

pass_all : (skipped : List (List ℕ)) (more : List ℕ) → AllByRecursion IsSkipped skipped → behind false (concat skipped ++ more) ≡ behind false more
pass_all [] more all = refl
pass_all (part ∷ skipped) more all =
    ap (behind false) (append_assoc part (concat skipped) more) ∙ pass_skipped part (concat skipped ++ more) all.0 ∙ pass_all skipped more all.1

record IsSplit (text : List ℕ) : Type 0 where
  inner : List ℕ
  more : List ℕ
  are : text ≡ inner ++ 42 ∷ 47 ∷ more
  first : has_end (inner ++ 42 ∷ []) ≡ false

closed_front : (c : ℕ) (cs : List ℕ) → closes_comment (c ∷ cs) ≡ true → c ∷ cs ≡ 42 ∷ 47 ∷ drop 1 cs
closed_front c [] h = absurd (cc)
closed_front c (d ∷ ds) h =
    let parts = and_parts (c == 42) (d == 47) h in
    let first : c ≡ 42 = equal c 42 parts.0 in
    let second : d ≡ 47 = equal d 47 parts.1 in
    rw (first, second) refl
  where
    equal : (m n : ℕ) → (m == n) ≡ true → m ≡ n
    equal m n e = grind (arith, nat_tests)

-- a text with an end has a first one
split_at_end : (text : List ℕ) → has_end text ≡ true → IsSplit text
split_at_end [] h = absurd (cc)
split_at_end (c ∷ cs) h = go (closes_comment (c ∷ cs)) refl h (split_at_end cs)
  where
    go : (b : Bool) → closes_comment (c ∷ cs) ≡ b → (b || has_end cs) ≡ true → (has_end cs ≡ true → IsSplit cs) → IsSplit (c ∷ cs)
    go true e k rest = record { inner = []; more = drop 1 cs; are = closed_front c cs e; first = refl }
    go false e k rest =
        let s = rest k in
        let here : closes_comment (c ∷ (s.inner ++ 42 ∷ [])) ≡ false = sym (same_close c s.inner s.more) ∙ ap (λ z. closes_comment (c ∷ z)) (sym s.are) ∙ e in
        record { inner = c ∷ s.inner; more = s.more; are = ap (λ z. c ∷ z) s.are; first = rw here s.first }

-- without an end all is passed over
no_end : (text : List ℕ) → has_end text ≡ false → behind true text ≡ []
no_end [] h = refl
no_end (c ∷ cs) h =
    let parts = or_parts (closes_comment (c ∷ cs)) (has_end cs) h in
    behind-inside (c ∷ cs) parts.0 ∙ no_end cs parts.1

has_end_there : (inner more : List ℕ) → has_end (inner ++ 42 ∷ 47 ∷ more) ≡ true
has_end_there [] more = refl
has_end_there (c ∷ inner) more = go (closes_comment (c ∷ (inner ++ 42 ∷ 47 ∷ more))) (has_end_there inner more)
  where
    go : (b : Bool) → has_end (inner ++ 42 ∷ 47 ∷ more) ≡ true → (b || has_end (inner ++ 42 ∷ 47 ∷ more)) ≡ true
    go true h = refl
    go false h = h

-- what neither a blank nor a comment begins, stays
stays : (c : ℕ) (cs : List ℕ) → is_blank c ≡ false → opens_comment (c ∷ cs) ≡ false → behind false (c ∷ cs) ≡ c ∷ cs
stays c [] blank opened = rw blank refl
stays c (d ∷ ds) blank opened = rw (blank, opened) refl

-- a word's letters are those in front
all_taken : (word rest : List ℕ) → list_all is_word word ≡ true → begins_word rest ≡ false → take_while is_word (word ++ rest) ≡ word
all_taken [] [] letters ends = refl
all_taken [] (c ∷ cs) letters ends = take_while-cons is_word c cs ∙ rw ends refl
all_taken (c ∷ word) rest letters ends =
    let parts = and_parts (is_word c) (list_all is_word word) letters in
    take_while-cons is_word c (word ++ rest) ∙ ap (λ b. cond b (c ∷ take_while is_word (word ++ rest)) []) parts.0 ∙ ap (λ z. c ∷ z) (all_taken word rest parts.1 ends)

open_front : (c : ℕ) (cs : List ℕ) → opens_comment (c ∷ cs) ≡ true → (c ∷ cs ≡ 47 ∷ 42 ∷ drop 1 cs) × (begins_with 33 (drop 1 cs) ≡ false)
open_front c [] h = absurd (cc)
open_front c (d ∷ ds) h =
    let parts = and_parts (c == 47) (d == 42 && not (begins_with 33 ds)) h in
    let rest = and_parts (d == 42) (not (begins_with 33 ds)) parts.1 in
    let first : c ≡ 47 = equal c 47 parts.0 in
    let second : d ≡ 42 = equal d 42 rest.0 in
    (rw (first, second) refl, untrue (begins_with 33 ds) rest.1)
  where
    equal : (m n : ℕ) → (m == n) ≡ true → m ≡ n
    equal m n e = grind (arith, nat_tests)

    untrue : (b : Bool) → not b ≡ true → b ≡ false
    untrue true k = absurd (cc)
    untrue false k = refl

plain_front : (inner more : List ℕ) → begins_with 33 (inner ++ 42 ∷ more) ≡ false → begins_with 33 inner ≡ false
plain_front [] more h = refl
plain_front (c ∷ inner) more h = h

-- a comment, and what follows it
record IsCommented (text : List ℕ) : Type 0 where
  part : List ℕ
  more : List ℕ
  are : text ≡ part ++ more
  comment : IsComment part
  longer : length more < length text

commented : (c : ℕ) (cs : List ℕ) → opens_comment (c ∷ cs) ≡ true → has_end (drop 1 cs) ≡ true → IsCommented (c ∷ cs)
commented c cs o h =
    let front = open_front c cs o in
    let s = split_at_end (drop 1 cs) h in
    let are : c ∷ cs ≡ 47 ∷ 42 ∷ (s.inner ++ 42 ∷ 47 ∷ s.more) = front.0 ∙ ap (λ z. 47 ∷ 42 ∷ z) s.are in
    record {
      part = 47 ∷ 42 ∷ (s.inner ++ 42 ∷ 47 ∷ []);
      more = s.more;
      are = are ∙ sym (comment_front s.inner s.more);
      comment = record { inner = s.inner; are = refl; plain = plain_front s.inner (47 ∷ s.more) (ap (begins_with 33) (sym s.are) ∙ front.1); first = s.first };
      longer = omega (arith, ap length are, length-append s.inner (42 ∷ 47 ∷ s.more));
    }

-- a comment that isn't closed has no word behind it
unclosed : (c : ℕ) (cs : List ℕ) → opens_comment (c ∷ cs) ≡ true → is_blank c ≡ false → has_end (drop 1 cs) ≡ false → behind false (c ∷ cs) ≡ []
unclosed c cs o b h = behind-opened (c ∷ cs) b o ∙ no_end (drop 1 cs) h

-- nothing that is skipped stands in front of the text
abbrev HasNone : List ℕ → Type 0
HasNone text = (part more : List ℕ) → IsSkipped part → text ≡ part ++ more → ⊥

no_part : HasNone []
no_part part more (◌⊎◌.inl b) q = let k : [] ≡ (b.byte ∷ []) ++ more = q ∙ ap (λ z. z ++ more) b.are in absurd (cc)
no_part part more (◌⊎◌.inr c) q = let k : [] ≡ (47 ∷ 42 ∷ (c.inner ++ 42 ∷ 47 ∷ [])) ++ more = q ∙ ap (λ z. z ++ more) c.are in absurd (cc)

none_of : (c : ℕ) (cs : List ℕ) → is_blank c ≡ false → ((inner more : List ℕ) → begins_with 33 inner ≡ false → c ∷ cs ≡ 47 ∷ 42 ∷ (inner ++ 42 ∷ 47 ∷ more) → ⊥) → HasNone (c ∷ cs)
none_of c cs blank comments part more (◌⊎◌.inl b) q =
    let k : c ∷ cs ≡ b.byte ∷ more = q ∙ ap (λ z. z ++ more) b.are in
    let same : c ≡ b.byte = cc in
    let both : true ≡ false = sym b.blank ∙ ap is_blank (sym same) ∙ blank in
    absurd (cc)
none_of c cs blank comments part more (◌⊎◌.inr k) q = comments k.inner more k.plain (q ∙ ap (λ z. z ++ more) k.are ∙ comment_front k.inner more)

no_word : (c : ℕ) (cs word rest : List ℕ) → c ∷ cs ≡ word ++ rest → is_word c ≡ false → list_all is_word word ≡ true → word ≡ []
no_word c cs [] rest is other letters = refl
no_word c cs (w ∷ word) rest is other letters =
    let same : c ≡ w = cc in
    let parts = and_parts (is_word w) (list_all is_word word) letters in
    let both : true ≡ false = sym parts.0 ∙ ap is_word (sym same) ∙ other in
    absurd (cc)

empty_front : (word rest : List ℕ) → [] ≡ word ++ rest → word ≡ []
empty_front [] rest h = refl
empty_front (w ∷ word) rest h = absurd (cc)

-- where nothing is skipped any more, the word stands in front
found : (text word rest : List ℕ) → text ≡ word ++ rest → list_all is_word word ≡ true → begins_word rest ≡ false → HasNone text → word_in text ≡ word
found [] word rest is letters ends none = sym (empty_front word rest is)
found (c ∷ cs) word rest is letters ends none = go (is_blank c) refl (opens_comment (c ∷ cs)) refl
  where
    closed : opens_comment (c ∷ cs) ≡ true → is_blank c ≡ false → (e : Bool) → has_end (drop 1 cs) ≡ e → word_in (c ∷ cs) ≡ word
    closed o blank true h = let k = commented c cs o h in absurd (none k.part k.more (◌⊎◌.inr k.comment) k.are)
    closed o blank false h =
        let slash : c ≡ 47 = (let f = (open_front c cs o).0 in cc) in
        ap (take_while is_word) (unclosed c cs o blank h) ∙ sym (no_word c cs word rest is (ap is_word slash) letters)

    go : (b : Bool) → is_blank c ≡ b → (o : Bool) → opens_comment (c ∷ cs) ≡ o → word_in (c ∷ cs) ≡ word
    go true blank o opened = absurd (none (c ∷ []) cs (◌⊎◌.inl (record { byte = c; are = refl; blank = blank })) refl)
    go false blank true opened = closed opened blank (has_end (drop 1 cs)) refl
    go false blank false opened = ap (take_while is_word) (stays c cs blank opened ∙ is) ∙ all_taken word rest letters ends

pub only : (text word : List ℕ) → IsFirstWord text word → word ≡ word_in text
only text word f =
    sym (ap (take_while is_word) (ap (behind false) f.are ∙ pass_all f.skipped (word ++ f.rest) f.each)
    ∙ found (word ++ f.rest) word f.rest refl f.letters f.ends f.none_left)

in_front : (part more : List ℕ) → IsSkipped part → IsFirstWord more (word_in more) → IsFirstWord (part ++ more) (word_in (part ++ more))
in_front part more s f = subst (IsFirstWord (part ++ more)) (ap (take_while is_word) (sym (pass_skipped part more s))) (record {
  skipped = part ∷ f.skipped;
  rest = f.rest;
  are = ap (λ z. part ++ z) f.are ∙ sym (append_assoc part (concat f.skipped) (word_in more ++ f.rest));
  each = (s, f.each);
  letters = f.letters;
  ends = f.ends;
  none_left = f.none_left;
})

record IsTaken (text : List ℕ) : Type 0 where
  rest : List ℕ
  are : text ≡ take_while is_word text ++ rest
  letters : list_all is_word (take_while is_word text) ≡ true
  ends : begins_word rest ≡ false

taken : (text : List ℕ) → IsTaken text
taken [] = record { rest = []; are = refl; letters = refl; ends = refl }
taken (c ∷ cs) = go (is_word c) refl (taken cs)
  where
    go : (b : Bool) → is_word c ≡ b → IsTaken cs → IsTaken (c ∷ cs)
    go true e t =
        let is : take_while is_word (c ∷ cs) ≡ c ∷ take_while is_word cs = take_while-cons is_word c cs ∙ ap (λ b. cond b (c ∷ take_while is_word cs) []) e in
        record { rest = t.rest; are = ap (λ z. c ∷ z) t.are ∙ ap (λ z. z ++ t.rest) (sym is); letters = ap (list_all is_word) is ∙ and_from _ _ e t.letters; ends = t.ends }
    go false e t =
        let is : take_while is_word (c ∷ cs) ≡ [] = take_while-cons is_word c cs ∙ ap (λ b. cond b (c ∷ take_while is_word cs) []) e in
        record { rest = c ∷ cs; are = ap (λ z. z ++ c ∷ cs) (sym is); letters = ap (list_all is_word) is; ends = e }

-- a text in front of which nothing is skipped
bare : (c : ℕ) (cs : List ℕ) → is_blank c ≡ false → opens_comment (c ∷ cs) ≡ false → IsFirstWord (c ∷ cs) (word_in (c ∷ cs))
bare c cs blank opened =
    let t = taken (c ∷ cs) in
    let none : HasNone (c ∷ cs) = none_of c cs blank (λ inner more plain q. absurd (let k : true ≡ false = sym (opens inner more plain) ∙ ap opens_comment (sym q) ∙ opened in cc)) in
    subst (IsFirstWord (c ∷ cs)) (ap (take_while is_word) (sym (stays c cs blank opened))) (record {
      skipped = [];
      rest = t.rest;
      are = t.are;
      each = tt;
      letters = t.letters;
      ends = t.ends;
      none_left = λ part more s q. none part more s (t.are ∙ q);
    })

-- a text that begins with a comment that isn't closed
left_open : (c : ℕ) (cs : List ℕ) → is_blank c ≡ false → opens_comment (c ∷ cs) ≡ true → has_end (drop 1 cs) ≡ false → IsFirstWord (c ∷ cs) (word_in (c ∷ cs))
left_open c cs blank opened h =
    let slash : c ≡ 47 = (let f = (open_front c cs opened).0 in cc) in
    let none : HasNone (c ∷ cs) = none_of c cs blank (λ inner more plain q. absurd (let k : true ≡ false = sym (has_end_there inner more) ∙ ap (λ z. has_end (drop 2 z)) (sym q) ∙ h in cc)) in
    subst (IsFirstWord (c ∷ cs)) (ap (take_while is_word) (sym (unclosed c cs opened blank h))) (record {
      skipped = [];
      rest = c ∷ cs;
      are = refl;
      each = tt;
      letters = refl;
      ends = ap is_word slash;
      none_left = none;
    })

exists : (n : ℕ) (text : List ℕ) → length text < n → IsFirstWord text (word_in text)
exists zero text h = absurd (omega arith)
exists (suc n) [] h = record { skipped = []; rest = []; are = refl; each = tt; letters = refl; ends = refl; none_left = no_part }
exists (suc n) (c ∷ cs) h = go (is_blank c) refl (opens_comment (c ∷ cs)) refl (λ more shorter. exists n more shorter)
  where
    closed : opens_comment (c ∷ cs) ≡ true → is_blank c ≡ false → (e : Bool) → has_end (drop 1 cs) ≡ e → ((more : List ℕ) → length more < n → IsFirstWord more (word_in more)) → IsFirstWord (c ∷ cs) (word_in (c ∷ cs))
    closed o blank true k rest =
        let s = commented c cs o k in
        subst (λ z. IsFirstWord z (word_in z)) (sym s.are) (in_front s.part s.more (◌⊎◌.inr s.comment) (rest s.more (omega (arith, s.longer))))
    closed o blank false k rest = left_open c cs blank o k

    go : (b : Bool) → is_blank c ≡ b → (o : Bool) → opens_comment (c ∷ cs) ≡ o → ((more : List ℕ) → length more < n → IsFirstWord more (word_in more)) → IsFirstWord (c ∷ cs) (word_in (c ∷ cs))
    go true blank o opened rest = in_front (c ∷ []) cs (◌⊎◌.inl (record { byte = c; are = refl; blank = blank })) (rest cs (omega arith))
    go false blank true opened rest = closed opened blank (has_end (drop 1 cs)) refl rest
    go false blank false opened rest = bare c cs blank opened

pub each_has_one : (text : List ℕ) → IsFirstWord text (word_in text)
each_has_one text = exists (suc (length text)) text (omega arith)
