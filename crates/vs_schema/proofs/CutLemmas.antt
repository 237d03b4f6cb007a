-- How a text is cut at the first byte of a kind.
use Rattle.std.proofs.Common.{◌≡◌, ◌≤◌, ◌<◌, ◌+◌, ℕ, Bool, true, false, List, [], ◌∷◌, length, take, drop, nat_lt, refl, ap, sym, ◌∙◌, arith}
use Rattle.std.specs.Prelude.{Some, None, cond, not}
use Rattle.std.specs.List.{after_first, before_first, onto_first, position, position_or_len, slice_split}
use Rattle.std.proofs.lemmas.Bool.{ltb-false, ltb-true}
use Rattle.std.proofs.lemmas.List.Splits.{slice_split_first, slice_split-cons_no, length-slice_split}
use Rattle.std.proofs.lemmas.List.Sums.{prefix_len-le-length}
use Rattle.vs_schema.specs.Lines.{is_empty, without_empty_end, lines_of, words_of, sole, is_line_feed, is_space}

-- no place is found where all bytes are of another kind
pub position_none : (p : ℕ → Bool) (xs : List ℕ) → position p xs ≡ None → position_or_len p xs ≡ length xs
position_none p xs h = go (nat_lt (position_or_len p xs) (length xs)) refl h
  where
    go : (b : Bool) → nat_lt (position_or_len p xs) (length xs) ≡ b → cond b (Some (position_or_len p xs)) None ≡ None → position_or_len p xs ≡ length xs
    go true e k = absurd (cc)
    go false e k = omega (arith, ltb-false (position_or_len p xs) (length xs) e, prefix_len-le-length (λ x. not (p x)) xs)

-- then there is one part
pub split_whole : (p : ℕ → Bool) (xs : List ℕ) → position_or_len p xs ≡ length xs → slice_split p xs ≡ xs ∷ []
split_whole p [] h = refl
split_whole p (x ∷ xs) h = go (p x) refl (λ k. split_whole p xs k)
  where
    go : (b : Bool) → p x ≡ b → (position_or_len p xs ≡ length xs → slice_split p xs ≡ xs ∷ []) → slice_split p (x ∷ xs) ≡ (x ∷ xs) ∷ []
    go true e rest = absurd (let k = rw e at h in omega arith)
    go false e rest = slice_split-cons_no p x xs e ∙ ap (onto_first x) (rest (let k = rw e at h in omega arith))

pub some_parts : (p : ℕ → Bool) (xs : List ℕ) → 1 ≤ length (slice_split p xs)
some_parts p xs = omega (arith, length-slice_split p xs)

-- a part comes before the others, of which the last may be empty
lines_more : (part : List ℕ) (parts : List (List ℕ)) → 1 ≤ length parts → without_empty_end (part ∷ parts) ≡ part ∷ without_empty_end parts
lines_more part [] h = absurd (omega arith)
lines_more [] (next ∷ parts) h = refl
lines_more (c ∷ cs) (next ∷ parts) h = refl

line_alone : (text : List ℕ) → 1 ≤ length text → without_empty_end (text ∷ []) ≡ text ∷ []
line_alone [] h = absurd (omega arith)
line_alone (c ∷ cs) h = refl

pub first_line : (text : List ℕ) → position_or_len is_line_feed text < length text → lines_of text ≡ before_first is_line_feed text ∷ lines_of (after_first is_line_feed text)
first_line text h = ap without_empty_end (slice_split_first is_line_feed text 0 h) ∙ lines_more (before_first is_line_feed text) _ (some_parts is_line_feed (after_first is_line_feed text))

pub last_line : (text : List ℕ) → position_or_len is_line_feed text ≡ length text → 1 ≤ length text → lines_of text ≡ text ∷ []
last_line text h some = ap without_empty_end (split_whole is_line_feed text h) ∙ line_alone text some

-- a place that is found is the first, and what stands behind it is shorter
pub position_some : (p : ℕ → Bool) (xs : List ℕ) (i : ℕ) → position p xs ≡ Some i → (position_or_len p xs < length xs) × (i ≡ position_or_len p xs)
position_some p xs i h = go (nat_lt (position_or_len p xs) (length xs)) refl h
  where
    go : (b : Bool) → nat_lt (position_or_len p xs) (length xs) ≡ b → cond b (Some (position_or_len p xs)) None ≡ Some i → (position_or_len p xs < length xs) × (i ≡ position_or_len p xs)
    go true e k = (ltb-true (position_or_len p xs) (length xs) e, cc)
    go false e k = absurd (cc)

pub next_word : (text : List ℕ) (i : ℕ) → position is_space text ≡ Some i → words_of text ≡ take i text ∷ words_of (drop (i + 1) text)
next_word text i h =
    let at = position_some is_space text i h in
    slice_split_first is_space text 0 at.0 ∙ ap (λ n. take n text ∷ words_of (drop (n + 1) text)) (sym at.1)

pub last_word : (text : List ℕ) → position is_space text ≡ None → words_of text ≡ text ∷ []
last_word text h = split_whole is_space text (position_none is_space text h)

sole_of_more : (word : List ℕ) (words : List (List ℕ)) → 1 ≤ length words → sole (word ∷ words) ≡ None
sole_of_more word [] h = absurd (omega arith)
sole_of_more word (next ∷ words) h = refl

-- a text of two words or more isn't one word
pub none_alone : (text word rest : List ℕ) → words_of text ≡ word ∷ words_of rest → sole (words_of text) ≡ None
none_alone text word rest h = ap sole h ∙ sole_of_more word (words_of rest) (some_parts is_space rest)

not_empty : (words : List (List ℕ)) → 1 ≤ length words → is_empty words ≡ false
not_empty [] h = absurd (omega arith)
not_empty (word ∷ words) h = refl

-- each text has a word, which may be empty
pub some_words : (text : List ℕ) → is_empty (words_of text) ≡ false
some_words text = not_empty (words_of text) (some_parts is_space text)
