-- How the text behind blanks and comments is found byte by byte.
use Rattle.std.proofs.Common.{◌≡◌, ◌≤◌, ◌<◌, ℕ, true, false, List, [], ◌∷◌, length, drop, get_or, refl, arith}
use Rattle.vs_binlog.specs.Words.{behind, closes_comment, is_blank, opens_comment}

pub behind-closed : (xs : List ℕ) → closes_comment xs ≡ true → behind true xs ≡ behind false (drop 2 xs)
behind-closed [] h = absurd (cc)
behind-closed (c ∷ []) h = absurd (cc)
behind-closed (c ∷ d ∷ cs) h = rw h refl

pub closes-length : (xs : List ℕ) → closes_comment xs ≡ true → 2 ≤ length xs
closes-length [] h = absurd (cc)
closes-length (c ∷ []) h = absurd (cc)
closes-length (c ∷ d ∷ cs) h = omega arith

pub behind-inside : (xs : List ℕ) → closes_comment xs ≡ false → behind true xs ≡ behind true (drop 1 xs)
behind-inside [] h = refl
behind-inside (c ∷ []) h = refl
behind-inside (c ∷ d ∷ cs) h = rw h refl

pub behind-blank : (xs : List ℕ) → 0 < length xs → is_blank (get_or xs 0 0) ≡ true → behind false xs ≡ behind false (drop 1 xs)
behind-blank [] few h = refl
behind-blank (c ∷ []) few h = rw h refl
behind-blank (c ∷ d ∷ cs) few h = rw h refl

pub opens-length : (xs : List ℕ) → opens_comment xs ≡ true → 2 ≤ length xs
opens-length [] h = absurd (cc)
opens-length (c ∷ []) h = absurd (cc)
opens-length (c ∷ d ∷ cs) h = omega arith

pub behind-opened : (xs : List ℕ) → is_blank (get_or xs 0 0) ≡ false → opens_comment xs ≡ true → behind false xs ≡ behind true (drop 2 xs)
behind-opened [] blank h = absurd (cc)
behind-opened (c ∷ []) blank h = absurd (cc)
behind-opened (c ∷ d ∷ cs) blank h = rw (blank, h) refl
