-- What stands at the front of the bytes, and what is recorded from there on.
use Rattle.std.proofs.Common.{◌≡◌, ℕ, zero, suc, ◌+◌, ◌<◌, ◌≤◌, ◌^◌, ◌∙◌, List, [], ◌∷◌, ◌++◌, Ok, Err, length, take, drop, refl, ap, sym, arith, append_assoc, length-append, length-drop, inl, inr}
use Rattle.std.specs.Prelude.{Bool, true, false, ◌==◌, nat_lt, if◌then◌else◌}
use Rattle.std.specs.Int.{w32, to_be_bytes, from_be_bytes}
use Rattle.std.proofs.lemmas.Bool.{lt-ltb, le-ltb, ne_eqb, eqb-false, cond-false, cond-true}
use Rattle.std.proofs.lemmas.Nat.{from_be_bytes-to_be_bytes_4}
use Rattle.std.proofs.Math.Seq.{take-append_seam, drop-append_seam}
use Rattle.vs_frame.specs.Frames.{BeginsWithFrame, IsPart, IsTooLong}
use Rattle.vs_frame.specs.declared.refusal.FrameWhy.TheVariants.{Cut, TooLong, Message}
use Rattle.vs_proto.specs.Shapes.{read}
use Rattle.vs_proto.specs.Tables.{response}
use Rattle.vs_proto.specs.declared.event.VStreamResponse.{VStreamResponse}
use Rattle.vs_proto.specs.declared.refusal.Fault.{Fault}
use Rattle.vs_show.specs.Lines.{frame_lines}
use Rattle.vs_show.specs.Recordings.{Front, nothing, part, too_long, whole, bad_at, ended, front, front_behind, recorded_at, recorded_from, recorded_in, recorded_read, with_lines}

-- ---- the front

front-short : (bytes : List ℕ) → 0 < length bytes → length bytes < 4 → front bytes ≡ part
unfolding front
front-short bytes some short =
    cond-false (length bytes == 0) nothing (if nat_lt (length bytes) 4 then part else front_behind (from_be_bytes w32 (take 4 bytes)) (drop 4 bytes)) (ne_eqb (length bytes) 0 (omega arith))
    ∙ cond-true (nat_lt (length bytes) 4) part (front_behind (from_be_bytes w32 (take 4 bytes)) (drop 4 bytes)) (lt-ltb (length bytes) 4 short)

front-long : (bytes : List ℕ) → 4 ≤ length bytes → front bytes ≡ front_behind (from_be_bytes w32 (take 4 bytes)) (drop 4 bytes)
unfolding front
front-long bytes long =
    cond-false (length bytes == 0) nothing (if nat_lt (length bytes) 4 then part else front_behind (from_be_bytes w32 (take 4 bytes)) (drop 4 bytes)) (ne_eqb (length bytes) 0 (omega arith))
    ∙ cond-false (nat_lt (length bytes) 4) part (front_behind (from_be_bytes w32 (take 4 bytes)) (drop 4 bytes)) (le-ltb (length bytes) 4 long)

-- behind the four bytes of a length
front-head : (bytes rest : List ℕ) (n : ℕ) → bytes ≡ to_be_bytes w32 n ++ rest → n < 2 ^ 32 → front bytes ≡ front_behind n rest
front-head bytes rest n is fits =
    let long : 4 ≤ length bytes = omega (arith, ap length is, length-append (to_be_bytes w32 n) rest) in
    front-long bytes long
    ∙ ap (λ b. front_behind (from_be_bytes w32 (take 4 b)) (drop 4 b)) is
    ∙ ap (λ k. front_behind k rest) (from_be_bytes-to_be_bytes_4 n fits)

pub front-too_long : (bytes : List ℕ) (n : ℕ) → IsTooLong bytes n → front bytes ≡ too_long
front-too_long bytes n is =
    let fits = is.1 in
    let rest = is.2 in
    front-head bytes rest.0 n rest.1 fits
    ∙ cond-true (nat_lt 16777216 n) too_long (if nat_lt (length rest.0) n then part else whole (take n rest.0) (drop n rest.0)) (lt-ltb 16777216 n is.0)

within-limit : (n : ℕ) (rest : List ℕ) → n ≤ 16777216 → front_behind n rest ≡ (if nat_lt (length rest) n then part else whole (take n rest) (drop n rest))
within-limit n rest within = cond-false (nat_lt 16777216 n) too_long (if nat_lt (length rest) n then part else whole (take n rest) (drop n rest)) (le-ltb 16777216 n within)

pub front-part : (bytes : List ℕ) → IsPart bytes → 0 < length bytes → front bytes ≡ part
front-part bytes (inl short) some = front-short bytes some short
front-part bytes (inr h) some =
    let within = h.3 in
    let less = h.4 in
    front-head bytes h.1 h.0 h.2 (omega (arith, within))
    ∙ within-limit h.0 h.1 within
    ∙ cond-true (nat_lt (length h.1) h.0) part (whole (take h.0 h.1) (drop h.0 h.1)) (lt-ltb (length h.1) h.0 less)

pub front-begins : (bytes m rest : List ℕ) → BeginsWithFrame bytes m rest → front bytes ≡ whole m rest
front-begins bytes m rest is =
    let within = is.1 in
    let n : ℕ = length m in
    front-head bytes (m ++ rest) n (is.0 ∙ append_assoc (to_be_bytes w32 n) m rest) (omega (arith, within))
    ∙ within-limit n (m ++ rest) within
    ∙ cond-false (nat_lt (length (m ++ rest)) n) part (whole (take n (m ++ rest)) (drop n (m ++ rest))) (le-ltb (length (m ++ rest)) n (omega (arith, length-append m rest)))
    ∙ ap (λ t. whole t (drop n (m ++ rest))) (take-append_seam m rest)
    ∙ ap (λ t. whole m t) (drop-append_seam m rest)

-- behind a whole frame there is less
behind-shorter : (a b c d : Bool) (x y m rest bytes : List ℕ) (k j : ℕ) → (a ≡ false → 0 < length bytes) → y ≡ drop k (drop j bytes) → 0 < j →
    (if a then nothing else (if b then part else (if c then too_long else (if d then part else whole x y)))) ≡ whole m rest → length rest < length bytes
behind-shorter true b c d x y m rest bytes k j some is far e = absurd (cc)
behind-shorter false true c d x y m rest bytes k j some is far e = absurd (cc)
behind-shorter false false true d x y m rest bytes k j some is far e = absurd (cc)
behind-shorter false false false true x y m rest bytes k j some is far e = absurd (cc)
behind-shorter false false false false x y m rest bytes k j some is far e =
    let same : rest ≡ drop k (drop j bytes) = let back : y ≡ rest = cc in sym back ∙ is in
    let more = some refl in
    omega (arith, ap length same, length-drop k (drop j bytes), length-drop j bytes, more)

front-shorter : (bytes m rest : List ℕ) → front bytes ≡ whole m rest → length rest < length bytes
unfolding front
front-shorter bytes m rest e =
    let n : ℕ = from_be_bytes w32 (take 4 bytes) in
    behind-shorter (length bytes == 0) (nat_lt (length bytes) 4) (nat_lt 16777216 n) (nat_lt (length (drop 4 bytes)) n) (take n (drop 4 bytes)) (drop n (drop 4 bytes)) m rest bytes n 4
    (λ h. let other = eqb-false (length bytes) 0 h in omega (arith, other)) refl (omega arith) e

front-nothing : (bytes : List ℕ) → length bytes ≤ 0 → front bytes ≡ nothing
unfolding front
front-nothing [] none = refl
front-nothing (b ∷ bs) none = absurd (omega arith)

-- ---- what is recorded

-- any number from that of the bytes on is enough
enough : (k j n : ℕ) (bytes : List ℕ) → length bytes ≤ k → length bytes ≤ j → recorded_in k n bytes ≡ recorded_in j n bytes
unfolding recorded_in
enough zero zero n bytes h i = refl
enough zero (suc j) n bytes h i = ap (λ f. recorded_at n f (recorded_in j (n + 1))) (sym (front-nothing bytes h))
enough (suc k) zero n bytes h i = ap (λ f. recorded_at n f (recorded_in k (n + 1))) (front-nothing bytes i)
enough (suc k) (suc j) n bytes h i = go (front bytes) refl (λ rest less. enough k j (n + 1) rest (omega arith) (omega arith))
  where
    go : (f : Front) → front bytes ≡ f → ((rest : List ℕ) → length rest < length bytes → recorded_in k (n + 1) rest ≡ recorded_in j (n + 1) rest) →
        recorded_at n f (recorded_in k (n + 1)) ≡ recorded_at n f (recorded_in j (n + 1))
    go nothing e same = refl
    go part e same = refl
    go too_long e same = refl
    go (whole m rest) e same = ap (λ r. recorded_read n (read (response true) m) r) (same rest (front-shorter bytes m rest e))

-- one step: the frame at the front, and what is recorded behind it
pub recorded-step : (n : ℕ) (bytes : List ℕ) → recorded_from n bytes ≡ recorded_at n (front bytes) (λ rest. recorded_from (n + 1) rest)
unfolding recorded_in
recorded-step n bytes = enough (length bytes) (suc (length bytes)) n bytes (omega arith) (omega arith) ∙ go (front bytes) refl
  where
    go : (f : Front) → front bytes ≡ f → recorded_at n f (recorded_in (length bytes) (n + 1)) ≡ recorded_at n f (λ rest. recorded_from (n + 1) rest)
    go nothing e = refl
    go part e = refl
    go too_long e = refl
    go (whole m rest) e =
        let less = front-shorter bytes m rest e in
        ap (λ r. recorded_read n (read (response true) m) r) (enough (length bytes) (length rest) (n + 1) rest (omega (arith, less)) (omega arith))

stepped : (n : ℕ) (bytes : List ℕ) (f : Front) → front bytes ≡ f → recorded_from n bytes ≡ recorded_at n f (λ rest. recorded_from (n + 1) rest)
stepped n bytes f e = recorded-step n bytes ∙ ap (λ g. recorded_at n g (λ rest. recorded_from (n + 1) rest)) e

pub recorded-nothing : (n : ℕ) → recorded_from n [] ≡ ended
recorded-nothing n = stepped n [] nothing (front-nothing [] (omega arith))

pub recorded-part : (n : ℕ) (bytes : List ℕ) → IsPart bytes → 0 < length bytes → recorded_from n bytes ≡ bad_at n Cut
recorded-part n bytes is some = stepped n bytes part (front-part bytes is some)

pub recorded-too_long : (n : ℕ) (bytes : List ℕ) (k : ℕ) → IsTooLong bytes k → recorded_from n bytes ≡ bad_at n TooLong
recorded-too_long n bytes k is = stepped n bytes too_long (front-too_long bytes k is)

pub recorded-whole : (n : ℕ) (bytes m rest : List ℕ) (f : VStreamResponse) → BeginsWithFrame bytes m rest → read (response true) m ≡ Ok f →
    recorded_from n bytes ≡ with_lines (frame_lines n f) (recorded_from (n + 1) rest)
recorded-whole n bytes m rest f is e =
    stepped n bytes (whole m rest) (front-begins bytes m rest is) ∙ ap (λ r. recorded_read n r (recorded_from (n + 1) rest)) e

pub recorded-unreadable : (n : ℕ) (bytes m rest : List ℕ) (fault : ℕ × Fault) → BeginsWithFrame bytes m rest → read (response true) m ≡ Err fault →
    recorded_from n bytes ≡ bad_at n Message
recorded-unreadable n bytes m rest fault is e =
    stepped n bytes (whole m rest) (front-begins bytes m rest is) ∙ ap (λ r. recorded_read n r (recorded_from (n + 1) rest)) e
