-- Bytes are one recording, and what is computed of them is what it says.
use Rattle.std.proofs.Common.{◌≡◌, lit<, ℕ, zero, suc, ◌+◌, ◌<◌, ◌≤◌, ◌^◌, ◌∙◌, List, [], ◌∷◌, ◌++◌, Option, Some, None, Ok, Err, length, take, drop, get_or, refl, ap, sym, subst, arith, append_assoc, length-append, length-drop, length-take, inl, inr}
use Rattle.std.specs.Prelude.{All, true, ◌==◌, nat_lt, if◌then◌else◌, Result}
use Rattle.std.specs.Int.{w32, to_be_bytes, from_be_bytes}
use Rattle.std.proofs.lemmas.Bool.{ltb-true, ltb-false, eqb-true, eqb-false, cond_both}
use Rattle.std.proofs.lemmas.List.Elements.{All-head, All-tail, All-cons, All-nil, All-drop}
use Rattle.std.proofs.Math.Seq.{drop-append_seam}
use Rattle.std.proofs.lemmas.List.{take-append-drop}
use Rattle.vs_base.specs.Frames.{framed}
use Rattle.vs_frame.specs.Frames.{BeginsWithFrame, IsGiven, IsPart, IsTooLong, IsWithinLimit, frames_bytes}
use Rattle.vs_frame.proofs.FrameLemmas.{head_is}
use Rattle.vs_frame.specs.declared.refusal.FrameWhy.{FrameWhy}
use Rattle.vs_frame.specs.declared.refusal.FrameWhy.TheVariants.{Cut, TooLong, Message}
use Rattle.vs_proto.specs.Shapes.{read}
use Rattle.vs_proto.specs.Tables.{response}
use Rattle.vs_proto.specs.declared.event.VStreamResponse.{VStreamResponse}
use Rattle.vs_proto.specs.declared.refusal.Fault.{Fault}
use Rattle.vs_show.specs.Lines.{frame_lines}
use Rattle.vs_show.specs.Recordings.{AreRead, EndsIn, Front, IsRecording, nothing, part, too_long, whole, Recorded, bad_frame, front, front_behind, frames_lines, lines, placed_behind, recorded_from, with_lines}
use Rattle.vs_show.proofs.RecordingLemmas.{recorded-nothing, recorded-part, recorded-too_long, recorded-unreadable, recorded-whole}

-- ---- what is computed of a recording

abbrev says : ℕ → List VStreamResponse → Option FrameWhy → Recorded
says n frames why = record { lines = frames_lines n frames; bad = placed_behind (n + length frames) why }

says-end : (n : ℕ) (rest : List ℕ) (why : Option FrameWhy) → EndsIn rest why → recorded_from n rest ≡ record { lines = []; bad = placed_behind n why }
says-end n rest None ends = ap (λ b. recorded_from n b) ends ∙ recorded-nothing n
says-end n rest (Some Cut) ends = recorded-part n rest ends.1 ends.0
says-end n rest (Some TooLong) ends = recorded-too_long n rest ends.0 ends.1
says-end n rest (Some Message) ends = recorded-unreadable n rest ends.0 ends.1 ends.2 ends.3 ends.4

first-begins : (bytes m rest : List ℕ) (ms : List (List ℕ)) → IsGiven bytes (m ∷ ms) rest → BeginsWithFrame bytes m (frames_bytes ms ++ rest)
first-begins bytes m rest ms is = (is.0 ∙ append_assoc (framed m) (frames_bytes ms) rest, All-head IsWithinLimit m ms is.1)

says-all : (n : ℕ) (bytes rest : List ℕ) (ms : List (List ℕ)) (frames : List VStreamResponse) (why : Option FrameWhy) →
    IsGiven bytes ms rest → AreRead ms frames → EndsIn rest why → recorded_from n bytes ≡ says n frames why
says-all n bytes rest [] [] why is all ends =
    let place : n + 0 ≡ n = omega arith in
    ap (λ b. recorded_from n b) is.0 ∙ says-end n rest why ends ∙ ap (λ k. record { lines = []; bad = placed_behind k why }) (sym place)
says-all n bytes rest [] (f ∷ fs) why is all ends = absurd all
says-all n bytes rest (m ∷ ms) [] why is all ends = absurd all
says-all n bytes rest (m ∷ ms) (f ∷ fs) why is all ends =
    let more : recorded_from (n + 1) (frames_bytes ms ++ rest) ≡ says (n + 1) fs why = says-all (n + 1) (frames_bytes ms ++ rest) rest ms fs why (refl, All-tail IsWithinLimit m ms is.1) all.1 ends in
    let place : n + 1 + length fs ≡ n + suc (length fs) = omega arith in
    recorded-whole n bytes m (frames_bytes ms ++ rest) f (first-begins bytes m rest ms is) all.0
    ∙ ap (λ r. with_lines (frame_lines n f) r) more
    ∙ ap (λ k. record { lines = frames_lines n (f ∷ fs); bad = placed_behind k why }) place

says-recording : (bytes : List ℕ) (frames : List VStreamResponse) (why : Option FrameWhy) → IsRecording bytes frames why → recorded_from 1 bytes ≡ says 1 frames why
says-recording bytes frames why is = says-all 1 bytes is.rest is.messages frames why is.given is.read is.ends

pub recording-lines : (bytes : List ℕ) (frames : List VStreamResponse) (why : Option FrameWhy) → IsRecording bytes frames why → lines bytes ≡ frames_lines 1 frames
recording-lines bytes frames why is = ap (λ (r : Recorded). r.lines) (says-recording bytes frames why is)

pub recording-bad : (bytes : List ℕ) (frames : List VStreamResponse) (why : Option FrameWhy) → IsRecording bytes frames why → bad_frame bytes ≡ placed_behind (length frames + 1) why
recording-bad bytes frames why is =
    let place : 1 + length frames ≡ length frames + 1 = omega arith in
    ap (λ (r : Recorded). r.bad) (says-recording bytes frames why is) ∙ ap (λ k. placed_behind k why) place

-- ---- bytes are a recording

abbrev AreBytes : List ℕ → Type 0
AreBytes bytes = All (λ b. b < 256) bytes

byte-at : (bytes : List ℕ) → AreBytes bytes → (i : ℕ) → get_or bytes i 0 < 256
byte-at [] are i = lit< tt
byte-at (b ∷ bs) are zero = All-head (λ b. b < 256) b bs are
byte-at (b ∷ bs) are (suc i) = byte-at bs (All-tail (λ b. b < 256) b bs are) i

four-small : (a b c d : ℕ) → a < 256 → b < 256 → c < 256 → d < 256 → from_be_bytes w32 (a ∷ b ∷ c ∷ d ∷ []) < 2 ^ 32
four-small a b c d h i j k = omega arith

length-small : (bytes : List ℕ) → 4 ≤ length bytes → AreBytes bytes → from_be_bytes w32 (take 4 bytes) < 2 ^ 32
length-small [] long are = absurd (omega arith)
length-small (a ∷ []) long are = absurd (omega arith)
length-small (a ∷ b ∷ []) long are = absurd (omega arith)
length-small (a ∷ b ∷ c ∷ []) long are = absurd (omega arith)
length-small (a ∷ b ∷ c ∷ d ∷ rest) long are =
    let bytes : List ℕ = a ∷ b ∷ c ∷ d ∷ rest in
    four-small a b c d (byte-at bytes are 0) (byte-at bytes are 1) (byte-at bytes are 2) (byte-at bytes are 3)

-- what the front says of the bytes
abbrev IsAtFront : List ℕ → Front → Type 0
IsAtFront bytes nothing = bytes ≡ []
IsAtFront bytes part = (0 < length bytes) × IsPart bytes
IsAtFront bytes too_long = (n : ℕ) × IsTooLong bytes n
IsAtFront bytes (whole m rest) = BeginsWithFrame bytes m rest

none-left : (bytes : List ℕ) → length bytes ≡ 0 → bytes ≡ []
none-left [] e = refl
none-left (b ∷ bs) e = absurd (omega arith)

begins-at : (bytes rest : List ℕ) (n : ℕ) → bytes ≡ to_be_bytes w32 n ++ rest → n ≤ 16777216 → n ≤ length rest → BeginsWithFrame bytes (take n rest) (drop n rest)
begins-at bytes rest n e within long =
    let size : length (take n rest) ≡ n = length-take n rest ∙ omega arith in (
      e ∙ ap (λ r. to_be_bytes w32 n ++ r) (sym (take-append-drop n rest)) ∙ ap (λ k. to_be_bytes w32 k ++ (take n rest ++ drop n rest)) (sym size)
          ∙ sym (append_assoc (to_be_bytes w32 (length (take n rest))) (take n rest) (drop n rest)),
      omega arith,
    )

behind-is : (bytes : List ℕ) → 4 ≤ length bytes → AreBytes bytes → IsAtFront bytes (front_behind (from_be_bytes w32 (take 4 bytes)) (drop 4 bytes))
behind-is bytes long are =
    let n : ℕ = from_be_bytes w32 (take 4 bytes) in
    let rest : List ℕ = drop 4 bytes in
    let head : bytes ≡ to_be_bytes w32 n ++ rest = head_is bytes (take 4 bytes) rest n refl refl (omega (arith, length-drop 4 bytes)) (byte-at bytes are) refl in
    let small : n < 2 ^ 32 = length-small bytes long are in
    cond_both (nat_lt 16777216 n) too_long (if nat_lt (length rest) n then part else whole (take n rest) (drop n rest)) (IsAtFront bytes)
    (λ e. (n, (ltb-true 16777216 n e, small, (rest, head))))
    (λ e. cond_both (nat_lt (length rest) n) part (whole (take n rest) (drop n rest)) (IsAtFront bytes)
    (λ f. (omega arith, inr (n, rest, head, ltb-false 16777216 n e, ltb-true (length rest) n f)))
    (λ f. begins-at bytes rest n head (ltb-false 16777216 n e) (ltb-false (length rest) n f)))

front-is : (bytes : List ℕ) → AreBytes bytes → IsAtFront bytes (front bytes)
unfolding front
front-is bytes are =
    let n : ℕ = from_be_bytes w32 (take 4 bytes) in
    cond_both (length bytes == 0) nothing (if nat_lt (length bytes) 4 then part else front_behind n (drop 4 bytes)) (IsAtFront bytes)
    (λ e. none-left bytes (eqb-true (length bytes) 0 e))
    (λ e. cond_both (nat_lt (length bytes) 4) part (front_behind n (drop 4 bytes)) (IsAtFront bytes)
    (λ f. (let other = eqb-false (length bytes) 0 e in omega (arith, other), inl (ltb-true (length bytes) 4 f)))
    (λ f. behind-is bytes (ltb-false (length bytes) 4 f) are))

-- some frames, and how they end
abbrev pub SomeRecording : List ℕ → Type 0
SomeRecording bytes = (frames : List VStreamResponse) × (why : Option FrameWhy) × IsRecording bytes frames why

no-frames : (bytes : List ℕ) (why : Option FrameWhy) → EndsIn bytes why → SomeRecording bytes
no-frames bytes why ends = ([], why, record { messages = []; rest = bytes; given = (refl, All-nil IsWithinLimit); read = tt; ends = ends })

one-more : (bytes m rest : List ℕ) (f : VStreamResponse) → BeginsWithFrame bytes m rest → read (response true) m ≡ Ok f → SomeRecording rest → SomeRecording bytes
one-more bytes m rest f begins is (frames, why, all) = (
  f ∷ frames,
  why,
  record {
    messages = m ∷ all.messages;
    rest = all.rest;
    given = (
      begins.0 ∙ ap (λ b. framed m ++ b) all.given.0 ∙ sym (append_assoc (framed m) (frames_bytes all.messages) all.rest),
      All-cons IsWithinLimit m all.messages begins.1 all.given.1,
    );
    read = (is, all.read);
    ends = all.ends;
  },
)

rest-bytes : (bytes m rest : List ℕ) → BeginsWithFrame bytes m rest → AreBytes bytes → AreBytes rest
rest-bytes bytes m rest begins are =
    subst AreBytes (ap (λ b. drop (length (framed m)) b) begins.0 ∙ drop-append_seam (framed m) rest) (All-drop (λ b. b < 256) (length (framed m)) bytes are)

recording-in : (k : ℕ) (bytes : List ℕ) → length bytes ≤ k → AreBytes bytes → SomeRecording bytes
recording-in zero bytes few are = no-frames bytes None (none-left bytes (omega arith))
recording-in (suc k) bytes few are = go (front bytes) (front-is bytes are) (λ rest less small. recording-in k rest (omega arith) small)
  where
    read-front : (m rest : List ℕ) (r : Result VStreamResponse (ℕ × Fault)) → read (response true) m ≡ r → BeginsWithFrame bytes m rest → SomeRecording rest → SomeRecording bytes
    read-front m rest (Ok f) e begins more = one-more bytes m rest f begins e more
    read-front m rest (Err fault) e begins more = no-frames bytes (Some Message) (m, rest, fault, begins, e)

    go : (f : Front) → IsAtFront bytes f → ((rest : List ℕ) → length rest < length bytes → AreBytes rest → SomeRecording rest) → SomeRecording bytes
    go nothing is more = no-frames bytes None is
    go part is more = no-frames bytes (Some Cut) is
    go too_long is more = no-frames bytes (Some TooLong) is
    go (whole m rest) is more =
        let less : length rest < length bytes = omega (arith, ap length is.0, length-append (framed m) rest, length-append (to_be_bytes w32 (length m)) m) in
        read-front m rest (read (response true) m) refl is (more rest less (rest-bytes bytes m rest is are))

pub recording-some : (bytes : List ℕ) → AreBytes bytes → SomeRecording bytes
recording-some bytes are = recording-in (length bytes) bytes (omega arith) are
