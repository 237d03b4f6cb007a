-- The bytes of frames are the frames': four bytes fix a length, and reading fixes the events.
use Rattle.std.proofs.Common.{◌≡◌, ℕ, Bool, true, false, List, [], ◌∷◌, ◌++◌, append_assoc, append-nil, length, take, drop, Result, Ok, Err, refl, ap, sym, ◌∙◌, arith}
use Rattle.std.specs.List.{AllByRecursion}
use Rattle.std.specs.Int.{w32, to_be_bytes, from_be_bytes}
use Rattle.std.proofs.lemmas.Nat.{from_be_bytes-to_be_bytes_4}
use Rattle.std.proofs.Math.Seq.{take-append_seam, drop-append_seam}
use Rattle.vs_proto.specs.declared.event.VEvent.{VEvent}
use Rattle.vs_proto.specs.declared.event.VStreamResponse.{VStreamResponse}
use Rattle.vs_proto.specs.declared.refusal.Fault.{Fault}
use Rattle.vs_proto.specs.Shapes.{spelling, read}
use Rattle.vs_proto.specs.Tables.{response, event, row_event, field_event, vgtid, journal, row_change, field, shard_gtid, row, table_key, keyspace_shard}
use Rattle.vs_proto.specs.Frames.{events_bytes, message_bytes, frame_bytes, frames_bytes, IsSpelled, IsFrame}
use Rattle.vs_proto.proofs.MessageLaws.{response_again}

-- read without the rules on texts and rows, the spelling is the same
same_spelling : (m : VStreamResponse) → spelling (response true) m ≡ spelling (response false) m
unfolding response spelling event row_event field_event vgtid journal row_change field shard_gtid row table_key keyspace_shard
same_spelling m = refl

abbrev events_of : Result VStreamResponse (ℕ × Fault) → List VEvent
events_of (Ok m) = m.events
events_of (Err fault) = []

read_back : (es : List VEvent) → IsSpelled es → events_of (read (response false) (events_bytes es)) ≡ es
read_back es is =
    let m : VStreamResponse = record { events = es } in
    let same = same_spelling m in
    let small = is.1 in
    ap (λ b. events_of (read (response false) b)) same ∙ ap events_of (response_again false m is.0 (omega (arith, ap length same)))

pub spells_events_once : (es fs : List VEvent) → IsSpelled es → IsSpelled fs → events_bytes es ≡ events_bytes fs → es ≡ fs
spells_events_once es fs is was e = sym (read_back es is) ∙ ap (λ b. events_of (read (response false) b)) e ∙ read_back fs was

-- one message at the front, and what is behind it
pub one_message : (es fs : List VEvent) (more rest : List ℕ) → IsSpelled es → IsSpelled fs → message_bytes es ++ more ≡ message_bytes fs ++ rest →
    (es ≡ fs) × (more ≡ rest)
one_message es fs more rest is was e =
    let a = events_bytes es in
    let b = events_bytes fs in
    let n = length a in
    let k = length b in
    let flat : to_be_bytes w32 n ++ (a ++ more) ≡ to_be_bytes w32 k ++ (b ++ rest) =
    sym (append_assoc (to_be_bytes w32 n) a more) ∙ e ∙ append_assoc (to_be_bytes w32 k) b rest in
    let heads : to_be_bytes w32 n ≡ to_be_bytes w32 k = ap (λ x. take 4 x) flat in
    let size : n ≡ k = sym (from_be_bytes-to_be_bytes_4 n is.1) ∙ ap (λ x. from_be_bytes w32 x) heads ∙ from_be_bytes-to_be_bytes_4 k was.1 in
    let bodies : a ++ more ≡ b ++ rest = ap (λ x. drop 4 x) flat in
    let front : a ≡ b = sym (take-append_seam a more) ∙ ap (λ x. take n x) bodies ∙ ap (λ i. take i (b ++ rest)) size ∙ take-append_seam b rest in
    let back : more ≡ rest = sym (drop-append_seam a more) ∙ ap (λ x. drop n x) bodies ∙ ap (λ i. drop i (b ++ rest)) size ∙ drop-append_seam b rest in
    (spells_events_once es fs is was front, back)

same_test : (ends : List VEvent → Bool) (m n : List VEvent) → m ≡ n → ends m ≡ true → ends n ≡ false → ⊥
same_test ends m n e t f = cc (ap ends e)

-- one frame at the front, and what is behind it
pub one_frame : (ends : List VEvent → Bool) (f g : List (List VEvent)) (more rest : List ℕ) → IsFrame ends f → IsFrame ends g →
    frame_bytes f ++ more ≡ frame_bytes g ++ rest → (f ≡ g) × (more ≡ rest)
one_frame ends [] g more rest is was e = absurd is.0
one_frame ends (m ∷ ms) [] more rest is was e = absurd was.0
one_frame ends (m ∷ []) (n ∷ []) more rest is was e =
    let same = one_message m n ([] ++ more) ([] ++ rest) is.1.0 was.1.0
    (sym (append_assoc (message_bytes m) [] more) ∙ e ∙ append_assoc (message_bytes n) [] rest) in
    (ap (λ x. x ∷ []) same.0, same.1)
one_frame ends (m ∷ []) (n ∷ o ∷ ns) more rest is was e =
    let same = one_message m n ([] ++ more) (frame_bytes (o ∷ ns) ++ rest) is.1.0 was.1.0
    (sym (append_assoc (message_bytes m) [] more) ∙ e ∙ append_assoc (message_bytes n) (frame_bytes (o ∷ ns)) rest) in
    absurd (same_test ends m n same.0 is.0 was.0.0)
one_frame ends (m ∷ o ∷ ms) (n ∷ []) more rest is was e =
    let same = one_message m n (frame_bytes (o ∷ ms) ++ more) ([] ++ rest) is.1.0 was.1.0
    (sym (append_assoc (message_bytes m) (frame_bytes (o ∷ ms)) more) ∙ e ∙ append_assoc (message_bytes n) [] rest) in
    absurd (same_test ends n m (sym same.0) was.0 is.0.0)
one_frame ends (m ∷ o ∷ ms) (n ∷ p ∷ ns) more rest is was e =
    let same = one_message m n (frame_bytes (o ∷ ms) ++ more) (frame_bytes (p ∷ ns) ++ rest) is.1.0 was.1.0
    (sym (append_assoc (message_bytes m) (frame_bytes (o ∷ ms)) more) ∙ e ∙ append_assoc (message_bytes n) (frame_bytes (p ∷ ns)) rest) in
    let others = one_frame ends (o ∷ ms) (p ∷ ns) more rest (is.0.1, is.1.1) (was.0.1, was.1.1) same.1 in
    (ap (λ x. x ∷ o ∷ ms) same.0 ∙ ap (λ xs. n ∷ xs) others.0, others.1)

some_bytes : (ends : List VEvent → Bool) (f : List (List VEvent)) (more : List ℕ) → IsFrame ends f → [] ≡ frame_bytes f ++ more → ⊥
some_bytes ends [] more is e = absurd is.0
some_bytes ends (m ∷ ms) more is e = cc

pub spells_once : (ends : List VEvent → Bool) (fs gs : List (List (List VEvent))) → AllByRecursion (IsFrame ends) fs → AllByRecursion (IsFrame ends) gs →
    frames_bytes fs ≡ frames_bytes gs → fs ≡ gs
spells_once ends [] [] is was e = refl
spells_once ends [] (g ∷ gs) is was e = absurd (some_bytes ends g (frames_bytes gs) was.0 e)
spells_once ends (f ∷ fs) [] is was e = absurd (some_bytes ends f (frames_bytes fs) is.0 (sym e))
spells_once ends (f ∷ fs) (g ∷ gs) is was e =
    let same = one_frame ends f g (frames_bytes fs) (frames_bytes gs) is.0 was.0 e in
    ap (λ x. x ∷ fs) same.0 ∙ ap (λ xs. g ∷ xs) (spells_once ends fs gs is.1 was.1 same.1)

pub none_begins : (ends : List VEvent → Bool) (f g : List (List VEvent)) (more : List ℕ) → IsFrame ends f → IsFrame ends g →
    frame_bytes f ++ more ≡ frame_bytes g → more ≡ []
none_begins ends f g more is was e = (one_frame ends f g more [] is was (e ∙ sym (append-nil (frame_bytes g)))).1
