-- What the codec finds where a whole frame is at the front.
use Rattle.std.proofs.Common.{◌≡◌, ℕ, ◌+◌, ◌<◌, ◌≤◌, ◌^◌, List, ◌++◌, append_assoc, length, length-append, length-drop, slice_range, drop, take, ap, ◌∙◌, arith}
use Rattle.std.specs.Int.{w32, to_be_bytes}
use Rattle.std.specs.Int.Digits.{number_from_digits}
use Rattle.std.proofs.lemmas.Bool.Decides.{nat_tests}
use Rattle.std.proofs.Math.Seq.{take-append_seam, drop-append_seam}
use Rattle.tokio_util.specs.Codec.LengthDelimited.{frame, cut, cut_in, cut_frame, cut_payload, codec_layout}
use Rattle.tokio_util.specs.declared.codec.length_delimited.LengthDelimitedCodec.{LengthDelimitedCodec}
use Rattle.vs_frame.specs.Frames.{BeginsWithFrame}
use Rattle.vs_frame.specs.Codec.{frame_layout, Waits}

-- the length that the bytes begin with, as the codec reads it
abbrev length_at : List ℕ → ℕ
length_at bytes = number_from_digits 256 (slice_range bytes 0 4)

cut_front : (bytes : List ℕ) → 4 + length_at bytes ≤ length bytes → length_at bytes ≤ 16777216 →
    cut_frame frame_layout bytes ≡ frame (take (length_at bytes) (drop 4 bytes)) (drop (length_at bytes) (drop 4 bytes))
unfolding cut_frame cut_payload
cut_front bytes whole within = grind (arith, nat_tests, length-drop 4 bytes)

length_at-head : (n : ℕ) (rest : List ℕ) → n < 2 ^ 32 → length_at (to_be_bytes w32 n ++ rest) ≡ n
length_at-head n rest h = omega arith

cut_framed : (message rest : List ℕ) → length message ≤ 16777216 →
    cut_frame frame_layout (to_be_bytes w32 (length message) ++ (message ++ rest)) ≡ frame message rest
cut_framed message rest within =
    let n = length_at-head (length message) (message ++ rest) (omega arith) in
    let size = length-append message rest in
    let bytes = to_be_bytes w32 (length message) ++ (message ++ rest) in
    cut_front bytes (omega arith) (omega arith)
    ∙ ap (λ k. frame (take k (message ++ rest)) (drop k (message ++ rest))) n
    ∙ ap (λ t. frame t (drop (length message) (message ++ rest))) (take-append_seam message rest)
    ∙ ap (λ d. frame message d) (drop-append_seam message rest)

pub cut_whole : (codec : LengthDelimitedCodec) (bytes message rest : List ℕ) → Waits codec → BeginsWithFrame bytes message rest →
    cut codec bytes ≡ frame message rest
cut_whole codec bytes message rest waits begins =
    ap (λ s. cut_in (codec_layout codec) s bytes) waits.0 ∙ ap (λ l. cut_frame l bytes) waits.1
    ∙ ap (λ b. cut_frame frame_layout b) (begins.0 ∙ append_assoc (to_be_bytes w32 (length message)) message rest)
    ∙ cut_framed message rest begins.1
