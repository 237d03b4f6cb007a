-- How the length-delimited codec of `tokio_util` is set, and what stands at the front of the bytes for it.
use Rattle.std.specs.Prelude.{◌≡◌, ℕ, List}
use Rattle.vs_base.specs.Limits.{most_message}
use Rattle.tokio_util.specs.Codec.LengthField.{Layout, default_layout}
use Rattle.tokio_util.specs.Codec.LengthDelimited.{IsAtHead, codec_layout}
use Rattle.vs_frame.specs.declared.front.Front.{Front}
use Rattle.vs_frame.specs.declared.front.Front.TheVariants.{Part, Whole, TooLong}
use Rattle.vs_frame.specs.Frames.{HasFrame, IsPart, IsTooLong}
use Rattle.tokio_util.specs.declared.codec.length_delimited.LengthDelimitedCodec.{LengthDelimitedCodec}

-- four bytes of length, the highest first, and at most 16 MiB behind them
abbrev pub frame_layout : Layout
frame_layout = record default_layout { max_frame_len = most_message }

-- the codec is set so, and waits for a length
abbrev pub Waits : LengthDelimitedCodec → Type 0
Waits codec = IsAtHead codec × (codec_layout codec ≡ frame_layout)

-- what stands at the front of the bytes
abbrev pub IsFront : List ℕ → Front → Type 0
IsFront bytes Part = IsPart bytes
IsFront bytes Whole = HasFrame bytes
IsFront bytes (TooLong n) = IsTooLong bytes n
