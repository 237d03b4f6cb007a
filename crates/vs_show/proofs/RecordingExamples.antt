-- Small recordings, computed.
use Rattle.std.specs.Prelude.{◌≡◌, ℕ, List, [], ◌∷◌, ◌++◌, take, None, Some, codes, pos, negsuc, refl}
use Rattle.vs_frame.specs.declared.refusal.FrameWhy.TheVariants.{Cut, TooLong}
use Rattle.std.specs.Fmt.{digits}
use Rattle.std.specs.Str.{is_utf8, chars}
use lib.Utf8.{encode}
use Rattle.vs_wire.specs.Fields.{walk, field_in, tag_in, tag_parts, value_in}
use Rattle.vs_wire.specs.Varint.{number_in}
use Rattle.vs_proto.specs.Shapes.{take_fields}
use Rattle.vs_proto.specs.Tables.{response, event, vgtid, shard_gtid}
use Rattle.vs_show.specs.Cells.{bytes_text, image_text, row_text}
use Rattle.vs_show.specs.Kinds.{kind_of}
use Rattle.vs_show.specs.Lines.{entries_line, entry_text, event_lines, frame_lines, shard_text, statement_line}
use Rattle.vs_show.specs.Recordings.{bad_frame, front, lines, recorded_from, recorded_in}

-- quotes, backslashes and bytes that aren't printable ASCII stand as escapes
escapes : bytes_text (codes "a'b" ++ 92 ∷ 0 ∷ 31 ∷ 32 ∷ 126 ∷ 127 ∷ 255 ∷ []) ≡ codes "'a" ++ 92 ∷ codes "x27b" ++ 92 ∷ codes "x5c" ++ 92 ∷ codes "x00" ++ 92 ∷ codes "x1f ~" ++ 92 ∷ codes "x7f" ++ 92 ∷ codes "xff'"
unfolding bytes_text
escapes = refl

-- ---- the first frame of the worked example, whole and cut

abbrev one_frame : List ℕ
one_frame =
    0 ∷ 0 ∷ 0 ∷ 100 ∷ 10 ∷ 70 ∷ 8 ∷ 15 ∷ 16 ∷ 100 ∷ 58 ∷ 56 ∷ 10 ∷ 54 ∷ 10 ∷ 1 ∷ 99 ∷ 18 ∷ 1 ∷ 48 ∷ 26 ∷ 46 ∷ 77 ∷ 121 ∷ 83 ∷ 81 ∷ 76 ∷ 53 ∷ 54 ∷ 47 ∷ 48 ∷ 48 ∷ 48 ∷ 48 ∷ 48 ∷ 48 ∷ 48 ∷ 48 ∷ 45 ∷ 48 ∷ 48 ∷ 48 ∷ 48 ∷ 45 ∷ 48 ∷ 48 ∷ 48 ∷ 48 ∷ 45 ∷ 48 ∷ 48 ∷ 48 ∷ 48 ∷ 45 ∷ 48 ∷ 48 ∷ 48 ∷ 48 ∷ 48 ∷ 48 ∷ 48 ∷ 48 ∷ 48 ∷ 48 ∷ 48 ∷ 49 ∷ 58 ∷ 49 ∷ 178 ∷ 1 ∷ 1 ∷ 99 ∷ 186 ∷ 1 ∷ 1 ∷ 48 ∷ 10 ∷ 26 ∷ 8 ∷ 5 ∷ 16 ∷ 100 ∷ 34 ∷ 12 ∷ 100 ∷ 114 ∷ 111 ∷ 112 ∷ 32 ∷ 116 ∷ 97 ∷ 98 ∷ 108 ∷ 101 ∷ 32 ∷ 116 ∷ 178 ∷ 1 ∷ 1 ∷ 99 ∷ 186 ∷ 1 ∷ 1 ∷ 48 ∷ []

whole_frame : recorded_from 1 one_frame ≡ record { lines = codes "#1" ++ 10 ∷ codes "VGTID c/0@MySQL56/00000000-0000-0000-0000-000000000001:1" ++ 10 ∷ codes "DDL c/0 'drop table t'" ++ 10 ∷ []; bad = None }
unfolding recorded_in front take_fields response event vgtid shard_gtid walk field_in tag_in tag_parts value_in number_in frame_lines event_lines kind_of entries_line entry_text shard_text statement_line bytes_text digits is_utf8 chars encode
whole_frame = refl

cut_frame : bad_frame (take 50 one_frame) ≡ Some (1, Cut)
unfolding recorded_in front
cut_frame = refl

cut_lines : lines (take 50 one_frame) ≡ []
unfolding recorded_in front
cut_lines = refl

no_frame : bad_frame [] ≡ None
unfolding recorded_in front
no_frame = refl

too_long_frame : bad_frame (1 ∷ 0 ∷ 0 ∷ 1 ∷ []) ≡ Some (1, TooLong)
unfolding recorded_in front
too_long_frame = refl

-- ---- the images of a worked row

two_cells : image_text (Some (record { lengths = pos 2 ∷ negsuc 0 ∷ []; values = codes "50" })) ≡ codes "['50',NULL]"
unfolding row_text bytes_text
two_cells = refl

no_image : image_text None ≡ codes "-"
no_image = refl
