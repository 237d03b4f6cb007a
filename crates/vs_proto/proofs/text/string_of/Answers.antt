use Rattle.std.proofs.lemmas.Str.{is_utf8-from_IsUtf8}
use Rattle.vs_proto.proofs.TextLemmas.{not_text}
use Rattle.vs_proto.proofs.text.string_of.Goals as goal

pub returns-in_ok-from_bytes-in-Ok : goal.returns-in_ok-from_bytes-in-Ok
returns-in_ok-from_bytes-in-Ok c = (c.in_ok-from_bytes-in-Ok.ensures, is_utf8-from_IsUtf8 c.args.bytes.now c.in-Ok.ensures.cases.1)

pub returns-in-Err : goal.returns-in-Err
returns-in-Err c = let no = not_text c.args.bytes.now c.in-Err.ensures.cases.0 in rw no
