use Rattle.std.proofs.Common.{◌≡◌, ◌++◌, drop}
use Rattle.std.specs.List.{flat_map}
use Rattle.vs_journal.specs.Texts.{string_byte}
use Rattle.vs_journal.proofs.write.put_bytes.Given as goal

abbrev pub invariant-loop-byte : goal.invariant-loop-byte
invariant-loop-byte l = l.text.items ++ flat_map string_byte (drop l.byte-index l.bytes) ≡ l.fn.text.items ++ flat_map string_byte l.bytes
