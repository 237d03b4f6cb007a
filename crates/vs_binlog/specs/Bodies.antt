-- The bodies of a format description, a GTID event and a query. Numbers have the lowest byte first.
use Rattle.std.specs.Prelude.{ℕ, ◌+◌, ◌-◌, ◌==◌, ◌&&◌, not, nat_lt, nat_le, if◌then◌else◌, List, length, take, drop, slice_index, Option, Some, None, Result, Ok, Err}
use Rattle.byteorder.specs.Endian.{little_number}
use Rattle.vs_base.specs.declared.Gtid.{Gtid}
use Rattle.vs_base.specs.Names.{gtid_of}
use Rattle.vs_binlog.specs.declared.format.FormatRefusal.{FormatRefusal}
use Rattle.vs_binlog.specs.declared.format.FormatRefusal.TheVariants.{ShortFormat, BadVersion, HeadLength, Checksummed}

-- A format description: the version, 50 bytes of the server's version, 4 of its time, the length of heads, the lengths of
-- the fixed parts of bodies, the kind of checksums, and 4 bytes more.
abbrev pub format_body : List ℕ → Result (Unit {0}) FormatRefusal
format_body body =
    if nat_lt (length body) 62 then Err ShortFormat
    else if not (little_number 2 body == 4) then Err (BadVersion (little_number 2 body))
    else if not (slice_index body 56 == 19) then Err (HeadLength (slice_index body 56))
    else if not (slice_index body (length body - 5) == 0) then Err (Checksummed (slice_index body (length body - 5)))
    else Ok tt

-- the GTID of a GTID event: a byte of flags, 16 of the UUID, 8 of the number; what follows isn't read
unfoldable pub gtid_body : List ℕ → Option Gtid
gtid_body body = if nat_lt (length body) 25 then None else gtid_of (take 16 (drop 1 body)) (little_number 8 (drop 17 body))

-- what a query says: the default schema, and the text of the statement
pub record Said : Type 0 where
  pub schema : List ℕ
  pub text : List ℕ

-- the same, where the schema has so many bytes and begins the rest
abbrev pub said_at : ℕ → List ℕ → Said
said_at n rest = record { schema = take n rest; text = drop (n + 1) rest }

-- A query: 4 bytes of the thread, 4 of the time, the length of the schema, 2 bytes of the error, 2 of the length of the
-- status, the status, the schema, a zero byte, the text.
unfoldable pub query_body : List ℕ → Option Said
query_body body =
    let n = slice_index body 8 in
    let at = 13 + little_number 2 (drop 11 body) in
    if nat_le (at + n + 1) (length body) && slice_index body (at + n) == 0
    then Some (said_at n (drop at body))
    else None
