-- The text that is written of a journal.
use Rattle.std.specs.Prelude.{ℕ, Bool, true, false, ◌||◌, ◌==◌, List, [], ◌∷◌, ◌++◌, codes}
use Rattle.std.specs.List.{flat_map}
use Rattle.std.specs.Fmt.{signed_decimal}
use Rattle.vs_gtid.specs.Positions.{Position}
use Rattle.vs_gtid.specs.Text.{position_text}
use Rattle.vs_journal.specs.Judgement.{PlainJournal, PlainName}

-- a byte of a string, with a backslash before a quote and a backslash
abbrev pub string_byte : ℕ → List ℕ
string_byte c = elim (c == 0x22 || c == 0x5C) [ true ↦ 0x5C ∷ c ∷ [] | false ↦ c ∷ [] ]

abbrev pub quote : List ℕ
quote = 0x22 ∷ []

abbrev pub string_text : List ℕ → List ℕ
string_text bytes = quote ++ flat_map string_byte bytes ++ quote

abbrev pub name_text : PlainName → List ℕ
name_text n = codes "keyspace:" ++ string_text n.0 ++ codes " shard:" ++ string_text n.1

abbrev pub participant_text : PlainName → List ℕ
participant_text n = codes " participants:{" ++ name_text n ++ codes "}"

abbrev pub gtid_text : Position → List ℕ
gtid_text p = codes " gtid:" ++ quote ++ position_text p ++ quote

abbrev pub successor_text : PlainName × Position → List ℕ
successor_text s = codes " shard_gtids:{" ++ name_text s.0 ++ gtid_text s.1 ++ codes "}"

abbrev pub kind_text : Bool → List ℕ
kind_text true = codes "SHARDS"
kind_text false = codes "TABLES"

-- the id, the kind, the successors and the participants, with a single space between two fields
abbrev pub journal_text : PlainJournal → List ℕ
journal_text j =
    codes "id:" ++ signed_decimal j.id ++ codes " migration_type:" ++ kind_text j.shards
    ++ flat_map successor_text j.successors ++ flat_map participant_text j.participants
