-- A journal text: its tokens one after another, and the first that doesn't fit.
use Rattle.std.specs.Prelude.{ℕ, ◌+◌, ◌^◌, Bool, true, false, ◌==◌, nat_eq, nat_le, nat_lt, List, [], ◌∷◌, ◌++◌, length, Option, Some, None, Result, Ok, Err, is_some, codes, ℤ, pos, if◌then◌else◌}
use Rattle.std.specs.Option.{option_map}
use Rattle.std.specs.Cmp.Lexicographic.{pointwise}
use Rattle.vs_base.specs.Numbers.{signed}
use Rattle.vs_journal.specs.Tokens.{tokens}
use Rattle.vs_journal.specs.declared.token.Bracket.{Bracket}
use Rattle.vs_journal.specs.declared.token.Bracket.TheVariants.{Curly, Angle}
use Rattle.vs_journal.specs.declared.token.Token.{Token}
use Rattle.vs_journal.specs.declared.token.Token.TheVariants as token
use Rattle.vs_journal.specs.declared.parsed.Member.{Member}
use Rattle.vs_journal.specs.declared.parsed.ParsedJournal.{ParsedJournal}
use Rattle.vs_journal.specs.declared.state.FieldName.{FieldName}
use Rattle.vs_journal.specs.declared.state.FieldName.TheVariants as field
use Rattle.vs_journal.specs.declared.state.Awaits.{Awaits}
use Rattle.vs_journal.specs.declared.state.Awaits.TheVariants.{Name, Behind, BehindText, BehindName, Value, FirstItem, Item, BehindItem, BehindItemText}
use Rattle.vs_journal.specs.declared.state.Role.{Role}
use Rattle.vs_journal.specs.declared.state.Role.TheVariants as role
use Rattle.vs_journal.specs.declared.state.OpenMember.{OpenMember}
use Rattle.vs_journal.specs.declared.state.TextState.{TextState}

-- how many brackets may be open at a place
abbrev pub most_open : ℕ
most_open = 32

-- ---- which field a name is

abbrev pub same_text : List ℕ → List ℕ → Bool
same_text a b = pointwise nat_eq a b

abbrev pub journal_field : List ℕ → FieldName
journal_field name =
    if same_text name (codes "id") then field.Id
    else if same_text name (codes "migration_type") then field.MigrationType
    else if same_text name (codes "shard_gtids") then field.ShardGtids
    else if same_text name (codes "participants") then field.Participants
    else field.Unknown

abbrev pub gtid_field : Role → FieldName
gtid_field role.Participant = field.Unknown
gtid_field role.Successor = field.Gtid

abbrev pub member_field : Role → List ℕ → FieldName
member_field of name =
    if same_text name (codes "keyspace") then field.Keyspace
    else if same_text name (codes "shard") then field.Shard
    else if same_text name (codes "gtid") then gtid_field of
    else field.Unknown

-- in the innermost message that is open
abbrev pub field_in : List Bracket → Option OpenMember → List ℕ → FieldName
field_in (b ∷ passed) current name = field.Unknown
field_in [] None name = journal_field name
field_in [] (Some o) name = member_field o.role name

-- ---- messages and lists

-- how many messages are open
abbrev pub open_count : TextState → ℕ
open_count s = length s.passed + (if is_some s.current then 1 else 0)

abbrev pub awaiting : Awaits → TextState → TextState
awaiting next s = record s { awaits = next }

abbrev pub no_member : Member
no_member = record { keyspace = []; shard = []; gtid = [] }

abbrev pub with_opened : Role → Bracket → TextState → TextState
with_opened of b s = record s { current = Some (record { role = of; bracket = b; member = no_member }); awaits = Name }

-- a message as the field's value begins
abbrev pub opened : FieldName → Bracket → TextState → Option TextState
opened field.Participants b s = Some (with_opened role.Participant b s)
opened field.ShardGtids b s = Some (with_opened role.Successor b s)
opened field.Unknown b s = if nat_lt (open_count s) most_open then Some (record s { passed = b ∷ s.passed; awaits = Name }) else None
opened f b s = None

-- a list of scalars does
abbrev pub list_opened : FieldName → TextState → Option TextState
list_opened field.Unknown s = if nat_lt (open_count s) most_open then Some (awaiting FirstItem s) else None
list_opened f s = None

abbrev pub with_member : Role → Member → ParsedJournal → ParsedJournal
with_member role.Participant m j = record j { participants = j.participants ++ m ∷ [] }
with_member role.Successor m j = record j { successors = j.successors ++ m ∷ [] }

abbrev pub same_bracket : Bracket → Bracket → Bool
same_bracket Curly Curly = true
same_bracket Angle Angle = true
same_bracket a b = false

-- the innermost message ends, by a bracket of its own kind
abbrev pub closed_in : List Bracket → Option OpenMember → Bracket → TextState → Option TextState
closed_in (c ∷ passed) current b s = if same_bracket c b then Some (record s { passed = passed; awaits = Behind }) else None
closed_in [] (Some o) b s = if same_bracket o.bracket b then Some (record s { journal = with_member o.role o.member s.journal; current = None; awaits = Behind }) else None
closed_in [] None b s = None

-- ---- values

-- a number of 64 bits
abbrev pub id_of : Bool → Option ℕ → Option ℤ
id_of negative None = None
id_of true (Some size) = if nat_le size (2 ^ 63) then Some (signed true size) else None
id_of false (Some size) = if nat_lt size (2 ^ 63) then Some (pos size) else None

-- whether a migration is one of shards
abbrev pub kind_named : List ℕ → Option Bool
kind_named name = if same_text name (codes "TABLES") then Some false else if same_text name (codes "SHARDS") then Some true else None

abbrev pub kind_numbered : Bool → Option ℕ → Option Bool
kind_numbered true size = None
kind_numbered false None = None
kind_numbered false (Some size) = if size == 0 then Some false else if size == 1 then Some true else None

abbrev pub with_id : TextState → ℤ → TextState
with_id s id = record s { journal = record s.journal { id = id }; awaits = Behind }

abbrev pub with_kind : TextState → Bool → TextState
with_kind s shards = record s { journal = record s.journal { shards = shards }; awaits = Behind }

abbrev pub set_text : FieldName → List ℕ → Member → Member
set_text field.Keyspace text m = record m { keyspace = text }
set_text field.Shard text m = record m { shard = text }
set_text field.Gtid text m = record m { gtid = text }
set_text f text m = m

-- strings one behind the other are one
abbrev pub add_text : FieldName → List ℕ → Member → Member
add_text field.Keyspace text m = record m { keyspace = m.keyspace ++ text }
add_text field.Shard text m = record m { shard = m.shard ++ text }
add_text field.Gtid text m = record m { gtid = m.gtid ++ text }
add_text f text m = m

abbrev pub with_current : (Member → Member) → TextState → TextState
with_current change s = record s { current = option_map (λ (o : OpenMember). record o { member = change o.member }) s.current }

abbrev pub id_valued : TextState → Token → Option TextState
id_valued s (token.Number negative size) = option_map (with_id s) (id_of negative size)
id_valued s t = None

abbrev pub kind_valued : TextState → Token → Option TextState
kind_valued s (token.Word name) = option_map (with_kind s) (kind_named name)
kind_valued s (token.Number negative size) = option_map (with_kind s) (kind_numbered negative size)
kind_valued s t = None

abbrev pub text_valued : FieldName → TextState → Token → Option TextState
text_valued f s (token.Bytes text) = Some (awaiting (BehindText f) (with_current (set_text f text) s))
text_valued f s t = None

abbrev pub unknown_valued : TextState → Token → Option TextState
unknown_valued s (token.Word name) = Some (awaiting Behind s)
unknown_valued s (token.Number negative size) = Some (awaiting Behind s)
unknown_valued s (token.Bytes text) = Some (awaiting (BehindText field.Unknown) s)
unknown_valued s t = None

-- a scalar as the field's value
abbrev pub valued : FieldName → TextState → Token → Option TextState
valued field.Id s t = id_valued s t
valued field.MigrationType s t = kind_valued s t
valued field.ShardGtids s t = None
valued field.Participants s t = None
valued field.Keyspace s t = text_valued field.Keyspace s t
valued field.Shard s t = text_valued field.Shard s t
valued field.Gtid s t = text_valued field.Gtid s t
valued field.Unknown s t = unknown_valued s t

-- ---- the state behind one more token, where it fits

abbrev pub behind_nothing : TextState → Token → Option TextState
behind_nothing s (token.Word name) = Some (awaiting (BehindName (field_in s.passed s.current name)) s)
behind_nothing s (token.Close b) = closed_in s.passed s.current b s
behind_nothing s t = None

abbrev pub behind_value : TextState → Token → Option TextState
behind_value s token.Comma = Some (awaiting Name s)
behind_value s token.Semicolon = Some (awaiting Name s)
behind_value s t = behind_nothing s t

abbrev pub behind_text : FieldName → TextState → Token → Option TextState
behind_text f s (token.Bytes text) = Some (with_current (add_text f text) s)
behind_text f s t = behind_value s t

abbrev pub behind_name : FieldName → TextState → Token → Option TextState
behind_name f s token.Colon = Some (awaiting (Value f) s)
behind_name f s (token.Open b) = opened f b s
behind_name f s t = None

abbrev pub behind_colon : FieldName → TextState → Token → Option TextState
behind_colon f s (token.Open b) = opened f b s
behind_colon f s token.OpenList = list_opened f s
behind_colon f s t = valued f s t

abbrev pub item_valued : TextState → Token → Option TextState
item_valued s (token.Word name) = Some (awaiting BehindItem s)
item_valued s (token.Number negative size) = Some (awaiting BehindItem s)
item_valued s (token.Bytes text) = Some (awaiting BehindItemText s)
item_valued s t = None

abbrev pub first_item : TextState → Token → Option TextState
first_item s token.CloseList = Some (awaiting Behind s)
first_item s t = item_valued s t

abbrev pub behind_item : TextState → Token → Option TextState
behind_item s token.Comma = Some (awaiting Item s)
behind_item s token.CloseList = Some (awaiting Behind s)
behind_item s t = None

abbrev pub behind_item_text : TextState → Token → Option TextState
behind_item_text s (token.Bytes text) = Some s
behind_item_text s t = behind_item s t

abbrev pub awaited : Awaits → TextState → Token → Option TextState
awaited Name s t = behind_nothing s t
awaited Behind s t = behind_value s t
awaited (BehindText f) s t = behind_text f s t
awaited (BehindName f) s t = behind_name f s t
awaited (Value f) s t = behind_colon f s t
awaited FirstItem s t = first_item s t
awaited Item s t = item_valued s t
awaited BehindItem s t = behind_item s t
awaited BehindItemText s t = behind_item_text s t

abbrev pub state_behind : TextState → Token → Option TextState
state_behind s t = awaited s.awaits s t

-- ---- whole texts

-- a journal of which nothing is said
abbrev pub no_journal : ParsedJournal
no_journal = record { id = pos 0; shards = false; participants = []; successors = [] }

abbrev pub first_state : TextState
first_state = record { journal = no_journal; current = None; passed = []; awaits = Name }

-- whether a message may end
abbrev pub may_end_message : Awaits → Bool
may_end_message Name = true
may_end_message Behind = true
may_end_message (BehindText f) = true
may_end_message other = false

abbrev pub ended_in : List Bracket → Option OpenMember → Bool → ParsedJournal → Option ParsedJournal
ended_in [] None true j = Some j
ended_in passed current may j = None

-- what a text says that ends here
abbrev pub journal_at : TextState → Option ParsedJournal
journal_at s = ended_in s.passed s.current (may_end_message s.awaits) s.journal

-- on from the state behind a token, or the place of a token that doesn't fit
abbrev pub behind_token : Option TextState → ℕ → (TextState → Result TextState ℕ) → Result TextState ℕ
behind_token None at more = Err at
behind_token (Some s) at more = more s

-- the state behind all tokens, or the place of the first that doesn't fit
abbrev pub run_tokens : TextState → List (ℕ × Token) → Result TextState ℕ
run_tokens s [] = Ok s
run_tokens s (t ∷ ts) = behind_token (state_behind s t.1) t.0 (λ u. run_tokens u ts)

abbrev pub whole_journal : ℕ → Option ParsedJournal → Result ParsedJournal ℕ
whole_journal size (Some j) = Ok j
whole_journal size None = Err size

abbrev pub run_ended : ℕ → Result TextState ℕ → Result ParsedJournal ℕ
run_ended size (Ok s) = whole_journal size (journal_at s)
run_ended size (Err at) = Err at

-- what a text says, or the place from which it is no journal text
abbrev pub parsed_journal : List ℕ → Result ParsedJournal ℕ
parsed_journal text = run_ended (length text) (run_tokens first_state (tokens text))
