-- Journal texts by productions: which tokens in a row are a journal, and what they say; and which texts are spelled so.
use Rattle.std.specs.Prelude.{◌≡◌, ◌-◌, ◌⊎◌, ℕ, zero, suc, Bool, true, false, List, [], ◌∷◌, ◌++◌, length, map, Option, Some, None, Ok, Err, ℤ}
use Rattle.std.specs.List.{concat}
use Rattle.vs_journal.specs.Grammar.{id_of, journal_field, kind_named, kind_numbered, member_field, no_journal, no_member, parsed_journal, set_text, with_member}
use Rattle.vs_journal.specs.Spellings.{HasNoString, HasNoToken, IsGap, IsLastGap, IsTokenAt, SpellsTokens}
use Rattle.vs_journal.specs.declared.token.Bracket.{Bracket}
use Rattle.vs_journal.specs.declared.token.Token.{Token}
use Rattle.vs_journal.specs.declared.token.Token.TheVariants as token
use Rattle.vs_journal.specs.declared.parsed.Member.{Member}
use Rattle.vs_journal.specs.declared.parsed.ParsedJournal.{ParsedJournal}
use Rattle.vs_journal.specs.declared.state.FieldName.{FieldName}
use Rattle.vs_journal.specs.declared.state.FieldName.TheVariants as field
use Rattle.vs_journal.specs.declared.state.Role.{Role}
use Rattle.vs_journal.specs.declared.state.Role.TheVariants as role

-- ---- scalars and lists

-- strings one behind the other, which say one text
abbrev pub AreStrings : List Token → List ℕ → Type 0
AreStrings ts text = (b : List ℕ) × (bs : List (List ℕ)) × (ts ≡ token.Bytes b ∷ map (λ c. token.Bytes c) bs) × (text ≡ b ++ concat bs)

-- a name, a number, or strings
abbrev pub IsScalar : List Token → Type 0
IsScalar ts = ((w : List ℕ) × (ts ≡ token.Word w ∷ [])) ⊎ (((n : Bool) × (size : Option ℕ) × (ts ≡ token.Number n size ∷ [])) ⊎ ((text : List ℕ) × AreStrings ts text))

-- scalars, each behind a comma
abbrev pub AreMoreItems : List Token → List (List Token) → Type 0
AreMoreItems ts [] = ts ≡ []
AreMoreItems ts (item ∷ items) = (rest : List Token) × (ts ≡ token.Comma ∷ (item ++ rest)) × IsScalar item × AreMoreItems rest items

abbrev pub IsItemList : List Token → Type 0
IsItemList ts =
    (ts ≡ token.OpenList ∷ token.CloseList ∷ [])
    ⊎ ((item more : List Token) × (items : List (List Token)) × (ts ≡ token.OpenList ∷ (item ++ (more ++ token.CloseList ∷ []))) × IsScalar item × AreMoreItems more items)

-- ---- fields

abbrev pub IsSeparator : List Token → Type 0
IsSeparator ts = (ts ≡ []) ⊎ ((ts ≡ token.Comma ∷ []) ⊎ (ts ≡ token.Semicolon ∷ []))

-- fields one behind the other: a name, what makes this setting behind it, and maybe a separator
abbrev pub AreFields : {S : Type 0} → (List ℕ → List Token → S → Type 0) → List Token → List S → Type 0
AreFields F ts [] = ts ≡ []
AreFields F ts (s ∷ settings) = (name : List ℕ) × (value separator rest : List Token) × (ts ≡ token.Word name ∷ (value ++ (separator ++ rest))) × F name value s × IsSeparator separator × AreFields F rest settings

-- what settings make of something, one after another
abbrev pub settled : {S C : Type 0} → (C → S → C) → C → List S → C
settled set x [] = x
settled set x (s ∷ settings) = settled set (set x s) settings

abbrev pub IsOptionalColon : List Token → Type 0
IsOptionalColon ts = (ts ≡ []) ⊎ (ts ≡ token.Colon ∷ [])

-- a message between two brackets of one kind
abbrev pub IsMessage : (List Token → Type 0) → List Token → Type 0
IsMessage Inner ts = (b : Bracket) × (colon inner : List Token) × (ts ≡ colon ++ (token.Open b ∷ (inner ++ token.Close b ∷ []))) × IsOptionalColon colon × Inner inner

abbrev pub IsScalarValue : List Token → Type 0
IsScalarValue ts = (s : List Token) × (ts ≡ token.Colon ∷ s) × IsScalar s

abbrev pub IsListValue : List Token → Type 0
IsListValue ts = (l : List Token) × (ts ≡ token.Colon ∷ l) × IsItemList l

-- any value that is well formed, with at most so many brackets one in another
abbrev pub IsUnknownValue : ℕ → List Token → Type 0
IsUnknownValue zero ts = IsScalarValue ts
IsUnknownValue (suc room) ts =
    IsScalarValue ts ⊎ (IsListValue ts ⊎ IsMessage (λ inner. (names : List (List ℕ)) × AreFields (λ name value (n : List ℕ). (n ≡ name) × IsUnknownValue room value) inner names) ts)

-- ---- participants and successors

-- whether a field is a string
abbrev pub is_text_field : FieldName → Bool
is_text_field field.Keyspace = true
is_text_field field.Shard = true
is_text_field field.Gtid = true
is_text_field other = false

-- a field's text, or a field that is passed over
abbrev pub MemberSetting : Type 0
MemberSetting = Option (FieldName × List ℕ)

abbrev pub IsMemberField : Role → List ℕ → List Token → MemberSetting → Type 0
IsMemberField of name value None = (member_field of name ≡ field.Unknown) × IsUnknownValue 31 value
IsMemberField of name value (Some f) = (member_field of name ≡ f.0) × (is_text_field f.0 ≡ true) × (s : List Token) × (value ≡ token.Colon ∷ s) × AreStrings s f.1

-- the last of a repeated field counts
abbrev pub member_with : Member → MemberSetting → Member
member_with m None = m
member_with m (Some f) = set_text f.0 f.1 m

abbrev pub IsMember : Role → List Token → Member → Type 0
IsMember of ts m = IsMessage (λ inner. (settings : List MemberSetting) × AreFields (IsMemberField of) inner settings × (settled member_with no_member settings ≡ m)) ts

-- ---- journals

pub data JournalSetting : Type 0 where
  SetsId : ℤ → JournalSetting
  SetsKind : Bool → JournalSetting
  NamesMember : Role → Member → JournalSetting
  SaysNothing : JournalSetting

abbrev pub kind_in : Token → Option Bool
kind_in (token.Word name) = kind_named name
kind_in (token.Number negative size) = kind_numbered negative size
kind_in other = None

-- the field that names participants, or successors
abbrev pub field_naming : Role → FieldName
field_naming role.Participant = field.Participants
field_naming role.Successor = field.ShardGtids

abbrev pub IsJournalField : List ℕ → List Token → JournalSetting → Type 0
IsJournalField name value (SetsId id) = (journal_field name ≡ field.Id) × (n : Bool) × (size : Option ℕ) × (value ≡ token.Colon ∷ token.Number n size ∷ []) × (id_of n size ≡ Some id)
IsJournalField name value (SetsKind shards) = (journal_field name ≡ field.MigrationType) × (t : Token) × (value ≡ token.Colon ∷ t ∷ []) × (kind_in t ≡ Some shards)
IsJournalField name value (NamesMember of m) = (journal_field name ≡ field_naming of) × IsMember of value m
IsJournalField name value SaysNothing = (journal_field name ≡ field.Unknown) × IsUnknownValue 32 value

-- the last id and the last kind count, and members stand in the order of the text
abbrev pub journal_with : ParsedJournal → JournalSetting → ParsedJournal
journal_with j (SetsId id) = record j { id = id }
journal_with j (SetsKind shards) = record j { shards = shards }
journal_with j (NamesMember of m) = with_member of m j
journal_with j SaysNothing = j

-- the tokens say this journal
abbrev pub IsJournal : List Token → ParsedJournal → Type 0
IsJournal ts j = (settings : List JournalSetting) × AreFields IsJournalField ts settings × (settled journal_with no_journal settings ≡ j)

-- ---- texts

-- tokens one behind the other, each behind a gap, and a last gap
abbrev pub IsSpelled : List ℕ → List Token → Type 0
IsSpelled text ts = (rest : List ℕ) × SpellsTokens text ts rest × IsLastGap rest

abbrev pub IsJournalText : List ℕ → ParsedJournal → Type 0
IsJournalText text j = (ts : List Token) × IsSpelled text ts × IsJournal ts j

-- what stands before the rest is the front of a journal's text
abbrev pub GoesOnRightly : List ℕ → List ℕ → Type 0
GoesOnRightly text rest = (front more : List ℕ) × (j : ParsedJournal) × (text ≡ front ++ rest) × IsJournalText (front ++ more) j

-- behind these tokens the text ends, at this place, and they say no journal
abbrev pub EndsEarly : List Token → List ℕ → ℕ → ℕ → Type 0
EndsEarly before rest size at = IsLastGap rest × ((j : ParsedJournal) → IsJournal before j → ⊥) × (at ≡ size)

-- behind them stands a token, at this place, with which no journal goes on
abbrev pub GoesOnWrongly : List Token → List ℕ → ℕ → ℕ → Type 0
GoesOnWrongly before rest size at =
    (gap here behind : List ℕ) × (t : Token) × (rest ≡ gap ++ here) × IsGap gap × IsTokenAt here t behind
    × ((more : List Token) (j : ParsedJournal) → IsJournal (before ++ t ∷ more) j → ⊥) × (at ≡ size - length here)

-- behind them stands what no token begins, at this place
abbrev pub GoesOnWithNoToken : List ℕ → ℕ → ℕ → Type 0
GoesOnWithNoToken rest size at = (gap here : List ℕ) × (rest ≡ gap ++ here) × IsGap gap × HasNoToken here × (at ≡ size - length here)

-- behind them begins a string that goes wrong at this place
abbrev pub GoesOnWithNoString : List ℕ → ℕ → ℕ → Type 0
GoesOnWithNoString rest size at = (gap here : List ℕ) × (left : ℕ) × (rest ≡ gap ++ here) × IsGap gap × HasNoString here left × (at ≡ size - left)

-- No journal's text goes on as this one does from a place on, and one goes on from what stands before it.
pub record IsNoJournalFrom (text : List ℕ) (at : ℕ) : Type 0 where
  -- the tokens before the place
  pub before : List Token
  pub rest : List ℕ
  pub begins : SpellsTokens text before rest
  pub goes_on : GoesOnRightly text rest
  pub stops : EndsEarly before rest (length text) at ⊎ (GoesOnWrongly before rest (length text) at ⊎ (GoesOnWithNoToken rest (length text) at ⊎ GoesOnWithNoString rest (length text) at))

-- a text is a journal's, or none from a place on, as it is read
pub record JournalsAreProductions : Type 0 where
  pub some : (text : List ℕ) (j : ParsedJournal) → parsed_journal text ≡ Ok j → IsJournalText text j
  pub all : (text : List ℕ) (j : ParsedJournal) → IsJournalText text j → parsed_journal text ≡ Ok j
  pub place : (text : List ℕ) (at : ℕ) → parsed_journal text ≡ Err at → IsNoJournalFrom text at
