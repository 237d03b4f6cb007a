-- Journal texts cut into tokens by the function that reads them, in place of the productions' spellings.
use Rattle.std.proofs.Common.{◌≡◌, ◌∙◌, ◌-◌, ℕ, List, [], ◌∷◌, Option, Some, None, refl, ap, sym, subst}
use Rattle.std.specs.Option.{option_and_then}
use Rattle.vs_journal.specs.Grammar.{state_behind}
use Rattle.vs_journal.specs.Spellings.{IsTokenAt, SpellsTokens}
use Rattle.vs_journal.specs.Tokens.{NextToken, next_token}
use Rattle.vs_journal.specs.declared.token.Token.{Token}
use Rattle.vs_journal.specs.declared.token.Token.TheVariants as token
use Rattle.vs_journal.specs.declared.state.FieldName.{FieldName}
use Rattle.vs_journal.specs.declared.state.FieldName.TheVariants as field
use Rattle.vs_journal.specs.declared.state.Awaits.{Awaits}
use Rattle.vs_journal.specs.declared.state.Awaits.TheVariants.{Name, Behind, BehindText, BehindName, Value, FirstItem, Item, BehindItem, BehindItemText}
use Rattle.vs_journal.specs.declared.state.TextState.{TextState}
use Rattle.vs_journal.specs.Grammar.{awaited, behind_colon}
use Rattle.vs_journal.proofs.TokenLaws.{SaidAt, next_found, next_taken, NextFound}

-- the text is cut into these tokens, and this is left
abbrev pub BeginsWithTokens : List ℕ → List Token → List ℕ → Type 0
BeginsWithTokens text [] rest = text ≡ rest
BeginsWithTokens text (t ∷ ts) rest = (left : ℕ) × (behind : List ℕ) × (next_token text ≡ Some (left, (t, behind))) × BeginsWithTokens behind ts rest

-- the place in a text of so many bytes at which the next token stands, or the text ends
abbrev pub place_in_text : ℕ → Option NextToken → ℕ
place_in_text size None = size
place_in_text size (Some next) = size - next.0

abbrev pub reached : TextState → List Token → Option TextState
reached s [] = Some s
reached s (t ∷ ts) = option_and_then (λ u. reached u ts) (state_behind s t)

-- ---- what is spelled is cut so

pub spelled_is_cut : (ts : List Token) (text rest : List ℕ) → SpellsTokens text ts rest → BeginsWithTokens text ts rest
spelled_is_cut [] text rest h = h
spelled_is_cut (t ∷ ts) text rest h =
    let gap = h.0 in
    (_, h.2, ap next_token h.3 ∙ next_taken gap h.1 t h.2 h.4 h.5, spelled_is_cut ts h.2 rest h.6)

-- ---- and what is cut into tokens that fit is spelled so

-- no state takes what is no token
wrong_value : (f : FieldName) (s : TextState) → behind_colon f s token.Wrong ≡ None
wrong_value field.Id s = refl
wrong_value field.MigrationType s = refl
wrong_value field.ShardGtids s = refl
wrong_value field.Participants s = refl
wrong_value field.Keyspace s = refl
wrong_value field.Shard s = refl
wrong_value field.Gtid s = refl
wrong_value field.Unknown s = refl

pub wrong_stops : (a : Awaits) (s : TextState) → awaited a s token.Wrong ≡ None
wrong_stops Name s = refl
wrong_stops Behind s = refl
wrong_stops (BehindText f) s = refl
wrong_stops (BehindName f) s = refl
wrong_stops (Value f) s = wrong_value f s
wrong_stops FirstItem s = refl
wrong_stops Item s = refl
wrong_stops BehindItem s = refl
wrong_stops BehindItemText s = refl

faulty_value : (f : FieldName) (left : ℕ) (s : TextState) → behind_colon f s (token.Faulty left) ≡ None
faulty_value field.Id left s = refl
faulty_value field.MigrationType left s = refl
faulty_value field.ShardGtids left s = refl
faulty_value field.Participants left s = refl
faulty_value field.Keyspace left s = refl
faulty_value field.Shard left s = refl
faulty_value field.Gtid left s = refl
faulty_value field.Unknown left s = refl

pub faulty_stops : (a : Awaits) (left : ℕ) (s : TextState) → awaited a s (token.Faulty left) ≡ None
faulty_stops Name left s = refl
faulty_stops Behind left s = refl
faulty_stops (BehindText f) left s = refl
faulty_stops (BehindName f) left s = refl
faulty_stops (Value f) left s = faulty_value f left s
faulty_stops FirstItem left s = refl
faulty_stops Item left s = refl
faulty_stops BehindItem left s = refl
faulty_stops BehindItemText left s = refl

-- a token that fits is spelled
pub fitting : (s u : TextState) (here : List ℕ) (left : ℕ) (t : Token) (rest : List ℕ) → state_behind s t ≡ Some u → SaidAt here (left, (t, rest)) → IsTokenAt here t rest
fitting s u here left token.Wrong rest h said = (let clash : None ≡ Some u = sym (wrong_stops s.awaits s) ∙ h in absurd (cc))
fitting s u here left (token.Faulty place) rest h said = (let clash : None ≡ Some u = sym (faulty_stops s.awaits place s) ∙ h in absurd (cc))
fitting s u here left (token.Word w) rest h said = said.0
fitting s u here left (token.Number n size) rest h said = said.0
fitting s u here left (token.Bytes b) rest h said = said.0
fitting s u here left token.Colon rest h said = said.0
fitting s u here left token.Comma rest h said = said.0
fitting s u here left token.Semicolon rest h said = said.0
fitting s u here left token.OpenList rest h said = said.0
fitting s u here left token.CloseList rest h said = said.0
fitting s u here left (token.Open b) rest h said = said.0
fitting s u here left (token.Close b) rest h said = said.0

-- what the next token is, where it is this one
pub found_as : (text : List ℕ) (o : Option NextToken) → next_token text ≡ o → NextFound text o
found_as text o e = go (next_token text) e (next_found text)
  where
    go : (q : Option NextToken) → q ≡ o → NextFound text q → NextFound text o
    go q same found = subst (NextFound text) same found

pub cut_is_spelled : (ts : List Token) (s u : TextState) (text rest : List ℕ) → BeginsWithTokens text ts rest → reached s ts ≡ Some u → SpellsTokens text ts rest
cut_is_spelled [] s u text rest h r = h
cut_is_spelled (t ∷ ts) s u text rest h r = go (state_behind s t) refl r (λ v k. cut_is_spelled ts v u h.1 rest h.3 k)
  where
    go : (o : Option TextState) → state_behind s t ≡ o → option_and_then (λ v. reached v ts) o ≡ Some u → ((v : TextState) → reached v ts ≡ Some u → SpellsTokens h.1 ts rest) → SpellsTokens text (t ∷ ts) rest
    go None e k later = absurd (cc)
    go (Some v) e k later =
        let found = found_as text (Some (h.0, (t, h.1))) h.2 in
        (found.0, found.1, h.1, found.2, found.3, fitting s v found.1 h.0 t h.1 e found.4, later v k)
