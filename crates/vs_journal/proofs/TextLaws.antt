-- A text says a journal exactly where its tokens are one, and none from the first token with which none goes on.
use Rattle.std.proofs.Common.{◌≡◌, ◌∙◌, ◌++◌, ◌<◌, ◌≤◌, ◌-◌, inl, inr, ℕ, zero, suc, true, List, [], ◌∷◌, Option, Some, None, Result, Ok, Err, length, refl, ap, sym, arith, cond, append-nil, false, subst}
use Rattle.std.specs.Option.{option_and_then}
use Rattle.std.specs.Prelude.{◌⊎◌}
use Rattle.vs_journal.specs.Grammar.{first_state, journal_at, parsed_journal, state_behind, with_member, whole_journal}
use Rattle.vs_journal.specs.Productions.{IsJournal, EndsEarly, GoesOnRightly, GoesOnWithNoString, GoesOnWithNoToken, GoesOnWrongly, IsJournalText, IsNoJournalFrom, JournalsAreProductions}
use Rattle.vs_journal.specs.Tokens.{NextToken, next_token}
use Rattle.vs_journal.specs.declared.token.Bracket.{Bracket}
use Rattle.vs_journal.specs.declared.token.Bracket.TheVariants.{Curly}
use Rattle.vs_journal.specs.declared.token.Token.{Token}
use Rattle.vs_journal.specs.declared.token.Token.TheVariants as token
use Rattle.vs_journal.specs.declared.parsed.ParsedJournal.{ParsedJournal}
use Rattle.vs_journal.specs.declared.state.FieldName.{FieldName}
use Rattle.vs_journal.specs.declared.state.FieldName.TheVariants as field
use Rattle.vs_journal.specs.declared.state.Awaits.{Awaits}
use Rattle.vs_journal.specs.declared.state.Awaits.TheVariants.{Name, Behind, BehindText, BehindName, Value, FirstItem, Item, BehindItem, BehindItemText}
use Rattle.vs_journal.specs.declared.state.Role.TheVariants as role
use Rattle.vs_journal.specs.declared.state.OpenMember.{OpenMember}
use Rattle.vs_journal.specs.declared.state.TextState.{TextState}
use Rattle.vs_journal.proofs.AcceptLaws.{accept, at, same_brackets, open_member}
use Rattle.vs_journal.specs.Grammar.{no_member}
use Rattle.vs_journal.proofs.JournalLaws.{journal_found, journal_taken}
use Rattle.vs_journal.proofs.CutTexts.{BeginsWithTokens, cut_is_spelled, found_as, place_in_text, reached, spelled_is_cut}
use Rattle.vs_journal.specs.Spellings.{SpellsTokens}
use Rattle.vs_journal.proofs.FrontLaws.{IsWritable, IsWritten, closing, colon, comma, letter, list_end, no_bytes, none_written, one_more_written, opening, spelled_more, tokens_front, zero_number}
use Rattle.vs_journal.proofs.TokenLaws.{NextFound, none_taken}
use Rattle.vs_journal.proofs.ReadLemmas.{leaves_less, meant-ended, meant-more, meant-stopped, meant_from}

-- ---- each state can go on

abbrev CanEnd : TextState → Type 0
CanEnd s = (more : List Token) × (j : ParsedJournal) × (accept s more ≡ Some j) × IsWritten more

ends_from_name : (j : ParsedJournal) (c : Option OpenMember) (p : List Bracket) → CanEnd (at j c p Name)
ends_from_name j None [] = ([], j, refl, none_written)
ends_from_name j (Some o) [] =
    (token.Close o.bracket ∷ [], with_member o.role o.member j, ap (λ v. option_and_then (λ u. accept u []) (cond v (Some (at (with_member o.role o.member j) None [] Behind)) None)) (same_brackets o.bracket), one_more_written (token.Close o.bracket) [] (closing o.bracket) none_written)
ends_from_name j c (b ∷ p) =
    let later = ends_from_name j c p in
    (token.Close b ∷ token.Comma ∷ later.0, later.1, ap (λ v. option_and_then (λ u. accept u (token.Comma ∷ later.0)) (cond v (Some (at j c p Behind)) None)) (same_brackets b) ∙ later.2, one_more_written (token.Close b) (token.Comma ∷ later.0) (closing b) (one_more_written token.Comma later.0 comma later.3))

behind_it : (t : Token) (s u : TextState) → IsWritable t → state_behind s t ≡ Some u → CanEnd u → CanEnd s
behind_it t s u w h later = (t ∷ later.0, later.1, ap (option_and_then (λ v. accept v later.0)) h ∙ later.2, one_more_written t later.0 w later.3)

ends_from_behind : (j : ParsedJournal) (c : Option OpenMember) (p : List Bracket) → CanEnd (at j c p Behind)
ends_from_behind j c p = behind_it token.Comma (at j c p Behind) (at j c p Name) comma refl (ends_from_name j c p)

ends_from_text : (f : FieldName) (j : ParsedJournal) (c : Option OpenMember) (p : List Bracket) → CanEnd (at j c p (BehindText f))
ends_from_text f j c p = behind_it token.Comma (at j c p (BehindText f)) (at j c p Name) comma refl (ends_from_name j c p)

ends_from_value : (f : FieldName) (j : ParsedJournal) (c : Option OpenMember) (p : List Bracket) → CanEnd (at j c p (Value f))
ends_from_value field.Id j c p = behind_it (token.Number true (Some 0)) (at j c p (Value field.Id)) _ (zero_number true) refl (ends_from_behind _ c p)
ends_from_value field.MigrationType j c p = behind_it (token.Number false (Some 0)) (at j c p (Value field.MigrationType)) _ (zero_number false) refl (ends_from_behind _ c p)
ends_from_value field.ShardGtids j c p = behind_it (token.Open Curly) (at j c p (Value field.ShardGtids)) (at j (Some (open_member role.Successor Curly no_member)) p Name) opening refl (ends_from_name j (Some (open_member role.Successor Curly no_member)) p)
ends_from_value field.Participants j c p = behind_it (token.Open Curly) (at j c p (Value field.Participants)) (at j (Some (open_member role.Participant Curly no_member)) p Name) opening refl (ends_from_name j (Some (open_member role.Participant Curly no_member)) p)
ends_from_value field.Keyspace j c p = behind_it (token.Bytes []) (at j c p (Value field.Keyspace)) _ no_bytes refl (ends_from_text field.Keyspace j _ p)
ends_from_value field.Shard j c p = behind_it (token.Bytes []) (at j c p (Value field.Shard)) _ no_bytes refl (ends_from_text field.Shard j _ p)
ends_from_value field.Gtid j c p = behind_it (token.Bytes []) (at j c p (Value field.Gtid)) _ no_bytes refl (ends_from_text field.Gtid j _ p)
ends_from_value field.Unknown j c p = behind_it (token.Word (0x61 ∷ [])) (at j c p (Value field.Unknown)) _ letter refl (ends_from_behind j c p)

ends_from_item : (j : ParsedJournal) (c : Option OpenMember) (p : List Bracket) → CanEnd (at j c p BehindItem)
ends_from_item j c p = behind_it token.CloseList (at j c p BehindItem) _ list_end refl (ends_from_behind j c p)

ends_from : (a : Awaits) (j : ParsedJournal) (c : Option OpenMember) (p : List Bracket) → CanEnd (at j c p a)
ends_from Name j c p = ends_from_name j c p
ends_from Behind j c p = ends_from_behind j c p
ends_from (BehindText f) j c p = ends_from_text f j c p
ends_from (BehindName f) j c p = behind_it token.Colon (at j c p (BehindName f)) (at j c p (Value f)) colon refl (ends_from_value f j c p)
ends_from (Value f) j c p = ends_from_value f j c p
ends_from FirstItem j c p = behind_it token.CloseList (at j c p FirstItem) _ list_end refl (ends_from_behind j c p)
ends_from Item j c p = behind_it (token.Word (0x61 ∷ [])) (at j c p Item) _ letter refl (ends_from_item j c p)
ends_from BehindItem j c p = ends_from_item j c p
ends_from BehindItemText j c p = behind_it token.CloseList (at j c p BehindItemText) _ list_end refl (ends_from_behind j c p)

can_end : (s : TextState) → CanEnd s
can_end s = ends_from s.awaits s.journal s.current s.passed

-- ---- from a text to its tokens

accept_on : (o : Option TextState) (ts more : List Token) (u : TextState) → ((s : TextState) → reached s ts ≡ Some u → accept s (ts ++ more) ≡ accept u more) → option_and_then (λ s. reached s ts) o ≡ Some u → option_and_then (λ s. accept s (ts ++ more)) o ≡ accept u more
accept_on None ts more u later h = absurd (cc)
accept_on (Some s) ts more u later h = later s h

accept_behind : (ts more : List Token) (s u : TextState) → reached s ts ≡ Some u → accept s (ts ++ more) ≡ accept u more
accept_behind [] more s u h = let same : s ≡ u = cc in ap (λ v. accept v more) same
accept_behind (t ∷ ts) more s u h = accept_on (state_behind s t) ts more u (λ v. accept_behind ts more v u) h

abbrev Blocks : TextState → Option NextToken → Type 0
Blocks u None = journal_at u ≡ None
Blocks u (Some next) = state_behind u next.1.0 ≡ None

-- a run over a text: it ends with what its tokens say, or stops
abbrev Runs : TextState → ℕ → List ℕ → Result ParsedJournal ℕ → Type 0
Runs s size text (Ok j) = (ts : List Token) × (rest : List ℕ) × BeginsWithTokens text ts rest × (next_token rest ≡ None) × (accept s ts ≡ Some j)
Runs s size text (Err spot) = (ts : List Token) × (rest : List ℕ) × (u : TextState) × BeginsWithTokens text ts rest × (reached s ts ≡ Some u) × (o : Option NextToken) × (next_token rest ≡ o) × Blocks u o × (spot ≡ place_in_text size o)

run_more : (s u : TextState) (size : ℕ) (text : List ℕ) (next : NextToken) (r : Result ParsedJournal ℕ) → next_token text ≡ Some next → state_behind s next.1.0 ≡ Some u → Runs u size next.1.1 r → Runs s size text r
run_more s u size text next (Ok j) e fits h = (next.1.0 ∷ h.0, h.1, (next.0, next.1.1, e, h.2), h.3, ap (option_and_then (λ v. accept v h.0)) fits ∙ h.4)
run_more s u size text next (Err spot) e fits h = (next.1.0 ∷ h.0, h.1, h.2, (next.0, next.1.1, e, h.3), ap (option_and_then (λ v. reached v h.0)) fits ∙ h.4, h.5, h.6, h.7, h.8)

run_ends : (s : TextState) (size : ℕ) (text : List ℕ) (o : Option ParsedJournal) → next_token text ≡ None → journal_at s ≡ o → Runs s size text (whole_journal size o)
run_ends s size text None e k = ([], text, s, refl, refl, None, e, k, refl)
run_ends s size text (Some j) e k = ([], text, refl, e, k)

run_fits : (size : ℕ) (text : List ℕ) (s : TextState) (n : ℕ) (next : NextToken) (o : Option TextState) → length text ≤ n → next_token text ≡ Some next → state_behind s next.1.0 ≡ o → ((u : TextState) (m : ℕ) → length next.1.1 ≤ m → Runs u size next.1.1 (meant_from u m size next.1.1)) → Runs s size text (meant_from s n size text)
run_fits size text s n next None few e fits later =
    subst (Runs s size text) (sym (meant-stopped s n size text next e fits few)) ([], text, s, refl, refl, Some next, e, fits, refl)
run_fits size text s n next (Some u) few e fits later =
    let more = meant-more s u n size text next e fits few in
    subst (Runs s size text) more.2 (run_more s u size text next (meant_from u more.0 size next.1.1) e fits (later u more.0 more.1))

run_next : (size : ℕ) (text : List ℕ) (s : TextState) (n : ℕ) (o : Option NextToken) → length text ≤ n → next_token text ≡ o → ((rest : List ℕ) → length rest < length text → (u : TextState) (m : ℕ) → length rest ≤ m → Runs u size rest (meant_from u m size rest)) → Runs s size text (meant_from s n size text)
run_next size text s n None few e later = subst (Runs s size text) (sym (meant-ended s n size text e)) (run_ends s size text (journal_at s) e refl)
run_next size text s n (Some next) few e later = run_fits size text s n next (state_behind s next.1.0) few e refl (later next.1.1 (leaves_less text next e).0)

runs : (k size : ℕ) (text : List ℕ) (s : TextState) (n : ℕ) → length text < k → length text ≤ n → Runs s size text (meant_from s n size text)
runs zero size text s n short few = absurd (omega arith)
runs (suc k) size text s n short few = run_next size text s n (next_token text) few refl (λ rest less u m fits. runs k size rest u m (omega arith) fits)

text_runs : (text : List ℕ) → Runs first_state (length text) text (parsed_journal text)
text_runs text = runs (suc (length text)) (length text) text first_state (length text) (omega arith) (omega arith)

-- ---- and back

fit_runs : (size : ℕ) (text : List ℕ) (s : TextState) (n : ℕ) (next : NextToken) (ts : List Token) (j : ParsedJournal) (o : Option TextState) → length text ≤ n → next_token text ≡ Some next → state_behind s next.1.0 ≡ o → option_and_then (λ u. accept u ts) o ≡ Some j → ((u : TextState) (m : ℕ) → length next.1.1 ≤ m → accept u ts ≡ Some j → meant_from u m size next.1.1 ≡ Ok j) → meant_from s n size text ≡ Ok j
fit_runs size text s n next ts j None few e fits h later = absurd (cc)
fit_runs size text s n next ts j (Some u) few e fits h later =
    let more = meant-more s u n size text next e fits few in
    sym more.2 ∙ later u more.0 more.1 h

tokens_run : (ts : List Token) (size : ℕ) (text rest : List ℕ) (s : TextState) (n : ℕ) (j : ParsedJournal) → length text ≤ n → BeginsWithTokens text ts rest → next_token rest ≡ None → accept s ts ≡ Some j → meant_from s n size text ≡ Ok j
tokens_run [] size text rest s n j few b none h = meant-ended s n size text (ap next_token b ∙ none) ∙ ap (whole_journal size) h
tokens_run (t ∷ ts) size text rest s n j few b none h =
    fit_runs size text s n (b.0, (t, b.1)) ts j (state_behind s t) few b.2 refl h (λ u m fits k. tokens_run ts size b.1 rest u m j fits b.3 none k)

-- ---- the law

-- what is accepted ends in some state
abbrev Ended : TextState → List Token → Type 0
Ended s ts = (u : TextState) × (reached s ts ≡ Some u)

ended_by : (ts : List Token) (s : TextState) (j : ParsedJournal) → accept s ts ≡ Some j → Ended s ts
ended_by [] s j h = (s, refl)
ended_by (t ∷ ts) s j h = go (state_behind s t) refl h (λ v k. ended_by ts v j k)
  where
    go : (o : Option TextState) → state_behind s t ≡ o → option_and_then (λ v. accept v ts) o ≡ Some j → ((v : TextState) → accept v ts ≡ Some j → Ended v ts) → Ended s (t ∷ ts)
    go None e k later = absurd (cc)
    go (Some v) e k later = (let end = later v k in (end.0, ap (option_and_then (λ w. reached w ts)) e ∙ end.1))

said_so : (text : List ℕ) (j : ParsedJournal) (r : Result ParsedJournal ℕ) → r ≡ Ok j → Runs first_state (length text) text r → IsJournalText text j
said_so text j (Ok k) e h =
    let same : k ≡ j = cc in
    let end = ended_by h.0 first_state k h.4 in
    (h.0, (h.1, cut_is_spelled h.0 first_state end.0 text h.1 h.2 end.1, found_as h.1 None h.3), journal_found h.0 j (h.4 ∙ ap Some same))
said_so text j (Err spot) e h = absurd (cc)

-- what is wrong behind the tokens that fit
abbrev Stops : List Token → List ℕ → ℕ → ℕ → Type 0
Stops before rest size spot = EndsEarly before rest size spot ⊎ (GoesOnWrongly before rest size spot ⊎ (GoesOnWithNoToken rest size spot ⊎ GoesOnWithNoString rest size spot))

stops_at : (ts : List Token) (rest : List ℕ) (size left : ℕ) (t : Token) (behind : List ℕ) → NextFound rest (Some (left, (t, behind))) → ((more : List Token) (j : ParsedJournal) → IsJournal (ts ++ t ∷ more) j → ⊥) → Stops ts rest size (size - left)
stops_at ts rest size left token.Wrong behind found misfit = inr (inr (inl (found.0, found.1, found.2, found.3, found.4.0, ap (λ n. size - n) found.4.1)))
stops_at ts rest size left (token.Faulty place) behind found misfit = inr (inr (inr (found.0, found.1, left, found.2, found.3, found.4, refl)))
stops_at ts rest size left (token.Word w) behind found misfit = inr (inl (found.0, found.1, behind, token.Word w, found.2, found.3, found.4.0, misfit, ap (λ n. size - n) found.4.1))
stops_at ts rest size left (token.Number n m) behind found misfit = inr (inl (found.0, found.1, behind, token.Number n m, found.2, found.3, found.4.0, misfit, ap (λ n. size - n) found.4.1))
stops_at ts rest size left (token.Bytes b) behind found misfit = inr (inl (found.0, found.1, behind, token.Bytes b, found.2, found.3, found.4.0, misfit, ap (λ n. size - n) found.4.1))
stops_at ts rest size left token.Colon behind found misfit = inr (inl (found.0, found.1, behind, token.Colon, found.2, found.3, found.4.0, misfit, ap (λ n. size - n) found.4.1))
stops_at ts rest size left token.Comma behind found misfit = inr (inl (found.0, found.1, behind, token.Comma, found.2, found.3, found.4.0, misfit, ap (λ n. size - n) found.4.1))
stops_at ts rest size left token.Semicolon behind found misfit = inr (inl (found.0, found.1, behind, token.Semicolon, found.2, found.3, found.4.0, misfit, ap (λ n. size - n) found.4.1))
stops_at ts rest size left token.OpenList behind found misfit = inr (inl (found.0, found.1, behind, token.OpenList, found.2, found.3, found.4.0, misfit, ap (λ n. size - n) found.4.1))
stops_at ts rest size left token.CloseList behind found misfit = inr (inl (found.0, found.1, behind, token.CloseList, found.2, found.3, found.4.0, misfit, ap (λ n. size - n) found.4.1))
stops_at ts rest size left (token.Open b) behind found misfit = inr (inl (found.0, found.1, behind, token.Open b, found.2, found.3, found.4.0, misfit, ap (λ n. size - n) found.4.1))
stops_at ts rest size left (token.Close b) behind found misfit = inr (inl (found.0, found.1, behind, token.Close b, found.2, found.3, found.4.0, misfit, ap (λ n. size - n) found.4.1))

-- no journal has these tokens and one that the state behind them doesn't take; nor they alone, where the state is no end
misfits : (ts : List Token) (u : TextState) (t : Token) → reached first_state ts ≡ Some u → state_behind u t ≡ None → (more : List Token) (j : ParsedJournal) → IsJournal (ts ++ t ∷ more) j → ⊥
misfits ts u t r stuck more j is =
    let taken = sym (journal_taken (ts ++ t ∷ more) j is) ∙ accept_behind ts (t ∷ more) first_state u r in
    let none = ap (option_and_then (λ v. accept v more)) stuck in
    let clash : Some j ≡ None = taken ∙ none in
    absurd (cc)

no_end : (ts : List Token) (u : TextState) → reached first_state ts ≡ Some u → journal_at u ≡ None → (j : ParsedJournal) → IsJournal ts j → ⊥
no_end ts u r stuck j is =
    let whole = sym (journal_taken ts j is) ∙ ap (accept first_state) (sym (append-nil ts)) ∙ accept_behind ts [] first_state u r in
    let clash : Some j ≡ None = whole ∙ stuck in
    absurd (cc)

stopped : (ts : List Token) (u : TextState) (rest : List ℕ) (size : ℕ) (o : Option NextToken) → reached first_state ts ≡ Some u → NextFound rest o → Blocks u o → Stops ts rest size (place_in_text size o)
stopped ts u rest size None r found blocks = inl (found, no_end ts u r blocks, refl)
stopped ts u rest size (Some next) r found blocks = stops_at ts rest size next.0 next.1.0 next.1.1 found (misfits ts u next.1.0 r blocks)

-- what is written behind the tokens makes a journal's text of them
goes_on : (ts more : List Token) (text rest : List ℕ) (j : ParsedJournal) → SpellsTokens text ts rest → IsWritten more → IsJournal (ts ++ more) j → GoesOnRightly text rest
goes_on ts more text rest j begins written is =
    let front = tokens_front ts text rest begins in
    let spelled = spelled_more ts more (front.0 ++ written.0) written.0 [] (front.2 written.0 written.1) written.2 in
    (front.0, written.0, j, front.1, (ts ++ more, ([], spelled, inl ([], refl)), is))

none_so : (text : List ℕ) (spot : ℕ) (r : Result ParsedJournal ℕ) → r ≡ Err spot → Runs first_state (length text) text r → IsNoJournalFrom text spot
none_so text spot (Ok j) e h = absurd (cc)
none_so text spot (Err place) e h =
    let same : place ≡ spot = cc in
    let ts = h.0 in
    let u = h.2 in
    let on = can_end u in
    let begins = cut_is_spelled ts first_state u text h.1 h.3 h.4 in
    record {
      before = ts;
      rest = h.1;
      begins = begins;
      goes_on = goes_on ts on.0 text h.1 on.1 begins on.3 (journal_found (ts ++ on.0) on.1 (accept_behind ts on.0 first_state u h.4 ∙ on.2));
      stops = subst (Stops ts h.1 (length text)) (sym h.8 ∙ same) (stopped ts u h.1 (length text) h.5 h.4 (found_as h.1 h.5 h.6) h.7);
    }

pub journals_are_productions : JournalsAreProductions
journals_are_productions = record {
  some = λ text j e. said_so text j (parsed_journal text) e (text_runs text);
  all = λ text j h. tokens_run h.0 (length text) text h.1.0 first_state (length text) j (omega arith) (spelled_is_cut h.0 text h.1.0 h.1.1) (none_taken h.1.0 h.1.2) (journal_taken h.0 j h.2);
  place = λ text spot e. none_so text spot (parsed_journal text) e (text_runs text);
}
