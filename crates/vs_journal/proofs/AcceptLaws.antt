-- The machine takes what the productions say is a journal.
use Rattle.std.proofs.Common.{◌≡◌, ◌∙◌, ◌++◌, ◌+◌, ◌<◌, ◌≤◌, ℕ, zero, suc, Bool, true, List, [], ◌∷◌, Option, Some, None, length, map, refl, ap, sym, subst, inl, inr, append_assoc, append-nil, arith, cond}
use Rattle.std.specs.Prelude.{option_map, is_some}
use Rattle.std.specs.List.{concat}
use Rattle.std.specs.Option.{option_and_then}
use Rattle.std.proofs.lemmas.Bool.{lt-ltb}
use Rattle.vs_journal.specs.Grammar.{journal_at, no_member, set_text, state_behind, with_member, same_bracket}
use Rattle.vs_journal.specs.Productions.{AreFields, AreMoreItems, IsItemList, IsJournalField, IsMember, IsMemberField, IsOptionalColon, IsScalar, IsSeparator, IsUnknownValue, JournalSetting, SetsId, SetsKind, NamesMember, SaysNothing, is_text_field, journal_with, kind_in, member_with, settled, field_naming}
use Rattle.vs_journal.specs.declared.token.Bracket.{Bracket}
use Rattle.vs_journal.specs.declared.token.Bracket.TheVariants.{Curly, Angle}
use Rattle.vs_journal.specs.declared.token.Token.{Token}
use Rattle.vs_journal.specs.declared.token.Token.TheVariants as token
use Rattle.vs_journal.specs.declared.parsed.Member.{Member}
use Rattle.vs_journal.specs.declared.parsed.ParsedJournal.{ParsedJournal}
use Rattle.vs_journal.specs.declared.state.FieldName.{FieldName}
use Rattle.vs_journal.specs.declared.state.FieldName.TheVariants as field
use Rattle.vs_journal.specs.declared.state.Awaits.{Awaits}
use Rattle.vs_journal.specs.declared.state.Awaits.TheVariants.{Name, Behind, BehindText, BehindName, Value, FirstItem, Item, BehindItem, BehindItemText}
use Rattle.vs_journal.specs.declared.state.Role.{Role}
use Rattle.vs_journal.specs.declared.state.Role.TheVariants as role
use Rattle.vs_journal.specs.declared.state.OpenMember.{OpenMember}
use Rattle.vs_journal.specs.declared.state.TextState.{TextState}

-- what a text says that goes on with these tokens and ends
abbrev pub accept : TextState → List Token → Option ParsedJournal
accept s [] = journal_at s
accept s (t ∷ ts) = option_and_then (λ u. accept u ts) (state_behind s t)

abbrev pub at : ParsedJournal → Option OpenMember → List Bracket → Awaits → TextState
at j c p a = record { journal = j; current = c; passed = p; awaits = a }

abbrev pub open_at : Option OpenMember → List Bracket → ℕ
open_at c p = length p + cond (is_some c) 1 0

-- ---- what may follow

abbrev pub NoBytes : List Token → Type 0
NoBytes (token.Bytes b ∷ ts) = ⊥
NoBytes ts = Unit {0}

abbrev pub NoSeparator : List Token → Type 0
NoSeparator (token.Comma ∷ ts) = ⊥
NoSeparator (token.Semicolon ∷ ts) = ⊥
NoSeparator ts = Unit {0}

-- a field, the end of a message, or the end
abbrev pub Follows : List Token → Type 0
Follows [] = Unit {0}
Follows (token.Word w ∷ ts) = Unit {0}
Follows (token.Close b ∷ ts) = Unit {0}
Follows ts = ⊥

no_separator : (ts : List Token) → Follows ts → NoSeparator ts
no_separator [] h = tt
no_separator (token.Word w ∷ ts) h = tt
no_separator (token.Close b ∷ ts) h = tt
no_separator (t ∷ ts) h = absurd h

no_bytes : (ts : List Token) → Follows ts → NoBytes ts
no_bytes [] h = tt
no_bytes (token.Word w ∷ ts) h = tt
no_bytes (token.Close b ∷ ts) h = tt
no_bytes (t ∷ ts) h = absurd h

behind_separator : (sep r : List Token) → IsSeparator sep → Follows r → NoBytes (sep ++ r)
behind_separator sep r (inl e) h = subst (λ q. NoBytes (q ++ r)) (sym e) (no_bytes r h)
behind_separator sep r (inr (inl e)) h = subst (λ q. NoBytes (q ++ r)) (sym e) tt
behind_separator sep r (inr (inr e)) h = subst (λ q. NoBytes (q ++ r)) (sym e) tt

fields_follow : {S : Type 0} (F : List ℕ → List Token → S → Type 0) (ts : List Token) (settings : List S) (tail : List Token) → AreFields F ts settings → Follows tail → Follows (ts ++ tail)
fields_follow F ts [] tail h follows = subst (λ q. Follows (q ++ tail)) (sym h) follows
fields_follow F ts (x ∷ settings) tail h follows = subst (λ q. Follows (q ++ tail)) (sym h.4) tt

-- ---- one state as well as another

pub close_alike : (j : ParsedJournal) (c : Option OpenMember) (p : List Bracket) (a : Awaits) (b : Bracket) (ts : List Token) → accept (at j c p Behind) (token.Close b ∷ ts) ≡ accept (at j c p Name) (token.Close b ∷ ts)
close_alike j c (x ∷ p) a b ts = refl
close_alike j None [] a b ts = refl
close_alike j (Some o) [] a b ts = refl

pub behind_is_name : (j : ParsedJournal) (c : Option OpenMember) (p : List Bracket) (ts : List Token) → NoSeparator ts → accept (at j c p Behind) ts ≡ accept (at j c p Name) ts
behind_is_name j c p [] h = refl
behind_is_name j c p (token.Close b ∷ ts) h = close_alike j c p Name b ts
behind_is_name j c p (token.Comma ∷ ts) h = absurd h
behind_is_name j c p (token.Semicolon ∷ ts) h = absurd h
behind_is_name j c p (t ∷ ts) h = refl

text_close : (f : FieldName) (j : ParsedJournal) (c : Option OpenMember) (p : List Bracket) (b : Bracket) (ts : List Token) → accept (at j c p (BehindText f)) (token.Close b ∷ ts) ≡ accept (at j c p Behind) (token.Close b ∷ ts)
text_close f j c (x ∷ p) b ts = refl
text_close f j None [] b ts = refl
text_close f j (Some o) [] b ts = refl

pub text_is_behind : (f : FieldName) (j : ParsedJournal) (c : Option OpenMember) (p : List Bracket) (ts : List Token) → NoBytes ts → accept (at j c p (BehindText f)) ts ≡ accept (at j c p Behind) ts
text_is_behind f j c p [] h = refl
text_is_behind f j c p (token.Close b ∷ ts) h = text_close f j c p b ts
text_is_behind f j c p (token.Bytes b ∷ ts) h = absurd h
text_is_behind f j c p (t ∷ ts) h = refl

pub item_text_is_behind : (j : ParsedJournal) (c : Option OpenMember) (p : List Bracket) (ts : List Token) → NoBytes ts → accept (at j c p BehindItemText) ts ≡ accept (at j c p BehindItem) ts
item_text_is_behind j c p [] h = refl
item_text_is_behind j c p (token.Bytes b ∷ ts) h = absurd h
item_text_is_behind j c p (t ∷ ts) h = refl

pub same_current : (c : Option OpenMember) → option_map (λ (o : OpenMember). record o { member = o.member }) c ≡ c
same_current None = refl
same_current (Some o) = refl

-- ---- strings, scalars and lists of unknown fields

unknown_strings : (j : ParsedJournal) (c : Option OpenMember) (p : List Bracket) (bs : List (List ℕ)) (ts : List Token) → accept (at j c p (BehindText field.Unknown)) (map (λ c. token.Bytes c) bs ++ ts) ≡ accept (at j c p (BehindText field.Unknown)) ts
unknown_strings j c p [] ts = refl
unknown_strings j c p (b ∷ bs) ts = ap (λ d. accept (at j d p (BehindText field.Unknown)) (map (λ c. token.Bytes c) bs ++ ts)) (same_current c) ∙ unknown_strings j c p bs ts

item_strings : (j : ParsedJournal) (c : Option OpenMember) (p : List Bracket) (bs : List (List ℕ)) (ts : List Token) → accept (at j c p BehindItemText) (map (λ c. token.Bytes c) bs ++ ts) ≡ accept (at j c p BehindItemText) ts
item_strings j c p [] ts = refl
item_strings j c p (b ∷ bs) ts = item_strings j c p bs ts

scalar_accepted : (j : ParsedJournal) (c : Option OpenMember) (p : List Bracket) (ts more : List Token) → IsScalar ts → NoBytes more → accept (at j c p (Value field.Unknown)) (ts ++ more) ≡ accept (at j c p Behind) more
scalar_accepted j c p ts more (inl h) follows = ap (λ q. accept (at j c p (Value field.Unknown)) (q ++ more)) h.1
scalar_accepted j c p ts more (inr (inl h)) follows = ap (λ q. accept (at j c p (Value field.Unknown)) (q ++ more)) h.2
scalar_accepted j c p ts more (inr (inr h)) follows =
    ap (λ q. accept (at j c p (Value field.Unknown)) (q ++ more)) h.1.2
    ∙ (unknown_strings j c p h.1.1 more ∙ text_is_behind field.Unknown j c p more follows)

item_accepted : (j : ParsedJournal) (c : Option OpenMember) (p : List Bracket) (ts more : List Token) → IsScalar ts → NoBytes more → accept (at j c p Item) (ts ++ more) ≡ accept (at j c p BehindItem) more
item_accepted j c p ts more (inl h) follows = ap (λ q. accept (at j c p Item) (q ++ more)) h.1
item_accepted j c p ts more (inr (inl h)) follows = ap (λ q. accept (at j c p Item) (q ++ more)) h.2
item_accepted j c p ts more (inr (inr h)) follows =
    ap (λ q. accept (at j c p Item) (q ++ more)) h.1.2
    ∙ (item_strings j c p h.1.1 more ∙ item_text_is_behind j c p more follows)

-- a first item is one
first_is_item : (j : ParsedJournal) (c : Option OpenMember) (p : List Bracket) (ts more : List Token) → IsScalar ts → accept (at j c p FirstItem) (ts ++ more) ≡ accept (at j c p Item) (ts ++ more)
first_is_item j c p ts more (inl h) = ap (λ q. accept (at j c p FirstItem) (q ++ more)) h.1 ∙ ap (λ q. accept (at j c p Item) (q ++ more)) (sym h.1)
first_is_item j c p ts more (inr (inl h)) = ap (λ q. accept (at j c p FirstItem) (q ++ more)) h.2 ∙ ap (λ q. accept (at j c p Item) (q ++ more)) (sym h.2)
first_is_item j c p ts more (inr (inr h)) = ap (λ q. accept (at j c p FirstItem) (q ++ more)) h.1.2 ∙ ap (λ q. accept (at j c p Item) (q ++ more)) (sym h.1.2)

items_follow : (ts : List Token) (items : List (List Token)) (more : List Token) → AreMoreItems ts items → NoBytes (ts ++ token.CloseList ∷ more)
items_follow ts [] more h = subst (λ q. NoBytes (q ++ token.CloseList ∷ more)) (sym h) tt
items_follow ts (item ∷ items) more h = subst (λ q. NoBytes (q ++ token.CloseList ∷ more)) (sym h.1) tt

items_accepted : (j : ParsedJournal) (c : Option OpenMember) (p : List Bracket) (items : List (List Token)) (ts more : List Token) → AreMoreItems ts items → accept (at j c p BehindItem) (ts ++ token.CloseList ∷ more) ≡ accept (at j c p Behind) more
items_accepted j c p [] ts more h = ap (λ q. accept (at j c p BehindItem) (q ++ token.CloseList ∷ more)) h
items_accepted j c p (item ∷ items) ts more h =
    ap (λ q. accept (at j c p BehindItem) (q ++ token.CloseList ∷ more)) h.1
    ∙ (ap (accept (at j c p Item)) (append_assoc item h.0 (token.CloseList ∷ more))
    ∙ (item_accepted j c p item (h.0 ++ token.CloseList ∷ more) h.2 (items_follow h.0 items more h.3)
    ∙ items_accepted j c p items h.0 more h.3))

list_opens : (j : ParsedJournal) (c : Option OpenMember) (p : List Bracket) (ts : List Token) → open_at c p < 32 → accept (at j c p (Value field.Unknown)) (token.OpenList ∷ ts) ≡ accept (at j c p FirstItem) ts
list_opens j c p ts h = ap (λ b. option_and_then (λ u. accept u ts) (cond b (Some (at j c p FirstItem)) None)) (lt-ltb (open_at c p) 32 h)

list_accepted : (j : ParsedJournal) (c : Option OpenMember) (p : List Bracket) (ts more : List Token) → open_at c p < 32 → IsItemList ts → accept (at j c p (Value field.Unknown)) (ts ++ more) ≡ accept (at j c p Behind) more
list_accepted j c p ts more room (inl h) = ap (λ q. accept (at j c p (Value field.Unknown)) (q ++ more)) h ∙ list_opens j c p (token.CloseList ∷ more) room
list_accepted j c p ts more room (inr h) =
    let item = h.0 in
    let rest = h.1 in
    let regrouped : (item ++ (rest ++ token.CloseList ∷ [])) ++ more ≡ item ++ (rest ++ token.CloseList ∷ more) = append_assoc item (rest ++ token.CloseList ∷ []) more ∙ ap (λ q. item ++ q) (append_assoc rest (token.CloseList ∷ []) more) in
    ap (λ q. accept (at j c p (Value field.Unknown)) (q ++ more)) h.3
    ∙ (list_opens j c p ((item ++ (rest ++ token.CloseList ∷ [])) ++ more) room
    ∙ (ap (accept (at j c p FirstItem)) regrouped
    ∙ (first_is_item j c p item (rest ++ token.CloseList ∷ more) h.4
    ∙ (item_accepted j c p item (rest ++ token.CloseList ∷ more) h.4 (items_follow rest h.2 more h.5)
    ∙ items_accepted j c p h.2 rest more h.5))))

-- ---- fields one behind the other

separator_accepted : (j : ParsedJournal) (c : Option OpenMember) (p : List Bracket) (sep r : List Token) → IsSeparator sep → Follows r → accept (at j c p Behind) (sep ++ r) ≡ accept (at j c p Name) r
separator_accepted j c p sep r (inl e) h = ap (λ q. accept (at j c p Behind) (q ++ r)) e ∙ behind_is_name j c p r (no_separator r h)
separator_accepted j c p sep r (inr (inl e)) h = ap (λ q. accept (at j c p Behind) (q ++ r)) e
separator_accepted j c p sep r (inr (inr e)) h = ap (λ q. accept (at j c p Behind) (q ++ r)) e

-- the machine takes a field of a message, and what is known of the message changes by its setting
abbrev pub TakesField : {S C : Type 0} → (C → ParsedJournal) → (C → Option OpenMember) → List Bracket → (List ℕ → List Token → S → Type 0) → (C → S → C) → Type 0
TakesField {S} {C} jf cf p F set = (x : C) (name : List ℕ) (value more : List Token) (s : S) → F name value s → NoBytes more → accept (at (jf x) (cf x) p Name) (token.Word name ∷ (value ++ more)) ≡ accept (at (jf (set x s)) (cf (set x s)) p Behind) more

fields_accepted : {S C : Type 0} (jf : C → ParsedJournal) (cf : C → Option OpenMember) (p : List Bracket) (F : List ℕ → List Token → S → Type 0) (set : C → S → C) → TakesField jf cf p F set →
    (settings : List S) (x : C) (ts tail : List Token) → AreFields F ts settings → Follows tail → accept (at (jf x) (cf x) p Name) (ts ++ tail) ≡ accept (at (jf (settled set x settings)) (cf (settled set x settings)) p Name) tail
fields_accepted jf cf p F set one [] x ts tail h follows = ap (λ q. accept (at (jf x) (cf x) p Name) (q ++ tail)) h
fields_accepted jf cf p F set one (s ∷ settings) x ts tail h follows =
    let name = h.0 in
    let value = h.1 in
    let sep = h.2 in
    let rest = h.3 in
    let after = rest ++ tail in
    let f = fields_follow F rest settings tail h.7 follows in
    let regrouped : (value ++ (sep ++ rest)) ++ tail ≡ value ++ (sep ++ after) = append_assoc value (sep ++ rest) tail ∙ ap (λ q. value ++ q) (append_assoc sep rest tail) in
    ap (λ q. accept (at (jf x) (cf x) p Name) (q ++ tail)) h.4
    ∙ (ap (λ q. accept (at (jf x) (cf x) p Name) (token.Word name ∷ q)) regrouped
    ∙ (one x name value (sep ++ after) s h.5 (behind_separator sep after h.6 f)
    ∙ (separator_accepted (jf (set x s)) (cf (set x s)) p sep after h.6 f
    ∙ fields_accepted jf cf p F set one settings (set x s) rest tail h.7 follows)))

-- ---- unknown values

pub same_brackets : (b : Bracket) → same_bracket b b ≡ true
same_brackets Curly = refl
same_brackets Angle = refl

closes : (j : ParsedJournal) (c : Option OpenMember) (b : Bracket) (p : List Bracket) (more : List Token) → accept (at j c (b ∷ p) Name) (token.Close b ∷ more) ≡ accept (at j c p Behind) more
closes j c b p more = ap (λ v. option_and_then (λ u. accept u more) (cond v (Some (at j c p Behind)) None)) (same_brackets b)

opens : (j : ParsedJournal) (c : Option OpenMember) (b : Bracket) (p : List Bracket) (colon ts : List Token) → open_at c p < 32 → IsOptionalColon colon → accept (at j c p (BehindName field.Unknown)) (colon ++ token.Open b ∷ ts) ≡ accept (at j c (b ∷ p) Name) ts
opens j c b p colon ts room (inl e) = ap (λ q. accept (at j c p (BehindName field.Unknown)) (q ++ token.Open b ∷ ts)) e ∙ ap (λ v. option_and_then (λ u. accept u ts) (cond v (Some (at j c (b ∷ p) Name)) None)) (lt-ltb (open_at c p) 32 room)
opens j c b p colon ts room (inr e) = ap (λ q. accept (at j c p (BehindName field.Unknown)) (q ++ token.Open b ∷ ts)) e ∙ ap (λ v. option_and_then (λ u. accept u ts) (cond v (Some (at j c (b ∷ p) Name)) None)) (lt-ltb (open_at c p) 32 room)

abbrev ValueAccepted : ℕ → Type 0
ValueAccepted room = (j : ParsedJournal) (c : Option OpenMember) (p : List Bracket) (value more : List Token) → open_at c p + room ≤ 32 → IsUnknownValue room value → NoBytes more → accept (at j c p (BehindName field.Unknown)) (value ++ more) ≡ accept (at j c p Behind) more

scalar_value_accepted : (j : ParsedJournal) (c : Option OpenMember) (p : List Bracket) (value more s : List Token) → value ≡ token.Colon ∷ s → IsScalar s → NoBytes more → accept (at j c p (BehindName field.Unknown)) (value ++ more) ≡ accept (at j c p Behind) more
scalar_value_accepted j c p value more s e h follows = ap (λ q. accept (at j c p (BehindName field.Unknown)) (q ++ more)) e ∙ scalar_accepted j c p s more h follows

pub value_accepted : (room : ℕ) → ValueAccepted room
value_accepted zero j c p value more fits h follows = scalar_value_accepted j c p value more h.0 h.1 h.2 follows
value_accepted (suc room) j c p value more fits (inl h) follows = scalar_value_accepted j c p value more h.0 h.1 h.2 follows
value_accepted (suc room) j c p value more fits (inr (inl h)) follows =
    ap (λ q. accept (at j c p (BehindName field.Unknown)) (q ++ more)) h.1 ∙ list_accepted j c p h.0 more (omega arith) h.2
value_accepted (suc room) j c p value more fits (inr (inr h)) follows =
    let b = h.0 in
    let colon = h.1 in
    let inner = h.2 in
    let F : List ℕ → List Token → List ℕ → Type 0 = λ name value n. (n ≡ name) × IsUnknownValue room value in
    let set : Unit {0} → List ℕ → Unit {0} = λ x n. x in
    let regrouped : (colon ++ (token.Open b ∷ (inner ++ token.Close b ∷ []))) ++ more ≡ colon ++ (token.Open b ∷ (inner ++ token.Close b ∷ more)) = append_assoc colon (token.Open b ∷ (inner ++ token.Close b ∷ [])) more ∙ ap (λ q. colon ++ (token.Open b ∷ q)) (append_assoc inner (token.Close b ∷ []) more) in
    let one : TakesField (λ (x : Unit {0}). j) (λ (x : Unit {0}). c) (b ∷ p) F set = λ x name v m s f g. value_accepted room j c (b ∷ p) v m (omega arith) f.1 g in
    ap (λ q. accept (at j c p (BehindName field.Unknown)) (q ++ more)) h.3
    ∙ (ap (accept (at j c p (BehindName field.Unknown))) regrouped
    ∙ (opens j c b p colon (inner ++ token.Close b ∷ more) (omega arith) h.4
    ∙ (fields_accepted (λ (x : Unit {0}). j) (λ (x : Unit {0}). c) (b ∷ p) F set one h.5.0 tt inner (token.Close b ∷ more) h.5.1 tt
    ∙ closes j c b p more)))

-- ---- participants and successors

abbrev pub open_member : Role → Bracket → Member → OpenMember
open_member of b m = record { role = of; bracket = b; member = m }

one_text : (f : FieldName) (j : ParsedJournal) (of : Role) (b : Bracket) (m : Member) (text : List ℕ) (bs : List (List ℕ)) (more : List Token) → is_text_field f ≡ true → NoBytes more →
    accept (at j (Some (open_member of b (set_text f text m))) [] (BehindText f)) (map (λ c. token.Bytes c) bs ++ more) ≡ accept (at j (Some (open_member of b (set_text f (text ++ concat bs) m))) [] Behind) more
one_text f j of b m text [] more is follows =
    text_is_behind f j (Some (open_member of b (set_text f text m))) [] more follows
    ∙ ap (λ t. accept (at j (Some (open_member of b (set_text f t m))) [] Behind) more) (sym (append-nil text))
one_text field.Keyspace j of b m text (c ∷ bs) more is follows =
    one_text field.Keyspace j of b m (text ++ c) bs more is follows ∙ ap (λ t. accept (at j (Some (open_member of b (set_text field.Keyspace t m))) [] Behind) more) (append_assoc text c (concat bs))
one_text field.Shard j of b m text (c ∷ bs) more is follows =
    one_text field.Shard j of b m (text ++ c) bs more is follows ∙ ap (λ t. accept (at j (Some (open_member of b (set_text field.Shard t m))) [] Behind) more) (append_assoc text c (concat bs))
one_text field.Gtid j of b m text (c ∷ bs) more is follows =
    one_text field.Gtid j of b m (text ++ c) bs more is follows ∙ ap (λ t. accept (at j (Some (open_member of b (set_text field.Gtid t m))) [] Behind) more) (append_assoc text c (concat bs))
one_text f j of b m text (c ∷ bs) more is follows = absurd (cc)

text_begins : (f : FieldName) (j : ParsedJournal) (of : Role) (b : Bracket) (m : Member) (text : List ℕ) (ts : List Token) → is_text_field f ≡ true →
    accept (at j (Some (open_member of b m)) [] (BehindName f)) (token.Colon ∷ token.Bytes text ∷ ts) ≡ accept (at j (Some (open_member of b (set_text f text m))) [] (BehindText f)) ts
text_begins field.Keyspace j of b m text ts is = refl
text_begins field.Shard j of b m text ts is = refl
text_begins field.Gtid j of b m text ts is = refl
text_begins f j of b m text ts is = absurd (cc)

member_field_taken : (of : Role) (b : Bracket) (j : ParsedJournal) → TakesField (λ (m : Member). j) (λ (m : Member). Some (open_member of b m)) [] (IsMemberField of) member_with
member_field_taken of b j m name value more None h follows =
    ap (λ f. accept (at j (Some (open_member of b m)) [] (BehindName f)) (value ++ more)) h.0
    ∙ value_accepted 31 j (Some (open_member of b m)) [] value more (omega arith) h.1 follows
member_field_taken of b j m name value more (Some f) h follows =
    let strings = h.4 in
    ap (λ g. accept (at j (Some (open_member of b m)) [] (BehindName g)) (value ++ more)) h.0
    ∙ (ap (λ q. accept (at j (Some (open_member of b m)) [] (BehindName f.0)) (q ++ more)) (h.3 ∙ ap (λ q. token.Colon ∷ q) strings.2)
    ∙ (text_begins f.0 j of b m strings.0 (map (λ c. token.Bytes c) strings.1 ++ more) h.1
    ∙ (one_text f.0 j of b m strings.0 strings.1 more h.1 follows
    ∙ ap (λ t. accept (at j (Some (open_member of b (set_text f.0 t m))) [] Behind) more) (sym strings.3))))

member_closes : (of : Role) (b : Bracket) (j : ParsedJournal) (m : Member) (more : List Token) → accept (at j (Some (open_member of b m)) [] Name) (token.Close b ∷ more) ≡ accept (at (with_member of m j) None [] Behind) more
member_closes of b j m more = ap (λ v. option_and_then (λ u. accept u more) (cond v (Some (at (with_member of m j) None [] Behind)) None)) (same_brackets b)

member_opens : (of : Role) (b : Bracket) (j : ParsedJournal) (colon ts : List Token) → IsOptionalColon colon → accept (at j None [] (BehindName (field_naming of))) (colon ++ token.Open b ∷ ts) ≡ accept (at j (Some (open_member of b no_member)) [] Name) ts
member_opens role.Participant b j colon ts (inl e) = ap (λ q. accept (at j None [] (BehindName field.Participants)) (q ++ token.Open b ∷ ts)) e
member_opens role.Participant b j colon ts (inr e) = ap (λ q. accept (at j None [] (BehindName field.Participants)) (q ++ token.Open b ∷ ts)) e
member_opens role.Successor b j colon ts (inl e) = ap (λ q. accept (at j None [] (BehindName field.ShardGtids)) (q ++ token.Open b ∷ ts)) e
member_opens role.Successor b j colon ts (inr e) = ap (λ q. accept (at j None [] (BehindName field.ShardGtids)) (q ++ token.Open b ∷ ts)) e

member_accepted : (of : Role) (j : ParsedJournal) (m : Member) (value more : List Token) → IsMember of value m → accept (at j None [] (BehindName (field_naming of))) (value ++ more) ≡ accept (at (with_member of m j) None [] Behind) more
member_accepted of j m value more h =
    let b = h.0 in
    let colon = h.1 in
    let inner = h.2 in
    let regrouped : (colon ++ (token.Open b ∷ (inner ++ token.Close b ∷ []))) ++ more ≡ colon ++ (token.Open b ∷ (inner ++ token.Close b ∷ more)) = append_assoc colon (token.Open b ∷ (inner ++ token.Close b ∷ [])) more ∙ ap (λ q. colon ++ (token.Open b ∷ q)) (append_assoc inner (token.Close b ∷ []) more) in
    ap (λ q. accept (at j None [] (BehindName (field_naming of))) (q ++ more)) h.3
    ∙ (ap (accept (at j None [] (BehindName (field_naming of)))) regrouped
    ∙ (member_opens of b j colon (inner ++ token.Close b ∷ more) h.4
    ∙ (fields_accepted (λ (m : Member). j) (λ (m : Member). Some (open_member of b m)) [] (IsMemberField of) member_with (member_field_taken of b j) h.5.0 no_member inner (token.Close b ∷ more) h.5.1 tt
    ∙ (member_closes of b j (settled member_with no_member h.5.0) more
    ∙ ap (λ n. accept (at (with_member of n j) None [] Behind) more) h.5.2))))

-- ---- journals

kind_taken : (j : ParsedJournal) (t : Token) (shards : Bool) (more : List Token) → kind_in t ≡ Some shards → accept (at j None [] (Value field.MigrationType)) (t ∷ more) ≡ accept (at (record j { shards = shards }) None [] Behind) more
kind_taken j (token.Word w) shards more h = ap (λ o. option_and_then (λ u. accept u more) (option_map (λ k. at (record j { shards = k }) None [] Behind) o)) h
kind_taken j (token.Number n size) shards more h = ap (λ o. option_and_then (λ u. accept u more) (option_map (λ k. at (record j { shards = k }) None [] Behind) o)) h
kind_taken j t shards more h = absurd (cc)

journal_field_taken : TakesField (λ (j : ParsedJournal). j) (λ (j : ParsedJournal). None) [] IsJournalField journal_with
journal_field_taken j name value more (SetsId id) h follows =
    ap (λ f. accept (at j None [] (BehindName f)) (value ++ more)) h.0
    ∙ (ap (λ q. accept (at j None [] (BehindName field.Id)) (q ++ more)) h.3
    ∙ ap (λ o. option_and_then (λ u. accept u more) (option_map (λ i. at (record j { id = i }) None [] Behind) o)) h.4)
journal_field_taken j name value more (SetsKind shards) h follows =
    ap (λ f. accept (at j None [] (BehindName f)) (value ++ more)) h.0
    ∙ (ap (λ q. accept (at j None [] (BehindName field.MigrationType)) (q ++ more)) h.2
    ∙ (kind_colon j h.1 more ∙ kind_taken j h.1 shards more h.3))
  where
    kind_colon : (j : ParsedJournal) (t : Token) (more : List Token) → accept (at j None [] (BehindName field.MigrationType)) (token.Colon ∷ t ∷ more) ≡ accept (at j None [] (Value field.MigrationType)) (t ∷ more)
    kind_colon j t more = refl
journal_field_taken j name value more (NamesMember of m) h follows =
    ap (λ f. accept (at j None [] (BehindName f)) (value ++ more)) h.0 ∙ member_accepted of j m value more h.1
journal_field_taken j name value more SaysNothing h follows =
    ap (λ f. accept (at j None [] (BehindName f)) (value ++ more)) h.0 ∙ value_accepted 32 j None [] value more (omega arith) h.1 follows

pub journal_accepted : (ts tail : List Token) (settings : List JournalSetting) (j : ParsedJournal) → AreFields IsJournalField ts settings → Follows tail → accept (at j None [] Name) (ts ++ tail) ≡ accept (at (settled journal_with j settings) None [] Name) tail
journal_accepted ts tail settings j h follows = fields_accepted (λ (j : ParsedJournal). j) (λ (j : ParsedJournal). None) [] IsJournalField journal_with journal_field_taken settings j ts tail h follows
