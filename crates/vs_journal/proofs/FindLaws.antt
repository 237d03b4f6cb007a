-- What the machine takes is what the productions say.
use Rattle.std.proofs.Common.{◌≡◌, ◌∙◌, ◌++◌, ◌+◌, ◌<◌, ◌≤◌, ℕ, zero, suc, Bool, true, false, List, [], ◌∷◌, Option, Some, None, length, map, refl, ap, sym, inl, inr, append_assoc, arith, cond, nat_lt}
use Rattle.std.specs.List.{concat}
use Rattle.std.specs.Option.{option_and_then}
use Rattle.std.proofs.lemmas.Bool.{ltb-true}
use Rattle.vs_journal.specs.Grammar.{ended_in, field_in}
use Rattle.vs_journal.specs.Productions.{AreFields, AreMoreItems, IsItemList, IsListValue, IsOptionalColon, IsScalar, IsScalarValue, IsSeparator, IsUnknownValue, settled}
use Rattle.vs_journal.specs.declared.token.Bracket.{Bracket}
use Rattle.vs_journal.specs.declared.token.Bracket.TheVariants.{Curly, Angle}
use Rattle.vs_journal.specs.declared.token.Token.{Token}
use Rattle.vs_journal.specs.declared.token.Token.TheVariants as token
use Rattle.vs_journal.specs.declared.parsed.ParsedJournal.{ParsedJournal}
use Rattle.vs_journal.specs.declared.state.FieldName.TheVariants as field
use Rattle.vs_journal.specs.declared.state.Awaits.{Awaits}
use Rattle.vs_journal.specs.declared.state.Awaits.TheVariants.{Name, Behind, BehindText, BehindName, FirstItem, Item, BehindItem, BehindItemText}
use Rattle.vs_journal.specs.declared.state.OpenMember.{OpenMember}
use Rattle.vs_journal.specs.declared.state.TextState.{TextState}
use Rattle.vs_journal.proofs.AcceptLaws.{accept, at, close_alike, item_text_is_behind, open_at, same_current, text_is_behind}

pub never_ends : (p : List Bracket) (c : Option OpenMember) (j r : ParsedJournal) → ended_in p c false j ≡ Some r → ⊥
never_ends (b ∷ p) c j r h = cc
never_ends [] None j r h = cc
never_ends [] (Some o) j r h = cc

-- what is chosen by a test that has to hold
chosen : (b : Bool) (s : TextState) (ts : List Token) (r : ParsedJournal) → option_and_then (λ u. accept u ts) (cond b (Some s) None) ≡ Some r → (b ≡ true) × (accept s ts ≡ Some r)
chosen true s ts r h = (refl, h)
chosen false s ts r h = absurd (cc)

-- ---- strings, items and lists

abbrev pub StringsFound : (Awaits → TextState) → Awaits → List Token → ParsedJournal → Type 0
StringsFound st a ts r = (bs : List (List ℕ)) × (rest : List Token) × (ts ≡ map (λ c. token.Bytes c) bs ++ rest) × (accept (st a) rest ≡ Some r) × (length rest ≤ length ts)

strings_found : (j : ParsedJournal) (c : Option OpenMember) (p : List Bracket) (ts : List Token) (r : ParsedJournal) → accept (at j c p (BehindText field.Unknown)) ts ≡ Some r → StringsFound (at j c p) Behind ts r
strings_found j c p [] r h = ([], [], refl, h, omega arith)
strings_found j c p (token.Bytes b ∷ ts) r h =
    let later = strings_found j c p ts r (sym (ap (λ d. accept (at j d p (BehindText field.Unknown)) ts) (same_current c)) ∙ h) in
    (b ∷ later.0, later.1, ap (λ q. token.Bytes b ∷ q) later.2, later.3, omega (arith, later.4))
strings_found j c p (t ∷ ts) r h = ([], t ∷ ts, refl, sym (text_is_behind field.Unknown j c p (t ∷ ts) tt) ∙ h, omega arith)

item_strings_found : (j : ParsedJournal) (c : Option OpenMember) (p : List Bracket) (ts : List Token) (r : ParsedJournal) → accept (at j c p BehindItemText) ts ≡ Some r → StringsFound (at j c p) BehindItem ts r
item_strings_found j c p [] r h = ([], [], refl, h, omega arith)
item_strings_found j c p (token.Bytes b ∷ ts) r h =
    let later = item_strings_found j c p ts r h in
    (b ∷ later.0, later.1, ap (λ q. token.Bytes b ∷ q) later.2, later.3, omega (arith, later.4))
item_strings_found j c p (t ∷ ts) r h = ([], t ∷ ts, refl, sym (item_text_is_behind j c p (t ∷ ts) tt) ∙ h, omega arith)

abbrev ItemFound : (Awaits → TextState) → List Token → ParsedJournal → Type 0
ItemFound st ts r = (item rest : List Token) × (ts ≡ item ++ rest) × IsScalar item × (accept (st BehindItem) rest ≡ Some r) × (length rest < length ts)

item_found : (j : ParsedJournal) (c : Option OpenMember) (p : List Bracket) (ts : List Token) (r : ParsedJournal) → accept (at j c p Item) ts ≡ Some r → ItemFound (at j c p) ts r
item_found j c p [] r h = absurd (never_ends p c j r h)
item_found j c p (token.Word w ∷ ts) r h = (token.Word w ∷ [], ts, refl, inl (w, refl), h, omega arith)
item_found j c p (token.Number n size ∷ ts) r h = (token.Number n size ∷ [], ts, refl, inr (inl (n, size, refl)), h, omega arith)
item_found j c p (token.Bytes b ∷ ts) r h =
    let later = item_strings_found j c p ts r h in
    (token.Bytes b ∷ map (λ c. token.Bytes c) later.0, later.1, ap (λ q. token.Bytes b ∷ q) later.2, inr (inr (b ++ concat later.0, (b, later.0, refl, refl))), later.3, omega (arith, later.4))
item_found j c p (t ∷ ts) r h = absurd (cc)

abbrev ItemsFound : (Awaits → TextState) → List Token → ParsedJournal → Type 0
ItemsFound st ts r = (items : List (List Token)) × (more rest : List Token) × (ts ≡ more ++ token.CloseList ∷ rest) × AreMoreItems more items × (accept (st Behind) rest ≡ Some r) × (length rest < length ts)

items_found : (n : ℕ) (j : ParsedJournal) (c : Option OpenMember) (p : List Bracket) (ts : List Token) (r : ParsedJournal) → length ts ≤ n → accept (at j c p BehindItem) ts ≡ Some r → ItemsFound (at j c p) ts r
items_found n j c p [] r few h = absurd (never_ends p c j r h)
items_found n j c p (token.CloseList ∷ ts) r few h = ([], [], ts, refl, refl, h, omega arith)
items_found zero j c p (token.Comma ∷ ts) r few h = absurd (omega arith)
items_found (suc n) j c p (token.Comma ∷ ts) r few h =
    let item = item_found j c p ts r h in
    let less : length item.1 < length ts = item.5 in
    let later = items_found n j c p item.1 r (omega arith) item.4 in
    let shorter : length later.2 < length item.1 = later.6 in (
      item.0 ∷ later.0,
      token.Comma ∷ (item.0 ++ later.1),
      later.2,
      ap (λ q. token.Comma ∷ q) (item.2 ∙ ap (λ q. item.0 ++ q) later.3 ∙ sym (append_assoc item.0 later.1 (token.CloseList ∷ later.2))),
      (later.1, refl, item.3, later.4),
      later.5,
      omega arith,
    )
items_found n j c p (t ∷ ts) r few h = absurd (cc)

abbrev ListFound : (Awaits → TextState) → List Token → ParsedJournal → Type 0
ListFound st ts r = (list rest : List Token) × (token.OpenList ∷ ts ≡ list ++ rest) × IsItemList list × (accept (st Behind) rest ≡ Some r) × (length rest < length ts)

list_from : (j : ParsedJournal) (c : Option OpenMember) (p : List Bracket) (ts : List Token) (r : ParsedJournal) → accept (at j c p Item) ts ≡ Some r → ListFound (at j c p) ts r
list_from j c p ts r h =
    let item = item_found j c p ts r h in
    let less : length item.1 < length ts = item.5 in
    let later = items_found (length item.1) j c p item.1 r (omega arith) item.4 in
    let shorter : length later.2 < length item.1 = later.6 in
    let regrouped : (item.0 ++ (later.1 ++ token.CloseList ∷ [])) ++ later.2 ≡ item.0 ++ (later.1 ++ token.CloseList ∷ later.2) = append_assoc item.0 (later.1 ++ token.CloseList ∷ []) later.2 ∙ ap (λ q. item.0 ++ q) (append_assoc later.1 (token.CloseList ∷ []) later.2) in (
      token.OpenList ∷ (item.0 ++ (later.1 ++ token.CloseList ∷ [])),
      later.2,
      ap (λ q. token.OpenList ∷ q) (item.2 ∙ ap (λ q. item.0 ++ q) later.3 ∙ sym regrouped),
      inr (item.0, later.1, later.0, refl, item.3, later.4),
      later.5,
      omega arith,
    )

list_found : (j : ParsedJournal) (c : Option OpenMember) (p : List Bracket) (ts : List Token) (r : ParsedJournal) → accept (at j c p FirstItem) ts ≡ Some r → ListFound (at j c p) ts r
list_found j c p [] r h = absurd (never_ends p c j r h)
list_found j c p (token.CloseList ∷ ts) r h = (token.OpenList ∷ token.CloseList ∷ [], ts, refl, inl refl, h, omega arith)
list_found j c p (t ∷ ts) r h = list_from j c p (t ∷ ts) r h

-- ---- fields one behind the other

abbrev SeparatorFound : (Awaits → TextState) → List Token → ParsedJournal → Type 0
SeparatorFound st ts r = (sep rest : List Token) × (ts ≡ sep ++ rest) × IsSeparator sep × (accept (st Name) rest ≡ Some r) × (length rest ≤ length ts)

separator_found : (j : ParsedJournal) (c : Option OpenMember) (p : List Bracket) (ts : List Token) (r : ParsedJournal) → accept (at j c p Behind) ts ≡ Some r → SeparatorFound (at j c p) ts r
separator_found j c p [] r h = ([], [], refl, inl refl, h, omega arith)
separator_found j c p (token.Comma ∷ ts) r h = (token.Comma ∷ [], ts, refl, inr (inl refl), h, omega arith)
separator_found j c p (token.Semicolon ∷ ts) r h = (token.Semicolon ∷ [], ts, refl, inr (inr refl), h, omega arith)
separator_found j c p (token.Close b ∷ ts) r h = ([], token.Close b ∷ ts, refl, inl refl, sym (close_alike j c p Name b ts) ∙ h, omega arith)
separator_found j c p (t ∷ ts) r h = ([], t ∷ ts, refl, inl refl, h, omega arith)

-- a message, or the text, may end
abbrev pub Ends : List Token → Type 0
Ends [] = Unit {0}
Ends (token.Close b ∷ ts) = Unit {0}
Ends ts = ⊥

abbrev pub FieldFound : {S C : Type 0} → (C → ParsedJournal) → (C → Option OpenMember) → List Bracket → (List ℕ → List Token → S → Type 0) → (C → S → C) → C → List ℕ → List Token → ParsedJournal → Type 0
FieldFound {S} {C} jf cf p F set x name ts r = (value more : List Token) × (s : S) × (ts ≡ value ++ more) × F name value s × (accept (at (jf (set x s)) (cf (set x s)) p Behind) more ≡ Some r) × (length more ≤ length ts)

abbrev pub FindsField : {S C : Type 0} → (C → ParsedJournal) → (C → Option OpenMember) → List Bracket → (List ℕ → List Token → S → Type 0) → (C → S → C) → ℕ → ParsedJournal → Type 0
FindsField {S} {C} jf cf p F set n r = (x : C) (name : List ℕ) (ts : List Token) → length ts ≤ n → accept (at (jf x) (cf x) p (BehindName (field_in p (cf x) name))) ts ≡ Some r → FieldFound jf cf p F set x name ts r

abbrev pub FieldsFound : {S C : Type 0} → (C → ParsedJournal) → (C → Option OpenMember) → List Bracket → (List ℕ → List Token → S → Type 0) → (C → S → C) → C → List Token → ParsedJournal → Type 0
FieldsFound {S} {C} jf cf p F set x ts r = (settings : List S) × (inner rest : List Token) × (ts ≡ inner ++ rest) × AreFields F inner settings × Ends rest × (accept (at (jf (settled set x settings)) (cf (settled set x settings)) p Name) rest ≡ Some r) × (length rest ≤ length ts)

pub fields_found : {S C : Type 0} (jf : C → ParsedJournal) (cf : C → Option OpenMember) (p : List Bracket) (F : List ℕ → List Token → S → Type 0) (set : C → S → C) (n : ℕ) (r : ParsedJournal) → FindsField jf cf p F set n r →
    (k : ℕ) (x : C) (ts : List Token) → length ts ≤ k → k ≤ n → accept (at (jf x) (cf x) p Name) ts ≡ Some r → FieldsFound jf cf p F set x ts r
fields_found jf cf p F set n r one k x [] few within h = ([], [], [], refl, refl, tt, h, omega arith)
fields_found jf cf p F set n r one k x (token.Close b ∷ ts) few within h = ([], [], token.Close b ∷ ts, refl, refl, tt, h, omega arith)
fields_found jf cf p F set n r one zero x (token.Word name ∷ ts) few within h = absurd (omega arith)
fields_found jf cf p F set n r one (suc k) x (token.Word name ∷ ts) few within h =
    let f = one x name ts (omega arith) h in
    let less : length f.1 ≤ length ts = f.6 in
    let sep = separator_found (jf (set x f.2)) (cf (set x f.2)) p f.1 r f.5 in
    let shorter : length sep.1 ≤ length f.1 = sep.5 in
    let later = fields_found jf cf p F set n r one k (set x f.2) sep.1 (omega arith) (omega arith) sep.4 in
    let shortest : length later.2 ≤ length sep.1 = later.7 in
    let regrouped : (f.0 ++ (sep.0 ++ later.1)) ++ later.2 ≡ f.0 ++ (sep.0 ++ (later.1 ++ later.2)) = append_assoc f.0 (sep.0 ++ later.1) later.2 ∙ ap (λ q. f.0 ++ q) (append_assoc sep.0 later.1 later.2) in (
      f.2 ∷ later.0,
      token.Word name ∷ (f.0 ++ (sep.0 ++ later.1)),
      later.2,
      ap (λ q. token.Word name ∷ q) (f.3 ∙ ap (λ q. f.0 ++ q) (sep.2 ∙ ap (λ q. sep.0 ++ q) later.3) ∙ sym regrouped),
      (name, f.0, sep.0, later.1, refl, f.4, sep.3, later.4),
      later.5,
      later.6,
      omega arith,
    )
fields_found jf cf p F set n r one k x (t ∷ ts) few within h = absurd (cc)

-- ---- unknown values

abbrev pub ValueFound : (Awaits → TextState) → ℕ → List Token → ParsedJournal → Type 0
ValueFound st room ts r = (value more : List Token) × (ts ≡ value ++ more) × IsUnknownValue room value × (accept (st Behind) more ≡ Some r) × (length more ≤ length ts)

scalar_is : (room : ℕ) (value : List Token) → IsScalarValue value → IsUnknownValue room value
scalar_is zero value h = h
scalar_is (suc room) value h = inl h

list_is : (room : ℕ) (value : List Token) → 1 ≤ room → IsListValue value → IsUnknownValue room value
list_is zero value some h = absurd (omega arith)
list_is (suc room) value some h = inr (inl h)

close_found : (j : ParsedJournal) (c : Option OpenMember) (b d : Bracket) (p : List Bracket) (ts : List Token) (r : ParsedJournal) → accept (at j c (b ∷ p) Name) (token.Close d ∷ ts) ≡ Some r → (d ≡ b) × (accept (at j c p Behind) ts ≡ Some r)
close_found j c Curly Curly p ts r h = (refl, h)
close_found j c Angle Angle p ts r h = (refl, h)
close_found j c Curly Angle p ts r h = absurd (cc)
close_found j c Angle Curly p ts r h = absurd (cc)

abbrev EndFound : ParsedJournal → Option OpenMember → Bracket → List Bracket → List Token → ParsedJournal → Type 0
EndFound j c b p rest r = (more : List Token) × (rest ≡ token.Close b ∷ more) × (accept (at j c p Behind) more ≡ Some r)

end_found : (j : ParsedJournal) (c : Option OpenMember) (b : Bracket) (p : List Bracket) (rest : List Token) (r : ParsedJournal) → Ends rest → accept (at j c (b ∷ p) Name) rest ≡ Some r → EndFound j c b p rest r
end_found j c b p [] r ends h = absurd (cc)
end_found j c b p (token.Close d ∷ ts) r ends h = let closed = close_found j c b d p ts r h in (ts, ap (λ e. token.Close e ∷ ts) closed.0, closed.1)
end_found j c b p (t ∷ ts) r ends h = absurd ends

abbrev pub FindsValue : ℕ → Type 0
FindsValue n = (room : ℕ) (j : ParsedJournal) (c : Option OpenMember) (p : List Bracket) (ts : List Token) (r : ParsedJournal) → length ts ≤ n → open_at c p + room ≡ 32 → accept (at j c p (BehindName field.Unknown)) ts ≡ Some r → ValueFound (at j c p) room ts r

message_found : (n : ℕ) → FindsValue n → (room : ℕ) (j : ParsedJournal) (c : Option OpenMember) (b : Bracket) (p : List Bracket) (colon ts : List Token) (r : ParsedJournal) → IsOptionalColon colon → length ts ≤ n → open_at c p + room ≡ 32 →
    option_and_then (λ u. accept u ts) (cond (nat_lt (open_at c p) 32) (Some (at j c (b ∷ p) Name)) None) ≡ Some r → ValueFound (at j c p) room (colon ++ token.Open b ∷ ts) r
message_found n ih zero j c b p colon ts r is few fits h =
    let open_ = chosen (nat_lt (open_at c p) 32) (at j c (b ∷ p) Name) ts r h in
    let below : open_at c p < 32 = ltb-true (open_at c p) 32 open_.0 in
    absurd (omega arith)
message_found n ih (suc room) j c b p colon ts r is few fits h =
    let open_ = chosen (nat_lt (open_at c p) 32) (at j c (b ∷ p) Name) ts r h in
    let F : List ℕ → List Token → List ℕ → Type 0 = λ name value n. (n ≡ name) × IsUnknownValue room value in
    let set : Unit {0} → List ℕ → Unit {0} = λ x n. x in
    let one : FindsField (λ (x : Unit {0}). j) (λ (x : Unit {0}). c) (b ∷ p) F set n r = λ x name vs less k. let v = ih room j c (b ∷ p) vs r less (omega arith) k in (v.0, v.1, name, v.2, (refl, v.3), v.4, v.5) in
    let fields = fields_found (λ (x : Unit {0}). j) (λ (x : Unit {0}). c) (b ∷ p) F set n r one n tt ts few (omega arith) open_.1 in
    let end = end_found j c b p fields.2 r fields.5 fields.6 in
    let short : length fields.2 ≤ length ts = fields.7 in
    let shorter : length fields.2 ≡ suc (length end.0) = ap length end.1 in
    let inner = fields.1 in
    let regrouped : (colon ++ (token.Open b ∷ (inner ++ token.Close b ∷ []))) ++ end.0 ≡ colon ++ (token.Open b ∷ (inner ++ token.Close b ∷ end.0)) = append_assoc colon (token.Open b ∷ (inner ++ token.Close b ∷ [])) end.0 ∙ ap (λ q. colon ++ (token.Open b ∷ q)) (append_assoc inner (token.Close b ∷ []) end.0) in (
      colon ++ (token.Open b ∷ (inner ++ token.Close b ∷ [])),
      end.0,
      ap (λ q. colon ++ (token.Open b ∷ q)) (fields.3 ∙ ap (λ q. inner ++ q) end.1) ∙ sym regrouped,
      inr (inr (b, colon, inner, refl, is, (fields.0, fields.4))),
      end.2,
      longer colon ts end.0 b (omega arith),
    )
  where
    longer : (colon ts more : List Token) (b : Bracket) → length more ≤ length ts → length more ≤ length (colon ++ token.Open b ∷ ts)
    longer [] ts more b h = omega arith
    longer (x ∷ colon) ts more b h = let k = longer colon ts more b h in omega arith

list_value_found : (room : ℕ) (j : ParsedJournal) (c : Option OpenMember) (p : List Bracket) (ts : List Token) (r : ParsedJournal) → open_at c p + room ≡ 32 →
    option_and_then (λ u. accept u ts) (cond (nat_lt (open_at c p) 32) (Some (at j c p FirstItem)) None) ≡ Some r → ValueFound (at j c p) room (token.Colon ∷ token.OpenList ∷ ts) r
list_value_found room j c p ts r fits h =
    let open_ = chosen (nat_lt (open_at c p) 32) (at j c p FirstItem) ts r h in
    let below : open_at c p < 32 = ltb-true (open_at c p) 32 open_.0 in
    let list = list_found j c p ts r open_.1 in
    let less : length list.1 < length ts = list.5 in
    (token.Colon ∷ list.0, list.1, ap (λ q. token.Colon ∷ q) list.2, list_is room (token.Colon ∷ list.0) (omega arith) (list.0, refl, list.3), list.4, omega arith)

pub value_found : (n : ℕ) → FindsValue n
value_found n room j c p [] r few fits h = absurd (never_ends p c j r h)
value_found zero room j c p (t ∷ ts) r few fits h = absurd (omega arith)
value_found (suc n) room j c p (token.Open b ∷ ts) r few fits h = message_found n (value_found n) room j c b p [] ts r (inl refl) (omega arith) fits h
value_found (suc n) room j c p (token.Colon ∷ []) r few fits h = absurd (never_ends p c j r h)
value_found (suc n) room j c p (token.Colon ∷ token.Open b ∷ ts) r few fits h = message_found n (value_found n) room j c b p (token.Colon ∷ []) ts r (inr refl) (omega arith) fits h
value_found (suc n) room j c p (token.Colon ∷ token.OpenList ∷ ts) r few fits h = list_value_found room j c p ts r fits h
value_found (suc n) room j c p (token.Colon ∷ token.Word w ∷ ts) r few fits h =
    (token.Colon ∷ token.Word w ∷ [], ts, refl, scalar_is room (token.Colon ∷ token.Word w ∷ []) (token.Word w ∷ [], refl, inl (w, refl)), h, omega arith)
value_found (suc n) room j c p (token.Colon ∷ token.Number negative size ∷ ts) r few fits h =
    (token.Colon ∷ token.Number negative size ∷ [], ts, refl, scalar_is room (token.Colon ∷ token.Number negative size ∷ []) (token.Number negative size ∷ [], refl, inr (inl (negative, size, refl))), h, omega arith)
value_found (suc n) room j c p (token.Colon ∷ token.Bytes b ∷ ts) r few fits h =
    let later = strings_found j c p ts r h in
    let s = token.Bytes b ∷ map (λ c. token.Bytes c) later.0 in
    let less : length later.1 ≤ length ts = later.4 in
    (token.Colon ∷ s, later.1, ap (λ q. token.Colon ∷ token.Bytes b ∷ q) later.2, scalar_is room (token.Colon ∷ s) (s, refl, inr (inr (b ++ concat later.0, (b, later.0, refl, refl)))), later.3, omega arith)
value_found (suc n) room j c p (token.Colon ∷ t ∷ ts) r few fits h = absurd (cc)
value_found (suc n) room j c p (t ∷ ts) r few fits h = absurd (cc)
