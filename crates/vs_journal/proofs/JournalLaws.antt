-- What the machine takes as a participant, a successor or a journal is what the productions say.
use Rattle.std.proofs.Common.{◌≡◌, ◌∙◌, ◌++◌, ◌≤◌, ℕ, suc, Bool, true, false, List, [], ◌∷◌, Option, Some, None, ℤ, length, map, refl, ap, sym, subst, inl, inr, append_assoc, append-nil, arith, cond}
use Rattle.std.specs.Prelude.{option_map, codes}
use Rattle.std.specs.List.{concat}
use Rattle.std.specs.Option.{option_and_then}
use Rattle.vs_journal.specs.Grammar.{first_state, gtid_field, id_of, journal_field, kind_named, kind_numbered, member_field, no_journal, no_member, same_text, set_text, with_member}
use Rattle.vs_journal.specs.Productions.{AreFields, AreStrings, IsJournal, IsJournalField, IsMemberField, IsOptionalColon, SetsId, SetsKind, NamesMember, SaysNothing, field_naming, is_text_field, journal_with, kind_in, member_with, settled}
use Rattle.vs_journal.specs.declared.token.Bracket.{Bracket}
use Rattle.vs_journal.specs.declared.token.Bracket.TheVariants.{Curly, Angle}
use Rattle.vs_journal.specs.declared.token.Token.{Token}
use Rattle.vs_journal.specs.declared.token.Token.TheVariants as token
use Rattle.vs_journal.specs.declared.parsed.Member.{Member}
use Rattle.vs_journal.specs.declared.parsed.ParsedJournal.{ParsedJournal}
use Rattle.vs_journal.specs.declared.state.FieldName.{FieldName}
use Rattle.vs_journal.specs.declared.state.FieldName.TheVariants as field
use Rattle.vs_journal.specs.declared.state.Awaits.TheVariants.{Name, Behind, BehindText, BehindName}
use Rattle.vs_journal.specs.declared.state.Role.{Role}
use Rattle.vs_journal.specs.declared.state.Role.TheVariants as role
use Rattle.vs_journal.proofs.AcceptLaws.{accept, at, open_member, text_is_behind, journal_accepted}
use Rattle.vs_journal.proofs.FindLaws.{Ends, FieldFound, FindsField, fields_found, value_found}

-- ---- a member's fields

of_cond : {A : Type 0} (P : A → Type 0) (b : Bool) (x y : A) → P x → P y → P (cond b x y)
of_cond P true x y f g = f
of_cond P false x y f g = g

abbrev IsOfMember : FieldName → Type 0
IsOfMember field.Keyspace = Unit {0}
IsOfMember field.Shard = Unit {0}
IsOfMember field.Gtid = Unit {0}
IsOfMember field.Unknown = Unit {0}
IsOfMember other = ⊥

gtid_is_of : (of : Role) → IsOfMember (gtid_field of)
gtid_is_of role.Participant = tt
gtid_is_of role.Successor = tt

is_of_member : (of : Role) (name : List ℕ) → IsOfMember (member_field of name)
is_of_member of name =
    of_cond IsOfMember (same_text name (codes "keyspace")) _ _ tt
    (of_cond IsOfMember (same_text name (codes "shard")) _ _ tt
    (of_cond IsOfMember (same_text name (codes "gtid")) _ _ (gtid_is_of of) tt))

abbrev TextsFound : ParsedJournal → Role → Bracket → Member → FieldName → List ℕ → List Token → ParsedJournal → Type 0
TextsFound j of b m f text ts r = (bs : List (List ℕ)) × (rest : List Token) × (ts ≡ map (λ c. token.Bytes c) bs ++ rest) × (accept (at j (Some (open_member of b (set_text f (text ++ concat bs) m))) [] Behind) rest ≡ Some r) × (length rest ≤ length ts)

no_more_text : (j : ParsedJournal) (of : Role) (b : Bracket) (m : Member) (f : FieldName) (text : List ℕ) (ts : List Token) (r : ParsedJournal) → accept (at j (Some (open_member of b (set_text f text m))) [] Behind) ts ≡ Some r → TextsFound j of b m f text ts r
no_more_text j of b m f text ts r h = ([], ts, refl, ap (λ t. accept (at j (Some (open_member of b (set_text f t m))) [] Behind) ts) (append-nil text) ∙ h, omega arith)

one_more_text : (j : ParsedJournal) (of : Role) (b : Bracket) (m : Member) (f : FieldName) (text c : List ℕ) (ts : List Token) (r : ParsedJournal) → TextsFound j of b m f (text ++ c) ts r → TextsFound j of b m f text (token.Bytes c ∷ ts) r
one_more_text j of b m f text c ts r later =
    let less : length later.1 ≤ length ts = later.4 in (
      c ∷ later.0,
      later.1,
      ap (λ q. token.Bytes c ∷ q) later.2,
      ap (λ t. accept (at j (Some (open_member of b (set_text f t m))) [] Behind) later.1) (sym (append_assoc text c (concat later.0))) ∙ later.3,
      omega arith,
    )

texts_found : (j : ParsedJournal) (of : Role) (b : Bracket) (m : Member) (f : FieldName) (text : List ℕ) (ts : List Token) (r : ParsedJournal) → is_text_field f ≡ true → accept (at j (Some (open_member of b (set_text f text m))) [] (BehindText f)) ts ≡ Some r → TextsFound j of b m f text ts r
texts_found j of b m f text [] r is h = no_more_text j of b m f text [] r h
texts_found j of b m field.Keyspace text (token.Bytes c ∷ ts) r is h = one_more_text j of b m field.Keyspace text c ts r (texts_found j of b m field.Keyspace (text ++ c) ts r is h)
texts_found j of b m field.Shard text (token.Bytes c ∷ ts) r is h = one_more_text j of b m field.Shard text c ts r (texts_found j of b m field.Shard (text ++ c) ts r is h)
texts_found j of b m field.Gtid text (token.Bytes c ∷ ts) r is h = one_more_text j of b m field.Gtid text c ts r (texts_found j of b m field.Gtid (text ++ c) ts r is h)
texts_found j of b m f text (token.Bytes c ∷ ts) r is h = absurd (cc)
texts_found j of b m f text (t ∷ ts) r is h = no_more_text j of b m f text (t ∷ ts) r (sym (text_is_behind f j (Some (open_member of b (set_text f text m))) [] (t ∷ ts) tt) ∙ h)

abbrev TextFound : ParsedJournal → Role → Bracket → Member → FieldName → List Token → ParsedJournal → Type 0
TextFound j of b m f ts r = (value more : List Token) × (text : List ℕ) × (ts ≡ value ++ more) × ((s : List Token) × (value ≡ token.Colon ∷ s) × AreStrings s text) × (accept (at j (Some (open_member of b (set_text f text m))) [] Behind) more ≡ Some r) × (length more ≤ length ts)

text_made : (j : ParsedJournal) (of : Role) (b : Bracket) (m : Member) (f : FieldName) (text : List ℕ) (ts : List Token) (r : ParsedJournal) → TextsFound j of b m f text ts r → TextFound j of b m f (token.Colon ∷ token.Bytes text ∷ ts) r
text_made j of b m f text ts r later =
    let s = token.Bytes text ∷ map (λ c. token.Bytes c) later.0 in
    let less : length later.1 ≤ length ts = later.4 in
    (token.Colon ∷ s, later.1, text ++ concat later.0, ap (λ q. token.Colon ∷ token.Bytes text ∷ q) later.2, (s, refl, (text, later.0, refl, refl)), later.3, omega arith)

text_found : (f : FieldName) (j : ParsedJournal) (of : Role) (b : Bracket) (m : Member) (ts : List Token) (r : ParsedJournal) → is_text_field f ≡ true → accept (at j (Some (open_member of b m)) [] (BehindName f)) ts ≡ Some r → TextFound j of b m f ts r
text_found f j of b m [] r is h = absurd (cc)
text_found f j of b m (token.Colon ∷ []) r is h = absurd (cc)
text_found field.Keyspace j of b m (token.Colon ∷ token.Bytes c ∷ ts) r is h = text_made j of b m field.Keyspace c ts r (texts_found j of b m field.Keyspace c ts r is h)
text_found field.Shard j of b m (token.Colon ∷ token.Bytes c ∷ ts) r is h = text_made j of b m field.Shard c ts r (texts_found j of b m field.Shard c ts r is h)
text_found field.Gtid j of b m (token.Colon ∷ token.Bytes c ∷ ts) r is h = text_made j of b m field.Gtid c ts r (texts_found j of b m field.Gtid c ts r is h)
text_found field.Keyspace j of b m ts r is h = absurd (cc)
text_found field.Shard j of b m ts r is h = absurd (cc)
text_found field.Gtid j of b m ts r is h = absurd (cc)
text_found f j of b m ts r is h = absurd (cc)

abbrev FieldOfMember : Role → Bracket → ParsedJournal → Member → List ℕ → List Token → ParsedJournal → Type 0
FieldOfMember of b j m name ts r = FieldFound (λ (m : Member). j) (λ (m : Member). Some (open_member of b m)) [] (IsMemberField of) member_with m name ts r

text_setting : (f : FieldName) (of : Role) (b : Bracket) (j : ParsedJournal) (m : Member) (name : List ℕ) (ts : List Token) (r : ParsedJournal) → member_field of name ≡ f → is_text_field f ≡ true → accept (at j (Some (open_member of b m)) [] (BehindName f)) ts ≡ Some r → FieldOfMember of b j m name ts r
text_setting f of b j m name ts r e is h =
    let t = text_found f j of b m ts r is h in
    (t.0, t.1, Some (f, t.2), t.3, (e, is, t.4.0, t.4.1, t.4.2), t.5, t.6)

member_setting : (n : ℕ) (f : FieldName) (of : Role) (b : Bracket) (j : ParsedJournal) (m : Member) (name : List ℕ) (ts : List Token) (r : ParsedJournal) → IsOfMember f → member_field of name ≡ f → length ts ≤ n → accept (at j (Some (open_member of b m)) [] (BehindName f)) ts ≡ Some r → FieldOfMember of b j m name ts r
member_setting n field.Keyspace of b j m name ts r is e few h = text_setting field.Keyspace of b j m name ts r e refl h
member_setting n field.Shard of b j m name ts r is e few h = text_setting field.Shard of b j m name ts r e refl h
member_setting n field.Gtid of b j m name ts r is e few h = text_setting field.Gtid of b j m name ts r e refl h
member_setting n field.Unknown of b j m name ts r is e few h =
    let v = value_found n 31 j (Some (open_member of b m)) [] ts r few refl h in
    (v.0, v.1, None, v.2, (e, v.3), v.4, v.5)
member_setting n f of b j m name ts r is e few h = absurd is

member_finds : (n : ℕ) (of : Role) (b : Bracket) (j r : ParsedJournal) → FindsField (λ (m : Member). j) (λ (m : Member). Some (open_member of b m)) [] (IsMemberField of) member_with n r
member_finds n of b j r = λ m name ts few h. member_setting n (member_field of name) of b j m name ts r (is_of_member of name) refl few h

-- ---- a member

member_close : (of : Role) (b d : Bracket) (j : ParsedJournal) (m : Member) (ts : List Token) (r : ParsedJournal) → accept (at j (Some (open_member of b m)) [] Name) (token.Close d ∷ ts) ≡ Some r → (d ≡ b) × (accept (at (with_member of m j) None [] Behind) ts ≡ Some r)
member_close of Curly Curly j m ts r h = (refl, h)
member_close of Angle Angle j m ts r h = (refl, h)
member_close of Curly Angle j m ts r h = absurd (cc)
member_close of Angle Curly j m ts r h = absurd (cc)

abbrev MemberEnd : Role → Bracket → ParsedJournal → Member → List Token → ParsedJournal → Type 0
MemberEnd of b j m rest r = (more : List Token) × (rest ≡ token.Close b ∷ more) × (accept (at (with_member of m j) None [] Behind) more ≡ Some r)

member_end : (of : Role) (b : Bracket) (j : ParsedJournal) (m : Member) (rest : List Token) (r : ParsedJournal) → Ends rest → accept (at j (Some (open_member of b m)) [] Name) rest ≡ Some r → MemberEnd of b j m rest r
member_end of b j m [] r ends h = absurd (cc)
member_end of b j m (token.Close d ∷ ts) r ends h = let closed = member_close of b d j m ts r h in (ts, ap (λ e. token.Close e ∷ ts) closed.0, closed.1)
member_end of b j m (t ∷ ts) r ends h = absurd ends

abbrev FieldOfJournal : ParsedJournal → List ℕ → List Token → ParsedJournal → Type 0
FieldOfJournal j name ts r = FieldFound (λ (j : ParsedJournal). j) (λ (j : ParsedJournal). None) [] IsJournalField journal_with j name ts r

longer : (colon ts more : List Token) (b : Bracket) → length more ≤ length ts → length more ≤ length (colon ++ token.Open b ∷ ts)
longer [] ts more b h = omega arith
longer (x ∷ colon) ts more b h = let k = longer colon ts more b h in omega arith

member_made : (of : Role) (b : Bracket) (j : ParsedJournal) (name : List ℕ) (colon ts : List Token) (r : ParsedJournal) → journal_field name ≡ field_naming of → IsOptionalColon colon → accept (at j (Some (open_member of b no_member)) [] Name) ts ≡ Some r → FieldOfJournal j name (colon ++ token.Open b ∷ ts) r
member_made of b j name colon ts r e is h =
    let fields = fields_found (λ (m : Member). j) (λ (m : Member). Some (open_member of b m)) [] (IsMemberField of) member_with (length ts) r (member_finds (length ts) of b j r) (length ts) no_member ts (omega arith) (omega arith) h in
    let m = settled member_with no_member fields.0 in
    let end = member_end of b j m fields.2 r fields.5 fields.6 in
    let short : length fields.2 ≤ length ts = fields.7 in
    let shorter : length fields.2 ≡ suc (length end.0) = ap length end.1 in
    let inner = fields.1 in
    let regrouped : (colon ++ (token.Open b ∷ (inner ++ token.Close b ∷ []))) ++ end.0 ≡ colon ++ (token.Open b ∷ (inner ++ token.Close b ∷ end.0)) = append_assoc colon (token.Open b ∷ (inner ++ token.Close b ∷ [])) end.0 ∙ ap (λ q. colon ++ (token.Open b ∷ q)) (append_assoc inner (token.Close b ∷ []) end.0) in (
      colon ++ (token.Open b ∷ (inner ++ token.Close b ∷ [])),
      end.0,
      NamesMember of m,
      ap (λ q. colon ++ (token.Open b ∷ q)) (fields.3 ∙ ap (λ q. inner ++ q) end.1) ∙ sym regrouped,
      (e, (b, colon, inner, refl, is, (fields.0, fields.4, refl))),
      end.2,
      longer colon ts end.0 b (omega arith),
    )

-- ---- a journal's fields

abbrev IsOfJournal : FieldName → Type 0
IsOfJournal field.Id = Unit {0}
IsOfJournal field.MigrationType = Unit {0}
IsOfJournal field.ShardGtids = Unit {0}
IsOfJournal field.Participants = Unit {0}
IsOfJournal field.Unknown = Unit {0}
IsOfJournal other = ⊥

is_of_journal : (name : List ℕ) → IsOfJournal (journal_field name)
is_of_journal name =
    of_cond IsOfJournal (same_text name (codes "id")) _ _ tt
    (of_cond IsOfJournal (same_text name (codes "migration_type")) _ _ tt
    (of_cond IsOfJournal (same_text name (codes "shard_gtids")) _ _ tt
    (of_cond IsOfJournal (same_text name (codes "participants")) _ _ tt tt)))

id_made : (j : ParsedJournal) (name : List ℕ) (n : Bool) (size : Option ℕ) (ts : List Token) (r : ParsedJournal) (o : Option ℤ) → journal_field name ≡ field.Id → id_of n size ≡ o → option_and_then (λ u. accept u ts) (option_map (λ i. at (record j { id = i }) None [] Behind) o) ≡ Some r → FieldOfJournal j name (token.Colon ∷ token.Number n size ∷ ts) r
id_made j name n size ts r None e is h = absurd (cc)
id_made j name n size ts r (Some i) e is h = (token.Colon ∷ token.Number n size ∷ [], ts, SetsId i, refl, (e, n, size, refl, is), h, omega arith)

kind_made : (j : ParsedJournal) (name : List ℕ) (t : Token) (ts : List Token) (r : ParsedJournal) (o : Option Bool) → journal_field name ≡ field.MigrationType → kind_in t ≡ o → option_and_then (λ u. accept u ts) (option_map (λ k. at (record j { shards = k }) None [] Behind) o) ≡ Some r → FieldOfJournal j name (token.Colon ∷ t ∷ ts) r
kind_made j name t ts r None e is h = absurd (cc)
kind_made j name t ts r (Some k) e is h = (token.Colon ∷ t ∷ [], ts, SetsKind k, refl, (e, t, refl, is), h, omega arith)

journal_setting : (f : FieldName) (j : ParsedJournal) (name : List ℕ) (ts : List Token) (r : ParsedJournal) → IsOfJournal f → journal_field name ≡ f → accept (at j None [] (BehindName f)) ts ≡ Some r → FieldOfJournal j name ts r
journal_setting field.Id j name (token.Colon ∷ token.Number n size ∷ ts) r is e h = id_made j name n size ts r (id_of n size) e refl h
journal_setting field.MigrationType j name (token.Colon ∷ token.Word w ∷ ts) r is e h = kind_made j name (token.Word w) ts r (kind_named w) e refl h
journal_setting field.MigrationType j name (token.Colon ∷ token.Number n size ∷ ts) r is e h = kind_made j name (token.Number n size) ts r (kind_numbered n size) e refl h
journal_setting field.Participants j name (token.Open b ∷ ts) r is e h = member_made role.Participant b j name [] ts r e (inl refl) h
journal_setting field.Participants j name (token.Colon ∷ token.Open b ∷ ts) r is e h = member_made role.Participant b j name (token.Colon ∷ []) ts r e (inr refl) h
journal_setting field.ShardGtids j name (token.Open b ∷ ts) r is e h = member_made role.Successor b j name [] ts r e (inl refl) h
journal_setting field.ShardGtids j name (token.Colon ∷ token.Open b ∷ ts) r is e h = member_made role.Successor b j name (token.Colon ∷ []) ts r e (inr refl) h
journal_setting field.Unknown j name ts r is e h =
    let v = value_found (length ts) 32 j None [] ts r (omega arith) refl h in
    (v.0, v.1, SaysNothing, v.2, (e, v.3), v.4, v.5)
journal_setting field.Keyspace j name ts r is e h = absurd is
journal_setting field.Shard j name ts r is e h = absurd is
journal_setting field.Gtid j name ts r is e h = absurd is
journal_setting f j name [] r is e h = absurd (cc)
journal_setting f j name (token.Colon ∷ []) r is e h = absurd (cc)
journal_setting f j name (token.Colon ∷ t ∷ ts) r is e h = absurd (cc)
journal_setting f j name (t ∷ ts) r is e h = absurd (cc)

journal_end : (j : ParsedJournal) (rest : List Token) (r : ParsedJournal) → Ends rest → accept (at j None [] Name) rest ≡ Some r → (rest ≡ []) × (j ≡ r)
journal_end j [] r ends h = (refl, cc)
journal_end j (token.Close d ∷ ts) r ends h = absurd (cc)
journal_end j (t ∷ ts) r ends h = absurd ends

pub journal_found : (ts : List Token) (r : ParsedJournal) → accept first_state ts ≡ Some r → IsJournal ts r
journal_found ts r h =
    let one : FindsField (λ (j : ParsedJournal). j) (λ (j : ParsedJournal). None) [] IsJournalField journal_with (length ts) r = λ j name vs few k. journal_setting (journal_field name) j name vs r (is_of_journal name) refl k in
    let fields = fields_found (λ (j : ParsedJournal). j) (λ (j : ParsedJournal). None) [] IsJournalField journal_with (length ts) r one (length ts) no_journal ts (omega arith) (omega arith) h in
    let end = journal_end (settled journal_with no_journal fields.0) fields.2 r fields.5 fields.6 in
    let whole : ts ≡ fields.1 = fields.3 ∙ ap (λ q. fields.1 ++ q) end.0 ∙ append-nil fields.1 in
    (fields.0, subst (λ q. AreFields IsJournalField q fields.0) (sym whole) fields.4, end.1)

pub journal_taken : (ts : List Token) (j : ParsedJournal) → IsJournal ts j → accept first_state ts ≡ Some j
journal_taken ts j h =
    ap (accept first_state) (sym (append-nil ts)) ∙ (journal_accepted ts [] h.0 no_journal h.1 tt ∙ ap Some h.2)
