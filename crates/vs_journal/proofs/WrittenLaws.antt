-- What is written of a journal that a text says, says that journal.
use Rattle.std.proofs.Common.{◌≡◌, ◌∙◌, ◌++◌, ◌≤◌, ◌^◌, ◌&&◌, ℕ, zero, suc, Bool, true, false, List, [], ◌∷◌, Option, Some, None, Result, Ok, Err, length, map, refl, ap, sym, subst, inl, inr, append_assoc, append-nil, arith, cond}
use Rattle.std.specs.Prelude.{codes, nat_le, nat_lt, option_map, ℤ, pos, negsuc}
use Rattle.std.specs.List.{AllByRecursion, flat_map}
use Rattle.std.specs.Option.{option_and_then}
use Rattle.std.specs.Result.{result_ok}
use Rattle.std.proofs.lemmas.Bool.{and_from, and_parts, le-leb, leb-true, lt-ltb, ltb-true}
use Rattle.vs_base.specs.Numbers.{signed}
use Rattle.vs_gtid.specs.Positions.{IsCanonical, Position}
use Rattle.vs_gtid.specs.Readings.{ReadsSet, read}
use Rattle.vs_gtid.specs.SetTexts.{prefix}
use Rattle.vs_gtid.specs.Text.{position_text, set_text}
use Rattle.vs_gtid.specs.declared.refusal.GtidRefusal.{GtidRefusal}
use Rattle.vs_gtid.proofs.PrintedLemmas.{printed}
use Rattle.vs_gtid.proofs.ReadingLemmas.{reads}
use Rattle.vs_outside.specs.Names.{is_keyspace_text, is_shard_text}
use Rattle.vs_journal.specs.Grammar.{id_of, no_journal, parsed_journal}
use Rattle.vs_journal.specs.Judgement.{PlainJournal, PlainName, all_some, by_names, by_order, gathered_entries, gathered_keys, in_form, judged_journal, lawful_name, lawful_successor, plain_cmp, position_in, shards_journal}
use Rattle.vs_journal.specs.Productions.{AreFields, IsJournal, IsJournalField, IsJournalText, IsMemberField, JournalSetting, MemberSetting, NamesMember, SaysNothing, SetsId, SetsKind, journal_with, settled}
use Rattle.vs_journal.specs.Texts.{journal_text, kind_text}
use Rattle.vs_journal.specs.Written.{WrittenIsRead}
use Rattle.vs_journal.specs.declared.parsed.Member.{Member}
use Rattle.vs_journal.specs.declared.parsed.ParsedJournal.{ParsedJournal}
use Rattle.vs_journal.specs.declared.refusal.JournalRefusal.TheVariants.{TooManyNames}
use Rattle.vs_journal.specs.declared.state.FieldName.TheVariants as field
use Rattle.vs_journal.specs.declared.state.Role.{Role}
use Rattle.vs_journal.specs.declared.state.Role.TheVariants as role
use Rattle.vs_journal.specs.declared.token.Bracket.TheVariants.{Curly}
use Rattle.vs_journal.specs.declared.token.Token.{Token}
use Rattle.vs_journal.specs.declared.token.Token.TheVariants as token
use Rattle.vs_journal.proofs.GatherLaws.{Ascends, HasSome, entries_gathered, entries_in_order, keys_gathered, keys_in_order}
use Rattle.vs_journal.proofs.JudgeLemmas.{position_is}
use Rattle.vs_journal.proofs.NameLaws.{names_total}
use Rattle.vs_journal.proofs.SpellTexts.{IsId, id_token, journal_spelled, journal_tokens, name_tokens, participant_tokens, successor_tokens}
use Rattle.vs_journal.proofs.TextLaws.{journals_are_productions}

-- ---- what a journal that a text says keeps

abbrev pub IsLawful : PlainName → Type 0
IsLawful n = (is_keyspace_text n.0 && is_shard_text n.1) ≡ true

abbrev pub IsPrinted : Position → Type 0
IsPrinted p = IsCanonical p × (length p ≤ 1024)

pub record KeepsNames (j : PlainJournal) : Type 0 where
  pub ascending : Ascends plain_cmp (λ (n : PlainName). n) j.participants
  pub lawful : AllByRecursion IsLawful j.participants
  pub some : HasSome j.participants
  pub few : length j.participants ≤ 64
  pub ascending_successors : Ascends plain_cmp (λ (s : PlainName × Position). s.0) j.successors
  pub lawful_successors : AllByRecursion (λ s. IsLawful s.0 × IsPrinted s.1) j.successors
  pub some_successors : HasSome j.successors
  pub few_successors : length j.successors ≤ 64

abbrev pub KeepsAll : Bool → PlainJournal → Type 0
KeepsAll true j = KeepsNames j
KeepsAll false j = (j.participants ≡ []) × (j.successors ≡ [])

-- ---- an id is one of 64 bits

id_read : (n : Bool) (size : Option ℕ) (z : ℤ) → id_of n size ≡ Some z → IsId z
id_read false None z h = absurd (cc)
id_read true None z h = absurd (cc)
id_read false (Some m) z h = go (nat_lt m (2 ^ 63)) refl h
  where
    go : (b : Bool) → nat_lt m (2 ^ 63) ≡ b → cond b (Some (pos m)) None ≡ Some z → IsId z
    go true e k = (let same : pos m ≡ z = cc in subst IsId same (ltb-true m (2 ^ 63) e))
    go false e k = absurd (cc)
id_read true (Some m) z h = go (nat_le m (2 ^ 63)) refl h
  where
    fits : (m : ℕ) → m ≤ 2 ^ 63 → IsId (signed true m)
    fits zero l = omega arith
    fits (suc m) l = l

    go : (b : Bool) → nat_le m (2 ^ 63) ≡ b → cond b (Some (signed true m)) None ≡ Some z → IsId z
    go true e k = (let same : signed true m ≡ z = cc in subst IsId same (fits m (leb-true m (2 ^ 63) e)))
    go false e k = absurd (cc)

id_kept : (settings : List JournalSetting) (ts : List Token) (j : ParsedJournal) → IsId j.id → AreFields IsJournalField ts settings → IsId (settled journal_with j settings).id
id_kept [] ts j h fields = h
id_kept (SetsId z ∷ settings) ts j h fields = id_kept settings fields.3 _ (id_read fields.5.1 fields.5.2 z fields.5.4) fields.7
id_kept (SetsKind shards ∷ settings) ts j h fields = id_kept settings fields.3 _ h fields.7
id_kept (NamesMember role.Participant m ∷ settings) ts j h fields = id_kept settings fields.3 _ h fields.7
id_kept (NamesMember role.Successor m ∷ settings) ts j h fields = id_kept settings fields.3 _ h fields.7
id_kept (SaysNothing ∷ settings) ts j h fields = id_kept settings fields.3 _ h fields.7

parsed_id : (text : List ℕ) (p : ParsedJournal) → parsed_journal text ≡ Ok p → IsId p.id
parsed_id text p h =
    let is = (journals_are_productions.some text p h).2 in
    subst (λ (q : ParsedJournal). IsId q.id) is.2 (id_kept is.0 _ no_journal (omega arith) is.1)

-- ---- names and positions are lawful

all_kept : {A B : Type 0} (f : A → Option B) (P : B → Type 0) → ((x : A) (y : B) → f x ≡ Some y → P y) → (xs : List A) (ys : List B) → all_some f xs ≡ Some ys → AllByRecursion P ys
all_kept f P each [] ys h = (let none : [] ≡ ys = cc in subst (AllByRecursion P) none tt)
all_kept {A} {B} f P each (x ∷ xs) ys h = go (f x) (all_some f xs) refl h (λ zs k. all_kept f P each xs zs k)
  where
    go : (o : Option B) (q : Option (List B)) → f x ≡ o → option_and_then (λ y. option_map (λ ys. y ∷ ys) q) o ≡ Some ys → ((zs : List B) → q ≡ Some zs → AllByRecursion P zs) → AllByRecursion P ys
    go None q e k later = absurd (cc)
    go (Some y) None e k later = absurd (cc)
    go (Some y) (Some zs) e k later = (let same : y ∷ zs ≡ ys = cc in subst (AllByRecursion P) same (each x y e, later zs refl))

name_kept : (m : Member) (n : PlainName) → lawful_name m ≡ Some n → IsLawful n
name_kept m n h = go (is_keyspace_text m.keyspace && is_shard_text m.shard) refl h
  where
    go : (b : Bool) → (is_keyspace_text m.keyspace && is_shard_text m.shard) ≡ b → cond b (Some (m.keyspace, m.shard)) None ≡ Some n → IsLawful n
    go true e k = (let same : (m.keyspace, m.shard) ≡ n = cc in subst IsLawful same e)
    go false e k = absurd (cc)

position_kept : (text : List ℕ) (p : Position) → position_in text ≡ Some p → IsPrinted p
position_kept [] p h = absurd (cc)
position_kept (c ∷ cs) p h = go (read (c ∷ cs)) refl h
  where
    said : (q : Position) → ReadsSet (c ∷ cs) (Ok q) → IsPrinted q
    said q is = (is.2.canonical, is.3)

    go : (r : Result Position GtidRefusal) → read (c ∷ cs) ≡ r → result_ok r ≡ Some p → IsPrinted p
    go (Ok q) e k = (let same : q ≡ p = cc in subst IsPrinted same (said q (subst (ReadsSet (c ∷ cs)) e (reads (c ∷ cs)))))
    go (Err refusal) e k = absurd (cc)

successor_kept : (m : Member) (s : PlainName × Position) → lawful_successor m ≡ Some s → IsLawful s.0 × IsPrinted s.1
successor_kept m s h = go (lawful_name m) (position_in m.gtid) refl refl h
  where
    go : (o : Option PlainName) (q : Option Position) → lawful_name m ≡ o → position_in m.gtid ≡ q → option_and_then (λ (n : PlainName). option_map (λ (p : Position). (n, p)) q) o ≡ Some s → IsLawful s.0 × IsPrinted s.1
    go None q e f k = absurd (cc)
    go (Some n) None e f k = absurd (cc)
    go (Some n) (Some p) e f k = (let same : (n, p) ≡ s = cc in subst (λ (t : PlainName × Position). IsLawful t.0 × IsPrinted t.1) same (name_kept m n e, position_kept m.gtid p f))

-- ---- and in order

abbrev IsOrdered : ℤ → PlainJournal → Type 0
IsOrdered id j = (j.id ≡ id) × KeepsAll j.shards j

order_kept : (id : ℤ) (ps : List PlainName) (ss : List (PlainName × Position)) (po : Option (List PlainName)) (so : Option (List (PlainName × Position))) (j : PlainJournal) → HasSome ps → HasSome ss → AllByRecursion IsLawful ps → AllByRecursion (λ s. IsLawful s.0 × IsPrinted s.1) ss →
    gathered_keys plain_cmp [] ps ≡ po → gathered_entries plain_cmp [] ss ≡ so → by_order id po so ≡ Ok j → IsOrdered id j
order_kept id ps ss None so j some others lawful fits e f h = absurd (cc)
order_kept id ps ss (Some ks) None j some others lawful fits e f h = absurd (cc)
order_kept id ps ss (Some ks) (Some es) j some others lawful fits e f h = go (nat_le (length ks) 64 && nat_le (length es) 64) refl h
  where
    go : (b : Bool) → (nat_le (length ks) 64 && nat_le (length es) 64) ≡ b → cond b (Ok (shards_journal id ks es)) (Err TooManyNames) ≡ Ok j → IsOrdered id j
    go false k h = absurd (cc)
    go true k h =
        let same : shards_journal id ks es ≡ j = cc in
        let parts = and_parts (nat_le (length ks) 64) (nat_le (length es) 64) k in
        let keys = keys_gathered plain_cmp names_total IsLawful [] ps ks e tt some tt lawful in
        let entries = entries_gathered plain_cmp names_total IsLawful IsPrinted [] ss es f tt others tt fits in
        subst (IsOrdered id) same (
          refl,
          record {
            ascending = keys.0;
            lawful = keys.1;
            some = keys.2;
            few = leb-true (length ks) 64 parts.0;
            ascending_successors = entries.0;
            lawful_successors = entries.1;
            some_successors = entries.2;
            few_successors = leb-true (length es) 64 parts.1;
          },
        )

names_kept : (size : ℕ) (id : ℤ) (po : Option (List PlainName)) (so : Option (List (PlainName × Position))) (j : PlainJournal) → ((ps : List PlainName) → po ≡ Some ps → AllByRecursion IsLawful ps) → ((ss : List (PlainName × Position)) → so ≡ Some ss → AllByRecursion (λ s. IsLawful s.0 × IsPrinted s.1) ss) →
    by_names size id po so ≡ Ok j → IsOrdered id j
names_kept size id None so j lawful fits h = absurd (cc)
names_kept size id (Some []) so j lawful fits h = absurd (cc)
names_kept size id (Some (p ∷ ps)) None j lawful fits h = absurd (cc)
names_kept size id (Some (p ∷ ps)) (Some []) j lawful fits h = absurd (cc)
names_kept size id (Some (p ∷ ps)) (Some (s ∷ ss)) j lawful fits h =
    order_kept id (p ∷ ps) (s ∷ ss) (gathered_keys plain_cmp [] (p ∷ ps)) (gathered_entries plain_cmp [] (s ∷ ss)) j (p, ps, refl) (s, ss, refl) (lawful (p ∷ ps) refl) (fits (s ∷ ss) refl) refl refl h

judged_kept : (size : ℕ) (p : ParsedJournal) (j : PlainJournal) → judged_journal size p ≡ Ok j → IsOrdered p.id j
judged_kept size p j h = go p.shards h
  where
    go : (b : Bool) → cond b (by_names size p.id (all_some lawful_name p.participants) (all_some lawful_successor p.successors)) (Ok (record { id = p.id; shards = false; participants = []; successors = [] })) ≡ Ok j → IsOrdered p.id j
    go true k = names_kept size p.id (all_some lawful_name p.participants) (all_some lawful_successor p.successors) j (λ ps e. all_kept lawful_name IsLawful name_kept p.participants ps e) (λ ss e. all_kept lawful_successor (λ s. IsLawful s.0 × IsPrinted s.1) successor_kept p.successors ss e) k
    go false k =
        let same : ◌≡◌ {A = PlainJournal} (record { id = p.id; shards = false; participants = []; successors = [] }) j = cc in
        subst (IsOrdered p.id) same (refl, (refl, refl))

pub record IsReadable (j : PlainJournal) : Type 0 where
  pub id : IsId j.id
  pub names : KeepsAll j.shards j

pub readable : (text : List ℕ) (j : PlainJournal) (r : Result ParsedJournal ℕ) → parsed_journal text ≡ r → in_form (length text) r ≡ Ok j → IsReadable j
readable text j (Err at) e h = absurd (cc)
readable text j (Ok p) e h =
    let kept = judged_kept (length text) p j h in
    record { id = subst IsId (sym kept.0) (parsed_id text p e); names = kept.1 }

-- ---- the tokens of a written journal are a journal's

abbrev named_member : PlainName → List ℕ → Member
named_member n gtid = record { keyspace = n.0; shard = n.1; gtid = gtid }

abbrev successor_member : PlainName × Position → Member
successor_member s = named_member s.0 (position_text s.1)

name_fields : (of : Role) (n : PlainName) (more : List Token) (settings : List MemberSetting) → AreFields (IsMemberField of) more settings → AreFields (IsMemberField of) (name_tokens n ++ more) (Some (field.Keyspace, n.0) ∷ Some (field.Shard, n.1) ∷ settings)
name_fields of n more settings later = (
  codes "keyspace",
  token.Colon ∷ token.Bytes n.0 ∷ [],
  [],
  token.Word (codes "shard") ∷ token.Colon ∷ token.Bytes n.1 ∷ more,
  refl,
  (refl, refl, token.Bytes n.0 ∷ [], refl, (n.0, [], refl, sym (append-nil n.0))),
  inl refl,
  (codes "shard", token.Colon ∷ token.Bytes n.1 ∷ [], [], more, refl, (refl, refl, token.Bytes n.1 ∷ [], refl, (n.1, [], refl, sym (append-nil n.1))), inl refl, later),
)

participant_field : (n : PlainName) → IsJournalField (codes "participants") (token.Colon ∷ token.Open Curly ∷ (name_tokens n ++ token.Close Curly ∷ [])) (NamesMember role.Participant (named_member n []))
participant_field n =
    (refl, (Curly, token.Colon ∷ [], name_tokens n, refl, inr refl, (Some (field.Keyspace, n.0) ∷ Some (field.Shard, n.1) ∷ [], name_fields role.Participant n [] [] refl, refl)))

successor_field : (s : PlainName × Position) → IsJournalField (codes "shard_gtids") (token.Colon ∷ token.Open Curly ∷ (name_tokens s.0 ++ token.Word (codes "gtid") ∷ token.Colon ∷ token.Bytes (position_text s.1) ∷ token.Close Curly ∷ [])) (NamesMember role.Successor (successor_member s))
successor_field s =
    let text = position_text s.1 in
    let gtid : AreFields (IsMemberField role.Successor) (token.Word (codes "gtid") ∷ token.Colon ∷ token.Bytes text ∷ []) (Some (field.Gtid, text) ∷ []) =
    (codes "gtid", token.Colon ∷ token.Bytes text ∷ [], [], [], refl, (refl, refl, token.Bytes text ∷ [], refl, (text, [], refl, sym (append-nil text))), inl refl, refl) in (
      refl,
      (
        Curly,
        token.Colon ∷ [],
        name_tokens s.0 ++ token.Word (codes "gtid") ∷ token.Colon ∷ token.Bytes text ∷ [],
        refl,
        inr refl,
        (Some (field.Keyspace, s.0.0) ∷ Some (field.Shard, s.0.1) ∷ Some (field.Gtid, text) ∷ [], name_fields role.Successor s.0 (token.Word (codes "gtid") ∷ token.Colon ∷ token.Bytes text ∷ []) (Some (field.Gtid, text) ∷ []) gtid, refl),
      ),
    )

participants_fields : (ns : List PlainName) → AreFields IsJournalField (flat_map participant_tokens ns) (map (λ n. NamesMember role.Participant (named_member n [])) ns)
participants_fields [] = refl
participants_fields (n ∷ ns) = (codes "participants", token.Colon ∷ token.Open Curly ∷ (name_tokens n ++ token.Close Curly ∷ []), [], flat_map participant_tokens ns, refl, participant_field n, inl refl, participants_fields ns)

successors_fields : (ss : List (PlainName × Position)) (more : List Token) (settings : List JournalSetting) → AreFields IsJournalField more settings → AreFields IsJournalField (flat_map successor_tokens ss ++ more) (map (λ s. NamesMember role.Successor (successor_member s)) ss ++ settings)
successors_fields [] more settings later = later
successors_fields (s ∷ ss) more settings later = (
  codes "shard_gtids",
  token.Colon ∷ token.Open Curly ∷ (name_tokens s.0 ++ token.Word (codes "gtid") ∷ token.Colon ∷ token.Bytes (position_text s.1) ∷ token.Close Curly ∷ []),
  [],
  flat_map successor_tokens ss ++ more,
  append_assoc (successor_tokens s) (flat_map successor_tokens ss) more,
  successor_field s,
  inl refl,
  successors_fields ss more settings later,
)

participants_settled : (ns : List PlainName) (p : ParsedJournal) → settled journal_with p (map (λ n. NamesMember role.Participant (named_member n [])) ns) ≡ record p { participants = p.participants ++ map (λ n. named_member n []) ns }
participants_settled [] p = ap (λ ms. record p { participants = ms }) (sym (append-nil p.participants))
participants_settled (n ∷ ns) p =
    participants_settled ns (record p { participants = p.participants ++ named_member n [] ∷ [] })
    ∙ ap (λ ms. record p { participants = ms }) (append_assoc p.participants (named_member n [] ∷ []) (map (λ n. named_member n []) ns))

successors_settled : (ss : List (PlainName × Position)) (settings : List JournalSetting) (p : ParsedJournal) → settled journal_with p (map (λ s. NamesMember role.Successor (successor_member s)) ss ++ settings) ≡ settled journal_with (record p { successors = p.successors ++ map successor_member ss }) settings
successors_settled [] settings p = ap (λ ms. settled journal_with (record p { successors = ms }) settings) (sym (append-nil p.successors))
successors_settled (s ∷ ss) settings p =
    successors_settled ss settings (record p { successors = p.successors ++ successor_member s ∷ [] })
    ∙ ap (λ ms. settled journal_with (record p { successors = ms }) settings) (append_assoc p.successors (successor_member s ∷ []) (map successor_member ss))

abbrev parsed_of : PlainJournal → ParsedJournal
parsed_of j = record { id = j.id; shards = j.shards; participants = map (λ n. named_member n []) j.participants; successors = map successor_member j.successors }

id_field : (z : ℤ) → IsId z → IsJournalField (codes "id") (token.Colon ∷ id_token z ∷ []) (SetsId z)
id_field (pos n) h = (refl, false, Some n, refl, ap (λ b. cond b (Some (pos n)) None) (lt-ltb n (2 ^ 63) h))
id_field (negsuc n) h = (refl, true, Some (suc n), refl, ap (λ b. cond b (Some (negsuc n)) None) (le-leb (suc n) (2 ^ 63) h))

kind_field : (shards : Bool) → IsJournalField (codes "migration_type") (token.Colon ∷ token.Word (kind_text shards) ∷ []) (SetsKind shards)
kind_field true = (refl, token.Word (codes "SHARDS"), refl, refl)
kind_field false = (refl, token.Word (codes "TABLES"), refl, refl)

written_journal : (j : PlainJournal) → IsId j.id → IsJournal (journal_tokens j) (parsed_of j)
written_journal j h =
    let members : List Token = flat_map successor_tokens j.successors ++ flat_map participant_tokens j.participants in
    let named : List JournalSetting = map (λ n. NamesMember role.Participant (named_member n [])) j.participants in
    let all : List JournalSetting = map (λ s. NamesMember role.Successor (successor_member s)) j.successors ++ named in
    let fields : AreFields IsJournalField (journal_tokens j) (SetsId j.id ∷ SetsKind j.shards ∷ all) = (
      codes "id",
      token.Colon ∷ id_token j.id ∷ [],
      [],
      token.Word (codes "migration_type") ∷ token.Colon ∷ token.Word (kind_text j.shards) ∷ members,
      refl,
      id_field j.id h,
      inl refl,
      (codes "migration_type", token.Colon ∷ token.Word (kind_text j.shards) ∷ [], [], members, refl, kind_field j.shards, inl refl, successors_fields j.successors (flat_map participant_tokens j.participants) named (participants_fields j.participants)),
    ) in
    let begun : ParsedJournal = record { id = j.id; shards = j.shards; participants = []; successors = [] } in
    (SetsId j.id ∷ SetsKind j.shards ∷ all, fields, successors_settled j.successors named begun ∙ participants_settled j.participants (record begun { successors = map successor_member j.successors }))

-- ---- and it is judged to be that journal

names_read : (ns : List PlainName) → AllByRecursion IsLawful ns → all_some lawful_name (map (λ n. named_member n []) ns) ≡ Some ns
names_read [] h = refl
names_read (n ∷ ns) h =
    ap (λ b. option_and_then (λ (y : PlainName). option_map (λ ys. y ∷ ys) (all_some lawful_name (map (λ n. named_member n []) ns))) (cond b (Some n) None)) h.0
    ∙ ap (option_map (λ ys. n ∷ ys)) (names_read ns h.1)

position_back : (p : Position) → IsPrinted p → position_in (position_text p) ≡ Some p
position_back p h = position_is 77 (codes "ySQL56/" ++ set_text p) (Ok p) (printed prefix p (inr refl) h.0 h.1)

successor_back : (s : PlainName × Position) → IsLawful s.0 → IsPrinted s.1 → lawful_successor (successor_member s) ≡ Some s
successor_back s h k =
    ap (λ b. option_and_then (λ (n : PlainName). option_map (λ (p : Position). (n, p)) (position_in (position_text s.1))) (cond b (Some s.0) None)) h
    ∙ ap (option_map (λ (p : Position). (s.0, p))) (position_back s.1 k)

successors_read : (ss : List (PlainName × Position)) → AllByRecursion (λ s. IsLawful s.0 × IsPrinted s.1) ss → all_some lawful_successor (map successor_member ss) ≡ Some ss
successors_read [] h = refl
successors_read (s ∷ ss) h =
    ap (λ o. option_and_then (λ (y : PlainName × Position). option_map (λ ys. y ∷ ys) (all_some lawful_successor (map successor_member ss))) o) (successor_back s h.0.0 h.0.1)
    ∙ ap (option_map (λ ys. s ∷ ys)) (successors_read ss h.1)

some_named : (size : ℕ) (id : ℤ) (ps : List PlainName) (ss : List (PlainName × Position)) → HasSome ps → HasSome ss → by_names size id (Some ps) (Some ss) ≡ by_order id (gathered_keys plain_cmp [] ps) (gathered_entries plain_cmp [] ss)
some_named size id [] ss some others = (let none : [] ≡ some.0 ∷ some.1 = some.2 in absurd (cc))
some_named size id (p ∷ ps) [] some others = (let none : [] ≡ others.0 ∷ others.1 = others.2 in absurd (cc))
some_named size id (p ∷ ps) (s ∷ ss) some others = refl

judged_back : (size : ℕ) (j : PlainJournal) (shards : Bool) → j.shards ≡ shards → KeepsAll shards j → judged_journal size (parsed_of j) ≡ Ok j
judged_back size j true is h =
    let names = by_names size j.id in
    ap (λ b. cond b (names (all_some lawful_name (map (λ n. named_member n []) j.participants)) (all_some lawful_successor (map successor_member j.successors))) (Ok (record { id = j.id; shards = false; participants = []; successors = [] }))) is
    ∙ (ap (λ o. names o (all_some lawful_successor (map successor_member j.successors))) (names_read j.participants h.lawful)
    ∙ (ap (names (Some j.participants)) (successors_read j.successors h.lawful_successors)
    ∙ (some_named size j.id j.participants j.successors h.some h.some_successors
    ∙ (ap (λ o. by_order j.id o (gathered_entries plain_cmp [] j.successors)) (keys_in_order plain_cmp names_total j.participants h.ascending)
    ∙ (ap (by_order j.id (Some j.participants)) (entries_in_order plain_cmp names_total j.successors h.ascending_successors)
    ∙ (ap (λ b. cond b (Ok (shards_journal j.id j.participants j.successors)) (Err TooManyNames)) (and_from (nat_le (length j.participants) 64) (nat_le (length j.successors) 64) (le-leb (length j.participants) 64 h.few) (le-leb (length j.successors) 64 h.few_successors))
    ∙ ap (λ (b : Bool). Ok (record { id = j.id; shards = b; participants = j.participants; successors = j.successors })) (sym is)))))))
judged_back size j false is h =
    ap (λ b. cond b (by_names size j.id (all_some lawful_name (map (λ n. named_member n []) j.participants)) (all_some lawful_successor (map successor_member j.successors))) (Ok (record { id = j.id; shards = false; participants = []; successors = [] }))) is
    ∙ (ap (λ (b : Bool). Ok (record { id = j.id; shards = b; participants = []; successors = [] })) (sym is)
    ∙ (ap (λ ps. Ok (record { id = j.id; shards = j.shards; participants = ps; successors = [] })) (sym h.0)
    ∙ ap (λ ss. Ok (record { id = j.id; shards = j.shards; participants = j.participants; successors = ss })) (sym h.1)))

canonical : (shards : Bool) (j : PlainJournal) → KeepsAll shards j → AllByRecursion (λ s. IsCanonical s.1) j.successors
canonical true j h = each j.successors h.lawful_successors
  where
    each : (ss : List (PlainName × Position)) → AllByRecursion (λ s. IsLawful s.0 × IsPrinted s.1) ss → AllByRecursion (λ s. IsCanonical s.1) ss
    each [] all = tt
    each (s ∷ ss) all = (all.0.1.0, each ss all.1)
canonical false j h = subst (AllByRecursion (λ s. IsCanonical s.1)) (sym h.1) tt

pub written_is_read : WrittenIsRead
written_is_read text j h =
    let keeps = readable text j (parsed_journal text) refl h in
    let spelled = journal_spelled j keeps.id (canonical j.shards j keeps.names) in
    let is : IsJournalText (journal_text j) (parsed_of j) = (journal_tokens j, ([], spelled, inl ([], refl)), written_journal j keeps.id) in
    let parsed = journals_are_productions.all (journal_text j) (parsed_of j) is in
    ap (in_form (length (journal_text j))) parsed ∙ judged_back (length (journal_text j)) j j.shards refl keeps.names
