-- The journals of the table of journals, one by one, and what they add to a transaction.
use Rattle.std.proofs.Common.{◌≡◌, ℕ, ◌+◌, ◌<◌, ◌≤◌, zero, suc, true, false, List, [], ◌∷◌, ◌++◌, drop, get_or, length, map, nat_eq, Option, Some, None, is_some, Result, Ok, Err, refl, ap, sym, subst, ◌∙◌, append-nil, append_assoc, arith}
use Rattle.std.proofs.Math.Seq.{drop-cons}
use Rattle.vs_base.specs.declared.change.Change.{Change}
use Rattle.vs_base.specs.declared.Why.{Why}
use Rattle.vs_gtid.specs.declared.journal.JournalValue.{JournalValue}
use Rattle.vs_gtid.specs.declared.Work.{Work}
use Rattle.vs_gtid.specs.declared.Work.TheVariants.{Rows, Ddl, Other, Journal}
use Rattle.vs_log.specs.States.{Counted}
use Rattle.vs_log.specs.States.Counted.{Changed, Journaled}
use Rattle.vs_log.specs.Table.{more_work, ◌>>=◌}
use Rattle.vs_entries.specs.JournalRows.{journal_meant, journal_text, journal_texts, journals_meant, with_text}
use Rattle.vs_entries.specs.Reading.{has_no_work, work_in, work_of}
use Rattle.vs_entries.specs.declared.progress.Progress.{Progress}

-- journals in front of those that are meant behind them
abbrev pub behind : List JournalValue → Result (List JournalValue) Why → Result (List JournalValue) Why
behind front meant = meant >>= λ js. Ok (front ++ js)

-- the journals that were read of the first changes, and those of the others, are those of all
abbrev pub AreReadUpTo : List ℕ → List Change → ℕ → List JournalValue → Type 0
AreReadUpTo keyspace changes i read = behind read (journals_meant (journal_texts keyspace (drop i changes))) ≡ journals_meant (journal_texts keyspace changes)

item_at : (cs : List Change) (i : ℕ) (c : Change) → i < length cs → c ≡ get_or cs i c → drop i cs ≡ c ∷ drop (i + 1) cs
item_at cs i c within at =
    let e : suc i ≡ i + 1 = omega arith in
    drop-cons cs i c within ∙ ap (λ x. x ∷ drop (suc i) cs) (sym at) ∙ ap (λ k. c ∷ drop k cs) e

texts_from : (keyspace : List ℕ) (cs : List Change) (i : ℕ) (c : Change) → i < length cs → c ≡ get_or cs i c →
    journal_texts keyspace (drop i cs) ≡ with_text (journal_text keyspace c) (journal_texts keyspace (drop (i + 1) cs))
texts_from keyspace cs i c within at = ap (journal_texts keyspace) (item_at cs i c within at)

behind_none : (meant : Result (List JournalValue) Why) → behind [] meant ≡ meant
behind_none (Ok js) = refl
behind_none (Err why) = refl

pub none_read : (keyspace : List ℕ) (cs : List Change) (read : List JournalValue) → read ≡ [] → AreReadUpTo keyspace cs 0 read
none_read keyspace cs read none = ap (λ r. behind r (journals_meant (journal_texts keyspace cs))) none ∙ behind_none (journals_meant (journal_texts keyspace cs))

-- a change that inserts no journal of the keyspace
pub passed_over : (keyspace : List ℕ) (cs : List Change) (i : ℕ) (c : Change) (read : List JournalValue) → i < length cs → c ≡ get_or cs i c → journal_text keyspace c ≡ None → AreReadUpTo keyspace cs i read → AreReadUpTo keyspace cs (i + 1) read
passed_over keyspace cs i c read within at none was =
    ap (λ t. behind read (journals_meant t)) (sym (texts_from keyspace cs i c within at ∙ ap (λ o. with_text o (journal_texts keyspace (drop (i + 1) cs))) none)) ∙ was

meant_from : (keyspace : List ℕ) (cs : List Change) (i : ℕ) (c : Change) (text : List ℕ) → i < length cs → c ≡ get_or cs i c → journal_text keyspace c ≡ Some text →
    journals_meant (journal_texts keyspace (drop i cs)) ≡ journals_meant (text ∷ journal_texts keyspace (drop (i + 1) cs))
meant_from keyspace cs i c text within at some =
    ap journals_meant (texts_from keyspace cs i c within at ∙ ap (λ o. with_text o (journal_texts keyspace (drop (i + 1) cs))) some)

one_behind : (front : List JournalValue) (j : JournalValue) (meant : Result (List JournalValue) Why) → behind (front ++ j ∷ []) meant ≡ behind front (meant >>= λ js. Ok (j ∷ js))
one_behind front j (Ok js) = ap Ok (append_assoc front (j ∷ []) js)
one_behind front j (Err why) = refl

-- a journal was read
pub one_read : (keyspace : List ℕ) (cs : List Change) (i : ℕ) (c : Change) (text : List ℕ) (read longer : List JournalValue) (j : JournalValue) → i < length cs → c ≡ get_or cs i c → journal_text keyspace c ≡ Some text →
    journal_meant text ≡ Ok j → longer ≡ read ++ j ∷ [] → AreReadUpTo keyspace cs i read → AreReadUpTo keyspace cs (i + 1) longer
one_read keyspace cs i c text read longer j within at some said more was =
    ap (λ r. behind r (journals_meant (journal_texts keyspace (drop (i + 1) cs)))) more
    ∙ one_behind read j (journals_meant (journal_texts keyspace (drop (i + 1) cs)))
    ∙ ap (λ m. behind read (m >>= λ j. journals_meant (journal_texts keyspace (drop (i + 1) cs)) >>= λ js. Ok (j ∷ js))) (sym said)
    ∙ ap (behind read) (sym (meant_from keyspace cs i c text within at some)) ∙ was

-- a text says no journal
pub one_refused : (keyspace : List ℕ) (cs : List Change) (i : ℕ) (c : Change) (text : List ℕ) (read : List JournalValue) (why : Why) → i < length cs → c ≡ get_or cs i c → journal_text keyspace c ≡ Some text →
    journal_meant text ≡ Err why → AreReadUpTo keyspace cs i read → journals_meant (journal_texts keyspace cs) ≡ Err why
one_refused keyspace cs i c text read why within at some said was =
    sym was ∙ ap (behind read) (meant_from keyspace cs i c text within at some)
    ∙ ap (λ m. behind read (m >>= λ j. journals_meant (journal_texts keyspace (drop (i + 1) cs)) >>= λ js. Ok (j ∷ js))) said

drop_past : (cs : List Change) (i : ℕ) → length cs ≤ i → drop i cs ≡ []
drop_past [] zero h = refl
drop_past [] (suc i) h = refl
drop_past (c ∷ cs) zero h = absurd (omega arith)
drop_past (c ∷ cs) (suc i) h = drop_past cs i (omega arith)

pub all_read : (keyspace : List ℕ) (cs : List Change) (i : ℕ) (read : List JournalValue) → length cs ≤ i → AreReadUpTo keyspace cs i read → journals_meant (journal_texts keyspace cs) ≡ Ok read
all_read keyspace cs i read past was =
    sym was ∙ ap (λ l. behind read (journals_meant (journal_texts keyspace l))) (drop_past cs i past) ∙ ap Ok (append-nil read)

-- ---- what journals add

two_more : (work : Work) (j k : JournalValue) (rest : List Counted) → more_work work (Journaled j ∷ (Journaled k ∷ rest)) ≡ None
two_more (Rows []) j k rest = refl
two_more (Rows (c ∷ cs)) j k rest = refl
two_more (Ddl text) j k rest = refl
two_more Other j k rest = refl
two_more (Journal i) j k rest = refl

-- more than one can't be added
pub many_more : (work : Work) (first : List JournalValue) (last : JournalValue) → (first ≡ [] → ⊥) → more_work work (map Journaled (first ++ last ∷ [])) ≡ None
many_more work [] last some = absurd (some refl)
many_more work (j ∷ []) last some = two_more work j last []
many_more work (j ∷ (k ∷ more)) last some = two_more work j k (map Journaled (more ++ last ∷ []))

-- nor can one, where there is some work
pub one_more_refused : (work : Work) (j : JournalValue) → has_no_work work ≡ false → more_work work (Journaled j ∷ []) ≡ None
one_more_refused (Rows []) j some = absurd (cc)
one_more_refused (Rows (c ∷ cs)) j some = refl
one_more_refused (Ddl text) j some = refl
one_more_refused Other j some = refl
one_more_refused (Journal i) j some = refl

pub one_more_taken : (work : Work) (j : JournalValue) → has_no_work work ≡ true → more_work work (Journaled j ∷ []) ≡ Some (Journal j)
one_more_taken (Rows []) j none = refl
one_more_taken (Rows (c ∷ cs)) j none = absurd (cc)
one_more_taken (Ddl text) j none = absurd (cc)
one_more_taken Other j none = absurd (cc)
one_more_taken (Journal i) j none = absurd (cc)

-- nor can changes stand beside a journal
journal_beside : (before changes : List Change) (journal : Option JournalValue) → is_some journal ≡ true → nat_eq (length changes) 0 ≡ false → more_work (work_of before journal) (map Changed changes) ≡ None
journal_beside before [] journal some more = absurd (cc)
journal_beside before (c ∷ changes) None some more = absurd (cc)
journal_beside before (c ∷ changes) (Some j) some more = refl

pub changes_refused : (p : Progress) (changes : List Change) → is_some p.journal ≡ true → nat_eq (length changes) 0 ≡ false → more_work (work_in p) (map Changed changes) ≡ None
changes_refused p changes some more = journal_beside p.changes changes p.journal some more

-- more than one journal can't be added
pub journals_refused : (p : Progress) (journals first : List JournalValue) (last : JournalValue) → journals ≡ first ++ last ∷ [] → nat_eq (length first) 0 ≡ false → more_work (work_in p) (map Journaled journals) ≡ None
journals_refused p journals first last are more =
    ap (λ js. more_work (work_in p) (map Journaled js)) are ∙ many_more (work_in p) first last (λ none. let e : true ≡ false = ap (λ js. nat_eq (length js) 0) (sym none) ∙ more in cc)
