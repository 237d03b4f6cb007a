-- What a query event says to a log, by its schema and the first word of its text.
use Rattle.std.specs.Prelude.{ℕ, Bool, ◌&&◌, nat_eq, if◌then◌else◌, List, [], ◌∷◌, Option, Some, None, Result, Ok, Err}
use Rattle.std.specs.List.{list_any}
use Rattle.std.specs.Cmp.Lexicographic.{pointwise}
use Rattle.vs_base.specs.declared.Why.{Why}
use Rattle.vs_base.specs.declared.Why.TheVariants.{BadEvent}
use Rattle.vs_binlog.specs.Bodies.{Said, query_body}
use Rattle.vs_binlog.specs.Words.{first_word}
use Rattle.vs_gtid.specs.declared.Work.TheVariants.{Ddl, Other}
use Rattle.vs_rows.specs.Tables.{schema_of}
use Rattle.vs_entries.specs.declared.kind.StatementKind.{StatementKind}
use Rattle.vs_entries.specs.declared.kind.StatementKind.TheVariants as kind
use Rattle.vs_log.specs.declared.statement.Statement.{Statement}
use Rattle.vs_log.specs.declared.statement.Statement.TheVariants.{Begin, Commit, Savepoint, Xa, Single}

abbrev pub is_one_of : List (List ℕ) → List ℕ → Bool
is_one_of words word = list_any (λ w. pointwise nat_eq w word) words

-- BEGIN
abbrev pub word_begin : List ℕ
word_begin = 66 ∷ (69 ∷ (71 ∷ (73 ∷ (78 ∷ []))))

-- COMMIT
abbrev pub word_commit : List ℕ
word_commit = 67 ∷ (79 ∷ (77 ∷ (77 ∷ (73 ∷ (84 ∷ [])))))

-- SAVEPOINT
abbrev pub word_savepoint : List ℕ
word_savepoint = 83 ∷ (65 ∷ (86 ∷ (69 ∷ (80 ∷ (79 ∷ (73 ∷ (78 ∷ (84 ∷ []))))))))

-- XA
abbrev pub word_xa : List ℕ
word_xa = 88 ∷ (65 ∷ [])

-- CREATE
abbrev pub word_create : List ℕ
word_create = 67 ∷ (82 ∷ (69 ∷ (65 ∷ (84 ∷ (69 ∷ [])))))

-- ALTER
abbrev pub word_alter : List ℕ
word_alter = 65 ∷ (76 ∷ (84 ∷ (69 ∷ (82 ∷ []))))

-- DROP
abbrev pub word_drop : List ℕ
word_drop = 68 ∷ (82 ∷ (79 ∷ (80 ∷ [])))

-- TRUNCATE
abbrev pub word_truncate : List ℕ
word_truncate = 84 ∷ (82 ∷ (85 ∷ (78 ∷ (67 ∷ (65 ∷ (84 ∷ (69 ∷ [])))))))

-- RENAME
abbrev pub word_rename : List ℕ
word_rename = 82 ∷ (69 ∷ (78 ∷ (65 ∷ (77 ∷ (69 ∷ [])))))

abbrev pub is_ddl : List ℕ → Bool
is_ddl word = is_one_of (word_create ∷ (word_alter ∷ (word_drop ∷ (word_truncate ∷ (word_rename ∷ []))))) word

abbrev pub said : List ℕ → List ℕ → List ℕ → List ℕ → Statement
said keyspace schema text word =
    if pointwise nat_eq word word_begin then Begin
    else if pointwise nat_eq word word_commit then Commit
    else if pointwise nat_eq word word_savepoint then Savepoint
    else if pointwise nat_eq word word_xa then Xa
    else if is_ddl word && pointwise nat_eq schema (schema_of keyspace) then Single (Ddl text)
    else Single Other

-- what a query says in the log of a shard of the keyspace, where its body is within its layout
abbrev pub statement_by : List ℕ → Option Said → Result Statement Why
statement_by keyspace None = Err (BadEvent 2)
statement_by keyspace (Some query) = Ok (said keyspace query.schema query.text (first_word query.text))

unfoldable pub statement_of : List ℕ → List ℕ → Result Statement Why
statement_of keyspace body = statement_by keyspace (query_body body)

-- the statement of this kind, with this text
abbrev pub told_by : StatementKind → List ℕ → Statement
told_by kind.Begin text = Begin
told_by kind.Commit text = Commit
told_by kind.Savepoint text = Savepoint
told_by kind.Xa text = Xa
told_by kind.Ddl text = Single (Ddl text)
told_by kind.Other text = Single Other
