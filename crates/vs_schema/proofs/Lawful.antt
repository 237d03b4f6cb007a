-- Each schema that is read is lawful.
use Rattle.std.proofs.Common.{◌≡◌, ◌≤◌, ◌+◌, ◌||◌, ◌&&◌, ℕ, zero, suc, Bool, true, false, not, List, [], ◌∷◌, ◌++◌, length, nat_eq, nat_lt, refl, sym, subst, arith, length-append}
use Rattle.std.specs.Prelude.{◌⊎◌, IfOk, Option, Some, None, Result, Ok, Err, if◌then◌else◌, ◌==◌}
use Rattle.std.specs.List.{AllByRecursion, list_all, list_any, position, slice_get}
use Rattle.std.proofs.lemmas.Bool.{and_parts, and_from, ltb-true}
use Rattle.std.proofs.lemmas.Bool.Decides.{nat_tests}
use Rattle.std.proofs.lemmas.Cmp.{nat_list_eq_equiv}
use Rattle.vs_base.specs.declared.table.ColumnKind.{ColumnKind}
use Rattle.vs_base.specs.declared.table.Column.{Column}
use Rattle.vs_base.specs.declared.table.Table.{Table}
use Rattle.vs_schema.specs.declared.schema.Schema.{Schema}
use Rattle.vs_schema.specs.declared.refusal.SchemaRefusal.{SchemaRefusal}
use Rattle.vs_schema.specs.declared.refusal.SchemaRefusal.TheVariants.{BadSchema, Memory}
use Rattle.vs_schema.specs.Words.{word_table, word_column, word_key, word_skip}
use Rattle.vs_schema.specs.Kinds.{kind_of, same}
use Rattle.vs_schema.specs.Lines.{is_empty, lines_of, sole, words_of}
use Rattle.vs_schema.specs.Laws.{Ascend, IsKey, IsLawful, IsSound, IsWhole, same_column, same_place}
use Rattle.vs_schema.specs.Rules.{Draft, by_line, by_lines, by_name, by_verb, by_words, closed, finished, in_open, is_name, is_taken, key_place, key_with, keyed, may_be_keyed, may_come, names_column, new_place, opened, reopened, schema_of, start, with_begun, with_column, with_key, with_kind, with_skipped, with_table}
use Rattle.vs_schema.proofs.LawfulLemmas.{all_more, differ_more, guarded, untrue, with_table-all, with_table-ascends}

same_turned : (a b : List ℕ) → same a b ≡ same b a
same_turned = nat_list_eq_equiv.symm

columns_turned : (c d : Column) → same_column c d ≡ same_column d c
columns_turned c d = same_turned d.name c.name

places_turned : (p q : ℕ) → same_place p q ≡ same_place q p
places_turned p q = grind (arith, nat_tests)

every_more : {A : Type 0} (p : A → Bool) (xs : List A) (y : A) → list_all p xs ≡ true → p y ≡ true → list_all p (xs ++ y ∷ []) ≡ true
every_more p [] y h e = rw e refl
every_more p (x ∷ xs) y h e = let parts = and_parts (p x) (list_all p xs) h in and_from _ _ parts.0 (every_more p xs y parts.1 e)

kept_place : (cs : List Column) (c : Column) (place : ℕ) → may_be_keyed (slice_get cs place) ≡ true → may_be_keyed (slice_get (cs ++ c ∷ []) place) ≡ true
kept_place [] c place h = absurd (cc)
kept_place (x ∷ cs) c zero h = h
kept_place (x ∷ cs) c (suc place) h = kept_place cs c place h

kept_places : (cs : List Column) (c : Column) (key : List ℕ) → AllByRecursion (λ place. may_be_keyed (slice_get cs place) ≡ true) key → AllByRecursion (λ place. may_be_keyed (slice_get (cs ++ c ∷ []) place) ≡ true) key
kept_places cs c [] h = tt
kept_places cs c (place ∷ key) h = (kept_place cs c place h.0, kept_places cs c key h.1)

with_more : (t : Table) (c : Column) → IsSound t → may_come c.name t.columns ≡ true → IsSound (record t { columns = t.columns ++ c ∷ [] })
with_more t c s may =
    let a = and_parts (is_name c.name) (not (list_any (names_column c.name) t.columns) && nat_lt (length t.columns) 4096) may in
    let b = and_parts (not (list_any (names_column c.name) t.columns)) (nat_lt (length t.columns) 4096) a.1 in
    record {
      named = s.named;
      few = omega (arith, ltb-true (length t.columns) 4096 b.1, length-append t.columns (c ∷ []));
      names = every_more (λ column. is_name column.name) t.columns c s.names a.0;
      once = differ_more same_column columns_turned t.columns c s.once (untrue _ b.0);
      key = record { each = kept_places t.columns c t.key s.key.each; once = s.key.once };
    }

kinded : (t u : Table) (name : List ℕ) (kind : Option ColumnKind) → with_kind t name kind ≡ Some u → IsSound t → IsSound u
kinded t u name None h s = absurd (cc)
kinded t u name (Some kind) h s =
    let c : Column = record { name = name; kind = kind } in
    let g = guarded (may_come name t.columns) (Some (record t { columns = t.columns ++ c ∷ [] })) u h in
    let is : record t { columns = t.columns ++ c ∷ [] } ≡ u = some_is _ u g.1 in
    subst IsSound is (with_more t c s g.0)
  where
    some_is : (x y : Table) → Some x ≡ Some y → x ≡ y
    some_is x y e = cc

column_keeps : (words : List (List ℕ)) (t u : Table) → with_column t words ≡ Some u → IsSound t → IsSound u
unfolding with_column
column_keeps [] t u h s = absurd (cc)
column_keeps (name ∷ words) t u h s = kinded t u name (kind_of words) h s

placed : (cs : List Column) (key : List ℕ) (o : Option ℕ) (place : ℕ) → new_place cs key o ≡ Some place → (may_be_keyed (slice_get cs place) ≡ true) × (list_any (same_place place) key ≡ false)
placed cs key None place h = absurd (cc)
placed cs key (Some p) place h =
    let g = guarded (may_be_keyed (slice_get cs p) && not (list_any (same_place p) key)) (Some p) place h in
    let parts = and_parts (may_be_keyed (slice_get cs p)) (not (list_any (same_place p) key)) g.0 in
    let is : p ≡ place = cc in
    subst (λ q. (may_be_keyed (slice_get cs q) ≡ true) × (list_any (same_place q) key ≡ false)) is (parts.0, untrue _ parts.1)

place_placed : (cs : List Column) (key name : List ℕ) (place : ℕ) → key_place cs key name ≡ Some place → (may_be_keyed (slice_get cs place) ≡ true) × (list_any (same_place place) key ≡ false)
unfolding key_place
place_placed cs key name place h = placed cs key (position (names_column name) cs) place h

key_is : (cs : List Column) (names : List (List ℕ)) (key out : List ℕ) → key_with cs key names ≡ Some out → IsKey cs key → IsKey cs out
unfolding key_with
key_is cs [] key out h k = let is : key ≡ out = cc in subst (IsKey cs) is k
key_is cs (name ∷ names) key out h k = go (key_place cs key name) refl h (λ place. key_is cs names (key ++ place ∷ []) out)
  where
    go : (o : Option ℕ) → key_place cs key name ≡ o → ◌≡◌ {A = Option (List ℕ)} (elim o [ None ↦ None | Some place ↦ key_with cs (key ++ place ∷ []) names ]) (Some out)
        → ((place : ℕ) → key_with cs (key ++ place ∷ []) names ≡ Some out → IsKey cs (key ++ place ∷ []) → IsKey cs out) → IsKey cs out
    go None e l rest = absurd (cc)
    go (Some place) e l rest =
        let p = place_placed cs key name place e in
        rest place l (record {
          each = all_more (λ q. may_be_keyed (slice_get cs q) ≡ true) key place k.each p.0;
          once = differ_more same_place places_turned key place k.once p.1;
        })

keyed_keeps : (t u : Table) (key : Option (List ℕ)) → ((out : List ℕ) → key ≡ Some out → IsKey t.columns out) → keyed t key ≡ Some u → IsSound t → IsSound u
keyed_keeps t u None is h s = absurd (cc)
keyed_keeps t u (Some key) is h s =
    let same : record t { key = key } ≡ u = cc in
    subst IsSound same (record { named = s.named; few = s.few; names = s.names; once = s.once; key = is key refl })

key_keeps : (words : List (List ℕ)) (t u : Table) → with_key t words ≡ Some u → IsSound t → IsSound u
unfolding with_key
key_keeps words t u h s =
    let g = guarded (nat_eq (length t.key) 0) (keyed t (key_with t.columns [] words)) u h in
    keyed_keeps t u (key_with t.columns [] words) (λ out e. key_is t.columns words [] out e (record { each = tt; once = refl })) g.1 s

-- the open table keeps the rules
abbrev IsOpenSound : Option Table → Type 0
IsOpenSound None = Unit {0}
IsOpenSound (Some t) = IsSound t

record Stands (d : Draft) : Type 0 where
  ascend : Ascend d.tables
  whole : AllByRecursion IsWhole d.tables
  open_sound : IsOpenSound d.current

record AreClosed (out : List Table) : Type 0 where
  ascend : Ascend out
  whole : AllByRecursion IsWhole out

closing : (tables out : List Table) (current : Option Table) → closed tables current ≡ Some out → Ascend tables → AllByRecursion IsWhole tables → IsOpenSound current → AreClosed out
closing tables out None h a w n =
    let is : tables ≡ out = cc in
    subst AreClosed is (record { ascend = a; whole = w })
closing tables out (Some t) h a w n = go (nat_eq (length t.columns) 0) refl h
  where
    go : (b : Bool) → nat_eq (length t.columns) 0 ≡ b → ◌≡◌ {A = Option (List Table)} (if b then None else Some (with_table tables t)) (Some out) → AreClosed out
    go true e k = absurd (cc)
    go false e k =
        let is : with_table tables t ≡ out = cc in
        let some : 1 ≤ length t.columns = counted (length t.columns) e in
        subst AreClosed is (record {
          ascend = with_table-ascends tables t a;
          whole = with_table-all IsWhole tables t a w (record { sound = n; some = some });
        })
      where
        counted : (m : ℕ) → nat_eq m 0 ≡ false → 1 ≤ m
        counted zero f = absurd (cc)
        counted (suc m) f = omega arith

some_is : {A : Type 0} (x y : A) → Some x ≡ Some y → x ≡ y
some_is x y e = cc

reset : (d e : Draft) (o : Option Table) → ((u : Table) → o ≡ Some u → IsSound u) → reopened d o ≡ Some e → Stands d → Stands e
reset d e None keeps h s = absurd (cc)
reset d e (Some u) keeps h s = subst Stands (some_is (record d { current = Some u }) e h) (record { ascend = s.ascend; whole = s.whole; open_sound = keeps u refl })

reopening : (d e : Draft) (f : Table → Option Table) → ((t u : Table) → f t ≡ Some u → IsSound t → IsSound u) → in_open f d d.current ≡ Some e → Stands d → Stands e
reopening d e f keeps h s = go d.current s.open_sound h
  where
    go : (c : Option Table) → IsOpenSound c → in_open f d c ≡ Some e → Stands e
    go None n k = absurd (cc)
    go (Some t) n k = reset d e (f t) (λ u is. keeps t u is n) k s

beginning : (name : List ℕ) (d e : Draft) → with_begun d name ≡ Some e → Stands d → Stands e
unfolding with_begun
beginning name d e h s =
    let g = guarded (is_name name && not (is_taken d name)) (opened d name (closed d.tables d.current)) e h in
    let parts = and_parts (is_name name) (not (is_taken d name)) g.0 in
    go (closed d.tables d.current) refl g.1 parts.0
  where
    go : (o : Option (List Table)) → closed d.tables d.current ≡ o → opened d name o ≡ Some e → is_name name ≡ true → Stands e
    go None c k named = absurd (cc)
    go (Some tables) c k named =
        let z = closing d.tables tables d.current c s.ascend s.whole s.open_sound in
        subst Stands (some_is _ e k) (record {
          ascend = z.ascend;
          whole = z.whole;
          open_sound = record { named = named; few = omega arith; names = refl; once = refl; key = record { each = tt; once = refl } };
        })

skipping : (name : List ℕ) (d e : Draft) → with_skipped d name ≡ Some e → Stands d → Stands e
unfolding with_skipped
skipping name d e h s =
    let g = guarded (is_name name && not (is_taken d name)) (Some (record d { skipped = d.skipped ++ name ∷ [] })) e h in
    subst Stands (some_is (record d { skipped = d.skipped ++ name ∷ [] }) e g.1) (record { ascend = s.ascend; whole = s.whole; open_sound = s.open_sound })

by_sole : (f : List ℕ → Option Draft) (o : Option (List ℕ)) (e : Draft) → ((name : List ℕ) → f name ≡ Some e → Stands e) → by_name f o ≡ Some e → Stands e
by_sole f None e stands h = absurd (cc)
by_sole f (Some name) e stands h = stands name h

chosen : (b : Bool) (x y : Option Draft) (e : Draft) → (x ≡ Some e → Stands e) → (y ≡ Some e → Stands e) → (if b then x else y) ≡ Some e → Stands e
chosen true x y e p q h = p h
chosen false x y e p q h = q h

verb_stands : (d e : Draft) (verb : List ℕ) (words : List (List ℕ)) → by_verb d verb words ≡ Some e → Stands d → Stands e
unfolding by_verb
verb_stands d e verb words h s =
    chosen (same verb word_table) _ _ e (by_sole (with_begun d) (sole words) e (λ name k. beginning name d e k s))
    (chosen (same verb word_column) _ _ e (λ k. reopening d e (λ table. with_column table words) (column_keeps words) k s)
    (chosen (same verb word_key) _ _ e (λ k. reopening d e (λ table. with_key table words) (key_keeps words) k s)
    (chosen (same verb word_skip) _ _ e (by_sole (with_skipped d) (sole words) e (λ name k. skipping name d e k s)) (λ k. absurd (cc)))))
    h

words_stand : (words : List (List ℕ)) (d e : Draft) → by_words d words ≡ Some e → Stands d → Stands e
unfolding by_words
words_stand [] d e h s = absurd (cc)
words_stand (verb ∷ words) d e h s = chosen (is_empty words) None (by_verb d verb words) e (λ k. absurd (cc)) (λ k. verb_stands d e verb words k s) h

line_stands : (line : List ℕ) (d e : Draft) → by_line d line ≡ Some e → Stands d → Stands e
unfolding by_line
line_stands [] d e h s = subst Stands (some_is d e h) s
line_stands (c ∷ cs) d e h s = chosen (c == 35) (Some d) (by_words d (words_of (c ∷ cs))) e (λ k. subst Stands (some_is d e k) s) (λ k. words_stand (words_of (c ∷ cs)) d e k s) h

ended : (number : ℕ) (d : Draft) (o : Option (List Table)) (schema : Schema) → closed d.tables d.current ≡ o → finished number d o ≡ Ok schema → Stands d → IsLawful schema
ended number d None schema c h s = absurd (cc)
ended number d (Some tables) schema c h s =
    let z = closing d.tables tables d.current c s.ascend s.whole s.open_sound in
    let is : record { tables = tables; skipped = d.skipped } ≡ schema = cc in
    subst IsLawful is (record { ascend = z.ascend; whole = z.whole })

all_stand : (lines : List (List ℕ)) (number : ℕ) (d : Draft) (schema : Schema) → by_lines number d lines ≡ Ok schema → Stands d → IsLawful schema
unfolding by_lines
all_stand [] number d schema h s = ended number d (closed d.tables d.current) schema refl h s
all_stand (line ∷ lines) number d schema h s = go (by_line d line) refl h (λ next k t. all_stand lines (number + 1) next schema k t)
  where
    go : (o : Option Draft) → by_line d line ≡ o → ◌≡◌ {A = Result Schema SchemaRefusal} (elim o [ None ↦ Err (BadSchema number) | Some next ↦ by_lines (number + 1) next lines ]) (Ok schema)
        → ((next : Draft) → by_lines (number + 1) next lines ≡ Ok schema → Stands next → IsLawful schema) → IsLawful schema
    go None e k rest = absurd (cc)
    go (Some next) e k rest = rest next k (line_stands line d next e s)

pub lawful : (text : List ℕ) (schema : Schema) → schema_of text ≡ Ok schema → IsLawful schema
lawful text schema h = all_stand (lines_of text) 1 start schema h (record { ascend = tt; whole = tt; open_sound = tt })

-- what is read is lawful, whether or not memory runs out
pub lawful_if_read : (text : List ℕ) (read : Result Schema SchemaRefusal) → (read ≡ Err Memory) ⊎ (read ≡ schema_of text) → IfOk read IsLawful
lawful_if_read text (Ok schema) (◌⊎◌.inl h) = absurd (cc)
lawful_if_read text (Ok schema) (◌⊎◌.inr h) = lawful text schema (sym h)
lawful_if_read text (Err refusal) h = tt
