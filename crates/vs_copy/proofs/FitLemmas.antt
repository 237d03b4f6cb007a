-- Changes that a copy applied without a refusal fit the rows before them, where each before image is the row that it stands for.
use Rattle.std.proofs.Common.{◌≡◌, ℕ, Bool, true, false, not, cond, ◌||◌, nat_eq, List, [], ◌∷◌, ◌++◌, append_assoc, append-nil, map, Option, Some, None, IfSome, Contains, is_some, filter_map, fold, option_map, option_and_then, refl, ap, ap₂, sym, ◌∙◌, subst, true≢false}
use Rattle.std.specs.Option.{option_map_or, option_or}
use Rattle.std.specs.List.{AllByRecursion, cons_option, list_any}
use Rattle.std.specs.Ordering.{is_eq}
use Rattle.std.specs.Cmp.{IsTotalOrder, Equal-is}
use Rattle.std.specs.Cmp.Lexicographic.{pointwise, texts_ties}
use Rattle.std.specs.declared.cmp.Ordering.{Ordering}
use Rattle.std.specs.declared.cmp.Ordering.TheVariants.{Equal}
use Rattle.std.proofs.lemmas.Bool.{or_left, or_right}
use Rattle.std.proofs.lemmas.Cmp.{alike_right, tied_back}
use Rattle.std.proofs.lemmas.List.Elements.{All-contains, All-from_recursion}
use Rattle.std.proofs.lemmas.List.Sums.{fold-append}
use Rattle.vs_base.specs.declared.change.Change.{Change}
use Rattle.vs_base.specs.declared.table.Table.{Table}
use Rattle.vs_base.specs.Keys.{key_kinds, key_order, project}
use Rattle.vs_base.specs.Picks.{Bound}
use Rattle.vs_filter.specs.Rules.{table_in}
use Rattle.vs_filter.specs.Picks.{bound_in, picked_in}
use Rattle.vs_filter.specs.declared.bound.Picked.{Picked}
use Rattle.vs_filter.proofs.OrderLemmas.{key_total}
use Rattle.vs_model.specs.Copy.{keys_of, row_at}
use Rattle.vs_model.specs.Copies.{ChangesFit}
use Rattle.vs_schema.specs.Laws.{IsWhole}
use Rattle.vs_tables.specs.Rows.{TableRows, no_rows, table_rows}
use Rattle.vs_tables.specs.Changes.{Applied, RowFault, change_fault_in, fault_of_change, first_unfit, is_long, is_missing, is_there, keyed_tables, tables_after, tables_after_one, with_gone}
use Rattle.vs_copy.specs.Copying.{CopyState, copied_of, keyless_in}
use Rattle.vs_copy.specs.Runs.{CopyTurn, HasRun, ImagesAreRows, all_applied, applies}
use Rattle.vs_copy.specs.Runs.HasRun.{begins, applies_more, sends_more}
use Rattle.vs_copy.specs.Laws.{ClientHasCopy}
use Rattle.vs_copy.specs.declared.copied.CopiedTable.{CopiedTable}
use Rattle.vs_copy.proofs.RowLemmas.{AreAt, AtOwnKeys, Row, gone, gone_at, left_at, rows_after_change, rows_gone}
use Rattle.vs_copy.proofs.TableLemmas.{after_all, keyed_at}
use Rattle.vs_copy.proofs.KeyedLemmas.{are_keyed}
use Rattle.vs_copy.proofs.BoundLemmas.{Entries, IsEntry, entries, entry}
use Rattle.vs_copy.proofs.ToldChangeLemmas.{at_alike, its_table}
use Rattle.vs_copy.proofs.RunLemmas.{all_more, none_more, run_applied, run_has}

-- ---- rows that are found by their keys

module _ (R : Row → Row → Ordering) (o : IsTotalOrder R) (K : Row → Row) (r : Row → Option Row) (own : AtOwnKeys R K r)
    (alike : (a b : Row) → R a b ≡ Equal → r a ≡ r b) where
  abbrev is_at : Row → Row → Bool
  is_at key row = is_eq (R key (K row))

  equal : (a b : Row) → is_eq (R a b) ≡ true → R a b ≡ Equal
  equal a b e = (Equal-is (R a b)).0 e

  some_at : (key : Row) (keys : List Row) → list_any (is_at key) (filter_map r keys) ≡ true → is_some (r key) ≡ true
  some_at key [] any = absurd (cc)
  some_at key (k ∷ keys) any = go (r k) refl (own k) any (λ e. some_at key keys e)
    where
      by : (x : Row) → r k ≡ Some x → R (K x) k ≡ Equal → (b : Bool) → is_at key x ≡ b → (b || list_any (is_at key) (filter_map r keys)) ≡ true →
          (list_any (is_at key) (filter_map r keys) ≡ true → is_some (r key) ≡ true) → is_some (r key) ≡ true
      by x f h true g e on = ap is_some (alike key k (sym (alike_right o (K x) k key h) ∙ equal key (K x) g) ∙ f)
      by x f h false g e on = on e

      go : (row : Option Row) → r k ≡ row → IfSome row (λ x. R (K x) k ≡ Equal) → list_any (is_at key) (cons_option row (filter_map r keys)) ≡ true →
          (list_any (is_at key) (filter_map r keys) ≡ true → is_some (r key) ≡ true) → is_some (r key) ≡ true
      go None f h e on = on e
      go (Some x) f h e on = by x f h (is_at key x) refl e on

  found_at : (key x : Row) (keys : List Row) → r key ≡ Some x → list_any (λ y. is_eq (R y key)) keys ≡ true → list_any (is_at key) (filter_map r keys) ≡ true
  found_at key x [] is any = any
  found_at key x (k ∷ keys) is any = go (is_eq (R k key)) refl any (λ e. found_at key x keys is e)
    where
      more : (row : Option Row) → list_any (is_at key) (filter_map r keys) ≡ true → list_any (is_at key) (cons_option row (filter_map r keys)) ≡ true
      more None h = h
      more (Some y) h = or_right (is_at key y) _ h

      here : is_at key x ≡ true
      here = ap is_eq (tied_back o (K x) key (subst (λ i. IfSome i (λ y. R (K y) key ≡ Equal)) is (own key)))

      go : (b : Bool) → is_eq (R k key) ≡ b → (b || list_any (λ y. is_eq (R y key)) keys) ≡ true →
          (list_any (λ y. is_eq (R y key)) keys ≡ true → list_any (is_at key) (filter_map r keys) ≡ true) → list_any (is_at key) (cons_option (r k) (filter_map r keys)) ≡ true
      go true e f on =
          ap (λ (i : Option Row). list_any (is_at key) (cons_option i (filter_map r keys))) (alike k key (equal k key e) ∙ is) ∙ or_left (is_at key x) _ here
      go false e f on = more (r k) (on f)

not_false : (b : Bool) → not b ≡ false → b ≡ true
not_false true e = refl
not_false false e = absurd (cc)

-- ---- a table's change that isn't refused

module _ (t : TableRows) (r : Row → Option Row) (keys : List Row) (alike : (a b : Row) → key_order t.kinds a b ≡ Equal → r a ≡ r b)
    (h : AreAt (key_order t.kinds) (project t.places) (λ _. Unit {0}) t.rows r keys) where
  abbrev R : Row → Row → Ordering
  R = key_order t.kinds

  abbrev K : Row → Row
  K = project t.places

  o : IsTotalOrder R
  o = key_total t.kinds

  -- the row of a before image is there
  there_before : (b : Row) → is_missing t (Some b) ≡ false → is_some (r (K b)) ≡ true
  there_before b e =
      some_at R o K r h.own alike (K b) keys
      (sym (ap (list_any (λ row. is_eq (R (K b) (K row)))) h.are) ∙ not_false (list_any (λ row. is_eq (R (K b) (K row))) t.rows) e)

  -- a row at the key of the after image is that of the before image
  record IsBefore (before : Option Row) (a : Row) : Type 0 where
    b : Row
    is : before ≡ Some b
    tied : R (K b) (K a) ≡ Equal

  free_after : (before : Option Row) (a x : Row) → is_there (with_gone t before) (Some a) ≡ false → r (K a) ≡ Some x → IsBefore before a
  free_after None a x e is =
      absurd (true≢false (sym (ap (list_any (λ row. is_eq (R (K a) (K row)))) h.are ∙ found_at R o K r h.own alike (K a) x keys is (h.found (K a) x is)) ∙ e))
  free_after (Some b) a x e is = go (is_eq (R (K b) (K a))) refl
    where
      g : AreAt R K (λ _. Unit {0}) (rows_gone R K (Some b) t.rows) (λ k. gone_at R K (Some b) k (r k)) keys
      g = gone R o K (λ _. Unit {0}) (λ _. tt) r (Some b) t.rows keys h

      alike_gone : (k j : Row) → R k j ≡ Equal → gone_at R K (Some b) k (r k) ≡ gone_at R K (Some b) j (r j)
      alike_gone k j f = ap₂ (λ (q : Ordering) (row : Option Row). cond (is_eq q) None row) (alike_right o k j (K b) f) (alike k j f)

      go : (c : Bool) → is_eq (R (K b) (K a)) ≡ c → IsBefore (Some b) a
      go true f = record { b = b; is = refl; tied = (Equal-is (R (K b) (K a))).0 f }
      go false f =
          let left : gone_at R K (Some b) (K a) (r (K a)) ≡ Some x = ap (λ q. cond q None (r (K a))) f ∙ is in
          absurd (true≢false (sym (ap (list_any (λ row. is_eq (R (K a) (K row)))) g.are
          ∙ found_at R o K (λ k. gone_at R K (Some b) k (r k)) g.own alike_gone (K a) x keys left (g.found (K a) x left)) ∙ e))

-- the change of a table is refused for none of the two
record IsUnrefused (t : TableRows) (c : Change) : Type 0 where
  there : is_missing t c.before ≡ false
  free : is_there (with_gone t c.before) c.after ≡ false

unrefused_of : (t : TableRows) (c : Change) → fault_of_change t c ≡ None → IsUnrefused t c
unrefused_of t c e = go (is_missing t c.before) refl (is_there (with_gone t c.before) c.after) refl e
  where
    go : (a : Bool) → is_missing t c.before ≡ a → (b : Bool) → is_there (with_gone t c.before) c.after ≡ b →
        cond a (Some RowFault.Missing) (cond b (Some RowFault.Double) (cond (is_long t c.before || is_long t c.after) (Some RowFault.TooLong) None)) ≡ None → IsUnrefused t c
    go true f b g h = absurd (cc)
    go false f true g h = absurd (cc)
    go false f false g h = record { there = f; free = g }

-- ---- changes one after another

module _ (bound : Bound) where
  abbrev OneFits : List Change → Change → Type 0
  OneFits base c = Contains bound.tables c.table →
      IfSome c.before (λ row. row_at bound base c.table (bound.key c.table row) ≡ Some row)
      × IfSome c.after (λ row. IfSome (row_at bound base c.table (bound.key c.table row)) (λ there. c.before ≡ Some there))

  abbrev AllFit : List Change → List Change → Type 0
  AllFit base [] = Unit {0}
  AllFit base (c ∷ changes) = OneFits base c × AllFit (base ++ c ∷ []) changes

  all_fit_more : (base xs ys : List Change) → AllFit base xs → AllFit (base ++ xs) ys → AllFit base (xs ++ ys)
  all_fit_more base [] ys f g = subst (λ l. AllFit l ys) (append-nil base) g
  all_fit_more base (c ∷ xs) ys f g =
      (f.0, all_fit_more (base ++ c ∷ []) xs ys f.1 (subst (λ l. AllFit l ys) (sym (append_assoc base (c ∷ []) xs)) g))

  one_of_all : (base before behind : List Change) (c : Change) → AllFit base (before ++ c ∷ behind) → OneFits (base ++ before) c
  one_of_all base [] behind c f = subst (λ l. OneFits l c) (sym (append-nil base)) f.0
  one_of_all base (d ∷ before) behind c f = subst (λ l. OneFits l c) (append_assoc base (d ∷ []) before) (one_of_all (base ++ d ∷ []) before behind c f.1)

  changes_fit : (changes : List Change) → AllFit [] changes → ChangesFit bound changes
  changes_fit changes f before behind c is picked = one_of_all [] before behind c (subst (AllFit []) is f) picked

-- ---- a copy's changes

module _ (schema : List Table) (picked : List Picked) (is : keyless_in schema picked ≡ None) (whole : AllByRecursion IsWhole schema) where
  abbrev bound : Bound
  bound = bound_in picked schema

  abbrev begun : List TableRows
  begun = keyed_tables (map (λ (t : CopiedTable). t.table) (copied_of schema picked))

  module _ (name : List ℕ) (p : Picked) (e : IsEntry schema picked name p) (base : List Change) where
    order_is : bound.order name ≡ key_order (key_kinds e.table)
    order_is = ap (λ (o : Option Table). λ (a b : Row). key_order (option_map_or key_kinds o []) a b) e.there

    key_is : bound.key name ≡ project e.table.key
    key_is = ap (λ (o : Option Table). λ (row : Row). option_map_or (λ (t : Table). project t.key row) o []) e.there

    total : IsTotalOrder (bound.order name)
    total = key_total (option_map_or key_kinds (table_in schema name) [])

    abbrev table : TableRows
    table = record (no_rows e.table) { rows = fold (rows_after_change (key_order (key_kinds e.table)) (project e.table.key) name) [] base }

    table_is : table_rows (tables_after begun base) name ≡ Some table
    table_is = after_all name base begun (no_rows e.table) (keyed_at name (copied_of schema picked) (entry schema p e.table) (are_keyed schema picked whole is) e.copied).0

    at : AreAt (key_order (key_kinds e.table)) (project e.table.key) (λ _. Unit {0}) table.rows (row_at bound base name) (keys_of bound base name)
    at =
        subst (λ (R : Row → Row → Ordering). AreAt R (project e.table.key) (λ _. Unit {0}) (fold (rows_after_change R (project e.table.key) name) [] base) (row_at bound base name) (keys_of bound base name)) order_is
        (subst (λ (K : Row → Row). AreAt (bound.order name) K (λ _. Unit {0}) (fold (rows_after_change (bound.order name) K name) [] base) (row_at bound base name) (keys_of bound base name)) key_is
        (left_at bound name total (λ _. Unit {0}) (λ _. tt) base))

    alike : (a b : Row) → key_order (key_kinds e.table) a b ≡ Equal → row_at bound base name a ≡ row_at bound base name b
    alike a b f = at_alike bound name total a b (ap (λ (R : Row → Row → Ordering). R a b) order_is ∙ f) base

    module _ (before after : Option Row) (there : is_missing table before ≡ false) (free : is_there (with_gone table before) after ≡ false)
        (image : IfSome before (λ row. IfSome (row_at bound base name (bound.key name row)) (λ x. x ≡ row))) where
      before_fits : (b : Option Row) → before ≡ b → IfSome b (λ row. row_at bound base name (bound.key name row) ≡ Some row)
      before_fits None f = tt
      before_fits (Some b) f =
          go (row_at bound base name (bound.key name b)) refl
          (ap (λ (K : Row → Row). is_some (row_at bound base name (K b))) key_is
          ∙ there_before table (row_at bound base name) (keys_of bound base name) alike at b (ap (is_missing table) (sym f) ∙ there))
          (subst (λ i. IfSome i (λ row. IfSome (row_at bound base name (bound.key name row)) (λ x. x ≡ row))) f image)
        where
          go : (o : Option Row) → row_at bound base name (bound.key name b) ≡ o → is_some (row_at bound base name (bound.key name b)) ≡ true →
              IfSome (row_at bound base name (bound.key name b)) (λ x. x ≡ b) → row_at bound base name (bound.key name b) ≡ Some b
          go None g some same = absurd (true≢false (sym some ∙ ap is_some g))
          go (Some x) g some same = g ∙ ap Some (subst (λ i. IfSome i (λ y. y ≡ b)) g same)

      after_fits : (a : Option Row) → after ≡ a → IfSome a (λ row. IfSome (row_at bound base name (bound.key name row)) (λ x. before ≡ Some x))
      after_fits None f = tt
      after_fits (Some a) f = go (row_at bound base name (bound.key name a)) refl
        where
          go : (o : Option Row) → row_at bound base name (bound.key name a) ≡ o → IfSome o (λ x. before ≡ Some x)
          go None g = tt
          go (Some x) g =
              let old = free_after table (row_at bound base name) (keys_of bound base name) alike at before a x (ap (is_there (with_gone table before)) (sym f) ∙ free)
              (ap (λ (K : Row → Row). row_at bound base name (K a)) (sym key_is) ∙ g) in
              let row = subst (λ i. IfSome i (λ y. row_at bound base name (bound.key name y) ≡ Some y)) old.is (before_fits before refl) in
              old.is ∙ sym row ∙ ap (λ (K : Row → Row). row_at bound base name (K old.b)) key_is
              ∙ alike (project e.table.key old.b) (project e.table.key a) old.tied
              ∙ ap (λ (K : Row → Row). row_at bound base name (K a)) (sym key_is) ∙ g

  -- a picked table has its entry
  none_named : (ps : List Picked) (name : List ℕ) → picked_in ps name ≡ None → AllByRecursion (λ n. pointwise nat_eq n name ≡ false) (map (λ (p : Picked). p.name) ps)
  none_named [] name e = tt
  none_named (p ∷ ps) name e = go (pointwise nat_eq p.name name) refl e (λ f. none_named ps name f)
    where
      go : (b : Bool) → pointwise nat_eq p.name name ≡ b → cond b (Some p) (picked_in ps name) ≡ None →
          (picked_in ps name ≡ None → AllByRecursion (λ n. pointwise nat_eq n name ≡ false) (map (λ (q : Picked). q.name) ps)) →
          (pointwise nat_eq p.name name ≡ false) × AllByRecursion (λ n. pointwise nat_eq n name ≡ false) (map (λ (q : Picked). q.name) ps)
      go true f g on = absurd (cc)
      go false f g on = (f, on g)

  entry_of : (name : List ℕ) → Contains bound.tables name → (o : Option Picked) → picked_in picked name ≡ o → Entries schema picked name o →
      (p : Picked) × IsEntry schema picked name p
  entry_of name here None f e =
      absurd (true≢false (sym (texts_ties name name ∙ its_table name)
      ∙ All-contains (λ n. pointwise nat_eq n name ≡ false) bound.tables name (All-from_recursion (λ n. pointwise nat_eq n name ≡ false) bound.tables (none_named picked name f)) here))
  entry_of name here (Some p) f e = (p, e)

  one_fits : (base : List Change) (c : Change) →
      (Contains bound.tables c.table → IfSome c.before (λ row. IfSome (row_at bound base c.table (bound.key c.table row)) (λ x. x ≡ row))) →
      change_fault_in (tables_after begun base) c ≡ None → OneFits bound base c
  one_fits base c image none = λ here.
      let e = entry_of c.table here (picked_in picked c.table) refl (entries schema picked c.table is) in
      let fault : fault_of_change (table c.table e.0 e.1 base) c ≡ None =
      sym (ap (option_and_then (λ t. fault_of_change t c)) (table_is c.table e.0 e.1 base)) ∙ none in
      let u = unrefused_of (table c.table e.0 e.1 base) c fault in (
        before_fits c.table e.0 e.1 base c.before c.after u.there u.free (image here) c.before refl,
        after_fits c.table e.0 e.1 base c.before c.after u.there u.free (image here) c.after refl,
      )

  none_both : (o : Option RowFault) (name : List ℕ) (rest : Option (List ℕ × RowFault)) →
      option_or (option_map {T = RowFault} {U = List ℕ × RowFault} (λ why. (name, why)) o) rest ≡ None → (o ≡ None) × (rest ≡ None)
  none_both None name rest e = (refl, e)
  none_both (Some why) name rest e = absurd (cc)

  these_fit : (changes base behind : List Change) → ImagesAreRows bound (base ++ (changes ++ behind)) → first_unfit (tables_after begun base) changes ≡ None → AllFit bound base changes
  these_fit [] base behind images none = tt
  these_fit (c ∷ changes) base behind images none =
      let parts = none_both (change_fault_in (tables_after begun base) c) c.table (first_unfit (tables_after_one (tables_after begun base) c) changes) none in (
        one_fits base c (images base (changes ++ behind) c refl) parts.0,
        these_fit changes (base ++ c ∷ []) behind (subst (ImagesAreRows bound) (sym (append_assoc base (c ∷ []) (changes ++ behind))) images)
            (ap (λ ts. first_unfit ts changes) (fold-append tables_after_one begun base (c ∷ [])) ∙ parts.1),
      )

  images_first : (xs ys : List Change) → ImagesAreRows bound (xs ++ ys) → ImagesAreRows bound xs
  images_first xs ys images before behind c e = images before (behind ++ ys) c (ap (λ l. l ++ ys) e ∙ append_assoc before (c ∷ behind) ys)

  run_fits : (turns : List CopyTurn) (s : CopyState) → HasRun turns s → s.copied ≡ copied_of schema picked → ImagesAreRows bound (all_applied turns) →
      AllFit bound [] (all_applied turns)
  run_fits turns s (begins applied last) copied images = tt
  run_fits turns s (applies_more {turns = before} {old = old} {new = new} changes run applied) copied images =
      let more = all_more before (applies old changes) in
      let images_all = subst (ImagesAreRows bound) (sym more) images in
      let copied_then = sym applied.copied ∙ copied in
      let tables : old.applied.tables ≡ tables_after begun (all_applied before) =
      ap (λ (a : Applied). a.tables) (run_applied before old run)
      ∙ ap (λ (u : List CopiedTable). tables_after (keyed_tables (map (λ (t : CopiedTable). t.table) u)) (all_applied before)) copied_then in
      subst (AllFit bound []) more
      (all_fit_more bound [] (all_applied before) changes
      (run_fits before old run copied_then (images_first (all_applied before) changes images_all))
      (these_fit changes (all_applied before) [] (subst (λ l. ImagesAreRows bound (all_applied before ++ l)) (sym (append-nil changes)) images_all)
      (ap (λ ts. first_unfit ts changes) (sym tables) ∙ applied.fit)))
  run_fits turns s (sends_more {turns = before} {old = old} chunk run next) copied images =
      subst (AllFit bound []) (none_more before chunk) (run_fits before old run copied (subst (ImagesAreRows bound) (sym (none_more before chunk)) images))

  pub run_changes_fit : (turns : List CopyTurn) (s : CopyState) → HasRun turns s → s.copied ≡ copied_of schema picked → ImagesAreRows bound (all_applied turns) →
      ChangesFit bound (all_applied turns)
  run_changes_fit turns s run copied images = changes_fit bound (all_applied turns) (run_fits turns s run copied images)

pub client_has_copy : ClientHasCopy
client_has_copy schema picked turns s lawful is ascend copied run images =
    run_has schema picked is ascend turns s run copied (run_changes_fit schema picked is lawful turns s run copied images)
