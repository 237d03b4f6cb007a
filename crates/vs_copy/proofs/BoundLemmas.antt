-- What a copy tells is what the filter tells that it was made of.
use Rattle.std.proofs.Common.{◌≡◌, ℕ, Bool, true, false, not, cond, ◌&&◌, ◌||◌, nat_eq, nat_le, List, [], ◌∷◌, map, length, Option, Some, None, filter, filter_map, find, fold, option_map, option_and_then, refl, ap, ap₂, sym, ◌∙◌}
use Rattle.std.specs.Option.{option_map_or}
use Rattle.std.proofs.Math.Path.{fun_ext}
use Rattle.std.specs.List.{cons_option}
use Rattle.std.specs.Ordering.{is_eq, is_gt, nat_cmp}
use Rattle.std.specs.Cmp.Lexicographic.{pointwise, slice_cmp}
use Rattle.std.specs.declared.cmp.Ordering.{Ordering}
use Rattle.std.specs.declared.cmp.Ordering.TheVariants.{Less, Equal, Greater}
use Rattle.vs_base.specs.declared.change.Change.{Change}
use Rattle.vs_base.specs.declared.change.LastKey.{LastKey}
use Rattle.vs_base.specs.declared.table.Table.{Table}
use Rattle.vs_base.specs.Keys.{key_kinds, key_order, project}
use Rattle.vs_base.specs.Picks.{Bound, with_images}
use Rattle.vs_select.specs.Rows.{taken_row}
use Rattle.vs_filter.specs.Rules.{table_in}
use Rattle.vs_filter.specs.Picks.{bound_in, picked_in}
use Rattle.vs_filter.specs.declared.bound.Picked.{Picked}
use Rattle.vs_model.specs.Copy.{chunk_of, has_key, image_within, is_after, is_after_in, kept_if, key_put, keys_of, picked_rows, row_after, row_at}
use Rattle.vs_copy.specs.Copying.{copied_bound, copied_in, copied_of, has_kept_key, is_key_kept, keyless_in}
use Rattle.vs_copy.specs.Laws.{TellsAsBound}
use Rattle.vs_copy.specs.declared.copied.CopiedTable.{CopiedTable}
use Rattle.vs_copy.proofs.RowLemmas.{Row}
use Rattle.vs_copy.proofs.TableLemmas.{same_text}
use Rattle.vs_copy.proofs.NextLemmas.{none_picked, with_key}

abbrev Told : Type 0
Told = Row × Row

abbrev left_of : Bound → List Change → Option LastKey → List ℕ → List Told
left_of bound changes l name = filter (λ (row : Told). is_after bound l name row.0) (picked_rows bound changes name)

abbrev image_of : Bound → LastKey → List ℕ → Option Row → Option Row
image_of bound l name image = option_and_then (bound.row name) (image_within bound l name image)

-- two filters that are alike at a table
module _ (a b : Bound) (name : List ℕ) (row_is : a.row name ≡ b.row name) (key_is : a.key name ≡ b.key name) (order_is : a.order name ≡ b.order name) where
  after_in : (l : LastKey) (key : Row) (q : Ordering) → is_after_in a l name key q ≡ is_after_in b l name key q
  after_in l key Less = refl
  after_in l key Equal = ap (λ (R : Row → Row → Ordering). is_gt (R key l.key)) order_is
  after_in l key Greater = refl

  after : (l : Option LastKey) (key : Row) → is_after a l name key ≡ is_after b l name key
  after None key = refl
  after (Some l) key = after_in l key (slice_cmp nat_cmp name l.table)

  has : (key : Row) (image : Option Row) → has_key a name key image ≡ has_key b name key image
  has key None = refl
  has key (Some row) = ap₂ (λ (R : Row → Row → Ordering) (K : Row → Row). is_eq (R (K row) key)) order_is key_is

  one_at : (key : Row) → row_after a name key ≡ row_after b name key
  one_at key = fun_ext (λ row. fun_ext (λ c.
      ap₂ (λ x y. cond (is_eq (slice_cmp nat_cmp c.table name) && (x || y)) (kept_if y c.after) row) (has key c.before) (has key c.after)))

  module _ (changes : List Change) where
    at : (key : Row) → row_at a changes name key ≡ row_at b changes name key
    at key = ap (λ f. fold f None changes) (one_at key)

    keys : keys_of a changes name ≡ keys_of b changes name
    keys = ap₂ (λ (R : Row → Row → Ordering) (K : Row → Row). fold (λ ks k. key_put R k ks) []
        (filter_map (λ (c : Change). option_map K c.after) (filter (λ (c : Change). is_eq (slice_cmp nat_cmp c.table name)) changes))) order_is key_is

    rows : picked_rows a changes name ≡ picked_rows b changes name
    rows =
        ap₂ (λ (f : Row → Option Row) (ks : List Row). filter_map (λ key. with_key key (f key)) ks)
        (fun_ext (λ key. ap₂ (λ (pick : Row → Option Row) (o : Option Row). option_and_then pick o) row_is (at key))) keys

    left_alike : (l : Option LastKey) → left_of a changes l name ≡ left_of b changes l name
    left_alike l =
        ap₂ (λ (f : Told → Bool) (told : List Told). filter f told) (fun_ext (λ row. after l row.0)) rows

  image_alike : (l : LastKey) (image : Option Row) → image_of a l name image ≡ image_of b l name image
  image_alike l None = refl
  image_alike l (Some row) =
      ap₂ (λ (pick : Row → Option Row) (o : Option Row). option_and_then pick o) row_is
      (ap (λ x. kept_if (not x) (Some row)) (ap (λ (K : Row → Row). is_after a (Some l) name (K row)) key_is ∙ after (Some l) (b.key name row)))

-- a table that neither picks
module _ (bound : Bound) (name : List ℕ) (none : (row : Row) → bound.row name row ≡ None) where
  left_nothing : (changes : List Change) (l : Option LastKey) → left_of bound changes l name ≡ []
  left_nothing changes l =
      ap (filter (λ (row : Told). is_after bound l name row.0)) (none_picked (bound.row name) (row_at bound changes name) none (keys_of bound changes name))

  image_nothing : (l : LastKey) (image : Option Row) → image_of bound l name image ≡ None
  image_nothing l None = refl
  image_nothing l (Some row) = go (not (is_after bound (Some l) name (bound.key name row)))
    where
      go : (x : Bool) → option_and_then (bound.row name) (kept_if x (Some row)) ≡ None
      go true = none row
      go false = refl

-- ---- a copy and its filter

module _ (schema : List Table) where
  kept_table : (p : Picked) (o : Option Table) → option_map_or (λ t. is_key_kept p.select.columns t.key) o false ≡ true → (t : Table) × (o ≡ Some t)
  kept_table p None e = absurd (cc)
  kept_table p (Some t) e = (t, refl)

  abbrev pub entry : Picked → Table → CopiedTable
  entry p t = record { picked = p; table = t; kinds = key_kinds t }

  copied_name : (picked : List Picked) → keyless_in schema picked ≡ None →
      map (λ (t : CopiedTable). t.picked.name) (copied_of schema picked) ≡ map (λ (p : Picked). p.name) picked
  copied_name [] is = refl
  copied_name (p ∷ picked) is = go (copied_name picked) (has_kept_key schema p) refl is
    where
      go : (keyless_in schema picked ≡ None → map (λ (t : CopiedTable). t.picked.name) (copied_of schema picked) ≡ map (λ (q : Picked). q.name) picked) →
          (b : Bool) → has_kept_key schema p ≡ b → cond (not b) (Some p) (keyless_in schema picked) ≡ None →
          map (λ (t : CopiedTable). t.picked.name) (copied_of schema (p ∷ picked)) ≡ p.name ∷ map (λ (q : Picked). q.name) picked
      go on true e f =
          let there = kept_table p (table_in schema p.name) e in
          ap (λ (o : Option Table). map (λ (t : CopiedTable). t.picked.name) (cons_option (option_map (entry p) o) (copied_of schema picked))) there.1
          ∙ ap (λ l. p.name ∷ l) (on f)
      go on false e f = absurd (cc)

  -- a table is copied exactly where it is picked, under its entry in the schema
  pub record IsEntry (picked : List Picked) (name : List ℕ) (p : Picked) : Type 0 where
    pub table : Table
    pub there : table_in schema name ≡ Some table
    pub copied : copied_in (copied_of schema picked) name ≡ Some (entry p table)

  abbrev pub Entries : List Picked → List ℕ → Option Picked → Type 0
  Entries picked name None = copied_in (copied_of schema picked) name ≡ None
  Entries picked name (Some p) = IsEntry picked name p

  pub entries : (picked : List Picked) (name : List ℕ) → keyless_in schema picked ≡ None → Entries picked name (picked_in picked name)
  entries [] name is = refl
  entries (p ∷ picked) name is = go (entries picked name) (has_kept_key schema p) refl is
    where
      first : (t : Table) → table_in schema p.name ≡ Some t →
          copied_in (copied_of schema (p ∷ picked)) name ≡ cond (pointwise nat_eq p.name name) (Some (entry p t)) (copied_in (copied_of schema picked) name)
      first t there = ap (λ (o : Option Table). copied_in (cons_option (option_map (entry p) o) (copied_of schema picked)) name) there

      later : (t : Table) → table_in schema p.name ≡ Some t → pointwise nat_eq p.name name ≡ false → (o : Option Picked) → Entries picked name o → Entries (p ∷ picked) name o
      later t there f None h = first t there ∙ ap (λ b. cond b (Some (entry p t)) (copied_in (copied_of schema picked) name)) f ∙ h
      later t there f (Some q) h = record {
        table = h.table;
        there = h.there;
        copied = first t there ∙ ap (λ b. cond b (Some (entry p t)) (copied_in (copied_of schema picked) name)) f ∙ h.copied;
      }

      by_name : (t : Table) → table_in schema p.name ≡ Some t → Entries picked name (picked_in picked name) → (b : Bool) → pointwise nat_eq p.name name ≡ b →
          Entries (p ∷ picked) name (cond b (Some p) (picked_in picked name))
      by_name t there on true f = record {
        table = t;
        there = ap (table_in schema) (sym (same_text p.name name f)) ∙ there;
        copied = first t there ∙ ap (λ b. cond b (Some (entry p t)) (copied_in (copied_of schema picked) name)) f;
      }
      by_name t there on false f = later t there f (picked_in picked name) on

      go : (keyless_in schema picked ≡ None → Entries picked name (picked_in picked name)) → (b : Bool) → has_kept_key schema p ≡ b →
          cond (not b) (Some p) (keyless_in schema picked) ≡ None → Entries (p ∷ picked) name (picked_in (p ∷ picked) name)
      go on true e f =
          let there = kept_table p (table_in schema p.name) e in
          by_name there.0 there.1 (on f) (pointwise nat_eq p.name name) refl
      go on false e f = absurd (cc)

  module _ (picked : List Picked) (is : keyless_in schema picked ≡ None) where
    abbrev copy : Bound
    copy = copied_bound (copied_of schema picked)

    abbrev own : Bound
    own = bound_in picked schema

    module _ (name : List ℕ) where
      module _ (p : Picked) (f : picked_in picked name ≡ Some p) (e : IsEntry picked name p) where
        row_alike : copy.row name ≡ own.row name
        row_alike = fun_ext (λ row.
            ap (option_and_then (λ (t : CopiedTable). taken_row t.picked.select row)) e.copied
            ∙ sym (ap (option_and_then (λ (q : Picked). taken_row q.select row)) f))

        key_alike : copy.key name ≡ own.key name
        key_alike = fun_ext (λ row.
            ap (λ (o : Option CopiedTable). option_map_or (λ (t : CopiedTable). project t.table.key row) o []) e.copied
            ∙ sym (ap (λ (o : Option Table). option_map_or (λ (t : Table). project t.key row) o []) e.there))

        order_alike : copy.order name ≡ own.order name
        order_alike = fun_ext (λ x. fun_ext (λ y.
            ap (λ (o : Option CopiedTable). key_order (option_map_or (λ (t : CopiedTable). t.kinds) o []) x y) e.copied
            ∙ sym (ap (λ (o : Option Table). key_order (option_map_or key_kinds o []) x y) e.there)))

      left_same : (changes : List Change) (l : Option LastKey) → left_of copy changes l name ≡ left_of own changes l name
      left_same changes l = go (picked_in picked name) refl (entries picked name is)
        where
          go : (o : Option Picked) → picked_in picked name ≡ o → Entries picked name o → left_of copy changes l name ≡ left_of own changes l name
          go None f e =
              left_nothing copy name (λ row. ap (option_and_then (λ (t : CopiedTable). taken_row t.picked.select row)) e) changes l
              ∙ sym (left_nothing own name (λ row. ap (option_and_then (λ (q : Picked). taken_row q.select row)) f) changes l)
          go (Some p) f e = left_alike copy own name (row_alike p f e) (key_alike p f e) (order_alike p f e) changes l

      image_same : (l : LastKey) (image : Option Row) → image_of copy l name image ≡ image_of own l name image
      image_same l image = go (picked_in picked name) refl (entries picked name is)
        where
          go : (o : Option Picked) → picked_in picked name ≡ o → Entries picked name o → image_of copy l name image ≡ image_of own l name image
          go None f e =
              image_nothing copy name (λ row. ap (option_and_then (λ (t : CopiedTable). taken_row t.picked.select row)) e) l image
              ∙ sym (image_nothing own name (λ row. ap (option_and_then (λ (q : Picked). taken_row q.select row)) f) l image)
          go (Some p) f e = image_alike copy own name (row_alike p f e) (key_alike p f e) (order_alike p f e) l image

abbrev change_of : List ℕ → Option Row → Option Row → Option Change
change_of name before after = with_images (record { table = name; before = before; after = after })

pub tells_as_bound : TellsAsBound
tells_as_bound schema picked is = record {
  within = λ l c. ap₂ (change_of c.table) (image_same schema picked is c.table l c.before) (image_same schema picked is c.table l c.after);
  next = λ changes l.
      ap₂ (λ (f : List ℕ → List Told) (names : List (List ℕ)). option_map {T = List ℕ × List Told} (λ t. (t.0, chunk_of t.1))
      (find (λ t. nat_le 1 (length t.1)) (map (λ name. (name, f name)) names)))
      (fun_ext (λ name. left_same schema picked is name changes l)) (copied_name schema picked is);
}
