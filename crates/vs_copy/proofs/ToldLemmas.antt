-- What is told of a change, by the entry of its table.
use Rattle.std.proofs.Common.{◌≡◌, ℕ, Bool, true, false, not, cond, List, [], Option, Some, None, option_and_then, refl, ap, ap₂, sym, ◌∙◌}
use Rattle.std.specs.Option.{option_map_or}
use Rattle.std.specs.Ordering.{is_gt, nat_cmp}
use Rattle.std.specs.Cmp.Lexicographic.{slice_cmp}
use Rattle.std.specs.declared.cmp.Ordering.{Ordering}
use Rattle.std.specs.declared.cmp.Ordering.TheVariants.{Less, Equal, Greater}
use Rattle.vs_base.specs.declared.cell.Cell.{Cell}
use Rattle.vs_base.specs.declared.change.Change.{Change}
use Rattle.vs_base.specs.declared.change.LastKey.{LastKey}
use Rattle.vs_base.specs.Keys.{key_order, project}
use Rattle.vs_base.specs.Picks.{picked_change, with_images}
use Rattle.vs_select.specs.Rows.{taken_row}
use Rattle.vs_model.specs.Copy.{change_within, image_within, is_after, is_after_in, kept_if}
use Rattle.vs_copy.specs.Copying.{copied_bound, copied_in, image_told, is_row_after_in}
use Rattle.vs_copy.specs.declared.copied.CopiedTable.{CopiedTable}

module _ (tables : List CopiedTable) (l : LastKey) (name : List ℕ) where
  after_in : (t : CopiedTable) (row : List Cell) (o : Ordering) → copied_in tables name ≡ Some t →
      is_after_in (copied_bound tables) l name ((copied_bound tables).key name row) o ≡ is_row_after_in t l row o
  after_in t row Less is = refl
  after_in t row Equal is =
      ap (λ found. is_gt (key_order (option_map_or (λ x. x.kinds) found []) (option_map_or (λ x. project x.table.key row) found []) l.key)) is
  after_in t row Greater is = refl

  kept_row : (t : CopiedTable) (row : List Cell) (b : Bool) → copied_in tables name ≡ Some t →
      option_and_then ((copied_bound tables).row name) (kept_if b (Some row)) ≡ cond b (taken_row t.picked.select row) None
  kept_row t row true is = ap (option_and_then (λ x. taken_row x.picked.select row)) is
  kept_row t row false is = refl

  pub told_image : (t : CopiedTable) (image : Option (List Cell)) → copied_in tables name ≡ Some t →
      option_and_then ((copied_bound tables).row name) (image_within (copied_bound tables) l name image) ≡ image_told t name l image
  told_image t None is = refl
  told_image t (Some row) is =
      kept_row t row (not (is_after (copied_bound tables) (Some l) name ((copied_bound tables).key name row))) is
      ∙ ap (λ b. cond (not b) (taken_row t.picked.select row) None) (after_in t row (slice_cmp nat_cmp name l.table) is)

  none_kept : (row : List Cell) (b : Bool) → copied_in tables name ≡ None → option_and_then ((copied_bound tables).row name) (kept_if b (Some row)) ≡ None
  none_kept row true is = ap (option_and_then (λ x. taken_row x.picked.select row)) is
  none_kept row false is = refl

  pub none_told : (image : Option (List Cell)) → copied_in tables name ≡ None →
      option_and_then ((copied_bound tables).row name) (image_within (copied_bound tables) l name image) ≡ None
  none_told None is = refl
  none_told (Some row) is = none_kept row (not (is_after (copied_bound tables) (Some l) name ((copied_bound tables).key name row))) is

abbrev change_of : List ℕ → Option (List Cell) → Option (List Cell) → Option Change
change_of name before after = with_images (record { table = name; before = before; after = after })

-- a change of a copied table
pub told_of : (tables : List CopiedTable) (l : LastKey) (c : Change) (t : CopiedTable) → copied_in tables c.table ≡ Some t →
    with_images (record { table = c.table; before = image_told t c.table l c.before; after = image_told t c.table l c.after })
    ≡ picked_change (copied_bound tables) (change_within (copied_bound tables) l c)
told_of tables l c t is =
    sym (ap₂ (change_of c.table) (told_image tables l c.table t c.before is) (told_image tables l c.table t c.after is))

-- a change of another table
pub none_of : (tables : List CopiedTable) (l : LastKey) (c : Change) → copied_in tables c.table ≡ None →
    None ≡ picked_change (copied_bound tables) (change_within (copied_bound tables) l c)
none_of tables l c is =
    sym (ap₂ (change_of c.table) (none_told tables l c.table c.before is) (none_told tables l c.table c.after is))
