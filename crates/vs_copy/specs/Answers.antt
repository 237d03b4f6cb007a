-- What refusals of a copy say.
use Rattle.std.specs.Prelude.{◌≡◌, false, List, None, IsSomeAnd}
use Rattle.vs_base.specs.declared.change.LastKey.{LastKey}
use Rattle.vs_base.specs.declared.table.Table.{Table}
use Rattle.vs_filter.specs.declared.bound.Picked.{Picked}
use Rattle.vs_copy.specs.Copying.{copied_of, fits_copy, keyless_in}
use Rattle.vs_copy.specs.declared.refusal.CopyRefusal.{CopyRefusal}
use Rattle.vs_copy.specs.declared.refusal.CopyRefusal.TheVariants as refusal

-- of a copy from its beginning
abbrev pub KeylessIs : List Table → List Picked → CopyRefusal → Type 0
KeylessIs schema picked (refusal.NoKey table) = IsSomeAnd (keyless_in schema picked) (λ p. table ≡ p.name)
KeylessIs schema picked refusal.BadLastKey = ⊥
KeylessIs schema picked refusal.Memory = Unit {0}

-- of one that is resumed
abbrev pub NotResumedIs : List Table → List Picked → LastKey → CopyRefusal → Type 0
NotResumedIs schema picked last (refusal.NoKey table) = IsSomeAnd (keyless_in schema picked) (λ p. table ≡ p.name)
NotResumedIs schema picked last refusal.BadLastKey = (keyless_in schema picked ≡ None) × (fits_copy (copied_of schema picked) last ≡ false)
NotResumedIs schema picked last refusal.Memory = Unit {0}
