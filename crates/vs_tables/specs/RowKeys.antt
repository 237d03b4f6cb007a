-- The keys of rows, as they are kept.
use Rattle.std.specs.Prelude.{List, [], ◌∷◌}
use Rattle.std.specs.Cmp.{IsTotalOrder}
use Rattle.std.specs.Cmp.Lexicographic.{lists_total}
use Rattle.vs_tables.specs.Rows.{parts_order}
use Rattle.vs_tables.specs.contracts.key.KeyPartOrd.TheImpl.Laws.{total-law}
use Rattle.vs_tables.specs.declared.key.KeyPart.{KeyPart}
use Rattle.vs_tables.specs.declared.row_key.KeyForm.{KeyForm}

-- the parts of a key
abbrev pub parts_in : KeyForm → List KeyPart
parts_in (KeyForm.Number number) = KeyPart.Number number ∷ []
parts_in (KeyForm.Parts parts) = parts.value

-- parts of keys are in a total order
pub parts_total : IsTotalOrder parts_order
parts_total = lists_total total-law
