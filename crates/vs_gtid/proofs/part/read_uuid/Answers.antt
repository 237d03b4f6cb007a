use Rattle.std.proofs.Common.{◌≡◌, ℕ, List, length, Option, Some, None, refl, ◌∙◌, false, true}
use Rattle.uuid.specs.Text.{parsed, parsed_hyphenated}
use Rattle.vs_gtid.proofs.part.read_uuid.Goals as goal

-- of 36 bytes only the hyphenated form is read
hyphenated : (text : List ℕ) → length text ≡ 36 → parsed text ≡ parsed_hyphenated text
hyphenated text h = rw h refl

nothing : (o : Option (List ℕ)) → ((x : List ℕ) × (o ≡ Some x) → false ≡ true) → None ≡ o
nothing None h = refl
nothing (Some x) h = let e = h (x, refl) in cc

pub returns-in-Err : goal.returns-in-Err
returns-in-Err c = nothing (parsed c.args.text.now) c.in-Err.ensures.ok.1 ∙ hyphenated c.args.text.now c.requires
