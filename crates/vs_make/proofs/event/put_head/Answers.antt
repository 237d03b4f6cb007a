use Rattle.std.proofs.Common.{◌∙◌, ◌++◌, ◌∷◌, ap}
use Rattle.byteorder.specs.Endian.{little_bytes}
use Rattle.vs_make.proofs.ListLemmas.{four_appended}
use Rattle.vs_make.proofs.event.put_head.Goals as goal

pub returns : goal.returns
returns c =
    let before = c.args.out.now.items in
    let one = c.extend_from_slice.new.self.items in
    let two = c.extend_from_slice-2.new.self.items in
    let three = c.extend_from_slice-3.new.self.items in
    let four = c.extend_from_slice-4.new.self.items in
    four_appended before (little_bytes 4 c.args.time) (c.args.kind ∷ little_bytes 4 0) (little_bytes 4 c.args.length) (little_bytes 6 0) one two three four
    (c.in_ok-extend_from_slice.ensures.items ∙ ap (λ t. before ++ t) c.to_le_bytes.ensures)
    c.in_ok-extend_from_slice-2.ensures.items
    (c.in_ok-extend_from_slice-3.ensures.items ∙ ap (λ t. two ++ t) c.to_le_bytes-2.ensures)
    c.in_ok-extend_from_slice-4.ensures.items
