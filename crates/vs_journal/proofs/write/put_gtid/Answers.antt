use Rattle.std.proofs.Common.{◌++◌, ◌∙◌, ap, append_assoc, codes}
use Rattle.vs_gtid.specs.Text.{set_text}
use Rattle.vs_journal.specs.Texts.{quote}
use Rattle.vs_journal.proofs.write.put_gtid.Goals as goal

pub returns : goal.returns
returns c =
    let before = c.args.text.now.items in
    let front = codes " gtid:" ++ quote ++ codes "MySQL56/" in
    let set = set_text c.args.position.now in
    c.in_ok-extend_from_slice-2.ensures.items
    ∙ (ap (λ t. t ++ quote) (c.in_ok-put_text.ensures.ok ∙ ap (λ t. t ++ set) c.in_ok-extend_from_slice.ensures.items)
    ∙ (append_assoc (before ++ front) set quote ∙ append_assoc before front (set ++ quote)))
