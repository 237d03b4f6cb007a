use Rattle.std.proofs.Common.{rules, ◌≡◌, ap, ◌∙◌, sym, length, ℕ, ◌+◌, ◌++◌, ◌∷◌, []}
use Rattle.vs_render.specs.Bodies.{HeldBody, pieces}
use Rattle.vs_render.proofs.RoomLemmas.{one_more, pieces_count}
use Rattle.vs_render.proofs.body.Body.messages.Goals as goal

pub returns-clause-count : goal.returns-clause-count
returns-clause-count c =
    let counted : length c.self.inside.earlier.items + 1 ≡ length (c.self.inside.earlier.items ++ c.self.inside.last ∷ []) = one_more c.self.inside.earlier.items c.self.inside.last in
    let seen : length (pieces (c.self.inside.earlier.items ++ c.self.inside.last ∷ []) (c.self.inside.room.buf.bytes ++ c.self.inside.room.rest.items)) ≡ length c.args.self.now.body.fronts = ap (λ (h : HeldBody). length h.body.fronts) c.self.view_is in
    let are : c.len.result ≡ length c.self.inside.earlier.items = search rules in
    ap (λ (n : ℕ). n + 1) are ∙ counted ∙ sym (pieces_count (c.self.inside.earlier.items ++ c.self.inside.last ∷ []) (c.self.inside.room.buf.bytes ++ c.self.inside.room.rest.items)) ∙ seen
