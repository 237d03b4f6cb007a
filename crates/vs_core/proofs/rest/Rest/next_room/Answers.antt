use Rattle.std.proofs.Common.{◌≡◌, ◌∷◌}
use Rattle.vs_core.proofs.rest.Rest.next_room.Goals as goal

pub returns : goal.returns
returns c =
    let v = c.self.view_is in
    let i : c.self.inside.held.items ≡ (c.in_ok-lane.lane, c.in_ok-lane.piece) ∷ c.pop_front.new.self.items = c.in_ok-lane.ensures.items in
    (c.in_ok-lane.piece, cc, c.room_of.ensures)
