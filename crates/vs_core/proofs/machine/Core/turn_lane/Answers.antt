use Rattle.std.proofs.Common.{length, refl}
use Rattle.std.proofs.lemmas.Option.{slice_get_read, slice_get_within}
use Rattle.vs_core.proofs.ScanLemmas.{item_at}
use Rattle.vs_core.proofs.TurnLemmas.{head_refused, head_room, head_went}
use Rattle.vs_core.proofs.machine.Core.turn_lane.Goals as goal

pub returns-in-Err-clause-turned : goal.returns-in-Err-clause-turned
returns-in-Err-clause-turned c =
    let held = c.self.inside.held.items in
    head_refused c.args.self.now c.self.inside.gate held c.args.lane c.args.place c.in-Some.field-0.now c.self.view_is c.requires (item_at held c.args.place c.in-Some.field-0 c.in-Some.ensures.item)
    c.handle.new.self c.in-Err.e c.args.out.now.items c.handle.new.out.items c.in-Err.ensures.0 c.in-Err.ensures.1 c.in-Err.ensures.2

pub returns-clause-turned : goal.returns-clause-turned
returns-clause-turned c =
    let held = c.self.inside.held.items in
    head_went c.args.self.now c.self.inside.gate held c.args.lane c.args.place c.in-Some.field-0.now c.self.view_is c.requires (item_at held c.args.place c.in-Some.field-0 c.in-Some.ensures.item)
    c.handle.new.self c.remove.new.self.items c.in-Ok.handled c.room_of.result c.with_room.result c.args.out.now.items c.handle.new.out.items c.in-Some-remove.ensures.items c.in-Ok.ensures c.with_room.ensures

pub returns-clause-room : goal.returns-clause-room
returns-clause-room c =
    let held = c.self.inside.held.items in
    let less = slice_get_within held c.args.place c.in-Some.field-0.now (item_at held c.args.place c.in-Some.field-0 c.in-Some.ensures.item) in
    head_room c.args.self.now c.self.inside.gate held c.args.lane c.args.place (c.in-Some-remove.field-0-0, c.in-Some-remove.piece) c.self.view_is c.requires
    (slice_get_read held (length held) c.args.place (c.in-Some-remove.field-0-0, c.in-Some-remove.piece) refl less c.in-Some-remove.ensures.value)
    c.in-Ok.handled c.room_of.result c.with_room.result c.room_of.ensures c.with_room.ensures
