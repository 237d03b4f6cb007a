use Rattle.std.proofs.Common.{ap, refl, sym, subst}
use Rattle.std.specs.Prelude.{◌⊎◌}
use Rattle.vs_entries.specs.Rules.{rules_of}
use Rattle.vs_entries.specs.Walks.{IsOver}
use Rattle.vs_entries.specs.Windows.{Windowed}
use Rattle.vs_entries.proofs.WalkLemmas.{held_more}
use Rattle.vs_entries.proofs.OverLemmas.{fault_fed, over_more, over_on, over_room}
use Rattle.vs_entries.proofs.reader.Reader.feed.Goals.{then-self-via-then-self, then-self-via-else-self+then-not-is_early}
use Rattle.vs_entries.proofs.reader.Reader.feed.Goals as goal

pub invariant_of-self-then-self : goal.invariant_of-self-then-self
invariant_of-self-then-self c =
    let over = over_room _ c.self.inside.window c.make_room.new.window c.self.inside.walk c.self.inside.refused c.self.invariant.over c.make_room.ensures.bytes c.make_room.ensures.from c.make_room.ensures.begun in
    record {
      over = subst (λ (w : Windowed). IsOver (rules_of c.self.inside.keyspace c.self.inside.schema) w c.self.inside.walk c.self.inside.refused) (sym c.in_ok-feed.ensures.ok)
          (over_more c.laws.ensures _ c.make_room.new.window c.args.piece.now c.self.inside.walk c.self.inside.refused over (elim c.then-self.branch [
            | then-self-via-then-self w ↦ ◌⊎◌.inl w.if-self.true
            | then-self-via-else-self+then-not-is_early w ↦ ◌⊎◌.inr (sym w.if-not-is_early.ensures)
          ]));
      fault = fault_fed c.laws.ensures _ c.self.inside.window c.make_room.new.window c.feed.new.self c.args.piece.now _ _ c.self.inside.fault c.make_room.ensures.bytes c.in_ok-feed.ensures.ok refl c.self.invariant.fault;
    }

pub read_front-requires-clause-stands : goal.read_front-requires-clause-stands
read_front-requires-clause-stands c =
    let over = over_room _ c.self.inside.window c.make_room.new.window c.self.inside.walk c.self.inside.refused c.self.invariant.over c.make_room.ensures.bytes c.make_room.ensures.from c.make_room.ensures.begun in
    rw (c.as_bytes.ensures, c.in_ok-feed.ensures.ok) (held_more c.laws.ensures (rules_of c.self.inside.keyspace c.self.inside.schema) c.make_room.new.window.bytes c.args.piece.now c.self.inside.walk over.is.stands)

pub invariant_of-self-in-Ok : goal.invariant_of-self-in-Ok
invariant_of-self-in-Ok c =
    let over = over_room _ c.self.inside.window c.make_room.new.window c.self.inside.walk c.self.inside.refused c.self.invariant.over c.make_room.ensures.bytes c.make_room.ensures.from c.make_room.ensures.begun in
    let fed = c.in_ok-feed.ensures.ok in
    record {
      over = over_on _ c.make_room.new.window c.feed.new.self c.self.inside.walk c.read_front.new.self c.self.inside.refused c.in-Ok.refused over (ap (λ (w : Windowed). w.from) fed) c.in-Ok.ensures.later (rw c.as_bytes.ensures at c.in-Ok.ensures.ok);
      fault = fault_fed c.laws.ensures _ c.self.inside.window c.make_room.new.window c.feed.new.self c.args.piece.now _ _ c.self.inside.fault c.make_room.ensures.bytes fed c.in-Ok.ensures.given c.self.invariant.fault;
    }
