use Rattle.std.proofs.Common.{◌≡◌, false, length, drop, Some, None, Err, sym, subst, refl}
use Rattle.vs_base.specs.declared.Why.TheVariants.{BadMagic}
use Rattle.vs_log.specs.Events.{IsPart}
use Rattle.vs_entries.specs.Pieces.{Fed, GivesEntry, log_fed}
use Rattle.vs_entries.specs.Rules.{rules_of}
use Rattle.vs_entries.proofs.WalkLemmas.{refuses_magic, starts, wants_magic}
use Rattle.vs_entries.proofs.OverLemmas.{behind_magic, fault_found, fault_not, over_read, short_part}
use Rattle.vs_entries.proofs.reader.Reader.next_entry.Goals as goal

pub returns-in-Wrong-clause-gives : goal.returns-in-Wrong-clause-gives
returns-in-Wrong-clause-gives c =
    let r = refuses_magic c.laws.ensures (rules_of c.self.inside.keyspace c.self.inside.schema) c.self.inside.window.bytes c.self.inside.walk c.self.inside.refused c.self.invariant.over.is c.in-Wrong.ensures in
    subst (λ z. GivesEntry c.args.self.now (Err z) c.args.self.now) (sym c.of_magic.ensures)
    (subst (λ (f : Fed). (f.spent ≡ false) × (f.given ≡ length (log_fed f).entries) × ((log_fed f).fault ≡ Some (0, BadMagic)) × (f ≡ record f { at = f.at })) c.self.view_is (c.if-self.false, r.0, r.1, refl))

pub returns-in-Part-clause-gives : goal.returns-in-Part-clause-gives
returns-in-Part-clause-gives c =
    let m = c.in-Part.ensures in
    let r = wants_magic c.laws.ensures (rules_of c.self.inside.keyspace c.self.inside.schema) c.self.inside.window.bytes c.self.inside.walk c.self.inside.refused c.self.invariant.over.is m.0 m.1 in
    subst (λ (f : Fed). (f.spent ≡ false) × (f.given ≡ length (log_fed f).entries) × ((log_fed f).fault ≡ None) × IsPart (drop f.at f.bytes) × (f ≡ record f { at = f.at })) c.self.view_is
    (c.if-self.false, r.0, r.1, short_part c.self.inside.walk.at c.self.inside.window.bytes m.1, refl)

pub read_entry-requires-clause-stands : goal.read_entry-requires-clause-stands
read_entry-requires-clause-stands c =
    rw c.as_bytes.ensures (starts c.laws.ensures (rules_of c.self.inside.keyspace c.self.inside.schema) c.self.inside.window.bytes c.self.inside.walk c.self.invariant.over.is.stands
    (behind_magic c.self.inside.window c.self.inside.walk c.self.invariant.over.begun c.in-Whole.ensures))

pub invariant_of-self : goal.invariant_of-self
invariant_of-self c = c.self.invariant

pub invariant_of-self-in-Ok-Gave : goal.invariant_of-self-in-Ok-Gave
invariant_of-self-in-Ok-Gave c =
    let n = c.in-Ok-Gave.ensures in
    record {
      over = over_read _ _ _ c.self.inside.window c.self.inside.walk _ c.self.inside.refused c.as_bytes.ensures c.self.invariant.over n.stands n.early n.given n.stuck n.later;
      fault = fault_not _ _ _ _ c.in_default.not-Some;
    }

pub invariant_of-self-in-Some-why : goal.invariant_of-self-in-Some-why
invariant_of-self-in-Some-why c =
    let n = c.in-Ok-Ended.ensures in
    let reads = rw c.in-Ok-Ended.field-0-is at n.reads in
    record {
      over = over_read _ _ _ c.self.inside.window c.self.inside.walk _ c.self.inside.refused c.as_bytes.ensures c.self.invariant.over n.stands n.early n.given n.stuck n.later;
      fault = rw c.keep.ensures.kept (fault_found _ _ _ _ c.self.inside.walk c.read_entry.new.self c.read_entry.new.out.why c.in-Some-why.why c.as_bytes.ensures reads c.in-Some-why.is);
    }

pub invariant_of-self-in-None : goal.invariant_of-self-in-None
invariant_of-self-in-None c =
    let n = c.in-Ok-Ended.ensures in
    record {
      over = over_read _ _ _ c.self.inside.window c.self.inside.walk _ c.self.inside.refused c.as_bytes.ensures c.self.invariant.over n.stands n.early n.given n.stuck n.later;
      fault = fault_not _ _ _ _ c.in_default.not-Some;
    }

pub invariant_of-self-in-Err : goal.invariant_of-self-in-Err
invariant_of-self-in-Err c =
    let n = c.in-Err.ensures in
    record {
      over = over_read _ _ _ c.self.inside.window c.self.inside.walk _ c.self.inside.refused c.as_bytes.ensures c.self.invariant.over n.stands n.early n.given n.stuck n.later;
      fault = fault_not _ _ _ _ c.in_default.not-Some;
    }
