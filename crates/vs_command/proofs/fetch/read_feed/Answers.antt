use Rattle.std.proofs.Common.{ap, sym, subst, ◌∙◌, arith}
use Rattle.vs_entries.specs.Pieces.{Fed}
use Rattle.vs_command.specs.Fetched.{HasGiven}
use Rattle.vs_command.proofs.FetchLemmas.{HasGiven-fed, given_next, rose_later}
use Rattle.vs_command.proofs.fetch.read_feed.Goals as goal

pub loop-preserved-in-Ok-feed : goal.loop-preserved-in-Ok-feed
loop-preserved-in-Ok-feed g c = record {
  held = subst (λ r. HasGiven r c.loop.entries) (sym c.in-Ok-feed.ensures.ok) (HasGiven-fed c.law_growth.ensures c.loop.reader _ _ _ c.loop.entries c.loop.invariant.held);
  keyspace = ap (λ (r : Fed). r.keyspace) c.in-Ok-feed.ensures.ok ∙ c.loop.invariant.keyspace;
  schema = ap (λ (r : Fed). r.schema) c.in-Ok-feed.ensures.ok ∙ c.loop.invariant.schema;
  given = given_next _ _ _ _ c.in-Ok-Bytes.field-0 c.in-Ok-Bytes.n _ c.loop.reader.bytes _ c.loop.invariant.all c.loop.invariant.given c.in-Ok-Bytes.ensures.gives c.in-Ok-Bytes.field-0-is (ap (λ (r : Fed). r.bytes) c.in-Ok-feed.ensures.ok);
  all = c.in-Ok-Bytes.ensures.all ∙ c.loop.invariant.all;
  origin = c.in-Ok-Bytes.ensures.origin ∙ c.loop.invariant.origin;
  sound = c.in-Ok-Bytes.ensures.sound ∙ c.loop.invariant.sound;
  later = omega (arith, c.loop.invariant.later, c.in-Ok-Bytes.ensures.faults_later);
  waits = omega (arith, c.loop.invariant.waits, c.in-Ok-Bytes.ensures.waits_later);
  marked = λ h. rose_later _ _ _ (c.loop.invariant.marked h) c.in-Ok-Bytes.ensures.waits_later;
}
