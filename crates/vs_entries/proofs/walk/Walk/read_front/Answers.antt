use Rattle.vs_entries.proofs.OverLemmas.{magic_starts, magic_wanting}
use Rattle.vs_entries.proofs.walk.Walk.read_front.Goals as goal

pub returns-in_default-clause-ok : goal.returns-in_default-clause-ok
returns-in_default-clause-ok c = magic_wanting c.laws.ensures _ _ _ _ c.requires.stands c.requires.given c.read_magic.ensures c.in_default.not-Whole

pub read_early-requires-clause-early : goal.read_early-requires-clause-early
read_early-requires-clause-early c = magic_starts c.laws.ensures _ _ _ c.requires.stands c.requires.early c.requires.given c.requires.begun c.in-Whole.ensures
