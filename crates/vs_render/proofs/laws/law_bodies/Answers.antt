use Rattle.vs_render.proofs.BodyLemmas.{bodies, chunks as chunk_bodies}
use Rattle.vs_render.proofs.laws.law_bodies.Goals as goal

pub returns : goal.returns
returns c = record { entries = bodies; chunks = chunk_bodies }
