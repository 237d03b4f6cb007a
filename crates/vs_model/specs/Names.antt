-- Shards by name, and positions by what they contain: the words of the crates below, under one roof.
pub use Rattle.vs_base.specs.Names.{same_name, same_gtid}
pub use Rattle.vs_gtid.specs.Positions.{Position, has, IsSubset, SameSet, IsCanonical}
pub use Rattle.vs_gtid.specs.Vectors.{is_in}
