use Rattle.std.proofs.Common.{List, ℕ, All, IsTrue, sym, subst}
use Rattle.std.specs.Ordering.{nat_cmp}
use Rattle.std.specs.Cmp.Lexicographic.{slice_cmp}
use Rattle.std.proofs.lemmas.Map.Views.{All-insert_key}
use Rattle.vs_outside.specs.Names.{is_shard_text}
use Rattle.vs_host.proofs.listing.insert_lawful.Goals as goal

abbrev AreLawful : List (List ℕ) → Type 0
AreLawful names = All (λ name. IsTrue (is_shard_text name)) names

pub returns : goal.returns
returns c = subst AreLawful (sym c.in_ok-insert_name.ensures)
    (All-insert_key (slice_cmp nat_cmp) c.args.name (λ name. IsTrue (is_shard_text name)) c.args.names.now.keys c.requires.kept c.requires.lawful)
