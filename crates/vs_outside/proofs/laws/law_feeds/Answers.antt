use Rattle.vs_outside.proofs.FeedLemmas.{gives_back-same, gives_back-once, gives_back-joined, gives_back-lent}
use Rattle.vs_outside.proofs.laws.law_feeds.Goals as goal

pub returns : goal.returns
returns c = record { same = gives_back-same; once = gives_back-once; joined = gives_back-joined; out = gives_back-lent }
