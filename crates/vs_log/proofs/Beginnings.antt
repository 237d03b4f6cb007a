-- The table takes an event where, and only where, the beginning of a log goes on with it.
use Rattle.std.proofs.Common.{◌≡◌, List, ◌∷◌, ◌++◌, Result, Ok, Err, ap, sym, ◌∙◌}
use Rattle.vs_base.specs.declared.Why.{Why}
use Rattle.vs_log.specs.States.{State}
use Rattle.vs_binlog.specs.Heads.{Event}
use Rattle.vs_log.specs.Table.{Rules, step, ◌>>=◌}
use Rattle.vs_log.specs.Meaning.{front}
use Rattle.vs_log.specs.Productions.{BeginsLog}
use Rattle.vs_log.specs.Laws.{TakesBeginnings}
use Rattle.vs_log.proofs.Sound.{sound_step}
use Rattle.vs_log.proofs.Takes.{walk, walk-append}
use Rattle.vs_log.proofs.Complete.{complete}

refused : {M : Type 0} (rules : Rules M) (events more : List Event) (s t : State M) (e : Event) (why : Why) → BeginsLog rules events s → step rules s e ≡ Err why → BeginsLog rules (events ++ e ∷ more) t → ⊥
refused rules events more s t e why b h also =
    let stops : walk rules front (events ++ e ∷ more) ≡ Err why = walk-append rules front s events (e ∷ more) (complete rules events s b) ∙ ap (λ r. r >>= λ x. walk rules x more) h in
    let goes : walk rules front (events ++ e ∷ more) ≡ Ok t = complete rules (events ++ e ∷ more) t also in
    let never : ◌≡◌ {A = Result (State _) Why} (Err why) (Ok t) = sym stops ∙ goes in
    cc

one_way : {M : Type 0} (rules : Rules M) (events : List Event) (s t : State M) → BeginsLog rules events s → BeginsLog rules events t → s ≡ t
one_way rules events s t b c = let h : ◌≡◌ {A = Result (State _) Why} (Ok s) (Ok t) = sym (complete rules events s b) ∙ complete rules events t c in cc

pub takes_beginnings : {M : Type 0} (rules : Rules M) → TakesBeginnings rules
takes_beginnings rules = record { takes = λ events s next e b h. sound_step rules events s next e b h; refuses = refused rules; once = one_way rules }
