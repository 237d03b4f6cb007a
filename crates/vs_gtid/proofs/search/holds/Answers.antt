use Rattle.std.proofs.Common.{◌≡◌, ◌&&◌, Bool, false, [], length, get_or, nat_lt, ap, sym, ◌∙◌, arith}
use Rattle.std.proofs.lemmas.Bool.{lt-ltb}
use Rattle.std.proofs.lemmas.Bool.Decides.{nat_tests}
use Rattle.vs_gtid.specs.declared.interval.Interval.{Interval}
use Rattle.vs_gtid.specs.Positions.{is_within}
use Rattle.vs_gtid.proofs.SearchLemmas.{has_found}
use Rattle.vs_gtid.proofs.search.holds.Goals as goal

abbrev unread : Interval
unread = record { uuid = []; first = 0; last = 0 }

pub returns-then-at-intervals : goal.returns-then-at-intervals
returns-then-at-intervals c =
    let w = is_within c.args.gtid.now (get_or c.args.intervals.now c.place_in-at.result unread) in
    c.contains.ensures
    ∙ sym (has_found c.args.intervals.now c.args.gtid.now _ unread _ c.requires c.alone-single.ensures.value c.place_in-at.ensures.place
    ∙ ap (λ (b : Bool). b && w) (lt-ltb _ _ c.if-at-intervals.true))

pub returns-else-at-intervals : goal.returns-else-at-intervals
returns-else-at-intervals c =
    let w = is_within c.args.gtid.now (get_or c.args.intervals.now c.place_in-at.result unread) in
    let out : nat_lt c.place_in-at.result (length c.args.intervals.now) ≡ false = let h = c.if-at-intervals.false in grind (arith, nat_tests) in
    out
    ∙ sym (has_found c.args.intervals.now c.args.gtid.now _ unread _ c.requires c.alone-single.ensures.value c.place_in-at.ensures.place
    ∙ ap (λ (b : Bool). b && w) out)
