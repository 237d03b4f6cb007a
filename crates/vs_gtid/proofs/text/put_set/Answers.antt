use Rattle.std.proofs.Common.{◌∙◌, ◌++◌, ℕ, List, [], ap, sym, get_or, arith, ◌-◌}
use Rattle.std.proofs.lemmas.Bool.{eqb-true, eqb-false}
use Rattle.std.proofs.lemmas.List.{append-nil}
use Rattle.vs_gtid.specs.declared.interval.Interval.{Interval}
use Rattle.vs_gtid.proofs.TextLemmas.{text_none, opened_text, further_text, whole_text}
use Rattle.vs_gtid.proofs.text.put_set.Goals as goal

abbrev unread : Interval
unread = record { uuid = []; first = 0; last = 0 }

pub returns-then-is_empty : goal.returns-then-is_empty
returns-then-is_empty c =
    let none = text_none c.args.intervals.now (eqb-true _ _ (sym c.is_empty.ensures ∙ c.if-is_empty.true)) in
    sym (ap (λ (t : List ℕ). c.args.text.now.items ++ t) none ∙ append-nil c.args.text.now.items)

pub loop-place-init : goal.loop-place-init
loop-place-init c =
    let some = eqb-false _ _ (sym c.is_empty.ensures ∙ c.if-is_empty.false) in
    opened_text c.args.intervals.now unread c.args.text.now.items c.put_opening.new.text.items (omega (arith, some)) c.in_ok-put_opening.ensures

pub loop-place-preserved : goal.loop-place-preserved
loop-place-preserved c =
    further_text c.args.intervals.now (get_or c.args.intervals.now (c.loop-place.place - 1) unread) unread c.loop-place.place _ c.loop-place.text.items c.put_next.new.text.items
    c.loop-place-test.true c.loop-place.invariant c.in_ok-put_next.ensures

pub returns : goal.returns
returns c =
    whole_text c.args.intervals.now (get_or c.args.intervals.now (c.loop-place.place - 1) unread) c.loop-place.place _ c.loop-place.text.items c.loop-place-test.false c.loop-place.invariant
