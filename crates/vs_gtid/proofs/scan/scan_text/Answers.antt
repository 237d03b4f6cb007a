use Rattle.std.proofs.Common.{List, [], sym, ap, ◌∙◌}
use Rattle.vs_gtid.specs.declared.span.Span.{Span}
use Rattle.vs_gtid.specs.declared.part.Part.TheVariants.{Opening}
use Rattle.vs_gtid.specs.Parts.{scanned_from, Scanned}
use Rattle.vs_gtid.proofs.ScanLemmas.{scan_begin, none_at, some_at, end_at}
use Rattle.vs_gtid.proofs.scan.scan_text.Goals as goal

pub loop-at-init : goal.loop-at-init
loop-at-init c = record {
  within = tt;
  rest = ap (λ (s : List Span). scanned_from [] s Opening c.args.text.now) c.new-spans.ensures.items ∙ scan_begin c.args.text.now;
}

pub returns-in_default-clause-spans : goal.returns-in_default-clause-spans
returns-in_default-clause-spans c =
    c.in_ok-put_begun.ensures.ok
    ∙ ap (λ (s : Scanned). s.spans) (sym (none_at c.args.text.now c.loop-at.spans.items c.loop-at.part c.loop-at.at c.loop-at-test.true (sym c.in_default.ensures.next)) ∙ c.loop-at.invariant.rest)

pub returns-in_default-clause-stop : goal.returns-in_default-clause-stop
returns-in_default-clause-stop c =
    ap (λ (s : Scanned). s.stop) (sym (none_at c.args.text.now c.loop-at.spans.items c.loop-at.part c.loop-at.at c.loop-at-test.true (sym c.in_default.ensures.next)) ∙ c.loop-at.invariant.rest)

pub loop-at-preserved : goal.loop-at-preserved
loop-at-preserved c = record {
  within = c.in-Some.ensures.within;
  rest =
      sym (some_at c.args.text.now c.loop-at.spans.items c.put_ended.new.spans.items c.loop-at.part c.in-Some.next c.loop-at.at c.loop-at-test.true (sym c.in-Some.ensures.next) c.in_ok-put_ended.ensures.ok)
      ∙ c.loop-at.invariant.rest;
}

pub returns-clause-spans : goal.returns-clause-spans
returns-clause-spans c =
    c.in_ok-put_begun-2.ensures.ok
    ∙ ap (λ (s : Scanned). s.spans) (sym (end_at c.args.text.now c.loop-at.spans.items c.loop-at.part c.loop-at.at c.loop-at-test.false) ∙ c.loop-at.invariant.rest)

pub returns-clause-stop : goal.returns-clause-stop
returns-clause-stop c =
    c.end_of.ensures
    ∙ ap (λ (s : Scanned). s.stop) (sym (end_at c.args.text.now c.loop-at.spans.items c.loop-at.part c.loop-at.at c.loop-at-test.false) ∙ c.loop-at.invariant.rest)
