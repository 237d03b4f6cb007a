use Rattle.std.proofs.Common.{◌≡◌, ◌∙◌, List, None, All, inl, inr, sym, ap, subst}
use Rattle.vs_gtid.specs.declared.interval.Interval.{Interval}
use Rattle.vs_gtid.specs.declared.span.Span.{Span}
use Rattle.vs_gtid.specs.Positions.{IsInterval}
use Rattle.vs_gtid.specs.Joins.{limited, merged}
use Rattle.vs_gtid.specs.Parts.{scanned}
use Rattle.vs_gtid.specs.Readings.{fault_in, intervals_of}
use Rattle.vs_gtid.proofs.ReadingLemmas.{no_fault, read_merged, same_fault}
use Rattle.vs_gtid.proofs.LawfulSpans.{lawful_intervals}
use Rattle.vs_gtid.proofs.parse.read_set.Goals as goal
use Rattle.vs_gtid.proofs.parse.read_set.Goals.{In_ok-intervals_of}

sound_fault : (c : In_ok-intervals_of) → fault_in (scanned c.args.text.now) ≡ None
sound_fault c =
    let s = c.in_ok-scan.ensures in
    sym (c.in_default.ensures ∙ same_fault c.args.text.now c.as_slice.result.now c.in_ok-scan.scan.stop (c.as_slice.ensures.value ∙ s.spans) s.stop)

merged_of : (c : In_ok-intervals_of) → c.in_ok-intervals_of.field-0.items ≡ intervals_of (scanned c.args.text.now).spans
merged_of c =
    c.in_ok-intervals_of.ensures.ok ∙ ap (λ (x : List Span). intervals_of x) (c.as_slice-2.ensures.value ∙ c.in_ok-scan.ensures.spans)

pub merge-requires : goal.merge-requires
merge-requires c =
    let text = c.args.text.now in
    subst (λ (is : List Interval). All IsInterval is) (sym (merged_of c)) (lawful_intervals text (scanned text).spans (no_fault text (sound_fault c)))

pub returns-clause-read : goal.returns-clause-read
returns-clause-read c =
    let before = (goal.at.returns-clause-read c).In_ok-intervals_of in
    elim c.merge.ensures.merged [
      | inl m ↦ inl m
      | inr h ↦ inr (h ∙ (ap (λ (is : List Interval). limited (merged is)) (merged_of before) ∙ sym (read_merged c.args.text.now (sound_fault before))))
    ]
