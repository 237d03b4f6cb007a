use Rattle.std.proofs.Common.{◌≡◌, ◌+◌, ◌-◌, ◌++◌, ℕ, List, [], length, take, drop, set, get_or, decimal, ap, ap₂, sym, subst, ◌∙◌, arith, rules}
use Rattle.std.proofs.Math.Seq.{take-append_seam}
use Rattle.std.proofs.lemmas.List.{get_or_read}
use Rattle.vs_gtid.specs.declared.interval.Interval.{Interval}
use Rattle.vs_gtid.specs.Joins.{added}
use Rattle.vs_gtid.specs.Kept.{GrowsAt, end_of}
use Rattle.vs_gtid.specs.Positions.{Position, IsPosition}
use Rattle.vs_gtid.specs.Text.{set_text}
use Rattle.vs_gtid.proofs.KeptLemmas.{RaisedAt, digits_at, raised_at}
use Rattle.vs_gtid.proofs.kept.raise.Goals as goal

abbrev unread : Interval
unread = record { uuid = []; first = 0; last = 0 }

-- the bytes that were written over are the text of the set with the GTID
written : (p : Position) (at end : ℕ) (g : _) (text old new number : List ℕ) (from : ℕ) (r : RaisedAt p at end g text) → old ≡ text → from ≡ end - length number →
    from + length number ≡ end → (take (end - length number) text ++ (number ++ drop end text) ≡ set_text (added p g)) →
    new ≡ take from old ++ (number ++ drop (from + length number) old) → new ≡ set_text (added p g)
written p at end g text old new number from r e f there s is =
    is ∙ ap (λ (t : List ℕ). take from t ++ (number ++ drop (from + length number) t)) e
    ∙ ap₂ (λ (a b : ℕ). take a text ++ (number ++ drop b text)) f there ∙ s

pub overflow_sub-end : goal.overflow_sub-end
overflow_sub-end c =
    let p = c.args.intervals.now.items in
    let g = c.args.gtid.now in
    let w = subst (λ (q : Position). GrowsAt q c.args.at g) c.as_slice.ensures.value (c.grows_at.ensures c.if-not-grows_at.false) in
    let r = raised_at p c.args.at c.args.end g c.args.text.now.items w c.requires.end c.requires.text in
    let read : c.index.result.now ≡ get_or p c.args.at unread = get_or_read p c.args.at c.index.result.now r.inside c.index.ensures unread in
    let digits = digits_at p c.args.at c.args.end g _ r c.index.result.now unread c.format-digits.result.now read c.format-digits.ensures.text in
    let short = r.short in
    omega arith

pub overwrite-requires : goal.overwrite-requires
overwrite-requires c =
    let p = c.args.intervals.now.items in
    let g = c.args.gtid.now in
    let w = subst (λ (q : Position). GrowsAt q c.args.at g) c.as_slice.ensures.value (c.grows_at.ensures c.if-not-grows_at.false) in
    let r = raised_at p c.args.at c.args.end g c.args.text.now.items w c.requires.end c.requires.text in
    let read : c.index.result.now ≡ get_or p c.args.at unread = get_or_read p c.args.at c.index.result.now r.inside c.index.ensures unread in
    let digits = digits_at p c.args.at c.args.end g _ r c.index.result.now unread c.format-digits.result.now read c.format-digits.ensures.text in
    let short = r.short in
    let within = r.within in
    let same = c.if-number-digits.false in
    let all : length c.as_mut_slice.result.now ≡ length c.args.text.now.items = ap (λ (t : List ℕ). length t) c.as_mut_slice.ensures.value in
    omega arith

pub returns-clause-set : goal.returns-clause-set
returns-clause-set c = λ t.
    let p = c.args.intervals.now.items in
    let g = c.args.gtid.now in
    let w = subst (λ (q : Position). GrowsAt q c.args.at g) c.as_slice.ensures.value (c.grows_at.ensures c.if-not-grows_at.false) in
    let r = raised_at p c.args.at c.args.end g c.args.text.now.items w c.requires.end c.requires.text in
    let read : c.index_mut.result.now ≡ get_or p c.args.at unread = search rules in
    ap (λ (x : Interval). set p c.args.at (record { uuid = x.uuid; first = x.first; last = g.number })) read ∙ r.set unread

pub returns-clause-text : goal.returns-clause-text
returns-clause-text c = λ t.
    let p = c.args.intervals.now.items in
    let g = c.args.gtid.now in
    let w = subst (λ (q : Position). GrowsAt q c.args.at g) c.as_slice.ensures.value (c.grows_at.ensures c.if-not-grows_at.false) in
    let r = raised_at p c.args.at c.args.end g c.args.text.now.items w c.requires.end c.requires.text in
    let read : c.index.result.now ≡ get_or p c.args.at unread = get_or_read p c.args.at c.index.result.now r.inside c.index.ensures unread in
    let digits = digits_at p c.args.at c.args.end g _ r c.index.result.now unread c.format-digits.result.now read c.format-digits.ensures.text in
    let same = c.if-number-digits.false in
    let short = r.short in
    let spelled = r.spelled c.as_bytes-number.result.now (c.as_bytes-number.ensures.value ∙ c.format.ensures.text) (same ∙ digits) in
    let from = c.args.end - length c.format-digits.result.now in
    let is = written p c.args.at c.args.end g c.args.text.now.items c.as_mut_slice.result.now c.overwrite.new.bytes c.as_bytes-number.result.now from r c.as_mut_slice.ensures.value
    (ap (λ (n : ℕ). c.args.end - n) (sym same)) (omega arith) spelled c.overwrite.ensures.bytes in
    let read : c.index_mut.result.now ≡ get_or p c.args.at unread = search rules in
    let added_there : set p c.args.at (record { uuid = c.index_mut.result.now.uuid; first = c.index_mut.result.now.first; last = g.number }) ≡ added p g =
    ap (λ (x : Interval). set p c.args.at (record { uuid = x.uuid; first = x.first; last = g.number })) read ∙ r.set unread in
    let count : c.args.text.now.len ≡ length c.overwrite.new.bytes = sym (c.overwrite.ensures.count ∙ c.as_mut_slice.ensures.len) in
    ap (λ (n : ℕ). take n (c.overwrite.new.bytes ++ drop (length c.overwrite.new.bytes) c.args.text.now.items)) count
    ∙ take-append_seam c.overwrite.new.bytes (drop (length c.overwrite.new.bytes) c.args.text.now.items)
    ∙ is ∙ ap (λ (q : Position). set_text q) (sym added_there)

pub returns-clause-end : goal.returns-clause-end
returns-clause-end c = λ t.
    let p = c.args.intervals.now.items in
    let g = c.args.gtid.now in
    let w = subst (λ (q : Position). GrowsAt q c.args.at g) c.as_slice.ensures.value (c.grows_at.ensures c.if-not-grows_at.false) in
    let r = raised_at p c.args.at c.args.end g c.args.text.now.items w c.requires.end c.requires.text in
    let read : c.index.result.now ≡ get_or p c.args.at unread = get_or_read p c.args.at c.index.result.now r.inside c.index.ensures unread in
    let digits = digits_at p c.args.at c.args.end g _ r c.index.result.now unread c.format-digits.result.now read c.format-digits.ensures.text in
    let same = c.if-number-digits.false in
    let long : length c.as_bytes-number.result.now ≡ length (decimal g.number) = ap (λ (n : List ℕ). length n) (c.as_bytes-number.ensures.value ∙ c.format.ensures.text) in
    let read_back : c.index_mut.result.now ≡ get_or p c.args.at unread = search rules in
    let added_there : set p c.args.at (record { uuid = c.index_mut.result.now.uuid; first = c.index_mut.result.now.first; last = g.number }) ≡ added p g =
    ap (λ (x : Interval). set p c.args.at (record { uuid = x.uuid; first = x.first; last = g.number })) read_back ∙ r.set unread in
    r.ends (sym long ∙ same ∙ digits) ∙ ap (λ (q : Position). end_of q c.args.at) (sym added_there)

pub returns-clause-position : goal.returns-clause-position
returns-clause-position c =
    let p = c.args.intervals.now.items in
    let g = c.args.gtid.now in
    let w = subst (λ (q : Position). GrowsAt q c.args.at g) c.as_slice.ensures.value (c.grows_at.ensures c.if-not-grows_at.false) in
    let r = raised_at p c.args.at c.args.end g c.args.text.now.items w c.requires.end c.requires.text in
    let read : c.index_mut.result.now ≡ get_or p c.args.at unread = search rules in
    let added_there : set p c.args.at (record { uuid = c.index_mut.result.now.uuid; first = c.index_mut.result.now.first; last = g.number }) ≡ added p g =
    ap (λ (x : Interval). set p c.args.at (record { uuid = x.uuid; first = x.first; last = g.number })) read ∙ r.set unread in
    subst IsPosition (sym added_there) (r.position c.requires.position)
