use Rattle.std.proofs.Common.{◌≡◌, ◌-◌, ◌<◌, ℕ, Bool, true, false, length, set, get_or, sym, ap, subst, ◌∙◌, arith}
use Rattle.std.proofs.lemmas.Bool.{true≢false, eq-eqb}
use Rattle.std.proofs.lemmas.List.{get_or_read}
use Rattle.vs_gtid.specs.declared.interval.Interval.{Interval}
use Rattle.vs_gtid.specs.Positions.{Position}
use Rattle.vs_gtid.specs.Joins.{stands_before, hull}
use Rattle.vs_gtid.proofs.MergeLemmas.{append_new, append_meets}
use Rattle.vs_gtid.proofs.merge.append.Goals as goal
use Rattle.vs_gtid.proofs.merge.append.Goals.{then-held-eq0, else-held-eq0}

-- what was read of the last interval
last_read : (p : Position) (x i : Interval) (held : ℕ) (b : Bool) → held ≡ length p → 0 < length p → i ≡ get_or p (held - 1) i → stands_before i x ≡ b →
    (i ≡ get_or p (length p - 1) x) × (stands_before (get_or p (length p - 1) x) x ≡ b)
last_read p x i held b e l r h =
    let at : i ≡ get_or p (length p - 1) x = get_or_read p (held - 1) i (omega arith) r x ∙ ap (λ (m : ℕ). get_or p (m - 1) x) e in
    (at, subst (λ (y : Interval). stands_before y x ≡ b) at h)

pub returns-in_ok-push-clause-joined : goal.returns-in_ok-push-clause-joined
returns-in_ok-push-clause-joined c =
    let p = c.args.merged.now.items in
    let x = c.args.interval.now in
    let held : c.len-held.result ≡ length p = omega arith in
    let before : 0 < length p → stands_before (get_or p (length p - 1) x) x ≡ true =
    λ n. elim c.if-held-eq0.branch [
      | then-held-eq0 w ↦ absurd (omega arith)
      | else-held-eq0 w ↦
          (last_read p x w.index.result.now c.len-held.result true held n w.index.ensures (sym w.stands_before.ensures ∙ (sym w.value-is ∙ c.if-stands_before.true))).1
    ] in
    c.in_ok-push.ensures.items ∙ sym (append_new p x x c.requires.interval.ascends c.requires.canonical before)

pub returns-else-stands_before-clause-joined : goal.returns-else-stands_before-clause-joined
returns-else-stands_before-clause-joined c =
    let p = c.args.merged.now.items in
    let x = c.args.interval.now in
    let held : c.len-held.result ≡ length p = omega arith in
    let apart : (0 < length p) × (stands_before (get_or p (length p - 1) x) x ≡ false) =
    elim c.if-held-eq0.branch [
      | then-held-eq0 w ↦ absurd (true≢false (sym (eq-eqb c.len-held.result 0 w.if-held-eq0.true) ∙ (sym w.value-is ∙ c.if-stands_before.false)))
      | else-held-eq0 w ↦
          let some = w.if-held-eq0.false in
          let n : 0 < length p = omega (arith, some) in
          (n, (last_read p x w.index.result.now c.len-held.result false held n w.index.ensures (sym w.stands_before.ensures ∙ (sym w.value-is ∙ c.if-stands_before.false))).1)
    ] in
    let i = c.index-else-stands_before.result.now in
    let read : i ≡ get_or p (length p - 1) x = get_or_read p (c.len-held.result - 1) i (omega (arith, apart.0)) c.index-else-stands_before.ensures x ∙ ap (λ (m : ℕ). get_or p (m - 1) x) held in
    ap (λ (m : ℕ). set p (m - 1) c.hull.result) held
    ∙ (ap (λ (h : Interval). set p (length p - 1) h) (c.hull.ensures ∙ ap (λ (y : Interval). hull x y) read)
    ∙ sym (append_meets p x x c.requires.interval.ascends c.requires.canonical apart.0 apart.1 c.requires.in_order))
