use Rattle.std.proofs.Common.{◌≡◌, ◌<◌, ◌≤◌, ◌∙◌, Some, None, length, ap, sym, arith}
use Rattle.vs_journal.specs.Grammar.{state_behind, whole_journal}
use Rattle.vs_journal.specs.Tokens.{next_token}
use Rattle.vs_journal.proofs.ReadLemmas.{leaves_less, meant-ended, meant-more, meant-stopped}
use Rattle.vs_journal.proofs.read.parsed_journal.Goals as goal

pub overflow_sub-at : goal.overflow_sub-at
overflow_sub-at c =
    let cut : next_token c.loop-state.left.now ≡ Some (c.in-Some.cut.left, (c.in-Some.cut.token, c.in-Some.cut.rest.now)) = sym (rw c.in-Some.is at c.in_ok-cut.ensures) in
    let less : (length c.in-Some.cut.rest.now < length c.loop-state.left.now) × (c.in-Some.cut.left ≤ length c.loop-state.left.now) = leaves_less _ _ cut in
    let within : length c.loop-state.left.now ≤ length c.args.text.now = c.loop-state.invariant.within in
    omega arith

pub loop-state-smaller : goal.loop-state-smaller
loop-state-smaller c =
    let cut : next_token c.loop-state.left.now ≡ Some (c.in-Some.cut.left, (c.in-Some.cut.token, c.in-Some.cut.rest.now)) = sym (rw c.in-Some.is at c.in_ok-cut.ensures) in
    (leaves_less _ _ cut).0

pub loop-state-preserved : goal.loop-state-preserved
loop-state-preserved c =
    let cut : next_token c.loop-state.left.now ≡ Some (c.in-Some.cut.left, (c.in-Some.cut.token, c.in-Some.cut.rest.now)) = sym (rw c.in-Some.is at c.in_ok-cut.ensures) in
    let fits : state_behind c.loop-state.state c.in-Some.cut.token ≡ Some c.in-Some-2.next = sym c.in_ok-next.ensures ∙ c.in-Some-2.is in
    let was = c.loop-state.invariant.same in
    let now = meant-more _ _ was.0 (length c.args.text.now) _ _ cut fits was.1 in
    let less : (length c.in-Some.cut.rest.now < length c.loop-state.left.now) × (c.in-Some.cut.left ≤ length c.loop-state.left.now) = leaves_less _ _ cut in
    let within : length c.loop-state.left.now ≤ length c.args.text.now = c.loop-state.invariant.within in
    record { within = omega arith; same = (now.0, now.1, now.2 ∙ was.2) }

pub returns-in-None-clause-bad : goal.returns-in-None-clause-bad
returns-in-None-clause-bad c =
    let cut : next_token c.loop-state.left.now ≡ Some (c.in-Some.cut.left, (c.in-Some.cut.token, c.in-Some.cut.rest.now)) = sym (rw c.in-Some.is at c.in_ok-cut.ensures) in
    let stops : state_behind c.loop-state.state c.in-Some.cut.token ≡ None = sym c.in_ok-next.ensures ∙ c.in-None.is in
    let was = c.loop-state.invariant.same in
    sym was.2 ∙ meant-stopped _ was.0 (length c.args.text.now) _ _ cut stops was.1

pub returns-in-Some-journal_at-clause-ok : goal.returns-in-Some-journal_at-clause-ok
returns-in-Some-journal_at-clause-ok c =
    let none : next_token c.loop-state.left.now ≡ None = sym (rw c.in_default.is at c.in_ok-cut.ensures) in
    let was = c.loop-state.invariant.same in
    sym was.2 ∙ meant-ended _ was.0 (length c.args.text.now) _ none ∙ ap (whole_journal (length c.args.text.now)) (sym c.in-Some-journal_at.ensures)

pub returns-in-None-journal_at-clause-bad : goal.returns-in-None-journal_at-clause-bad
returns-in-None-journal_at-clause-bad c =
    let none : next_token c.loop-state.left.now ≡ None = sym (rw c.in_default.is at c.in_ok-cut.ensures) in
    let was = c.loop-state.invariant.same in
    sym was.2 ∙ meant-ended _ was.0 (length c.args.text.now) _ none ∙ ap (whole_journal (length c.args.text.now)) (sym c.in-None-journal_at.ensures)
