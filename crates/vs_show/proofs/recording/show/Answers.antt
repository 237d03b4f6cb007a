use Rattle.std.proofs.Common.{◌≡◌, ℕ, List, ◌+◌, ◌<◌, ◌∙◌, length, ap, sym, subst, arith, take, length-append, length-take}
use Rattle.std.specs.Prelude.{IfSome}
use Rattle.vs_outside.proofs.ToldLemmas.{Takes-then}
use Rattle.vs_show.specs.Answers.{rest_answer}
use Rattle.vs_show.proofs.ShowLemmas.{EndsAs, answer-of, end-shown, shown-piece, stopped-piece, wrote-of}
use Rattle.vs_show.proofs.recording.show.Given.{Over}
use Rattle.vs_show.proofs.recording.show.Goals as goal

at_end : (g : Over) (c : goal.After-drop-framer-inside g) → IfSome (g.I.Source.left c.args.input.now) (EndsAs (g.O.Sink.sent c.args.output.now) (g.O.Sink.sent c.loop-taken.output) c.answer_at_end.result)
at_end g c =
    let known = c.loop-taken.invariant in
    let is : c.answer_at_end.result ≡ rest_answer (length c.loop-taken.framer.bytes) c.loop-taken.number =
    subst (λ k. c.answer_at_end.result ≡ rest_answer k c.loop-taken.number) c.held.ensures c.answer_at_end.ensures
    in
    let room : 0 < length c.read.new.buf = omega arith in
    subst (λ x. IfSome (g.I.Source.left c.args.input.now) (EndsAs (g.O.Sink.sent c.args.output.now) (g.O.Sink.sent c.loop-taken.output) x)) (sym is)
    (end-shown _ _ _ _ c.loop-taken.number c.loop-taken.framer.bytes known.shown (c.in-Ok-eq0.ensures.end c.in-Ok-eq0.field-0-test room) known.part)

pub returns-in-Ok-eq0-clause-wrote : goal.returns-in-Ok-eq0-clause-wrote
returns-in-Ok-eq0-clause-wrote g c = wrote-of _ _ _ c.answer_at_end.result (at_end g c)

pub returns-in-Ok-eq0-clause-answer : goal.returns-in-Ok-eq0-clause-answer
returns-in-Ok-eq0-clause-answer g c = answer-of _ _ _ c.answer_at_end.result (at_end g c)

stopped : (g : Over) (c : goal.After-drop-framer-inside-in-Err-show_piece g) → IfSome (g.I.Source.left c.args.input.now) (EndsAs (g.O.Sink.sent c.args.output.now) (g.O.Sink.sent c.show_piece.new.output) c.in-Err-show_piece.end)
stopped g c =
    stopped-piece _ _ (g.I.Source.left c.read.new.self) _ _ _ c.loop-taken.number c.loop-taken.framer.bytes c.show_piece.new.framer.bytes (take c.in-Ok-read.n c.read.new.buf) c.in-Err-show_piece.end
    c.loop-taken.invariant.shown c.in-Ok-read.ensures.takes c.in-Err-show_piece.ensures.shows

pub returns-in-Err-show_piece-clause-wrote : goal.returns-in-Err-show_piece-clause-wrote
returns-in-Err-show_piece-clause-wrote g c = wrote-of _ _ _ c.in-Err-show_piece.end (stopped g c)

pub returns-in-Err-show_piece-clause-answer : goal.returns-in-Err-show_piece-clause-answer
returns-in-Err-show_piece-clause-answer g c = answer-of _ _ _ c.in-Err-show_piece.end (stopped g c)

pub loop-taken-preserved : goal.loop-taken-preserved
loop-taken-preserved g c =
    let known = c.loop-taken.invariant in
    let n : ℕ = c.in-Ok-read.n in
    let piece : List ℕ = take n c.read.new.buf in
    let fits = c.in-Ok-read.ensures.fits in
    let size : length piece ≡ n = length-take n c.read.new.buf ∙ omega (arith, fits) in
    record {
      shown = shown-piece _ _ (g.I.Source.left c.read.new.self) _ _ _ c.loop-taken.number c.in-Ok-show_piece.next c.loop-taken.framer.bytes c.show_piece.new.framer.bytes piece
          known.shown c.in-Ok-read.ensures.takes c.in-Ok-show_piece.ensures.shows;
      count = Takes-then (λ t. length t ≡ c.loop-taken.taken) (λ t. t ≡ piece) (λ t. length t ≡ c.loop-taken.taken + n) _ _ _
          (λ v w p q. length-append v w ∙ ap (λ k. k + length w) p ∙ ap (λ k. c.loop-taken.taken + k) (ap length q ∙ size)) known.count c.in-Ok-read.ensures.takes;
      part = c.in-Ok-show_piece.ensures.shows.adds.1;
      fresh = c.in-Ok-show_piece.ensures.fresh;
      room = omega (arith, c.in-Ok-show_piece.ensures.room, known.room, size);
      bound = omega (arith, fits);
      input_later = omega (arith, known.input_later, c.in-Ok-read.ensures.later);
      output_later = omega (arith, known.output_later, c.in-Ok-show_piece.ensures.later);
    }
