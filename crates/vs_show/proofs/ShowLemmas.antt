-- What was shown of an input so far, and how it ends.
use Rattle.std.proofs.Common.{◌≡◌, ◌⊎◌, ℕ, ◌∙◌, List, [], ◌∷◌, ◌++◌, Option, Some, None, Ok, Err, refl, ap, sym, subst, inl, inr, append_assoc, append-nil, length, arith}
use Rattle.std.specs.Prelude.{Bool, true, false, IfSome, ◌==◌, if◌then◌else◌}
use Rattle.std.specs.Option.{ForSome}
use Rattle.std.proofs.lemmas.Bool.{ne_eqb}
use Rattle.vs_frame.specs.Frames.{IsPart}
use Rattle.vs_frame.specs.declared.refusal.FrameWhy.TheVariants.{Cut}
use Rattle.vs_outside.specs.Told.{IsPrefixOf, Takes, Writes}
use Rattle.vs_outside.proofs.ToldLemmas.{IsPrefixOf-behind, IsPrefixOf-nil, Writes-none, Writes-then, Writes-weaken}
use Rattle.vs_show.specs.Answers.{HasFailed, WritesLines, answer_of, rest_answer}
use Rattle.vs_show.specs.Pieces.{PutsFrames, ShowsPiece}
use Rattle.vs_show.specs.Recordings.{Recorded, bad_at, bad_frame, lines, recorded_from, with_lines}
use Rattle.vs_show.specs.declared.recording.ShowEnd.{ShowEnd}
use Rattle.vs_show.specs.declared.recording.ShowEnd.TheVariants.{Whole, BadFrame, LinkFault, InputFault, Memory}
use Rattle.vs_show.proofs.PieceLemmas.{with_lines-append}
use Rattle.vs_show.proofs.RecordingLemmas.{recorded-nothing, recorded-part}

-- ---- one piece

-- the output failed at the lines of a piece
pub piece-cut : (n m : ℕ) (held fed left old new sent : List ℕ) (before now : Option (List ℕ)) → fed ≡ held → old ≡ [] → sent ≡ new →
    PutsFrames n fed old (Ok m) left new → Writes before now (λ w. IsPrefixOf w sent) → ShowsPiece n held (Err LinkFault) left before now
piece-cut n m held fed left old new sent before now same empty is (added, put, on, part) wrote = record {
  lines = new;
  adds = λ rest. (
    (recorded_from m (left ++ rest)).lines,
    ap (λ l. l ++ (recorded_from m (left ++ rest)).lines) (put ∙ ap (λ o. o ++ added) empty)
        ∙ sym (ap (λ (r : Recorded). r.lines) (on rest))
        ∙ ap (λ h. (recorded_from n (h ++ rest)).lines) same,
  );
  wrote = Writes-weaken (λ w. IsPrefixOf w sent) (λ w. IsPrefixOf w new) before now (λ w p. subst (IsPrefixOf w) is p) wrote;
}

-- ---- all pieces so far

-- of a source that told its bytes at first, and tells the rest now
abbrev pub OnTold : Option (List ℕ) → Option (List ℕ) → (List ℕ → List ℕ → Type 0) → Type 0
OnTold None now P = Unit {0}
OnTold (Some bytes) None P = ⊥
OnTold (Some bytes) (Some rest) P = P bytes rest

-- these lines were written, and the bytes held and the rest record what the bytes record behind them
pub record HasShown (n : ℕ) (held : List ℕ) (s0 s : Option (List ℕ)) (bytes rest : List ℕ) : Type 0 where
  pub shown : List ℕ
  pub is : recorded_from 1 bytes ≡ with_lines shown (recorded_from n (held ++ rest))
  pub wrote : Writes s0 s (λ w. w ≡ shown)

pub shown-none : (told s : Option (List ℕ)) (held : List ℕ) → held ≡ [] → OnTold told told (HasShown 1 held s s)
shown-none None s held empty = tt
shown-none (Some bytes) s held empty = record {
  shown = [];
  is = ap (λ h. recorded_from 1 (h ++ bytes)) (sym empty);
  wrote = Writes-none (λ w. w ≡ []) s refl;
}

-- the bytes of a piece are held, and the rest is behind them
fed : (n : ℕ) (held rest piece more shown bytes : List ℕ) → rest ≡ piece ++ more →
    recorded_from 1 bytes ≡ with_lines shown (recorded_from n (held ++ rest)) → recorded_from 1 bytes ≡ with_lines shown (recorded_from n ((held ++ piece) ++ more))
fed n held rest piece more shown bytes is known =
    known ∙ ap (λ l. with_lines shown (recorded_from n l)) (ap (λ r. held ++ r) is ∙ sym (append_assoc held piece more))

pub shown-piece : (t0 t1 t2 s0 s1 s2 : Option (List ℕ)) (n m : ℕ) (held left piece : List ℕ) → OnTold t0 t1 (HasShown n held s0 s1) → Takes t1 t2 (λ t. t ≡ piece) →
    ShowsPiece n (held ++ piece) (Ok m) left s1 s2 → OnTold t0 t2 (HasShown m left s0 s2)
shown-piece None t1 t2 s0 s1 s2 n m held left piece has takes shows = tt
shown-piece (Some bytes) None t2 s0 s1 s2 n m held left piece has takes shows = absurd has
shown-piece (Some bytes) (Some rest) t2 s0 s1 s2 n m held left piece has (taken, more, is, told, same) shows =
    let here : HasShown m left s0 s2 bytes more = record {
      shown = has.shown ++ shows.lines;
      is =
          fed n held rest piece more has.shown bytes (is ∙ ap (λ t. t ++ more) same) has.is
          ∙ ap (λ r. with_lines has.shown r) (shows.adds.0 more)
          ∙ with_lines-append has.shown shows.lines (recorded_from m (left ++ more));
      wrote = Writes-then (λ w. w ≡ has.shown) (λ w. w ≡ shows.lines) (λ w. w ≡ has.shown ++ shows.lines) s0 s1 s2
          (λ v w p q. ap (λ l. l ++ w) p ∙ ap (λ l. has.shown ++ l) q) has.wrote shows.wrote;
    } in
    subst (λ o. OnTold (Some bytes) o (HasShown m left s0 s2)) (sym told) here

-- ---- the end

-- what was written and the answer are those of the bytes
pub record EndsAs (s0 s : Option (List ℕ)) (end : ShowEnd) (bytes : List ℕ) : Type 0 where
  pub wrote : Writes s0 s (WritesLines (lines bytes) end)
  pub answer : (end ≡ answer_of (bad_frame bytes)) ⊎ HasFailed end

prefix-then : (a b c : List ℕ) → IsPrefixOf a b → IsPrefixOf b c → IsPrefixOf a c
prefix-then a b c (more, is) (rest, was) = (more ++ rest, sym (append_assoc a more rest) ∙ ap (λ l. l ++ rest) is ∙ was)

-- what was shown, and a beginning of what comes, is a beginning of all
shown-more : (n : ℕ) (held shown bytes w : List ℕ) → recorded_from 1 bytes ≡ with_lines shown (recorded_from n held) → IsPrefixOf w (recorded_from n held).lines →
    IsPrefixOf (shown ++ w) (lines bytes)
shown-more n held shown bytes w is prefix =
    subst (IsPrefixOf (shown ++ w)) (sym (ap (λ (r : Recorded). r.lines) is)) (IsPrefixOf-behind shown w (recorded_from n held).lines prefix)

-- the lines of a piece were cut off
cut-off : (s0 s1 s2 : Option (List ℕ)) (n : ℕ) (held shown added bytes : List ℕ) (end : ShowEnd) → recorded_from 1 bytes ≡ with_lines shown (recorded_from n held) →
    IsPrefixOf added (recorded_from n held).lines → Writes s0 s1 (λ w. w ≡ shown) → Writes s1 s2 (λ w. IsPrefixOf w added) → Writes s0 s2 (λ w. IsPrefixOf w (lines bytes))
cut-off s0 s1 s2 n held shown added bytes end is begins first second =
    Writes-then (λ w. w ≡ shown) (λ w. IsPrefixOf w added) (λ w. IsPrefixOf w (lines bytes)) s0 s1 s2
    (λ v w p q.
    subst (λ l. IsPrefixOf (l ++ w) (lines bytes)) (sym p) (shown-more n held shown bytes w is (prefix-then w added (recorded_from n held).lines q begins))) first second

piece-ends : (end : ShowEnd) (s0 s1 s2 : Option (List ℕ)) (n : ℕ) (held left more bytes : List ℕ) (shown : List ℕ) →
    recorded_from 1 bytes ≡ with_lines shown (recorded_from n (held ++ more)) → Writes s0 s1 (λ w. w ≡ shown) → ShowsPiece n held (Err end) left s1 s2 → EndsAs s0 s2 end bytes
piece-ends Whole s0 s1 s2 n held left more bytes shown is first shows = absurd shows.adds
piece-ends InputFault s0 s1 s2 n held left more bytes shown is first shows = absurd shows.adds
piece-ends LinkFault s0 s1 s2 n held left more bytes shown is first shows = record {
  wrote = cut-off s0 s1 s2 n (held ++ more) shown shows.lines bytes LinkFault is (shows.adds more) first shows.wrote;
  answer = inr tt;
}
piece-ends Memory s0 s1 s2 n held left more bytes shown is first shows = record {
  wrote = cut-off s0 s1 s2 n (held ++ more) shown shows.lines bytes Memory is (subst (λ l. IsPrefixOf l (recorded_from n (held ++ more)).lines) (sym shows.adds) (IsPrefixOf-nil _)) first shows.wrote;
  answer = inr tt;
}
piece-ends (BadFrame m why) s0 s1 s2 n held left more bytes shown is first shows =
    let all : recorded_from 1 bytes ≡ with_lines (shown ++ shows.lines) (bad_at m why) =
    is ∙ ap (λ r. with_lines shown r) (shows.adds more) ∙ with_lines-append shown shows.lines (bad_at m why)
    in
    let whole : lines bytes ≡ shown ++ shows.lines = ap (λ (r : Recorded). r.lines) all ∙ append-nil (shown ++ shows.lines) in record {
      wrote = Writes-then (λ w. w ≡ shown) (λ w. w ≡ shows.lines) (λ w. w ≡ lines bytes) s0 s1 s2
          (λ v w p q. ap (λ l. l ++ w) p ∙ ap (λ l. shown ++ l) q ∙ sym whole) first shows.wrote;
      answer = inl (sym (ap (λ (r : Recorded). answer_of r.bad) all));
    }

pub stopped-piece : (t0 t1 t2 s0 s1 s2 : Option (List ℕ)) (n : ℕ) (held left piece : List ℕ) (end : ShowEnd) → OnTold t0 t1 (HasShown n held s0 s1) → Takes t1 t2 (λ t. t ≡ piece) →
    ShowsPiece n (held ++ piece) (Err end) left s1 s2 → IfSome t0 (EndsAs s0 s2 end)
stopped-piece None t1 t2 s0 s1 s2 n held left piece end has takes shows = tt
stopped-piece (Some bytes) None t2 s0 s1 s2 n held left piece end has takes shows = absurd has
stopped-piece (Some bytes) (Some rest) t2 s0 s1 s2 n held left piece end has (taken, more, is, told, same) shows =
    piece-ends end s0 s1 s2 n (held ++ piece) left more bytes has.shown (fed n held rest piece more has.shown bytes (is ∙ ap (λ t. t ++ more) same) has.is) has.wrote shows

-- the input failed, or was given up
pub input-ends : (t0 t1 s0 s1 : Option (List ℕ)) (n : ℕ) (held : List ℕ) → OnTold t0 t1 (HasShown n held s0 s1) → IfSome t0 (EndsAs s0 s1 InputFault)
input-ends None t1 s0 s1 n held has = tt
input-ends (Some bytes) None s0 s1 n held has = absurd has
input-ends (Some bytes) (Some rest) s0 s1 n held has = record {
  wrote = Writes-weaken (λ w. w ≡ has.shown) (λ w. IsPrefixOf w (lines bytes)) s0 s1
      (λ w p.
      let whole : IsPrefixOf (has.shown ++ []) (lines bytes) = shown-more n (held ++ rest) has.shown bytes [] has.is (IsPrefixOf-nil _) in
      subst (λ l. IsPrefixOf l (lines bytes)) (append-nil has.shown ∙ sym p) whole) has.wrote;
  answer = inr tt;
}

-- no memory was there at all
pub none-shown : (t0 s0 : Option (List ℕ)) → IfSome t0 (EndsAs s0 s0 Memory)
none-shown None s0 = tt
none-shown (Some bytes) s0 = record { wrote = Writes-none (λ w. IsPrefixOf w (lines bytes)) s0 (IsPrefixOf-nil _); answer = inr tt }

-- what is held is all that is left
held-ends : (n : ℕ) (held : List ℕ) → IsPart held → ((recorded_from n held).lines ≡ []) × (answer_of (recorded_from n held).bad ≡ rest_answer (length held) n)
held-ends n [] part = (ap (λ (r : Recorded). r.lines) (recorded-nothing n), ap (λ (r : Recorded). answer_of r.bad) (recorded-nothing n))
held-ends n (b ∷ bs) part =
    let is : recorded_from n (b ∷ bs) ≡ bad_at n Cut = recorded-part n (b ∷ bs) part (omega arith) in (
      ap (λ (r : Recorded). r.lines) is,
      ap (λ (r : Recorded). answer_of r.bad) is ∙ ap (λ t. if t then Whole else BadFrame n Cut) (sym (ne_eqb (length (b ∷ bs)) 0 (omega arith))),
    )

all-written : (b : Bool) (n : ℕ) (whole w : List ℕ) → w ≡ whole → WritesLines whole (if b then Whole else BadFrame n Cut) w
all-written true n whole w p = p
all-written false n whole w p = p

exact : (s0 s1 : Option (List ℕ)) (shown whole : List ℕ) (held n : ℕ) → whole ≡ shown → Writes s0 s1 (λ w. w ≡ shown) → Writes s0 s1 (WritesLines whole (rest_answer held n))
exact s0 s1 shown whole held n is wrote =
    Writes-weaken (λ w. w ≡ shown) (WritesLines whole (rest_answer held n)) s0 s1 (λ w p. all-written (held == 0) n whole w (p ∙ sym is)) wrote

pub end-shown : (t0 t1 s0 s1 : Option (List ℕ)) (n : ℕ) (held : List ℕ) → OnTold t0 t1 (HasShown n held s0 s1) → ForSome t1 (λ rest. rest ≡ []) → IsPart held →
    IfSome t0 (EndsAs s0 s1 (rest_answer (length held) n))
end-shown None t1 s0 s1 n held has none part = tt
end-shown (Some bytes) None s0 s1 n held has none part = absurd has
end-shown (Some bytes) (Some rest) s0 s1 n held has none part =
    let empty : rest ≡ [] = none rest refl in
    let ends = held-ends n held part in
    let is : recorded_from 1 bytes ≡ with_lines has.shown (recorded_from n held) = has.is ∙ ap (λ l. with_lines has.shown (recorded_from n l)) (ap (λ r. held ++ r) empty ∙ append-nil held) in record {
      wrote = exact s0 s1 has.shown (lines bytes) (length held) n
          (ap (λ (r : Recorded). r.lines) is ∙ ap (λ l. has.shown ++ l) ends.0 ∙ append-nil has.shown) has.wrote;
      answer = inl (sym (ap (λ (r : Recorded). answer_of r.bad) is ∙ ends.1));
    }

pub wrote-of : (t0 s0 s1 : Option (List ℕ)) (end : ShowEnd) → IfSome t0 (EndsAs s0 s1 end) → IfSome t0 (λ bytes. Writes s0 s1 (WritesLines (lines bytes) end))
wrote-of None s0 s1 end ends = tt
wrote-of (Some bytes) s0 s1 end ends = ends.wrote

pub answer-of : (t0 s0 s1 : Option (List ℕ)) (end : ShowEnd) → IfSome t0 (EndsAs s0 s1 end) → IfSome t0 (λ bytes. (end ≡ answer_of (bad_frame bytes)) ⊎ HasFailed end)
answer-of None s0 s1 end ends = tt
answer-of (Some bytes) s0 s1 end ends = ends.answer
