-- What frames that are held add, one after the other.
use Rattle.std.proofs.Common.{◌≡◌, ℕ, ◌+◌, ◌∙◌, List, [], ◌++◌, Some, None, Ok, Err, refl, ap, sym, subst, inl, inr, append_assoc, append-nil}
use Rattle.std.specs.Prelude.{true, false}
use Rattle.std.specs.Int.{w32, to_be_bytes}
use Rattle.vs_base.specs.Frames.{framed}
use Rattle.vs_frame.specs.Frames.{BeginsWithFrame, GivesFrame, Held, IsPart, IsTooLong}
use Rattle.vs_frame.specs.declared.refusal.FrameRefusal.TheVariants.{FrameTooLong}
use Rattle.vs_frame.specs.declared.refusal.FrameWhy.{FrameWhy}
use Rattle.vs_frame.specs.declared.refusal.FrameWhy.TheVariants.{Message, TooLong}
use Rattle.vs_show.specs.Pieces.{EndsBadly, GoesOn, PutsFrames, PutsMessage, PutsNext}
use Rattle.vs_show.specs.Lines.{frame_lines}
use Rattle.vs_show.specs.Recordings.{Recorded, with_lines}
use Rattle.vs_show.specs.declared.frames.Stop.{Stop}
use Rattle.vs_show.specs.declared.frames.Stop.TheVariants.{Bad, Memory}
use Rattle.vs_show.proofs.RecordingLemmas.{recorded-too_long, recorded-unreadable, recorded-whole}

-- ---- more bytes behind

begins-more : (held m left rest : List ℕ) → BeginsWithFrame held m left → BeginsWithFrame (held ++ rest) m (left ++ rest)
begins-more held m left rest is = (ap (λ b. b ++ rest) is.0 ∙ append_assoc (framed m) left rest, is.1)

too_long-more : (held rest : List ℕ) (n : ℕ) → IsTooLong held n → IsTooLong (held ++ rest) n
too_long-more held rest n is = (is.0, is.1, (is.2.0 ++ rest, ap (λ b. b ++ rest) is.2.1 ∙ append_assoc (to_be_bytes w32 n) is.2.0 rest))

-- ---- one frame

pub next-whole : (n : ℕ) (held m left old new lent : List ℕ) → lent ≡ m → BeginsWithFrame held m left → PutsMessage n lent old (Ok tt) new → PutsNext n held old (Ok true) left new
next-whole n held m left old new lent same begins (f, is, put) =
    let begun : BeginsWithFrame held lent left = subst (λ t. BeginsWithFrame held t left) (sym same) begins in
    (frame_lines n f, put, λ rest. recorded-whole n (held ++ rest) lent (left ++ rest) f (begins-more held lent left rest begun) is)

pub next-stop : (n : ℕ) (held m left old new lent : List ℕ) (e : Stop) → lent ≡ m → BeginsWithFrame held m left → PutsMessage n lent old (Err e) new → PutsNext n held old (Err e) left new
next-stop n held m left old new lent Memory same begins put = tt
next-stop n held m left old new lent (Bad k why) same begins put =
    let begun : BeginsWithFrame held lent left = subst (λ t. BeginsWithFrame held t left) (sym same) begins in (
      put.2,
      λ rest.
          recorded-unreadable n (held ++ rest) lent (left ++ rest) put.0 (begins-more held lent left rest begun) put.1
          ∙ ap (λ j. record { lines = []; bad = Some (j, Message) }) (sym put.3)
          ∙ ap (λ w. record { lines = []; bad = Some (k, w) }) (sym put.4),
    )

pub next-too_long : (n : ℕ) (old new : Held) (text : List ℕ) (k : ℕ) → old.refused ≡ None → GivesFrame old (Err (FrameTooLong k)) new →
    PutsNext n old.bytes text (Err (Bad n TooLong)) new.bytes text
next-too_long n old new text k fresh (stands, inl same) =
    absurd (let none : new.refused ≡ None = ap (λ h. h.refused) same ∙ fresh in cc)
next-too_long n old new text k fresh (stands, inr (was, is)) =
    (refl, λ rest. recorded-too_long n (old.bytes ++ rest) k (too_long-more old.bytes rest k is.0))

-- ---- frames in a row

pub with_lines-append : (a b : List ℕ) (r : Recorded) → with_lines a (with_lines b r) ≡ with_lines (a ++ b) r
with_lines-append a b r = ap (λ l. record r { lines = l }) (sym (append_assoc a b r.lines))

pub GoesOn-then : (n m k : ℕ) (held mid left a b : List ℕ) → GoesOn n held a m mid → GoesOn m mid b k left → GoesOn n held (a ++ b) k left
GoesOn-then n m k held mid left a b first second = λ rest. first rest ∙ ap (λ r. with_lines a r) (second rest) ∙ with_lines-append a b _

pub GoesOn-bad : (n m k : ℕ) (held mid a b : List ℕ) (why : FrameWhy) → GoesOn n held a m mid → EndsBadly m mid b k why → EndsBadly n held (a ++ b) k why
GoesOn-bad n m k held mid a b why first second = λ rest. first rest ∙ ap (λ r. with_lines a r) (second rest) ∙ with_lines-append a b _

-- the lines of the first frames were appended
pub record HasPut (n : ℕ) (held old : List ℕ) (m : ℕ) (left new : List ℕ) : Type 0 where
  pub lines : List ℕ
  pub put : new ≡ old ++ lines
  pub on : GoesOn n held lines m left

pub HasPut-none : (n : ℕ) (held old : List ℕ) → HasPut n held old n held old
HasPut-none n held old = record { lines = []; put = sym (append-nil old); on = λ rest. refl }

pub HasPut-next : (n m : ℕ) (held mid left old between new : List ℕ) → HasPut n held old m mid between → PutsNext m mid between (Ok true) left new → HasPut n held old (m + 1) left new
HasPut-next n m held mid left old between new has (lines, put, on) = record {
  lines = has.lines ++ lines;
  put = put ∙ ap (λ t. t ++ lines) has.put ∙ append_assoc old has.lines lines;
  on = GoesOn-then n m (m + 1) held mid left has.lines lines has.on on;
}

pub HasPut-end : (n m : ℕ) (held mid left old between new : List ℕ) → HasPut n held old m mid between → PutsNext m mid between (Ok false) left new → PutsFrames n held old (Ok m) left new
HasPut-end n m held mid left old between new has (same, kept, part) = (
  has.lines,
  same ∙ has.put,
  subst (λ h. GoesOn n held has.lines m h) (sym kept) has.on,
  subst IsPart (sym kept) part,
)

pub HasPut-stop : (n m : ℕ) (held mid left old between new : List ℕ) (e : Stop) → HasPut n held old m mid between → PutsNext m mid between (Err e) left new → PutsFrames n held old (Err e) left new
HasPut-stop n m held mid left old between new Memory has put = tt
HasPut-stop n m held mid left old between new (Bad k why) has (same, bad) = (
  has.lines ++ [],
  same ∙ has.put ∙ ap (λ l. old ++ l) (sym (append-nil has.lines)),
  GoesOn-bad n m k held mid has.lines [] why has.on bad,
)
