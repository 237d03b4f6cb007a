-- What one more GTID does to a printed set where an interval grows by its next number.
use Rattle.std.specs.Prelude.{◌≡◌, ◌<◌, ◌-◌, ◌+◌, ℕ, [], ◌∷◌, ◌++◌, decimal, drop, length, take}
use Rattle.vs_gtid.specs.declared.interval.Interval.{Interval}
use Rattle.vs_base.specs.declared.gtid.Gtid.{Gtid}
use Rattle.vs_gtid.specs.Joins.{added}
use Rattle.vs_gtid.specs.Positions.{Position}
use Rattle.vs_gtid.specs.Text.{set_text}

-- the interval with its next number too
abbrev pub raised : Interval → Interval
raised i = record i { last = i.last + 1 }

-- the place behind the numbers of the interval at this place, in the printed set
abbrev pub end_of : Position → ℕ → ℕ
end_of p at = length (set_text (take (at + 1) p))

-- The GTID is the next number of the interval at this place, which has two numbers at least, and the set with it differs in that alone.
pub record GrowsAt (p : Position) (at : ℕ) (g : Gtid) : Type 0 where
  pub before : Position
  pub interval : Interval
  pub rest : Position
  pub split : p ≡ before ++ interval ∷ rest
  pub place : at ≡ length before
  pub server : interval.uuid ≡ g.uuid
  pub two : interval.first < interval.last
  pub next : g.number ≡ interval.last + 1
  pub grown : added p g ≡ before ++ raised interval ∷ rest

-- In the text of a set one interval, of two numbers at least, grows by one number: what stands before its last number, and behind it, stays.
abbrev pub RaisingKeeps : Type 0
RaisingKeeps = (before rest : Position) (i : Interval) (end : ℕ) → i.first < i.last → end ≡ length (set_text (before ++ i ∷ [])) →
    set_text (before ++ raised i ∷ rest) ≡ take (end - length (decimal i.last)) (set_text (before ++ i ∷ rest)) ++ (decimal (i.last + 1) ++ drop end (set_text (before ++ i ∷ rest)))
