-- The printed text of a GTID set, and of a position.
use Rattle.vs_gtid.specs.declared.interval.Interval.{Interval}
use Rattle.vs_gtid.specs.Positions.{Position}
use Rattle.std.specs.Prelude.{ℕ, ◌==◌, List, [], ◌∷◌, ◌++◌, nat_eq, codes, decimal, if◌then◌else◌}
use Rattle.std.specs.Cmp.Lexicographic.{pointwise}
use Rattle.uuid.specs.Text.{hyphenated_text, lower}

-- the numbers of an interval: `a-b`, or `a` where there is one
abbrev pub span_text : Interval → List ℕ
span_text i = if i.first == i.last then decimal i.first else decimal i.first ++ codes "-" ++ decimal i.last

-- an interval that is the first of its UUID: `uuid:a-b`
unfoldable pub opening_text : Interval → List ℕ
opening_text i = hyphenated_text lower i.uuid ++ codes ":" ++ span_text i

-- an interval behind another: `:a-b`, and `,uuid:a-b` where another UUID begins
unfoldable pub next_text : Interval → Interval → List ℕ
next_text before i = if pointwise nat_eq before.uuid i.uuid then codes ":" ++ span_text i else codes "," ++ opening_text i

-- what follows an interval
unfoldable pub following_text : Interval → Position → List ℕ
following_text before [] = []
following_text before (i ∷ rest) = next_text before i ++ following_text i rest

-- the printed set, without a prefix: `uuid:a-b:c,uuid:d`
unfoldable pub set_text : Position → List ℕ
set_text [] = []
set_text (i ∷ rest) = opening_text i ++ following_text i rest

-- the printed position
abbrev pub position_text : Position → List ℕ
position_text p = codes "MySQL56/" ++ set_text p
