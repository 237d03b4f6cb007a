-- What the events of a log are to it, by their heads; and when an event is whole.
use Rattle.vs_log.specs.declared.event.Sort.{Sort}
use Rattle.vs_log.specs.declared.event.Sort.TheVariants.{AnonymousEvent, PassedOver, FormatEvent, PreviousEvent, GtidEvent, QueryEvent, XidEvent, MapEvent, RowsEvent, ForeignEvent}
use Rattle.std.specs.Prelude.{◌≡◌, ◌≤◌, ◌<◌, ◌⊎◌, ℕ, ◌+◌, ◌/◌, ◌%◌, ◌==◌, Bool, ◌&&◌, ◌||◌, not, nat_le, if◌then◌else◌, List, [], ◌∷◌, ◌++◌, length}
use Rattle.vs_base.specs.Limits.{most_entry}
use Rattle.vs_binlog.specs.Heads.{Event, kind_of, flags_of, length_of}

-- the kinds that have a line of their own
abbrev pub is_known : ℕ → Bool
is_known kind = kind == 2 || (kind == 15 || (kind == 16 || (kind == 19 || (kind == 30 || (kind == 31 || (kind == 32 || (kind == 33 || kind == 35)))))))

-- bit 0x80
abbrev pub is_ignorable : ℕ → Bool
is_ignorable flags = (flags / 128) % 2 == 1

-- what an event is to a log, by its kind and its flags
abbrev pub sort : ℕ → ℕ → Sort
sort kind flags =
    if kind == 34 then AnonymousEvent
    else if kind == 3 || (kind == 4 || (is_ignorable flags && not (is_known kind))) then PassedOver
    else if kind == 15 then FormatEvent
    else if kind == 35 then PreviousEvent
    else if kind == 33 then GtidEvent
    else if kind == 2 then QueryEvent
    else if kind == 16 then XidEvent
    else if kind == 19 then MapEvent
    else if kind == 30 || (kind == 31 || kind == 32) then RowsEvent
    else ForeignEvent

unfoldable pub sort_of : Event → Sort
sort_of e = sort (kind_of e) (flags_of e)

-- An event, whole: it has a head, and as many bytes as its head says.
pub record IsEvent (e : Event) : Type 0 where
  pub head : 19 ≤ length e
  pub whole : length_of e ≡ length e

abbrev pub magic : List ℕ
magic = 254 ∷ (98 ∷ (105 ∷ (110 ∷ [])))

-- the bytes of events, one after the other
abbrev pub joined : List (List ℕ) → List ℕ
joined [] = []
joined (e ∷ es) = e ++ joined es

-- the greatest number of bytes of an event, and of the events of an entry together
abbrev pub limit : ℕ
limit = most_entry

-- the place of a log by which each of its events ends
abbrev pub last_place : ℕ
last_place = 4611686018427387904

-- whether the bytes begin with a whole event that ends, where they stand in the log, by the last place
unfoldable pub is_held : ℕ → List ℕ → Bool
is_held at bytes = nat_le 19 (length bytes) && (nat_le 19 (length_of bytes) && (nat_le (length_of bytes) (length bytes) && nat_le (at + length_of bytes) last_place))

-- less than an event: not all of a head, or a head, and fewer bytes than it names, within the limit
abbrev pub IsPart : List ℕ → Type 0
IsPart rest = (length rest < 19) ⊎ ((length rest < length_of rest) × (length_of rest ≤ limit))
