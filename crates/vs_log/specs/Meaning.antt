-- What the bytes of a log mean, by the table: the events are taken one after the other, until one is refused or isn't whole.
use Rattle.std.specs.Prelude.{ℕ, zero, suc, ◌+◌, Bool, true, false, is_some, nat_lt, if◌then◌else◌, List, [], length, take, drop, Option, Some, None, Ok, Err}
use Rattle.std.specs.Cmp.Lexicographic.{pointwise}
use Rattle.std.specs.Prelude.{nat_eq}
use Rattle.vs_binlog.specs.Heads.{length_of}
use Rattle.vs_log.specs.Events.{is_held, limit, last_place, magic}
use Rattle.vs_base.specs.declared.Why.{Why}
use Rattle.vs_base.specs.declared.Why.TheVariants.{BadMagic, BadLength, TooLarge}
use Rattle.vs_gtid.specs.Logs.{Log}
use Rattle.vs_log.specs.States.{Place}
use Rattle.vs_log.specs.States.Place.{Front, Between, Named, Inside}
use Rattle.vs_log.specs.States.{State}
use Rattle.vs_log.specs.Table.{Rules, bytes_with, step}

abbrev pub front : {M : Type 0} → State M
front = record { base = []; entries = []; known = []; place = Front }

-- What is wrong with an event of which not all bytes are there, by its head alone: nothing, where there is no whole head.
unfoldable pub head_refusal : {M : Type 0} → ℕ → Place M → List ℕ → Option Why
head_refusal at place rest =
    if nat_lt (length rest) 19 then None
    else if nat_lt (length_of rest) 19 then Some (BadLength (length_of rest))
    else if nat_lt limit (bytes_with place rest) then Some (TooLarge (bytes_with place rest))
    else if nat_lt last_place (at + length_of rest) then Some (TooLarge (length_of rest))
    else None

abbrev pub at_place : {A : Type 0} → ℕ → Option A → Option (ℕ × A)
at_place at None = None
at_place at (Some why) = Some (at, why)

-- the log that ends so
abbrev pub log_of : {M : Type 0} → State M → ℕ → Option Why → Log
log_of s at why = record { base = s.base; entries = s.entries; fault = at_place at why }

-- the log of bytes of which no event was read: this is wrong at their front
abbrev pub log_unread : Option Why → Log
log_unread why = record { base = []; entries = []; fault = at_place 0 why }

-- what the reading from a place on comes to, with so many events at most: the state, the place and the fault at its end are told to `tell`
unfoldable pub follow_with : {M : Type 0} {A : Type 0} → (State M → ℕ → Option Why → A) → ℕ → Rules M → ℕ → State M → List ℕ → A
follow_with tell zero rules at s rest = tell s at None
follow_with tell (suc n) rules at s rest =
    if is_held at rest
    then (elim (step rules s (take (length_of rest) rest)) [
      | Ok next ↦ follow_with tell n rules (at + length_of rest) next (drop (length_of rest) rest)
      | Err why ↦ tell s at (Some why)
    ])
    else tell s at (head_refusal at s.place rest)

-- the log from a place on
abbrev pub follow : {M : Type 0} → ℕ → Rules M → ℕ → State M → List ℕ → Log
follow = follow_with log_of

-- each byte of the magic that is there is right
abbrev pub has_magic : List ℕ → Bool
has_magic bytes = pointwise nat_eq (take 4 bytes) (take (length bytes) magic)

-- each event has a byte at least, so there are no more of them than bytes
unfoldable pub log_meant : {M : Type 0} → Rules M → List ℕ → Log
log_meant rules bytes = if has_magic bytes then follow (suc (length bytes)) rules 4 front (drop 4 bytes) else log_unread (Some BadMagic)

-- The base is known behind the first event after the format description that isn't passed over, whether it is whole or refused.
abbrev pub is_base_known : {M : Type 0} → Place M → Option Why → Bool
is_base_known Front why = false
is_base_known (Between true) why = is_some why
is_base_known (Between false) why = true
is_base_known (Named g bytes) why = true
is_base_known (Inside g bytes maps work) why = true

-- what is known of the base where the reading ends
abbrev pub tell_base : {M : Type 0} → State M → ℕ → Option Why → Bool
tell_base s at why = is_base_known s.place why

-- whether the base is known from these bytes of the log
unfoldable pub knows_base : {M : Type 0} → Rules M → List ℕ → Bool
knows_base rules bytes = if has_magic bytes then follow_with tell_base (suc (length bytes)) rules 4 front (drop 4 bytes) else false
