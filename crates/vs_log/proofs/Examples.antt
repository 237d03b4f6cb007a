-- What some short logs mean, computed.
use Rattle.std.proofs.Common.{◌≡◌, ◌-◌, ◌^◌, ℕ, List, [], ◌∷◌, ◌++◌, map, Option, Some, None, Ok, refl}
use Rattle.std.proofs.Math.ListN.{replicate}
use Rattle.std.proofs.lemmas.Bool.{leb-true}
use Rattle.vs_base.specs.declared.Gtid.{Gtid}
use Rattle.vs_base.specs.declared.Why.TheVariants.{BadLength, BadMagic, BadOrder, NestedBegin, NoFormat, RepeatedGtid}
use Rattle.vs_base.specs.Names.{gtid_of}
use Rattle.vs_gtid.specs.declared.Work.TheVariants.{Other}
use Rattle.vs_gtid.specs.Joins.{added, joined}
use Rattle.vs_gtid.specs.Logs.{Log}
use Rattle.vs_gtid.specs.Positions.{Position, has}
use Rattle.vs_log.specs.declared.statement.Statement.TheVariants.{Begin, Single}
use Rattle.vs_binlog.specs.Heads.{time_of, kind_of, length_of, flags_of, body_of}
use Rattle.vs_binlog.specs.Bodies.{gtid_body}
use Rattle.vs_log.specs.Events.{sort_of, is_held, magic}
use Rattle.vs_log.specs.Table.{Rules, gtid_in, bytes_with, step}
use Rattle.vs_log.specs.Meaning.{head_refusal, follow_with, log_meant}

abbrev uuid : ℕ → List ℕ
uuid n = replicate 15 0 ++ n ∷ []

abbrev base : Position
base = record { uuid = uuid 1; first = 1; last = 5 } ∷ []

-- each query stands alone, and each block of GTIDs is the base
abbrev rules : Rules (Unit {0})
rules = record { no_tables = tt; statement = λ body. Ok (Single Other); block = λ body. Ok base; map = λ maps body. Ok maps; rows = λ maps kind body. Ok [] }

-- each query begins
abbrev begun_rules : Rules (Unit {0})
begun_rules = record rules { statement = λ body. Ok Begin }

-- a head of this kind at the time 7, for so many bytes, below 256
abbrev head : ℕ → ℕ → List ℕ
head kind bytes = 7 ∷ 0 ∷ 0 ∷ 0 ∷ kind ∷ replicate 4 0 ++ bytes ∷ replicate 9 0

abbrev format_event : List ℕ
format_event = head 15 81 ++ 4 ∷ 0 ∷ replicate 54 0 ++ 19 ∷ replicate 5 0

abbrev previous_event : List ℕ
previous_event = head 35 27 ++ replicate 8 0

abbrev gtid_event : ℕ → ℕ → List ℕ
gtid_event n number = head 33 44 ++ 0 ∷ uuid n ++ number ∷ replicate 7 0

abbrev query_event : List ℕ
query_event = head 2 33 ++ replicate 14 0

abbrev xid_event : List ℕ
xid_event = head 16 27 ++ replicate 8 0

abbrev front : List ℕ
front = magic ++ format_event ++ previous_event

abbrev gtid : ℕ → (number : ℕ) → Option Gtid
gtid n number = gtid_of (uuid n) number

-- the GTIDs, their times and their number
abbrev names : Log → List (Option Gtid × ℕ)
names log = map (λ e. (Some e.gtid, e.time)) log.entries

abbrev nothing : Log
nothing = record { base = []; entries = []; fault = None }

empty_log : log_meant rules [] ≡ nothing
unfolding log_meant follow_with is_held head_refusal
empty_log = refl

short_magic : log_meant rules (254 ∷ 98 ∷ []) ≡ nothing
unfolding log_meant follow_with is_held head_refusal
short_magic = refl

wrong_magic : log_meant rules (254 ∷ 99 ∷ []) ≡ record nothing { fault = Some (0, BadMagic) }
unfolding log_meant
wrong_magic = refl

only_format : log_meant rules (magic ++ format_event) ≡ nothing
unfolding log_meant follow_with is_held head_refusal step time_of kind_of length_of flags_of body_of sort_of bytes_with
only_format = refl

with_base : log_meant rules front ≡ record nothing { base = base }
unfolding log_meant follow_with is_held head_refusal step time_of kind_of length_of flags_of body_of sort_of bytes_with
with_base = refl

no_format : log_meant rules (magic ++ query_event) ≡ record nothing { fault = Some (4, NoFormat) }
unfolding log_meant follow_with is_held head_refusal step time_of kind_of length_of flags_of body_of sort_of bytes_with
no_format = refl

bad_length : log_meant rules (front ++ head 33 18) ≡ record { base = base; entries = []; fault = Some (112, BadLength 18) }
unfolding log_meant follow_with is_held head_refusal step time_of kind_of length_of flags_of body_of sort_of bytes_with
bad_length = refl

-- an entry, and one that is cut
one_entry : names (log_meant rules (front ++ gtid_event 1 6 ++ query_event ++ gtid_event 1 7)) ≡ (gtid 1 6, 7) ∷ []
unfolding log_meant follow_with is_held head_refusal step time_of kind_of length_of flags_of body_of sort_of bytes_with gtid_in gtid_body has added joined gtid_of
one_entry = refl

a_transaction : names (log_meant begun_rules (front ++ gtid_event 2 1 ++ query_event ++ xid_event)) ≡ (gtid 2 1, 7) ∷ []
unfolding log_meant follow_with is_held head_refusal step time_of kind_of length_of flags_of body_of sort_of bytes_with gtid_in gtid_body has added joined gtid_of
a_transaction = refl

nested_begin : (log_meant begun_rules (front ++ gtid_event 2 1 ++ query_event ++ query_event)).fault ≡ Some (189, NestedBegin)
unfolding log_meant follow_with is_held head_refusal step time_of kind_of length_of flags_of body_of sort_of bytes_with gtid_in gtid_body has added joined gtid_of
nested_begin = refl

out_of_order : (log_meant rules (front ++ xid_event)).fault ≡ Some (112, BadOrder 16)
unfolding log_meant follow_with is_held head_refusal step time_of kind_of length_of flags_of body_of sort_of bytes_with
out_of_order = refl

abbrev fifth : Gtid
fifth = record { uuid = uuid 1; number = 5; first = leb-true 1 5 refl; last = leb-true 5 (2 ^ 63 - 2) refl }

-- a GTID of the base
repeated : (log_meant rules (front ++ gtid_event 1 5)).fault ≡ Some (112, RepeatedGtid fifth)
unfolding log_meant follow_with is_held head_refusal step time_of kind_of length_of flags_of body_of sort_of bytes_with gtid_in gtid_body has added joined gtid_of
repeated = refl
