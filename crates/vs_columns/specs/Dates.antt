-- Dates and times, as MySQL packs them, and their texts.
use Rattle.std.specs.Prelude.{ℕ, ◌+◌, ◌-◌, ◌*◌, ◌/◌, ◌%◌, ◌^◌, ◌==◌, Bool, ◌&&◌, nat_lt, nat_le, if◌then◌else◌, List, [], ◌++◌, take, drop, codes, decimal, Result, Ok, Err}
use Rattle.byteorder.specs.Endian.{little_number, big_number}
use Rattle.vs_columns.specs.declared.refusal.ValueRefusal.{ValueRefusal}
use Rattle.vs_columns.specs.declared.refusal.ValueRefusal.TheVariants.{BadValue}
use Rattle.vs_columns.specs.declared.calendar.Day.{Day}
use Rattle.vs_columns.specs.declared.calendar.Time.{Time}
use Rattle.vs_columns.specs.Digits.{padded}

-- `YYYY-MM-DD`
abbrev pub day_text : Day → List ℕ
day_text d = padded 4 d.year ++ codes "-" ++ padded 2 d.month ++ codes "-" ++ padded 2 d.day

-- `HH:MM:SS`
abbrev pub time_text : Time → List ℕ
time_text t = padded 2 t.hour ++ codes ":" ++ padded 2 t.minute ++ codes ":" ++ padded 2 t.second

-- from the low end 5 bits of the day, 4 of the month, 15 of the year
abbrev pub packed_day : ℕ → Day
packed_day n = record { year = n / 512; month = n / 32 % 16; day = n % 32 }

-- a day may be 0, and so may a month and a year
abbrev pub is_day : Day → Bool
is_day d = nat_le d.month 12 && nat_le d.year 9999

-- the text of a date of three bytes, the lowest first
abbrev pub date_text : List ℕ → Result (List ℕ) ValueRefusal
date_text stored =
    let day = packed_day (little_number 3 stored) in
    if is_day day then Ok (day_text day) else Err BadValue

-- How many bytes the fraction of a second with p digits takes, and how many digits they say: an even number.
abbrev pub fraction_size : ℕ → ℕ
fraction_size p = (p + 1) / 2

abbrev pub is_fraction : ℕ → ℕ → Bool
is_fraction p n = nat_lt n (10 ^ (2 * fraction_size p))

-- a point and the first p digits of the fraction, where p isn't 0
abbrev pub fraction_text : ℕ → ℕ → List ℕ
fraction_text p n = if p == 0 then [] else codes "." ++ take p (padded (2 * fraction_size p) n)

-- the number that the bytes of a fraction are, the highest first
unfoldable pub fraction_in : ℕ → List ℕ → ℕ
fraction_in p stored = big_number (fraction_size p) stored

-- the text of a timestamp: four bytes of seconds since 1970, the highest first, and the fraction
abbrev pub timestamp_text : ℕ → List ℕ → Result (List ℕ) ValueRefusal
timestamp_text p stored =
    if is_fraction p (fraction_in p (drop 4 stored)) then Ok (decimal (big_number 4 stored) ++ fraction_text p (fraction_in p (drop 4 stored))) else Err BadValue

-- The day and the time of a datetime: what is left of the number without its sign bit has, from the low end, 6 bits of
-- seconds, 6 of minutes, 5 of hours, 5 of the day, and above these thirteen times the year and the month.
abbrev pub day_of : ℕ → Day
day_of n = record { year = n / 4194304 / 13; month = n / 4194304 % 13; day = n / 131072 % 32 }

abbrev pub time_of : ℕ → Time
time_of n = record { hour = n / 4096 % 32; minute = n / 64 % 64; second = n % 64 }

abbrev pub is_time : Time → Bool
is_time t = nat_le t.hour 23 && nat_le t.minute 59 && nat_le t.second 59

-- five bytes, the highest first
unfoldable pub datetime_in : List ℕ → ℕ
datetime_in stored = big_number 5 stored

-- the text of a datetime: a number whose first bit says that it isn't negative, and the fraction
abbrev pub datetime_text : ℕ → List ℕ → Result (List ℕ) ValueRefusal
datetime_text p stored =
    let n = datetime_in stored - 2 ^ 39 in
    if nat_le (2 ^ 39) (datetime_in stored) && is_day (day_of n) && is_time (time_of n) && is_fraction p (fraction_in p (drop 5 stored))
    then Ok (day_text (day_of n) ++ codes " " ++ time_text (time_of n) ++ fraction_text p (fraction_in p (drop 5 stored)))
    else Err BadValue
