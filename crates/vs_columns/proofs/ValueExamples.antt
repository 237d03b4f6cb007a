-- Some values, and what they say.
use Rattle.std.proofs.Common.{◌≡◌, true, false, [], ◌∷◌, codes, Ok, Err, refl}
use Rattle.std.specs.Fmt.{digits}
use Rattle.vs_base.specs.declared.table.ColumnKind.TheVariants as kind
use Rattle.vs_columns.specs.declared.refusal.ValueRefusal.TheVariants.{ShortValue, BadValue}
use Rattle.vs_columns.specs.Digits.{padded}
use Rattle.vs_columns.specs.Dates.{datetime_in, fraction_in}
use Rattle.vs_columns.specs.Decimals.{group_digits, fits_group, nines_digits, fit_nines, whole_digits, fits_whole, scale_digits, fits_scale, plain}
use Rattle.vs_columns.specs.Values.{value_of}

minus_one : value_of (kind.TinyInt false) [] (255 ∷ []) ≡ Ok (codes "-1", 1)
unfolding value_of digits
minus_one = refl

most : value_of (kind.TinyInt true) [] (255 ∷ []) ≡ Ok (codes "255", 1)
unfolding value_of digits
most = refl

no_bytes : value_of (kind.TinyInt true) [] [] ≡ Err ShortValue
unfolding value_of
no_bytes = refl

leap_day : value_of kind.Date [] (93 ∷ 208 ∷ 15 ∷ 255 ∷ []) ≡ Ok (codes "2024-02-29", 3)
unfolding value_of padded
leap_day = refl

month_15 : value_of kind.Date [] (255 ∷ 127 ∷ 0 ∷ []) ≡ Err BadValue
unfolding value_of
month_15 = refl

moment : value_of (kind.DateTime 3) (3 ∷ []) (153 ∷ 178 ∷ 186 ∷ 200 ∷ 184 ∷ 4 ∷ 206 ∷ []) ≡ Ok (codes "2024-02-29 12:34:56.123", 7)
unfolding value_of padded datetime_in fraction_in
moment = refl

amount : value_of (kind.Decimal 10 2) (10 ∷ 2 ∷ []) (128 ∷ 18 ∷ 214 ∷ 135 ∷ 89 ∷ []) ≡ Ok (codes "1234567.89", 5)
unfolding value_of padded group_digits fits_group nines_digits fit_nines whole_digits fits_whole scale_digits fits_scale plain
amount = refl

debt : value_of (kind.Decimal 10 2) (10 ∷ 2 ∷ []) (127 ∷ 237 ∷ 41 ∷ 120 ∷ 166 ∷ []) ≡ Ok (codes "-1234567.89", 5)
unfolding value_of padded group_digits fits_group nines_digits fit_nines whole_digits fits_whole scale_digits fits_scale plain
debt = refl

filled_up : value_of (kind.Binary 4) (254 ∷ 4 ∷ []) (2 ∷ 97 ∷ 98 ∷ []) ≡ Ok (97 ∷ 98 ∷ 0 ∷ 0 ∷ [], 3)
unfolding value_of
filled_up = refl
