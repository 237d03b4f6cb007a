-- Some texts, and what they say.
use Rattle.std.proofs.Common.{◌≡◌, List, [], ◌∷◌, ◌++◌, ℕ, codes, Result, Ok, Err, refl, subst}
use Rattle.vs_gtid.specs.declared.refusal.GtidRefusal.{GtidRefusal}
use Rattle.vs_gtid.specs.declared.refusal.GtidRefusal.TheVariants.{BadText, ZeroNumber, EmptyInterval}
use Rattle.vs_gtid.specs.Positions.{Position}
use Rattle.vs_gtid.specs.Joins.{joined, merged}
use Rattle.vs_gtid.specs.Parts.{scanned, scanned_from}
use Rattle.vs_gtid.specs.Readings.{read, ReadsSet}
use Rattle.uuid.specs.Text.{by_index}
use Rattle.vs_gtid.proofs.ReadingLemmas.{reads}

says : (text : List ℕ) (r : Result Position GtidRefusal) → read text ≡ r → ReadsSet text r
says text r h = subst (λ (s : Result Position GtidRefusal). ReadsSet text s) h (reads text)

abbrev uuid_text : List ℕ
uuid_text = codes "00000000-0000-0000-0000-000000000001"

abbrev uuid : List ℕ
uuid = 0 ∷ 0 ∷ 0 ∷ 0 ∷ 0 ∷ 0 ∷ 0 ∷ 0 ∷ 0 ∷ 0 ∷ 0 ∷ 0 ∷ 0 ∷ 0 ∷ 0 ∷ 1 ∷ []

no_text : ReadsSet (codes "x") (Err (BadText 0))
unfolding scanned scanned_from
no_text = says (codes "x") (Err (BadText 0)) refl

cut_prefix : ReadsSet (codes "MyS") (Err (BadText 3))
unfolding scanned scanned_from
cut_prefix = says (codes "MyS") (Err (BadText 3)) refl

nothing : ReadsSet (codes "MySQL56/") (Ok [])
unfolding scanned scanned_from merged
nothing = says (codes "MySQL56/") (Ok []) refl

no_number : ReadsSet uuid_text (Err (BadText 36))
unfolding scanned scanned_from
no_number = says uuid_text (Err (BadText 36)) refl

zero_number : ReadsSet (uuid_text ++ codes ":0") (Err (ZeroNumber 37))
unfolding scanned scanned_from by_index
zero_number = says (uuid_text ++ codes ":0") (Err (ZeroNumber 37)) refl

form_first : ReadsSet (uuid_text ++ codes ":0,x") (Err (BadText 39))
unfolding scanned scanned_from by_index
form_first = says (uuid_text ++ codes ":0,x") (Err (BadText 39)) refl

empty_interval : ReadsSet (uuid_text ++ codes ":5-3") (Err (EmptyInterval 39))
unfolding scanned scanned_from by_index
empty_interval = says (uuid_text ++ codes ":5-3") (Err (EmptyInterval 39)) refl

over : ReadsSet (uuid_text ++ codes ":9223372036854775807x") (Err (BadText 37))
unfolding scanned scanned_from by_index
over = says (uuid_text ++ codes ":9223372036854775807x") (Err (BadText 37)) refl

twenty_digits : ReadsSet (uuid_text ++ codes ":00000000000000000001") (Err (BadText 56))
unfolding scanned scanned_from by_index
twenty_digits = says (uuid_text ++ codes ":00000000000000000001") (Err (BadText 56)) refl

any_order : ReadsSet (uuid_text ++ codes ":5:1-2:5:2-3") (Ok (record { uuid = uuid; first = 1; last = 3 } ∷ record { uuid = uuid; first = 5; last = 5 } ∷ []))
unfolding scanned scanned_from by_index merged joined
any_order = says (uuid_text ++ codes ":5:1-2:5:2-3") (Ok (record { uuid = uuid; first = 1; last = 3 } ∷ record { uuid = uuid; first = 5; last = 5 } ∷ [])) refl
