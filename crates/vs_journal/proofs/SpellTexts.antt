-- The text that is written of a journal spells its tokens.
use Rattle.std.proofs.Common.{◌≡◌, ◌∙◌, ◌++◌, ◌+◌, ◌-◌, ◌*◌, ◌/◌, ◌%◌, ◌^◌, ◌<◌, ◌≤◌, ◌||◌, ℕ, zero, suc, Bool, true, false, not, List, [], ◌∷◌, Option, Some, None, length, refl, ap, sym, subst, inl, inr, append_assoc, arith, decimal, length-append, cond}
use Rattle.std.specs.Prelude.{◌==◌, codes, nat_eq, nat_lt, ℤ, pos, negsuc}
use Rattle.std.specs.Cmp.Lexicographic.{pointwise}
use Rattle.std.specs.Fmt.{signed_decimal}
use Rattle.std.specs.List.{AllByRecursion, flat_map, list_all}
use Rattle.std.proofs.lemmas.Bool.{and_from, and_parts, eqb-true, or_cases, or_from, or_parts, lt-ltb}
use Rattle.std.proofs.lemmas.Bool.Decides.{nat_tests}
use Rattle.std.proofs.lemmas.Fmt.{decimal_by_steps}
use Rattle.std.proofs.lemmas.List.Folds.{list_all-append}
use Rattle.std.proofs.lemmas.List.Sums.{fold_push}
use Rattle.uuid.specs.Text.{by_index, digit_place, hex_digit, hyphenated_text, is_hyphen_place, lower, nibble}
use Rattle.vs_base.specs.Numbers.{digits_value, is_digit, small_value}
use Rattle.vs_gtid.specs.declared.interval.Interval.{Interval}
use Rattle.vs_gtid.specs.Positions.{IsCanonical, IsInterval, Position}
use Rattle.vs_gtid.specs.Text.{following_text, next_text, opening_text, position_text, set_text, span_text}
use Rattle.vs_journal.specs.Escapes.{simple_escape}
use Rattle.vs_journal.proofs.GapLaws.{differs}
use Rattle.vs_journal.specs.Judgement.{PlainJournal, PlainName}
use Rattle.vs_journal.specs.Spellings.{AreDigits, EndsRun, IsGap, IsNumber, IsStringByte, IsWord, SpellsBytes, SpellsTokens}
use Rattle.vs_journal.specs.Texts.{gtid_text, journal_text, kind_text, name_text, participant_text, string_byte, string_text, successor_text}
use Rattle.vs_journal.specs.declared.token.Bracket.TheVariants.{Curly}
use Rattle.vs_journal.specs.declared.token.Token.{Token}
use Rattle.vs_journal.specs.declared.token.Token.TheVariants as token

-- ---- tokens in front

none : IsGap []
none = ([], refl)

space : IsGap (0x20 ∷ [])
space = ((0x20 ∷ []) ∷ [], ([], refl, inl (0x20, refl, refl), refl))

module _ (ts : List Token) (rest behind : List ℕ) (later : SpellsTokens behind ts rest) where
  word_at : (w : List ℕ) → IsWord w → EndsRun behind → SpellsTokens (w ++ behind) (token.Word w ∷ ts) rest
  word_at w is ends = ([], w ++ behind, behind, refl, none, (refl, is, ends), later)

  spaced_word_at : (w : List ℕ) → IsWord w → EndsRun behind → SpellsTokens (0x20 ∷ (w ++ behind)) (token.Word w ∷ ts) rest
  spaced_word_at w is ends = (0x20 ∷ [], w ++ behind, behind, refl, space, (refl, is, ends), later)

  number_at : (negative : Bool) (size : Option ℕ) (number : List ℕ) → IsNumber negative size number → EndsRun behind → SpellsTokens (number ++ behind) (token.Number negative size ∷ ts) rest
  number_at negative size number is ends = ([], number ++ behind, behind, refl, none, (number, refl, is, ends), later)

  colon_at : SpellsTokens (0x3A ∷ behind) (token.Colon ∷ ts) rest
  colon_at = ([], 0x3A ∷ behind, behind, refl, none, refl, later)

  open_at : SpellsTokens (0x7B ∷ behind) (token.Open Curly ∷ ts) rest
  open_at = ([], 0x7B ∷ behind, behind, refl, none, refl, later)

  close_at : SpellsTokens (0x7D ∷ behind) (token.Close Curly ∷ ts) rest
  close_at = ([], 0x7D ∷ behind, behind, refl, none, refl, later)

  quoted_at : (bytes body : List ℕ) → SpellsBytes 0x22 body bytes (0x22 ∷ behind) → SpellsTokens (0x22 ∷ body) (token.Bytes bytes ∷ ts) rest
  quoted_at bytes body h = ([], 0x22 ∷ body, behind, refl, none, (0x22, body, refl, inl refl, h), later)

-- ---- strings

escaped_byte : (b : ℕ) → (b == 0x22 || b == 0x5C) ≡ true → simple_escape b ≡ Some b
escaped_byte b h = elim (or_cases (b == 0x22) (b == 0x5C) h) as (λ _. simple_escape b ≡ Some b) [
  | inl e ↦ subst (λ c. simple_escape c ≡ Some c) (sym (eqb-true b 0x22 e)) refl
  | inr e ↦ subst (λ c. simple_escape c ≡ Some c) (sym (eqb-true b 0x5C e)) refl
]

byte_spelled : (b : ℕ) (more : List ℕ) (mark : Bool) → (b == 0x22 || b == 0x5C) ≡ mark → IsStringByte 0x22 (elim mark [ true ↦ 0x5C ∷ b ∷ [] | false ↦ b ∷ [] ]) b more
byte_spelled b more true e = inr (b ∷ [], refl, inl (b, refl, escaped_byte b e))
byte_spelled b more false e = (let parts = or_parts (b == 0x22) (b == 0x5C) e in inl (refl, parts.0, parts.1))

string_spelled : (bytes behind : List ℕ) → SpellsBytes 0x22 (flat_map string_byte bytes ++ 0x22 ∷ behind) bytes (0x22 ∷ behind)
string_spelled [] behind = refl
string_spelled (b ∷ bytes) behind =
    let more = flat_map string_byte bytes ++ 0x22 ∷ behind in
    (string_byte b, more, append_assoc (string_byte b) (flat_map string_byte bytes) (0x22 ∷ behind), byte_spelled b more (b == 0x22 || b == 0x5C) refl, string_spelled bytes behind)

abbrev is_plain : ℕ → Bool
is_plain b = not (b == 0x22 || b == 0x5C)

plain_false : (b : Bool) → not b ≡ true → b ≡ false
plain_false true h = absurd (cc)
plain_false false h = refl

plain_spelled : (bytes behind : List ℕ) → list_all is_plain bytes ≡ true → SpellsBytes 0x22 (bytes ++ 0x22 ∷ behind) bytes (0x22 ∷ behind)
plain_spelled [] behind h = refl
plain_spelled (b ∷ bytes) behind h =
    let split = and_parts (is_plain b) (list_all is_plain bytes) h in
    let parts = or_parts (b == 0x22) (b == 0x5C) (plain_false (b == 0x22 || b == 0x5C) split.0) in
    (b ∷ [], bytes ++ 0x22 ∷ behind, refl, inl (refl, parts.0, parts.1), plain_spelled bytes behind split.1)

-- ---- numbers

pub record IsDecimal (n : ℕ) (ds : List ℕ) : Type 0 where
  pub some : 1 ≤ length ds
  pub digits : list_all is_digit ds ≡ true
  pub worth : digits_value ds ≡ n

digit_below : (d : ℕ) → d < 10 → is_digit (48 + d) ≡ true
digit_below d h = grind (arith, nat_tests)

pub decimal_is : (n : ℕ) → n < 2 ^ 64 → IsDecimal n (decimal n)
decimal_is n small = decimal_by_steps IsDecimal one more n small
  where
    one : (n : ℕ) → n < 10 → IsDecimal n ((48 + n) ∷ [])
    one n h = record { some = omega arith; digits = and_from (is_digit (48 + n)) true (digit_below n h) refl; worth = omega arith }

    more : (n : ℕ) (ds : List ℕ) → 10 ≤ n → IsDecimal (n / 10) ds → IsDecimal n (ds ++ ((48 + n % 10) ∷ []))
    more n ds h d = record {
      some = omega (arith, length-append ds ((48 + n % 10) ∷ []));
      digits = list_all-append is_digit ds ((48 + n % 10) ∷ []) ∙ and_from (list_all is_digit ds) (list_all is_digit ((48 + n % 10) ∷ [])) d.digits (and_from (is_digit (48 + n % 10)) true (digit_below (n % 10) (omega arith)) refl);
      worth = fold_push (λ n d. 10 * n + (d - 0x30)) 0 ds (48 + n % 10) ∙ (ap (λ m. 10 * m + (48 + n % 10 - 0x30)) d.worth ∙ omega arith);
    }

decimal_digits : (n : ℕ) → n < 2 ^ 64 → AreDigits (decimal n)
decimal_digits n small = (let d = decimal_is n small in (d.some, d.digits))

decimal_worth : (n : ℕ) → n < 2 ^ 64 → small_value (decimal n) ≡ Some n
decimal_worth n small =
    let d = decimal_is n small in
    ap (λ m. cond (nat_lt m (2 ^ 64)) (Some m) None) d.worth ∙ ap (λ b. cond b (Some n) None) (lt-ltb n (2 ^ 64) small)

-- a number of 64 bits
abbrev pub IsId : ℤ → Type 0
IsId (pos n) = n < 2 ^ 63
IsId (negsuc n) = suc n ≤ 2 ^ 63

abbrev pub id_token : ℤ → Token
id_token (pos n) = token.Number false (Some n)
id_token (negsuc n) = token.Number true (Some (suc n))

id_at : (z : ℤ) (ts : List Token) (rest behind : List ℕ) → IsId z → EndsRun behind → SpellsTokens behind ts rest → SpellsTokens (signed_decimal z ++ behind) (id_token z ∷ ts) rest
id_at (pos n) ts rest behind h ends later =
    number_at ts rest behind later false (Some n) (decimal n) (decimal_digits n (omega arith), decimal_worth n (omega arith)) ends
id_at (negsuc n) ts rest behind h ends later =
    number_at ts rest behind later true (Some (suc n)) (45 ∷ decimal (suc n)) ([], decimal (suc n), refl, none, decimal_digits (suc n) (omega arith), decimal_worth (suc n) (omega arith)) ends

-- ---- positions

digits_plain : (ds : List ℕ) → list_all is_digit ds ≡ true → list_all is_plain ds ≡ true
digits_plain [] h = refl
digits_plain (d ∷ ds) h =
    let parts = and_parts (is_digit d) (list_all is_digit ds) h in
    and_from (is_plain d) (list_all is_plain ds) (plain_digit d parts.0) (digits_plain ds parts.1)
  where
    plain_digit : (d : ℕ) → is_digit d ≡ true → is_plain d ≡ true
    plain_digit d h = ap not (or_from (d == 0x22) (d == 0x5C) (differs is_digit d 0x22 h refl) (differs is_digit d 0x5C h refl))

both_plain : (xs ys : List ℕ) → list_all is_plain xs ≡ true → list_all is_plain ys ≡ true → list_all is_plain (xs ++ ys) ≡ true
both_plain xs ys h k = list_all-append is_plain xs ys ∙ and_from (list_all is_plain xs) (list_all is_plain ys) h k

index_plain : (n : ℕ) (f : ℕ → ℕ) → ((k : ℕ) → is_plain (f k) ≡ true) → list_all is_plain (by_index n f) ≡ true
unfolding by_index
index_plain zero f h = refl
index_plain (suc n) f h = both_plain (by_index n f) (f n ∷ []) (index_plain n f h) (and_from (is_plain (f n)) true (h n) refl)

hex_plain : (d : ℕ) → is_plain (hex_digit lower d) ≡ true
hex_plain d = grind (arith, nat_tests)

uuid_plain : (uuid : List ℕ) → list_all is_plain (hyphenated_text lower uuid) ≡ true
uuid_plain uuid = index_plain 36 _ (λ k. byte k (is_hyphen_place k))
  where
    byte : (k : ℕ) (b : Bool) → is_plain (cond b 45 (hex_digit lower (nibble uuid (digit_place k)))) ≡ true
    byte k true = refl
    byte k false = hex_plain (nibble uuid (digit_place k))

span_plain : (i : Interval) → IsInterval i → list_all is_plain (span_text i) ≡ true
span_plain i is = go (i.first == i.last)
  where
    first : list_all is_plain (decimal i.first) ≡ true
    first = digits_plain (decimal i.first) (decimal_is i.first (omega (arith, is.ascends, is.last))).digits

    go : (b : Bool) → list_all is_plain (cond b (decimal i.first) (decimal i.first ++ codes "-" ++ decimal i.last)) ≡ true
    go true = first
    go false = both_plain (decimal i.first ++ codes "-") (decimal i.last) (both_plain (decimal i.first) (codes "-") first refl) (digits_plain (decimal i.last) (decimal_is i.last (omega (arith, is.last))).digits)

opening_plain : (i : Interval) → IsInterval i → list_all is_plain (opening_text i) ≡ true
unfolding opening_text
opening_plain i is = both_plain (hyphenated_text lower i.uuid ++ codes ":") (span_text i) (both_plain (hyphenated_text lower i.uuid) (codes ":") (uuid_plain i.uuid) refl) (span_plain i is)

next_plain : (before i : Interval) → IsInterval i → list_all is_plain (next_text before i) ≡ true
unfolding next_text
next_plain before i is = go (pointwise nat_eq before.uuid i.uuid)
  where
    go : (b : Bool) → list_all is_plain (cond b (codes ":" ++ span_text i) (codes "," ++ opening_text i)) ≡ true
    go true = both_plain (codes ":") (span_text i) refl (span_plain i is)
    go false = both_plain (codes ",") (opening_text i) refl (opening_plain i is)

following_plain : (before : Interval) (p : Position) → IsCanonical p → list_all is_plain (following_text before p) ≡ true
unfolding following_text
following_plain before [] h = refl
following_plain before (i ∷ p) h = both_plain (next_text before i) (following_text i p) (next_plain before i h.0) (following_plain i p h.2)

set_plain : (p : Position) → IsCanonical p → list_all is_plain (set_text p) ≡ true
unfolding set_text
set_plain [] h = refl
set_plain (i ∷ p) h = both_plain (opening_text i) (following_text i p) (opening_plain i h.0) (following_plain i p h.2)

position_plain : (p : Position) → IsCanonical p → list_all is_plain (position_text p) ≡ true
position_plain p h = both_plain (codes "MySQL56/") (set_text p) refl (set_plain p h)

-- ---- members

abbrev pub name_tokens : PlainName → List Token
name_tokens n = token.Word (codes "keyspace") ∷ token.Colon ∷ token.Bytes n.0 ∷ token.Word (codes "shard") ∷ token.Colon ∷ token.Bytes n.1 ∷ []

string_front : (bytes more : List ℕ) → string_text bytes ++ more ≡ 0x22 ∷ (flat_map string_byte bytes ++ 0x22 ∷ more)
string_front bytes more = append_assoc (0x22 ∷ flat_map string_byte bytes) (0x22 ∷ []) more

name_at : (n : PlainName) (ts : List Token) (rest behind : List ℕ) → SpellsTokens behind ts rest → SpellsTokens (name_text n ++ behind) (name_tokens n ++ ts) rest
name_at n ts rest behind later =
    let shard_body = flat_map string_byte n.1 ++ 0x22 ∷ behind in
    let shard = 0x20 ∷ (codes "shard" ++ 0x3A ∷ 0x22 ∷ shard_body) in
    let keyspace_body = flat_map string_byte n.0 ++ 0x22 ∷ shard in
    let front = codes "keyspace:" ++ string_text n.0 in
    let is_shard : codes " shard:" ++ (string_text n.1 ++ behind) ≡ shard = ap (λ t. codes " shard:" ++ t) (string_front n.1 behind) in
    let is : name_text n ++ behind ≡ codes "keyspace" ++ 0x3A ∷ 0x22 ∷ keyspace_body =
    append_assoc (front ++ codes " shard:") (string_text n.1) behind
    ∙ (append_assoc front (codes " shard:") (string_text n.1 ++ behind)
    ∙ (ap (λ t. front ++ t) is_shard
    ∙ (append_assoc (codes "keyspace:") (string_text n.0) shard ∙ ap (λ t. codes "keyspace:" ++ t) (string_front n.0 shard)))) in
    let u5 : List Token = token.Bytes n.1 ∷ ts in
    let u4 : List Token = token.Colon ∷ u5 in
    let u3 : List Token = token.Word (codes "shard") ∷ u4 in
    let u2 : List Token = token.Bytes n.0 ∷ u3 in
    let t5 = quoted_at ts rest behind later n.1 shard_body (string_spelled n.1 behind) in
    let t4 = colon_at u5 rest (0x22 ∷ shard_body) t5 in
    let t3 = spaced_word_at u4 rest (0x3A ∷ 0x22 ∷ shard_body) t4 (codes "shard") (115, codes "hard", refl, refl, refl) refl in
    let t2 = quoted_at u3 rest shard t3 n.0 keyspace_body (string_spelled n.0 shard) in
    let t1 = colon_at u2 rest (0x22 ∷ keyspace_body) t2 in
    subst (λ t. SpellsTokens t (name_tokens n ++ ts) rest) (sym is)
    (word_at (token.Colon ∷ u2) rest (0x3A ∷ 0x22 ∷ keyspace_body) t1 (codes "keyspace") (107, codes "eyspace", refl, refl, refl) refl)

abbrev pub participant_tokens : PlainName → List Token
participant_tokens n = token.Word (codes "participants") ∷ token.Colon ∷ token.Open Curly ∷ (name_tokens n ++ token.Close Curly ∷ [])

participant_at : (n : PlainName) (ts : List Token) (rest behind : List ℕ) → SpellsTokens behind ts rest → SpellsTokens (participant_text n ++ behind) (participant_tokens n ++ ts) rest
participant_at n ts rest behind later =
    let inner = name_text n ++ 0x7D ∷ behind in
    let is : participant_text n ++ behind ≡ 0x20 ∷ (codes "participants" ++ 0x3A ∷ 0x7B ∷ inner) =
    append_assoc (codes " participants:{" ++ name_text n) (codes "}") behind ∙ append_assoc (codes " participants:{") (name_text n) (0x7D ∷ behind) in
    let t3 = name_at n (token.Close Curly ∷ ts) rest (0x7D ∷ behind) (close_at ts rest behind later) in
    let u3 : List Token = name_tokens n ++ token.Close Curly ∷ ts in
    let t2 = open_at u3 rest inner t3 in
    let t1 = colon_at (token.Open Curly ∷ u3) rest (0x7B ∷ inner) t2 in
    subst (λ t. SpellsTokens t (participant_tokens n ++ ts) rest) (sym is)
    (spaced_word_at (token.Colon ∷ token.Open Curly ∷ u3) rest (0x3A ∷ 0x7B ∷ inner) t1 (codes "participants") (112, codes "articipants", refl, refl, refl) refl)

abbrev pub successor_tokens : PlainName × Position → List Token
successor_tokens s =
    token.Word (codes "shard_gtids") ∷ token.Colon ∷ token.Open Curly ∷ (name_tokens s.0 ++ token.Word (codes "gtid") ∷ token.Colon ∷ token.Bytes (position_text s.1) ∷ token.Close Curly ∷ [])

successor_at : (s : PlainName × Position) (ts : List Token) (rest behind : List ℕ) → IsCanonical s.1 → SpellsTokens behind ts rest → SpellsTokens (successor_text s ++ behind) (successor_tokens s ++ ts) rest
successor_at s ts rest behind canonical later =
    let gtid = 0x22 ∷ (position_text s.1 ++ 0x22 ∷ 0x7D ∷ behind) in
    let named = 0x20 ∷ (codes "gtid" ++ 0x3A ∷ gtid) in
    let inner = name_text s.0 ++ named in
    let is_gtid : gtid_text s.1 ++ 0x7D ∷ behind ≡ named =
    append_assoc (codes " gtid:" ++ 0x22 ∷ [] ++ position_text s.1) (0x22 ∷ []) (0x7D ∷ behind)
    ∙ append_assoc (codes " gtid:" ++ 0x22 ∷ []) (position_text s.1) (0x22 ∷ 0x7D ∷ behind) in
    let is : successor_text s ++ behind ≡ 0x20 ∷ (codes "shard_gtids" ++ 0x3A ∷ 0x7B ∷ inner) =
    append_assoc (codes " shard_gtids:{" ++ name_text s.0 ++ gtid_text s.1) (codes "}") behind
    ∙ (append_assoc (codes " shard_gtids:{" ++ name_text s.0) (gtid_text s.1) (0x7D ∷ behind)
    ∙ (append_assoc (codes " shard_gtids:{") (name_text s.0) (gtid_text s.1 ++ 0x7D ∷ behind) ∙ ap (λ g. codes " shard_gtids:{" ++ (name_text s.0 ++ g)) is_gtid)) in
    let u7 : List Token = token.Close Curly ∷ ts in
    let u6 : List Token = token.Bytes (position_text s.1) ∷ u7 in
    let u5 : List Token = token.Colon ∷ u6 in
    let u4 : List Token = token.Word (codes "gtid") ∷ u5 in
    let u3 : List Token = name_tokens s.0 ++ u4 in
    let t6 = quoted_at u7 rest (0x7D ∷ behind) (close_at ts rest behind later) (position_text s.1) (position_text s.1 ++ 0x22 ∷ 0x7D ∷ behind) (plain_spelled (position_text s.1) (0x7D ∷ behind) (position_plain s.1 canonical)) in
    let t5 = colon_at u6 rest gtid t6 in
    let t4 = spaced_word_at u5 rest (0x3A ∷ gtid) t5 (codes "gtid") (103, codes "tid", refl, refl, refl) refl in
    let t3 = name_at s.0 u4 rest named t4 in
    let t2 = open_at u3 rest inner t3 in
    let t1 = colon_at (token.Open Curly ∷ u3) rest (0x7B ∷ inner) t2 in
    subst (λ t. SpellsTokens t (successor_tokens s ++ ts) rest) (sym is)
    (spaced_word_at (token.Colon ∷ token.Open Curly ∷ u3) rest (0x3A ∷ 0x7B ∷ inner) t1 (codes "shard_gtids") (115, codes "hard_gtids", refl, refl, refl) refl)

participants_at : (ns : List PlainName) → SpellsTokens (flat_map participant_text ns) (flat_map participant_tokens ns) []
participants_at [] = refl
participants_at (n ∷ ns) = participant_at n (flat_map participant_tokens ns) [] (flat_map participant_text ns) (participants_at ns)

successors_at : (ss : List (PlainName × Position)) (ts : List Token) (behind : List ℕ) → AllByRecursion (λ s. IsCanonical s.1) ss → SpellsTokens behind ts [] → SpellsTokens (flat_map successor_text ss ++ behind) (flat_map successor_tokens ss ++ ts) []
successors_at [] ts behind all later = later
successors_at (s ∷ ss) ts behind all later =
    let text = append_assoc (successor_text s) (flat_map successor_text ss) behind in
    let tokens = append_assoc (successor_tokens s) (flat_map successor_tokens ss) ts in
    subst (λ q. SpellsTokens q (flat_map successor_tokens (s ∷ ss) ++ ts) []) (sym text)
    (subst (λ q. SpellsTokens (successor_text s ++ (flat_map successor_text ss ++ behind)) q []) (sym tokens)
    (successor_at s (flat_map successor_tokens ss ++ ts) [] (flat_map successor_text ss ++ behind) all.0 (successors_at ss ts behind all.1 later)))

-- ---- journals

abbrev pub journal_tokens : PlainJournal → List Token
journal_tokens j =
    token.Word (codes "id") ∷ token.Colon ∷ id_token j.id ∷ token.Word (codes "migration_type") ∷ token.Colon ∷ token.Word (kind_text j.shards) ∷ (flat_map successor_tokens j.successors ++ flat_map participant_tokens j.participants)

ends_kind : (ss : List (PlainName × Position)) (ns : List PlainName) → EndsRun (flat_map successor_text ss ++ flat_map participant_text ns)
ends_kind [] [] = tt
ends_kind [] (n ∷ ns) = refl
ends_kind (s ∷ ss) ns = refl

kind_word : (shards : Bool) → IsWord (kind_text shards)
kind_word true = (83, codes "HARDS", refl, refl, refl)
kind_word false = (84, codes "ABLES", refl, refl, refl)

pub journal_spelled : (j : PlainJournal) → IsId j.id → AllByRecursion (λ s. IsCanonical s.1) j.successors → SpellsTokens (journal_text j) (journal_tokens j) []
journal_spelled j fits all =
    let members = flat_map successor_text j.successors ++ flat_map participant_text j.participants in
    let kind = kind_text j.shards ++ members in
    let second = 0x20 ∷ (codes "migration_type" ++ 0x3A ∷ kind) in
    let head = codes "id:" ++ signed_decimal j.id ++ codes " migration_type:" ++ kind_text j.shards in
    let is : journal_text j ≡ codes "id" ++ 0x3A ∷ (signed_decimal j.id ++ second) =
    append_assoc head (flat_map successor_text j.successors) (flat_map participant_text j.participants)
    ∙ (append_assoc (codes "id:" ++ signed_decimal j.id ++ codes " migration_type:") (kind_text j.shards) members
    ∙ (append_assoc (codes "id:" ++ signed_decimal j.id) (codes " migration_type:") kind ∙ append_assoc (codes "id:") (signed_decimal j.id) second)) in
    let u6 : List Token = flat_map successor_tokens j.successors ++ flat_map participant_tokens j.participants in
    let u5 : List Token = token.Word (kind_text j.shards) ∷ u6 in
    let u4 : List Token = token.Colon ∷ u5 in
    let u3 : List Token = token.Word (codes "migration_type") ∷ u4 in
    let u2 : List Token = id_token j.id ∷ u3 in
    let t6 = successors_at j.successors (flat_map participant_tokens j.participants) (flat_map participant_text j.participants) all (participants_at j.participants) in
    let t5 = word_at u6 [] members t6 (kind_text j.shards) (kind_word j.shards) (ends_kind j.successors j.participants) in
    let t4 = colon_at u5 [] kind t5 in
    let t3 = spaced_word_at u4 [] (0x3A ∷ kind) t4 (codes "migration_type") (109, codes "igration_type", refl, refl, refl) refl in
    let t2 = id_at j.id u3 [] second fits refl t3 in
    let t1 = colon_at u2 [] (signed_decimal j.id ++ second) t2 in
    subst (λ t. SpellsTokens t (journal_tokens j) []) (sym is)
    (word_at (token.Colon ∷ u2) [] (0x3A ∷ (signed_decimal j.id ++ second)) t1 (codes "id") (105, codes "d", refl, refl, refl) refl)
