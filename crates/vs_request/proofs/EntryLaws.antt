-- An entry has one meaning or one first fault.
use Rattle.std.proofs.Common.{◌≡◌, ◌≤◌, ◌∙◌, ℕ, List, [], ◌∷◌, length, Option, Some, None, Result, Ok, Err, refl, sym, ap, subst, inl, inr, arith}
use Rattle.std.proofs.lemmas.Bool.{cases_lt}
use Rattle.std.proofs.Math.Bridge.{le_prop}
use Rattle.vs_base.specs.Cells.{FitsKey, row_size}
use Rattle.vs_base.specs.declared.cell.Cell.{Cell}
use Rattle.vs_base.specs.declared.change.LastKey.{LastKey}
use Rattle.vs_proto.specs.declared.vgtid.ShardGtid.{ShardGtid}
use Rattle.vs_proto.specs.declared.vgtid.TableKey.{TableKey}
use Rattle.vs_request.specs.declared.refusal.RequestRefusal.{RequestRefusal}
use Rattle.vs_request.specs.declared.refusal.RequestRefusal.TheVariants.{Message, NoShards, TooManyShards, BadName, BadPosition, NeedsShard, TooManyKeys, LongKey, TooManyRules, Memory}
use Rattle.vs_request.specs.declared.request.StartAt.{StartAt}
use Rattle.vs_request.specs.declared.request.StartAt.TheVariants.{Fresh, Current, At}
use Rattle.vs_request.specs.declared.request.Wanted.{Wanted}
use Rattle.vs_request.specs.Entries.{FitsLimits, HasFewKeys, IsFaulty, IsLastKey, IsLongKey, IsNamed, IsWanted, LacksShard, Starts, StartsLawfully, is_named, most_keys}
use Rattle.vs_request.specs.Keys.{key_cells}
use Rattle.vs_request.proofs.Forks.{Choice, fork, fork-holds, fork-no, fork-yes, less_or_not, not_less, true_or_not}
use Rattle.vs_request.proofs.StartLaws.{SaysStart, refused-said, said, said-holds, starts-said}

-- ---- last keys

pub fits_or_not : (table : List ℕ) (cells : List Cell) → Choice (FitsKey table cells)
fits_or_not table cells = elim (cases_lt 64 (length table)) [
  | inl long ↦ inr (λ fits. omega (arith, fits.0))
  | inr a ↦ elim (cases_lt 4096 (length cells)) [
    | inl many ↦ inr (λ fits. omega (arith, fits.1))
    | inr b ↦ elim (cases_lt 3072 (row_size cells)) [ inl large ↦ inr (λ fits. omega (arith, fits.2)) | inr c ↦ inl (a, b, c) ]
  ]
]

abbrev last_with : (table : List ℕ) (cells : List Cell) → length table ≤ 64 → length cells ≤ 4096 → row_size cells ≤ 3072 → LastKey
last_with table cells p q r = record { table = table; key = cells; table_fits = p; few_cells = q; few_bytes = r }

abbrev last_of : (table : List ℕ) (cells : List Cell) → FitsKey table cells → LastKey
last_of table cells fits = last_with table cells fits.0 fits.1 fits.2

last_of-own : (last : LastKey) (fits : FitsKey last.table last.key) → last_of last.table last.key fits ≡ last
last_of-own last fits =
    ap (λ p. last_with last.table last.key p fits.1 fits.2) (le_prop fits.0 last.table_fits)
    ∙ ap (λ q. last_with last.table last.key last.table_fits q fits.2) (le_prop fits.1 last.few_cells)
    ∙ ap (λ r. last_with last.table last.key last.table_fits last.few_cells r) (le_prop fits.2 last.few_bytes)

last_of-is : (last : LastKey) (table : List ℕ) (cells : List Cell) (fits : FitsKey table cells) → last.table ≡ table → last.key ≡ cells → last_of table cells fits ≡ last
last_of-is last table cells fits e f =
    let AtCells : List Cell → Type 0 = λ c. (x : FitsKey last.table c) → last_of last.table c x ≡ last in
    let AtTable : List ℕ → Type 0 = λ t. (x : FitsKey t cells) → last_of t cells x ≡ last in
    subst AtTable e (subst AtCells f (λ x. last_of-own last x)) fits

abbrev key_judged : ℕ → (key : TableKey) → Choice (FitsLimits key) → Result (Option LastKey) RequestRefusal
key_judged i key (inl fits) = Ok (Some (last_of key.table_name (key_cells key) fits))
key_judged i key (inr long) = Err (LongKey i)

-- the last key that these name, or that it is over the limits
abbrev keys_judged : ℕ → List TableKey → Result (Option LastKey) RequestRefusal
keys_judged i [] = Ok None
keys_judged i (key ∷ more) = key_judged i key (fits_or_not key.table_name (key_cells key))

key_judged-fits : (i : ℕ) (key : TableKey) (d : Choice (FitsLimits key)) (last : LastKey) → last.table ≡ key.table_name → last.key ≡ key_cells key → key_judged i key d ≡ Ok (Some last)
key_judged-fits i key (inl fits) last e f = ap (λ l. Ok (Some l)) (last_of-is last key.table_name (key_cells key) fits e f)
key_judged-fits i key (inr long) last e f =
    let AtCells : List Cell → Type 0 = λ c. FitsKey last.table c in
    let AtTable : List ℕ → Type 0 = λ t. FitsKey t (key_cells key) in
    absurd (long (subst AtTable e (subst AtCells f (last.table_fits, last.few_cells, last.few_bytes))))

key_judged-long : (i : ℕ) (key : TableKey) (d : Choice (FitsLimits key)) → ¬ FitsLimits key → key_judged i key d ≡ Err (LongKey i)
key_judged-long i key (inl fits) long = absurd (long fits)
key_judged-long i key (inr other) long = refl

keys_judged-last : (i : ℕ) (keys : List TableKey) (last : Option LastKey) → IsLastKey keys last → keys_judged i keys ≡ Ok last
keys_judged-last i [] None h = refl
keys_judged-last i [] (Some last) h = absurd h
keys_judged-last i (key ∷ more) None h = absurd h
keys_judged-last i (key ∷ more) (Some last) h = key_judged-fits i key (fits_or_not key.table_name (key_cells key)) last h.1 h.2

keys_judged-long : (i : ℕ) (keys : List TableKey) → IsLongKey keys → keys_judged i keys ≡ Err (LongKey i)
keys_judged-long i keys h = ap (λ k. keys_judged i k) h.1 ∙ key_judged-long i h.0 (fits_or_not h.0.table_name (key_cells h.0)) h.2

abbrev SaysKeys : ℕ → List TableKey → Result (Option LastKey) RequestRefusal → Type 0
SaysKeys i keys (Ok last) = IsLastKey keys last
SaysKeys i keys (Err fault) = (fault ≡ LongKey i) × IsLongKey keys

key-holds : (i : ℕ) (key : TableKey) (d : Choice (FitsLimits key)) → SaysKeys i (key ∷ []) (key_judged i key d)
key-holds i key (inl fits) = (refl, refl, refl)
key-holds i key (inr long) = (refl, (key, refl, long))

keys-hold : (i : ℕ) (keys : List TableKey) → length keys ≤ 1 → SaysKeys i keys (keys_judged i keys)
keys-hold i [] few = tt
keys-hold i (key ∷ []) few = key-holds i key (fits_or_not key.table_name (key_cells key))
keys-hold i (key ∷ other ∷ more) few = absurd (let h : length (key ∷ other ∷ more) ≤ 1 = few in omega (arith, h))

-- ---- entries

pub lacks_or_not : (shard : List ℕ) (start : StartAt) → Choice (LacksShard shard start)
lacks_or_not shard Fresh = inr (λ h. h)
lacks_or_not shard Current = inr (λ h. h)
lacks_or_not [] (At set) = inl refl
lacks_or_not (b ∷ shard) (At set) = inr (λ h. absurd (cc))

abbrev wanted_with : ShardGtid → StartAt → Option LastKey → Wanted
wanted_with entry start last = record { keyspace = entry.keyspace; shard = entry.shard; start = start; last_key = last }

abbrev keyed : ShardGtid → StartAt → Result (Option LastKey) RequestRefusal → Result Wanted RequestRefusal
keyed entry start (Ok last) = Ok (wanted_with entry start last)
keyed entry start (Err fault) = Err fault

abbrev counted : ℕ → ShardGtid → StartAt → Result Wanted RequestRefusal
counted i entry start = fork (less_or_not (most_keys start) (length entry.table_p_ks)) (Err (TooManyKeys i)) (keyed entry start (keys_judged i entry.table_p_ks))

abbrev started : ℕ → ShardGtid → Result StartAt ℕ → Result Wanted RequestRefusal
started i entry (Err at) = Err (BadPosition i at)
started i entry (Ok start) = fork (lacks_or_not entry.shard start) (Err (NeedsShard i)) (counted i entry start)

pub named_or_not : (entry : ShardGtid) → Choice (IsNamed entry)
named_or_not entry = true_or_not (is_named entry.keyspace entry.shard)

-- what the entry asks for, or its first fault
abbrev pub judged : ℕ → ShardGtid → Result Wanted RequestRefusal
judged i entry = fork (named_or_not entry) (started i entry (said entry.gtid)) (Err (BadName i))

abbrev pub Judges : ℕ → ShardGtid → Result Wanted RequestRefusal → Type 0
Judges i entry (Ok wanted) = IsWanted entry wanted
Judges i entry (Err fault) = IsFaulty i entry fault

judged-named : (i : ℕ) (entry : ShardGtid) → IsNamed entry → judged i entry ≡ started i entry (said entry.gtid)
judged-named i entry named = fork-yes (named_or_not entry) (started i entry (said entry.gtid)) (Err (BadName i)) named

judged-starts : (i : ℕ) (entry : ShardGtid) (start : StartAt) → Starts entry start → judged i entry ≡ started i entry (Ok start)
judged-starts i entry start h = judged-named i entry h.named ∙ ap (λ s. started i entry s) (starts-said entry.gtid start h.says)

judged-lawful : (i : ℕ) (entry : ShardGtid) (start : StartAt) → StartsLawfully entry start → judged i entry ≡ counted i entry start
judged-lawful i entry start h =
    judged-starts i entry start h.starts ∙ fork-no (lacks_or_not entry.shard start) (Err (NeedsShard i)) (counted i entry start) h.has_shard

judged-few : (i : ℕ) (entry : ShardGtid) (start : StartAt) → HasFewKeys entry start → judged i entry ≡ keyed entry start (keys_judged i entry.table_p_ks)
judged-few i entry start h =
    judged-lawful i entry start h.lawful
    ∙ fork-no (less_or_not (most_keys start) (length entry.table_p_ks)) (Err (TooManyKeys i)) (keyed entry start (keys_judged i entry.table_p_ks)) (λ many. omega (arith, h.few, many))

wanted_with-is : (entry : ShardGtid) (wanted : Wanted) → wanted.keyspace ≡ entry.keyspace → wanted.shard ≡ entry.shard → wanted_with entry wanted.start wanted.last_key ≡ wanted
wanted_with-is entry wanted e f =
    let with : List ℕ → List ℕ → Wanted = λ k s. record { keyspace = k; shard = s; start = wanted.start; last_key = wanted.last_key } in
    ap (λ k. with k entry.shard) (sym e) ∙ ap (λ s. with wanted.keyspace s) (sym f)

-- it is nothing else
pub only : (i : ℕ) (entry : ShardGtid) (r : Result Wanted RequestRefusal) → Judges i entry r → r ≡ judged i entry
only i entry (Ok wanted) h = sym (
    judged-few i entry wanted.start h.starts
    ∙ ap (λ k. keyed entry wanted.start k) (keys_judged-last i entry.table_p_ks wanted.last_key h.last_key)
    ∙ ap (λ w. Ok w) (wanted_with-is entry wanted h.keyspace h.shard)
    )
only i entry (Err (BadName index)) h =
    ap (λ k. Err (BadName k)) h.0 ∙ sym (fork-no (named_or_not entry) (started i entry (said entry.gtid)) (Err (BadName i)) h.1)
only i entry (Err (BadPosition index at)) h =
    ap (λ k. Err (BadPosition k at)) h.0 ∙ sym (judged-named i entry h.1 ∙ ap (λ s. started i entry s) (refused-said entry.gtid at h.2))
only i entry (Err (NeedsShard index)) h =
    ap (λ k. Err (NeedsShard k)) h.0
    ∙ sym (judged-starts i entry h.1 h.2 ∙ fork-yes (lacks_or_not entry.shard h.1) (Err (NeedsShard i)) (counted i entry h.1) h.3)
only i entry (Err (TooManyKeys index)) h =
    ap (λ k. Err (TooManyKeys k)) h.0
    ∙ sym (judged-lawful i entry h.1 h.2
    ∙ fork-yes (less_or_not (most_keys h.1) (length entry.table_p_ks)) (Err (TooManyKeys i)) (keyed entry h.1 (keys_judged i entry.table_p_ks)) h.3)
only i entry (Err (LongKey index)) h =
    ap (λ k. Err (LongKey k)) h.0
    ∙ sym (judged-few i entry h.1 h.2 ∙ ap (λ k. keyed entry h.1 k) (keys_judged-long i entry.table_p_ks h.3))
only i entry (Err (Message why)) h = absurd h
only i entry (Err NoShards) h = absurd h
only i entry (Err (TooManyShards n)) h = absurd h
only i entry (Err (TooManyRules n)) h = absurd h
only i entry (Err Memory) h = absurd h

at_most_one : (start : StartAt) → most_keys start ≤ 1
at_most_one Fresh = omega arith
at_most_one Current = omega arith
at_most_one (At set) = omega arith

keyed-holds : (i : ℕ) (entry : ShardGtid) (start : StartAt) → HasFewKeys entry start → (r : Result (Option LastKey) RequestRefusal) →
    SaysKeys i entry.table_p_ks r → Judges i entry (keyed entry start r)
keyed-holds i entry start few (Ok last) h = record { keyspace = refl; shard = refl; starts = few; last_key = h }
keyed-holds i entry start few (Err fault) h = subst (λ f. IsFaulty i entry f) (sym h.0) (refl, start, few, h.1)

few-holds : (i : ℕ) (entry : ShardGtid) (start : StartAt) → HasFewKeys entry start → Judges i entry (keyed entry start (keys_judged i entry.table_p_ks))
few-holds i entry start few =
    let one : most_keys start ≤ 1 = at_most_one start in
    let at_most : length entry.table_p_ks ≤ most_keys start = few.few in
    keyed-holds i entry start few (keys_judged i entry.table_p_ks) (keys-hold i entry.table_p_ks (omega arith))

lawful-holds : (i : ℕ) (entry : ShardGtid) (start : StartAt) → StartsLawfully entry start → Judges i entry (counted i entry start)
lawful-holds i entry start lawful = fork-holds (Judges i entry) (less_or_not (most_keys start) (length entry.table_p_ks))
    (Err (TooManyKeys i)) (keyed entry start (keys_judged i entry.table_p_ks))
    (λ many. (refl, start, lawful, many))
    (λ unlike. few-holds i entry start (record { lawful = lawful; few = not_less (most_keys start) (length entry.table_p_ks) unlike }))

started-holds : (i : ℕ) (entry : ShardGtid) → IsNamed entry → (s : Result StartAt ℕ) → SaysStart entry.gtid s → Judges i entry (started i entry s)
started-holds i entry named (Err at) h = (refl, named, h)
started-holds i entry named (Ok start) h =
    let starts : Starts entry start = record { named = named; says = h } in
    fork-holds (Judges i entry) (lacks_or_not entry.shard start) (Err (NeedsShard i)) (counted i entry start)
    (λ lacks. (refl, start, starts, lacks))
    (λ has. lawful-holds i entry start (record { starts = starts; has_shard = has }))

pub holds : (i : ℕ) (entry : ShardGtid) → Judges i entry (judged i entry)
holds i entry = fork-holds (Judges i entry) (named_or_not entry) (started i entry (said entry.gtid)) (Err (BadName i))
    (λ named. started-holds i entry named (said entry.gtid) (said-holds entry.gtid))
    (λ unlike. (refl, unlike))
