-- Entries that can be sent, and the first one that is too large.
use Rattle.std.proofs.Common.{◌≡◌, ℕ, suc, Bool, true, false, is_none, if◌then◌else◌, List, [], ◌∷◌, ◌++◌, take, drop, length, get_or, ◌+◌, ◌<◌, ◌≤◌, Option, Some, None, refl, sym, ap, subst, ◌∙◌, append-nil, arith}
use Rattle.std.specs.Prelude.{◌⊎◌, All, nat_lt}
use Rattle.std.specs.List.{AllByRecursion, filter, find}
use Rattle.std.proofs.lemmas.Bool.Decides.{nat_tests}
use Rattle.std.proofs.lemmas.List.Elements.{All-head, All-tail}
use Rattle.vs_base.specs.Limits.{most_body}
use Rattle.vs_render.specs.Bodies.{IsTooLarge, IsWithin, entry_body, sizes_of}
use Rattle.std.proofs.lemmas.List.{map-append, take-map}
use Rattle.vs_base.specs.declared.Gtid.{Gtid}
use Rattle.vs_base.specs.declared.ShardName.{ShardName}
use Rattle.vs_gtid.specs.declared.Entry.{Entry}
use Rattle.vs_gtid.specs.Positions.{Position, has}
use Rattle.vs_gtid.specs.Joins.{added}
use Rattle.vs_filter.specs.declared.bound.Picked.{Picked}
use Rattle.vs_log.specs.Laws.{FitAlong}
use Rattle.vs_command.specs.declared.fetched.Placed.{Placed}
use Rattle.vs_command.specs.Sizes.{AreSendable, IsOversized, IsSendable, first_oversized, is_sendable, sendable_front, size_over}
use Rattle.vs_command.specs.Fetched.{ArePlaced, IsPlaced, entries_of}
use Rattle.vs_command.specs.Sending.{IsTooLargeAlong, StopsAtOversized, lacking, position_after}
use Rattle.vs_command.proofs.SendLemmas.{lacking-out, lacking-split, split_at, take_next}

sendable_is : (tables : List Picked) (s : ShardName) (e : Entry) → IsSendable tables s e → is_sendable tables s e ≡ true
sendable_is tables s e h = ap is_none h

oversized_not : (tables : List Picked) (s : ShardName) (e : Entry) (n : ℕ) → size_over tables s e ≡ Some n → is_sendable tables s e ≡ false
oversized_not tables s e n h = ap is_none h

-- ---- the front of entries

pub front-behind : (tables : List Picked) (s : ShardName) (xs ys : List Entry) → AreSendable tables s xs → sendable_front tables s (xs ++ ys) ≡ xs ++ sendable_front tables s ys
front-behind tables s [] ys h = refl
front-behind tables s (x ∷ xs) ys h =
    ap (λ b. if b then x ∷ sendable_front tables s (xs ++ ys) else []) (sendable_is tables s x h.0) ∙ ap (λ l. x ∷ l) (front-behind tables s xs ys h.1)

oversized-behind : (tables : List Picked) (s : ShardName) (xs ys : List Entry) → AreSendable tables s xs → first_oversized tables s (xs ++ ys) ≡ first_oversized tables s ys
oversized-behind tables s [] ys h = refl
oversized-behind tables s (x ∷ xs) ys h =
    ap (λ b. if b then first_oversized tables s (xs ++ ys) else Some x) (sendable_is tables s x h.0) ∙ oversized-behind tables s xs ys h.1

pub front-all : (tables : List Picked) (s : ShardName) (xs : List Entry) → AreSendable tables s xs → sendable_front tables s xs ≡ xs
front-all tables s [] h = refl
front-all tables s (x ∷ xs) h = ap (λ b. if b then x ∷ sendable_front tables s xs else []) (sendable_is tables s x h.0) ∙ ap (λ l. x ∷ l) (front-all tables s xs h.1)

pub none-oversized : (tables : List Picked) (s : ShardName) (xs : List Entry) → AreSendable tables s xs → first_oversized tables s xs ≡ None
none-oversized tables s [] h = refl
none-oversized tables s (x ∷ xs) h = ap (λ b. if b then first_oversized tables s xs else Some x) (sendable_is tables s x h.0) ∙ none-oversized tables s xs h.1

pub AreSendable-more : (tables : List Picked) (s : ShardName) (xs : List Entry) (e : Entry) → AreSendable tables s xs → IsSendable tables s e → AreSendable tables s (xs ++ e ∷ [])
AreSendable-more tables s [] e h sendable = (sendable, tt)
AreSendable-more tables s (x ∷ xs) e h sendable = (h.0, AreSendable-more tables s xs e h.1 sendable)

-- the next entry behind those that can be sent is too large
pub oversized-next : (tables : List Picked) (s : ShardName) (xs ys : List Entry) (e : Entry) → AreSendable tables s xs → is_sendable tables s e ≡ false → first_oversized tables s (xs ++ e ∷ ys) ≡ Some e
oversized-next tables s xs ys e h not = oversized-behind tables s xs (e ∷ ys) h ∙ ap (λ b. if b then first_oversized tables s ys else Some e) not

pub front-next : (tables : List Picked) (s : ShardName) (xs ys : List Entry) (e : Entry) → AreSendable tables s xs → is_sendable tables s e ≡ false → sendable_front tables s (xs ++ e ∷ ys) ≡ xs
front-next tables s xs ys e h not =
    front-behind tables s xs (e ∷ ys) h ∙ ap (λ b. xs ++ (if b then e ∷ sendable_front tables s ys else [])) not ∙ append-nil xs

pub front-next_sendable : (tables : List Picked) (s : ShardName) (xs ys : List Entry) (e : Entry) → AreSendable tables s xs → is_sendable tables s e ≡ true →
    sendable_front tables s (xs ++ e ∷ ys) ≡ xs ++ e ∷ sendable_front tables s ys
front-next_sendable tables s xs ys e h is = front-behind tables s xs (e ∷ ys) h ∙ ap (λ b. xs ++ (if b then e ∷ sendable_front tables s ys else [])) is

-- what holds of all entries holds of those that are kept
pub kept : (P : Entry → Type 0) (f : Entry → Bool) (es : List Entry) → AllByRecursion P es → AllByRecursion P (filter f es)
kept P f [] h = tt
kept P f (e ∷ es) h = go (f e) (kept P f es h.1)
  where
    go : (b : Bool) → AllByRecursion P (filter f es) → AllByRecursion P (if b then e ∷ filter f es else filter f es)
    go true rest = (h.0, rest)
    go false rest = rest

-- and of the first ones
pub in_front : (P : Entry → Type 0) (xs ys : List Entry) → AllByRecursion P (xs ++ ys) → AllByRecursion P xs
in_front P [] ys h = tt
in_front P (x ∷ xs) ys h = (h.0, in_front P xs ys h.1)

-- ---- entries with their places

pub entries_of-split : (placed : List Placed) (i : ℕ) (t : Placed) → i < length placed → t ≡ get_or placed i t →
    entries_of placed ≡ entries_of (take i placed) ++ t.entry ∷ entries_of (drop (suc i) placed)
entries_of-split placed i t inside is = ap entries_of (split_at placed i t inside is) ∙ map-append (λ x. x.entry) (take i placed) (t ∷ drop (suc i) placed)

pub entries_of-next : (placed : List Placed) (i : ℕ) (t : Placed) → i < length placed → t ≡ get_or placed i t →
    entries_of (take (i + 1) placed) ≡ entries_of (take i placed) ++ t.entry ∷ []
entries_of-next placed i t inside is = ap entries_of (take_next placed i t inside is) ∙ map-append (λ x. x.entry) (take i placed) (t ∷ [])

pub entries_of-take : (placed : List Placed) (n : ℕ) → entries_of (take n placed) ≡ take n (entries_of placed)
entries_of-take placed n = sym (take-map (λ t. t.entry) n placed)

placed_in : (before later : List Placed) (t : Placed) → IsPlaced (before ++ t ∷ later) t.entry.gtid t.at
placed_in [] later t = ◌⊎◌.inl (refl, refl)
placed_in (x ∷ before) later t = ◌⊎◌.inr (placed_in before later t)

pub placed_at : (placed : List Placed) (i : ℕ) (t : Placed) → i < length placed → t ≡ get_or placed i t → IsPlaced placed t.entry.gtid t.at
placed_at placed i t inside is = subst (λ l. IsPlaced l t.entry.gtid t.at) (sym (split_at placed i t inside is)) (placed_in (take i placed) (drop (suc i) placed) t)

-- where each entry stands where it is told to, what is told is so
pub placed_so : (P : Gtid → ℕ → Type 0) (placed : List Placed) (g : Gtid) (at : ℕ) → ArePlaced P placed → IsPlaced placed g at → P g at
placed_so P [] g at h is = absurd is
placed_so P (t ∷ placed) g at h (◌⊎◌.inl (same, there)) = subst (λ x. P x at) same (subst (λ n. P t.entry.gtid n) there h.0)
placed_so P (t ∷ placed) g at h (◌⊎◌.inr later) = placed_so P placed g at h.1 later

-- what a position lacks of the entries, around one that it lacks
pub lacking_of-split : (p : Position) (placed : List Placed) (i : ℕ) (t : Placed) → i < length placed → t ≡ get_or placed i t → has p t.entry.gtid ≡ false →
    lacking p (entries_of placed) ≡ lacking p (entries_of (take i placed)) ++ t.entry ∷ lacking p (entries_of (drop (suc i) placed))
lacking_of-split p placed i t inside is lacks =
    ap (λ es. lacking p es) (entries_of-split placed i t inside is) ∙ lacking-split p (entries_of (take i placed)) (entries_of (drop (suc i) placed)) t.entry lacks

pub lacking_of-next : (p : Position) (placed : List Placed) (i : ℕ) (t : Placed) → i < length placed → t ≡ get_or placed i t → has p t.entry.gtid ≡ false →
    lacking p (entries_of (take (i + 1) placed)) ≡ lacking p (entries_of (take i placed)) ++ t.entry ∷ []
lacking_of-next p placed i t inside is lacks = ap (λ es. lacking p es) (entries_of-next placed i t inside is) ∙ lacking-out p (entries_of (take i placed)) t.entry lacks

-- the next entry that a position lacks is too large
pub stops_at : (tables : List Picked) (s : ShardName) (p : Position) (placed : List Placed) (i : ℕ) (t : Placed) (bytes : ℕ) → i < length placed → t ≡ get_or placed i t → has p t.entry.gtid ≡ false →
    IsOversized tables s t.entry bytes → AreSendable tables s (lacking p (entries_of (take i placed))) → FitAlong p (lacking p (entries_of (take i placed))) →
    StopsAtOversized (IsPlaced placed) tables s p (lacking p (entries_of placed)) t.at bytes
stops_at tables s p placed i t bytes inside is lacks over sendable fits =
    let are = lacking_of-split p placed i t inside is lacks in
    let front : List Entry = lacking p (entries_of (take i placed)) in
    let back : List Entry = lacking p (entries_of (drop (suc i) placed)) in
    let not : is_sendable tables s t.entry ≡ false = oversized_not tables s t.entry over.0 over.1 in (
      t.entry,
      ap (first_oversized tables s) are ∙ oversized-next tables s front back t.entry sendable not,
      (placed_at placed i t inside is, over),
      subst (λ es. FitAlong p es) (sym (ap (sendable_front tables s) are ∙ front-next tables s front back t.entry sendable not)) fits,
    )

-- the next entry that a position lacks can be sent, and makes a position that is too large
pub too_large_at : (tables : List Picked) (s : ShardName) (p q : Position) (placed : List Placed) (i : ℕ) (t : Placed) → i < length placed → t ≡ get_or placed i t → has p t.entry.gtid ≡ false →
    IsSendable tables s t.entry → AreSendable tables s (lacking p (entries_of (take i placed))) → q ≡ position_after p (lacking p (entries_of (take i placed))) → 1024 < length (added q t.entry.gtid) →
    IsTooLargeAlong p (sendable_front tables s (lacking p (entries_of placed)))
too_large_at tables s p q placed i t inside is lacks so sendable at large =
    let front : List Entry = lacking p (entries_of (take i placed)) in
    let back : List Entry = lacking p (entries_of (drop (suc i) placed)) in (
      front,
      t.entry ∷ sendable_front tables s back,
      ap (sendable_front tables s) (lacking_of-split p placed i t inside is lacks) ∙ front-next_sendable tables s front back t.entry sendable (sendable_is tables s t.entry so),
      subst (λ r. 1024 < length (added r t.entry.gtid)) at large,
    )

-- ---- by what a body says

not_over : (x : ℕ) → x ≤ 8388608 → nat_lt 8388608 x ≡ false
not_over x h = grind (arith, nat_tests)

none_over : (xs : List ℕ) → All (λ n. n ≤ most_body) xs → find (nat_lt most_body) xs ≡ None
none_over [] h = refl
none_over (x ∷ xs) h =
    ap (λ b. if b then Some x else find (nat_lt most_body) xs) (not_over x (All-head (λ n. n ≤ most_body) x xs h)) ∙ none_over xs (All-tail (λ n. n ≤ most_body) x xs h)

-- a body within the limit can be sent
pub sendable_within : (tables : List Picked) (s : ShardName) (e : Entry) → IsWithin (entry_body tables s e) → IsSendable tables s e
unfolding size_over
sendable_within tables s e h = none_over (sizes_of (entry_body tables s e)) h

-- one over it can't
pub oversized_said : (tables : List Picked) (s : ShardName) (e : Entry) (bytes : ℕ) → IsTooLarge (entry_body tables s e) bytes → IsOversized tables s e bytes
unfolding size_over
oversized_said tables s e bytes h = h
