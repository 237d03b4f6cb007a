-- The entries before the first journal of the shard's own that a position lacks.
use Rattle.std.proofs.Common.{◌≡◌, ℕ, zero, suc, ◌+◌, ◌<◌, ◌≤◌, ℤ, Bool, true, false, List, [], ◌∷◌, ◌++◌, length, take, drop, get_or, Option, Some, None, if◌then◌else◌, is_some, is_none, refl, sym, ap, subst, ◌∙◌, append-nil, arith}
use Rattle.std.specs.Prelude.{◌⊎◌}
use Rattle.std.specs.List.{AllByRecursion}
use Rattle.std.specs.Option.{option_or}
use Rattle.std.proofs.lemmas.List.{take_all}
use Rattle.vs_base.specs.declared.Gtid.{Gtid}
use Rattle.vs_base.specs.declared.ShardName.{ShardName}
use Rattle.vs_base.specs.declared.Why.{Why}
use Rattle.vs_gtid.specs.declared.Entry.{Entry}
use Rattle.vs_gtid.specs.declared.JournalValue.{JournalValue}
use Rattle.vs_gtid.specs.Positions.{Position, has}
use Rattle.vs_gtid.specs.Logs.{Log}
use Rattle.vs_model.specs.Logs.{first_own, own_journal, stop, up_to_own}
use Rattle.vs_command.specs.declared.fetched.Placed.{Placed}
use Rattle.vs_command.specs.Fetched.{IsPlaced, entries_of}
use Rattle.vs_command.specs.Sending.{lacking}
use Rattle.vs_command.specs.Stops.{AreDue, end_of, number_of}
use Rattle.vs_command.proofs.SendLemmas.{lacking-in, lacking-out}
use Rattle.vs_command.proofs.StreamLemmas.{IsEndOf}
use Rattle.vs_command.proofs.SizeLemmas.{entries_of-next, lacking_of-split}

-- no journal of the shard's own is among the entries
abbrev pub NoneOwn : ShardName → List Entry → Type 0
NoneOwn s es = AllByRecursion (λ (e : Entry). own_journal s e ≡ None) es

none_numbered : (o : Option JournalValue) (number : Option ℤ) → number ≡ number_of o → is_none number ≡ true → o ≡ None
none_numbered None number h none = refl
none_numbered (Some j) number h none = absurd (let e : false ≡ true = ap is_none (sym h) ∙ none in cc)

up_to-behind : (s : ShardName) (xs ys : List Entry) → NoneOwn s xs → up_to_own s (xs ++ ys) ≡ xs ++ up_to_own s ys
up_to-behind s [] ys h = refl
up_to-behind s (x ∷ xs) ys h = ap (λ o. if is_some o then [] else x ∷ up_to_own s (xs ++ ys)) h.0 ∙ ap (λ l. x ∷ l) (up_to-behind s xs ys h.1)

first-behind : (s : ShardName) (xs ys : List Entry) → NoneOwn s xs → first_own s (xs ++ ys) ≡ first_own s ys
first-behind s [] ys h = refl
first-behind s (x ∷ xs) ys h = ap (λ o. option_or o (first_own s (xs ++ ys))) h.0 ∙ first-behind s xs ys h.1

up_to-all : (s : ShardName) (es : List Entry) → NoneOwn s es → up_to_own s es ≡ es
up_to-all s [] h = refl
up_to-all s (e ∷ es) h = ap (λ o. if is_some o then [] else e ∷ up_to_own s es) h.0 ∙ ap (λ l. e ∷ l) (up_to-all s es h.1)

first-none : (s : ShardName) (es : List Entry) → NoneOwn s es → first_own s es ≡ None
first-none s [] h = refl
first-none s (e ∷ es) h = ap (λ o. option_or o (first_own s es)) h.0 ∙ first-none s es h.1

none_more : (s : ShardName) (es : List Entry) (e : Entry) → NoneOwn s es → own_journal s e ≡ None → NoneOwn s (es ++ e ∷ [])
none_more s [] e h none = (none, tt)
none_more s (x ∷ es) e h none = (h.0, none_more s es e h.1 none)

-- an entry that the position has changes nothing
pub known_passed : (s : ShardName) (p : Position) (placed : List Placed) (i : ℕ) (t : Placed) → i < length placed → t ≡ get_or placed i t → has p t.entry.gtid ≡ true →
    NoneOwn s (lacking p (entries_of (take i placed))) → NoneOwn s (lacking p (entries_of (take (i + 1) placed)))
known_passed s p placed i t inside is known none =
    subst (λ es. NoneOwn s (lacking p es)) (sym (entries_of-next placed i t inside is)) (subst (NoneOwn s) (sym (lacking-in p (entries_of (take i placed)) t.entry known)) none)

-- nor does one that is no journal of the shard's own
pub other_passed : (s : ShardName) (p : Position) (placed : List Placed) (i : ℕ) (t : Placed) (number : Option ℤ) → number ≡ number_of (own_journal s t.entry) → is_none number ≡ true → i < length placed → t ≡ get_or placed i t →
    NoneOwn s (lacking p (entries_of (take i placed))) → NoneOwn s (lacking p (entries_of (take (i + 1) placed)))
other_passed s p placed i t number numbered other inside is none = go (has p t.entry.gtid) refl
  where
    go : (b : Bool) → has p t.entry.gtid ≡ b → NoneOwn s (lacking p (entries_of (take (i + 1) placed)))
    go true known = known_passed s p placed i t inside is known none
    go false lacks =
        subst (λ es. NoneOwn s (lacking p es)) (sym (entries_of-next placed i t inside is))
        (subst (NoneOwn s) (sym (lacking-out p (entries_of (take i placed)) t.entry lacks)) (none_more s (lacking p (entries_of (take i placed))) t.entry none (none_numbered (own_journal s t.entry) number numbered other)))

pub some_not_none : (number : Option ℤ) → is_some number ≡ true → is_none number ≡ false
some_not_none None some = absurd (cc)
some_not_none (Some id) some = refl

-- at the first journal of the shard's own
stopped_by : (s : ShardName) (p : Position) (placed : List Placed) (i : ℕ) (t : Placed) (number : Option ℤ) (own : Option JournalValue) → own_journal s t.entry ≡ own → number ≡ number_of own → is_none number ≡ false → i < length placed → t ≡ get_or placed i t →
    has p t.entry.gtid ≡ false → NoneOwn s (lacking p (entries_of (take i placed))) → AreDue s p (entries_of placed) (entries_of (take i placed)) number
stopped_by s p placed i t number None is numbered some inside at lacks none = absurd (let e : true ≡ false = ap is_none (sym numbered) ∙ some in cc)
stopped_by s p placed i t number (Some j) is numbered some inside at lacks none =
    let front : List Entry = lacking p (entries_of (take i placed)) in
    let back : List Entry = lacking p (entries_of (drop (suc i) placed)) in
    let are : lacking p (entries_of placed) ≡ front ++ t.entry ∷ back = lacking_of-split p placed i t inside at lacks in
    record {
      due = sym (ap (up_to_own s) are ∙ up_to-behind s front (t.entry ∷ back) none ∙ ap (λ o. front ++ (if is_some o then [] else t.entry ∷ up_to_own s back)) is ∙ append-nil front);
      stop = numbered ∙ sym (ap (λ es. number_of (first_own s es)) are ∙ ap number_of (first-behind s front (t.entry ∷ back) none) ∙ ap (λ o. number_of (option_or o (first_own s back))) is);
    }

pub stopped_at : (s : ShardName) (p : Position) (placed : List Placed) (i : ℕ) (t : Placed) (number : Option ℤ) → number ≡ number_of (own_journal s t.entry) → is_none number ≡ false → i < length placed → t ≡ get_or placed i t → has p t.entry.gtid ≡ false →
    NoneOwn s (lacking p (entries_of (take i placed))) → AreDue s p (entries_of placed) (entries_of (take i placed)) number
stopped_at s p placed i t number numbered some inside at lacks none = stopped_by s p placed i t number (own_journal s t.entry) refl numbered some inside at lacks none

-- where there is none
pub never_stopped : (s : ShardName) (p : Position) (placed : List Placed) (i : ℕ) → length placed ≤ i → NoneOwn s (lacking p (entries_of (take i placed))) → AreDue s p (entries_of placed) (entries_of placed) None
never_stopped s p placed i past none =
    let all : NoneOwn s (lacking p (entries_of placed)) = subst (λ l. NoneOwn s (lacking p (entries_of l))) (take_all i placed past) none in
    record { due = sym (up_to-all s (lacking p (entries_of placed)) all); stop = sym (ap number_of (first-none s (lacking p (entries_of placed)) all)) }

-- the first entries stand where all are told to
pub placed_first : (placed : List Placed) (n : ℕ) (g : Gtid) (at : ℕ) → IsPlaced (take n placed) g at → IsPlaced placed g at
placed_first placed zero g at h = absurd h
placed_first [] (suc n) g at h = absurd h
placed_first (t ∷ placed) (suc n) g at (◌⊎◌.inl same) = ◌⊎◌.inl same
placed_first (t ∷ placed) (suc n) g at (◌⊎◌.inr later) = ◌⊎◌.inr (placed_first placed n g at later)

-- ---- how a stream ends

-- where all that is due was sent
pub end_is : (s : ShardName) (log : Log) (p : Position) (number : Option ℤ) (fault : Option (ℕ × Why)) (o : Option JournalValue) → stop s log p ≡ o → number ≡ number_of o → fault ≡ log.fault → IsEndOf s log p (end_of s number fault)
end_is s log p (Some id) fault None at numbered is = absurd (cc)
end_is s log p (Some id) fault (Some j) at numbered is = (refl, (j, at, let same : id ≡ j.id = cc in sym same))
end_is s log p None fault (Some j) at numbered is = absurd (cc)
end_is s log p None (Some (offset, why)) None at numbered is = (refl, at, sym is)
end_is s log p None None None at numbered is = (at, sym is)
