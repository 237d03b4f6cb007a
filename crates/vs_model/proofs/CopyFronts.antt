-- A copy's position has the first entries of its log, and no others.
use Rattle.std.proofs.Common.{◌≡◌, Bool, true, false, cond, List, [], ◌∷◌, ◌++◌, Option, Some, None, is_some, take_while, refl, ap, sym, ◌∙◌, subst}
use Rattle.std.specs.List.{list_any, AllByRecursion}
use Rattle.std.proofs.lemmas.Bool.{or_parts, or_from}
use Rattle.std.proofs.lemmas.List.Sums.{take_while-cons}
use Rattle.vs_base.specs.declared.ShardName.{ShardName}
use Rattle.vs_gtid.specs.declared.JournalValue.{JournalValue}
use Rattle.vs_gtid.specs.declared.Entry.{Entry}
use Rattle.vs_gtid.specs.Positions.{has}
use Rattle.vs_model.specs.Names.{Position, same_gtid}
use Rattle.vs_model.specs.Logs.{Log, HaveDistinctGtids, IsPositionAfter, after, due, is_gtid_of, own_journal, up_to_own}
use Rattle.vs_model.specs.Copy.{front}
use Rattle.vs_model.proofs.Lists.{cons_is_not_nil, same_head, same_tail, filter_all}
use Rattle.vs_model.proofs.Sent.{gtids_of_all}
use Rattle.vs_model.proofs.Each.{all_weaker}

-- entries of which these are the first
abbrev Begins : List Entry → List Entry → Type 0
Begins sent es = (tail : List Entry) × (es ≡ sent ++ tail)

own_front : (s : ShardName) (sent es rest : List Entry) → up_to_own s es ≡ sent ++ rest → Begins sent es
own_front s [] es rest is = (es, refl)
own_front s (a ∷ sent) [] rest is = absurd (cons_is_not_nil _ _ (sym is))
own_front s (a ∷ sent) (e ∷ es) rest is = by (own_journal s e) is (λ on. own_front s sent es rest on)
  where
    by : (own : Option JournalValue) → cond (is_some own) [] (e ∷ up_to_own s es) ≡ a ∷ sent ++ rest →
        (up_to_own s es ≡ sent ++ rest → Begins sent es) → Begins (a ∷ sent) (e ∷ es)
    by (Some j) split on = absurd (cons_is_not_nil _ _ (sym split))
    by None split on =
        let behind = on (same_tail _ _ _ _ split) in
        (behind.0, ap (λ x. x ∷ es) (same_head _ _ _ _ split) ∙ ap (λ l. a ∷ l) behind.1)

none_of_tail : (e : Entry) (sent tail : List Entry) → list_any (λ f. same_gtid e.gtid f.gtid) (sent ++ tail) ≡ false →
    AllByRecursion (λ f. same_gtid e.gtid f.gtid ≡ false) tail
none_of_tail e (x ∷ sent) tail h = none_of_tail e sent tail (or_parts (same_gtid e.gtid x.gtid) (list_any (λ f. same_gtid e.gtid f.gtid) (sent ++ tail)) h).1
none_of_tail e [] [] h = tt
none_of_tail e [] (x ∷ tail) h =
    let parts = or_parts (same_gtid e.gtid x.gtid) (list_any (λ f. same_gtid e.gtid f.gtid) tail) h in
    (parts.0, none_of_tail e [] tail parts.1)

all_either : (e : Entry) (sent tail : List Entry) → AllByRecursion (λ f. same_gtid e.gtid f.gtid ≡ false) tail →
    AllByRecursion (λ f. is_gtid_of sent f.gtid ≡ false) tail → AllByRecursion (λ f. is_gtid_of (e ∷ sent) f.gtid ≡ false) tail
all_either e sent [] h k = tt
all_either e sent (x ∷ tail) h k = (or_from (same_gtid e.gtid x.gtid) (is_gtid_of sent x.gtid) h.0 k.0, all_either e sent tail h.1 k.1)

not_of_none : (tail : List Entry) → AllByRecursion (λ f. is_gtid_of [] f.gtid ≡ false) tail
not_of_none [] = tt
not_of_none (x ∷ tail) = (refl, not_of_none tail)

-- distinct GTIDs: none of the rest is that of a first entry
tail_apart : (sent tail : List Entry) → HaveDistinctGtids (sent ++ tail) → AllByRecursion (λ f. is_gtid_of sent f.gtid ≡ false) tail
tail_apart [] tail d = not_of_none tail
tail_apart (e ∷ sent) tail d = all_either e sent tail (none_of_tail e sent tail d.0) (tail_apart sent tail d.1)

taken_while : (t : Entry → Bool) (sent tail : List Entry) → AllByRecursion (λ e. t e ≡ true) sent → AllByRecursion (λ e. t e ≡ false) tail →
    take_while t (sent ++ tail) ≡ sent
taken_while t [] [] h k = refl
taken_while t [] (x ∷ tail) h k = take_while-cons t x tail ∙ ap (λ b. cond b (x ∷ take_while t tail) []) k.0
taken_while t (e ∷ sent) tail h k =
    take_while-cons t e (sent ++ tail) ∙ ap (λ b. cond b (e ∷ take_while t (sent ++ tail)) []) h.0 ∙ ap (λ l. e ∷ l) (taken_while t sent tail h.1 k)

-- the empty position lacks every entry
pub all_after : (log : Log) → after log [] ≡ log.entries
unfolding has
all_after log = filter_all log.entries

module _ (s : ShardName) (log : Log) (q : Position) (sent rest : List Entry) (distinct : HaveDistinctGtids log.entries)
    (split : due s log [] ≡ sent ++ rest) (grown : IsPositionAfter [] sent q) where
  has_of : (b : Bool) (e : Entry) → is_gtid_of sent e.gtid ≡ b → has q e.gtid ≡ b
  unfolding has
  has_of b e is = grown e.gtid ∙ is

  -- the entries before the first that the position lacks
  pub front-sent : front log q ≡ sent
  front-sent =
      let begins = own_front s sent log.entries rest (sym (ap (up_to_own s) (all_after log)) ∙ split) in
      ap (take_while (λ e. has q e.gtid)) begins.1
      ∙ taken_while (λ e. has q e.gtid) sent begins.0
      (all_weaker (λ e. is_gtid_of sent e.gtid ≡ true) (λ e. has q e.gtid ≡ true) (λ e h. has_of true e h) sent (gtids_of_all sent))
      (all_weaker (λ e. is_gtid_of sent e.gtid ≡ false) (λ e. has q e.gtid ≡ false) (λ e h. has_of false e h) begins.0
      (tail_apart sent begins.0 (subst HaveDistinctGtids begins.1 distinct)))
