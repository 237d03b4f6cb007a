-- What is due after the first entries that were due were sent.
use Rattle.std.proofs.Common.{◌≡◌, Bool, true, false, not, cond, ◌||◌, ◌&&◌, List, [], ◌∷◌, ◌++◌, append_assoc, Option, Some, None, is_some, refl, ap, sym, ◌∙◌, subst, filter}
use Rattle.std.specs.List.{list_any}
use Rattle.std.specs.Option.{option_or}
use Rattle.std.proofs.lemmas.List.Elements.{filter_agree}
use Rattle.std.proofs.Math.Bool.{or_assoc}
use Rattle.vs_base.specs.declared.ShardName.{ShardName}
use Rattle.vs_base.specs.declared.Gtid.{Gtid}
use Rattle.vs_base.proofs.NameLemmas.{same_gtid-refl}
use Rattle.vs_gtid.specs.declared.Entry.{Entry}
use Rattle.vs_gtid.specs.declared.JournalValue.{JournalValue}
use Rattle.vs_model.specs.Names.{Position, SameSet, same_gtid, has}
use Rattle.vs_model.specs.Logs.{Log, HaveDistinctGtids, IsPositionAfter, after, due, stop, is_gtid_of, own_journal, up_to_own, first_own}
use Rattle.vs_model.proofs.Lists.{cons_is_not_nil, same_head, same_tail, not_either, filter-filter, filter_all, drop_none, none_in_filter}

distinct_either : (a : Bool) (e : Entry) (es : List Entry) → list_any (λ f. same_gtid e.gtid f.gtid) es ≡ false → HaveDistinctGtids es →
    HaveDistinctGtids (cond a (e ∷ es) es)
distinct_either true e es h d = (h, d)
distinct_either false e es h d = d

pub distinct_in_filter : (t : Entry → Bool) (es : List Entry) → HaveDistinctGtids es → HaveDistinctGtids (filter t es)
distinct_in_filter t [] d = tt
distinct_in_filter t (e ∷ es) d =
    distinct_either (t e) e (filter t es) (none_in_filter (λ f. same_gtid e.gtid f.gtid) t es d.0) (distinct_in_filter t es d.1)

-- the entries of which none was sent
abbrev pub unsent : List Entry → List Entry → List Entry
unsent sent es = filter (λ e. not (is_gtid_of sent e.gtid)) es

-- the position after the sent entries lacks what the position before lacks, without them
pub after-sent : (log : Log) (p q : Position) (sent : List Entry) → IsPositionAfter p sent q → after log q ≡ unsent sent (after log p)
after-sent log p q sent grown =
    let is_sent : Entry → Bool = λ e. is_gtid_of sent e.gtid in
    filter_agree (λ e. not (has q e.gtid)) (λ e. not (has p e.gtid) && not (is_sent e))
    (λ e. ap not (grown e.gtid) ∙ not_either (has p e.gtid) (is_sent e)) log.entries
    ∙ sym (filter-filter (λ e. not (has p e.gtid)) (λ e. not (is_sent e)) log.entries)

dropped_first : (a b : Bool) (e : Entry) (es : List Entry) → a ≡ true → cond (not (a || b)) (e ∷ es) es ≡ es
dropped_first true b e es h = refl
dropped_first false b e es h = ap (λ t. cond (not (t || b)) (e ∷ es) es) h

-- the first entry of the log, once sent, is the only one that is dropped for it
unsent-first : (e : Entry) (sent es : List Entry) → HaveDistinctGtids (e ∷ es) → unsent (e ∷ sent) (e ∷ es) ≡ unsent sent es
unsent-first e sent es d =
    dropped_first (same_gtid e.gtid e.gtid) (is_gtid_of sent e.gtid) e (unsent (e ∷ sent) es) (same_gtid-refl e.gtid)
    ∙ drop_none (λ f. same_gtid e.gtid f.gtid) (λ f. is_gtid_of sent f.gtid) es d.0

-- due goes on with the rest, and the journal ahead stays
abbrev GoesOn : ShardName → List Entry → List Entry → List Entry → Type 0
GoesOn s sent es rest = (up_to_own s (unsent sent es) ≡ rest) × (first_own s (unsent sent es) ≡ first_own s es)

module _ (s : ShardName) (a e : Entry) (sent es rest : List Entry) (d : HaveDistinctGtids (e ∷ es))
    (on : up_to_own s es ≡ sent ++ rest → GoesOn s sent es rest) where
  -- the first entry that was sent is the first of the log, for that is no own journal
  by_own : (own : Option JournalValue) → own_journal s e ≡ own → cond (is_some own) [] (e ∷ up_to_own s es) ≡ a ∷ sent ++ rest →
      GoesOn s (a ∷ sent) (e ∷ es) rest
  by_own (Some j) is split = absurd (cons_is_not_nil _ _ (sym split))
  by_own None is split =
      let after_it = on (same_tail _ _ _ _ split) in
      let left : unsent (a ∷ sent) (e ∷ es) ≡ unsent sent es =
      subst (λ x. unsent (x ∷ sent) (e ∷ es) ≡ unsent sent es) (same_head _ _ _ _ split) (unsent-first e sent es d) in
      (ap (up_to_own s) left ∙ after_it.0, ap (first_own s) left ∙ after_it.1 ∙ sym (ap (λ o. option_or o (first_own s es)) is))

pub up_to_own-sent : (s : ShardName) (sent es rest : List Entry) → HaveDistinctGtids es → up_to_own s es ≡ sent ++ rest → GoesOn s sent es rest
up_to_own-sent s [] es rest d split = (ap (up_to_own s) (filter_all es) ∙ split, ap (first_own s) (filter_all es))
up_to_own-sent s (a ∷ sent) [] rest d split = absurd (cons_is_not_nil _ _ (sym split))
up_to_own-sent s (a ∷ sent) (e ∷ es) rest d split =
    by_own s a e sent es rest d (up_to_own-sent s sent es rest d.1) (own_journal s e) refl split

module _ (s : ShardName) (log : Log) (p q : Position) (sent rest : List Entry) (distinct : HaveDistinctGtids log.entries)
    (split : due s log p ≡ sent ++ rest) (grown : IsPositionAfter p sent q) where
  goes_on : GoesOn s sent (after log p) rest
  goes_on = up_to_own-sent s sent (after log p) rest (distinct_in_filter _ log.entries distinct) split

  pub due-sent : due s log q ≡ rest
  due-sent = ap (up_to_own s) (after-sent log p q sent grown) ∙ goes_on.0

  pub stop-sent : stop s log q ≡ stop s log p
  stop-sent = ap (first_own s) (after-sent log p q sent grown) ∙ goes_on.1

is_gtid_of-append : (xs ys : List Entry) (g : Gtid) → is_gtid_of (xs ++ ys) g ≡ (is_gtid_of xs g || is_gtid_of ys g)
is_gtid_of-append [] ys g = refl
is_gtid_of-append (x ∷ xs) ys g =
    ap (λ b. same_gtid x.gtid g || b) (is_gtid_of-append xs ys g) ∙ sym (or_assoc (same_gtid x.gtid g) (is_gtid_of xs g) (is_gtid_of ys g))

-- q has p and these, r has q and those
pub grown_twice : (p q r : Position) (xs ys : List Entry) → IsPositionAfter p xs q → IsPositionAfter q ys r → IsPositionAfter p (xs ++ ys) r
grown_twice p q r xs ys to_q to_r g =
    to_r g ∙ ap (λ b. b || is_gtid_of ys g) (to_q g) ∙ or_assoc (has p g) (is_gtid_of xs g) (is_gtid_of ys g)
    ∙ ap (λ b. has p g || b) (sym (is_gtid_of-append xs ys g))

pub due_twice : (s : ShardName) (log : Log) (p q : Position) (xs xs_rest ys ys_rest : List Entry) → HaveDistinctGtids log.entries →
    due s log p ≡ xs ++ xs_rest → IsPositionAfter p xs q → due s log q ≡ ys ++ ys_rest → due s log p ≡ (xs ++ ys) ++ ys_rest
due_twice s log p q xs xs_rest ys ys_rest distinct split to_q then =
    split ∙ ap (λ es. xs ++ es) (sym (due-sent s log p q xs xs_rest distinct split to_q) ∙ then) ∙ sym (append_assoc xs ys ys_rest)

-- of equal sets the same entries are due, up to the same journal
after-same : (log : Log) (p q : Position) → SameSet p q → after log p ≡ after log q
after-same log p q same = filter_agree (λ e. not (has p e.gtid)) (λ e. not (has q e.gtid)) (λ e. ap not (same e.gtid)) log.entries

pub due-same : (s : ShardName) (log : Log) (p q : Position) → SameSet p q → due s log p ≡ due s log q
due-same s log p q same = ap (up_to_own s) (after-same log p q same)

pub stop-same : (s : ShardName) (log : Log) (p q : Position) → SameSet p q → stop s log p ≡ stop s log q
stop-same s log p q same = ap (first_own s) (after-same log p q same)
