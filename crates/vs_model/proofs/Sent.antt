-- What a shard sends from one position to the next.
use Rattle.std.proofs.Common.{◌≡◌, ◌≢◌, Bool, true, false, not, cond, List, [], ◌∷◌, ◌++◌, append-nil, filter, refl, ap, sym, ◌∙◌, subst, is_some}
use Rattle.std.specs.List.{list_any, AllZip, AllByRecursion}
use Rattle.std.proofs.lemmas.Bool.{or_parts, or_from, or_left, or_right}
use Rattle.std.proofs.Math.Bool.{or-false}
use Rattle.std.proofs.lemmas.List.Elements.{filter-append}
use Rattle.vs_base.specs.declared.ShardName.{ShardName}
use Rattle.vs_base.proofs.NameLemmas.{same_gtid-refl}
use Rattle.vs_gtid.specs.declared.Entry.{Entry}
use Rattle.vs_model.specs.Names.{Position, IsSubset, same_gtid, has}
use Rattle.vs_model.specs.Logs.{Log, HaveDistinctGtids, IsPositionAfter, after, due, between, is_gtid_of, own_journal, up_to_own}
use Rattle.vs_model.specs.Frames.{Frame, frames_of}
use Rattle.vs_model.specs.Copy.{Bound}
use Rattle.vs_model.specs.Legal.{IsTxOf, Sends}
use Rattle.vs_model.proofs.Each.{all_weaker}
use Rattle.vs_model.proofs.Entries.{due-sent}

module _ {X : Type 0} where
  cut_either : (t : X → Bool) (b : Bool) (x : X) (xs : List X) → t x ≡ false → list_any t xs ≡ false → list_any t (cond b [] (x ∷ xs)) ≡ false
  cut_either t true x xs e h = refl
  cut_either t false x xs e h = or_from (t x) (list_any t xs) e h

  lacks_either : (t : X → Bool) (b : Bool) (x : X) (xs : List X) → t x ≡ b → list_any t xs ≡ false → list_any t (cond (not b) (x ∷ xs) xs) ≡ false
  lacks_either t true x xs e h = h
  lacks_either t false x xs e h = or_from (t x) (list_any t xs) e h

  pub none_refused : (t : X → Bool) (xs : List X) → list_any t (filter (λ x. not (t x)) xs) ≡ false
  none_refused t [] = refl
  none_refused t (x ∷ xs) = lacks_either t (t x) x (filter (λ y. not (t y)) xs) refl (none_refused t xs)

  pub filter_none : (t : X → Bool) (xs : List X) → list_any t xs ≡ false → filter t xs ≡ []
  filter_none t [] h = refl
  filter_none t (x ∷ xs) h =
      let parts = or_parts (t x) (list_any t xs) h in
      ap (λ b. cond b (x ∷ filter t xs) (filter t xs)) parts.0 ∙ filter_none t xs parts.1

  pub filter_passed : (t : X → Bool) (xs : List X) → AllByRecursion (λ x. t x ≡ true) xs → filter t xs ≡ xs
  filter_passed t [] h = refl
  filter_passed t (x ∷ xs) h =
      ap (λ b. cond b (x ∷ filter t xs) (filter t xs)) h.0 ∙ ap (λ l. x ∷ l) (filter_passed t xs h.1)

none_up_to_own : (t : Entry → Bool) (s : ShardName) (es : List Entry) → list_any t es ≡ false → list_any t (up_to_own s es) ≡ false
none_up_to_own t s [] h = refl
none_up_to_own t s (e ∷ es) h =
    let parts = or_parts (t e) (list_any t es) h in
    cut_either t (is_some (own_journal s e)) e (up_to_own s es) parts.0 (none_up_to_own t s es parts.1)

-- p has none of the entries that are due from it
pub due_lacked : (s : ShardName) (log : Log) (p : Position) → between s log p p ≡ []
due_lacked s log p =
    filter_none (λ e. has p e.gtid) (due s log p)
    (none_up_to_own (λ e. has p e.gtid) s (after log p) (none_refused (λ e. has p e.gtid) log.entries))

pub gtids_of_all : (es : List Entry) → AllByRecursion (λ e. is_gtid_of es e.gtid ≡ true) es
gtids_of_all [] = tt
gtids_of_all (e ∷ es) = (
  or_left (same_gtid e.gtid e.gtid) (is_gtid_of es e.gtid) (same_gtid-refl e.gtid),
  all_weaker (λ f. is_gtid_of es f.gtid ≡ true) (λ f. is_gtid_of (e ∷ es) f.gtid ≡ true)
      (λ f h. or_right (same_gtid e.gtid f.gtid) (is_gtid_of es f.gtid) h) es (gtids_of_all es),
)

-- what was sent is what lies between
pub between-sent : (s : ShardName) (log : Log) (p q : Position) (sent rest : List Entry) → HaveDistinctGtids log.entries →
    due s log p ≡ sent ++ rest → IsPositionAfter p sent q → between s log p q ≡ sent
between-sent s log p q sent rest distinct split grown =
    let has_it : Entry → Bool = λ e. has q e.gtid in
    let passed = all_weaker (λ e. is_gtid_of sent e.gtid ≡ true) (λ e. has_it e ≡ true)
    (λ e h. grown e.gtid ∙ or_right (has p e.gtid) (is_gtid_of sent e.gtid) h) sent (gtids_of_all sent) in
    let none_left : filter has_it rest ≡ [] =
    subst (λ l. filter has_it l ≡ []) (due-sent s log p q sent rest distinct split grown) (due_lacked s log q) in
    ap (filter has_it) split ∙ filter-append has_it sent rest ∙ ap (λ l. filter has_it sent ++ l) none_left
    ∙ append-nil (filter has_it sent) ∙ filter_passed has_it sent passed

module _ (bound : Bound) (s : ShardName) (log : Log) where
  -- by what was sent, in place of what lies between
  pub sends_from : (p q : Position) (fs : List Frame) (sent rest : List Entry) → between s log p q ≡ sent → due s log p ≡ sent ++ rest →
      AllZip (IsTxOf bound) (frames_of s fs) sent → (frames_of s fs ≢ [] → IsSubset log.base p) → IsPositionAfter p sent q → Sends bound s log p q fs
  sends_from p q fs sent rest is split frames base grown =
      let back = sym is in
      record {
        first = (rest, subst (λ es. due s log p ≡ es ++ rest) back split);
        frames = subst (AllZip (IsTxOf bound) (frames_of s fs)) back frames;
        base = base;
        position = subst (λ es. IsPositionAfter p es q) back grown;
      }

  -- a shard with no frame stays where it is
  pub sends_nothing : (p : Position) (fs : List Frame) → frames_of s fs ≡ [] → Sends bound s log p p fs
  sends_nothing p fs no_frame =
      sends_from p p fs [] (due s log p) (due_lacked s log p) refl
      (subst (λ l. AllZip (IsTxOf bound) l []) (sym no_frame) tt)
      (λ some. absurd (some no_frame)) (λ g. sym (or-false (has p g)))
