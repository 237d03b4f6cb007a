-- What a lane gives goes on from each place to which its pieces lead.
use Rattle.std.proofs.Common.{◌≡◌, ◌||◌, ℕ, false, List, [], ◌∷◌, ◌++◌, append_assoc, map, Option, Some, None, IfSome, refl, ap, sym, ◌∙◌, subst, true≢false}
use Rattle.std.proofs.lemmas.Bool.{or_left}
use Rattle.vs_base.specs.declared.ShardName.{ShardName}
use Rattle.vs_base.specs.declared.Gtid.{Gtid}
use Rattle.vs_base.specs.declared.LastKey.{LastKey}
use Rattle.vs_gtid.specs.declared.JournalValue.{JournalValue}
use Rattle.vs_gtid.specs.declared.Entry.{Entry}
use Rattle.vs_gtid.proofs.EqualSets.{canonical_unique}
use Rattle.vs_gtid.specs.Positions.{has}
use Rattle.vs_model.specs.Names.{Position, IsSubset, SameSet, same_gtid}
use Rattle.vs_model.specs.Logs.{Image, Log, HaveDistinctGtids, IsPositionAfter, due, stop}
use Rattle.vs_gtid.specs.Vectors.{Place, IsCanonicalPlace}
use Rattle.vs_gtid.specs.Vectors.Place.{Fresh, Copying, Streaming}
use Rattle.vs_model.specs.Copy.{Bound, picked, IsCopiedTx}
use Rattle.vs_model.specs.Steps.{AreFirstDue}
use Rattle.vs_model.specs.Core.{Piece, PlaceAfter, IsOfCopy, AreStreamed, AreGiven, HasBase}
use Rattle.vs_model.specs.Core.Piece.{Transaction, CopiedRows, CopyEnd}
use Rattle.vs_model.proofs.Lists.{cons_is_not_nil, same_head, same_tail, same_some, some_is_not_none}
use Rattle.vs_model.proofs.Entries.{due-sent, stop-sent}
use Rattle.vs_model.proofs.Runs.{AllZip-nil}
use Rattle.vs_model.proofs.Lanes.{AreTold, grown_by_told}

same_told : (w t : Entry) → Transaction w ≡ Transaction t → w ≡ t
same_told w t e = cc

module _ (bound : Bound) (s : ShardName) (log : Log) where
  -- the first pieces of some transactions are those of the first entries
  record FrontTold (xs : List Piece) (sent : List Entry) : Type 0 where
    told : List Entry
    before : List Entry
    behind : List Entry
    are : xs ≡ map Transaction told
    split : sent ≡ before ++ behind
    each : AreTold bound told before

  front_told : (xs ys : List Piece) (told sent : List Entry) → xs ++ ys ≡ map Transaction told → AreTold bound told sent → FrontTold xs sent
  front_told [] ys told sent is h = record { told = []; before = []; behind = sent; are = refl; split = refl; each = tt }
  front_told (x ∷ xs) ys [] sent is h = absurd (cons_is_not_nil _ _ is)
  front_told (x ∷ xs) ys (w ∷ told) [] is h = absurd h
  front_told (x ∷ xs) ys (w ∷ told) (e ∷ sent) is h =
      let on = front_told xs ys told sent (same_tail _ _ _ _ is) h.1 in
      record {
        told = w ∷ on.told;
        before = e ∷ on.before;
        behind = on.behind;
        are = ap (λ y. y ∷ xs) (same_head _ _ _ _ is) ∙ ap (λ l. Transaction w ∷ l) on.are;
        split = ap (λ l. e ∷ l) on.split;
        each = (h.0, on.each);
      }

  -- the first pieces of a lane are what a lane may give
  streamed_before : (p : Position) (xs ys : List Piece) (last : Option JournalValue) → AreStreamed bound s log p (xs ++ ys) last →
      AreStreamed bound s log p xs None
  streamed_before p xs ys last all =
      let first = front_told xs ys all.told all.due_ones.sent all.are all.due_ones.each in
      record {
        told = first.told;
        are = first.are;
        due_ones = record {
          sent = first.before;
          rest = first.behind ++ all.due_ones.rest;
          split = all.due_ones.split ∙ ap (λ l. l ++ all.due_ones.rest) first.split ∙ append_assoc first.before first.behind all.due_ones.rest;
          each = first.each;
        };
        own = tt;
      }

  pub given_before : (xs ys : List Piece) (last : Option JournalValue) (place : Place) → AreGiven bound s log (xs ++ ys) last place →
      AreGiven bound s log xs None place
  given_before xs ys last (Streaming p) g = streamed_before p xs ys last g
  given_before [] ys last Fresh g = refl
  given_before [] ys last (Copying p l) g = refl
  given_before (x ∷ xs) ys last Fresh g = (g.0, g.1, g.2, given_before xs ys last g.0 g.3)
  given_before (x ∷ xs) ys last (Copying p l) g = (g.0, g.1, g.2, given_before xs ys last g.0 g.3)

  -- where a lane streams, its next piece is the transaction of the first entry that is due
  pub record NextStreamed (p : Position) (w : Entry) : Type 0 where
    pub e : Entry
    pub rest : List Entry
    pub first : due s log p ≡ e ∷ rest
    pub told_is : w ≡ picked bound e

  module _ (p : Position) (w : Entry) (pieces : List Piece) where
    first_of_due : (told sent rest : List Entry) → Transaction w ∷ pieces ≡ map Transaction told → AreTold bound told sent →
        due s log p ≡ sent ++ rest → NextStreamed p w
    first_of_due [] sent rest is h split = absurd (cons_is_not_nil _ _ is)
    first_of_due (t ∷ told) [] rest is h split = absurd h
    first_of_due (t ∷ told) (e ∷ sent) rest is h split =
        record { e = e; rest = sent ++ rest; first = split; told_is = same_told w t (same_head _ _ _ _ is) ∙ h.0 }

    pub next_streamed : (last : Option JournalValue) → AreStreamed bound s log p (Transaction w ∷ pieces) last → NextStreamed p w
    next_streamed last all = first_of_due all.told all.due_ones.sent all.due_ones.rest all.are all.due_ones.each all.due_ones.split

    module _ (q : Position) (last : Option JournalValue) (distinct : HaveDistinctGtids log.entries) (grown : IsPositionAfter p (w ∷ []) q) where
      streamed_rest : (told sent rest : List Entry) → Transaction w ∷ pieces ≡ map Transaction told → AreTold bound told sent →
          due s log p ≡ sent ++ rest → IfSome last (λ j. (rest ≡ []) × (stop s log p ≡ Some j)) → AreStreamed bound s log q pieces last
      streamed_rest [] sent rest is h split own = absurd (cons_is_not_nil _ _ is)
      streamed_rest (t ∷ told) [] rest is h split own = absurd h
      streamed_rest (t ∷ told) (e ∷ sent) rest is h split own =
          let by_entry = grown_by_told bound p q (w ∷ []) (e ∷ []) (same_told w t (same_head _ _ _ _ is) ∙ h.0, tt) grown in
          record {
            told = told;
            are = same_tail _ _ _ _ is;
            due_ones = record { sent = sent; rest = rest; split = due-sent s log p q (e ∷ []) (sent ++ rest) distinct split by_entry; each = h.1 };
            own = subst (λ o. IfSome last (λ j. (rest ≡ []) × (o ≡ Some j))) (sym (stop-sent s log p q (e ∷ []) (sent ++ rest) distinct split by_entry)) own;
          }

      streamed_on : AreStreamed bound s log p (Transaction w ∷ pieces) last → AreStreamed bound s log q pieces last
      streamed_on all = streamed_rest all.told all.due_ones.sent all.due_ones.rest all.are all.due_ones.each all.due_ones.split all.own

  -- a lane that streams gives transactions alone
  only_told : (piece : Piece) (pieces : List Piece) (told : List Entry) → ((w : Entry) → piece ≡ Transaction w → ⊥) → piece ∷ pieces ≡ map Transaction told → ⊥
  only_told piece pieces [] other is = cons_is_not_nil _ _ is
  only_told piece pieces (w ∷ told) other is = other w (same_head _ _ _ _ is)

  rows_not_told : (table : List ℕ) (rows : List Image) (time : ℕ) (q : Position) (l : LastKey) (w : Entry) → CopiedRows table rows time q l ≡ Transaction w → ⊥
  rows_not_told table rows time q l w e = cc

  end_not_told : (time : ℕ) (q : Position) (w : Entry) → CopyEnd time q ≡ Transaction w → ⊥
  end_not_told time q w e = cc

  pub rows_not_streamed : (p : Position) (table : List ℕ) (rows : List Image) (time : ℕ) (q : Position) (l : LastKey) (pieces : List Piece)
      (last : Option JournalValue) → AreStreamed bound s log p (CopiedRows table rows time q l ∷ pieces) last → ⊥
  rows_not_streamed p table rows time q l pieces last given =
      only_told (CopiedRows table rows time q l) pieces given.told (rows_not_told table rows time q l) given.are

  pub end_not_streamed : (p : Position) (time : ℕ) (q : Position) (pieces : List Piece) (last : Option JournalValue) →
      AreStreamed bound s log p (CopyEnd time q ∷ pieces) last → ⊥
  end_not_streamed p time q pieces last given = only_told (CopyEnd time q) pieces given.told (end_not_told time q) given.are

  -- a piece of a copy fixes the place after it
  copied_same : (p q : Position) (l : LastKey) (w : Entry) (mid new : Place) → IsCopiedTx bound s log p l w (Some mid) → IsCanonicalPlace mid →
      IsPositionAfter p (w ∷ []) q → new ≡ Copying q l → IsCanonicalPlace new → mid ≡ new
  copied_same p q l w mid new tx canonical grown is canonical_new =
      let mid_is = same_some mid (Copying tx.q l) tx.place in
      let gtid : (g : Gtid) → same_gtid w.gtid g ≡ same_gtid tx.e.gtid g = λ g. ap (λ x. same_gtid x.gtid g) tx.told_is in
      let same : SameSet tx.q q = λ g. tx.grown g ∙ ap (λ b. has p g || (b || false)) (sym (gtid g)) ∙ sym (grown g) in
      mid_is ∙ ap (λ x. Copying x l) (canonical_unique tx.q q (subst IsCanonicalPlace mid_is canonical) (subst IsCanonicalPlace is canonical_new) same) ∙ sym is

  pub same_place : (old mid new : Place) (piece : Piece) → IsOfCopy bound s log old piece mid → IsCanonicalPlace mid → PlaceAfter old piece new →
      IsCanonicalPlace new → mid ≡ new
  same_place Fresh mid new (Transaction w) step canonical moves canonical_new = absurd step
  same_place (Copying p l) mid new (Transaction w) step canonical moves canonical_new =
      copied_same p moves.0 l w mid new step canonical moves.1 moves.2 canonical_new
  same_place (Streaming p) mid new (Transaction w) step canonical moves canonical_new = absurd step
  same_place Fresh mid new (CopiedRows table rows time q l) step canonical moves canonical_new = step.1 ∙ sym moves
  same_place (Copying p k) mid new (CopiedRows table rows time q l) step canonical moves canonical_new = step.1 ∙ sym moves
  same_place (Streaming p) mid new (CopiedRows table rows time q l) step canonical moves canonical_new = step.1 ∙ sym moves
  same_place Fresh mid new (CopyEnd time q) step canonical moves canonical_new = step.1 ∙ sym moves
  same_place (Copying p l) mid new (CopyEnd time q) step canonical moves canonical_new = step.1 ∙ sym moves
  same_place (Streaming p) mid new (CopyEnd time q) step canonical moves canonical_new = step.1 ∙ sym moves

  module _ (distinct : HaveDistinctGtids log.entries) (pieces : List Piece) (last : Option JournalValue) (new : Place) (canonical : IsCanonicalPlace new) where
    -- what is left is given from the place after the first piece
    copy_given_on : (old : Place) (piece : Piece) (mid : Place) → IsOfCopy bound s log old piece mid → IsCanonicalPlace mid → PlaceAfter old piece new →
        AreGiven bound s log pieces last mid → AreGiven bound s log pieces last new
    copy_given_on old piece mid step canonical_mid moves given =
        subst (AreGiven bound s log pieces last) (same_place old mid new piece step canonical_mid moves canonical) given

    pub given_on : (old : Place) (piece : Piece) → AreGiven bound s log (piece ∷ pieces) last old → PlaceAfter old piece new →
        AreGiven bound s log pieces last new
    given_on Fresh piece given moves = copy_given_on Fresh piece given.0 given.2 given.1 moves given.3
    given_on (Copying p l) piece given moves = copy_given_on (Copying p l) piece given.0 given.2 given.1 moves given.3
    given_on (Streaming p) (Transaction w) given moves =
        subst (AreGiven bound s log pieces last) (sym moves.2) (streamed_on p w pieces moves.0 last distinct moves.1 given)
    given_on (Streaming p) (CopiedRows table rows time q l) given moves =
        absurd (rows_not_streamed p table rows time q l pieces last given)
    given_on (Streaming p) (CopyEnd time q) given moves = absurd (end_not_streamed p time q pieces last given)

    -- and the place after it has the base, where the place before it has
    subset_of_empty : (q : Position) → SameSet log.base [] → IsSubset log.base q
    unfolding has
    subset_of_empty q none g in_base = absurd (true≢false (sym in_base ∙ none g))

    pub base_on : (old : Place) (piece : Piece) → AreGiven bound s log (piece ∷ pieces) last old → PlaceAfter old piece new → HasBase log old → HasBase log new
    base_on Fresh (Transaction w) given moves base = absurd moves
    base_on (Copying p l) (Transaction w) given moves base = subst (HasBase log) (sym moves.2) base
    base_on (Streaming p) (Transaction w) given moves base =
        subst (HasBase log) (sym moves.2) (λ g in_base. moves.1 g ∙ or_left (has p g) _ (base g in_base))
    base_on Fresh (CopiedRows table rows time q l) given moves base = subst (HasBase log) (sym moves) base
    base_on (Copying p k) (CopiedRows table rows time q l) given moves base = subst (HasBase log) (sym moves) base
    base_on (Streaming p) (CopiedRows table rows time q l) given moves base =
        absurd (rows_not_streamed p table rows time q l pieces last given)
    base_on Fresh (CopyEnd time q) given moves base = subst (HasBase log) (sym moves) (subset_of_empty q base)
    base_on (Copying p l) (CopyEnd time q) given moves base = subst (HasBase log) (sym moves) (subset_of_empty q base)
    base_on (Streaming p) (CopyEnd time q) given moves base = absurd (end_not_streamed p time q pieces last given)

  -- a lane that came to its journal streams, with nothing due
  no_piece_due : (p : Position) (told : List Entry) → [] ≡ map Transaction told → (all : AreFirstDue bound s log p told) → all.rest ≡ [] → due s log p ≡ []
  no_piece_due p [] is all none =
      all.split ∙ ap (λ l. l ++ all.rest) (AllZip-nil (λ w e. w ≡ picked bound e) all.sent all.each) ∙ none
  no_piece_due p (w ∷ told) is all none = absurd (cons_is_not_nil _ _ (sym is))

  pub at_journal : (place : Place) (j : JournalValue) → AreGiven bound s log [] (Some j) place →
      (p : Position) × (place ≡ Streaming p) × (due s log p ≡ []) × (stop s log p ≡ Some j)
  at_journal Fresh j given = absurd (some_is_not_none j given)
  at_journal (Copying p l) j given = absurd (some_is_not_none j given)
  at_journal (Streaming p) j given = (p, refl, no_piece_due p given.told given.are given.due_ones given.own.0, given.own.1)
