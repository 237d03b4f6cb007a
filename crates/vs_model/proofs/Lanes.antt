-- Where a lane that reads from a position has come to.
use Rattle.std.proofs.Common.{◌≡◌, ◌||◌, List, [], ◌∷◌, ◌++◌, append_assoc, refl, ap, ◌∙◌}
use Rattle.std.specs.List.{AllZip}
use Rattle.vs_base.specs.declared.ShardName.{ShardName}
use Rattle.vs_base.specs.declared.Gtid.{Gtid}
use Rattle.vs_gtid.specs.declared.Entry.{Entry}
use Rattle.vs_model.specs.Names.{Position, same_gtid, has}
use Rattle.vs_model.specs.Logs.{Log, HaveDistinctGtids, IsPositionAfter, due, stop, is_gtid_of}
use Rattle.vs_model.specs.Copy.{Bound, picked}
use Rattle.vs_model.specs.Steps.{AreFirstDue}
use Rattle.vs_model.proofs.Entries.{due-sent, stop-sent}

module _ (bound : Bound) where
  abbrev pub AreTold : List Entry → List Entry → Type 0
  AreTold told es = AllZip (λ w e. w ≡ picked bound e) told es

  -- what is told of entries has their GTIDs
  told_gtids : (told es : List Entry) → AreTold told es → (g : Gtid) → is_gtid_of told g ≡ is_gtid_of es g
  told_gtids [] [] h g = refl
  told_gtids [] (e ∷ es) h g = absurd h
  told_gtids (w ∷ told) [] h g = absurd h
  told_gtids (w ∷ told) (e ∷ es) h g =
      ap (λ x. same_gtid x.gtid g || is_gtid_of told g) h.0 ∙ ap (λ b. same_gtid e.gtid g || b) (told_gtids told es h.1 g)

  pub grown_by_told : (p q : Position) (told es : List Entry) → AreTold told es → IsPositionAfter p told q → IsPositionAfter p es q
  grown_by_told p q told es h grown g = grown g ∙ ap (λ b. has p g || b) (told_gtids told es h g)

  -- entries of which some front, one, and the rest were told
  pub record SplitAt (handled : List Entry) (told : Entry) (es : List Entry) : Type 0 where
    pub before : List Entry
    pub e : Entry
    pub behind : List Entry
    pub is : es ≡ before ++ e ∷ behind
    pub first : AreTold handled before
    pub told_is : told ≡ picked bound e

  split_at : (handled : List Entry) (told : Entry) (waiting es : List Entry) → AreTold (handled ++ told ∷ waiting) es → SplitAt handled told es
  split_at [] told waiting [] h = absurd h
  split_at [] told waiting (e ∷ es) h = record { before = []; e = e; behind = es; is = refl; first = tt; told_is = h.0 }
  split_at (w ∷ handled) told waiting [] h = absurd h
  split_at (w ∷ handled) told waiting (e ∷ es) h =
      let rest = split_at handled told waiting es h.1 in
      record { before = e ∷ rest.before; e = rest.e; behind = rest.behind; is = ap (λ l. e ∷ l) rest.is; first = (h.0, rest.first); told_is = rest.told_is }

  module _ (s : ShardName) (log : Log) (p q : Position) (handled : List Entry) (distinct : HaveDistinctGtids log.entries)
      (grown : IsPositionAfter p handled q) where
    pub next_piece : (told : Entry) (waiting : List Entry) → AreFirstDue bound s log p (handled ++ told ∷ waiting) →
        (e : Entry) × (rest : List Entry) × (due s log q ≡ e ∷ rest) × (told ≡ picked bound e)
    next_piece told waiting all =
        let at = split_at handled told waiting all.sent all.each in
        let split : due s log p ≡ at.before ++ (at.e ∷ at.behind ++ all.rest) =
        all.split ∙ ap (λ l. l ++ all.rest) at.is ∙ append_assoc at.before (at.e ∷ at.behind) all.rest in
        let left = due-sent s log p q at.before (at.e ∷ at.behind ++ all.rest) distinct split (grown_by_told p q handled at.before at.first grown) in
        (at.e, at.behind ++ all.rest, left, at.told_is)

    pub lane_end : (all : AreFirstDue bound s log p handled) → all.rest ≡ [] → (due s log q ≡ []) × (stop s log q ≡ stop s log p)
    lane_end all none =
        let by_entries = grown_by_told p q handled all.sent all.each grown in (
          due-sent s log p q all.sent all.rest distinct all.split by_entries ∙ none,
          stop-sent s log p q all.sent all.rest distinct all.split by_entries,
        )
