-- What a lane gives from the place to which its first pieces led comes behind these.
use Rattle.std.proofs.Common.{◌≡◌, ◌||◌, Bool, true, false, List, [], ◌∷◌, ◌++◌, append_assoc, map, Option, Some, None, IfSome, refl, ap, sym, ◌∙◌, subst}
use Rattle.std.specs.List.{AllZip}
use Rattle.vs_base.specs.declared.ShardName.{ShardName}
use Rattle.vs_base.specs.declared.Gtid.{Gtid}
use Rattle.vs_base.specs.Names.{same_gtid}
use Rattle.vs_gtid.specs.declared.JournalValue.{JournalValue}
use Rattle.vs_gtid.specs.declared.Entry.{Entry}
use Rattle.vs_gtid.specs.Logs.{Log, HaveDistinctGtids}
use Rattle.vs_gtid.specs.Positions.{Position, has}
use Rattle.vs_gtid.specs.Vectors.{Place, IsCanonicalPlace}
use Rattle.vs_gtid.specs.Vectors.Place.{Fresh, Copying, Streaming}
use Rattle.vs_model.specs.Logs.{IsPositionAfter, due, is_gtid_of, stop}
use Rattle.vs_model.specs.Laws.{DueGoesOn, StopStays}
use Rattle.vs_model.specs.Copy.{Bound, picked}
use Rattle.vs_model.specs.Core.{Piece, PlaceAfter, IsOfCopy, AreStreamed, AreGiven}
use Rattle.vs_model.specs.Core.Piece.{Transaction, CopiedRows, CopyEnd}
use Rattle.vs_model.proofs.Given.{same_place}
use Rattle.vs_lane.specs.Stands.{Along, IsCanonicalCopy}

or_false : (b : Bool) → (b || false) ≡ b
or_false true = refl
or_false false = refl

or_assoc : (a b c : Bool) → ((a || b) || c) ≡ (a || (b || c))
or_assoc true b c = refl
or_assoc false b c = refl

is_gtid_of-append : (xs ys : List Entry) (g : Gtid) → is_gtid_of (xs ++ ys) g ≡ (is_gtid_of xs g || is_gtid_of ys g)
is_gtid_of-append [] ys g = refl
is_gtid_of-append (x ∷ xs) ys g =
    ap (λ b. same_gtid x.gtid g || b) (is_gtid_of-append xs ys g) ∙ sym (or_assoc (same_gtid x.gtid g) (is_gtid_of xs g) (is_gtid_of ys g))

-- q has p and these, r has q and those
grown_twice : (p q r : Position) (xs ys : List Entry) → IsPositionAfter p xs q → IsPositionAfter q ys r → IsPositionAfter p (xs ++ ys) r
grown_twice p q r xs ys to_q to_r g =
    to_r g ∙ ap (λ b. b || is_gtid_of ys g) (to_q g) ∙ or_assoc (has p g) (is_gtid_of xs g) (is_gtid_of ys g)
    ∙ ap (λ b. has p g || b) (sym (is_gtid_of-append xs ys g))

-- transactions lead from a position to one with their GTIDs
along_told : (told : List Entry) (p : Position) (place : Place) → Along (Streaming p) (map Transaction told) place →
    (q : Position) × (place ≡ Streaming q) × IsPositionAfter p told q
along_told [] p place a = (p, a, λ g. sym (or_false _))
along_told (w ∷ told) p place a =
    let mid = a.1.0 in
    let on = along_told told mid place (subst (λ x. Along x (map Transaction told) place) a.1.2 a.3) in
    (on.0, on.1, grown_twice p mid on.0 (w ∷ []) told a.1.1 on.2)

maps_append : (xs ys : List Entry) → map Transaction xs ++ map Transaction ys ≡ map Transaction (xs ++ ys)
maps_append [] ys = refl
maps_append (x ∷ xs) ys = ap (λ l. Transaction x ∷ l) (maps_append xs ys)

module _ (goes : DueGoesOn) (stays : StopStays) (bound : Bound) (s : ShardName) (log : Log) (distinct : HaveDistinctGtids log.entries) (more : List Piece) (last : Option JournalValue) where
  abbrev AreTold : List Entry → List Entry → Type 0
  AreTold told es = AllZip (λ w e. w ≡ picked bound e) told es

  told_gtids : (told es : List Entry) → AreTold told es → (g : Gtid) → is_gtid_of told g ≡ is_gtid_of es g
  told_gtids [] [] h g = refl
  told_gtids [] (e ∷ es) h g = absurd h
  told_gtids (w ∷ told) [] h g = absurd h
  told_gtids (w ∷ told) (e ∷ es) h g =
      ap (λ x. same_gtid x.gtid g || is_gtid_of told g) h.0 ∙ ap (λ b. same_gtid e.gtid g || b) (told_gtids told es h.1 g)

  grown_by_told : (p q : Position) (told es : List Entry) → AreTold told es → IsPositionAfter p told q → IsPositionAfter p es q
  grown_by_told p q told es h grown g = grown g ∙ ap (λ b. has p g || b) (told_gtids told es h g)

  told_append : (a b : List Entry) (xs ys : List Entry) → AreTold a xs → AreTold b ys → AreTold (a ++ b) (xs ++ ys)
  told_append [] b [] ys h k = k
  told_append [] b (x ∷ xs) ys h k = absurd h
  told_append (w ∷ a) b [] ys h k = absurd h
  told_append (w ∷ a) b (x ∷ xs) ys h k = (h.0, told_append a b xs ys h.1 k)

  streamed_then : (p : Position) (l : List Piece) (place : Place) → AreStreamed bound s log p l None → Along (Streaming p) l place →
      AreGiven bound s log more last place → AreStreamed bound s log p (l ++ more) last
  streamed_then p l place first along then =
      let led = along_told first.told p place (subst (λ x. Along (Streaming p) x place) first.are along) in
      let q = led.0 in
      let behind : AreStreamed bound s log q more last = subst (AreGiven bound s log more last) led.1 then in
      let grown = grown_by_told p q first.told first.due_ones.sent first.due_ones.each led.2 in
      let left : due s log q ≡ first.due_ones.rest = goes s log p q first.due_ones.sent first.due_ones.rest distinct first.due_ones.split grown in
      let ahead : stop s log q ≡ stop s log p = stays s log p q first.due_ones.sent first.due_ones.rest distinct first.due_ones.split grown in
      record {
        told = first.told ++ behind.told;
        are = ap (λ x. x ++ more) first.are ∙ ap (λ x. map Transaction first.told ++ x) behind.are ∙ maps_append first.told behind.told;
        due_ones = record {
          sent = first.due_ones.sent ++ behind.due_ones.sent;
          rest = behind.due_ones.rest;
          split = first.due_ones.split ∙ ap (λ es. first.due_ones.sent ++ es) (sym left ∙ behind.due_ones.split) ∙ sym (append_assoc first.due_ones.sent behind.due_ones.sent behind.due_ones.rest);
          each = told_append first.told behind.told first.due_ones.sent behind.due_ones.sent first.due_ones.each behind.due_ones.each;
        };
        own = subst (λ x. IfSome last (λ j. (behind.due_ones.rest ≡ []) × (x ≡ Some j))) ahead behind.own;
      }

  same_mid : (old mid new : Place) (piece : Piece) → IsOfCopy bound s log old piece mid → IsCanonicalPlace mid → PlaceAfter old piece new → IsCanonicalCopy new → mid ≡ new
  same_mid Fresh mid new (Transaction w) step canonical moves canonical_new = absurd step
  same_mid (Copying p l) mid new (Transaction w) step canonical moves canonical_new =
      same_place bound s log (Copying p l) mid new (Transaction w) step canonical moves (subst IsCanonicalPlace (sym moves.2) (subst IsCanonicalCopy moves.2 canonical_new))
  same_mid (Streaming p) mid new (Transaction w) step canonical moves canonical_new = absurd step
  same_mid Fresh mid new (CopiedRows table rows time q l) step canonical moves canonical_new = step.1 ∙ sym moves
  same_mid (Copying p k) mid new (CopiedRows table rows time q l) step canonical moves canonical_new = step.1 ∙ sym moves
  same_mid (Streaming p) mid new (CopiedRows table rows time q l) step canonical moves canonical_new = step.1 ∙ sym moves
  same_mid Fresh mid new (CopyEnd time q) step canonical moves canonical_new = step.1 ∙ sym moves
  same_mid (Copying p l) mid new (CopyEnd time q) step canonical moves canonical_new = step.1 ∙ sym moves
  same_mid (Streaming p) mid new (CopyEnd time q) step canonical moves canonical_new = step.1 ∙ sym moves

  along_on : (old : Place) (x : Piece) (l : List Piece) (place mid : Place) → IsOfCopy bound s log old x mid → IsCanonicalPlace mid → Along old (x ∷ l) place → Along mid l place
  along_on old x l place mid step canonical along = subst (λ y. Along y l place) (sym (same_mid old mid along.0 x step canonical along.1 along.2)) along.3

  pub given_then : (start : Place) (l : List Piece) (place : Place) → AreGiven bound s log l None start → Along start l place →
      AreGiven bound s log more last place → AreGiven bound s log (l ++ more) last start
  given_then (Streaming p) l place first along then = streamed_then p l place first along then
  given_then Fresh [] place first along then = subst (AreGiven bound s log more last) along then
  given_then (Copying p k) [] place first along then = subst (AreGiven bound s log more last) along then
  given_then Fresh (x ∷ l) place first along then =
      (first.0, first.1, first.2, given_then first.0 l place first.3 (along_on Fresh x l place first.0 first.2 first.1 along) then)
  given_then (Copying p k) (x ∷ l) place first along then =
      (first.0, first.1, first.2, given_then first.0 l place first.3 (along_on (Copying p k) x l place first.0 first.2 first.1 along) then)
