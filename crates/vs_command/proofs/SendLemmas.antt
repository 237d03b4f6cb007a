-- The frames of one entry more, and what was written of them.
use Rattle.std.proofs.Common.{◌≡◌, ◌≢◌, ℕ, suc, ◌+◌, ◌<◌, length, take, drop, get_or, true, false, not, if◌then◌else◌, List, [], ◌∷◌, ◌++◌, Option, Some, None, Result, Ok, Err, refl, sym, ap, subst, ◌∙◌, append_assoc, append-nil}
use Rattle.std.proofs.lemmas.List.{take_more, take-append-drop}
use Rattle.std.proofs.lemmas.List.Elements.{filter-append}
use Rattle.std.proofs.Math.Seq.{drop-cons}
use Rattle.vs_filter.specs.declared.bound.Picked.{Picked}
use Rattle.vs_base.specs.declared.Gtid.{Gtid}
use Rattle.vs_base.specs.declared.ShardName.{ShardName}
use Rattle.vs_gtid.specs.declared.Entry.{Entry}
use Rattle.vs_gtid.specs.Positions.{Position, has, IsCanonical}
use Rattle.vs_gtid.specs.Joins.{added}
use Rattle.vs_outside.specs.Told.{IsPrefixOf, Writes}
use Rattle.vs_outside.proofs.ToldLemmas.{Writes-none, Writes-then, Writes-weaken, IsPrefixOf-refl, IsPrefixOf-behind}
use Rattle.vs_command.specs.declared.sending.SendEnd.{SendEnd}
use Rattle.vs_command.specs.declared.sending.SendEnd.TheVariants.{Memory, LinkFault, PositionTooLarge, TooLarge}
use Rattle.vs_command.specs.Sizes.{IsNextOversized, IsOversized, IsOversizedAt}
use Rattle.vs_render.specs.Bodies.{Rendered, entry_body, frame_with}
use Rattle.vs_render.specs.Events.{head_of}
use Rattle.vs_command.specs.Sending.{AreSent, IsCanonicalAlong, IsNextTooLarge, IsSent, IsSentAs, entries_bytes, entry_bytes, lacking, position_after, vector_at}

pub entries_bytes-more : (tables : List Picked) (s : ShardName) (p : Position) (xs : List Entry) (e : Entry) →
    entries_bytes tables s p (xs ++ e ∷ []) ≡ entries_bytes tables s p xs ++ entry_bytes tables s (position_after p xs) e
entries_bytes-more tables s p [] e = append-nil (entry_bytes tables s p e)
entries_bytes-more tables s p (x ∷ xs) e =
    ap (λ l. entry_bytes tables s p x ++ l) (entries_bytes-more tables s (added p x.gtid) xs e)
    ∙ sym (append_assoc (entry_bytes tables s p x) (entries_bytes tables s (added p x.gtid) xs) (entry_bytes tables s (position_after (added p x.gtid) xs) e))

pub position_after-more : (p : Position) (xs : List Entry) (e : Entry) → position_after p (xs ++ e ∷ []) ≡ added (position_after p xs) e.gtid
position_after-more p [] e = refl
position_after-more p (x ∷ xs) e = position_after-more (added p x.gtid) xs e

pub IsCanonicalAlong-more : (p : Position) (xs : List Entry) (e : Entry) → IsCanonicalAlong p xs → IsCanonical (added (position_after p xs) e.gtid) → IsCanonicalAlong p (xs ++ e ∷ [])
IsCanonicalAlong-more p [] e along next = (next, tt)
IsCanonicalAlong-more p (x ∷ xs) e along next = (along.0, IsCanonicalAlong-more (added p x.gtid) xs e along.1 next)

-- the frames of the first entries were written
abbrev pub WroteFirst : List Picked → ShardName → Position → List Entry → List ℕ → Type 0
WroteFirst tables s p xs w = (w ≡ entries_bytes tables s p xs) × IsCanonicalAlong p xs

-- a frame was written behind those of the first entries
pub Writes-frame : (tables : List Picked) (s : ShardName) (p q : Position) (xs : List Entry) (e : Entry) (before between now : Option (List ℕ)) →
    q ≡ position_after p xs → Writes before between (WroteFirst tables s p xs) → Writes between now (IsSent tables s q e (Ok tt)) →
    Writes before now (WroteFirst tables s p (xs ++ e ∷ []))
Writes-frame tables s p q xs e before between now at first second =
    Writes-then (WroteFirst tables s p xs) (IsSent tables s q e (Ok tt)) (WroteFirst tables s p (xs ++ e ∷ [])) before between now
    (λ v w wrote sent.
    let next : IsSent tables s (position_after p xs) e (Ok tt) w = subst (λ r. IsSent tables s r e (Ok tt) w) at sent in
    (ap (λ l. l ++ w) wrote.0 ∙ ap (λ l. entries_bytes tables s p xs ++ l) next.0 ∙ sym (entries_bytes-more tables s p xs e), IsCanonicalAlong-more p xs e wrote.1 next.1)) first second

-- what came of an entry that was not begun
record IsUnsent (stands : Gtid → ℕ → Type 0) (tables : List Picked) (s : ShardName) (p : Position) (rest : List Entry) (end : SendEnd) (w : List ℕ) : Type 0 where
  pub none : w ≡ []
  pub large : end ≡ PositionTooLarge → IsNextTooLarge p rest
  pub oversized : (at bytes : ℕ) → end ≡ TooLarge at bytes → IsNextOversized stands tables s rest at bytes

-- no frame was written behind those of the first entries
cut_before : (stands : Gtid → ℕ → Type 0) (tables : List Picked) (s : ShardName) (p : Position) (xs rest : List Entry) (end : SendEnd) (before between now : Option (List ℕ)) →
    Writes before between (WroteFirst tables s p xs) → Writes between now (IsUnsent stands tables s (position_after p xs) rest end) → (end ≢ LinkFault) →
    Writes before now (λ w. AreSent stands tables s p (xs ++ rest) (Err end) w)
cut_before stands tables s p xs rest end before between now first second other =
    Writes-then (WroteFirst tables s p xs) (IsUnsent stands tables s (position_after p xs) rest end) (λ w. AreSent stands tables s p (xs ++ rest) (Err end) w) before between now
    (λ v w wrote none.
    let whole : v ++ w ≡ entries_bytes tables s p xs = ap (λ l. v ++ l) none.none ∙ append-nil v ∙ wrote.0 in record {
      sent = xs;
      rest = rest;
      are = refl;
      canonical = wrote.1;
      prefix = subst (λ l. IsPrefixOf l (entries_bytes tables s p xs)) (sym whole) (IsPrefixOf-refl (entries_bytes tables s p xs));
      whole = λ _. whole;
      all = tt;
      large = λ h. none.large (let p : end ≡ PositionTooLarge = cc in p);
      oversized = λ at bytes h. none.oversized at bytes (let p : end ≡ TooLarge at bytes = cc in p);
    }) first second

-- a beginning of a frame was written behind those of the first entries
cut_within : (stands : Gtid → ℕ → Type 0) (tables : List Picked) (s : ShardName) (p q : Position) (xs rest : List Entry) (e : Entry) (before between now : Option (List ℕ)) →
    q ≡ position_after p xs → Writes before between (WroteFirst tables s p xs) → Writes between now (λ w. IsSent tables s q e (Err LinkFault) w) →
    Writes before now (λ w. AreSent stands tables s p (xs ++ e ∷ rest) (Err LinkFault) w)
cut_within stands tables s p q xs rest e before between now at first second =
    Writes-then (WroteFirst tables s p xs) (λ w. IsSent tables s q e (Err LinkFault) w) (λ w. AreSent stands tables s p (xs ++ e ∷ rest) (Err LinkFault) w) before between now
    (λ v w wrote sent.
    let cut : IsSent tables s (position_after p xs) e (Err LinkFault) w = subst (λ r. IsSent tables s r e (Err LinkFault) w) at sent in record {
      sent = xs ++ e ∷ [];
      rest = rest;
      are = sym (append_assoc xs (e ∷ []) rest);
      canonical = IsCanonicalAlong-more p xs e wrote.1 cut.1;
      prefix = subst (λ l. IsPrefixOf (v ++ w) l) (ap (λ l. l ++ entry_bytes tables s (position_after p xs) e) wrote.0 ∙ sym (entries_bytes-more tables s p xs e))
          (IsPrefixOf-behind v w (entry_bytes tables s (position_after p xs) e) cut.0);
      whole = λ other. absurd (other refl);
      all = tt;
      large = λ h. absurd (cc);
      oversized = λ at bytes h. absurd (cc);
    }) first second

-- what was written where the next entry was not sent
pub Writes-cut_entry : (stands : Gtid → ℕ → Type 0) (tables : List Picked) (s : ShardName) (p q : Position) (xs rest : List Entry) (e : Entry) (end : SendEnd) (before between now : Option (List ℕ)) →
    q ≡ position_after p xs → Writes before between (WroteFirst tables s p xs) → Writes between now (λ w. IsSent tables s q e (Err end) w) →
    Writes before now (λ w. AreSent stands tables s p (xs ++ e ∷ rest) (Err end) w)
Writes-cut_entry stands tables s p q xs rest e LinkFault before between now at first second = cut_within stands tables s p q xs rest e before between now at first second
Writes-cut_entry stands tables s p q xs rest e Memory before between now at first second =
    cut_before stands tables s p xs (e ∷ rest) Memory before between now first
    (Writes-weaken (λ w. w ≡ []) (IsUnsent stands tables s (position_after p xs) (e ∷ rest) Memory) between now
    (λ w none. record { none = none; large = λ h. absurd (cc); oversized = λ at bytes h. absurd (cc) }) second) (λ h. cc)
Writes-cut_entry stands tables s p q xs rest e PositionTooLarge before between now at first second =
    cut_before stands tables s p xs (e ∷ rest) PositionTooLarge before between now first
    (Writes-weaken (IsSent tables s q e (Err PositionTooLarge)) (IsUnsent stands tables s (position_after p xs) (e ∷ rest) PositionTooLarge) between now
    (λ w none. record { none = none.0; large = λ h. subst (λ r. 1024 < length (added r e.gtid)) at none.1; oversized = λ at bytes h. absurd (cc) }) second) (λ h. cc)
Writes-cut_entry stands tables s p q xs rest e (TooLarge offset size) before between now at first second =
    Writes-then (WroteFirst tables s p xs) (IsSent tables s q e (Err (TooLarge offset size))) (λ w. AreSent stands tables s p (xs ++ e ∷ rest) (Err (TooLarge offset size)) w) before between now
    (λ v w wrote sent. absurd sent) first second

-- the next entry is too large
pub Writes-oversized : (stands : Gtid → ℕ → Type 0) (tables : List Picked) (s : ShardName) (p : Position) (xs rest : List Entry) (e : Entry) (at bytes : ℕ) (before now : Option (List ℕ)) →
    Writes before now (WroteFirst tables s p xs) → IsOversizedAt stands tables s e at bytes → Writes before now (λ w. AreSent stands tables s p (xs ++ e ∷ rest) (Err (TooLarge at bytes)) w)
Writes-oversized stands tables s p xs rest e at bytes before now first over =
    Writes-weaken (WroteFirst tables s p xs) (λ w. AreSent stands tables s p (xs ++ e ∷ rest) (Err (TooLarge at bytes)) w) before now
    (λ w wrote. record {
      sent = xs;
      rest = e ∷ rest;
      are = refl;
      canonical = wrote.1;
      prefix = subst (λ l. IsPrefixOf w l) wrote.0 (IsPrefixOf-refl w);
      whole = λ _. wrote.0;
      all = tt;
      large = λ h. absurd (cc);
      oversized = λ other size h.
          subst (λ n. IsOversizedAt stands tables s e n size) (let p : at ≡ other = cc in p) (subst (λ n. IsOversizedAt stands tables s e at n) (let p : bytes ≡ size = cc in p) over);
    }) first

-- memory ran out before the next entry
pub Writes-stopped : (stands : Gtid → ℕ → Type 0) (tables : List Picked) (s : ShardName) (p : Position) (xs rest entries : List Entry) (before now : Option (List ℕ)) → entries ≡ xs ++ rest →
    Writes before now (WroteFirst tables s p xs) → Writes before now (λ w. AreSent stands tables s p entries (Err Memory) w)
Writes-stopped stands tables s p xs rest entries before now are first =
    Writes-weaken (WroteFirst tables s p xs) (λ w. AreSent stands tables s p entries (Err Memory) w) before now
    (λ w wrote. record {
      sent = xs;
      rest = rest;
      are = are;
      canonical = wrote.1;
      prefix = subst (λ l. IsPrefixOf w l) wrote.0 (IsPrefixOf-refl w);
      whole = λ _. wrote.0;
      all = tt;
      large = λ h. absurd (cc);
      oversized = λ at bytes h. absurd (cc);
    }) first

-- nothing was written
pub Writes-unsent : (stands : Gtid → ℕ → Type 0) (tables : List Picked) (s : ShardName) (p : Position) (entries : List Entry) (told : Option (List ℕ)) →
    Writes told told (λ w. AreSent stands tables s p entries (Err Memory) w)
Writes-unsent stands tables s p entries told = Writes-none (λ w. AreSent stands tables s p entries (Err Memory) w) told (record {
  sent = [];
  rest = entries;
  are = refl;
  canonical = tt;
  prefix = IsPrefixOf-refl [];
  whole = λ _. refl;
  all = tt;
  large = λ h. absurd (cc);
  oversized = λ at bytes h. absurd (cc);
})

-- the entries are the first ones, the next one, and the rest
pub split_at : {A : Type 0} (entries : List A) (i : ℕ) (e : A) → i < length entries → e ≡ get_or entries i e → entries ≡ take i entries ++ e ∷ drop (suc i) entries
split_at entries i e inside is = sym (take-append-drop i entries) ∙ ap (λ l. take i entries ++ l) (drop-cons entries i e inside ∙ ap (λ x. x ∷ drop (suc i) entries) (sym is))

pub take_next : {A : Type 0} (entries : List A) (i : ℕ) (e : A) → i < length entries → e ≡ get_or entries i e → take (i + 1) entries ≡ take i entries ++ e ∷ []
take_next entries i e inside is = take_more entries i e inside ∙ ap (λ x. take i entries ++ x ∷ []) (sym is)

-- all entries were sent
pub Writes-sent : (stands : Gtid → ℕ → Type 0) (tables : List Picked) (s : ShardName) (p : Position) (xs entries : List Entry) (before now : Option (List ℕ)) → xs ≡ entries →
    Writes before now (WroteFirst tables s p xs) → Writes before now (λ w. AreSent stands tables s p entries (Ok tt) w)
Writes-sent stands tables s p xs entries before now are wrote =
    Writes-weaken (WroteFirst tables s p xs) (λ w. AreSent stands tables s p entries (Ok tt) w) before now
    (λ w first. record {
      sent = xs;
      rest = [];
      are = sym are ∙ sym (append-nil xs);
      canonical = first.1;
      prefix = subst (λ l. IsPrefixOf w l) first.0 (IsPrefixOf-refl w);
      whole = λ _. first.0;
      all = refl;
      large = λ h. absurd (cc);
      oversized = λ at bytes h. absurd (cc);
    }) wrote

-- an entry of the position is none that it lacks, and another is one
pub lacking-in : (p : Position) (xs : List Entry) (e : Entry) → has p e.gtid ≡ true → lacking p (xs ++ e ∷ []) ≡ lacking p xs
lacking-in p xs e h =
    filter-append (λ x. not (has p x.gtid)) xs (e ∷ []) ∙ ap (λ b. lacking p xs ++ (if not b then e ∷ [] else [])) h ∙ append-nil (lacking p xs)

pub lacking-out : (p : Position) (xs : List Entry) (e : Entry) → has p e.gtid ≡ false → lacking p (xs ++ e ∷ []) ≡ lacking p xs ++ e ∷ []
lacking-out p xs e h = filter-append (λ x. not (has p x.gtid)) xs (e ∷ []) ∙ ap (λ b. lacking p xs ++ (if not b then e ∷ [] else [])) h

pub lacking-split : (p : Position) (xs rest : List Entry) (e : Entry) → has p e.gtid ≡ false → lacking p (xs ++ e ∷ rest) ≡ lacking p xs ++ e ∷ lacking p rest
lacking-split p xs rest e h =
    filter-append (λ x. not (has p x.gtid)) xs (e ∷ rest) ∙ ap (λ b. lacking p xs ++ (if not b then e ∷ lacking p rest else lacking p rest)) h

-- ---- the same, by the body that was sent

sent_body : (tables : List Picked) (s : ShardName) (p : Position) (e : Entry) (b : Rendered) (result : Result (Unit {0}) SendEnd) (w : List ℕ) → b ≡ entry_body tables s e →
    IsSentAs (frame_with (head_of s e.time) (vector_at s (added p e.gtid)) b) p e.gtid result w → IsSent tables s p e result w
unfolding entry_bytes
sent_body tables s p e b result w is sent = subst (λ x. IsSentAs (frame_with (head_of s e.time) (vector_at s (added p e.gtid)) x) p e.gtid result w) is sent

pub Writes-body : (tables : List Picked) (s : ShardName) (p q : Position) (xs : List Entry) (e : Entry) (b : Rendered) (before between now : Option (List ℕ)) → b ≡ entry_body tables s e →
    q ≡ position_after p xs → Writes before between (WroteFirst tables s p xs) → Writes between now (λ w. IsSentAs (frame_with (head_of s e.time) (vector_at s (added q e.gtid)) b) q e.gtid (Ok tt) w) →
    Writes before now (WroteFirst tables s p (xs ++ e ∷ []))
Writes-body tables s p q xs e b before between now is at first second =
    Writes-frame tables s p q xs e before between now at first
    (Writes-weaken (λ w. IsSentAs (frame_with (head_of s e.time) (vector_at s (added q e.gtid)) b) q e.gtid (Ok tt) w) (λ w. IsSent tables s q e (Ok tt) w) between now
    (λ w sent. sent_body tables s q e b (Ok tt) w is sent) second)

pub Writes-cut_body : (stands : Gtid → ℕ → Type 0) (tables : List Picked) (s : ShardName) (p q : Position) (xs rest : List Entry) (e : Entry) (b : Rendered) (end : SendEnd) (before between now : Option (List ℕ)) →
    b ≡ entry_body tables s e → q ≡ position_after p xs → Writes before between (WroteFirst tables s p xs) →
    Writes between now (λ w. IsSentAs (frame_with (head_of s e.time) (vector_at s (added q e.gtid)) b) q e.gtid (Err end) w) →
    Writes before now (λ w. AreSent stands tables s p (xs ++ e ∷ rest) (Err end) w)
Writes-cut_body stands tables s p q xs rest e b end before between now is at first second =
    Writes-cut_entry stands tables s p q xs rest e end before between now at first
    (Writes-weaken (λ w. IsSentAs (frame_with (head_of s e.time) (vector_at s (added q e.gtid)) b) q e.gtid (Err end) w) (λ w. IsSent tables s q e (Err end) w) between now
    (λ w sent. sent_body tables s q e b (Err end) w is sent) second)

-- no body of the next entry was made
pub Writes-ended_early : (stands : Gtid → ℕ → Type 0) (tables : List Picked) (s : ShardName) (p : Position) (xs rest entries : List Entry) (e : Entry) (place : ℕ) (end : SendEnd) (before now : Option (List ℕ)) →
    entries ≡ xs ++ e ∷ rest → stands e.gtid place → ((at bytes : ℕ) → end ≡ TooLarge at bytes → (at ≡ place) × IsOversized tables s e bytes) → (end ≡ LinkFault → ⊥) → (end ≡ PositionTooLarge → ⊥) →
    Writes before now (WroteFirst tables s p xs) → Writes before now (λ w. AreSent stands tables s p entries (Err end) w)
Writes-ended_early stands tables s p xs rest entries e place Memory before now are there over link position first = Writes-stopped stands tables s p xs (e ∷ rest) entries before now are first
Writes-ended_early stands tables s p xs rest entries e place LinkFault before now are there over link position first = absurd (link refl)
Writes-ended_early stands tables s p xs rest entries e place PositionTooLarge before now are there over link position first = absurd (position refl)
Writes-ended_early stands tables s p xs rest entries e place (TooLarge at bytes) before now are there over link position first =
    let it = over at bytes refl in
    subst (λ es. Writes before now (λ w. AreSent stands tables s p es (Err (TooLarge at bytes)) w)) (sym are)
    (Writes-oversized stands tables s p xs rest e at bytes before now first (subst (λ n. stands e.gtid n) (sym it.0) there, it.1))

-- ---- the bytes of a frame, and what was written of them

pub Writes-whole : (bytes frame sliced : List ℕ) (p : Position) (g : Gtid) (before now : Option (List ℕ)) → frame ≡ bytes → sliced ≡ frame → IsCanonical (added p g) → Writes before now (λ w. w ≡ sliced) →
    Writes before now (λ w. IsSentAs bytes p g (Ok tt) w)
Writes-whole bytes frame sliced p g before now same all canonical wrote =
    Writes-weaken (λ w. w ≡ sliced) (λ w. IsSentAs bytes p g (Ok tt) w) before now (λ w is. (is ∙ all ∙ same, canonical)) wrote

pub Writes-part : (bytes frame sliced : List ℕ) (p : Position) (g : Gtid) (before now : Option (List ℕ)) → frame ≡ bytes → sliced ≡ frame → IsCanonical (added p g) → Writes before now (λ w. IsPrefixOf w sliced) →
    Writes before now (λ w. IsSentAs bytes p g (Err LinkFault) w)
Writes-part bytes frame sliced p g before now same all canonical wrote =
    Writes-weaken (λ w. IsPrefixOf w sliced) (λ w. IsSentAs bytes p g (Err LinkFault) w) before now (λ w is. (subst (λ l. IsPrefixOf w l) (all ∙ same) is, canonical)) wrote
