-- Equal names and GTIDs are one, and each is equal to itself.
use Rattle.std.proofs.Common.{◌≡◌, ℕ, ◌≤◌, ◌-◌, ◌^◌, ◌&&◌, Bool, true, false, List, length, nat_le, Some, None, refl, ap, sym, subst, ◌∙◌}
use Rattle.std.proofs.Math.Bridge.{le_prop}
use Rattle.std.proofs.lemmas.Bool.{and_parts, eqb-true, eq-eqb, leb-true, le-leb}
use Rattle.std.proofs.lemmas.Slice.Eq.{bytes_eq-Decides}
use Rattle.vs_base.specs.Names.{same_name, same_gtid, gtid_tested, gtid_of}
use Rattle.vs_base.specs.declared.shard_name.ShardName.{ShardName}
use Rattle.vs_base.specs.declared.gtid.Gtid.{Gtid}

both_true : (x y : Bool) → x ≡ true → y ≡ true → (x && y) ≡ true
both_true x y p q = cc

abbrev name_of : (k s : List ℕ) → length k ≤ 64 → length s ≤ 64 → ShardName
name_of k s p q = record { keyspace = k; shard = s; keyspace_fits = p; shard_fits = q }

-- the parts of a name make the name
names_alike : (k s k' s' : List ℕ) (p : length k ≤ 64) (q : length s ≤ 64) (p' : length k' ≤ 64) (q' : length s' ≤ 64) →
    k ≡ k' → s ≡ s' → name_of k s p q ≡ name_of k' s' p' q'
names_alike k s k' s' p q p' q' e f =
    let AtShard : List ℕ → Type 0 = λ t. (y : length t ≤ 64) → name_of k s p q ≡ name_of k t p y in
    let AtKeyspace : List ℕ → Type 0 = λ t. (x : length t ≤ 64) → name_of k s p q ≡ name_of t s' x q' in
    subst AtKeyspace e (λ x. subst AtShard f (λ y. ap (λ z. name_of k s p z) (le_prop q y)) q' ∙ ap (λ z. name_of k s' z q') (le_prop p x)) p'

pub same_name-refl : (a : ShardName) → same_name a a ≡ true
unfolding same_name
same_name-refl a = both_true _ _ ((bytes_eq-Decides a.keyspace a.keyspace).1 refl) ((bytes_eq-Decides a.shard a.shard).1 refl)

pub same_name-is : (a b : ShardName) → same_name a b ≡ true → a ≡ b
unfolding same_name
same_name-is a b h =
    let parts = and_parts _ _ h in
    names_alike a.keyspace a.shard b.keyspace b.shard a.keyspace_fits a.shard_fits b.keyspace_fits b.shard_fits
    ((bytes_eq-Decides a.keyspace b.keyspace).0 parts.0) ((bytes_eq-Decides a.shard b.shard).0 parts.1)

abbrev gtid_with : (u : List ℕ) (n : ℕ) → 1 ≤ n → n ≤ 2 ^ 63 - 2 → Gtid
gtid_with u n p q = record { uuid = u; number = n; first = p; last = q }

gtids_alike : (u u' : List ℕ) (n n' : ℕ) (p : 1 ≤ n) (q : n ≤ 2 ^ 63 - 2) (p' : 1 ≤ n') (q' : n' ≤ 2 ^ 63 - 2) →
    u ≡ u' → n ≡ n' → gtid_with u n p q ≡ gtid_with u' n' p' q'
gtids_alike u u' n n' p q p' q' e f =
    let AtNumber : ℕ → Type 0 = λ t. (x : 1 ≤ t) (y : t ≤ 2 ^ 63 - 2) → gtid_with u' n p q ≡ gtid_with u' t x y in
    ap (λ z. gtid_with z n p q) e
    ∙ subst AtNumber f (λ x y. ap (λ z. gtid_with u' n z q) (le_prop p x) ∙ ap (λ z. gtid_with u' n x z) (le_prop q y)) p' q'

pub same_gtid-refl : (a : Gtid) → same_gtid a a ≡ true
unfolding same_gtid
same_gtid-refl a = both_true _ _ ((bytes_eq-Decides a.uuid a.uuid).1 refl) (eq-eqb a.number a.number refl)

pub same_gtid-is : (a b : Gtid) → same_gtid a b ≡ true → a ≡ b
unfolding same_gtid
same_gtid-is a b h =
    let parts = and_parts _ _ h in
    gtids_alike a.uuid b.uuid a.number b.number a.first a.last b.first b.last
    ((bytes_eq-Decides a.uuid b.uuid).0 parts.0) (eqb-true a.number b.number parts.1)

tested-is : (u : List ℕ) (n : ℕ) (p : 1 ≤ n) (q : n ≤ 2 ^ 63 - 2) (low high : Bool) (e : nat_le 1 n ≡ low) (f : nat_le n (2 ^ 63 - 2) ≡ high) →
    gtid_tested u n low high e f ≡ Some (gtid_with u n p q)
tested-is u n p q true true e f = ap (λ z. Some (gtid_with u n z (leb-true n (2 ^ 63 - 2) f))) (le_prop (leb-true 1 n e) p) ∙ ap (λ z. Some (gtid_with u n p z)) (le_prop (leb-true n (2 ^ 63 - 2) f) q)
tested-is u n p q true false e f = absurd (let h : true ≡ false = sym (le-leb n (2 ^ 63 - 2) q) ∙ f in cc)
tested-is u n p q false high e f = absurd (let h : true ≡ false = sym (le-leb 1 n p) ∙ e in cc)

-- the parts of a GTID are those of one
pub gtid_of-is : (g : Gtid) → gtid_of g.uuid g.number ≡ Some g
unfolding gtid_of
gtid_of-is g = tested-is g.uuid g.number g.first g.last _ _ refl refl

tested-out : (u : List ℕ) (n : ℕ) (low high : Bool) (e : nat_le 1 n ≡ low) (f : nat_le n (2 ^ 63 - 2) ≡ high) →
    (1 ≤ n → n ≤ 2 ^ 63 - 2 → ⊥) → gtid_tested u n low high e f ≡ None
tested-out u n true true e f out = absurd (out (leb-true 1 n e) (leb-true n (2 ^ 63 - 2) f))
tested-out u n true false e f out = refl
tested-out u n false high e f out = refl

-- a number out of range is no GTID's
pub gtid_of-out : (u : List ℕ) (n : ℕ) → (1 ≤ n → n ≤ 2 ^ 63 - 2 → ⊥) → gtid_of u n ≡ None
unfolding gtid_of
gtid_of-out u n out = tested-out u n _ _ refl refl out
