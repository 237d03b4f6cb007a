-- A packed list is read number by number.
use Rattle.std.proofs.Common.{◌≡◌, ℕ, zero, suc, ◌+◌, ◌-◌, ◌<◌, ◌≤◌, List, [], ◌∷◌, ◌++◌, append_assoc, append-nil, map, length, length-append, length-drop, drop, Result, Ok, Err, ℤ, refl, ap, sym, ◌∙◌, arith}
use Rattle.std.proofs.lemmas.List.{drop_all}
use Rattle.vs_wire.specs.Varint.{◌>>=◌, varint_in}
use Rattle.vs_wire.specs.Seen.{refusal, refused_at}
use Rattle.vs_wire.specs.declared.refusal.WireRefusal.{WireRefusal}
use Rattle.vs_wire.specs.declared.refusal.Flaw.{Flaw}
use Rattle.vs_proto.specs.declared.refusal.Fault.{Fault}
use Rattle.vs_proto.specs.declared.refusal.Fault.TheVariants.{Wire}
use Rattle.vs_proto.specs.Kinds.{numbers_in, unzigzag, with_numbers}

pub numbers_in-next : (k at : ℕ) (bytes : List ℕ) (n taken : ℕ) → 0 < length bytes → varint_in bytes ≡ Ok (n, taken) →
    numbers_in (suc k) at bytes ≡ (numbers_in k (at + taken) (drop taken bytes) >>= λ ns. Ok (n ∷ ns))
unfolding numbers_in
numbers_in-next k at [] n taken h e = absurd (omega arith)
numbers_in-next k at (b ∷ bytes) n taken h e =
    ap (λ r. elim r [
      | Ok m ↦ numbers_in k (at + m.1) (drop m.1 (b ∷ bytes)) >>= λ ns. Ok (m.0 ∷ ns)
      | Err flaw ↦ Err (Wire (refusal at flaw))
    ]) e

pub numbers_in-fault : (k at : ℕ) (bytes : List ℕ) (flaw : Flaw) → 0 < length bytes → varint_in bytes ≡ Err flaw →
    numbers_in (suc k) at bytes ≡ Err (Wire (refusal at flaw))
unfolding numbers_in
numbers_in-fault k at [] flaw h e = absurd (omega arith)
numbers_in-fault k at (b ∷ bytes) flaw h e =
    ap (λ r. elim r [
      | Ok m ↦ numbers_in k (at + m.1) (drop m.1 (b ∷ bytes)) >>= λ ns. Ok (m.0 ∷ ns)
      | Err f ↦ Err (Wire (refusal at f))
    ]) e

pub numbers_in-end : (k at : ℕ) (bytes : List ℕ) → length bytes ≡ 0 → numbers_in k at bytes ≡ Ok []
unfolding numbers_in
numbers_in-end zero at bytes h = refl
numbers_in-end (suc k) at [] h = refl
numbers_in-end (suc k) at (b ∷ bytes) h = absurd (omega arith)

pub with_first : (old : List ℤ) (n : ℕ) (read : Result (List ℕ) Fault) →
    with_numbers old (read >>= λ ns. Ok (n ∷ ns)) ≡ with_numbers (old ++ unzigzag n ∷ []) read
with_first old n (Ok ns) = ap Ok (sym (append_assoc old (unzigzag n ∷ []) (map unzigzag ns)))
with_first old n (Err fault) = refl

drop-drop : (n k : ℕ) (xs : List ℕ) → drop n (drop k xs) ≡ drop (k + n) xs
drop-drop n zero xs = ap (λ m. drop m xs) (omega arith)
drop-drop n (suc k) [] = drop_all n [] (omega arith) ∙ sym (drop_all (suc k + n) [] (omega arith))
drop-drop n (suc k) (x ∷ xs) = drop-drop n k xs ∙ sym (ap (λ m. drop m (x ∷ xs)) (next n k)) where
  next : (n k : ℕ) → suc k + n ≡ suc (k + n)
  next n k = omega arith

pub packed_on : (bytes : List ℕ) (slot new : List ℤ) (s at n taken : ℕ) (read : Result (List ℤ) Fault) →
    at < length bytes → length slot ≤ s + at → varint_in (drop at bytes) ≡ Ok (n, taken) →
    with_numbers slot (numbers_in (length bytes + s - length slot) at (drop at bytes)) ≡ read → new ≡ slot ++ unzigzag n ∷ [] →
    with_numbers new (numbers_in (length bytes + s - length new) (at + taken) (drop (at + taken) bytes)) ≡ read
packed_on bytes slot new s at n taken read inside few e same grown =
    let more : length new ≡ length slot + 1 = ap length grown ∙ length-append slot (unzigzag n ∷ []) in
    let k = length bytes + s - length new in
    let fuel : length bytes + s - length slot ≡ suc k = omega arith in
    let left = length-drop at bytes in
    ap (λ l. with_numbers l (numbers_in k (at + taken) (drop (at + taken) bytes))) grown
    ∙ ap (λ b. with_numbers (slot ++ unzigzag n ∷ []) (numbers_in k (at + taken) b)) (sym (drop-drop taken at bytes))
    ∙ sym (with_first slot n (numbers_in k (at + taken) (drop taken (drop at bytes))))
    ∙ sym (ap (λ r. with_numbers slot r) (ap (λ f. numbers_in f at (drop at bytes)) fuel ∙ numbers_in-next k at (drop at bytes) n taken (omega arith) e))
    ∙ same

pub packed_fault : (bytes : List ℕ) (slot : List ℤ) (s at : ℕ) (flaw : Flaw) (read : Result (List ℤ) Fault) →
    at < length bytes → length slot ≤ s + at → varint_in (drop at bytes) ≡ Err flaw →
    with_numbers slot (numbers_in (length bytes + s - length slot) at (drop at bytes)) ≡ read → read ≡ Err (Wire (refusal at flaw))
packed_fault bytes slot s at flaw read inside few e same =
    let k = length bytes + s - length slot - 1 in
    let fuel : length bytes + s - length slot ≡ suc k = omega arith in
    let left = length-drop at bytes in
    sym same
    ∙ ap (λ r. with_numbers slot r) (ap (λ f. numbers_in f at (drop at bytes)) fuel ∙ numbers_in-fault k at (drop at bytes) flaw (omega arith) e)

pub packed_end : (bytes : List ℕ) (slot : List ℤ) (k at : ℕ) (read : Result (List ℤ) Fault) → length bytes ≤ at →
    with_numbers slot (numbers_in k at (drop at bytes)) ≡ read → read ≡ Ok slot
packed_end bytes slot k at read past same =
    let left = length-drop at bytes in
    sym same ∙ ap (λ r. with_numbers slot r) (numbers_in-end k at (drop at bytes) (omega arith)) ∙ ap Ok (append-nil slot)

pub ok_within : {A : Type 0} (x : A) (r : Result A Flaw) → Ok x ≡ refused_at 0 r → r ≡ Ok x
ok_within x (Ok y) e = let same : x ≡ y = cc in ap Ok (sym same)
ok_within x (Err flaw) e = cc

pub fault_within : {A : Type 0} (why : WireRefusal) (r : Result A Flaw) → Err why ≡ refused_at 0 r → (flaw : Flaw) × (r ≡ Err flaw) × (why ≡ refusal 0 flaw)
fault_within why (Ok y) e = cc
fault_within why (Err flaw) e = (flaw, refl, cc)
