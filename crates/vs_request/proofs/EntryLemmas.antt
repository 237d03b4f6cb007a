-- Entries one by one.
use Rattle.std.proofs.Common.{◌≡◌, ◌+◌, ◌<◌, ◌⊎◌, ℕ, suc, List, [], ◌∷◌, ◌++◌, length, take, drop, get_or, sym, subst, arith, inl, inr}
use Rattle.std.proofs.lemmas.List.{length-take-le, take_more}
use Rattle.std.proofs.Math.Seq.{split_at}
use Rattle.vs_proto.specs.declared.vgtid.ShardGtid.{ShardGtid}
use Rattle.vs_request.specs.declared.request.Wanted.{Wanted}
use Rattle.vs_request.specs.declared.refusal.RequestRefusal.{RequestRefusal}
use Rattle.vs_request.specs.declared.refusal.RequestRefusal.TheVariants.{Memory}
use Rattle.vs_request.specs.Entries.{AreWanted, HasFirstFault, IsFaulty, IsWanted}

wanted-append : (entries : List ShardGtid) (wanted : List Wanted) (entry : ShardGtid) (w : Wanted) → AreWanted entries wanted → IsWanted entry w → AreWanted (entries ++ entry ∷ []) (wanted ++ w ∷ [])
wanted-append [] [] entry w are is = (is, tt)
wanted-append [] (v ∷ more) entry w are is = absurd are
wanted-append (e ∷ entries) [] entry w are is = absurd are
wanted-append (e ∷ entries) (v ∷ more) entry w are is = (are.0, wanted-append entries more entry w are.1 is)

-- one entry more has no fault
pub next_wanted : (entries : List ShardGtid) (i : ℕ) (d : ShardGtid) (wanted : List Wanted) (w : Wanted) → i < length entries →
    AreWanted (take i entries) wanted → IsWanted (get_or entries i d) w → AreWanted (take (i + 1) entries) (wanted ++ w ∷ [])
next_wanted entries i d wanted w inside are is =
    subst (λ front. AreWanted front (wanted ++ w ∷ [])) (sym (take_more entries i d inside)) (wanted-append (take i entries) wanted (get_or entries i d) w are is)

-- the next one has the first fault
pub first_fault : (entries : List ShardGtid) (i : ℕ) (d : ShardGtid) (wanted : List Wanted) (fault : RequestRefusal) → i < length entries →
    AreWanted (take i entries) wanted → IsFaulty i (get_or entries i d) fault → HasFirstFault entries fault
first_fault entries i d wanted fault inside are faulty = record {
  before = take i entries;
  entry = get_or entries i d;
  behind = drop (suc i) entries;
  are = split_at entries i d inside;
  wanted = wanted;
  none_before = are;
  is_faulty = subst (λ k. IsFaulty k (get_or entries i d) fault) (sym (length-take-le i entries (omega arith))) faulty;
}

-- or memory is wanting
pub memory_or_fault : (entries : List ShardGtid) (i : ℕ) (d : ShardGtid) (wanted : List Wanted) (fault : RequestRefusal) → i < length entries →
    AreWanted (take i entries) wanted → (fault ≡ Memory) ⊎ IsFaulty i (get_or entries i d) fault → (fault ≡ Memory) ⊎ HasFirstFault entries fault
memory_or_fault entries i d wanted fault inside are stop = elim stop [ inl memory ↦ inl memory | inr faulty ↦ inr (first_fault entries i d wanted fault inside are faulty) ]
