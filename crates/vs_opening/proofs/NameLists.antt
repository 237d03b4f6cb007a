-- Names that differ, one more, and the first that stands there for the second time.
use Rattle.std.proofs.Common.{◌≡◌, ℕ, ◌+◌, ◌<◌, suc, Bool, true, false, not, ◌||◌, List, [], ◌∷◌, ◌++◌, length, get_or, take, drop, map, refl, sym, ap, ◌∙◌, add-one}
use Rattle.std.specs.List.{list_any}
use Rattle.std.proofs.Math.Seq.{drop-cons}
use Rattle.std.proofs.lemmas.Bool.{and_parts, true≢false}
use Rattle.std.proofs.lemmas.List.{map-append, take_more, take-append-drop}
use Rattle.std.proofs.lemmas.List.Folds.{list_any-append}
use Rattle.vs_base.specs.Names.{names_differ, same_name}
use Rattle.vs_base.specs.declared.ShardName.{ShardName}
use Rattle.vs_base.proofs.NameLemmas.{same_name-is, same_name-refl}
use Rattle.vs_gtid.specs.Vectors.{is_in}
use Rattle.vs_opening.specs.declared.named.Named.{Named}
use Rattle.vs_opening.specs.Asked.{IsFirstRepeated, shards_named}

same_name-sym : (a b : ShardName) → same_name a b ≡ same_name b a
same_name-sym a b = by (same_name a b) (same_name b a) refl refl
  where
    by : (x y : Bool) → same_name a b ≡ x → same_name b a ≡ y → x ≡ y
    by true true p q = refl
    by true false p q = sym (same_name-refl b) ∙ ap (λ n. same_name b n) (sym (same_name-is a b p)) ∙ q
    by false true p q = sym p ∙ ap (λ n. same_name a n) (same_name-is b a q) ∙ same_name-refl a
    by false false p q = refl

neither : (x y : Bool) → (x || y) ≡ false → (x ≡ false) × (y ≡ false)
neither true y e = absurd (true≢false e)
neither false y e = (refl, e)

not_true : (x : Bool) → not x ≡ true → x ≡ false
not_true true e = absurd (true≢false (sym e))
not_true false e = refl

-- a name that isn't among those that differ
pub names_differ-push : (names : List ShardName) (name : ShardName) → names_differ names ≡ true → is_in name names ≡ false → names_differ (names ++ name ∷ []) ≡ true
names_differ-push [] name differ absent = refl
names_differ-push (n ∷ names) name differ absent =
    let parts = and_parts (not (list_any (same_name n) names)) (names_differ names) differ in
    let away = neither (same_name name n) (list_any (same_name name) names) absent in
    let none : list_any (same_name n) (names ++ name ∷ []) ≡ false =
    list_any-append (same_name n) names (name ∷ []) ∙ ap (λ b. b || (same_name n name || false)) (not_true _ parts.0) ∙ ap (λ b. b || false) (same_name-sym n name ∙ away.0)
    in
    let more = names_differ-push names name parts.1 away.1 in cc

-- the part in front of a place, the item there, and the part behind it
pub split_at : {X : Type 0} (xs : List X) (i : ℕ) (x : X) → i < length xs → x ≡ get_or xs i x → xs ≡ take i xs ++ x ∷ drop (i + 1) xs
split_at xs i x inside is =
    sym (take-append-drop i xs) ∙ ap (λ l. take i xs ++ l) (drop-cons xs i x inside ∙ ap (λ y. y ∷ drop (suc i) xs) (sym is) ∙ ap (λ n. x ∷ drop n xs) (sym (add-one i)))

shards_named-at : (named : List Named) (i : ℕ) (n : Named) → i < length named → n ≡ get_or named i n → shards_named named ≡ shards_named (take i named) ++ n.name ∷ shards_named (drop (i + 1) named)
shards_named-at named i n inside is = ap shards_named (split_at named i n inside is) ∙ map-append (λ (m : Named). m.name) (take i named) (n ∷ drop (i + 1) named)

-- a name is among those that are named
pub named_in : (name : ShardName) (named : List Named) → list_any (λ other. same_name name other.name) named ≡ is_in name (shards_named named)
named_in name [] = refl
named_in name (n ∷ named) = ap (λ b. same_name name n.name || b) (named_in name named)

-- one more that isn't among those in front of it
pub differ-more : (named : List Named) (i : ℕ) (n : Named) → i < length named → n ≡ get_or named i n → names_differ (shards_named (take i named)) ≡ true → is_in n.name (shards_named (take i named)) ≡ false →
    names_differ (shards_named (take (i + 1) named)) ≡ true
differ-more named i n inside is differ absent =
    ap names_differ (ap shards_named (take_more named i n inside ∙ ap (λ m. take i named ++ m ∷ []) (sym is)) ∙ map-append (λ (m : Named). m.name) (take i named) (n ∷ []))
    ∙ names_differ-push (shards_named (take i named)) n.name differ absent

-- one that is among those in front of it, where these differ
pub repeated_at : (named : List Named) (i : ℕ) (n : Named) → i < length named → n ≡ get_or named i n → names_differ (shards_named (take i named)) ≡ true → is_in n.name (shards_named (take i named)) ≡ true →
    IsFirstRepeated (shards_named named) n.name
repeated_at named i n inside is differ again = record {
  before = shards_named (take i named);
  behind = shards_named (drop (i + 1) named);
  are = shards_named-at named i n inside is;
  differ = differ;
  again = again;
}
