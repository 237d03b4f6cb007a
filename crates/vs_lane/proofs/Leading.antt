-- How what leads from one lane to the next is put together, and what it comes to.
use Rattle.std.proofs.Common.{inl, inr, ⊎_elim, ◌≡◌, ℕ, false, List, [], ◌∷◌, ◌++◌, append_assoc, append-nil, Option, Some, None, refl, sym, ◌∙◌, subst, arith}
use Rattle.std.specs.Prelude.{◌≢◌, ◌⊎◌}
use Rattle.vs_base.specs.declared.ShardName.{ShardName}
use Rattle.vs_base.specs.declared.table.Column.{Column}
use Rattle.vs_gtid.specs.declared.JournalValue.{JournalValue}
use Rattle.vs_gtid.specs.Vectors.{Place}
use Rattle.vs_model.specs.Copy.{Filter}
use Rattle.vs_model.specs.Core.{Piece as Given, AreGiven, HasBase}
use Rattle.vs_model.specs.Laws.{DueGoesOn, StopStays}
use Rattle.vs_model.specs.Logs.{Cluster, log_of}
use Rattle.vs_render.specs.Bodies.{columns_in}
use Rattle.vs_render.specs.Posted.{ArePosted, Shows, spelled_by}
use Rattle.vs_render.specs.declared.piece.Piece.{Piece}
use Rattle.vs_lane.specs.Pieces.{EndIsLast, meant_in, spelled_in}
use Rattle.vs_lane.specs.Stands.{Along, EndFits, EndHasBase, EndsBy, Later, Leads, Seen, Stands, StandsOn, log_seen}
use Rattle.vs_lane.specs.Steps.{StepFor, StepOn}
use Rattle.vs_lane.proofs.Given.{given_then}
use Rattle.vs_lane.proofs.Shown.{end-behind, given_front, none_last, on_end-behind, shows-behind, shows_front, spelled_same}

pub later_same : (L : Seen) → Later L L
later_same L = record {
  same = record { shard = refl; schema = refl; bound = refl; until_end = refl; origin = refl; all = refl; sound = refl; faults = omega arith; waits = omega arith };
  start = refl;
  seeks = refl;
}

pub later_then : (L M N : Seen) → Later L M → Later M N → Later L N
later_then L M N a b = record {
  same = record {
    shard = b.same.shard ∙ a.same.shard;
    schema = b.same.schema ∙ a.same.schema;
    bound = b.same.bound ∙ a.same.bound;
    until_end = b.same.until_end ∙ a.same.until_end;
    origin = b.same.origin ∙ a.same.origin;
    all = b.same.all ∙ a.same.all;
    sound = b.same.sound ∙ a.same.sound;
    faults = omega (arith, a.same.faults, b.same.faults);
    waits = omega (arith, a.same.waits, b.same.waits);
  };
  start = b.start ∙ a.start;
  seeks = b.seeks ∙ a.seeks;
}

pub leads_same : (L : Seen) → Leads L L []
leads_same L = record { later = later_same L; stands = λ l s. rw append-nil s }

pub leads_then : (L M N : Seen) (a b : List Piece) → Leads L M a → Leads M N b → Leads L N (a ++ b)
leads_then L M N a b x y = record {
  later = later_then L M N x.later y.later;
  stands = λ l s. rw (← append_assoc l a b) (y.stands (l ++ a) (x.stands l s));
}

-- ---- a step

along-append : (xs ys : List Given) (a b c : Place) → Along a xs b → Along b ys c → Along a (xs ++ ys) c
along-append [] ys a b c h k = subst (λ x. Along x ys c) h k
along-append (x ∷ xs) ys a b c h k = (h.0, h.1, h.2, along-append xs ys h.0 b c h.3 k)

append_nil_or : {A : Type 0} (xs ys : List A) → xs ++ ys ≢ [] → (xs ≢ []) ⊎ (ys ≢ [])
append_nil_or [] ys h = inr h
append_nil_or (x ∷ xs) ys h = inl (λ e. absurd (cc))

module _ (goes : DueGoesOn) (stays : StopStays) (L M : Seen) (p : Piece) (step : StepFor L M p) where
  stands_on : (all : List ℕ) (l : List Piece) (told : List Given) (last : Option JournalValue) → EndIsLast false l → last ≡ None → Along L.start told L.entry →
      StepOn L M all p step.told step.last → StandsOn L all l told last → StandsOn M all (l ++ p ∷ []) (told ++ step.told) step.last
  stands_on all l told last none no_last along on was =
      let first : AreGiven (meant_in L.bound L.schema) L.shard (log_seen L all) told None L.start =
      subst (λ x. AreGiven (meant_in L.bound L.schema) L.shard (log_seen L all) told x L.start) no_last was.given_there in
      let both : AreGiven (meant_in L.bound L.schema) L.shard (log_seen L all) (told ++ step.told) step.last L.start =
      given_then goes stays (meant_in L.bound L.schema) L.shard (log_seen L all) on.distinct step.told step.last L.start told L.entry first along on.given_there in
      record {
        given_there = rw (step.later.same.bound, step.later.same.shard, step.later.same.schema, step.later.start) both;
        base = λ some.
            let base : HasBase (log_seen L all) L.start = ⊎_elim was.base on.base (append_nil_or told step.told some) in
            rw (step.later.same.shard, step.later.same.schema, step.later.start) base;
        ends = on_end-behind (EndsBy M all) l (p ∷ []) none on.ends;
        end_base = on_end-behind (EndHasBase M all) l (p ∷ []) none on.end_base;
      }

  pub leads_by : Leads L M (p ∷ [])
  leads_by = record {
    later = step.later;
    stands = λ l s.
        let none : EndIsLast false l = rw step.unended at s.end_last in
        let no_last : s.last ≡ None = none_last (spelled_in L.bound) L.shard l s.told s.last none s.shows in
        let shows : Shows (spelled_in L.bound) L.shard (l ++ p ∷ []) (s.told ++ step.told) step.last =
        shows-behind (spelled_in L.bound) L.shard l (p ∷ []) s.told step.told s.last step.last none s.shows step.shows in
        record {
          told = s.told ++ step.told;
          last = step.last;
          shows = rw (step.later.same.bound, step.later.same.shard) shows;
          along = rw (step.later.start) (along-append s.told step.told L.start L.entry M.entry s.along step.along);
          stands_on = λ all is.
              let here : L.all ≡ Some all = sym step.later.same.all ∙ is in
              stands_on all l s.told s.last none no_last s.along (step.stands_on all here) (s.stands_on all here);
          end_last = end-behind M.ended l (p ∷ []) none step.end_last;
          fits = on_end-behind (EndFits M) l (p ∷ []) none step.fits;
        };
  }

-- ---- what the definitions of the stream make of it

not_nil_left : {A : Type 0} (xs ys zs : List A) → zs ≡ xs ++ ys → xs ≢ [] → zs ≢ []
not_nil_left [] ys zs e some none = some refl
not_nil_left (x ∷ xs) ys zs e some none = absurd (cc)

module _ (cluster : Cluster) (rules : Filter) (fields : ShardName → List ℕ → List Column) (first last : Seen) (taken more : List Piece) (all : List ℕ) where
  pub posted : Stands first [] → Leads first last (taken ++ more) → first.all ≡ Some all →
      log_of cluster first.shard ≡ log_seen first all → rules first.shard ≡ meant_in first.bound first.schema → fields first.shard ≡ columns_in first.bound.tables →
      ArePosted (spelled_by fields) cluster rules first.shard first.start taken
  posted begins leads told log filter columns =
      let s = leads.stands [] begins in
      let later = leads.later in
      let on : StandsOn last all (taken ++ more) s.told s.last = s.stands_on all (later.same.all ∙ told) in
      let shown : Shows (spelled_in first.bound) first.shard (taken ++ more) s.told s.last = rw (← later.same.bound, ← later.same.shard) s.shows in
      let f = shows_front (spelled_in first.bound) first.shard taken more s.told s.last shown in
      let given : AreGiven (meant_in first.bound first.schema) first.shard (log_seen first all) s.told s.last first.start =
      rw (← later.same.bound, ← later.same.shard, ← later.same.schema, ← later.start) on.given_there in
      let base : s.told ≢ [] → HasBase (log_seen first all) first.start = rw (← later.same.shard, ← later.same.schema, ← later.start) on.base in
      record {
        told = f.front;
        last = f.end;
        given_there = rw (filter, log) (given_front (meant_in first.bound first.schema) first.shard (log_seen first all) first.start s.told f.front f.rest s.last f.end f.are f.whole given);
        base = λ some. rw log (base (not_nil_left f.front f.rest s.told f.are some));
        shows = spelled_same (λ x. columns_in first.bound.tables) fields first.shard (sym columns) taken f.front f.end f.shows;
      }
