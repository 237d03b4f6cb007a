-- Reading goes on field by field, and ends.
use Rattle.std.proofs.Common.{◌≡◌, ℕ, [], Option, Some, None, Result, Ok, Err, refl, ap, sym, ◌∙◌, subst}
use Rattle.vs_wire.specs.Varint.{◌>>=◌}
use Rattle.vs_wire.specs.declared.refusal.Flaw.{Flaw}
use Rattle.vs_wire.specs.declared.refusal.Flaw.TheVariants as flaws
use Rattle.vs_wire.specs.declared.refusal.WireRefusal.{WireRefusal}
use Rattle.vs_wire.specs.Fields.{Placed, Walk, nothing, with_first, ends_at}
use Rattle.vs_wire.specs.Seen.{refusal}
use Rattle.vs_proto.specs.declared.refusal.Fault.{Fault}
use Rattle.vs_proto.specs.declared.refusal.Fault.TheVariants.{Wire, NotUtf8}
use Rattle.vs_proto.specs.declared.refusal.Stop.{Stop}
use Rattle.vs_proto.specs.declared.refusal.Stop.TheVariants as stops
use Rattle.vs_proto.specs.declared.refusal.ProtoRefusal.{ProtoRefusal}
use Rattle.vs_proto.specs.Answers.{ReadsInto, RefusesMessage, Stops, place_of, refusal_at}
use Rattle.vs_proto.specs.Shapes.{Shape, take_field, placed_at, ended, read_walk, take_fields}

pub read_first : {M : Type 0} (shape : Shape M) (m : M) (f : Placed) (w : Walk) →
    read_walk shape m (with_first f w) ≡ (placed_at f.at (take_field shape.slots m f.field f.value) >>= λ m'. read_walk shape m' w)
unfolding take_fields
read_first shape m f w = refl

read_end : {M : Type 0} (shape : Shape M) (m : M) (fault : Option (ℕ × Flaw)) →
    read_walk shape m (record { fields = []; fault = fault }) ≡ ended shape fault m
unfolding take_fields
read_end shape m fault = refl

pub at_end : {M : Type 0} (shape : Shape M) (m : M) (w : Walk) (read : Result M (ℕ × Fault)) (res : Result (Unit {0}) ProtoRefusal) →
    w ≡ nothing → read_walk shape m w ≡ read → ReadsInto res m (ended shape None m) → ReadsInto res m read
at_end {M} shape m w read res e f h =
    let P : Result M (ℕ × Fault) → Type 0 = λ r. ReadsInto res m r in
    subst P (sym (read_end shape m None) ∙ ap (λ v. read_walk shape m v) (sym e) ∙ f) h

pub goes_on : {M : Type 0} (shape : Shape M) (m new : M) (f : Placed) (w rest : Walk) (read : Result M (ℕ × Fault)) →
    w ≡ with_first f rest → read_walk shape m w ≡ read → take_field shape.slots m f.field f.value ≡ Ok new → read_walk shape new rest ≡ read
goes_on shape m new f w rest read e was taken =
    sym (ap (λ t. placed_at f.at t >>= λ m'. read_walk shape m' rest) taken)
    ∙ sym (read_first shape m f rest) ∙ ap (λ v. read_walk shape m v) (sym e) ∙ was

refuses_at : {M : Type 0} (at : ℕ) (stop : Stop) (taken : Result M Fault) (on : M → Result M (ℕ × Fault)) → Stops stop taken →
    RefusesMessage (refusal_at at stop) (placed_at at taken >>= on)
refuses_at at stops.Memory taken on h = tt
refuses_at at (stops.Bad (Wire why)) taken on h = ap (λ t. placed_at at t >>= on) h
refuses_at at (stops.Bad NotUtf8) taken on h = ap (λ t. placed_at at t >>= on) h

pub stops_at : {M : Type 0} (shape : Shape M) (m : M) (f : Placed) (w rest : Walk) (read : Result M (ℕ × Fault)) (stop : Stop) →
    w ≡ with_first f rest → read_walk shape m w ≡ read → Stops stop (take_field shape.slots m f.field f.value) → RefusesMessage (refusal_at f.at stop) read
stops_at {M} shape m f w rest read stop e was h =
    let P : Result M (ℕ × Fault) → Type 0 = λ r. RefusesMessage (refusal_at f.at stop) r in
    subst P (sym (read_first shape m f rest) ∙ ap (λ v. read_walk shape m v) (sym e) ∙ was)
    (refuses_at f.at stop (take_field shape.slots m f.field f.value) (λ m'. read_walk shape m' rest) h)

place_of-refusal : (at : ℕ) (flaw : Flaw) → place_of (refusal at flaw) ≡ at
place_of-refusal at flaws.Cut = refl
place_of-refusal at flaws.Long = refl
place_of-refusal at (flaws.BadKind kind) = refl
place_of-refusal at flaws.ZeroField = refl

pub no_field_at : {M : Type 0} (shape : Shape M) (m : M) (w : Walk) (at : ℕ) (flaw : Flaw) (why : WireRefusal) (read : Result M (ℕ × Fault)) →
    why ≡ refusal at flaw → w ≡ ends_at at flaw → read_walk shape m w ≡ read → read ≡ Err (place_of why, Wire why)
no_field_at shape m w at flaw why read e f was =
    sym was ∙ ap (λ v. read_walk shape m v) f ∙ read_end shape m (Some (at, flaw))
    ∙ ap (λ k. Err (k, Wire (refusal at flaw))) (sym (place_of-refusal at flaw) ∙ ap place_of (sym e)) ∙ ap (λ x. Err (place_of why, Wire x)) (sym e)
