-- Which line is at fault.
use Rattle.std.proofs.Common.{◌≡◌, ◌≤◌, ◌+◌, ◌-◌, ℕ, suc, List, [], ◌∷◌, length, take, refl, sym, subst, arith}
use Rattle.std.specs.Prelude.{Option, Some, None, Result, Err}
use Rattle.vs_base.specs.declared.table.Table.{Table}
use Rattle.vs_schema.specs.declared.schema.Schema.{Schema}
use Rattle.vs_schema.specs.declared.refusal.SchemaRefusal.{SchemaRefusal}
use Rattle.vs_schema.specs.declared.refusal.SchemaRefusal.TheVariants.{BadSchema}
use Rattle.vs_schema.specs.Laws.{BeginsSchema, IsFirstFault}
use Rattle.vs_schema.specs.Lines.{lines_of}
use Rattle.vs_schema.specs.Rules.{Draft, by_line, by_lines, closed, finished, schema_of, start}

-- where lines behind a draft are first at fault, counted from 0
record Fails (d : Draft) (lines : List (List ℕ)) (n : ℕ) : Type 0 where
  within : n ≤ length lines
  after : Draft
  before : BeginsSchema d (take n lines) after
  there : suc n ≤ length lines → (next : Draft) → BeginsSchema d (take (suc n) lines) next → ⊥
  behind : (next : Draft) (tables : List Table) → BeginsSchema d lines next → closed next.tables next.current ≡ Some tables → ⊥

in_front : (d next : Draft) (line : List ℕ) (lines : List (List ℕ)) (n : ℕ) → by_line d line ≡ Some next → Fails next lines n → Fails d (line ∷ lines) (suc n)
in_front d next line lines n taken f = record {
  within = omega (arith, f.within);
  after = f.after;
  before = (next, taken, f.before);
  there = λ short last b. f.there (omega arith) last (moved (take (suc n) lines) last b);
  behind = λ last tables b c. f.behind last tables (moved lines last b) c;
}
  where
    moved : (more : List (List ℕ)) (last : Draft) → BeginsSchema d (line ∷ more) last → BeginsSchema next more last
    moved more last b =
        let same : b.0 ≡ next = cc in
        subst (λ z. BeginsSchema z more last) same b.2

stuck : (d : Draft) (line : List ℕ) (lines : List (List ℕ)) → by_line d line ≡ None → Fails d (line ∷ lines) 0
stuck d line lines refused = record {
  within = omega arith;
  after = d;
  before = refl;
  there = λ short last b. absurd (cc);
  behind = λ last tables b c. absurd (cc);
}

unfinished : (number line : ℕ) (d : Draft) (tables : Option (List Table)) → closed d.tables d.current ≡ tables → finished number d tables ≡ Err (BadSchema line) → (line ≡ number) × Fails d [] 0
unfinished number line d (Some tables) c h = absurd (cc)
unfinished number line d None c h = (
  cc,
  record {
    within = omega arith;
    after = d;
    before = refl;
    there = λ short last b. absurd (omega arith);
    behind = λ last tables b k. absurd (let same : d ≡ last = b in let e : closed d.tables d.current ≡ Some tables = subst (λ (z : Draft). closed z.tables z.current ≡ Some tables) (sym same) k in cc);
  },
)

fails : (number line : ℕ) (d : Draft) (lines : List (List ℕ)) → by_lines number d lines ≡ Err (BadSchema line) → (n : ℕ) × (line ≡ number + n) × Fails d lines n
unfolding by_lines
fails number line d [] h =
    let u = unfinished number line d (closed d.tables d.current) refl h in
    (0, omega (arith, u.0), u.1)
fails number line d (first ∷ lines) h = go (by_line d first) refl h (λ next k. fails (number + 1) line next lines k)
  where
    go : (o : Option Draft) → by_line d first ≡ o → ◌≡◌ {A = Result Schema SchemaRefusal} (elim o [ None ↦ Err (BadSchema number) | Some next ↦ by_lines (number + 1) next lines ]) (Err (BadSchema line))
        → ((next : Draft) → by_lines (number + 1) next lines ≡ Err (BadSchema line) → (n : ℕ) × (line ≡ (number + 1) + n) × Fails next lines n)
        → (n : ℕ) × (line ≡ number + n) × Fails d (first ∷ lines) n
    go None e k rest = (0, (let same : line ≡ number = cc in omega arith), stuck d first lines e)
    go (Some next) e k rest =
        let f = rest next k in
        (suc f.0, omega (arith, f.1), in_front d next first lines f.0 e f.2)

pub first_fault : (text : List ℕ) (line : ℕ) → schema_of text ≡ Err (BadSchema line) → IsFirstFault (lines_of text) line
first_fault text line h =
    let f = fails 1 line start (lines_of text) h in
    let one : line - 1 ≡ f.0 = omega (arith, f.1) in
    let next : line ≡ suc f.0 = omega (arith, f.1) in
    record {
      from_one = omega (arith, f.1);
      before = (f.2.after, subst (λ z. BeginsSchema start (take z (lines_of text)) f.2.after) (sym one) f.2.before);
      within = omega (arith, f.1, f.2.within);
      there = λ short b. f.2.there (omega (arith, next)) b.0 (subst (λ z. BeginsSchema start (take z (lines_of text)) b.0) next b.1);
      behind = λ whole. f.2.behind whole.after whole.tables whole.begins whole.closed;
    }
