-- Bodies are read where, and only where, their bytes are the fields of a body.
use Rattle.std.proofs.Common.{◌≡◌, ◌≤◌, ◌<◌, ◌↔◌, ℕ, zero, suc, ◌+◌, ◌-◌, ◌*◌, ◌==◌, Bool, true, false, nat_lt, nat_le, List, [], ◌∷◌, ◌++◌, length, take, drop, refl, sym, ap, subst, ◌∙◌, append_assoc, arith}
use Rattle.std.specs.Prelude.{Option, Some, None, if◌then◌else◌}
use Rattle.std.proofs.lemmas.Bool.Decides.{nat_tests}
use Rattle.std.proofs.lemmas.List.{append-nil, length-take-le, length-append, take_at, drop_at, take-append-drop}
use Rattle.byteorder.specs.Endian.{little_number}
use Rattle.byteorder.specs.Numbers.{little_from-append}
use Rattle.vs_binlog.specs.Packed.{long_in, packed_in}
use Rattle.vs_rows.specs.declared.kind.RowsKind.{RowsKind}
use Rattle.vs_rows.specs.Reading.{◌>>=◌}
use Rattle.vs_rows.specs.Bits.{bit_bytes}
use Rattle.vs_rows.specs.Layouts.{MapSaid, RowsSaid, cut, number_at, packed_at, name_at, extra_at, images, map_body, rows_body}
use Rattle.vs_rows.specs.Grammar.{IsNumber, IsPacked, IsName, IsExtra, IsTableMap, IsRowsEvent}
use Rattle.vs_rows.proofs.RowGrammar.{found, bind_some, cut_splits, cut_joins, long_enough, same_parts}

-- a field at the front, and what stands behind it
abbrev Splits : {A : Type 0} → (List ℕ → A → Type 0) → List ℕ → A × List ℕ → Type 0
Splits Is bytes x = (own : List ℕ) × (bytes ≡ own ++ x.1) × Is own x.0

number_alone : (n : ℕ) (bytes : List ℕ) → n ≤ length bytes → little_number n (take n bytes) ≡ little_number n bytes
number_alone n bytes enough =
    sym (little_from-append n (take n bytes) (drop n bytes) (omega (arith, length-take-le n bytes enough)))
    ∙ ap (λ xs. little_number n xs) (take-append-drop n bytes)

number_by : (n : ℕ) (bytes : List ℕ) (b : Bool) (x : ℕ) (rest : List ℕ) → nat_lt (length bytes) n ≡ b → (if b then None else found (little_number n bytes) (drop n bytes)) ≡ found x rest → Splits (IsNumber n) bytes (x, rest)
number_by n bytes true x rest t h = cc
number_by n bytes false x rest t h =
    let enough : n ≤ length bytes = grind (arith, nat_tests) in
    let parts = same_parts (little_number n bytes) x (drop n bytes) rest h in
    (take n bytes, sym (take-append-drop n bytes) ∙ ap (λ xs. take n bytes ++ xs) parts.1, (length-take-le n bytes enough, number_alone n bytes enough ∙ parts.0))

number_splits : (n : ℕ) (bytes : List ℕ) (x : ℕ × List ℕ) → number_at n bytes ≡ Some x → Splits (IsNumber n) bytes x
number_splits n bytes (x, rest) h = number_by n bytes (nat_lt (length bytes) n) x rest refl h

number_joins : (n : ℕ) (own rest : List ℕ) (x : ℕ) → IsNumber n own x → number_at n (own ++ rest) ≡ Some (x, rest)
number_joins n own rest x h =
    let same : little_number n (own ++ rest) ≡ x = little_from-append n own rest (omega (arith, h.0)) ∙ h.1 in
    rw (long_enough own rest n h.0, same, drop_at own rest n h.0) refl

-- packed numbers

-- these bytes, and no more, are the number that was read
record Whole (read : List ℕ → Option (ℕ × ℕ)) (bytes : List ℕ) (x : ℕ × ℕ) : Type 0 where
  enough : x.1 ≤ length bytes
  alone : read (take x.1 bytes) ≡ Some x

long_by : (n : ℕ) (rest : List ℕ) (b : Bool) (x : ℕ × ℕ) → nat_lt (length rest) n ≡ b → (if b then None else Some (little_number n rest, n + 1)) ≡ Some x → (n ≤ length rest) × (x ≡ (little_number n rest, n + 1))
long_by n rest true x t h = cc
long_by n rest false x t h = (grind (arith, nat_tests), cc)

long_is : (n : ℕ) (rest : List ℕ) (x : ℕ × ℕ) → long_in n rest ≡ Some x → (n ≤ length rest) × (x ≡ (little_number n rest, n + 1))
long_is n rest x h = long_by n rest (nat_lt (length rest) n) x refl h

long_so : (n : ℕ) (rest : List ℕ) → n ≤ length rest → long_in n rest ≡ Some (little_number n rest, n + 1)
long_so n rest enough = let t : nat_lt (length rest) n ≡ false = grind (arith, nat_tests) in rw t refl

long_alone : (n : ℕ) (rest : List ℕ) (x : ℕ × ℕ) → long_in n rest ≡ Some x → (x.1 ≡ suc n) × (n ≤ length rest) × (long_in n (take n rest) ≡ Some x)
long_alone n rest x h =
    let is = long_is n rest x h in
    let size = length-take-le n rest is.0 in
    (ap (λ (p : ℕ × ℕ). p.1) is.1 ∙ omega arith, is.0, long_so n (take n rest) (omega arith) ∙ (ap (λ k. let o : Option (ℕ × ℕ) = Some (k, n + 1) in o) (number_alone n rest is.0) ∙ ap (λ (p : ℕ × ℕ). Some p) (sym is.1)))

long_front : (n : ℕ) (rest more : List ℕ) (x : ℕ × ℕ) → long_in n rest ≡ Some x → long_in n (rest ++ more) ≡ Some x
long_front n rest more x h =
    let is = long_is n rest x h in
    long_so n (rest ++ more) (omega (arith, length-append rest more))
    ∙ (ap (λ k. let o : Option (ℕ × ℕ) = Some (k, n + 1) in o) (little_from-append n rest more is.0) ∙ ap (λ (p : ℕ × ℕ). Some p) (sym is.1))

-- how the first byte chooses
abbrev chain : Bool → Bool → Bool → Bool → ℕ → List ℕ → Option (ℕ × ℕ)
chain one two three eight b rest =
    if one then Some (b, 1) else if two then long_in 2 rest else if three then long_in 3 rest else if eight then long_in 8 rest else None

chain_front : (one two three eight : Bool) (b : ℕ) (rest more : List ℕ) (x : ℕ × ℕ) → chain one two three eight b rest ≡ Some x → chain one two three eight b (rest ++ more) ≡ Some x
chain_front true two three eight b rest more x h = h
chain_front false true three eight b rest more x h = long_front 2 rest more x h
chain_front false false true eight b rest more x h = long_front 3 rest more x h
chain_front false false false true b rest more x h = long_front 8 rest more x h
chain_front false false false false b rest more x h = cc

abbrev Alone : Bool → Bool → Bool → Bool → ℕ → List ℕ → ℕ × ℕ → Type 0
Alone one two three eight b rest x = (n : ℕ) × (x.1 ≡ suc n) × (n ≤ length rest) × (chain one two three eight b (take n rest) ≡ Some x)

chain_alone : (one two three eight : Bool) (b : ℕ) (rest : List ℕ) (x : ℕ × ℕ) → chain one two three eight b rest ≡ Some x → Alone one two three eight b rest x
chain_alone true two three eight b rest x h =
    let is : (let p : ℕ × ℕ = (b, 1) in p) ≡ x = cc in
    (0, sym (ap (λ (p : ℕ × ℕ). p.1) is), omega arith, h)
chain_alone false true three eight b rest x h = let l = long_alone 2 rest x h in (2, l.0, l.1, l.2)
chain_alone false false true eight b rest x h = let l = long_alone 3 rest x h in (3, l.0, l.1, l.2)
chain_alone false false false true b rest x h = let l = long_alone 8 rest x h in (8, l.0, l.1, l.2)
chain_alone false false false false b rest x h = cc

packed_alone : (bytes : List ℕ) (x : ℕ × ℕ) → packed_in bytes ≡ Some x → (x.1 ≤ length bytes) × (packed_in (take x.1 bytes) ≡ Some x)
unfolding packed_in
packed_alone [] x h = cc
packed_alone (b ∷ rest) x h =
    let a = chain_alone (nat_le b 250) (b == 252) (b == 253) (b == 254) b rest x h in
    (omega (arith, a.1, a.2), ap (λ k. packed_in (take k (b ∷ rest))) a.1 ∙ a.3)

packed_front : (own rest : List ℕ) (x : ℕ × ℕ) → packed_in own ≡ Some x → packed_in (own ++ rest) ≡ Some x
unfolding packed_in
packed_front [] rest x h = cc
packed_front (b ∷ own) rest x h = chain_front (nat_le b 250) (b == 252) (b == 253) (b == 254) b own rest x h

packed_splits : (bytes : List ℕ) (x : ℕ × List ℕ) → packed_at bytes ≡ Some x → Splits IsPacked bytes x
packed_splits bytes (x, rest) h =
    let f = bind_some (packed_in bytes) _ (x, rest) h in
    let a = packed_alone bytes f.0 f.1 in
    let parts = same_parts f.0.0 x (drop f.0.1 bytes) rest f.2 in
    let size = length-take-le f.0.1 bytes a.0 in (
      take f.0.1 bytes,
      sym (take-append-drop f.0.1 bytes) ∙ ap (λ xs. take f.0.1 bytes ++ xs) parts.1,
      a.1 ∙ (ap (λ k. let o : Option (ℕ × ℕ) = Some (f.0.0, k) in o) (sym size) ∙ ap (λ k. let o : Option (ℕ × ℕ) = Some (k, length (take f.0.1 bytes)) in o) parts.0),
    )

packed_joins : (own rest : List ℕ) (x : ℕ) → IsPacked own x → packed_at (own ++ rest) ≡ Some (x, rest)
packed_joins own rest x h = rw (packed_front own rest (x, length own) h, drop_at own rest (length own) refl) refl

-- names and extra bytes

guarded : {A : Type 0} (b : Bool) (x : Option A) (y : A) → (if b then x else None) ≡ Some y → (b ≡ true) × (x ≡ Some y)
guarded true x y h = (refl, h)
guarded false x y h = cc

unless : {A : Type 0} (b : Bool) (x : Option A) (y : A) → (if b then None else x) ≡ Some y → (b ≡ false) × (x ≡ Some y)
unless true x y h = cc
unless false x y h = (refl, h)

three_parts : (a b c rest : List ℕ) → a ++ (b ++ (c ++ rest)) ≡ (a ++ (b ++ c)) ++ rest
three_parts a b c rest = simp append_assoc

name_splits : (bytes : List ℕ) (x : List ℕ × List ℕ) → name_at bytes ≡ Some x → Splits IsName bytes x
unfolding name_at
name_splits bytes (x, rest) h =
    let size = bind_some (number_at 1 bytes) _ (x, rest) h in
    let name = bind_some (cut size.0.0 size.0.1) _ (x, rest) size.2 in
    let end = bind_some (number_at 1 name.0.1) _ (x, rest) name.2 in
    let zero_byte = guarded (end.0.0 == 0) (Some (name.0.0, end.0.1)) (x, rest) end.2 in
    let parts = same_parts name.0.0 x end.0.1 rest zero_byte.1 in
    let s = number_splits 1 bytes size.0 size.1 in
    let n = cut_splits size.0.0 size.0.1 name.0 name.1 in
    let e = number_splits 1 name.0.1 end.0 end.1 in
    let is_zero : end.0.0 ≡ 0 = grind (arith, nat_tests) in
    let whole : bytes ≡ s.0 ++ (name.0.0 ++ (e.0 ++ rest)) =
    s.1 ∙ ap (λ xs. s.0 ++ xs) (n.0 ∙ ap (λ xs. name.0.0 ++ xs) (e.1 ∙ ap (λ xs. e.0 ++ xs) parts.1)) in
    let made : IsName (s.0 ++ (name.0.0 ++ e.0)) name.0.0 = record {
      size = s.0;
      end = e.0;
      are = refl;
      is_size = (s.2.0, s.2.1 ∙ sym n.1);
      is_end = (e.2.0, e.2.1 ∙ is_zero);
    } in
    let P : List ℕ → Type 0 = λ y. Splits IsName bytes (y, rest) in
    subst P parts.0 (s.0 ++ (name.0.0 ++ e.0), whole ∙ three_parts s.0 name.0.0 e.0 rest, made)

name_joins : (own rest name : List ℕ) → IsName own name → name_at (own ++ rest) ≡ Some (name, rest)
unfolding name_at
name_joins own rest name i =
    let whole : own ++ rest ≡ i.size ++ (name ++ (i.end ++ rest)) = ap (λ xs. xs ++ rest) i.are ∙ sym (three_parts i.size name i.end rest) in
    rw (whole, number_joins 1 i.size (name ++ (i.end ++ rest)) (length name) i.is_size, cut_joins (length name) name (i.end ++ rest) refl, number_joins 1 i.end rest 0 i.is_end) refl

extra_splits : (bytes : List ℕ) (x : List ℕ × List ℕ) → extra_at bytes ≡ Some x → (own : List ℕ) × (bytes ≡ own ++ x.1) × IsExtra own
unfolding extra_at
extra_splits bytes x h =
    let size = bind_some (number_at 2 bytes) _ x h in
    let enough = unless (nat_lt size.0.0 2) (cut (size.0.0 - 2) size.0.1) x size.2 in
    let s = number_splits 2 bytes size.0 size.1 in
    let e = cut_splits (size.0.0 - 2) size.0.1 x enough.1 in
    let two : 2 ≤ size.0.0 = grind (arith, nat_tests) in (
      s.0 ++ x.0,
      s.1 ∙ (ap (λ xs. s.0 ++ xs) e.0 ∙ sym (append_assoc s.0 x.0 x.1)),
      record {
        size = s.0;
        extra = x.0;
        are = refl;
        is_size = (s.2.0, s.2.1 ∙ omega (arith, e.1));
      },
    )

extra_joins : (own rest : List ℕ) → IsExtra own → (extra : List ℕ) × (extra_at (own ++ rest) ≡ Some (extra, rest))
unfolding extra_at
extra_joins own rest i =
    let whole : own ++ rest ≡ i.size ++ (i.extra ++ rest) = ap (λ xs. xs ++ rest) i.are ∙ append_assoc i.size i.extra rest in
    let few : nat_lt (2 + length i.extra) 2 ≡ false = grind (arith, nat_tests) in
    let left : 2 + length i.extra - 2 ≡ length i.extra = omega arith in
    (i.extra, rw (whole, number_joins 2 i.size (i.extra ++ rest) (2 + length i.extra) i.is_size, few, left, cut_joins (length i.extra) i.extra rest refl) refl)

-- bodies

some_same : {A : Type 0} (a x : A) → (let o : Option A = Some a in o) ≡ Some x → a ≡ x
some_same a x h = cc

map_splits : (body : List ℕ) (said : MapSaid) → map_body body ≡ Some said → IsTableMap body said
unfolding map_body
map_splits body said h =
    let id = bind_some (number_at 6 body) _ said h in
    let flags = bind_some (cut 2 id.0.1) _ said id.2 in
    let schema = bind_some (name_at flags.0.1) _ said flags.2 in
    let table = bind_some (name_at schema.0.1) _ said schema.2 in
    let count = bind_some (packed_at table.0.1) _ said table.2 in
    let types = bind_some (cut count.0.0 count.0.1) _ said count.2 in
    let size = bind_some (packed_at types.0.1) _ said types.2 in
    let metadata = bind_some (cut size.0.0 size.0.1) _ said size.2 in
    let nullable = bind_some (cut (bit_bytes count.0.0) metadata.0.1) _ said metadata.2 in
    let made : MapSaid = record { id = id.0.0; schema = schema.0.0; table = table.0.0; types = types.0.0; metadata = metadata.0.0 } in
    let i = number_splits 6 body id.0 id.1 in
    let f = cut_splits 2 id.0.1 flags.0 flags.1 in
    let s = name_splits flags.0.1 schema.0 schema.1 in
    let t = name_splits schema.0.1 table.0 table.1 in
    let c = packed_splits table.0.1 count.0 count.1 in
    let ts = cut_splits count.0.0 count.0.1 types.0 types.1 in
    let z = packed_splits types.0.1 size.0 size.1 in
    let m = cut_splits size.0.0 size.0.1 metadata.0 metadata.1 in
    let n = cut_splits (bit_bytes count.0.0) metadata.0.1 nullable.0 nullable.1 in
    subst (λ said. IsTableMap body said) (some_same made said nullable.2) (record {
      id = i.0;
      flags = flags.0.0;
      schema = s.0;
      table = t.0;
      count = c.0;
      size = z.0;
      nullable = nullable.0.0;
      rest = nullable.0.1;
      are =
          i.1 ∙ ap (λ xs. i.0 ++ xs) (f.0 ∙ ap (λ xs. flags.0.0 ++ xs) (s.1 ∙ ap (λ xs. s.0 ++ xs) (t.1 ∙ ap (λ xs. t.0 ++ xs)
          (c.1 ∙ ap (λ xs. c.0 ++ xs) (ts.0 ∙ ap (λ xs. types.0.0 ++ xs) (z.1 ∙ ap (λ xs. z.0 ++ xs) (m.0 ∙ ap (λ xs. metadata.0.0 ++ xs) n.0)))))));
      is_id = i.2;
      two_flags = f.1;
      is_schema = s.2;
      is_table = t.2;
      is_count = subst (λ k. IsPacked c.0 k) (sym ts.1) c.2;
      is_size = subst (λ k. IsPacked z.0 k) (sym m.1) z.2;
      bits = n.1 ∙ ap bit_bytes (sym ts.1);
    })

map_joins : (body : List ℕ) (said : MapSaid) → IsTableMap body said → map_body body ≡ Some said
unfolding map_body
map_joins body said m =
    let n9 = m.nullable ++ m.rest in
    let n8 = said.metadata ++ n9 in
    let n7 = m.size ++ n8 in
    let n6 = said.types ++ n7 in
    let n5 = m.count ++ n6 in
    let n4 = m.table ++ n5 in
    let n3 = m.schema ++ n4 in
    let n2 = m.flags ++ n3 in
    let are : body ≡ m.id ++ n2 = m.are in
    rw (are, number_joins 6 m.id n2 said.id m.is_id, cut_joins 2 m.flags n3 m.two_flags, name_joins m.schema n4 said.schema m.is_schema, name_joins m.table n5 said.table m.is_table, packed_joins m.count n6 (length said.types) m.is_count, cut_joins (length said.types) said.types n7 refl, packed_joins m.size n8 (length said.metadata) m.is_size, cut_joins (length said.metadata) said.metadata n9 refl, cut_joins (bit_bytes (length said.types)) m.nullable m.rest m.bits) refl

-- A table map is read exactly where the body is one.
pub map_read : (body : List ℕ) (said : MapSaid) → (map_body body ≡ Some said) ↔ IsTableMap body said
map_read body said = (map_splits body said, map_joins body said)

event_splits : (kind : RowsKind) (body : List ℕ) (said : RowsSaid) → rows_body kind body ≡ Some said → IsRowsEvent kind body said
unfolding rows_body
event_splits kind body said h =
    let id = bind_some (number_at 6 body) _ said h in
    let flags = bind_some (cut 2 id.0.1) _ said id.2 in
    let extra = bind_some (extra_at flags.0.1) _ said flags.2 in
    let width = bind_some (packed_at extra.0.1) _ said extra.2 in
    let present = bind_some (cut (images kind * bit_bytes width.0.0) width.0.1) _ said width.2 in
    let made : RowsSaid = record { id = id.0.0; width = width.0.0; present = present.0.0; rows = present.0.1 } in
    let i = number_splits 6 body id.0 id.1 in
    let f = cut_splits 2 id.0.1 flags.0 flags.1 in
    let e = extra_splits flags.0.1 extra.0 extra.1 in
    let w = packed_splits extra.0.1 width.0 width.1 in
    let p = cut_splits (images kind * bit_bytes width.0.0) width.0.1 present.0 present.1 in
    subst (λ said. IsRowsEvent kind body said) (some_same made said present.2) (record {
      id = i.0;
      flags = flags.0.0;
      extra = e.0;
      width = w.0;
      are = i.1 ∙ ap (λ xs. i.0 ++ xs) (f.0 ∙ ap (λ xs. flags.0.0 ++ xs) (e.1 ∙ ap (λ xs. e.0 ++ xs) (w.1 ∙ ap (λ xs. w.0 ++ xs) p.0)));
      is_id = i.2;
      two_flags = f.1;
      is_extra = e.2;
      is_width = w.2;
      bits = p.1;
    })

event_joins : (kind : RowsKind) (body : List ℕ) (said : RowsSaid) → IsRowsEvent kind body said → rows_body kind body ≡ Some said
unfolding rows_body
event_joins kind body said m =
    let n5 = said.present ++ said.rows in
    let n4 = m.width ++ n5 in
    let n3 = m.extra ++ n4 in
    let n2 = m.flags ++ n3 in
    let are : body ≡ m.id ++ n2 = m.are in
    let extra = extra_joins m.extra n4 m.is_extra in
    rw (are, number_joins 6 m.id n2 said.id m.is_id, cut_joins 2 m.flags n3 m.two_flags, extra.1, packed_joins m.width n5 said.width m.is_width, cut_joins (images kind * bit_bytes said.width) said.present said.rows m.bits) refl

-- A rows event is read exactly where the body is one.
pub event_read : (kind : RowsKind) (body : List ℕ) (said : RowsSaid) → (rows_body kind body ≡ Some said) ↔ IsRowsEvent kind body said
event_read kind body said = (event_splits kind body said, event_joins kind body said)
