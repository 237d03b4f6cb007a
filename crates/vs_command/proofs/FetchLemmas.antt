-- The entries that a reader gave stay those of the log as more bytes come, and what was fetched is the log of the shard.
use Rattle.std.proofs.Common.{◌≡◌, ◌≤◌, ◌+◌, ◌-◌, ◌<◌, ℕ, suc, List, [], ◌∷◌, ◌++◌, length, take, Option, Some, None, Ok, Err, refl, sym, ap, subst, ◌∙◌, append_assoc, arith}
use Rattle.std.specs.Prelude.{◌⊎◌, IfSome, IsSomeAnd, MatchOption}
use Rattle.std.specs.Option.{ForSome, option_map}
use Rattle.std.proofs.lemmas.List.{length-append, map-append, take_all}
use Rattle.std.proofs.Math.Seq.{take-append_seam, take-append-add}
use Rattle.vs_base.specs.declared.Gtid.{Gtid}
use Rattle.vs_base.specs.declared.ShardName.{ShardName}
use Rattle.vs_gtid.specs.declared.Entry.{Entry}
use Rattle.vs_outside.specs.declared.feed.Got.{Got}
use Rattle.vs_outside.specs.declared.feed.Got.TheVariants.{Bytes}
use Rattle.vs_outside.specs.Counts.{Rose, raised}
use Rattle.vs_outside.specs.Reads.{GivesNext}
use Rattle.vs_outside.specs.Clusters.{Shard, ClusterBytes, find_shard}
use Rattle.vs_schema.specs.declared.schema.Schema.{Schema}
use Rattle.vs_schema.specs.declared.refusal.SchemaRefusal.TheVariants as refusal
use Rattle.vs_schema.specs.Rules.{schema_of}
use Rattle.vs_filter.specs.Rules.{Meant, first_unbound, picked_by}
use Rattle.vs_filter.specs.declared.bound.Picked.{Picked}
use Rattle.vs_log.specs.Events.{joined, magic}
use Rattle.vs_log.specs.Laws.{Grows}
use Rattle.vs_log.specs.Meaning.{log_meant}
use Rattle.vs_log.specs.Productions.{StandsAt}
use Rattle.vs_rows.specs.Tables.{Tables}
use Rattle.vs_log.specs.Table.{Rules}
use Rattle.vs_entries.specs.Rules.{rules_of}
use Rattle.vs_entries.specs.Pieces.{Fed, GivesEntry, fresh, log_fed, rules_fed, with_piece}
use Rattle.vs_entries.specs.declared.took.Took.TheVariants as took
use Rattle.vs_command.specs.declared.fetched.Fetched.{Fetched}
use Rattle.vs_command.specs.declared.fetched.LogFault.{LogFault}
use Rattle.vs_command.specs.declared.fetched.Placed.{Placed}
use Rattle.vs_command.specs.Causes.{IsBindingFault}
use Rattle.vs_command.specs.Fetched.{ArePlaced, HasGiven, HasGivenAll, IsFetchedOf, IsOfShard, IsSameLog, fault_of, read_as}
use Rattle.vs_command.specs.Stages.{HasBinding}
use Rattle.vs_command.specs.declared.status.RequestFault.{RequestFault}
use Rattle.vs_command.specs.Streaming.{HasBadSchema, IsFaultOfBinding, IsUnboundFault, or_none, schema_in}

-- ---- more bytes

ArePlaced-weaken : (P Q : Gtid → ℕ → Type 0) (placed : List Placed) → ((g : Gtid) (at : ℕ) → P g at → Q g at) → ArePlaced P placed → ArePlaced Q placed
ArePlaced-weaken P Q [] f h = tt
ArePlaced-weaken P Q (t ∷ placed) f h = (f t.entry.gtid t.at h.0, ArePlaced-weaken P Q placed f h.1)

ArePlaced-more : (P : Gtid → ℕ → Type 0) (placed : List Placed) (t : Placed) → ArePlaced P placed → P t.entry.gtid t.at → ArePlaced P (placed ++ t ∷ [])
ArePlaced-more P [] t h p = (p, tt)
ArePlaced-more P (x ∷ placed) t h p = (h.0, ArePlaced-more P placed t h.1 p)

-- nothing was given of a reader that was fed nothing
pub HasGiven-fresh : (keyspace : List ℕ) (schema : Schema) → HasGiven (fresh keyspace schema) []
HasGiven-fresh keyspace schema = record { count = refl; within = omega arith; entries = refl; places = tt }

-- what was given stays, whatever bytes come
pub HasGiven-fed : ((rules : Rules Tables) (bytes more : List ℕ) → Grows rules bytes more) → (r : Fed) (piece : List ℕ) (at from : ℕ) (placed : List Placed) → HasGiven r placed → HasGiven (with_piece r piece at from) placed
HasGiven-fed law r piece at from placed h =
    let grows : Grows (rules_fed r) r.bytes piece = law (rules_fed r) r.bytes piece in
    record {
      count = h.count;
      within = omega (arith, h.within, ap (λ es. length es) grows.entries.1, length-append (log_fed r).entries grows.entries.0);
      entries = h.entries ∙ sym (grows.given r.given h.within);
      places = ArePlaced-weaken (StandsAt (rules_fed r) r.bytes) (StandsAt (rules_fed r) (r.bytes ++ piece)) placed grows.begins h.places;
    }

-- each entry that is given leaves fewer
pub fewer_left : (r new : Fed) (e : Entry) (at end : ℕ) → GivesEntry r (Ok (took.Entry e at end)) new → length (log_fed new).entries - new.given < length (log_fed r).entries - r.given
fewer_left r new e at end (unspent, behind, stands, ends, is) =
    subst (λ (x : Fed). length (log_fed x).entries - x.given < length (log_fed r).entries - r.given) (sym is)
    (omega (arith, behind.count, ap (λ es. length es) behind.are, length-append behind.before (e ∷ behind.later)))

-- ---- one entry more

pub HasGiven-more : (r new : Fed) (placed : List Placed) (e : Entry) (at end : ℕ) → HasGiven r placed → GivesEntry r (Ok (took.Entry e at end)) new → HasGiven new (placed ++ record { entry = e; at = at } ∷ [])
HasGiven-more r new placed e at end h (unspent, behind, stands, ends, is) = subst (λ x. HasGiven x (placed ++ t ∷ [])) (sym is) (record {
  count = length-append placed (t ∷ []) ∙ ap (λ n. n + 1) h.count ∙ one_more;
  within = omega (arith, behind.count, ap (λ es. length es) behind.are, length-append behind.before (e ∷ behind.later));
  entries = map-append (λ x. x.entry) placed (t ∷ []) ∙ ap (λ es. es ++ e ∷ []) (h.entries ∙ front) ∙ sym next;
  places = ArePlaced-more (StandsAt (rules_fed r) r.bytes) placed t h.places stands;
})
  where
    t : Placed
    t = record { entry = e; at = at }

    one_more : r.given + 1 ≡ suc r.given
    one_more = omega arith

    front : take r.given (log_fed r).entries ≡ behind.before
    front = ap (λ n. take n (log_fed r).entries) (sym behind.count) ∙ ap (λ es. take (length behind.before) es) behind.are ∙ take-append_seam behind.before (e ∷ behind.later)

    next : take (suc r.given) (log_fed r).entries ≡ behind.before ++ e ∷ []
    next =
        ap (λ n. take n (log_fed r).entries) (let n : suc r.given ≡ length behind.before + 1 = omega (arith, behind.count) in n)
        ∙ ap (λ es. take (length behind.before + 1) es) behind.are ∙ take-append-add behind.before (e ∷ behind.later) 1

pub IsSameLog-more : (a r new : Fed) (e : Entry) (at end : ℕ) → IsSameLog a r → GivesEntry r (Ok (took.Entry e at end)) new → IsSameLog a new
IsSameLog-more a r new e at end same (unspent, behind, stands, ends, is) = subst (λ x. IsSameLog a x) (sym is) (record { keyspace = same.keyspace; schema = same.schema; bytes = same.bytes })

-- the last one was given
pub HasGiven-all : (r : Fed) (placed : List Placed) (fault : Option LogFault) → HasGiven r placed → r.given ≡ length (log_fed r).entries → option_map fault_of fault ≡ (log_fed r).fault →
    HasGivenAll r placed fault
HasGiven-all r placed fault h all told = record {
  entries = h.entries ∙ take_all r.given (log_fed r).entries (omega (arith, all));
  places = h.places;
  told = told;
}

-- ---- what was fetched

pub schema_read : (text : List ℕ) (schema : Schema) → schema_of text ≡ Ok schema → schema_in text ≡ schema
unfolding schema_in
schema_read text schema h = ap or_none h

-- a schema that was read is the one that the text says
pub schema_said : (text : List ℕ) (schema : Schema) → (Ok schema ≡ Err refusal.Memory) ⊎ (Ok schema ≡ schema_of text) → schema_of text ≡ Ok schema
schema_said text schema (◌⊎◌.inl spent) = absurd (cc)
schema_said text schema (◌⊎◌.inr is) = sym is

-- where the cluster is told, it has the shard
of_shard : (told : Option ClusterBytes) (name : ShardName) (all given : Option (List ℕ)) (text bytes : List ℕ) →
    ForSome told (λ c. (s : Shard) × (find_shard c name ≡ Some s) × (all ≡ Some s.log) × (given ≡ Some []) × (text ≡ s.schema)) →
    IfSome all (λ a. bytes ≡ a) → IfSome told (λ c. IsOfShard (find_shard c name) text bytes)
of_shard None name all given text bytes opened whole = tt
of_shard (Some c) name all given text bytes opened whole =
    let it = opened c refl in
    subst (λ o. IsOfShard o text bytes) (sym it.1) (it.4, subst (λ o. IfSome o (λ a. bytes ≡ a)) it.2 whole)

-- where the cluster is told, it has the shard, its schema text reads, and the rules bind to it
pub binding_told : (told : Option ClusterBytes) (name : ShardName) (rules : List Meant) (all given : Option (List ℕ)) (text bytes : List ℕ) (schema : Schema) →
    ForSome told (λ c. (s : Shard) × (find_shard c name ≡ Some s) × (all ≡ Some s.log) × (given ≡ Some []) × (text ≡ s.schema)) →
    bytes ≡ text → schema_of bytes ≡ Ok schema → first_unbound rules schema.tables ≡ None → IfSome told (λ c. HasBinding (find_shard c name) rules)
binding_told None name rules all given text bytes schema opened same reads binds = tt
binding_told (Some c) name rules all given text bytes schema opened same reads binds =
    let it = opened c refl in
    subst (λ o. HasBinding o rules) (sym it.1) (schema, subst (λ t. schema_of t ≡ Ok schema) (same ∙ it.4) reads, binds)

-- the schema text is refused
pub bad_told : (told : Option ClusterBytes) (name : ShardName) (all given : Option (List ℕ)) (text bytes : List ℕ) (line : ℕ) →
    ForSome told (λ c. (s : Shard) × (find_shard c name ≡ Some s) × (all ≡ Some s.log) × (given ≡ Some []) × (text ≡ s.schema)) →
    bytes ≡ text → schema_of bytes ≡ Err (refusal.BadSchema line) → IfSome told (λ c. HasBadSchema (find_shard c name) line)
bad_told None name all given text bytes line opened same bad = tt
bad_told (Some c) name all given text bytes line opened same bad =
    let it = opened c refl in
    subst (λ o. HasBadSchema o line) (sym it.1) (subst (λ t. schema_of t ≡ Err (refusal.BadSchema line)) (same ∙ it.4) bad)

-- a rule doesn't bind
pub unbound_told : (told : Option ClusterBytes) (name : ShardName) (rules : List Meant) (all given : Option (List ℕ)) (text bytes : List ℕ) (fault : RequestFault) →
    ForSome told (λ c. (s : Shard) × (find_shard c name ≡ Some s) × (all ≡ Some s.log) × (given ≡ Some []) × (text ≡ s.schema)) →
    bytes ≡ text → IsFaultOfBinding bytes rules fault → IfSome told (λ c. IsUnboundFault (find_shard c name) rules fault)
unbound_told None name rules all given text bytes fault opened same unbound = tt
unbound_told (Some c) name rules all given text bytes fault opened same unbound =
    let it = opened c refl in
    subst (λ o. IsUnboundFault o rules fault) (sym it.1) (subst (λ t. IsFaultOfBinding t rules fault) (same ∙ it.4) unbound)

-- what doesn't bind to a text is a fault of binding
pub binding_of : (text : List ℕ) (rules : List Meant) (fault : RequestFault) → IsFaultOfBinding text rules fault → IsBindingFault fault
binding_of text rules fault (index, why, is, not) = (index, why, is)

pub fetched_of : (told : Option ClusterBytes) (name : ShardName) (rules : List Meant) (all given : Option (List ℕ)) (text read : List ℕ) (schema : Schema) (f : Fetched) (tables : List Picked) →
    ForSome told (λ c. (s : Shard) × (find_shard c name ≡ Some s) × (all ≡ Some s.log) × (given ≡ Some []) × (text ≡ s.schema)) →
    read ≡ text → schema_of read ≡ Ok schema → first_unbound rules schema.tables ≡ None → tables ≡ picked_by rules schema.tables →
    (bytes : List ℕ) × (read_as f ≡ log_meant (rules_of name.keyspace schema) bytes) × ArePlaced (StandsAt (rules_of name.keyspace schema) bytes) f.entries × IfSome all (λ a. bytes ≡ a) →
    (t bytes : List ℕ) × IsFetchedOf name rules t bytes f tables × IfSome told (λ c. IsOfShard (find_shard c name) t bytes)
fetched_of told name rules all given text read schema f tables opened is said binds picks (bytes, meant, placed, whole) =
    let reads : schema_of text ≡ Ok schema = subst (λ t. schema_of t ≡ Ok schema) is said in
    let same : schema_in text ≡ schema = schema_read text schema reads in (
      text,
      bytes,
      record {
        schema = schema;
        reads = reads;
        binds = binds;
        picks = picks;
        log = meant ∙ ap (λ x. log_meant (rules_of name.keyspace x) bytes) (sym same);
        places = subst (λ x. ArePlaced (StandsAt (rules_of name.keyspace x) bytes) f.entries) (sym same) placed;
      },
      of_shard told name all given text bytes opened whole,
    )

-- ---- the bytes of a feed, piece by piece

-- what a feed has given is what was fed, with the piece that it gives next
pub given_next : (told first before after : Option (List ℕ)) (got : Got) (n : ℕ) (buf bytes now : List ℕ) → told ≡ first → IfSome first (λ _. before ≡ Some bytes) →
    MatchOption told ((before ≡ None) × (after ≡ None)) (λ all. IsSomeAnd before (λ b. IsSomeAnd after (λ a. GivesNext got buf all b a))) →
    got ≡ Bytes n → now ≡ bytes ++ take n buf → IfSome first (λ _. after ≡ Some now)
given_next None first before after got n buf bytes now is held gives bytes_are more = subst (λ o. IfSome o (λ _. after ≡ Some now)) is tt
given_next (Some all) first before after got n buf bytes now is held gives bytes_are more =
    subst (λ o. IfSome o (λ _. after ≡ Some now)) is
    (go before after (subst (λ o. IfSome o (λ _. before ≡ Some bytes)) (sym is) held) (subst (λ x. IsSomeAnd before (λ b. IsSomeAnd after (λ a. GivesNext x buf all b a))) bytes_are gives))
  where
    go : (before after : Option (List ℕ)) → before ≡ Some bytes → IsSomeAnd before (λ b. IsSomeAnd after (λ a. GivesNext (Bytes n) buf all b a)) → after ≡ Some now
    go None after h g = absurd g
    go (Some b) None h g = absurd g
    go (Some b) (Some a) h g = let e : b ≡ bytes = cc in ap (λ z. Some z) (g.0 ∙ ap (λ z. z ++ take n buf) e ∙ sym more)

pub rose_later : (before between now : ℕ) → Rose before between → between ≤ now → Rose before now
rose_later before between now rose later = let r : raised 1 before ≤ between = rose in omega (arith, r, later)
