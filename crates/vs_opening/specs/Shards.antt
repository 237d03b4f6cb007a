-- What is opened of a shard that may be in the cluster, and why it isn't.
use Rattle.std.specs.Prelude.{◌≡◌, ℕ, List, [], Option, Some, None, Ok, Err, IsSomeAnd}
use Rattle.vs_outside.specs.Clusters.{Shard}
use Rattle.vs_schema.specs.declared.schema.Schema.{Schema}
use Rattle.vs_schema.specs.declared.refusal.SchemaRefusal.TheVariants as schemas
use Rattle.vs_schema.specs.Rules.{schema_of}
use Rattle.vs_select.specs.declared.refusal.SelectRefusal.{SelectRefusal}
use Rattle.vs_filter.specs.Causes.{UnboundIs}
use Rattle.vs_filter.specs.Rules.{Meant}
use Rattle.vs_filter.specs.declared.filter.FilterRefusal.TheVariants as filters
use Rattle.vs_opening.specs.declared.open.OpenEnd.{OpenEnd}
use Rattle.vs_opening.specs.declared.open.OpenEnd.TheVariants.{Unknown, Failed, BadSchema, Unbound, Memory}

-- A feed that has all these bytes and gave these is at the front of the shard's log, and the schema is what the shard's text says.
pub record IsOpened (all given : Option (List ℕ)) (schema : Schema) (shard : Shard) : Type 0 where
  pub log : all ≡ Some shard.log
  pub front : given ≡ Some []
  pub reads : schema_of shard.schema ≡ Ok schema

-- the schema text is refused at this line
abbrev pub IsBadSchema : ℕ → List ℕ → Type 0
IsBadSchema line text = schema_of text ≡ Err (schemas.BadSchema line)

-- the schema text reads, and the select of this rule is the first that doesn't bind to it, for this reason
abbrev pub IsUnbound : List Meant → ℕ → SelectRefusal → List ℕ → Type 0
IsUnbound rules index why text = (schema : Schema) × (schema_of text ≡ Ok schema) × UnboundIs rules schema.tables (filters.Unbound index why)

-- why no filter is bound to a schema text
abbrev pub IsRefused : List ℕ → List Meant → OpenEnd → Type 0
IsRefused text rules (BadSchema line) = IsBadSchema line text
IsRefused text rules (Unbound index why) = IsUnbound rules index why text
IsRefused text rules Memory = Unit {0}
IsRefused text rules Unknown = ⊥
IsRefused text rules Failed = ⊥

-- why a shard that may be in the cluster isn't opened; of a fetch that failed the tablets' count says more
abbrev pub IsNotOpened : Option Shard → List Meant → OpenEnd → Type 0
IsNotOpened shard rules Unknown = shard ≡ None
IsNotOpened shard rules Failed = Unit {0}
IsNotOpened shard rules (BadSchema line) = IsSomeAnd shard (λ s. IsBadSchema line s.schema)
IsNotOpened shard rules (Unbound index why) = IsSomeAnd shard (λ s. IsUnbound rules index why s.schema)
IsNotOpened shard rules Memory = Unit {0}
