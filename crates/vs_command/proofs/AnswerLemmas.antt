-- What was written of a shard's log answers the request that asks for the shard.
use Rattle.std.proofs.Common.{◌≡◌, ◌≢◌, ℕ, Bool, true, false, List, [], ◌∷◌, ◌++◌, map, Option, Some, None, Ok, if◌then◌else◌, refl, sym, ap, subst, ◌∙◌}
use Rattle.std.specs.Prelude.{◌⊎◌, IfSome}
use Rattle.vs_base.specs.declared.Gtid.{Gtid}
use Rattle.vs_base.specs.declared.ShardName.{ShardName}
use Rattle.vs_base.specs.declared.rule_text.RuleText.{RuleText}
use Rattle.vs_filter.specs.Rules.{Meant, first_fault, meant_by, picked_by}
use Rattle.vs_filter.specs.Picks.{bound_in}
use Rattle.vs_filter.specs.declared.bound.Picked.{Picked}
use Rattle.vs_base.specs.declared.Why.{Why}
use Rattle.vs_base.specs.Names.{same_name}
use Rattle.vs_base.proofs.NameLemmas.{same_name-is}
use Rattle.vs_gtid.specs.declared.Entry.{Entry}
use Rattle.vs_gtid.specs.declared.JournalValue.{JournalValue}
use Rattle.vs_gtid.specs.Positions.{Position, IsCanonical, IsSubset}
use Rattle.vs_gtid.specs.Logs.{Log, HaveDistinctGtids}
use Rattle.vs_outside.specs.Clusters.{Shard, ClusterBytes, find_shard}
use Rattle.vs_outside.specs.Counts.{Rose}
use Rattle.vs_outside.specs.Told.{Writes}
use Rattle.vs_outside.proofs.ToldLemmas.{Writes-none, Writes-weaken}
use Rattle.vs_command.specs.declared.fetched.Fetched.{Fetched}
use Rattle.vs_model.specs.Logs.{Cluster, LogsAreDistinct, log_of, due, stop, IsPositionAfter}
use Rattle.vs_gtid.specs.Vectors.{Place, place_of}
use Rattle.vs_gtid.specs.Vectors.Place.{Streaming}
use Rattle.vs_model.specs.Frames.{Frame, last_vector}
use Rattle.vs_model.specs.Reached.{IsSettled}
use Rattle.vs_model.specs.Requests.{First, OneShard}
use Rattle.vs_command.specs.declared.status.Status.{Status}
use Rattle.vs_command.specs.declared.status.Status.TheVariants as statuses
use Rattle.vs_command.specs.declared.start.Start.{Start}
use Rattle.vs_command.specs.declared.start.Start.TheVariants.{At, Current}
use Rattle.vs_command.specs.Sending.{IsNextTooLarge, entries_bytes, vector_at, position_after, entry_frames}
use Rattle.vs_command.specs.Sizes.{IsNextOversized}
use Rattle.vs_render.specs.Bodies.{columns_in}
use Rattle.vs_render.specs.Frames.{frames_bytes}
use Rattle.vs_schema.specs.declared.schema.Schema.{Schema}
use Rattle.vs_schema.specs.Rules.{schema_of}
use Rattle.vs_command.specs.Fetched.{IsFetchedOf, IsOfShard, IsPlaced, read_as}
use Rattle.vs_command.specs.Laws.{Laws}
use Rattle.vs_log.specs.Laws.{AlwaysNewGtids}
use Rattle.vs_rows.specs.Tables.{Tables}
use Rattle.vs_command.specs.Requests.{AsksBy}
use Rattle.vs_command.specs.Streaming.Filtered.{refused, taken}
use Rattle.vs_command.specs.Streaming.Headline.{asked, silent}
use Rattle.vs_command.specs.Streaming.Outcome.{unread, answers}
use Rattle.vs_command.specs.Streaming.{Answers, Filtered, Headline, HasBadLogCause, HasCause, HasFault, HasLogCause, HasSentAll, IsBeforeStream, IsStart, IsStreamed, IsStreamedFrom, IsUnread, Outcome, cluster_meant, filter_of, picks_in, places_in, shard_log, shard_places, shard_rules, schema_in, start_at, tables_in, telling_of}
use Rattle.vs_command.proofs.FetchLemmas.{schema_read}
use Rattle.vs_command.proofs.SizeLemmas.{placed_so}
use Rattle.vs_command.proofs.StreamLemmas.{IsStreamedFrom-weaken}
use Rattle.vs_command.proofs.LegalLemmas.{PicksFrom, after_all, copies_sent, frames_spelled, last_sent, steps_sent}

-- the log of a shard of the cluster is what its bytes mean
log_of-meant : (cluster : ClusterBytes) (s : ShardName) (shard : Shard) → find_shard cluster s ≡ Some shard → log_of (cluster_meant cluster) s ≡ shard_log s shard.schema shard.log
log_of-meant [] s shard h = cc
log_of-meant (x ∷ cluster) s shard h = go (same_name x.name s) (λ found. log_of-meant cluster s shard found) refl h
  where
    go : (b : Bool) → (find_shard cluster s ≡ Some shard → log_of (cluster_meant cluster) s ≡ shard_log s shard.schema shard.log) → same_name x.name s ≡ b →
        (if b then Some x else find_shard cluster s) ≡ Some shard → (if b then shard_log x.name x.schema x.log else log_of (cluster_meant cluster) s) ≡ shard_log s shard.schema shard.log
    go true later e found =
        let it : x ≡ shard = cc in
        ap (λ n. shard_log n x.schema x.log) (same_name-is x.name s e) ∙ ap (λ (y : Shard). shard_log s y.schema y.log) it
    go false later e found = later found

distinct_meant : AlwaysNewGtids Tables → (cluster : ClusterBytes) → LogsAreDistinct (cluster_meant cluster)
distinct_meant law [] s = tt
distinct_meant law (x ∷ cluster) s = either (same_name x.name s) (shard_log x.name x.schema x.log) (log_of (cluster_meant cluster) s) (law (shard_rules x.name x.schema) x.log).distinct (distinct_meant law cluster s)
  where
    either : (b : Bool) (l m : Log) → HaveDistinctGtids l.entries → HaveDistinctGtids m.entries → HaveDistinctGtids (if b then l else m).entries
    either true l m p q = p
    either false l m p q = q

first_of : (cluster : Cluster) (s : ShardName) (start : Start) (whole : Type 0) (p : Position) → IsStart (log_of cluster s) start whole p → IsCanonical p →
    First cluster (OneShard s (start_at start) ∷ []) (vector_at s p)
first_of cluster s (At set) whole p is canonical = record { starts = ((refl, ap (λ q. Streaming q) is), tt); differ = refl; canonical = (canonical, tt) }
first_of cluster s Current whole p is canonical = record { starts = ((refl, (p, is.0, refl, is.1)), tt); differ = refl; canonical = (canonical, tt) }

-- where the whole log was there, a start from the end is behind all entries
starts_at_end : (log : Log) (start : Start) (whole : Type 0) (p : Position) → IsStart log start whole p → start ≡ Current → whole → IsPositionAfter log.base log.entries p
starts_at_end log (At set) whole p is current all = absurd (cc)
starts_at_end log Current whole p is current all = subst (λ es. IsPositionAfter log.base es p) (is.2 all) is.1

-- the one shard of the vector
at_only : (s t : ShardName) (p : Position) (place : Place) → place_of (vector_at s p) t ≡ Some place → (s ≡ t) × (place ≡ Streaming p)
at_only s t p place h = go (same_name s t) refl h
  where
    go : (b : Bool) → same_name s t ≡ b → (if b then Some (Streaming p) else None) ≡ Some place → (s ≡ t) × (place ≡ Streaming p)
    go true e found = (same_name-is s t e, cc)
    go false e found = absurd (cc)

-- what is due behind the entries that were sent
due_behind : Laws → (cluster : Cluster) (s : ShardName) → LogsAreDistinct cluster → (p : Position) (sent rest : List Entry) →
    due s (log_of cluster s) p ≡ sent ++ rest → due s (log_of cluster s) (position_after p sent) ≡ rest
due_behind laws cluster s distinct p sent rest are =
    laws.due s (log_of cluster s) p (position_after p sent) sent rest (distinct s) are (after_all p sent)

settled_at : Laws → (cluster : Cluster) (s : ShardName) → LogsAreDistinct cluster → (p : Position) (sent rest : List Entry) →
    due s (log_of cluster s) p ≡ sent ++ rest → rest ≡ [] → stop s (log_of cluster s) p ≡ None → IsSettled cluster (vector_at s (position_after p sent))
settled_at laws cluster s distinct p sent rest are none unstopped t place h =
    let log : Log = log_of cluster s in
    let q : Position = position_after p sent in
    let it = at_only s t q place h in
    let none_due : due s log q ≡ [] = due_behind laws cluster s distinct p sent rest are ∙ none in
    let none_stops : stop s log q ≡ None =
    laws.stop s log p q sent rest (distinct s) are (after_all p sent) ∙ unstopped in
    (q, it.1, subst (λ u. due u (log_of cluster u) q ≡ []) it.0 none_due, subst (λ u. stop u (log_of cluster u) q ≡ None) it.0 none_stops)

sent_all : Laws → (tables : List Picked) (cluster : Cluster) (s : ShardName) → LogsAreDistinct cluster → (p : Position) (sent rest : List Entry) →
    due s (log_of cluster s) p ≡ sent ++ rest → rest ≡ [] → stop s (log_of cluster s) p ≡ None → IsSubset (log_of cluster s).base p → HasSentAll cluster s p (last_vector (vector_at s p) (entry_frames tables s p sent))
sent_all laws tables cluster s distinct p sent rest are none unstopped base = record {
  base = base;
  settled = subst (λ v. IsSettled cluster v) (sym (last_sent tables s p sent)) (settled_at laws cluster s distinct p sent rest are none unstopped);
}

-- what is wrong with a log
bad_log_caused : Laws → (stands : Gtid → ℕ → Type 0) (tables : List Picked) (cluster : Cluster) (s : ShardName) → LogsAreDistinct cluster →
    (p : Position) (sent rest : List Entry) (offset : ℕ) (why : Why) → due s (log_of cluster s) p ≡ sent ++ rest → HasFault stands tables s (log_of cluster s) p rest offset why →
    HasBadLogCause stands tables cluster s p (entry_frames tables s p sent) offset why
bad_log_caused laws stands tables cluster s distinct p sent rest offset why are (◌⊎◌.inl (own, none, base, unstopped)) =
    ◌⊎◌.inl (own, sent_all laws tables cluster s distinct p sent rest are none unstopped base)
bad_log_caused laws stands tables cluster s distinct p sent rest offset why are (◌⊎◌.inr (bytes, is, next, base)) = ◌⊎◌.inr (
  bytes,
  is,
  record {
    base = base;
    q = position_after p sent;
    is = last_sent tables s p sent;
    oversized = subst (λ es. IsNextOversized stands tables s es offset bytes) (sym (due_behind laws cluster s distinct p sent rest are)) next;
  },
)

-- what an answer says of a log, it says of the shard and its vector
caused : Laws → (stands : Gtid → ℕ → Type 0) (tables : List Picked) (cluster : Cluster) (s : ShardName) → LogsAreDistinct cluster →
    (p : Position) (sent rest : List Entry) (status : Status) → due s (log_of cluster s) p ≡ sent ++ rest → HasLogCause stands tables s (log_of cluster s) p sent rest status →
    HasCause stands tables cluster s p (entry_frames tables s p sent) status
caused laws stands tables cluster s distinct p sent rest statuses.Done are cause = (sent_all laws tables cluster s distinct p sent rest are cause.0 cause.2 cause.1, cause.3)
caused laws stands tables cluster s distinct p sent rest (statuses.BadLog name offset why) are cause =
    (cause.0, bad_log_caused laws stands tables cluster s distinct p sent rest offset why are cause.1)
caused laws stands tables cluster s distinct p sent rest (statuses.Purged name missing) are cause = (cause.0, cause.1, ap (λ es. entry_frames tables s p es) cause.2)
caused laws stands tables cluster s distinct p sent rest (statuses.PositionTooLarge name) are cause = (
  cause.0,
  record {
    base = cause.2;
    q = position_after p sent;
    is = last_sent tables s p sent;
    large = subst (λ es. IsNextTooLarge (position_after p sent) es) (sym (due_behind laws cluster s distinct p sent rest are)) cause.1;
  },
)
caused laws stands tables cluster s distinct p sent rest (statuses.Stopped name id) are cause =
    let j : JournalValue = cause.3.0 in (
      cause.0,
      record {
        base = cause.2;
        q = position_after p sent;
        is = last_sent tables s p sent;
        none = due_behind laws cluster s distinct p sent rest are ∙ cause.1;
        stopped = (j, laws.stop s (log_of cluster s) p (position_after p sent) sent rest (distinct s) are (after_all p sent) ∙ cause.3.1, cause.3.2);
      },
    )
caused laws stands tables cluster s distinct p sent rest statuses.LinkFault are cause = cause
caused laws stands tables cluster s distinct p sent rest statuses.Memory are cause = tt
caused laws stands tables cluster s distinct p sent rest statuses.Usage are cause = absurd cause
caused laws stands tables cluster s distinct p sent rest (statuses.BadFrame number frame_why) are cause = absurd cause
caused laws stands tables cluster s distinct p sent rest (statuses.Request fault) are cause = absurd cause
caused laws stands tables cluster s distinct p sent rest (statuses.UnknownShard name) are cause = absurd cause
caused laws stands tables cluster s distinct p sent rest (statuses.FeedFault name) are cause = absurd cause
caused laws stands tables cluster s distinct p sent rest statuses.InputFault are cause = absurd cause
caused laws stands tables cluster s distinct p sent rest (statuses.OpenFault name) are cause = absurd cause
caused laws stands tables cluster s distinct p sent rest (statuses.BadSchema name line) are cause = absurd cause

Answers-streamed : Laws → (cluster : ClusterBytes) (s : ShardName) (start : Start) (rules : List RuleText) (whole waited : Type 0) (shard : Shard) (tables : List Picked) (status : Status) (written : List ℕ) (p : Position) →
    ((waited → ⊥) → whole) → find_shard cluster s ≡ Some shard → tables ≡ picks_in rules (Some shard) → IsStart (shard_log s shard.schema shard.log) start whole p → IsCanonical p →
    IsStreamed (shard_places s shard.schema shard.log) tables s (shard_log s shard.schema shard.log) p status written → Answers cluster s start rules waited status written
Answers-streamed laws cluster s start rules whole waited shard tables status written p unwaited found picks starts canonical streamed =
    let meant : log_of (cluster_meant cluster) s ≡ shard_log s shard.schema shard.log = log_of-meant cluster s shard found in
    let distinct : LogsAreDistinct (cluster_meant cluster) = distinct_meant laws.new_gtids cluster in
    let log : Log = log_of (cluster_meant cluster) s in
    let stands : Gtid → ℕ → Type 0 = shard_places s shard.schema shard.log in
    let here : IsStart log start whole p = subst (λ (l : Log). IsStart l start whole p) (sym meant) starts in
    let are : due s log p ≡ streamed.sent ++ streamed.rest = ap (λ (l : Log). due s l p) meant ∙ streamed.are in
    let base : (streamed.sent ≡ []) ⊎ IsSubset log.base p = subst (λ (l : Log). (streamed.sent ≡ []) ⊎ IsSubset l.base p) (sym meant) streamed.base in
    let frames : List Frame = entry_frames tables s p streamed.sent in
    let picked : tables ≡ picks_in rules (find_shard cluster s) = picks ∙ ap (λ o. picks_in rules o) (sym found) in
    let from : PicksFrom (filter_of rules cluster) s tables = (tables_in (find_shard cluster s), ap (λ ts. bound_in ts (tables_in (find_shard cluster s))) (sym picked)) in
    let spelled : frames_bytes (telling_of rules cluster) frames ≡ entries_bytes tables s p streamed.sent =
    frames_spelled laws.bodies (telling_of rules cluster) tables s (ap (λ ts. columns_in ts) (sym picked)) p streamed.sent in
    record {
      known = λ absent. let clash : ◌≡◌ {A = Option Shard} (Some shard) None = sym found ∙ absent in cc;
      p = p;
      frames = frames;
      first = first_of (cluster_meant cluster) s start whole p here canonical;
      at_end = λ current never. starts_at_end log start whole p here current (unwaited never);
      legal = laws.steps (cluster_meant cluster) (filter_of rules cluster) (vector_at s p) frames distinct (copies_sent tables s p streamed.sent)
          (steps_sent laws.transactions laws.due (cluster_meant cluster) (filter_of rules cluster) tables s from distinct p streamed.sent streamed.rest are base streamed.canonical);
      bytes = entries_bytes tables s p streamed.sent;
      spelled = sym spelled;
      prefix = streamed.prefix;
      whole = streamed.whole;
      cause = subst (λ ts. HasCause (places_in (find_shard cluster s) s) ts (cluster_meant cluster) s p frames status) picked
          (subst (λ o. HasCause (places_in o s) tables (cluster_meant cluster) s p frames status) (sym found)
          (caused laws stands tables (cluster_meant cluster) s distinct p streamed.sent streamed.rest status are
          (subst (λ (l : Log). HasLogCause stands tables s l p streamed.sent streamed.rest status) (sym meant) streamed.cause)));
    }

outcome_of : Laws → (cluster : ClusterBytes) (s : ShardName) (start : Start) (rules : List RuleText) (whole waited : Type 0) (shard : Shard) (tables : List Picked) (status : Status) (written : List ℕ) →
    ((waited → ⊥) → whole) → find_shard cluster s ≡ Some shard → tables ≡ picks_in rules (Some shard) →
    IsStreamedFrom (shard_places s shard.schema shard.log) tables s (shard_log s shard.schema shard.log) start whole status written → Outcome cluster s start rules waited status written
outcome_of laws cluster s start rules whole waited shard tables status written unwaited found picks (◌⊎◌.inl none) = unread none.1 (subst (λ x. IsUnread cluster s (map meant_by rules) x) (sym none.0) tt)
outcome_of laws cluster s start rules whole waited shard tables status written unwaited found picks (◌⊎◌.inr from) =
    answers (Answers-streamed laws cluster s start rules whole waited shard tables status written from.0 unwaited found picks from.1 from.2 from.3)

never_marked : (mark : Option ℕ) (waited : Type 0) → (mark ≢ None → waited) → (waited → ⊥) → mark ≡ None
never_marked None waited marked never = refl
never_marked (Some n) waited marked never = absurd (never (marked (λ h. cc)))

-- where the cluster is told, and the log that was fetched is the shard's
streamed_of : Laws → (cluster : ClusterBytes) (s : ShardName) (start : Start) (rules : List RuleText) (whole waited : Type 0) (tables : List Picked) (status : Status) (text bytes : List ℕ) (w : List ℕ) →
    ((waited → ⊥) → whole) → tables ≡ picked_by (map meant_by rules) (schema_in text).tables →
    IsStreamedFrom (shard_places s text bytes) tables s (shard_log s text bytes) start whole status w → (shard : Option Shard) → find_shard cluster s ≡ shard → IsOfShard shard text bytes →
    Outcome cluster s start rules waited status w
streamed_of laws cluster s start rules whole waited tables status text bytes w unwaited picks streamed None found of = absurd of
streamed_of laws cluster s start rules whole waited tables status text bytes w unwaited picks streamed (Some shard) found (same, all) =
    outcome_of laws cluster s start rules whole waited shard tables status w unwaited found (picks ∙ ap (λ t. picked_by (map meant_by rules) (schema_in t).tables) same)
    (subst (λ b. IsStreamedFrom (shard_places s shard.schema b) tables s (shard_log s shard.schema b) start whole status w) all
    (subst (λ t. IsStreamedFrom (shard_places s t bytes) tables s (shard_log s t bytes) start whole status w) same streamed))

-- the picked tables are those of the schema that the text says
picks_said : (rules : List RuleText) (meant : List Meant) (text : List ℕ) (schema : Schema) (tables : List Picked) → meant ≡ map meant_by rules → schema_of text ≡ Ok schema → tables ≡ picked_by meant schema.tables →
    tables ≡ picked_by (map meant_by rules) (schema_in text).tables
picks_said rules meant text schema tables same reads picks =
    picks ∙ ap (λ m. picked_by m schema.tables) same ∙ ap (λ (x : Schema). picked_by (map meant_by rules) x.tables) (sym (schema_read text schema reads))

pub Writes-streamed : Laws → (told : Option ClusterBytes) (s : ShardName) (start : Start) (rules : List RuleText) (meant : List Meant) (f : Fetched) (tables : List Picked) (waited : Type 0) (status : Status) (text bytes : List ℕ) (before now : Option (List ℕ)) →
    meant ≡ map meant_by rules → IsFetchedOf s meant text bytes f tables → IfSome told (λ c. IsOfShard (find_shard c s) text bytes) → (f.mark ≢ None → waited) →
    Writes before now (IsStreamedFrom (IsPlaced f.entries) tables s (read_as f) start (f.mark ≡ None) status) → IfSome told (λ c. Writes before now (Outcome c s start rules waited status))
Writes-streamed laws None s start rules meant f tables waited status text bytes before now same fetched of marked wrote = tt
Writes-streamed laws (Some c) s start rules meant f tables waited status text bytes before now same fetched of marked wrote =
    Writes-weaken (IsStreamedFrom (IsPlaced f.entries) tables s (read_as f) start (f.mark ≡ None) status) (Outcome c s start rules waited status) before now
    (λ w streamed. streamed_of laws c s start rules (f.mark ≡ None) waited tables status text bytes w (never_marked f.mark waited marked)
    (picks_said rules meant text fetched.schema tables same fetched.reads fetched.picks)
    (IsStreamedFrom-weaken (IsPlaced f.entries) (shard_places s text bytes) tables s (shard_log s text bytes) start (f.mark ≡ None) status w
    (λ g at there. placed_so (shard_places s text bytes) f.entries g at fetched.places there)
    (subst (λ l. IsStreamedFrom (IsPlaced f.entries) tables s l start (f.mark ≡ None) status w) fetched.log streamed)) (find_shard c s) refl of) wrote

-- where nothing was written
pub Writes-unread : (told : Option ClusterBytes) (s : ShardName) (start : Start) (rules : List RuleText) (waited : Type 0) (status : Status) (sent : Option (List ℕ)) →
    IfSome told (λ c. IsUnread c s (map meant_by rules) status) → IfSome told (λ c. Writes sent sent (Outcome c s start rules waited status))
Writes-unread None s start rules waited status sent cause = tt
Writes-unread (Some c) s start rules waited status sent cause = Writes-none (Outcome c s start rules waited status) sent (unread refl cause)

pub told_always : (P : ClusterBytes → Type 0) (told : Option ClusterBytes) → ((c : ClusterBytes) → P c) → IfSome told P
told_always P None all = tt
told_always P (Some c) all = all c

pub told_so : (P Q : ClusterBytes → Type 0) (told : Option ClusterBytes) → ((c : ClusterBytes) → P c → Q c) → IfSome told P → IfSome told Q
told_so P Q None f p = tt
told_so P Q (Some c) f p = f c p

-- what answers the request is the headline
asked_so : (c : ClusterBytes) (name : ShardName) (start : Start) (rules : List RuleText) (waited : ShardName → Type 0) (input : List ℕ) (status : Status) (written : List ℕ) → AsksBy input name start rules →
    Filtered c name start rules (waited name) status written → Headline c waited input status written
asked_so c name start rules waited input status written asks (refused none before) = silent none before
asked_so c name start rules waited input status written asks (taken lawful outcome) = asked name start rules (asks, lawful) outcome

pub headline_asked : (told : Option ClusterBytes) (left : Option (List ℕ)) (name : ShardName) (start : Start) (rules : List RuleText) (waited : ShardName → Type 0) (status : Status) (before now : Option (List ℕ)) →
    IfSome left (λ input. AsksBy input name start rules) → IfSome told (λ c. Writes before now (Filtered c name start rules (waited name) status)) →
    IfSome told (λ c. IfSome left (λ input. Writes before now (Headline c waited input status)))
headline_asked told left name start rules waited status before now asks wrote =
    told_so (λ c. Writes before now (Filtered c name start rules (waited name) status)) (λ c. IfSome left (λ input. Writes before now (Headline c waited input status))) told (λ c w. each left asks c w) wrote
  where
    each : (left : Option (List ℕ)) → IfSome left (λ input. AsksBy input name start rules) → (c : ClusterBytes) → Writes before now (Filtered c name start rules (waited name) status) →
        IfSome left (λ input. Writes before now (Headline c waited input status))
    each None asks c w = tt
    each (Some input) asks c w =
        Writes-weaken (Filtered c name start rules (waited name) status) (Headline c waited input status) before now (λ bytes f. asked_so c name start rules waited input status bytes asks f) w

-- ---- the rules, before the shard

-- the rules were refused, and nothing was written
pub filtered_refused : (told : Option ClusterBytes) (name : ShardName) (start : Start) (rules : List RuleText) (waited : Type 0) (status : Status) (sent : Option (List ℕ)) → IsBeforeStream status →
    IfSome told (λ c. Writes sent sent (Filtered c name start rules waited status))
filtered_refused told name start rules waited status sent before =
    told_always (λ c. Writes sent sent (Filtered c name start rules waited status)) told (λ c. Writes-none (Filtered c name start rules waited status) sent (refused refl before))

-- no rule has a fault, and the shard was streamed; its cluster and the waits of its feeds are counted from before the filter was built
pub filtered_told : (told_before told : Option ClusterBytes) (name : ShardName) (start : Start) (rules : List RuleText) (waits_before waits waits_now : ℕ) (status : Status) (before now : Option (List ℕ)) →
    told ≡ told_before → waits ≡ waits_before → first_fault rules ≡ None → IfSome told (λ c. Writes before now (Outcome c name start rules (Rose waits waits_now) status)) →
    IfSome told_before (λ c. Writes before now (Filtered c name start rules (Rose waits_before waits_now) status))
filtered_told told_before told name start rules waits_before waits waits_now status before now same steady lawful wrote =
    told_so (λ c. Writes before now (Outcome c name start rules (Rose waits waits_now) status)) (λ c. Writes before now (Filtered c name start rules (Rose waits_before waits_now) status)) told_before
    (λ c w. Writes-weaken (Outcome c name start rules (Rose waits waits_now) status) (Filtered c name start rules (Rose waits_before waits_now) status) before now
    (λ written o. taken lawful (subst (λ k. Outcome c name start rules (Rose k waits_now) status written) steady o)) w)
    (subst (λ t. IfSome t (λ c. Writes before now (Outcome c name start rules (Rose waits waits_now) status))) same wrote)

-- whether a feed waited, counted from before
pub headline_moved : (c : ClusterBytes) (waited moved : ShardName → Type 0) (input : List ℕ) (status : Status) (written : List ℕ) → ((n : ShardName) → waited n ≡ moved n) →
    Headline c waited input status written → Headline c moved input status written
headline_moved c waited moved input status written same (asked name start rules asks outcome) = asked name start rules asks (subst (λ w. Outcome c name start rules w status written) (same name) outcome)
headline_moved c waited moved input status written same (silent none before) = silent none before

pub headline_told : (told_before told : Option ClusterBytes) (left : Option (List ℕ)) (waits_before waits waits_now : ShardName → ℕ) (status : Status) (before now : Option (List ℕ)) →
    told ≡ told_before → ((n : ShardName) → waits n ≡ waits_before n) → IfSome told (λ c. IfSome left (λ input. Writes before now (Headline c (λ n. Rose (waits n) (waits_now n)) input status))) →
    IfSome told_before (λ c. IfSome left (λ input. Writes before now (Headline c (λ n. Rose (waits_before n) (waits_now n)) input status)))
headline_told told_before told left waits_before waits waits_now status before now same steady wrote =
    told_so (λ c. IfSome left (λ input. Writes before now (Headline c (λ n. Rose (waits n) (waits_now n)) input status)))
    (λ c. IfSome left (λ input. Writes before now (Headline c (λ n. Rose (waits_before n) (waits_now n)) input status))) told_before (λ c w. each left c w)
    (subst (λ t. IfSome t (λ c. IfSome left (λ input. Writes before now (Headline c (λ n. Rose (waits n) (waits_now n)) input status)))) same wrote)
  where
    each : (left : Option (List ℕ)) (c : ClusterBytes) → IfSome left (λ input. Writes before now (Headline c (λ n. Rose (waits n) (waits_now n)) input status)) →
        IfSome left (λ input. Writes before now (Headline c (λ n. Rose (waits_before n) (waits_now n)) input status))
    each None c w = tt
    each (Some input) c w =
        Writes-weaken (Headline c (λ n. Rose (waits n) (waits_now n)) input status) (Headline c (λ n. Rose (waits_before n) (waits_now n)) input status) before now
        (λ bytes h. headline_moved c (λ n. Rose (waits n) (waits_now n)) (λ n. Rose (waits_before n) (waits_now n)) input status bytes (λ n. ap (λ k. Rose k (waits_now n)) (steady n)) h) w
