-- Events of an entry behind a whole log make a whole log with one entry more.
use Rattle.std.proofs.Common.{◌≡◌, ◌∙◌, ◌++◌, ◌+◌, ◌≤◌, ◌<◌, ◌^◌, ℕ, true, List, [], ◌∷◌, Ok, length, refl, ap, sym, subst, inl, append_assoc, append-nil, arith, length-append}
use Rattle.std.specs.List.{AllByRecursion, filter}
use Rattle.std.proofs.lemmas.List.Elements.{filter-append}
use Rattle.vs_base.specs.declared.Gtid.{Gtid}
use Rattle.vs_binlog.specs.Heads.{Event, length_of}
use Rattle.vs_binlog.specs.Words.{first_word}
use Rattle.vs_entries.specs.Queries.{said, statement_by, statement_of}
use Rattle.vs_entries.specs.Rules.{base_of, rules_of}
use Rattle.vs_gtid.specs.declared.Entry.{Entry}
use Rattle.vs_gtid.specs.Joins.{added}
use Rattle.vs_gtid.specs.Positions.{Position}
use Rattle.vs_log.specs.Events.{IsEvent, joined, last_place, limit, magic, sort_of}
use Rattle.byteorder.specs.Endian.{little_bytes}
use Rattle.std.specs.Prelude.{if◌then◌else◌}
use Rattle.vs_log.specs.Productions.{counts, AreEntries, IsEntry, IsNew, IsSingle, IsWholeLog, in_turn, is_counted}
use Rattle.vs_log.specs.Table.{Rules, format_refusal, gtid_in}
use Rattle.vs_log.specs.declared.event.Sort.TheVariants.{FormatEvent, GtidEvent, PreviousEvent, QueryEvent}
use Rattle.vs_log.proofs.Cuts.{joined-append}
use Rattle.vs_log.proofs.Growth.{whole_log}
use Rattle.vs_log.proofs.Shapes.{entries_more, in_turn-more}
use Rattle.vs_schema.specs.declared.schema.Schema.{Schema}
use Rattle.vs_make.specs.Events.{base_event, format_event, format_layout, gtid_event, gtid_layout, query_event, query_layout, statement_bytes}
use Rattle.vs_make.specs.Written.{WritesBases, WritesStatements, known_behind}
use Rattle.vs_make.proofs.EventLaws.{HasHead, event_head, format_said, gtid_said, is_event, query_said, sort_is}

all_both : (P : Event → Type 0) (xs ys : List Event) → AllByRecursion P xs → AllByRecursion P ys → AllByRecursion P (xs ++ ys)
all_both P [] ys a b = b
all_both P (x ∷ xs) ys a b = (a.0, all_both P xs ys a.1 b)

all_counted : (es : List Event) → AllByRecursion (λ e. is_counted e ≡ true) es → filter is_counted es ≡ es
all_counted [] a = refl
all_counted (e ∷ es) a = ap (λ b. if b then e ∷ filter is_counted es else filter is_counted es) a.0 ∙ ap (λ z. e ∷ z) (all_counted es a.1)

known_is : {M : Type 0} (rules : Rules M) (known after : Position) (groups : List (List Event)) (es : List Entry) → AreEntries rules known groups es after → after ≡ known_behind known es
known_is rules known after [] [] a = sym a
known_is rules known after [] (e ∷ es) a = elim a [ ]
known_is rules known after (g ∷ gs) [] a = elim a [ ]
known_is rules known after (g ∷ gs) (e ∷ es) a = known_is rules (added known e.gtid) after gs es a.2

-- an event that counts, within the limit
pub record IsGood (e : Event) : Type 0 where
  pub whole : IsEvent e
  pub small : length_of e ≤ limit
  pub counts : is_counted e ≡ true

wholes : (es : List Event) → AllByRecursion IsGood es → AllByRecursion IsEvent es
wholes [] a = tt
wholes (e ∷ es) a = (a.0.whole, wholes es a.1)

smalls : (es : List Event) → AllByRecursion IsGood es → AllByRecursion (λ e. length_of e ≤ limit) es
smalls [] a = tt
smalls (e ∷ es) a = (a.0.small, smalls es a.1)

counteds : (es : List Event) → AllByRecursion IsGood es → AllByRecursion (λ e. is_counted e ≡ true) es
counteds [] a = tt
counteds (e ∷ es) a = (a.0.counts, counteds es a.1)

pub one_more : {M : Type 0} (rules : Rules M) (bytes : List ℕ) (base : Position) (entries : List Entry) (group : List Event) (e : Entry) →
    IsWholeLog rules bytes base entries → AllByRecursion IsGood group → IsEntry rules group e → IsNew (known_behind base entries) e.gtid → length bytes + length (joined group) ≤ last_place →
    IsWholeLog rules (bytes ++ joined group) base (entries ++ e ∷ [])
one_more rules bytes base entries group e w good is new room =
    let log = w.log in
    let cut = w.cut in
    let tail : joined (w.events ++ group) ≡ joined w.events ++ joined group = joined-append w.events group in
    let bare : bytes ≡ magic ++ joined w.events = cut.are ∙ ap (λ z. magic ++ z) (append-nil (joined w.events)) in
    let are : bytes ++ joined group ≡ magic ++ (joined (w.events ++ group) ++ []) =
    ap (λ z. z ++ joined group) bare ∙ (append_assoc magic (joined w.events) (joined group) ∙ ap (λ z. magic ++ z) (sym tail ∙ sym (append-nil (joined (w.events ++ group))))) in
    let size : length (joined (w.events ++ group)) ≡ length (joined w.events) + length (joined group) = ap length tail ∙ length-append (joined w.events) (joined group) in
    let before : length bytes ≡ 4 + length (joined w.events) = omega (arith, ap length bare, length-append magic (joined w.events)) in
    let kept : filter is_counted (log.after ++ group) ≡ log.previous ++ (in_turn (log.groups ++ group ∷ []) ++ []) =
    filter-append is_counted log.after group
    ∙ (ap (λ z. filter is_counted log.after ++ z) (all_counted group (counteds group good))
    ∙ (ap (λ z. z ++ group) log.parts
    ∙ (append_assoc log.previous (in_turn log.groups ++ []) group
    ∙ ap (λ z. log.previous ++ z) (ap (λ z. z ++ group) (append-nil (in_turn log.groups)) ∙ (sym (in_turn-more log.groups group) ∙ sym (append-nil (in_turn (log.groups ++ group ∷ [])))))))) in
    record {
      events = w.events ++ group;
      cut = record { are = are; whole = all_both IsEvent w.events group cut.whole (wholes group good); short = omega (arith, size, before) };
      known = added w.known e.gtid;
      log = record {
        format = log.format;
        after = log.after ++ group;
        are = ap (λ z. z ++ group) log.are;
        is_format = log.is_format;
        sizes = all_both (λ f. length_of f ≤ limit) w.events group log.sizes (smalls group good);
        previous = log.previous;
        groups = log.groups ++ group ∷ [];
        parts = kept;
        is_base = log.is_base;
        are_entries = entries_more rules base w.known log.groups entries group e log.are_entries is (subst (λ k. IsNew k e.gtid) (sym (known_is rules base w.known log.groups entries log.are_entries)) new);
      };
    }

-- ---- statements

pub gtid_length : (g : Gtid) → length g.uuid ≡ 16 → length (gtid_layout g) ≡ 25
gtid_length g long = omega (arith, length-append g.uuid (little_bytes 8 g.number))

pub query_length : (schema text : List ℕ) → length (query_layout schema text) ≡ 14 + length schema + length text
query_length schema text = omega (arith, length-append schema (0 ∷ text))

pub statement_known : (keyspace : List ℕ) (tables : Schema) (schema text : List ℕ) → length schema ≤ 255 → (rules_of keyspace tables).statement (query_layout schema text) ≡ Ok (said keyspace schema text (first_word text))
unfolding statement_of
statement_known keyspace tables schema text short = ap (statement_by keyspace) (query_said schema text short)

pub writes_statements : WritesStatements
unfolding gtid_event query_event
writes_statements keyspace tables bytes base entries g schema text time work log room short early stands =
    let rules = rules_of keyspace tables in
    let named = gtid_event time g in
    let query = query_event time schema text in
    let gtid_size = gtid_length g room.uuid in
    let query_size = query_length schema text in
    let fits : 77 + length schema + length text ≤ limit = room.fits in
    let first : HasHead named time 33 (gtid_layout g) = event_head time 33 (gtid_layout g) early (omega (arith, gtid_size)) in
    let second : HasHead query time 2 (query_layout schema text) = event_head time 2 (query_layout schema text) early (omega (arith, query_size)) in
    let first_sort : sort_of named ≡ GtidEvent = sort_is named time 33 (gtid_layout g) first in
    let second_sort : sort_of query ≡ QueryEvent = sort_is query time 2 (query_layout schema text) second in
    let good_named : IsGood named = record { whole = is_event named time 33 (gtid_layout g) first; small = omega (arith, first.size, gtid_size); counts = ap counts first_sort } in
    let good_query : IsGood query = record { whole = is_event query time 2 (query_layout schema text) second; small = omega (arith, second.size, query_size); counts = ap counts second_sort } in
    let e : Entry = record { gtid = g; time = time; work = work } in
    let single : IsSingle rules (named ∷ query ∷ []) e = record {
      gtid = named;
      query = query;
      are = refl;
      names = record { kind = first_sort; layout = ap gtid_in first.body_is ∙ gtid_said g room.uuid };
      statement = said keyspace schema text (first_word text);
      says = record { kind = second_sort; layout = ap rules.statement second.body_is ∙ statement_known keyspace tables schema text short };
      work = stands;
      time = sym second.time_is;
    } in
    let entry : IsEntry rules (named ∷ query ∷ []) e = record { form = inl single; size = omega (arith, first.size, second.size, gtid_size, query_size) } in
    let all : joined (named ∷ query ∷ []) ≡ statement_bytes g schema text time = ap (λ z. named ++ z) (append-nil query) in
    let all_size : length (joined (named ∷ query ∷ [])) ≡ 77 + length schema + length text = omega (arith, ap length all, length-append named query, first.bytes, second.bytes, gtid_size, query_size) in
    let whole = one_more rules bytes base entries (named ∷ query ∷ []) e log.whole (good_named, (good_query, tt)) entry room.new (omega (arith, all_size, room.ends)) in
    let whole_there : IsWholeLog rules (bytes ++ statement_bytes g schema text time) base (entries ++ e ∷ []) = subst (λ z. IsWholeLog rules (bytes ++ z) base (entries ++ e ∷ [])) all whole in
    record { whole = whole_there; meant = whole_log rules (bytes ++ statement_bytes g schema text time) base (entries ++ e ∷ []) whole_there }

-- ---- bases

format_there : (time : ℕ) → time < 2 ^ 32 → HasHead (format_event time) time 15 (format_layout time)
unfolding format_event
format_there time early = event_head time 15 (format_layout time) early (omega arith)

base_there : (time : ℕ) (block : List ℕ) → time < 2 ^ 32 → length block ≤ 40968 → HasHead (base_event time block) time 35 block
unfolding base_event
base_there time block early short = event_head time 35 block early (omega arith)

pub writes_bases : WritesBases
writes_bases keyspace tables bytes base time begins early =
    let rules = rules_of keyspace tables in
    let block = begins.0 in
    let short : length block ≤ 40968 = begins.3 in
    let format = format_event time in
    let previous = base_event time block in
    let first = format_there time early in
    let second = base_there time block early short in
    let first_sort : sort_of format ≡ FormatEvent = sort_is format time 15 (format_layout time) first in
    let second_sort : sort_of previous ≡ PreviousEvent = sort_is previous time 35 block second in
    let format_size : length (format_layout time) ≡ 62 = omega arith in
    let all : joined (format ∷ previous ∷ []) ≡ format ++ previous = ap (λ z. format ++ z) (append-nil previous) in
    let are : bytes ≡ magic ++ (joined (format ∷ previous ∷ []) ++ []) = begins.1 ∙ ap (λ z. magic ++ z) (sym all ∙ sym (append-nil (joined (format ∷ previous ∷ [])))) in
    let whole : IsWholeLog rules bytes base [] = record {
      events = format ∷ previous ∷ [];
      cut = record { are = are; whole = (is_event format time 15 (format_layout time) first, (is_event previous time 35 block second, tt)); short = omega (arith, ap length all, length-append format previous, first.bytes, second.bytes, format_size) };
      known = base;
      log = record {
        format = format;
        after = previous ∷ [];
        are = refl;
        is_format = record { kind = first_sort; layout = ap format_refusal first.body_is ∙ format_said time };
        sizes = (omega (arith, first.size, format_size), (omega (arith, second.size), tt));
        previous = previous ∷ [];
        groups = [];
        parts = all_counted (previous ∷ []) (ap counts second_sort, tt);
        is_base = (second_sort, ap rules.block second.body_is ∙ ap base_of begins.2);
        are_entries = refl;
      };
    } in
    record { whole = whole; meant = whole_log rules bytes base [] whole }
