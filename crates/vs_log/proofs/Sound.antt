-- What the table takes begins a log.
use Rattle.std.proofs.Common.{◌≡◌, ◌≤◌, ◌+◌, ℕ, true, false, List, [], ◌∷◌, ◌++◌, drop, Some, Ok, refl, ap, sym, subst, ◌∙◌, append_assoc, arith}
use Rattle.std.specs.Prelude.{◌⊎◌}
use Rattle.std.specs.List.{filter}
use Rattle.std.proofs.lemmas.List.{append-nil}
use Rattle.vs_base.specs.declared.Gtid.{Gtid}
use Rattle.vs_gtid.specs.declared.Work.{Work}
use Rattle.vs_gtid.specs.declared.Work.TheVariants.{Rows}
use Rattle.vs_gtid.specs.declared.Entry.{Entry}
use Rattle.vs_gtid.specs.Positions.{Position}
use Rattle.vs_gtid.specs.Joins.{added}
use Rattle.vs_log.specs.declared.event.Sort.{Sort}
use Rattle.vs_log.specs.declared.event.Sort.TheVariants.{PassedOver, PreviousEvent}
use Rattle.vs_log.specs.declared.statement.Statement.TheVariants.{Begin}
use Rattle.vs_log.specs.declared.statement.Statement.{Statement}
use Rattle.vs_log.specs.States.{Counted}
use Rattle.vs_log.specs.States.{Place}
use Rattle.vs_log.specs.States.Place.{Front}
use Rattle.vs_log.specs.States.{State}
use Rattle.vs_binlog.specs.Heads.{Event, time_of, length_of, body_of}
use Rattle.vs_log.specs.Events.{sort_of, limit}
use Rattle.vs_log.specs.Table.{Rules, single_work, size, sum_with, bytes_with, ended, with_base, named, step}
use Rattle.vs_log.specs.Meaning.{front}
use Rattle.vs_log.specs.Productions.{counts, is_counted, total, in_turn, is_nil, is_first, IsBase, IsMiddle, IsWork, IsGtid, Says, IsUnended, IsEntry, IsNew, IsNamed, Ends, AreEntries, IsLog, IsBegun, Stands, BeginsLog}
use Rattle.vs_log.proofs.Moves.{Moves, inside, step_moves}
use Rattle.vs_log.proofs.Moves.Moves.{formatted, passed_between, passed_named, passed_inside, based, names, singles, begins, saves, maps_on, tells, ends}
use Rattle.vs_log.proofs.Shapes.{all_more, total-append, in_turn-more, entries_more, left_nil, right_nil, no_entries, nil_from, is_nil-more, filter_more, filter_same, middle_more, work_more}

-- the log with an event more, whose parts are these
grown : {M : Type 0} (rules : Rules M) (events : List Event) (base base' : Position) (entries entries' : List Entry) (known known' : Position) (opened opened' previous : List Event) (groups : List (List Event)) (e : Event) →
    (l : IsLog rules events base entries known opened) → length_of e ≤ limit → filter is_counted (l.after ++ e ∷ []) ≡ previous ++ (in_turn groups ++ opened') →
    IsBase rules previous base' → AreEntries rules base' groups entries' known' → IsLog rules (events ++ e ∷ []) base' entries' known' opened'
grown rules events base base' entries entries' known known' opened opened' previous groups e l fits parts b a = record {
  format = l.format;
  after = l.after ++ e ∷ [];
  are = ap (λ z. z ++ e ∷ []) l.are;
  is_format = l.is_format;
  sizes = all_more (λ x. length_of x ≤ limit) events e l.sizes fits;
  previous = previous;
  groups = groups;
  parts = parts;
  is_base = b;
  are_entries = a;
}

after_more : (events after : List Event) (format e : Event) → events ≡ format ∷ after → drop 1 (events ++ e ∷ []) ≡ after ++ e ∷ []
after_more events after format e are = ap (λ z. drop 1 (z ++ e ∷ [])) are

-- no place behind an event that counts is the first
not_first : (events after : List Event) (format e : Event) → events ≡ format ∷ after → is_counted e ≡ true → false ≡ is_nil (filter is_counted (drop 1 (events ++ e ∷ [])))
not_first events after format e are k =
    sym (ap (λ z. is_nil (filter is_counted z)) (after_more events after format e are) ∙ ap is_nil (filter_more after e k) ∙ is_nil-more (filter is_counted after) e)

same_first : (events after : List Event) (format e : Event) → events ≡ format ∷ after → is_counted e ≡ false →
    is_nil (filter is_counted (drop 1 events)) ≡ is_nil (filter is_counted (drop 1 (events ++ e ∷ [])))
same_first events after format e are k =
    ap (λ z. is_nil (filter is_counted (drop 1 z))) are
    ∙ sym (ap (λ z. is_nil (filter is_counted z)) (after_more events after format e are) ∙ ap is_nil (filter_same after e k))

regroup : (a b c d : List Event) → (a ++ (b ++ c)) ++ d ≡ a ++ (b ++ (c ++ d))
regroup a b c d = append_assoc a (b ++ c) d ∙ ap (λ z. a ++ z) (append_assoc b c d)

-- the open events with one more
parts_more : {M : Type 0} (rules : Rules M) (events : List Event) (base : Position) (entries : List Entry) (known : Position) (opened : List Event) (e : Event) →
    (l : IsLog rules events base entries known opened) → is_counted e ≡ true → filter is_counted (l.after ++ e ∷ []) ≡ l.previous ++ (in_turn l.groups ++ (opened ++ e ∷ []))
parts_more rules events base entries known opened e l k =
    filter_more l.after e k ∙ ap (λ z. z ++ e ∷ []) l.parts ∙ regroup l.previous (in_turn l.groups) opened (e ∷ [])

opened_more : {M : Type 0} (rules : Rules M) (events : List Event) (base : Position) (entries : List Entry) (known : Position) (opened : List Event) (e : Event) →
    IsLog rules events base entries known opened → length_of e ≤ limit → is_counted e ≡ true → IsLog rules (events ++ e ∷ []) base entries known (opened ++ e ∷ [])
opened_more rules events base entries known opened e l fits k =
    grown rules events base base entries entries known known opened (opened ++ e ∷ []) l.previous l.groups e l fits (parts_more rules events base entries known opened e l k) l.is_base l.are_entries

-- the open events with the last of an entry
closed_more : {M : Type 0} (rules : Rules M) (events : List Event) (base : Position) (entries : List Entry) (known : Position) (opened : List Event) (e : Event) (x : Entry) →
    IsLog rules events base entries known opened → length_of e ≤ limit → is_counted e ≡ true → IsEntry rules (opened ++ e ∷ []) x → IsNew known x.gtid →
    IsLog rules (events ++ e ∷ []) base (entries ++ x ∷ []) (added known x.gtid) []
closed_more rules events base entries known opened e x l fits k is new =
    grown rules events base base entries (entries ++ x ∷ []) known (added known x.gtid) opened [] l.previous (l.groups ++ (opened ++ e ∷ []) ∷ []) e l fits
    (parts_more rules events base entries known opened e l k
    ∙ ap (λ z. l.previous ++ z) (sym (in_turn-more l.groups (opened ++ e ∷ [])) ∙ sym (append-nil (in_turn (l.groups ++ (opened ++ e ∷ []) ∷ [])))))
    l.is_base (entries_more rules base known l.groups entries (opened ++ e ∷ []) x l.are_entries is new)

passed_more : {M : Type 0} (rules : Rules M) (events : List Event) (s : State M) (e : Event) → Stands rules events s → length_of e ≤ limit → sort_of e ≡ PassedOver → Stands rules (events ++ e ∷ []) s
passed_more rules events s e st fits k =
    let l = st.log in
    let none : is_counted e ≡ false = ap counts k in
    record {
      known = st.known;
      opened = st.opened;
      log = grown rules events s.base s.base s.entries s.entries st.known st.known st.opened st.opened l.previous l.groups e l fits (filter_same l.after e none ∙ l.parts) l.is_base l.are_entries;
      begun = st.begun;
      first = st.first ∙ same_first events l.after l.format e l.are none;
    }

total_more : (opened : List Event) (e : Event) (bytes : ℕ) → bytes ≡ total opened → bytes + length_of e ≡ total (opened ++ e ∷ [])
total_more opened e bytes b = omega (arith, total-append opened (e ∷ []))

-- behind an event that leaves a transaction open
inside_more : {M : Type 0} (rules : Rules M) (events : List Event) (s : State M) (e : Event) (g : Gtid) (bytes : ℕ) (maps : M) (work : Work) (known : Position) (opened : List Event) →
    IsLog rules events s.base s.entries known opened → length_of e ≤ limit → is_counted e ≡ true → bytes + length_of e ≤ limit →
    bytes ≡ total opened → s.known ≡ added known g → IsNew known g → IsUnended rules (opened ++ e ∷ []) g maps work → Stands rules (events ++ e ∷ []) (inside s e g bytes maps work)
inside_more rules events s e g bytes maps work known opened l fits k small b same new is = record {
  known = known;
  opened = opened ++ e ∷ [];
  log = opened_more rules events s.base s.entries known opened e l fits k;
  begun = (is, new, same, total_more opened e bytes b, subst (λ z. z ≤ limit) (total_more opened e bytes b) small);
  first = not_first events l.after l.format e l.are k;
}

-- behind an event that ends an entry
ended_more : {M : Type 0} (rules : Rules M) (events : List Event) (s : State M) (e : Event) (g : Gtid) (work : Work) (known : Position) (opened : List Event) →
    IsLog rules events s.base s.entries known opened → length_of e ≤ limit → is_counted e ≡ true → s.known ≡ added known g → IsNew known g →
    IsEntry rules (opened ++ e ∷ []) (record { gtid = g; time = time_of e; work = work }) → Stands rules (events ++ e ∷ []) (ended s e g work)
ended_more rules events s e g work known opened l fits k same new is = record {
  known = added known g;
  opened = [];
  log = closed_more rules events s.base s.entries known opened e (record { gtid = g; time = time_of e; work = work }) l fits k is new;
  begun = (refl, same);
  first = not_first events l.after l.format e l.are k;
}

unended_more : {M : Type 0} (rules : Rules M) (opened : List Event) (g : Gtid) (maps after : M) (work next : Work) (e : Event) (more : List Counted) →
    (u : IsUnended rules opened g maps work) → IsMiddle rules maps (e ∷ []) more after → IsWork (u.counted ++ more) next → IsUnended rules (opened ++ e ∷ []) g after next
unended_more rules opened g maps after work next e more u m w = record {
  gtid = u.gtid;
  begin = u.begin;
  middle = u.middle ++ e ∷ [];
  are = ap (λ z. z ++ e ∷ []) u.are;
  names = u.names;
  begins = u.begins;
  counted = u.counted ++ more;
  tells = middle_more rules rules.no_tables u.middle u.counted maps e more after u.tells m;
  comes = w;
}

same_work : (counted : List Counted) (work : Work) → IsWork counted work → IsWork (counted ++ []) work
same_work counted work w = subst (λ z. IsWork z work) (sym (append-nil counted)) w

based_more : {M : Type 0} (rules : Rules M) (events : List Event) (s : State M) (e : Event) (set known : Position) (opened : List Event) →
    IsLog rules events s.base s.entries known opened → true ≡ is_nil (filter is_counted (drop 1 events)) → length_of e ≤ limit →
    sort_of e ≡ PreviousEvent → rules.block (body_of e) ≡ Ok set → Stands rules (events ++ e ∷ []) (with_base s set)
based_more rules events s e set known opened l first fits k r =
    let counted : is_counted e ≡ true = ap counts k in
    let none : filter is_counted l.after ≡ [] = nil_from _ (sym (first ∙ ap (λ z. is_nil (filter is_counted (drop 1 z))) l.are)) in
    let parts : l.previous ++ (in_turn l.groups ++ opened) ≡ [] = sym l.parts ∙ none in
    let empty : s.entries ≡ [] = no_entries rules s.base known l.groups s.entries l.are_entries (left_nil _ _ (right_nil l.previous _ parts)) in
    record {
      known = set;
      opened = [];
      log = grown rules events s.base set s.entries s.entries known set opened [] (e ∷ []) [] e l fits (filter_more l.after e counted ∙ ap (λ z. z ++ e ∷ []) none)
          (k, r) (subst (λ z. AreEntries rules set [] z set) (sym empty) refl);
      begun = (refl, refl);
      first = not_first events l.after l.format e l.are counted;
    }

named_more : {M : Type 0} (rules : Rules M) (events : List Event) (s : State M) (e : Event) (g : Gtid) (known : Position) (opened : List Event) →
    IsLog rules events s.base s.entries known opened → opened ≡ [] → s.known ≡ known → length_of e ≤ limit →
    IsGtid e g → IsNew s.known g → Stands rules (events ++ e ∷ []) (named s e g)
named_more rules events s e g known opened l none same fits is new =
    let counted : is_counted e ≡ true = ap counts is.kind in
    record {
      known = known;
      opened = e ∷ [];
      log = subst (λ z. IsLog rules (events ++ e ∷ []) s.base s.entries known (z ++ e ∷ [])) none (opened_more rules events s.base s.entries known opened e l fits counted);
      begun = (record { gtid = e; are = refl; names = is }, subst (λ z. IsNew z g) same new, ap (λ z. added z g) same, omega arith, omega arith);
      first = not_first events l.after l.format e l.are counted;
    }

-- an entry of a GTID event and a query
single_entry : {M : Type 0} (rules : Rules M) (opened : List Event) (e : Event) (g : Gtid) (statement : Statement) (work : Work) → IsNamed rules opened g →
    Says rules e statement → single_work statement ≡ Some work → total (opened ++ e ∷ []) ≤ limit → IsEntry rules (opened ++ e ∷ []) (record { gtid = g; time = time_of e; work = work })
single_entry rules opened e g statement work n says single small = record {
  form = ◌⊎◌.inl (record { gtid = n.gtid; query = e; are = ap (λ z. z ++ e ∷ []) n.are; names = n.names; statement = statement; says = says; work = single; time = refl });
  size = small;
}

transaction_entry : {M : Type 0} (rules : Rules M) (opened : List Event) (e : Event) (g : Gtid) (maps : M) (work : Work) → IsUnended rules opened g maps work →
    Ends rules e → total (opened ++ e ∷ []) ≤ limit → IsEntry rules (opened ++ e ∷ []) (record { gtid = g; time = time_of e; work = work })
transaction_entry rules opened e g maps work u end small = record {
  form = ◌⊎◌.inr (record { opened = opened; last = e; are = refl; maps = maps; begun = u; ends = end; time = refl });
  size = small;
}

begun_unended : {M : Type 0} (rules : Rules M) (opened : List Event) (e : Event) (g : Gtid) → IsNamed rules opened g → Says rules e Begin → IsUnended rules (opened ++ e ∷ []) g rules.no_tables (Rows [])
begun_unended rules opened e g n says = record {
  gtid = n.gtid;
  begin = e;
  middle = [];
  are = ap (λ z. z ++ e ∷ []) n.are;
  names = n.names;
  begins = says;
  counted = [];
  tells = (refl, refl);
  comes = refl;
}

ends_count : {M : Type 0} (rules : Rules M) (e : Event) → Ends rules e → is_counted e ≡ true
ends_count rules e (◌⊎◌.inl x) = ap counts x.kind
ends_count rules e (◌⊎◌.inr q) = ap counts q.kind

-- the sum of an event that counts
summed : {M : Type 0} (place : Place M) (sort : Sort) (n most : ℕ) → counts sort ≡ true → sum_with place sort n ≤ most → size place + n ≤ most
summed place PassedOver n most k h = cc
summed place sort n most k h = h

length_within : {M : Type 0} (place : Place M) (sort : Sort) (n most : ℕ) → sum_with place sort n ≤ most → n ≤ most
length_within place PassedOver n most h = h
length_within place sort n most h = let k : size place + n ≤ most = h in omega arith

sound_move : {M : Type 0} (rules : Rules M) (events : List Event) (s : State M) (e : Event) (place : Place M) (next : State M) (known : Position) (opened : List Event) → Stands rules events s →
    IsLog rules events s.base s.entries known opened → IsBegun rules known opened s place → is_first place ≡ is_nil (filter is_counted (drop 1 events)) →
    length_of e ≤ limit → (counts (sort_of e) ≡ true → size place + length_of e ≤ limit) → Moves rules s e place next → Stands rules (events ++ e ∷ []) next
sound_move rules events s e place next known opened st l b first fits small (formatted is) = elim b [ ]
sound_move rules events s e place next known opened st l b first fits small (passed_between at k) = passed_more rules events s e st fits k
sound_move rules events s e place next known opened st l b first fits small (passed_named g bytes k) = passed_more rules events s e st fits k
sound_move rules events s e place next known opened st l b first fits small (passed_inside g bytes maps work k) = passed_more rules events s e st fits k
sound_move rules events s e place next known opened st l b first fits small (based set k r) = based_more rules events s e set known opened l first fits k r
sound_move rules events s e place next known opened st l b first fits small (names at g is new) = named_more rules events s e g known opened l b.0 b.1 fits is new
sound_move rules events s e place next known opened st l b first fits small (singles g bytes statement work says one) =
    let k : is_counted e ≡ true = ap counts says.kind in
    ended_more rules events s e g work known opened l fits k b.2 b.1
    (single_entry rules opened e g statement work b.0 says one (subst (λ z. z ≤ limit) (total_more opened e bytes b.3) (small k)))
sound_move rules events s e place next known opened st l b first fits small (begins g bytes says) =
    let k : is_counted e ≡ true = ap counts says.kind in
    inside_more rules events s e g bytes rules.no_tables (Rows []) known opened l fits k (small k) b.3 b.2 b.1 (begun_unended rules opened e g b.0 says)
sound_move rules events s e place next known opened st l b first fits small (saves g bytes maps work says) =
    let k : is_counted e ≡ true = ap counts says.kind in
    inside_more rules events s e g bytes maps work known opened l fits k (small k) b.3 b.2 b.1
    (unended_more rules opened g maps maps work work e [] b.0 (◌⊎◌.inr (◌⊎◌.inr (says, (refl, refl)))) (same_work b.0.counted work b.0.comes))
sound_move rules events s e place next known opened st l b first fits small (maps_on g bytes maps work more is) =
    let k : is_counted e ≡ true = ap counts is.kind in
    inside_more rules events s e g bytes more work known opened l fits k (small k) b.3 b.2 b.1
    (unended_more rules opened g maps more work work e [] b.0 (◌⊎◌.inl (more, is, (refl, refl))) (same_work b.0.counted work b.0.comes))
sound_move rules events s e place next known opened st l b first fits small (tells g bytes maps work counted more says told) =
    let k : is_counted e ≡ true = ap counts says.kind in
    inside_more rules events s e g bytes maps more known opened l fits k (small k) b.3 b.2 b.1
    (unended_more rules opened g maps maps work more e counted b.0 (◌⊎◌.inr (◌⊎◌.inl (counted, [], says, sym (append-nil counted), (refl, refl)))) (work_more work b.0.counted counted more b.0.comes told))
sound_move rules events s e place next known opened st l b first fits small (ends g bytes maps work end) =
    let k : is_counted e ≡ true = ends_count rules e end in
    ended_more rules events s e g work known opened l fits k b.2 b.1
    (transaction_entry rules opened e g maps work b.0 end (subst (λ z. z ≤ limit) (total_more opened e bytes b.3) (small k)))

-- a log's first event
sound_first : {M : Type 0} (rules : Rules M) (base known : Position) (entries : List Entry) (next : State M) (e : Event) → base ≡ [] → known ≡ [] → entries ≡ [] → length_of e ≤ limit →
    Moves rules (record { base = base; entries = entries; known = known; place = Front }) e Front next → Stands rules (e ∷ []) next
sound_first rules base known entries next e b n es fits (formatted is) = record {
  known = base;
  opened = [];
  log = record {
    format = e;
    after = [];
    are = refl;
    is_format = is;
    sizes = (fits, tt);
    previous = [];
    groups = [];
    parts = refl;
    is_base = b;
    are_entries = subst (λ z. AreEntries rules base [] z base) (sym es) refl;
  };
  begun = (refl, n ∙ sym b);
  first = refl;
}

-- what is taken goes on with the beginning of a log
pub sound_step : {M : Type 0} (rules : Rules M) (events : List Event) (s next : State M) (e : Event) → BeginsLog rules events s → step rules s e ≡ Ok next → BeginsLog rules (events ++ e ∷ []) next
unfolding bytes_with
sound_step {M} rules [] s next e b h =
    let m = step_moves rules front e next (subst (λ z. step rules z e ≡ Ok next) b h) in
    sound_first rules [] [] [] next e refl refl refl (length_within {M = M} Front (sort_of e) (length_of e) limit m.0) m.1
sound_step rules (f ∷ events) s next e b h =
    let m = step_moves rules s e next h in
    sound_move rules (f ∷ events) s e s.place next b.known b.opened b b.log b.begun b.first (length_within s.place (sort_of e) (length_of e) limit m.0) (λ k. summed s.place (sort_of e) (length_of e) limit k m.0) m.1
