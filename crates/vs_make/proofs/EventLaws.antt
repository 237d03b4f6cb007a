-- What the head and the body of a written event say.
use Rattle.std.proofs.Common.{◌≡◌, ◌∙◌, ◌++◌, ◌+◌, ◌-◌, ◌%◌, ◌^◌, ◌≤◌, ◌<◌, ◌&&◌, ℕ, true, false, List, [], ◌∷◌, Some, None, Ok, Err, length, take, drop, get_or, slice_index, refl, ap, sym, arith, cond, length-append}
use Rattle.std.specs.Prelude.{◌==◌, nat_le, nat_lt, if◌then◌else◌}
use Rattle.std.proofs.lemmas.Bool.{and_from, eq-eqb, le-leb, le-ltb}
use Rattle.std.proofs.lemmas.List.{get_or-append-add}
use Rattle.std.proofs.Math.Nat.{mod-eq_of_lt}
use Rattle.std.proofs.Math.Seq.{drop-append_seam, drop-append-add, get_or-append_seam, take-append_seam}
use Rattle.byteorder.specs.Endian.{little_bytes, little_number}
use Rattle.byteorder.specs.Numbers.{little_number-reads_back}
use Rattle.vs_base.specs.declared.Gtid.{Gtid}
use Rattle.vs_base.specs.Names.{gtid_of}
use Rattle.vs_base.proofs.NameLemmas.{gtid_of-is}
use Rattle.vs_binlog.specs.Bodies.{gtid_body, query_body, said_at}
use Rattle.vs_binlog.specs.Heads.{Event, body_of, flags_of, kind_of, length_of, time_of}
use Rattle.vs_log.specs.Events.{IsEvent, sort, sort_of}
use Rattle.vs_base.specs.declared.Why.TheVariants.{BadEvent, BadGtid}
use Rattle.vs_log.specs.Table.{format_refusal, gtid_in, or_refused}
use Rattle.vs_make.specs.Events.{event_bytes, format_layout, gtid_layout, query_layout}

-- the event is of this kind and time, without flags, and has this body
pub record HasHead (e : Event) (time kind : ℕ) (body : List ℕ) : Type 0 where
  pub kind_is : kind_of e ≡ kind
  pub flags : flags_of e ≡ 0
  pub time_is : time_of e ≡ time
  pub size : length_of e ≡ 19 + length body
  pub bytes : length e ≡ 19 + length body
  pub body_is : body_of e ≡ body

pub event_length : (time kind : ℕ) (body : List ℕ) → length (event_bytes time kind body) ≡ 19 + length body
unfolding event_bytes
event_length time kind body = omega arith

pub event_head : (time kind : ℕ) (body : List ℕ) → time < 2 ^ 32 → 19 + length body < 2 ^ 32 → HasHead (event_bytes time kind body) time kind body
unfolding event_bytes kind_of flags_of time_of length_of body_of
event_head time kind body h k = record {
  kind_is = refl;
  flags = refl;
  time_is = little_number-reads_back 4 time (kind ∷ (little_bytes 4 0 ++ (little_bytes 4 ((19 + length body) % 2 ^ 32) ++ (little_bytes 4 0 ++ (little_bytes 2 0 ++ body))))) h;
  size = little_number-reads_back 4 ((19 + length body) % 2 ^ 32) (little_bytes 4 0 ++ (little_bytes 2 0 ++ body)) (omega arith) ∙ mod-eq_of_lt k;
  bytes = omega arith;
  body_is = refl;
}

pub is_event : (e : Event) (time kind : ℕ) (body : List ℕ) → HasHead e time kind body → IsEvent e
is_event e time kind body h = record { head = omega (arith, h.bytes); whole = h.size ∙ sym h.bytes }

pub sort_is : (e : Event) (time kind : ℕ) (body : List ℕ) → HasHead e time kind body → sort_of e ≡ sort kind 0
unfolding sort_of
sort_is e time kind body h = ap (λ k. sort k (flags_of e)) h.kind_is ∙ ap (sort kind) h.flags

-- ---- bodies

pub gtid_said : (g : Gtid) → length g.uuid ≡ 16 → gtid_in (gtid_layout g) ≡ Ok g
unfolding gtid_in gtid_body
gtid_said g long =
    let number = little_bytes 8 g.number in
    let size : length (gtid_layout g) ≡ 25 = omega (arith, length-append g.uuid number) in
    let short : nat_lt (length (gtid_layout g)) 25 ≡ false = le-ltb (length (gtid_layout g)) 25 (omega (arith, size)) in
    let uuid : take 16 (g.uuid ++ number) ≡ g.uuid = ap (λ n. take n (g.uuid ++ number)) (sym long) ∙ take-append_seam g.uuid number in
    let behind : drop 16 (g.uuid ++ number) ≡ number = ap (λ n. drop n (g.uuid ++ number)) (sym long) ∙ drop-append_seam g.uuid number in
    let last : g.number ≤ 2 ^ 63 - 2 = g.last in
    let read : little_number 8 (drop 16 (g.uuid ++ number)) ≡ g.number = ap (little_number 8) behind ∙ little_number-reads_back 8 g.number [] (omega arith) in
    let parts : gtid_of (take 16 (g.uuid ++ number)) (little_number 8 (drop 16 (g.uuid ++ number))) ≡ Some g = ap (λ u. gtid_of u (little_number 8 (drop 16 (g.uuid ++ number)))) uuid ∙ (ap (gtid_of g.uuid) read ∙ gtid_of-is g) in
    let body : (if nat_lt (length (gtid_layout g)) 25 then None else gtid_of (take 16 (g.uuid ++ number)) (little_number 8 (drop 16 (g.uuid ++ number)))) ≡ Some g = ap (λ b. cond b None (gtid_of (take 16 (g.uuid ++ number)) (little_number 8 (drop 16 (g.uuid ++ number))))) short ∙ parts in
    ap (λ b. cond b (Err (BadEvent 33)) (or_refused (gtid_body (gtid_layout g)) BadGtid)) short ∙ ap (λ o. or_refused o BadGtid) body

-- the bytes before the schema
abbrev query_front : ℕ → List ℕ
query_front n = little_bytes 4 0 ++ (little_bytes 4 0 ++ (n ∷ (little_bytes 2 0 ++ little_bytes 2 0)))

query_at : (n : ℕ) (schema text : List ℕ) → length schema ≡ n → query_body (query_front n ++ (schema ++ (0 ∷ text))) ≡ Some (record { schema = schema; text = text })
unfolding query_body
query_at n schema text long =
    let rest = schema ++ (0 ∷ text) in
    let body = query_front n ++ rest in
    let fits : 13 + n + 1 ≤ length body = omega (arith, length-append schema (0 ∷ text)) in
    let zero_there : slice_index body (13 + n) ≡ 0 = get_or-append-add (query_front n) rest n 0 ∙ (ap (λ k. get_or rest k 0) (sym long) ∙ get_or-append_seam schema 0 text 0) in
    let test : (nat_le (13 + n + 1) (length body) && slice_index body (13 + n) == 0) ≡ true = and_from (nat_le (13 + n + 1) (length body)) (slice_index body (13 + n) == 0) (le-leb (13 + n + 1) (length body) fits) (eq-eqb (slice_index body (13 + n)) 0 zero_there) in
    let first : take n rest ≡ schema = ap (λ k. take k rest) (sym long) ∙ take-append_seam schema (0 ∷ text) in
    let behind : drop (n + 1) rest ≡ text = ap (λ k. drop (k + 1) rest) (sym long) ∙ (drop-append-add schema (0 ∷ text) 1 ∙ refl) in
    ap (λ b. cond b (Some (said_at n rest)) None) test
    ∙ (ap (λ (s : List ℕ). Some (record { schema = s; text = drop (n + 1) rest })) first ∙ ap (λ (t : List ℕ). Some (record { schema = schema; text = t })) behind)

pub query_said : (schema text : List ℕ) → length schema ≤ 255 → query_body (query_layout schema text) ≡ Some (record { schema = schema; text = text })
query_said schema text short =
    ap (λ n. query_body (query_front n ++ (schema ++ (0 ∷ text)))) (mod-eq_of_lt {n = length schema} {m = 256} (omega arith)) ∙ query_at (length schema) schema text refl

pub format_said : (time : ℕ) → format_refusal (format_layout time) ≡ None
format_said time = refl
