use Rattle.std.proofs.Common.{rules, arith, ◌≡◌, ◌+◌, ◌-◌, ◌^◌, ◌<◌, ◌≤◌, [], ◌∷◌, List, ℕ, length, min, ap, refl, ◌∙◌, if◌then◌else◌}
use Rattle.vs_base.specs.Limits.{most_body}
use Rattle.vs_filter.specs.Picks.{pick_in}
use Rattle.vs_render.specs.Bodies.{columns_in}
use Rattle.vs_render.specs.Events.{Columns, head_of, is_told}
use Rattle.vs_render.specs.Rendering.{IsRowOf}
use Rattle.vs_render.specs.Spelling.{said_bytes}
use Rattle.vs_render.proofs.TakeLemmas.{IsNext, begun_after, first_refused, joined_after, next_refused, picked_table}
use Rattle.vs_render.proofs.groups.Groups.take.Goals as goal

pub returns-then-size-le-MOST-clause-ok : goal.returns-then-size-le-MOST-clause-ok
returns-then-size-le-MOST-clause-ok c =
    let row : IsRowOf (head_of c.args.name.now c.args.time) ((pick_in c.args.bound.now.tables) c.args.change.now) c.spell.new.self.bytes.items = c.in_ok-picked.ensures.some (search rules) in
    let next : IsNext (head_of c.args.name.now c.args.time) (columns_in c.args.bound.now.tables) ((pick_in c.args.bound.now.tables) c.args.change.now) c.spell.new.self.bytes.items c.len-row.result c.args.change.now.table c.args.self.now.told c.has-known.result c.args.closing = record {
      event = row;
      row_is = search rules;
      of_table = picked_table c.args.bound.now.tables c.args.change.now row.change row.is;
      known_is = c.has-known.ensures ∙ ap (λ (t : List ℕ). is_told c.args.self.now.told t) c.as_bytes-table.ensures;
      closed = c.requires;
    } in
    let opened : c.saturating_sub.result ≡ length c.args.out.now.items - c.args.self.now.start = search rules in
    let sized : c.size_with-size.result ≡ min (length c.args.out.now.items - c.args.self.now.start + (c.in_ok-columns.columns + c.len-row.result) + c.args.closing) (2 ^ 64 - 1) =
    c.size_with-size.ensures ∙ ap (λ (n : ℕ). min (n + (c.in_ok-columns.columns + c.len-row.result) + c.args.closing) (2 ^ 64 - 1)) opened in
    let field_is : c.in_ok-columns.columns ≡ (if c.has-known.result then 0 else min (length (said_bytes (head_of c.args.name.now c.args.time) (Columns c.args.change.now.table ((columns_in c.args.bound.now.tables) c.args.change.now.table) ∷ []))) (2 ^ 64 - 1)) =
    c.in_ok-columns.ensures.size ∙ ap (λ (t : List ℕ). if c.has-known.result then 0 else min (length (said_bytes (head_of c.args.name.now c.args.time) (Columns t ((columns_in c.args.bound.now.tables) t) ∷ []))) (2 ^ 64 - 1)) c.as_bytes-table.ensures in
    let fits : c.size_with-size.result ≤ most_body = omega arith in
    λ all left s.
    joined_after (head_of c.args.name.now c.args.time) (columns_in c.args.bound.now.tables) (pick_in c.args.bound.now.tables) all left c.args.change.now c.spell.new.self.bytes.items c.len-row.result c.args.change.now.table c.args.self.now.told c.join.new.self.told c.args.out.now.items c.join.new.out.items c.args.self.now.earlier.items c.join.new.self.earlier.items
    c.args.self.now.start c.join.new.self.start c.args.self.now.some c.join.new.self.some c.has-known.result c.size_with-size.result c.in_ok-columns.columns c.args.closing c.columns_size.new.columns.bytes.items
    next sized field_is fits
    (λ e. c.in_ok-columns.ensures.spelled e ∙ ap (λ (t : List ℕ). said_bytes (head_of c.args.name.now c.args.time) (Columns t ((columns_in c.args.bound.now.tables) t) ∷ [])) c.as_bytes-table.ensures)
    c.in_ok-join.ensures.written (search rules) c.in_ok-join.ensures.earlier c.in_ok-join.ensures.start c.in_ok-join.ensures.some s

pub returns-then-not-self-clause-err : goal.returns-then-not-self-clause-err
returns-then-not-self-clause-err c =
    let row : IsRowOf (head_of c.args.name.now c.args.time) ((pick_in c.args.bound.now.tables) c.args.change.now) c.spell.new.self.bytes.items = c.in_ok-picked.ensures.some (search rules) in
    let next : IsNext (head_of c.args.name.now c.args.time) (columns_in c.args.bound.now.tables) ((pick_in c.args.bound.now.tables) c.args.change.now) c.spell.new.self.bytes.items c.len-row.result c.args.change.now.table c.args.self.now.told c.has-known.result c.args.closing = record {
      event = row;
      row_is = search rules;
      of_table = picked_table c.args.bound.now.tables c.args.change.now row.change row.is;
      known_is = c.has-known.ensures ∙ ap (λ (t : List ℕ). is_told c.args.self.now.told t) c.as_bytes-table.ensures;
      closed = c.requires;
    } in
    let opened : c.saturating_sub.result ≡ length c.args.out.now.items - c.args.self.now.start = search rules in
    let sized : c.size_with-size.result ≡ min (length c.args.out.now.items - c.args.self.now.start + (c.in_ok-columns.columns + c.len-row.result) + c.args.closing) (2 ^ 64 - 1) =
    c.size_with-size.ensures ∙ ap (λ (n : ℕ). min (n + (c.in_ok-columns.columns + c.len-row.result) + c.args.closing) (2 ^ 64 - 1)) opened in
    let field_is : c.in_ok-columns.columns ≡ (if c.has-known.result then 0 else min (length (said_bytes (head_of c.args.name.now c.args.time) (Columns c.args.change.now.table ((columns_in c.args.bound.now.tables) c.args.change.now.table) ∷ []))) (2 ^ 64 - 1)) =
    c.in_ok-columns.ensures.size ∙ ap (λ (t : List ℕ). if c.has-known.result then 0 else min (length (said_bytes (head_of c.args.name.now c.args.time) (Columns t ((columns_in c.args.bound.now.tables) t) ∷ []))) (2 ^ 64 - 1)) c.as_bytes-table.ensures in
    let over : most_body < c.size_with-size.result = omega arith in
    λ all left s.
    first_refused (head_of c.args.name.now c.args.time) (columns_in c.args.bound.now.tables) (pick_in c.args.bound.now.tables) all left c.args.change.now c.spell.new.self.bytes.items c.len-row.result c.args.change.now.table c.args.self.now.told c.args.out.now.items c.args.self.now.earlier.items c.args.self.now.start c.args.self.now.some c.has-known.result c.size_with-size.result c.in_ok-columns.columns c.args.closing
    next sized field_is over (search rules) s

pub returns-then-alone-gt-MOST-clause-err : goal.returns-then-alone-gt-MOST-clause-err
returns-then-alone-gt-MOST-clause-err c =
    let row : IsRowOf (head_of c.args.name.now c.args.time) ((pick_in c.args.bound.now.tables) c.args.change.now) c.spell.new.self.bytes.items = c.in_ok-picked.ensures.some (search rules) in
    let next : IsNext (head_of c.args.name.now c.args.time) (columns_in c.args.bound.now.tables) ((pick_in c.args.bound.now.tables) c.args.change.now) c.spell.new.self.bytes.items c.len-row.result c.args.change.now.table c.args.self.now.told c.has-known.result c.args.closing = record {
      event = row;
      row_is = search rules;
      of_table = picked_table c.args.bound.now.tables c.args.change.now row.change row.is;
      known_is = c.has-known.ensures ∙ ap (λ (t : List ℕ). is_told c.args.self.now.told t) c.as_bytes-table.ensures;
      closed = c.requires;
    } in
    let opened : c.saturating_sub.result ≡ length c.args.out.now.items - c.args.self.now.start = search rules in
    let sized : c.size_with-size.result ≡ min (length c.args.out.now.items - c.args.self.now.start + (c.in_ok-columns.columns + c.len-row.result) + c.args.closing) (2 ^ 64 - 1) =
    c.size_with-size.ensures ∙ ap (λ (n : ℕ). min (n + (c.in_ok-columns.columns + c.len-row.result) + c.args.closing) (2 ^ 64 - 1)) opened in
    let field_is : c.in_ok-columns.columns ≡ (if c.has-known.result then 0 else min (length (said_bytes (head_of c.args.name.now c.args.time) (Columns c.args.change.now.table ((columns_in c.args.bound.now.tables) c.args.change.now.table) ∷ []))) (2 ^ 64 - 1)) =
    c.in_ok-columns.ensures.size ∙ ap (λ (t : List ℕ). if c.has-known.result then 0 else min (length (said_bytes (head_of c.args.name.now c.args.time) (Columns t ((columns_in c.args.bound.now.tables) t) ∷ []))) (2 ^ 64 - 1)) c.as_bytes-table.ensures in
    let anew_is : c.in_ok-anew.anew ≡ min (length (said_bytes (head_of c.args.name.now c.args.time) (Columns c.args.change.now.table ((columns_in c.args.bound.now.tables) c.args.change.now.table) ∷ []))) (2 ^ 64 - 1) =
    c.in_ok-anew.ensures.size ∙ ap (λ (t : List ℕ). min (length (said_bytes (head_of c.args.name.now c.args.time) (Columns t ((columns_in c.args.bound.now.tables) t) ∷ []))) (2 ^ 64 - 1)) c.as_bytes-table.ensures in
    let over : most_body < c.size_with-size.result = omega arith in
    let too_large : most_body < c.size_with-alone.result = omega arith in
    λ all left s.
    next_refused (head_of c.args.name.now c.args.time) (columns_in c.args.bound.now.tables) (pick_in c.args.bound.now.tables) all left c.args.change.now c.spell.new.self.bytes.items c.len-row.result c.args.change.now.table c.args.self.now.told c.args.out.now.items c.args.self.now.earlier.items c.args.self.now.start c.args.self.now.some c.has-known.result c.size_with-size.result c.size_with-alone.result c.in_ok-columns.columns c.in_ok-anew.anew c.args.closing
    next sized field_is over (search rules) c.size_with-alone.ensures anew_is too_large s

pub returns-clause-ok : goal.returns-clause-ok
returns-clause-ok c =
    let row : IsRowOf (head_of c.args.name.now c.args.time) ((pick_in c.args.bound.now.tables) c.args.change.now) c.spell.new.self.bytes.items = c.in_ok-picked.ensures.some (search rules) in
    let next : IsNext (head_of c.args.name.now c.args.time) (columns_in c.args.bound.now.tables) ((pick_in c.args.bound.now.tables) c.args.change.now) c.spell.new.self.bytes.items c.len-row.result c.args.change.now.table c.args.self.now.told c.has-known.result c.args.closing = record {
      event = row;
      row_is = search rules;
      of_table = picked_table c.args.bound.now.tables c.args.change.now row.change row.is;
      known_is = c.has-known.ensures ∙ ap (λ (t : List ℕ). is_told c.args.self.now.told t) c.as_bytes-table.ensures;
      closed = c.requires;
    } in
    let opened : c.saturating_sub.result ≡ length c.args.out.now.items - c.args.self.now.start = search rules in
    let sized : c.size_with-size.result ≡ min (length c.args.out.now.items - c.args.self.now.start + (c.in_ok-columns.columns + c.len-row.result) + c.args.closing) (2 ^ 64 - 1) =
    c.size_with-size.ensures ∙ ap (λ (n : ℕ). min (n + (c.in_ok-columns.columns + c.len-row.result) + c.args.closing) (2 ^ 64 - 1)) opened in
    let field_is : c.in_ok-columns.columns ≡ (if c.has-known.result then 0 else min (length (said_bytes (head_of c.args.name.now c.args.time) (Columns c.args.change.now.table ((columns_in c.args.bound.now.tables) c.args.change.now.table) ∷ []))) (2 ^ 64 - 1)) =
    c.in_ok-columns.ensures.size ∙ ap (λ (t : List ℕ). if c.has-known.result then 0 else min (length (said_bytes (head_of c.args.name.now c.args.time) (Columns t ((columns_in c.args.bound.now.tables) t) ∷ []))) (2 ^ 64 - 1)) c.as_bytes-table.ensures in
    let anew_is : c.in_ok-anew.anew ≡ min (length (said_bytes (head_of c.args.name.now c.args.time) (Columns c.args.change.now.table ((columns_in c.args.bound.now.tables) c.args.change.now.table) ∷ []))) (2 ^ 64 - 1) =
    c.in_ok-anew.ensures.size ∙ ap (λ (t : List ℕ). min (length (said_bytes (head_of c.args.name.now c.args.time) (Columns t ((columns_in c.args.bound.now.tables) t) ∷ []))) (2 ^ 64 - 1)) c.as_bytes-table.ensures in
    let over : most_body < c.size_with-size.result = omega arith in
    let fits : c.size_with-alone.result ≤ most_body = omega arith in
    λ all left s.
    begun_after (head_of c.args.name.now c.args.time) (columns_in c.args.bound.now.tables) (pick_in c.args.bound.now.tables) all left c.args.change.now c.spell.new.self.bytes.items c.len-row.result c.args.change.now.table c.args.self.now.told c.begin_next.new.self.told c.args.out.now.items c.begin_next.new.out.items c.args.self.now.earlier.items c.begin_next.new.self.earlier.items
    c.args.self.now.start c.begin_next.new.self.start c.args.self.now.some c.begin_next.new.self.some c.has-known.result c.size_with-size.result c.size_with-alone.result c.in_ok-columns.columns c.in_ok-anew.anew c.args.closing c.columns_size-2.new.columns.bytes.items
    next sized field_is over (search rules) c.size_with-alone.ensures anew_is fits
    (c.in_ok-anew.ensures.spelled refl ∙ ap (λ (t : List ℕ). said_bytes (head_of c.args.name.now c.args.time) (Columns t ((columns_in c.args.bound.now.tables) t) ∷ [])) c.as_bytes-table.ensures)
    c.in_ok-begin_next.ensures.written (search rules) c.in_ok-begin_next.ensures.earlier c.in_ok-begin_next.ensures.start c.in_ok-begin_next.ensures.some s
