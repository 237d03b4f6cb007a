use Rattle.std.proofs.Common.{◌≡◌, true, not, List, Bool, subst, arith}
use Rattle.std.specs.List.{list_all}
use Rattle.std.proofs.Math.Seq.{take-append_seam}
use Rattle.std.proofs.lemmas.Grind.{common_steps}
use Rattle.vs_outside.proofs.MemoryLemmas.{all_before, quiet_before}
use Rattle.vs_outside.proofs.mem_tablets.MemTablets.fails.Goals as goal

abbrev NoneFails : List Bool → Type 0
NoneFails script = list_all not script ≡ true

pub invariant_of-self : goal.invariant_of-self
invariant_of-self c = record {
  quiet = λ quiet.
      c.args.self.now.quiet (quiet_before c.args.self.now.held.items c.args.self.now.held.items c.args.self.now.fetches.items c.extend_from_slice.new.self.items c.args.self.now.lists.items c.args.self.now.lists.items
      (λ e. e) (subst NoneFails c.in_err-extend_from_slice.ensures.items) (λ e. e) quiet);
}

pub invariant_of-self-in-Err : goal.invariant_of-self-in-Err
invariant_of-self-in-Err c =
    let fetches = c.args.self.now.fetches.items in
    let restored : c.truncate.new.self.items ≡ fetches = grind (arith, common_steps, take-append_seam fetches c.args.fetches.now) in
    record {
      quiet = λ quiet.
          c.args.self.now.quiet (quiet_before c.args.self.now.held.items c.args.self.now.held.items fetches c.truncate.new.self.items c.args.self.now.lists.items c.extend_from_slice-2.new.self.items
          (λ e. e) (subst NoneFails restored) (subst NoneFails c.in-Err.ensures.items) quiet);
    }

pub invariant_of-self-in_default : goal.invariant_of-self-in_default
invariant_of-self-in_default c =
    let fetches = c.args.self.now.fetches.items in
    let lists = c.args.self.now.lists.items in
    record {
      quiet = λ quiet.
          c.args.self.now.quiet (quiet_before c.args.self.now.held.items c.args.self.now.held.items fetches c.extend_from_slice.new.self.items lists c.extend_from_slice-2.new.self.items
          (λ e. e)
          (λ e. all_before not fetches c.args.fetches.now (subst NoneFails c.in_ok-extend_from_slice.ensures.items e))
          (λ e. all_before not lists c.args.lists.now (subst NoneFails c.in_default.ensures.items e))
          quiet);
    }
