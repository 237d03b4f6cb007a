use Rattle.std.proofs.Common.{◌≡◌, take, drop}
use Rattle.vs_gtid.specs.Parts.{scanned, scanned_from, IsWithin}
use Rattle.vs_gtid.proofs.scan.scan_text.Given as goal

-- going on from here gives what the whole gives
abbrev pub invariant-loop-at : goal.invariant-loop-at
invariant-loop-at l = record {
  within : IsWithin l.at l.part;
  rest : scanned_from (take l.at l.text) l.spans.items l.part (drop l.at l.text) ≡ scanned l.text;
}
