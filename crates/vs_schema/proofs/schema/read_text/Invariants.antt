use Rattle.std.proofs.Common.{◌≡◌, ◌≤◌, ◌+◌, length}
use Rattle.vs_schema.specs.Lines.{lines_of}
use Rattle.vs_schema.specs.Reading.{draft_of}
use Rattle.vs_schema.specs.Rules.{by_lines, schema_of}
use Rattle.vs_schema.proofs.schema.read_text.Given as goal

-- what the text says follows from the lines so far and those that are left
abbrev pub invariant-loop-rest : goal.invariant-loop-rest
invariant-loop-rest l = record {
  same : by_lines l.line_number (draft_of l.builder) (lines_of l.rest) ≡ schema_of l.text;
  few : l.line_number + length l.rest ≤ length l.text + 1;
}

abbrev pub decreases-loop-rest : goal.decreases-loop-rest
decreases-loop-rest l = length l.rest
