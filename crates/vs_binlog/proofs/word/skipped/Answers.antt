use Rattle.std.proofs.Common.{◌≡◌, true, false, arith}
use Rattle.vs_binlog.specs.Words.{closes_comment, opens_comment}
use Rattle.vs_binlog.proofs.WordLemmas.{behind-closed, closes-length, behind-inside, behind-blank, behind-opened, opens-length}
use Rattle.vs_binlog.proofs.word.skipped.Goals as goal

pub returns-then-ends_comment : goal.returns-then-ends_comment
returns-then-ends_comment c =
    let e : closes_comment c.args.text.now ≡ true = cc in
    rw c.if-inside.true (behind-closed c.args.text.now e, omega arith, closes-length c.args.text.now e)

pub returns-then-inside : goal.returns-then-inside
returns-then-inside c =
    let e : closes_comment c.args.text.now ≡ false = cc in
    rw c.if-inside.true (behind-inside c.args.text.now e, omega arith, omega arith)

pub returns-then-is_blank_byte : goal.returns-then-is_blank_byte
returns-then-is_blank_byte c = rw c.if-inside.false (behind-blank c.args.text.now c.requires (cc), omega arith, omega arith)

pub returns-then-begins_comment : goal.returns-then-begins_comment
returns-then-begins_comment c =
    let e : opens_comment c.args.text.now ≡ true = cc in
    rw c.if-inside.false (behind-opened c.args.text.now (cc) e, omega arith, opens-length c.args.text.now e)
