use Rattle.vs_select.proofs.BindLemmas.{found_in_tests}
use Rattle.vs_select.proofs.bind.unknown_name.Goals as goal

pub returns-in-Some-unknown_test : goal.returns-in-Some-unknown_test
returns-in-Some-unknown_test c = found_in_tests c.args.columns.now c.args.select.now c.as_slice.result.now c.in-Some-unknown_test.test.now c.in_default.ensures c.as_slice.ensures c.in-Some-unknown_test.ensures
