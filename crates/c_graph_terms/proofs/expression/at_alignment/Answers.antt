use Rattle.c_graph_terms.proofs.Made.{terms_there}
use Rattle.c_graph_terms.proofs.Lists.{tested_one, value_tested}
use Rattle.c_graph_terms.proofs.expression.at_alignment.Goals as goal

pub returns-3 : goal.returns-3
returns-3 c =
    let test = c.in-Ok-attempt.ensures in
    value_tested c.args.bank.now c.alignment_test.new.bank c.args.tests.now.items c.keep.new.tests.items c.args.pointer _ _ (terms_there c.args.bank.now c.args.pointer c.requires)
    (tested_one c.args.bank.now c.alignment_test.new.bank c.args.tests.now.items c.keep.new.tests.items c.in-Ok-attempt.field-0 _ test c.in-Ok-attempt-2.ensures)
