use Rattle.std.proofs.Common.{◌<◌, length, get_or, arith}
use Rattle.c_graph_terms.proofs.Banks.{within_later}
use Rattle.c_graph_terms.proofs.Growing.{within_at}
use Rattle.c_graph_terms.proofs.Excused.{one_excused}
use Rattle.c_graph_terms.proofs.expression.add_excused.Goals as goal

pub build-requires-clause-given : goal.build-requires-clause-given
build-requires-clause-given c =
    let grown = c.loop-test.invariant.is_grown in
    let own = c.args.own.now in
    let below : c.loop-test.test-index < length own = omega arith in (
      within_later c.args.bank.now c.loop-test.bank c.args.excuse grown c.requires.excuse_within,
      (within_later c.args.bank.now c.loop-test.bank (get_or own c.loop-test.test-index 0) grown (within_at (length c.args.bank.now) own c.loop-test.test-index c.requires.own_within below), tt),
    )

pub loop-test-preserved : goal.loop-test-preserved
loop-test-preserved c =
    let own = c.args.own.now in
    let below : c.loop-test.test-index < length own = omega arith in
    one_excused c.args.bank.now c.loop-test.bank c.build.new.bank c.args.tests.now.items c.loop-test.tests.items c.keep.new.tests.items c.args.excuse c.in-Ok-attempt.field-0 c.loop-test.test-index own
    below c.requires.excuse_within c.requires.own_within c.loop-test.invariant c.in-Ok-attempt.ensures c.in-Ok-attempt-2.ensures
