use Rattle.std.proofs.Common.{arith}
use Rattle.code_reach_tables.specs.Nodes.{trees_of}
use Rattle.code_reach_tables.proofs.Growth.{trees-long}
use Rattle.code_reach_tables.proofs.Tabled.{source-below, none-source, none-shifted, is-table, no-table}
use Rattle.code_reach_tables.proofs.tables.table.Goals as goal

pub parts_of-requires-clause-below : goal.parts_of-requires-clause-below
parts_of-requires-clause-below c = source-below c.args.straight.now.nodes.keys c.args.straight.now.source c.requires.0.source c.in_ok-source.source c.requires.1.source c.in_ok-source.was

pub returns-in_err-scaled : goal.returns-in_err-scaled
returns-in_err-scaled c = λ f is. none-source (trees_of c.args.straight.now.nodes.keys) c.args.straight.now.source f.source c.in_ok-source.source is.source c.in_ok-source.was
    c.from_residual-in_err-scaled.result c.from_residual-in_err-scaled.ensures c.in_err-scaled.ensures.parts

pub returns-in_err-index : goal.returns-in_err-index
returns-in_err-index c = λ f is. none-shifted (trees_of c.args.straight.now.nodes.keys) c.args.straight.now.source f.source c.in_ok-source.source is.source c.in_ok-source.was
    c.in_ok-scaled.scaled c.in_ok-scaled.first c.in_ok-scaled.ensures.parts c.from_residual-in_err-index.result c.from_residual-in_err-index.ensures c.in_err-index.ensures.shift

pub returns-then-amount-eq2 : goal.returns-then-amount-eq2
returns-then-amount-eq2 c = λ f is. is-table (trees_of c.args.straight.now.nodes.keys) c.args.straight.now.source f.source c.in_ok-source.source is.source c.in_ok-source.was
    c.in_ok-scaled.scaled c.in_ok-scaled.first c.in_ok-scaled.ensures.parts c.in_ok-index.index c.in_ok-index.amount
    (omega (arith, c.in_ok-index.ensures.below, trees-long c.args.straight.now.nodes.keys)) c.in_ok-index.ensures.shift c.if-amount-eq2.true

pub returns-else-amount-eq2 : goal.returns-else-amount-eq2
returns-else-amount-eq2 c = λ f is. no-table (trees_of c.args.straight.now.nodes.keys) c.args.straight.now.source f.source c.in_ok-source.source is.source c.in_ok-source.was
    c.in_ok-scaled.scaled c.in_ok-scaled.first c.in_ok-scaled.ensures.parts c.in_ok-index.index c.in_ok-index.amount c.in_ok-index.ensures.shift c.if-amount-eq2.false
