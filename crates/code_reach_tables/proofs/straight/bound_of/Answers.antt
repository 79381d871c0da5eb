use Rattle.std.proofs.Common.{None, sym, subst}
use Rattle.code_reach_spec.specs.RunUp.{bound_of}
use Rattle.code_reach_tables.specs.Nodes.{trees_of, tree_at}
use Rattle.code_reach_tables.specs.Followed.{IsBoundOr}
use Rattle.code_reach_tables.proofs.Values.{register-tree, most-branch, less-branch, other-branch, no-branch}
use Rattle.code_reach_tables.proofs.straight.bound_of.Goals as goal

pub returns-in_default : goal.returns-in_default
returns-in_default c = λ x has. no-branch (trees_of c.args.nodes.now.keys) x c.args.address c.args.instruction.now c.in_default.not-Branch

pub returns-in-LessUnsigned : goal.returns-in-LessUnsigned
returns-in-LessUnsigned c = λ x has. subst (λ i. IsBoundOr (trees_of c.args.nodes.now.keys) c.at_most.result (bound_of x c.args.address i)) (sym c.in-Branch.is)
    (most-branch (trees_of c.args.nodes.now.keys) x c.args.address c.in-Branch.left c.in-Branch.right c.in-Branch.offset c.at_most.result c.in-Branch.test
    (tree_at (trees_of c.args.nodes.now.keys) c.register-a.result) (tree_at (trees_of c.args.nodes.now.keys) c.register-b.result) c.in-LessUnsigned.is
    (register-tree c.args.nodes.now.keys c.args.registers.now x has c.register-a.result c.in-Branch.left c.register-a.ensures.id c.register-a.ensures.below)
    (register-tree c.args.nodes.now.keys c.args.registers.now x has c.register-b.result c.in-Branch.right c.register-b.ensures.id c.register-b.ensures.below) c.at_most.ensures)

pub returns-in-GreaterOrEqualUnsigned : goal.returns-in-GreaterOrEqualUnsigned
returns-in-GreaterOrEqualUnsigned c = λ x has. subst (λ i. IsBoundOr (trees_of c.args.nodes.now.keys) c.less_than.result (bound_of x c.args.address i)) (sym c.in-Branch.is)
    (less-branch (trees_of c.args.nodes.now.keys) x c.args.address c.in-Branch.left c.in-Branch.right c.in-Branch.offset c.less_than.result c.in-Branch.test
    (tree_at (trees_of c.args.nodes.now.keys) c.register-a.result) (tree_at (trees_of c.args.nodes.now.keys) c.register-b.result) c.in-GreaterOrEqualUnsigned.is
    (register-tree c.args.nodes.now.keys c.args.registers.now x has c.register-a.result c.in-Branch.left c.register-a.ensures.id c.register-a.ensures.below)
    (register-tree c.args.nodes.now.keys c.args.registers.now x has c.register-b.result c.in-Branch.right c.register-b.ensures.id c.register-b.ensures.below) c.less_than.ensures)

pub returns-in_default-test : goal.returns-in_default-test
returns-in_default-test c = λ x has. subst (λ i. IsBoundOr (trees_of c.args.nodes.now.keys) None (bound_of x c.args.address i)) (sym c.in-Branch.is)
    (other-branch (trees_of c.args.nodes.now.keys) x c.args.address c.in-Branch.left c.in-Branch.right c.in-Branch.offset c.in-Branch.test
    c.in_default-test.not-LessUnsigned c.in_default-test.not-GreaterOrEqualUnsigned)
