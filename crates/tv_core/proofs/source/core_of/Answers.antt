use Rattle.c_syntax.specs.Units.{unit_of as tree_of}
use Rattle.tv_core.proofs.Judging.{has_tree}
use Rattle.tv_core.proofs.source.core_of.Goals as goal

pub returns-in-Ok : goal.returns-in-Ok
returns-in-Ok c =
    c.core_of_tree.ensures c.args.source.now c.requires (has_tree c.args.source.now c.args.lexed.now (tree_of c.in-Ok.tree) c.requires c.in-Ok.ensures.found)

pub returns-in-Err : goal.returns-in-Err
returns-in-Err c = c.syntax_fault.ensures c.requires c.in-Err.ensures.fault
