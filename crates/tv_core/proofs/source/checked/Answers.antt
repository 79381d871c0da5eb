use Rattle.c_syntax.specs.Units.{unit_of as tree_of}
use Rattle.c_types.specs.Typed.{typed_of}
use Rattle.tv_core.proofs.Judging.{is_source}
use Rattle.tv_core.proofs.source.checked.Goals as goal

pub returns-in-Ok : goal.returns-in-Ok
returns-in-Ok c = λ text has defines. is_source text (tree_of c.args.tree.now) (typed_of c.in-Ok.unit) has defines c.in-Ok.ensures

pub returns-in-Err : goal.returns-in-Err
returns-in-Err c = λ text has defines. c.typing_fault.ensures text (tree_of c.args.tree.now) has defines c.in-Err.ensures
