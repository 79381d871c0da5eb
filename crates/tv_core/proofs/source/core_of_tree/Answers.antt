use Rattle.std.proofs.Common.{sym}
use Rattle.c_syntax.specs.Units.{unit_of as tree_of}
use Rattle.tv_core_spec.specs.Source.{hidden_definition}
use Rattle.tv_core.proofs.Judging.{defines_in, defines_nothing}
use Rattle.tv_core.proofs.source.core_of_tree.Goals as goal

pub returns-in-Some : goal.returns-in-Some
returns-in-Some c = λ text lexes has.
    hidden_definition (tree_of c.args.tree.now) c.in-Some.offset has (defines_in text c.args.lexed.now c.in-Some.offset lexes (sym c.in-Some.ensures))

pub returns-in-None : goal.returns-in-None
returns-in-None c = λ text lexes has. c.checked.ensures text has (defines_nothing text c.args.lexed.now lexes (sym c.in-None.ensures))
