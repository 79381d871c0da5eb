use Rattle.std.proofs.lemmas.Result.{on_ok_weaker}
use Rattle.term_core_spec.specs.Term as tree
use Rattle.c_graph.proofs.Added.{built_bound}
use Rattle.c_graph.proofs.bindings.bind_atom.Goals as goal

pub returns-2 : goal.returns-2
returns-2 c =
    on_ok_weaker c.bind.result
    (built_bound c.args.bank.now c.leaf.new.bank c.args.bindings.now.items c.bind.new.bindings.items c.args.variable c.in-Ok-attempt.field-0 (tree.Leaf c.args.atom) c.in-Ok-attempt.ensures)
    (c.bind.ensures c.leaf.new.bank c.in-Ok-attempt.ensures.within)
