use Rattle.std.proofs.lemmas.Result.{on_ok_weaker}
use Rattle.term_bank.specs.Nodes.{tree_at}
use Rattle.c_graph.proofs.Added.{local_bound}
use Rattle.c_graph.proofs.bindings.bind_local.Goals as goal

pub returns-2 : goal.returns-2
returns-2 c =
    on_ok_weaker c.bind_atom.result
    (local_bound c.args.bank.now c.bind_atom.new.bank c.args.bindings.now.items c.bind.new.bindings.items c.bind_atom.new.bindings.items c.local.result c.is_set.result c.args.number c.args.of (tree_at c.args.bank.now c.args.term)
    c.local.ensures c.is_set.ensures (c.in-Ok-attempt.ensures c.args.bank.now c.requires))
    c.bind_atom.ensures
