use Rattle.std.proofs.Common.{◌≡◌, ap, rules}
use Rattle.std.proofs.lemmas.Result.{IfOk-weaker}
use Rattle.term_core_spec.specs.Term.{equal, Leaf}
use Rattle.c_graph_spec.specs.State.{value_constant}
use Rattle.term_bank.specs.Nodes.{tree_at}
use Rattle.c_graph_terms.proofs.Banks.{built_as}
use Rattle.c_graph.proofs.selection.compare_one.Goals as goal

pub returns-2 : goal.returns-2
returns-2 c =
    let same : Leaf c.in-Ok-attempt.field-0 ≡ value_constant c.args.of c.args.value = search rules in
    IfOk-weaker c.build.result _ _ (λ id h. built_as c.args.bank.now c.build.new.bank id _ _ (ap (equal (tree_at c.args.bank.now c.args.word)) same) h) c.build.ensures
