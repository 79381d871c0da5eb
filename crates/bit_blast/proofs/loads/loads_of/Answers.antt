use Rattle.std.proofs.Common.{◌∙◌, ◌++◌, ap, arith, Option}
use Rattle.std.specs.Option.{option_to_list}
use Rattle.bit_blast.specs.declared.loads.LoadIndices.{LoadIndices}
use Rattle.bit_blast.proofs.Loading.{loaded_more}
use Rattle.bit_blast.proofs.loads.loads_of.Goals as goal

pub terms-preserved : goal.terms-preserved
terms-preserved c =
    loaded_more c.args.table.now c.terms.loads.items c.push_some.new.loads.items c.terms.index c.node-node.result c.is_distinct.ensures c.terms.invariant
    (omega arith) c.node-node.ensures.arguments c.node-node.ensures.tree
    (c.in-Ok-attempt.ensures ∙ ap (λ (load : Option LoadIndices). c.terms.loads.items ++ option_to_list load) c.load_of.ensures)
