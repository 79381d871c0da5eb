use Rattle.std.proofs.lemmas.Result.{IfOk-weaker}
use Rattle.term_bank.specs.Nodes.{tree_at}
use Rattle.mem_terms.proofs.Plain.{flat_sort, flat_memory, flat_valid}
use Rattle.mem_terms.proofs.flattening.flat.Goals as goal

pub returns-clause-sort : goal.returns-clause-sort
returns-clause-sort c = IfOk-weaker c.flat_of.result _ _ (λ flat is. flat_sort c.flat_of.new.bank flat (tree_at c.args.bank.now c.args.goal) is) c.flat_of.ensures.flat

pub returns-clause-memory : goal.returns-clause-memory
returns-clause-memory c = IfOk-weaker c.flat_of.result _ _ (λ flat is. flat_memory c.flat_of.new.bank flat (tree_at c.args.bank.now c.args.goal) is) c.flat_of.ensures.flat

pub returns-clause-valid : goal.returns-clause-valid
returns-clause-valid c = IfOk-weaker c.flat_of.result _ _ (λ flat is. flat_valid c.flat_of.new.bank flat (tree_at c.args.bank.now c.args.goal) is) c.flat_of.ensures.flat
