use Rattle.mem_terms_spec.proofs.Forms.{flat_plain}
use Rattle.mem_terms_spec.proofs.laws.flat_terms_have_no_memory.Goals as goal

pub returns-clause-sort : goal.returns-clause-sort
returns-clause-sort c t s all = (flat_plain t s all).truth_sort

pub returns-clause-memory : goal.returns-clause-memory
returns-clause-memory c t s all = (flat_plain t s all).without
