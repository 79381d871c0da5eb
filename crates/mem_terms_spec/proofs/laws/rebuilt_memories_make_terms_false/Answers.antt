use Rattle.mem_terms_spec.specs.Flat.{flat_loads}
use Rattle.mem_terms_spec.proofs.Validity.{rebuilt_assigns, term_false}
use Rattle.mem_terms_spec.proofs.laws.rebuilt_memories_make_terms_false.Goals as goal

pub returns-clause-assignment : goal.returns-clause-assignment
returns-clause-assignment c t s all = rebuilt_assigns (flat_loads t)

pub returns-clause-value : goal.returns-clause-value
returns-clause-value c = term_false
