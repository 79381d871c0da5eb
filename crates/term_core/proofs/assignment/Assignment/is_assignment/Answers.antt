use Rattle.std.specs.HashMap.{get}
use Rattle.term_core_spec.specs.Same.{same_variable}
use Rattle.term_core.proofs.Listed.{given_or_default-sort}
use Rattle.term_core.proofs.assignment.Assignment.is_assignment.Goals as goal

pub returns : goal.returns
returns c = λ v. given_or_default-sort v.sort (get same_variable c.args.self.now.values v)
