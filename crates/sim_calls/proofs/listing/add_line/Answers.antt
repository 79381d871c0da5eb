use Rattle.std.proofs.Common.{◌≡◌, List, subst}
use Rattle.term_core_spec.specs.declared.Variable.{Variable}
use Rattle.term_core.specs.Trees.{term_of}
use Rattle.term_bank.proofs.Substitution.{is_at}
use Rattle.sim_calls.specs.Listed.{Lists}
use Rattle.sim_calls.proofs.listing.add_line.Goals as goal

pub returns-clause-listed : goal.returns-clause-listed
returns-clause-listed c =
    subst (Lists c.add_bank.new.variables.keys) (is_at c.intern.new.bank c.in_ok-_id._id (term_of c.args.line.now) c.in_ok-_id.ensures.tree)
    (c.in_ok-add_bank.ensures.listed c.in_ok-_id._id c.in_ok-_id.ensures.within)
