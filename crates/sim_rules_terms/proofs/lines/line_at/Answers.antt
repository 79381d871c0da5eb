use Rattle.std.proofs.Common.{subst}
use Rattle.term_core_spec.specs.Substitution.{State, substituted}
use Rattle.term_core.specs.Trees.{term_of}
use Rattle.term_bank.proofs.Growth.{length-Extends}
use Rattle.term_substitution.specs.States.{IsAt}
use Rattle.sim_rules_terms.proofs.Parts.{start_is}
use Rattle.sim_rules_terms.proofs.lines.line_at.Goals as goal

pub returns-clause-longer : goal.returns-clause-longer
returns-clause-longer g c = length-Extends c.args.bank.now c.substitute.new.bank c.substitute.ensures.extends

pub returns-clause-tree : goal.returns-clause-tree
returns-clause-tree g c = λ s is.
    subst (λ (u : State). IsAt c.substitute.new.bank c.substitute.result (substituted u (term_of c.args.line.now))) (start_is c.args.bank.now (g.L.Lookup.terms c.args.terms.now) s is) c.substitute.ensures.tree
