use Rattle.std.proofs.Common.{◌∙◌, sym}
use Rattle.std.specs.Prelude.{◌≤◌}
use Rattle.std.proofs.Common.{subst}
use Rattle.tv_limits.specs.declared.TheConstants.{MAX_VARIABLES}
use Rattle.clause_check_spec.specs.Clause.{Cnf}
use Rattle.term_bank.specs.Nodes.{tree_at}
use Rattle.discharge.proofs.seeking.seek_form.Goals as goal

pub returns-in-Ok-solve_counting : goal.returns-in-Ok-solve_counting
returns-in-Ok-solve_counting c = λ sorted loads.
    c.outcome.ensures (tree_at c.args.bank.now c.args.form) c.args.limit sorted loads c.in-Ok.ensures.terms c.in-Ok.ensures.clauses
    (subst (λ (x : Cnf). x.variables ≤ MAX_VARIABLES) c.in-Ok.ensures.clauses c.in-Ok.ensures.within) (sym c.is_truth.ensures ∙ c.if-is_truth.false) c.in-Ok-solve_counting.ensures
