use Rattle.std.proofs.Common.{sym, subst, take_all}
use Rattle.sat_search_spec.specs.Clauses.{Has}
use Rattle.sat_search_learning.proofs.loading.other_literal.Goals as goal

pub returns-clause-nowhere : goal.returns-clause-nowhere
returns-clause-nowhere c = λ l h.
    c.loop-literal.invariant l (subst (λ clause. Has clause l) (sym (take_all c.loop-literal.literal-index c.args.clause.now c.loop-literal-test.false)) h)
