use Rattle.std.proofs.Common.{rules, ◌≡◌, ◌∙◌, length, None, true, ap, sym, subst}
use Rattle.std.proofs.lemmas.List.{length-replicate}
use Rattle.clause_check_spec.specs.Clause.{are_of}
use Rattle.clause_check.specs.Kept.{IsKept}
use Rattle.clause_check.proofs.Keeping.{kept_at_first}
use Rattle.clause_check.proofs.log.Log.new.Goals as goal

pub invariant_of-result : goal.invariant_of-result
invariant_of-result c =
    let variables : length c.in_ok-stamps.stamps ≡ c.args.cnf.variables =
    ap length c.in_ok-stamps.ensures ∙ length-replicate c.variables.result None ∙ c.variables.ensures
    in
    let count : c.len.result ≡ length c.into_clauses.result.clauses = search rules in
    let named : are_of c.args.cnf.variables c.into_clauses.result.clauses ≡ true =
    ap (are_of c.args.cnf.variables) c.into_clauses.ensures.clauses ∙ c.into_clauses.ensures.named
    in
    subst (λ n. IsKept n c.len.result c.into_clauses.result.clauses) (sym variables)
    (subst (λ k. IsKept c.args.cnf.variables k c.into_clauses.result.clauses) (sym count)
    (kept_at_first c.args.cnf.variables c.into_clauses.result.clauses named))
