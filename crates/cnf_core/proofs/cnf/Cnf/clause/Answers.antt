use Rattle.std.proofs.Common.{◌≡◌, true, ap, subst}
use Rattle.std.specs.Prelude.{IfSome}
use Rattle.std.specs.List.{list_all}
use Rattle.clause_check_spec.specs.Clause.{is_of}
use Rattle.cnf_core.proofs.Named.{named_if}
use Rattle.cnf_core.proofs.cnf.Cnf.clause.Goals as goal

pub returns-clause-named : goal.returns-clause-named
returns-clause-named c =
    subst (λ v. IfSome c.get.result (λ clause. list_all (is_of v) clause.now ≡ true)) (ap (λ n. n.variables) c.self.view_is)
    (named_if (λ clause. clause.now) c.self.inside.variables c.self.inside.clauses.clauses c.args.index c.get.result c.self.invariant c.get.ensures)
