use Rattle.std.proofs.Common.{rules, ◌≡◌, length, ap, sym, ◌∙◌}
use Rattle.std.specs.Prelude.{◌==◌}
use Rattle.cnf_core.proofs.Laid.{clause_count}
use Rattle.cnf_core.proofs.list.ClauseList.is_empty.Goals as goal

pub returns : goal.returns
returns c =
    let e : c.is_empty.result ≡ (length c.self.inside.ends.items == 0) = search rules in
    e ∙ ap (λ n. n == 0)
    (sym (ap (λ n. length n.clauses) (sym c.self.view_is) ∙ clause_count 0 c.self.inside.literals.items c.self.inside.ends.items))
