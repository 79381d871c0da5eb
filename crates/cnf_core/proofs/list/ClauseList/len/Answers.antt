use Rattle.std.proofs.Common.{rules, ◌≡◌, length, ap, sym, ◌∙◌}
use Rattle.cnf_core.proofs.Laid.{clause_count}
use Rattle.cnf_core.proofs.list.ClauseList.len.Goals as goal

pub returns : goal.returns
returns c =
    let e : c.len.result ≡ length c.self.inside.ends.items = search rules in
    e ∙ sym (ap (λ n. length n.clauses) (sym c.self.view_is) ∙ clause_count 0 c.self.inside.literals.items c.self.inside.ends.items)
