use Rattle.std.proofs.Common.{rules, ◌≡◌, ◌∷◌, [], sym, subst}
use Rattle.sat_search_spec.specs.Logs.{IsClosing}
use Rattle.sat_search_learning.proofs.Loaded.{refuted_log}
use Rattle.sat_search.proofs.solution.refuted.Goals as goal

pub closed-requires-clause-closing : goal.closed-requires-clause-closing
closed-requires-clause-closing c =
    let log : c.as_slice.result.now ≡ c.in_ok-step.step ∷ [] = search rules in
    subst (λ l. IsClosing c.args.cnf.now l) (sym log)
    (refuted_log c.args.cnf.now c.args.search.now.clauses.clauses c.requires.refuted.more c.in_ok-step.step c.requires.refuted.front c.in_ok-step.ensures)
