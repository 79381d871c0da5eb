use Rattle.std.proofs.Common.{rules, ◌≡◌, ◌+◌, ◌-◌, ◌<◌, ◌++◌, ◌∷◌, ◌∙◌, [], length, ap, sym, subst, arith}
use Rattle.std.proofs.lemmas.List.{length_push}
use Rattle.sat_search_spec.specs.Logs.{IsClosing}
use Rattle.sat_search_learning.proofs.Learnt.{closing_log}
use Rattle.sat_search_learning.proofs.Levels.{live_at}
use Rattle.sat_search_learning.proofs.search.settle.Goals as goal

pub returns-then-level-eq0 : goal.returns-then-level-eq0
returns-then-level-eq0 c =
    let log : c.push.new.self.items ≡ c.args.search.now.log.items ++ c.in_ok-step.step ∷ [] = search rules in (
      subst (λ l. IsClosing c.args.cnf.now l) (sym log)
          (closing_log c.args.cnf.now c.args.search.now.clauses.clauses c.args.search.now.log.items c.in_ok-step.step c.requires.searching.is_log c.in_ok-step.ensures),
      ap length log ∙ length_push c.args.search.now.log.items c.in_ok-step.step,
    )

pub analyse-requires-clause-live : goal.analyse-requires-clause-live
analyse-requires-clause-live c = λ start cut.
    let positive : 0 < c.args.search.now.trail.level = search rules in
    live_at c.args.search.now.clauses.clauses c.args.search.now.trail c.args.search.now.watches (c.args.search.now.trail.level - 1) start c.requires.searching.running cut
    (omega (arith, positive))
