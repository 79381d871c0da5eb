use Rattle.std.proofs.Common.{◌∙◌, map}
use Rattle.clause_check_spec.specs.Log.{Step}
use Rattle.sat_search_learning.proofs.Values.{all_satisfied}
use Rattle.sat_search_learning.proofs.Levels.{live_now}
use Rattle.sat_search.proofs.solution.satisfied.Goals as goal

pub returns : goal.returns
returns c =
    let searching = c.requires.searching in
    let read = c.in_ok-bits.ensures in (
      read.count ∙ searching.variables,
      all_satisfied c.args.search.now.clauses.clauses c.args.cnf.now.clauses (map (λ (s : Step). s.literals) c.args.search.now.log.items) c.args.search.now.trail c.in_ok-bits.bits.items
          searching.is_log.clauses_are searching.running.sound.is_trail read c.requires.values searching.running.sound.of_variables
          (live_now c.args.search.now.clauses.clauses c.args.search.now.trail c.args.search.now.watches searching.running c.requires.propagated),
    )
