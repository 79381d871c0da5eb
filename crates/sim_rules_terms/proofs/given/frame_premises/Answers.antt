use Rattle.std.proofs.Common.{◌≡◌, ◌<◌, ℕ, Some, None}
use Rattle.std.specs.HashMap.{get}
use Rattle.term_core_spec.specs.Same.{same_variable}
use Rattle.term_core_spec.specs.Term.{truth}
use Rattle.sim_rules_terms.proofs.TwoMaps.{both_below, start_map}
use Rattle.sim_rules_terms.proofs.Later.{below_later, map_later}
use Rattle.sim_rules_terms.proofs.given.frame_premises.Goals as goal

pub returns-clause-tree : goal.returns-clause-tree
returns-clause-tree c = λ o is.
    let b0 = c.args.bank.now in
    let b1 = c.truth.new.bank in
    let A = get same_variable c.args.opening.binary.now in
    let C = get same_variable c.args.opening.source.now in
    c.and_premises.ensures.tree _ _ c.in_ok-always.ensures.tree
    (start_map A C b1 o.binary o.source (map_later b0 b1 c.truth.ensures.extends A o.binary is.of_binary) (map_later b0 b1 c.truth.ensures.extends C o.source is.of_source))
