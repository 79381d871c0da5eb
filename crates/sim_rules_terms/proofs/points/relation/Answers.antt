use Rattle.std.proofs.Common.{subst}
use Rattle.std.specs.HashMap.{get}
use Rattle.term_core_spec.specs.declared.Variable.{Variable}
use Rattle.term_bank.specs.Nodes.{Holds}
use Rattle.term_core_spec.specs.Same.{same_variable}
use Rattle.sim_rules_terms.proofs.TwoMaps.{point_map}
use Rattle.sim_rules_terms.proofs.Later.{map_later}
use Rattle.sim_rules_terms.proofs.points.relation.Goals as goal

pub returns-clause-tree : goal.returns-clause-tree
returns-clause-tree c = λ a s of_a of_s.
    let b0 = c.args.bank.now in
    let b1 = c.term_in.new.bank in
    let A = get same_variable c.args.binary.now in
    let C = get same_variable c.args.source.now in
    c.all_lines.ensures.tree _ (point_map A C b1 a s (map_later b0 b1 c.term_in.ensures.extends A a of_a) (map_later b0 b1 c.term_in.ensures.extends C s of_s) c.in_ok-zone.zone
    (subst (λ (v : Variable). Holds b1 c.in_ok-zone.zone (a v)) c.binary_memory.ensures (c.in_ok-zone.ensures.tree a of_a)))
