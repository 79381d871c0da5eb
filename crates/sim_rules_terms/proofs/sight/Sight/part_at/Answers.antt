use Rattle.std.proofs.Common.{refl}
use Rattle.std.specs.HashMap.{get}
use Rattle.term_core_spec.specs.Same.{same_variable}
use Rattle.path_cond_spec.specs.Junctions.{junctions}
use Rattle.path_cond.specs.Ids.{id_at}
use Rattle.sim_rules_terms.specs.Ways.{conditional_by}
use Rattle.sim_rules_terms.proofs.Later.{itself, map_later}
use Rattle.sim_rules_terms.proofs.Parts.{are_members, numbered, of_start}
use Rattle.sim_rules_terms.proofs.sight.Sight.part_at.Goals as goal

pub several-requires : goal.several-requires
several-requires c = record { members = are_members c.args.bank.now c.requires.sight.0 c.args.self.now c.args.members.now c.requires.sight.1 c.requires.members }

pub state_map-requires : goal.state_map-requires
state_map-requires c =
    let w = c.requires.sight.0 in
    let V = c.args.self.now.visits.now.visits in
    let one = c.in_ok-condition.ensures.one w.start w.graph (junctions w.walk V) c.requires.sight.1.conditions in
    numbered c.several.new.bank c.args.self.now.found.now.variables.keys w.start (id_at c.in_ok-condition.ids) _ one.state

pub returns-clause-part : goal.returns-clause-part
returns-clause-part c = λ w is.
    let b0 = c.args.bank.now in
    let b1 = c.several.new.bank in
    let V = c.args.self.now.visits.now.visits in
    let keys = c.args.self.now.found.now.variables.keys in
    let ids = get same_variable c.args.self.now.terms.now in
    let one = c.in_ok-condition.ensures.one w.start w.graph (junctions w.walk V) is.conditions in
    let map = map_later b0 b1 c.several.ensures.extends ids w.start is.terms in
    let state = (conditional_by w V c.args.members.now).state in
    record {
      some = refl;
      condition = one.condition;
      terms = c.in_ok-terms.ensures b1 b1 state (itself b1) map.below (of_start b1 keys ids w.start (id_at c.in_ok-condition.ids) state map one.state);
    }
