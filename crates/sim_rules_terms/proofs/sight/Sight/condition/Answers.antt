use Rattle.std.proofs.Common.{◌≡◌, ◌∙◌, ℕ, ◌<◌, List, length, sym, ap, subst}
use Rattle.std.specs.List.{All}
use Rattle.graph_core_spec.specs.declared.Mark.{Mark}
use Rattle.sim_rules_spec.specs.Sides.{members}
use Rattle.sim_rules_terms.specs.Which.{test_of}
use Rattle.sim_rules_terms.proofs.Members.{members_within}
use Rattle.term_substitution.specs.States.{IsAt}
use Rattle.sim_rules_terms.specs.Ways.{condition_by}
use Rattle.sim_rules_terms.proofs.sight.Sight.condition.Goals as goal

pub condition_at-requires-clause-members : goal.condition_at-requires-clause-members
condition_at-requires-clause-members c =
    let V = c.args.self.now.visits.now.visits in
    subst (λ (l : List ℕ). All (λ (m : ℕ). m < length V) l) (sym (c.as_slice.ensures.value ∙ c.in_ok-find_members.ensures)) (members_within (test_of c.args.self.now.stops.now c.args.which) V)

pub returns-clause-tree : goal.returns-clause-tree
returns-clause-tree c = λ w is.
    let V = c.args.self.now.visits.now.visits in
    let same : c.as_slice.result.now ≡ members (test_of w.walk.stops c.args.which) V =
    c.as_slice.ensures.value ∙ c.in_ok-find_members.ensures ∙ ap (λ (stops : List Mark). members (test_of stops c.args.which) V) is.stops in
    subst (λ (l : List ℕ). IsAt c.condition_at.new.bank c.condition_at.result (condition_by w V l)) same (c.condition_at.ensures.tree w is)
