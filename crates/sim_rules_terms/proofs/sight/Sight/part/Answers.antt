use Rattle.std.proofs.Common.{◌≡◌, ◌∙◌, ℕ, ◌<◌, List, length, sym, ap, subst}
use Rattle.std.specs.List.{All}
use Rattle.graph_core_spec.specs.declared.Mark.{Mark}
use Rattle.sim_rules_spec.specs.Sides.{members}
use Rattle.sim_rules_terms.specs.Which.{test_of}
use Rattle.sim_rules_terms.proofs.Members.{members_within}
use Rattle.std.proofs.lemmas.Result.{IfOk-weaker}
use Rattle.sim_rules_terms.proofs.Parts.{is_part}
use Rattle.sim_rules_terms.proofs.sight.Sight.part.Goals as goal

pub part_at-requires-clause-members : goal.part_at-requires-clause-members
part_at-requires-clause-members c =
    let V = c.args.self.now.visits.now.visits in
    subst (λ (l : List ℕ). All (λ (m : ℕ). m < length V) l) (sym (c.as_slice.ensures.value ∙ c.in_ok-find_members.ensures)) (members_within (test_of c.args.self.now.stops.now c.args.which) V)

pub returns-clause-part : goal.returns-clause-part
returns-clause-part c = λ w is.
    let V = c.args.self.now.visits.now.visits in
    let same : c.as_slice.result.now ≡ members (test_of w.walk.stops c.args.which) V =
    c.as_slice.ensures.value ∙ c.in_ok-find_members.ensures ∙ ap (λ (stops : List Mark). members (test_of stops c.args.which) V) is.stops in
    IfOk-weaker c.part_at.result _ _ (λ p of. is_part c.part_at.new.bank w V (test_of w.walk.stops c.args.which) c.as_slice.result.now p same of) (c.part_at.ensures.part w is)
