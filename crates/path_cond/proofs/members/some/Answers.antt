use Rattle.std.proofs.Common.{◌≡◌, ◌∙◌, List, ℕ, ◌<◌, length, map, sym, ap, subst}
use Rattle.std.specs.List.{All}
use Rattle.term_core_spec.specs.Term.{Term}
use Rattle.path_cond_spec.specs.Conditions.{conditional_at, conditionals}
use Rattle.path_cond.specs.declared.ids.Ids.{Ids}
use Rattle.path_cond.specs.Known.{AreConditionals}
use Rattle.path_cond.specs.Merged.{AreIds}
use Rattle.path_cond.specs.Result.{conditions_at}
use Rattle.path_cond.specs.United.{AreFull}
use Rattle.path_cond.proofs.Positions.{member_ids, member_full, member_conditionals, positions_within, counted_within, counts_same}
use Rattle.path_cond.proofs.members.some.Goals as goal

pub find_conditions-requires-clause-members : goal.find_conditions-requires-clause-members
find_conditions-requires-clause-members c =
    let m = c.requires.members in
    let found = c.args.found.now in
    subst (λ (conditions : List ℕ). All (λ (i : ℕ). i < length conditions) c.args.members.now) (sym c.as_slice.ensures.value)
    (positions_within c.args.bank.now found.variables.keys m.start m.graph m.junctions found.known (conditionals m.graph m.junctions m.start) m.are.visits
    c.args.members.now (counted_within m.graph m.junctions m.start c.args.members.now m.within))

pub unite_all-requires-clause-conditions : goal.unite_all-requires-clause-conditions
unite_all-requires-clause-conditions c =
    let m = c.requires.members in
    let found = c.args.found.now in
    let members = c.args.members.now in
    let ids : c.as_slice-2.result.now ≡ conditions_at found.known.conditions.items members =
    c.as_slice-2.ensures.value ∙ c.in_ok-find_conditions.ensures ∙ ap (λ (l : List ℕ). conditions_at l members) c.as_slice.ensures.value in
    subst (AreIds (length c.args.bank.now)) (sym ids)
    (member_ids c.args.bank.now found.variables.keys m.start m.graph m.junctions found.known (conditionals m.graph m.junctions m.start) m.are.visits
    members (counted_within m.graph m.junctions m.start members m.within))

pub unite_all-requires-clause-states : goal.unite_all-requires-clause-states
unite_all-requires-clause-states c =
    let m = c.requires.members in
    let found = c.args.found.now in
    let members = c.args.members.now in
    subst (λ (states : List Ids). AreFull (length c.args.bank.now) (length found.variables.keys) states members) (sym c.as_slice-3.ensures.value)
    (member_full c.args.bank.now found.variables.keys m.start m.graph m.junctions found.known (conditionals m.graph m.junctions m.start) m.are.visits
    members (counted_within m.graph m.junctions m.start members m.within))

pub returns-clause-one : goal.returns-clause-one
returns-clause-one c = λ start graph junctions are.
    let V = c.args.found.now.variables.keys in
    let trees : List Term = c.args.bank.now in
    let known = c.args.found.now.known in
    let members = c.args.members.now in
    let m = c.requires.members in
    let within : All (λ (i : ℕ). i < length (conditionals graph junctions start)) members =
    counts_same trees V m.start m.graph m.junctions start graph junctions known m.are.visits are.visits members (counted_within m.graph m.junctions m.start members m.within) in
    let ids : c.as_slice-2.result.now ≡ conditions_at known.conditions.items members =
    c.as_slice-2.ensures.value ∙ c.in_ok-find_conditions.ensures ∙ ap (λ (l : List ℕ). conditions_at l members) c.as_slice.ensures.value in
    let f = conditional_at start (conditionals graph junctions start) in
    let base = member_conditionals trees V start graph junctions known (conditionals graph junctions start) are.visits members within in
    let with_conditions = subst (λ (l : List ℕ). AreConditionals trees V start l known.states.items members (map f members)) (sym ids) base in
    c.unite_all.ensures.united start (map f members)
    (subst (λ (states : List Ids). AreConditionals trees V start c.as_slice-2.result.now states members (map f members)) (sym c.as_slice-3.ensures.value) with_conditions)
