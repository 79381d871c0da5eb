use Rattle.std.proofs.Common.{◌≡◌, ◌∙◌, ℕ, ◌<◌, ◌++◌, ◌∷◌, [], Option, List, length, map, ap, subst}
use Rattle.std.specs.HashMap.{get}
use Rattle.std.proofs.lemmas.Option.{slice_get_within}
use Rattle.term_core_spec.specs.declared.Variable.{Variable}
use Rattle.term_core_spec.specs.Same.{same_variable}
use Rattle.term_core_spec.specs.Substitution.{State, substituted}
use Rattle.term_core_spec.specs.Term.{Term}
use Rattle.term_core.specs.Trees.{term_of}
use Rattle.term_bank.specs.Nodes.{Holds}
use Rattle.term_bank.proofs.Substitution.{kept, extends_through}
use Rattle.term_substitution.specs.States.{IsAt, state_of}
use Rattle.graph_core_spec.specs.Graph.{Binding}
use Rattle.graph_core.specs.Shared.{shared_binding_of}
use Rattle.path_cond_spec.specs.Conditions.{assigned}
use Rattle.proof_tree.specs.Frames.{terms_of}
use Rattle.sim_rules_spec.specs.Calls.{left}
use Rattle.sim_rules_spec.specs.Rules.{all_of, at_cut}
use Rattle.sim_rules_terms.proofs.Later.{below_later}
use Rattle.sim_calls.specs.Bound.{AreBound}
use Rattle.sim_calls.specs.Returned.{returns_by}
use Rattle.sim_calls.specs.Sites.{outputs_of}
use Rattle.sim_calls.proofs.Banks.{bound_later, cut_later, left_later, own_map, result_later}
use Rattle.sim_calls.proofs.Listings.{binding_listed}
use Rattle.sim_calls.proofs.Occurring.{assigned_same, lines_same}
use Rattle.sim_calls.proofs.Returns.{left_below, left_is, result_below, returned_below, returned_is}
use Rattle.sim_calls.proofs.returned.returns_over.Goals as goal

pub bound_terms-requires-clause-state : goal.bound_terms-requires-clause-state
bound_terms-requires-clause-state c = left_below c.left_terms.new.bank c.args.variables.now.keys (get same_variable c.in_ok-left.left) c.in_ok-left.ensures.left

pub all_lines-requires : goal.all_lines-requires
all_lines-requires c =
    let b0 : List Term = c.args.bank.now in
    let b1 : List Term = c.left_terms.new.bank in
    let b2 : List Term = c.bound_terms.new.bank in
    let e = extends_through b0 b1 b2 c.left_terms.ensures.extends c.bound_terms.ensures.extends in
    let k = c.requires.exit.0 in
    let callee = c.requires.exit.1 in
    let exit = c.requires.exit.2 in
    let is = cut_later b0 b2 e k c.args.cut.now exit.is_cut in
    returned_below (length b2) c.args.binary_memory c.args.returned (get same_variable c.in_ok-left.left) (get same_variable c.in_ok-bound.bound)
    (get same_variable c.args.cut.now.binary) (get same_variable c.args.cut.now.source) (slice_get_within b2 c.args.binary_memory _ (kept b0 b2 c.args.binary_memory _ e exit.memory_is))
    (result_below b2 callee.result c.args.returned (result_later b0 b2 e callee.result c.args.returned exit.result_is))
    (below_later b1 b2 c.bound_terms.ensures.extends (get same_variable c.in_ok-left.left)
    (left_below b1 c.args.variables.now.keys (get same_variable c.in_ok-left.left) c.in_ok-left.ensures.left))
    c.in_ok-bound.ensures.bound.below is.of_binary.below is.of_source.below

pub returns-clause-tree : goal.returns-clause-tree
returns-clause-tree c = λ k callee exit.
    let b0 : List Term = c.args.bank.now in
    let b1 : List Term = c.left_terms.new.bank in
    let b2 : List Term = c.bound_terms.new.bank in
    let e2 = c.bound_terms.ensures.extends in
    let e = extends_through b0 b1 b2 c.left_terms.ensures.extends e2 in
    let V : List Variable = c.args.variables.now.keys in
    let lefts : Variable → Option ℕ = get same_variable c.in_ok-left.left in
    let outputs : List Binding = outputs_of c.args.source.now in
    let is = cut_later b0 b2 e k c.args.cut.now exit.is_cut in
    let trees : List Term = c.args.source.now.graph.now.trees in
    let ids : Variable → Option ℕ = get same_variable c.in_ok-bound.bound in
    let shared = subst (λ (ts : List Term). AreBound b2 (map (shared_binding_of ts) c.args.source.now.outputs.now) (state_of b1 lefts) ids) c.bank.ensures c.in_ok-bound.ensures.bound in
    let same : (rest : State) (v : Variable) → assigned outputs (state_of b1 lefts) rest v ≡ assigned outputs left rest v = λ rest v. assigned_same (state_of b1 lefts) left outputs rest v
    (λ i b there w o. left_is b1 V lefts c.in_ok-left.ensures.left w (binding_listed trees V c.requires.listed.of_bank c.args.source.now.outputs.now c.requires.source i b there w o)) in
    let bound : AreBound b2 outputs left ids = record { given = λ rest v. shared.given rest v ∙ same rest v; below = shared.below } in
    let agrees = returned_is b2 V k callee outputs c.args.binary_memory c.args.returned lefts ids (get same_variable c.args.cut.now.binary) (get same_variable c.args.cut.now.source) (kept b0 b2 c.args.binary_memory _ e exit.memory_is) (result_later b0 b2 e callee.result c.args.returned exit.result_is)
    (left_later b1 b2 e2 V lefts c.in_ok-left.ensures.left) bound is.of_binary is.of_source in
    let below = returned_below (length b2) c.args.binary_memory c.args.returned lefts ids (get same_variable c.args.cut.now.binary) (get same_variable c.args.cut.now.source)
    (slice_get_within b2 c.args.binary_memory _ (kept b0 b2 c.args.binary_memory _ e exit.memory_is))
    (result_below b2 callee.result c.args.returned (result_later b0 b2 e callee.result c.args.returned exit.result_is))
    (below_later b1 b2 e2 lefts (left_below b1 V lefts c.in_ok-left.ensures.left)) bound.below is.of_binary.below is.of_source.below in
    let all = c.all_lines.ensures.tree _ (own_map b2 _ below) in
    subst (IsAt c.all_lines.new.bank c.all_lines.result)
    (ap all_of (lines_same _ (returns_by k callee outputs) V agrees (terms_of c.args.lines.now) (term_of c.args.memory.now) c.requires.listed.of_lines c.requires.listed.of_last)) all
