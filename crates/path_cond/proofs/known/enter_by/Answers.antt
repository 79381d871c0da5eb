use Rattle.std.proofs.Common.{◌∙◌, List, ℕ, length, map, sym, subst}
use Rattle.term_core_spec.specs.Term.{Term}
use Rattle.path_cond.specs.declared.ids.Ids.{Ids}
use Rattle.path_cond.specs.Known.{AreConditionals}
use Rattle.path_cond.specs.Merged.{AreIds}
use Rattle.path_cond.specs.United.{AreFull}
use Rattle.path_cond.proofs.Arriving.{source_of, arriving_ids, arriving_full, edges_conditionals}
use Rattle.path_cond.proofs.known.enter_by.Goals as goal

pub unite_all-requires-clause-conditions : goal.unite_all-requires-clause-conditions
unite_all-requires-clause-conditions c =
    let n = length c.args.bank.now in
    let count = length c.args.variables.now.keys in
    subst (AreIds n) (sym (c.as_slice.ensures.value ∙ c.in_ok-arrive.ensures.conditions))
    (arriving_ids n count c.args.known.now c.args.edges.now c.requires.arriving)

pub unite_all-requires-clause-states : goal.unite_all-requires-clause-states
unite_all-requires-clause-states c =
    let n = length c.args.bank.now in
    let count = length c.args.variables.now.keys in
    subst (λ (s : List ℕ). AreFull n count c.as_slice-3.result.now s) (sym (c.as_slice-2.ensures.value ∙ c.in_ok-arrive.ensures.sources))
    (subst (λ (states : List Ids). AreFull n count states (map source_of c.args.edges.now)) (sym c.as_slice-3.ensures.value)
    (arriving_full n count c.args.known.now c.args.edges.now c.requires.arriving))

pub returns-clause-entered : goal.returns-clause-entered
returns-clause-entered c = λ start f are.
    let V = c.args.variables.now.keys in
    let trees : List Term = c.args.bank.now in
    let edges = c.args.edges.now in
    let base = edges_conditionals trees V start c.args.known.now f edges are in
    let with_conditions = subst (λ (ids : List ℕ). AreConditionals trees V start ids c.args.known.now.after.items (map source_of edges) (map f edges))
    (sym (c.as_slice.ensures.value ∙ c.in_ok-arrive.ensures.conditions)) base in
    let with_sources = subst (λ (s : List ℕ). AreConditionals trees V start c.as_slice.result.now c.args.known.now.after.items s (map f edges))
    (sym (c.as_slice-2.ensures.value ∙ c.in_ok-arrive.ensures.sources)) with_conditions in
    c.unite_all.ensures.united start (map f edges)
    (subst (λ (states : List Ids). AreConditionals trees V start c.as_slice.result.now states c.as_slice-2.result.now (map f edges)) (sym c.as_slice-3.ensures.value) with_sources)
