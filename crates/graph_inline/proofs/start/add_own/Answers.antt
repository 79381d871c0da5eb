use Rattle.std.proofs.Common.{◌≡◌, ◌∙◌, ℕ, ◌+◌, List, [], ◌∷◌, ◌++◌, None, map, take, get_or, sym, ap, subst, append_assoc}
use Rattle.std.proofs.lemmas.List.{take_more, take_all, map-append}
use Rattle.term_core_spec.specs.declared.Family.TheVariants.{Register}
use Rattle.term_core_spec.specs.declared.Sort.TheVariants.{Truth}
use Rattle.term_core_spec.specs.declared.Variable.{Variable}
use Rattle.term_core_spec.specs.Term.{Term}
use Rattle.graph_core_spec.specs.Graph.{Binding}
use Rattle.graph_core.specs.declared.shared.SharedBinding.{SharedBinding}
use Rattle.graph_core.specs.Graphs.{AreShared}
use Rattle.graph_core.specs.Shared.{shared_binding_of}
use Rattle.graph_core.proofs.Growing.{grows_then, shared_push}
use Rattle.graph_inline_spec.specs.Inlined.{start_binding, start_term}
use Rattle.graph_inline_spec.specs.Naming.{inlined_variable}
use Rattle.graph_inline.proofs.Moving.{bindings_later}
use Rattle.graph_inline.proofs.start.add_own.Goals as goal

nothing : Variable
nothing = record { family = Register; index = 0; instance = 0; sort = Truth }

pub loop-variable-preserved : goal.loop-variable-preserved
unfolding nothing
loop-variable-preserved c = record {
  found = λ from before taken shared.
      let old : List Term = c.loop-variable.graph.trees in
      let new : List Term = c.start_term.new.graph.trees in
      let i : ℕ = c.loop-variable.variable-index in
      let own : List Variable = c.args.own.now in
      let v : Variable = get_or own i nothing in
      let inputs : List Binding = map (shared_binding_of from) c.args.inputs.now in
      let f = start_binding c.args.instance inputs in
      let so_far = c.loop-variable.invariant.found from before taken shared in
      let there = bindings_later None from c.args.graph.now.trees old c.loop-variable.invariant.grows.extends c.args.table.now c.args.inputs.now taken in
      let pushed = shared_push old new c.start_term.ensures.grows.extends (before ++ map f (take i own)) c.loop-variable.found.items (inlined_variable c.args.instance v) c.in_ok-term.term (start_term inputs v)
      so_far (c.in_ok-term.ensures.id from there) in
      let names : (before ++ map f (take i own)) ++ f v ∷ [] ≡ before ++ map f (take (i + 1) own) =
      append_assoc before (map f (take i own)) (f v ∷ [])
      ∙ ap (λ (l : List Binding). before ++ l) (sym (ap (map f) (take_more own i nothing c.loop-variable-test.true) ∙ map-append f (take i own) (v ∷ []))) in
      let items : c.push.new.self.items ≡ c.loop-variable.found.items ++ record { variable = inlined_variable c.args.instance v; term = c.in_ok-term.term } ∷ [] =
      c.in_ok-push.ensures.items ∙ ap (λ (w : Variable). c.loop-variable.found.items ++ record { variable = w; term = c.in_ok-term.term } ∷ []) c.name.ensures in
      subst (λ (l : List Binding). AreShared new l c.push.new.self.items) names
      (subst (λ (l : List SharedBinding). AreShared new ((before ++ map f (take i own)) ++ f v ∷ []) l) (sym items) pushed);
  grows = grows_then c.args.graph.now c.loop-variable.graph c.start_term.new.graph c.loop-variable.invariant.grows c.start_term.ensures.grows;
}

pub returns-clause-found : goal.returns-clause-found
returns-clause-found c = λ from before taken shared.
    subst
    (λ (l : List Variable). AreShared c.loop-variable.graph.trees (before ++ map (start_binding c.args.instance (map (shared_binding_of from) c.args.inputs.now)) l) c.loop-variable.found.items)
    (take_all c.loop-variable.variable-index c.args.own.now c.loop-variable-test.false) (c.loop-variable.invariant.found from before taken shared)
