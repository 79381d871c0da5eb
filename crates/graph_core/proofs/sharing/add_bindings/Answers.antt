use Rattle.std.proofs.Common.{◌≡◌, ◌∙◌, ℕ, ◌+◌, List, [], ◌∷◌, ◌++◌, map, take, get_or, sym, ap, subst}
use Rattle.std.proofs.lemmas.List.{take_more, map-append}
use Rattle.term_core.specs.Trees.{term_of}
use Rattle.term_bank.specs.Nodes.{Holds}
use Rattle.term_bank.proofs.Substitution.{extends_through}
use Rattle.graph_core_spec.specs.Graph as spec
use Rattle.graph_core.specs.declared.graph.Binding.{Binding}
use Rattle.graph_core.specs.declared.shared.SharedBinding.{SharedBinding}
use Rattle.graph_core.specs.Graphs.{binding_of, AreShared}
use Rattle.graph_core.proofs.Growing.{shared_push}
use Rattle.graph_core.proofs.sharing.add_bindings.Goals as goal

pub loop-binding-preserved : goal.loop-binding-preserved
loop-binding-preserved c =
    let bs : List Binding = c.args.bindings.now in
    let i : ℕ = c.loop-binding.binding-index in
    let b : Binding = c.binding-item.result in
    let before : List spec.Binding = map binding_of (take i bs) in
    let next : map binding_of (take (i + 1) bs) ≡ before ++ binding_of b ∷ [] =
    ap (map binding_of) (take_more bs i b c.loop-binding-test.true) ∙ map-append binding_of (take i bs) (get_or bs i b ∷ []) ∙ ap (λ (x : Binding). before ++ binding_of x ∷ []) (sym c.binding-item.is) in
    let here : Holds c.intern.new.bank c.in_ok-term.term (binding_of b).term =
    subst (λ t. Holds c.intern.new.bank c.in_ok-term.term (term_of t)) c.deref.ensures c.in_ok-term.ensures.tree in
    record {
      extends = extends_through c.args.bank.now c.loop-binding.bank c.intern.new.bank c.loop-binding.invariant.extends c.intern.ensures.extends;
      shared = subst (λ (xs : List spec.Binding). AreShared c.intern.new.bank xs c.push.new.self.items) (sym next)
          (subst (λ (xs : List SharedBinding). AreShared c.intern.new.bank (before ++ binding_of b ∷ []) xs) (sym c.in_ok-push.ensures.items)
          (shared_push c.loop-binding.bank c.intern.new.bank c.intern.ensures.extends before c.loop-binding.shared.items b.variable c.in_ok-term.term (binding_of b).term c.loop-binding.invariant.shared here));
    }
