use Rattle.std.proofs.Common.{◌≡◌, ◌∙◌, ℕ, List, Option, sym, ap, refl, subst}
use Rattle.std.specs.Option.{option_map}
use Rattle.term_core_spec.specs.Term.{Term}
use Rattle.term_core.specs.Trees.{term_of}
use Rattle.term_core.specs.declared.term.Term.{Term as CodeTerm}
use Rattle.term_bank.specs.Nodes.{Holds}
use Rattle.term_bank.proofs.Substitution.{extends_through}
use Rattle.graph_core.specs.Graphs.{boxed_term}
use Rattle.sim_calls.specs.Returned.{HasResult, left_memory_by}
use Rattle.sim_calls.proofs.Exits.{exit_is, own_callee}
use Rattle.sim_calls.proofs.returned.returns.Goals as goal

pub returns_over-requires-clause-exit : goal.returns_over-requires-clause-exit
returns_over-requires-clause-exit c =
    let b0 : List Term = c.args.bank.now in
    let b1 : List Term = c.intern.new.bank in
    let b2 : List Term = c.left_result.new.bank in
    let k = c.requires.cut in
    let result = option_map boxed_term c.args.term.now in (
      k.convention,
      own_callee c.args.stack result,
      exit_is b0 b1 b2 (extends_through b0 b1 b2 c.intern.ensures.extends c.left_result.ensures.extends) c.left_result.ensures.extends k.convention (own_callee c.args.stack result) c.args.cut.now
          (term_of c.args.from.now) (term_of c.args.to.now) c.args.stack c.in_ok-binary_memory.binary_memory c.in_ok-returned.returned k.from_is k.to_is refl k.is_cut
          (subst (Holds b1 c.in_ok-binary_memory.binary_memory) (ap (λ (t : CodeTerm). term_of t) c.deref.ensures ∙ c.in_ok-over.ensures) c.in_ok-binary_memory.ensures.tree) c.in_ok-returned.ensures.held,
    )

pub returns-clause-tree : goal.returns-clause-tree
returns-clause-tree c = λ k callee is from to stack result.
    let b0 : List Term = c.args.bank.now in
    let b1 : List Term = c.intern.new.bank in
    let b2 : List Term = c.left_result.new.bank in
    c.returns_over.ensures.tree k callee
    (exit_is b0 b1 b2 (extends_through b0 b1 b2 c.intern.ensures.extends c.left_result.ensures.extends) c.left_result.ensures.extends k callee c.args.cut.now
    (term_of c.args.from.now) (term_of c.args.to.now) c.args.stack c.in_ok-binary_memory.binary_memory c.in_ok-returned.returned from to stack is
    (subst (Holds b1 c.in_ok-binary_memory.binary_memory) (ap (λ (t : CodeTerm). term_of t) c.deref.ensures ∙ c.in_ok-over.ensures) c.in_ok-binary_memory.ensures.tree)
    (subst (λ (t : Option Term). HasResult b2 t c.in_ok-returned.returned) (sym result) c.in_ok-returned.ensures.held))
