use Rattle.std.proofs.Common.{List}
use Rattle.std.proofs.lemmas.Result.{IfOk-weaker, on_ok_weaker}
use Rattle.term_core_spec.specs.Term.{Term}
use Rattle.term_core_spec.specs.Substitution.{substituted}
use Rattle.term_bank.specs.Nodes.{Holds}
use Rattle.graph_core.specs.Shared.{shared_binding_of}
use Rattle.path_cond_spec.specs.Conditions.{assigned}
use Rattle.path_cond.specs.Ids.{id_at}
use Rattle.path_cond.proofs.Changed.{state_later, assigned_more}
use Rattle.path_cond.proofs.states.assign_one.Goals as goal

pub returns-clause-state : goal.returns-clause-state
returns-clause-state c = λ start state rest holds current taken.
    let b0 : List Term = c.args.bank.now in
    let b1 : List Term = c.transfer.new.bank in
    let here : Holds b1 c.in_ok-id.id (substituted state (shared_binding_of c.args.from.now c.args.binding).term) = c.in_ok-id.ensures.tree state current taken in
    let later = state_later c.args.variables.now.keys start b0 b1 (id_at c.args.made.now) (assigned rest state state) c.transfer.ensures.extends holds in
    IfOk-weaker c.put.result _ _
    (λ new put. assigned_more c.args.variables.now.keys start b1 (id_at c.args.made.now) (id_at new) state (shared_binding_of c.args.from.now c.args.binding) rest c.in_ok-id.id later here put c.requires.listed)
    c.put.ensures
