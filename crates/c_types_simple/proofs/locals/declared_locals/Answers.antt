use Rattle.std.proofs.Common.{◌+◌, ◌++◌, ◌∷◌, [], drop, map, sym, ap, ◌∙◌, subst, arith}
use Rattle.std.specs.Prelude.{List, Result, Err}
use Rattle.c_syntax.specs.Locals.{local_of}
use Rattle.c_types_core.specs.Actions.{actions_in}
use Rattle.c_types_spec.specs.Core.{Action}
use Rattle.c_types_spec.specs.Names.{Fault, bind}
use Rattle.c_types_spec.specs.Statements as rule
use Rattle.c_types_layout.specs.Types.{type_of}
use Rattle.c_types_scope.specs.States.{state_of, Runs}
use Rattle.c_types_scope.proofs.Steps.{first-failed, step-kept}
use Rattle.c_types_expression.specs.Trees.{unboxed}
use Rattle.c_types_simple.specs.Contexts.{action_in}
use Rattle.c_types_simple.proofs.Lists.{locals-row, locals-none}
use Rattle.c_types_simple.proofs.locals.declared_locals.Goals as goal

pub loop-item-preserved : goal.loop-item-preserved
loop-item-preserved c =
    let at = c.loop-item in
    let done = actions_in at.done in
    let rest = map local_of (unboxed (drop (at.item-index + 1) c.args.list.now)) in
    ap (λ (r : Result (List Action) Fault). bind r (λ l. rule.declared_locals rest (type_of c.args.base.now) c.args.is_static l (state_of c.declared_local.new.state))) (sym c.in-Ok-attempt-2.ensures)
    ∙ step-kept _ _ _ (λ more. rule.declared_locals rest (type_of c.args.base.now) c.args.is_static (done ++ more.0 ∷ []) more.1) _
    (locals-row c.args.list.now at.item-index c.item-item.result c.deref.result.now (type_of c.args.base.now) c.args.is_static done (state_of at.state) c.item-item.is c.deref.ensures (omega arith)) c.in-Ok-attempt.ensures at.invariant

pub returns-in-loop-item : goal.returns-in-loop-item
returns-in-loop-item c =
    let at = c.loop-item in
    let done = actions_in at.done in
    let rest = map local_of (unboxed (drop (at.item-index + 1) c.args.list.now)) in
    subst (λ r. Runs (λ (_ : Unit {0}). done) (Err c.in-Err-attempt.field-0) c.declared_local.new.state r)
    (sym (locals-row c.args.list.now at.item-index c.item-item.result c.deref.result.now (type_of c.args.base.now) c.args.is_static done (state_of at.state) c.item-item.is c.deref.ensures (omega arith)) ∙ at.invariant)
    (first-failed _ (λ more. rule.declared_locals rest (type_of c.args.base.now) c.args.is_static (done ++ more.0 ∷ []) more.1) c.in-Err-attempt.field-0 action_in (λ (_ : Unit {0}). done) c.declared_local.new.state c.in-Err-attempt.ensures)

pub returns : goal.returns
returns c =
    let at = c.loop-item in
    sym at.invariant ∙ locals-none c.args.list.now at.item-index (type_of c.args.base.now) c.args.is_static (actions_in at.done) (state_of at.state) (omega arith)
