use Rattle.std.proofs.Common.{◌+◌, ◌++◌, ◌∷◌, [], drop, sym, ap, ◌∙◌, subst, arith}
use Rattle.std.specs.Prelude.{Err}
use Rattle.c_types_spec.specs.Statements as rule
use Rattle.c_types_operator.specs.Operands.{valued_of}
use Rattle.c_types_expression.specs.Trees.{expressions_in}
use Rattle.c_types_scope.specs.States.{state_of, Runs}
use Rattle.c_types_scope.proofs.Steps.{first-failed, step-kept}
use Rattle.c_types_simple.specs.Contexts.{values_in}
use Rattle.c_types_simple.proofs.Arguments.{map-more}
use Rattle.c_types_simple.proofs.Lists.{arguments-row, arguments-none}
use Rattle.c_types_simple.proofs.calls.arguments.Goals as goal

pub loop-item-preserved : goal.loop-item-preserved
loop-item-preserved c =
    let at = c.loop-item in
    let done = values_in at.values.items in
    let rest = expressions_in (drop (at.item-index + 1) c.args.list.now) in
    ap (λ l. rule.arguments rest (values_in l) (state_of c.value.new.state)) c.in-Ok-attempt-2.ensures
    ∙ ap (λ l. rule.arguments rest l (state_of c.value.new.state)) (map-more valued_of at.values.items _)
    ∙ step-kept _ _ _ (λ more. rule.arguments rest (done ++ more.0 ∷ []) more.1) _
    (arguments-row c.args.list.now at.item-index c.item-item.result c.deref.result.now done (state_of at.state) c.item-item.is c.deref.ensures (omega arith)) c.in-Ok-attempt.ensures at.invariant

pub returns-in-loop-item : goal.returns-in-loop-item
returns-in-loop-item c =
    let at = c.loop-item in
    let done = values_in at.values.items in
    let rest = expressions_in (drop (at.item-index + 1) c.args.list.now) in
    subst (λ r. Runs (λ (_ : Unit {0}). done) (Err c.in-Err-attempt.field-0) c.value.new.state r)
    (sym (arguments-row c.args.list.now at.item-index c.item-item.result c.deref.result.now done (state_of at.state) c.item-item.is c.deref.ensures (omega arith)) ∙ at.invariant)
    (first-failed _ (λ more. rule.arguments rest (done ++ more.0 ∷ []) more.1) c.in-Err-attempt.field-0 valued_of (λ (_ : Unit {0}). done) c.value.new.state c.in-Err-attempt.ensures)

pub returns : goal.returns
returns c = let at = c.loop-item in sym at.invariant ∙ arguments-none c.args.list.now at.item-index (values_in at.values.items) (state_of at.state) (omega arith)
