use Rattle.std.proofs.Common.{◌+◌, ◌++◌, ◌∷◌, [], drop, map, sym, ap, ◌∙◌, subst, arith}
use Rattle.std.specs.Prelude.{Err}
use Rattle.c_syntax.specs.Units.{parameter_of}
use Rattle.c_types_spec.specs.Units as rule
use Rattle.c_types_layout.specs.Types.{type_of}
use Rattle.c_types_scope.specs.Meanings.{types_in}
use Rattle.c_types_scope.specs.States.{state_of, Runs}
use Rattle.c_types_scope.proofs.Steps.{first-failed, step-kept}
use Rattle.c_types_expression.specs.Trees.{unboxed}
use Rattle.c_types.proofs.Lists.{parameters-row, parameters-none, types-more}
use Rattle.c_types.proofs.parameters.parameters.Goals as goal

pub loop-item-preserved : goal.loop-item-preserved
loop-item-preserved c =
    let at = c.loop-item in
    let done = types_in at.types in
    let rest = map parameter_of (unboxed (drop (at.item-index + 1) c.args.list.now)) in
    ap (λ l. rule.parameters rest c.args.has_body (map type_of l) (state_of c.declared_parameter.new.state)) c.in-Ok-attempt-2.ensures
    ∙ ap (λ l. rule.parameters rest c.args.has_body l (state_of c.declared_parameter.new.state)) (types-more at.types.items _)
    ∙ step-kept _ _ _ (λ more. rule.parameters rest c.args.has_body (done ++ more.0 ∷ []) more.1) _
    (parameters-row c.args.list.now at.item-index c.item-item.result c.deref.result.now c.args.has_body done (state_of at.state) c.item-item.is c.deref.ensures (omega arith)) c.in-Ok-attempt.ensures at.invariant

pub returns-in-loop-item : goal.returns-in-loop-item
returns-in-loop-item c =
    let at = c.loop-item in
    let done = types_in at.types in
    let rest = map parameter_of (unboxed (drop (at.item-index + 1) c.args.list.now)) in
    subst (λ r. Runs (λ (_ : Unit {0}). done) (Err c.in-Err-attempt.field-0) c.declared_parameter.new.state r)
    (sym (parameters-row c.args.list.now at.item-index c.item-item.result c.deref.result.now c.args.has_body done (state_of at.state) c.item-item.is c.deref.ensures (omega arith)) ∙ at.invariant)
    (first-failed _ (λ more. rule.parameters rest c.args.has_body (done ++ more.0 ∷ []) more.1) c.in-Err-attempt.field-0 type_of (λ (_ : Unit {0}). done) c.declared_parameter.new.state c.in-Err-attempt.ensures)

pub returns : goal.returns
returns c =
    let at = c.loop-item in
    sym at.invariant ∙ parameters-none c.args.list.now at.item-index c.args.has_body (types_in at.types) (state_of at.state) (omega arith)
