use Rattle.std.proofs.Common.{◌+◌, drop, map, sym, ◌∙◌, subst, arith, refl}
use Rattle.std.specs.Prelude.{Err}
use Rattle.c_syntax.specs.Units.{external_declaration_of}
use Rattle.c_types_spec.specs.Units as rule
use Rattle.c_types_scope.specs.States.{state_of, Runs}
use Rattle.c_types_scope.proofs.Steps.{first-failed, step-kept}
use Rattle.c_types_expression.specs.Trees.{unboxed}
use Rattle.c_types.specs.Typed.{bodies_of}
use Rattle.c_types.proofs.Bodied.{reached_more}
use Rattle.c_types.proofs.Lists.{declarations-row, declarations-none}
use Rattle.c_types.proofs.unit.external_declarations.Goals as goal

pub loop-item-init : goal.loop-item-init
loop-item-init c = (refl, c.requires)

pub external_declaration-requires : goal.external_declaration-requires
external_declaration-requires c = c.loop-item.invariant.1

pub loop-item-preserved : goal.loop-item-preserved
loop-item-preserved c =
    let at = c.loop-item in
    let done = bodies_of at.bodies.entries in
    let rest = map external_declaration_of (unboxed (drop (at.item-index + 1) c.args.list.now)) in (
      step-kept _ _ _ (λ more. rule.external_declarations rest more.0 more.1) _
          (declarations-row c.args.list.now at.item-index c.item-item.result c.deref.result.now done (state_of at.state) c.item-item.is c.deref.ensures (omega arith)) c.in-Ok-attempt.ensures at.invariant.0,
      reached_more done (state_of at.state) _ _ _ at.invariant.1 c.in-Ok-attempt.ensures,
    )

pub returns-in-loop-item : goal.returns-in-loop-item
returns-in-loop-item c =
    let at = c.loop-item in
    let done = bodies_of at.bodies.entries in
    let after = bodies_of c.external_declaration.new.bodies.entries in
    let rest = map external_declaration_of (unboxed (drop (at.item-index + 1) c.args.list.now)) in
    subst (λ r. Runs (λ (_ : Unit {0}). after) (Err c.in-Err-attempt.field-0) c.external_declaration.new.state r)
    (sym (declarations-row c.args.list.now at.item-index c.item-item.result c.deref.result.now done (state_of at.state) c.item-item.is c.deref.ensures (omega arith)) ∙ at.invariant.0)
    (first-failed _ (λ more. rule.external_declarations rest more.0 more.1) c.in-Err-attempt.field-0 (λ (_ : Unit {0}). after) (λ (_ : Unit {0}). after) c.external_declaration.new.state c.in-Err-attempt.ensures)

pub returns : goal.returns
returns c =
    let at = c.loop-item in
    sym at.invariant.0 ∙ declarations-none c.args.list.now at.item-index (bodies_of at.bodies.entries) (state_of at.state) (omega arith)
