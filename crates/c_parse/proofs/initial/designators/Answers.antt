use Rattle.std.proofs.Common.{arith, ◌∙◌, sym}
use Rattle.c_parse_laws.specs.Initializers.{read_designator, read_designators}
use Rattle.c_parse_token.specs.Lists.{list_of}
use Rattle.c_parse_token.proofs.Steps.{fewer}
use Rattle.c_parse_expression.specs.Whole.{expressions}
use Rattle.c_parse_token.proofs.Errors.{gives-from}
use Rattle.c_parse.proofs.Initials.{designating-start, designating-step, designating-error, designating-end}
use Rattle.c_parse.proofs.initial.designators.Goals as goal

pub items-init : goal.items-init
items-init c = record { going = designating-start (expressions c.args.scope.names.now) c.args.scope.depth (list_of c.args.tokens.now.rest.now) (list_of c.designator.new.tokens.rest.now) c.in-Ok-attempt.ensures.gives; fewer = c.in-Ok-attempt.ensures.shorter }

pub items-preserved : goal.items-preserved
items-preserved c =
    let rest = c.designator-in-items.new.tokens.rest.now in
    record {
      going = designating-step (expressions c.args.scope.names.now) c.args.scope.depth (read_designators (expressions c.args.scope.names.now) c.args.scope.depth (list_of c.args.tokens.now.rest.now)) (list_of c.items.tokens.rest.now) (list_of rest) c.items.invariant.going (sym c.starts_designator.ensures ∙ c.items-test.true) c.in-Ok-attempt-2.ensures.gives (fewer rest c.items.tokens.rest.now c.in-Ok-attempt-2.ensures.shorter);
      fewer = omega (arith, c.in-Ok-attempt-2.ensures.shorter, c.items.invariant.fewer);
    }

pub returns-in-items-clause-gives : goal.returns-in-items-clause-gives
returns-in-items-clause-gives c =
    let whole = read_designators (expressions c.args.scope.names.now) c.args.scope.depth (list_of c.args.tokens.now.rest.now) in
    gives-from (read_designator (expressions c.args.scope.names.now) c.args.scope.depth (list_of c.items.tokens.rest.now)) whole (λ (_ : Unit {0}). tt {0}) (λ (_ : Unit {0}). tt {0}) _ c.in-Err-attempt-2.field-0
    (designating-error (expressions c.args.scope.names.now) c.args.scope.depth whole (list_of c.items.tokens.rest.now) c.items.invariant.going (sym c.starts_designator.ensures ∙ c.items-test.true)) c.in-Err-attempt-2.ensures.gives

pub returns-2-clause-gives : goal.returns-2-clause-gives
returns-2-clause-gives c = designating-end (expressions c.args.scope.names.now) c.args.scope.depth (read_designators (expressions c.args.scope.names.now) c.args.scope.depth (list_of c.args.tokens.now.rest.now)) (list_of c.items.tokens.rest.now) c.items.invariant.going (sym c.starts_designator.ensures ∙ c.items-test.false)
