use Rattle.std.proofs.Common.{arith, ℕ, suc, ◌-◌, refl, ◌≡◌, ◌∙◌, sym, subst, ap, map, ◌++◌, ◌∷◌, [], ◌+◌, Ok, Err}
use Rattle.std.proofs.lemmas.List.{map-append}
use Rattle.std.specs.Option.{option_map}
use Rattle.std.specs.declared.alloc.Global.{Global}
use Rattle.std.specs.declared.boxed.Box.{Box}
use Rattle.c_syntax.specs.declared.expression.Expression.{Expression}
use Rattle.c_syntax.specs.declared.simple.Simple.{Simple}
use Rattle.c_syntax.specs.declared.statement.ForStart.{ForStart}
use Rattle.c_syntax.specs.declared.statement.Statement.{Statement}
use Rattle.c_syntax.specs.declared.statement.Locals.{Locals}
use Rattle.c_syntax_spec.specs.Unit as unit
use Rattle.c_parse_laws.specs.Statements as statements
use Rattle.c_parse_laws.specs.Statements.{begins_label, read_label, read_groups}
use Rattle.c_syntax.specs.Expressions.{expression_of, unboxed}
use Rattle.c_syntax.specs.Simples.{simple_of}
use Rattle.c_syntax.specs.Locals.{locals_of, start_of}
use Rattle.c_syntax.specs.Statements.{part_of, parts_in, statement_of, group_of, groups_in}
use Rattle.c_parse_token.specs.Lists.{list_of, names_of, Gives}
use Rattle.c_parse_token.proofs.Steps.{fewer}
use Rattle.c_parse_expression.specs.Whole.{expressions}
use Rattle.c_parse.specs.Pieces.{within, read_of, read_plain, starts_part, taken_labels, taken_parts}
use Rattle.c_parse_token.proofs.Errors.{gives-from}
use Rattle.c_parse.proofs.StatementFuel.{statement-some}
use Rattle.c_parse.specs.Runs.{Run, none}
use Rattle.c_parse.proofs.Runs.{run-last, run-fault, run-takes}
use Rattle.c_parse.proofs.Made.{made-gives, always}
use Rattle.c_parse.proofs.Loops.{parts-same, parts-gives, Groups, groups-start, groups-step, groups-end, labels-failed, parts-failed}
use Rattle.c_parse.proofs.Split.{if-parts}
use Rattle.c_parse.proofs.Chain.{for-found, for-start_error, for-test_error, for-step_error, for-body_error, switch-found, switch-open_error, switch-groups_error, switch-close_error, block-unclosed}
use Rattle.c_parse.proofs.statement.+statements.Goals as goal

pub all_parts-items-init : goal.all_parts-items-init
all_parts-items-init t c =
    let names = names_of c.args.scope.names.now in
    let inner = expressions c.args.scope.names.now in
    let inside = within c.args.scope.names.now c.args.fuel in
    record {
      run = subst (λ items. Run starts_part (statements.read_part names inner inside c.args.scope.depth) (list_of c.args.tokens.now.rest.now) (map (λ part. read_of (part_of part)) items) (list_of c.args.tokens.now.rest.now)) (sym c.new-all.ensures.items) (none (list_of c.args.tokens.now.rest.now));
      fewer = omega arith;
    }

pub all_parts-items-preserved : goal.all_parts-items-preserved
all_parts-items-preserved t c =
    let names = names_of c.args.scope.names.now in
    let inner = expressions c.args.scope.names.now in
    let inside = within c.args.scope.names.now c.args.fuel in
    let next = c.in-Ok-attempt.field-0 in
    let rest = c.part.new.tokens.rest.now in
    let all : taken_parts c.push.new.self ≡ taken_parts c.items.all ++ read_of (part_of next) ∷ [] = ap (map (λ part. read_of (part_of part))) c.in-Ok-allocated.ensures.items ∙ map-append (λ part. read_of (part_of part)) c.items.all.items (next ∷ []) in
    record {
      run = subst (λ xs. Run starts_part (statements.read_part names inner inside c.args.scope.depth) (list_of c.args.tokens.now.rest.now) xs (list_of rest)) (sym all)
          (run-last starts_part (statements.read_part names inner inside c.args.scope.depth) (list_of c.args.tokens.now.rest.now) (list_of c.items.tokens.rest.now) (list_of rest) (taken_parts c.items.all) (read_of (part_of next)) c.items.invariant.run (sym c.starts_part.ensures ∙ c.items-test.true) c.in-Ok-attempt.ensures.gives (fewer rest c.items.tokens.rest.now c.in-Ok-attempt.ensures.shorter));
      fewer = omega (arith, c.in-Ok-attempt.ensures.shorter, c.items.invariant.fewer);
    }

pub all_parts-returns-in-items-clause-gives : goal.all_parts-returns-in-items-clause-gives
all_parts-returns-in-items-clause-gives t c =
    let names = names_of c.args.scope.names.now in
    let inner = expressions c.args.scope.names.now in
    let inside = within c.args.scope.names.now c.args.fuel in
    parts-gives names inner inside c.args.scope.depth c.args.tokens.now.rest.now c.part.new.tokens.rest.now (Err c.in-Err-attempt.field-0) (run-fault starts_part (statements.read_part names inner inside c.args.scope.depth) taken_parts (λ x. read_of (part_of x)) _ _ (list_of c.items.tokens.rest.now) (taken_parts c.items.all) c.in-Err-attempt.field-0 c.items.invariant.run (sym c.starts_part.ensures ∙ c.items-test.true) c.in-Err-attempt.ensures.gives)

pub all_parts-returns-in-items-clause-runs : goal.all_parts-returns-in-items-clause-runs
all_parts-returns-in-items-clause-runs t c =
    let names = names_of c.args.scope.names.now in
    let inner = expressions c.args.scope.names.now in
    let inside = within c.args.scope.names.now c.args.fuel in
    run-fault starts_part (statements.read_part names inner inside c.args.scope.depth) taken_parts (λ x. read_of (part_of x)) _ _ (list_of c.items.tokens.rest.now) (taken_parts c.items.all) c.in-Err-attempt.field-0 c.items.invariant.run (sym c.starts_part.ensures ∙ c.items-test.true) c.in-Err-attempt.ensures.gives

pub all_parts-returns-clause-gives : goal.all_parts-returns-clause-gives
all_parts-returns-clause-gives t c =
    let names = names_of c.args.scope.names.now in
    let inner = expressions c.args.scope.names.now in
    let inside = within c.args.scope.names.now c.args.fuel in
    parts-gives names inner inside c.args.scope.depth c.args.tokens.now.rest.now c.items.tokens.rest.now (Ok c.items.all) (c.items.invariant.run, sym c.starts_part.ensures ∙ c.items-test.false)

pub all_parts-returns-clause-runs : goal.all_parts-returns-clause-runs
all_parts-returns-clause-runs t c =
    let names = names_of c.args.scope.names.now in
    let inner = expressions c.args.scope.names.now in
    let inside = within c.args.scope.names.now c.args.fuel in
    (c.items.invariant.run, sym c.starts_part.ensures ∙ c.items-test.false)

pub block-returns-3-clause-gives : goal.block-returns-3-clause-gives
block-returns-3-clause-gives t c =
    let names = names_of c.args.scope.names.now in
    let inner = expressions c.args.scope.names.now in
    let inside = within c.args.scope.names.now c.args.fuel in
    gives-from _ _ (λ (x : ℕ). x) (λ y. y) _ c.in-Err-attempt-2.field-0 (λ fault e. block-unclosed names inner inside c.args.scope.depth (c.args.scope.depth + 1) c.in-Ok-attempt.field-0 (parts_in c.in-Ok-attempt-parts.field-0) fault (list_of c.args.tokens.now.rest.now) (list_of c.opening.new.self.rest.now) (list_of c.all_parts.new.tokens.rest.now) (omega arith) c.in-Ok-attempt.ensures.gives c.in-Ok-attempt-parts.ensures.gives e) c.in-Err-attempt-2.ensures.gives

pub for_statement-returns-3-clause-gives : goal.for_statement-returns-3-clause-gives
for_statement-returns-3-clause-gives t c =
    let names = names_of c.args.scope.names.now in
    let inner = expressions c.args.scope.names.now in
    let inside = within c.args.scope.names.now c.args.fuel in
    gives-from _ _ (λ (x : Box ForStart Global). start_of x.value) (λ y. y) _ c.in-Err-attempt-start.field-0 (λ fault e. for-start_error names inner inside c.args.scope.depth (c.args.scope.depth + 1) (c.args.scope.depth + 2) c.in-Ok-attempt.field-0 c.in-Ok-attempt-2.field-0 fault (list_of c.args.tokens.now.rest.now) (list_of c.opening.new.tokens.rest.now) (list_of c.opening-2.new.self.rest.now) (omega arith) (omega arith) c.in-Ok-attempt.ensures.gives c.in-Ok-attempt-2.ensures.gives e) c.in-Err-attempt-start.ensures.gives

pub for_statement-returns-4-clause-gives : goal.for_statement-returns-4-clause-gives
for_statement-returns-4-clause-gives t c =
    let names = names_of c.args.scope.names.now in
    let inner = expressions c.args.scope.names.now in
    let inside = within c.args.scope.names.now c.args.fuel in
    gives-from _ _ (λ x. option_map (λ (test : Box Expression Global). expression_of test.value) x) (λ y. y) _ c.in-Err-attempt-test.field-0 (λ fault e. for-test_error names inner inside c.args.scope.depth (c.args.scope.depth + 1) (c.args.scope.depth + 2) c.in-Ok-attempt.field-0 c.in-Ok-attempt-2.field-0 (start_of c.in-Ok-attempt-start.field-0.value) fault (list_of c.args.tokens.now.rest.now) (list_of c.opening.new.tokens.rest.now) (list_of c.opening-2.new.self.rest.now) (list_of c.for_start.new.tokens.rest.now) (omega arith) (omega arith) c.in-Ok-attempt.ensures.gives c.in-Ok-attempt-2.ensures.gives c.in-Ok-attempt-start.ensures.gives e) c.in-Err-attempt-test.ensures.gives

pub for_statement-returns-5-clause-gives : goal.for_statement-returns-5-clause-gives
for_statement-returns-5-clause-gives t c =
    let names = names_of c.args.scope.names.now in
    let inner = expressions c.args.scope.names.now in
    let inside = within c.args.scope.names.now c.args.fuel in
    gives-from _ _ (λ x. option_map (λ (step : Box Simple Global). simple_of step.value) x) (λ y. y) _ c.in-Err-attempt-step.field-0 (λ fault e. for-step_error names inner inside c.args.scope.depth (c.args.scope.depth + 1) (c.args.scope.depth + 2) c.in-Ok-attempt.field-0 c.in-Ok-attempt-2.field-0 (start_of c.in-Ok-attempt-start.field-0.value) (option_map (λ x. expression_of x.value) c.in-Ok-attempt-test.field-0) fault (list_of c.args.tokens.now.rest.now) (list_of c.opening.new.tokens.rest.now) (list_of c.opening-2.new.self.rest.now) (list_of c.for_start.new.tokens.rest.now) (list_of c.for_test.new.tokens.rest.now) (omega arith) (omega arith) c.in-Ok-attempt.ensures.gives c.in-Ok-attempt-2.ensures.gives c.in-Ok-attempt-start.ensures.gives c.in-Ok-attempt-test.ensures.gives e) c.in-Err-attempt-step.ensures.gives

pub for_statement-returns-6-clause-gives : goal.for_statement-returns-6-clause-gives
for_statement-returns-6-clause-gives t c =
    let names = names_of c.args.scope.names.now in
    let inner = expressions c.args.scope.names.now in
    let inside = within c.args.scope.names.now c.args.fuel in
    gives-from _ _ (λ (x : Box Statement Global). statement_of x.value) (λ y. y) _ c.in-Err-attempt-body.field-0 (λ fault e. for-body_error names inner inside c.args.scope.depth (c.args.scope.depth + 1) (c.args.scope.depth + 2) c.in-Ok-attempt.field-0 c.in-Ok-attempt-2.field-0 (start_of c.in-Ok-attempt-start.field-0.value) (option_map (λ x. expression_of x.value) c.in-Ok-attempt-test.field-0) (option_map (λ x. simple_of x.value) c.in-Ok-attempt-step.field-0) fault (list_of c.args.tokens.now.rest.now) (list_of c.opening.new.tokens.rest.now) (list_of c.opening-2.new.self.rest.now) (list_of c.for_start.new.tokens.rest.now) (list_of c.for_test.new.tokens.rest.now) (list_of c.for_step.new.tokens.rest.now) (omega arith) (omega arith) c.in-Ok-attempt.ensures.gives c.in-Ok-attempt-2.ensures.gives c.in-Ok-attempt-start.ensures.gives c.in-Ok-attempt-test.ensures.gives c.in-Ok-attempt-step.ensures.gives e) c.in-Err-attempt-body.ensures.gives

pub for_statement-returns-7-clause-gives : goal.for_statement-returns-7-clause-gives
for_statement-returns-7-clause-gives t c =
    let names = names_of c.args.scope.names.now in
    let inner = expressions c.args.scope.names.now in
    let inside = within c.args.scope.names.now c.args.fuel in
    made-gives _ (λ (x : Box Statement Global). statement_of x.value) (unit.For (start_of c.in-Ok-attempt-start.field-0.value) (option_map (λ x. expression_of x.value) c.in-Ok-attempt-test.field-0) (option_map (λ x. simple_of x.value) c.in-Ok-attempt-step.field-0) (statement_of c.in-Ok-attempt-body.field-0.value) c.in-Ok-attempt.field-0) _ _ _ c.or_no_memory.ensures c.for_loop.ensures (for-found names inner inside c.args.scope.depth (c.args.scope.depth + 1) (c.args.scope.depth + 2) c.in-Ok-attempt.field-0 c.in-Ok-attempt-2.field-0 (start_of c.in-Ok-attempt-start.field-0.value) (option_map (λ x. expression_of x.value) c.in-Ok-attempt-test.field-0) (option_map (λ x. simple_of x.value) c.in-Ok-attempt-step.field-0) (statement_of c.in-Ok-attempt-body.field-0.value) (list_of c.args.tokens.now.rest.now) (list_of c.opening.new.tokens.rest.now) (list_of c.opening-2.new.self.rest.now) (list_of c.for_start.new.tokens.rest.now) (list_of c.for_test.new.tokens.rest.now) (list_of c.for_step.new.tokens.rest.now) (list_of c.statement.new.tokens.rest.now) (omega arith) (omega arith) c.in-Ok-attempt.ensures.gives c.in-Ok-attempt-2.ensures.gives c.in-Ok-attempt-start.ensures.gives c.in-Ok-attempt-test.ensures.gives c.in-Ok-attempt-step.ensures.gives c.in-Ok-attempt-body.ensures.gives)

pub for_statement-returns-7-clause-shorter : goal.for_statement-returns-7-clause-shorter
for_statement-returns-7-clause-shorter t c = always c.or_no_memory.result (omega (arith, c.in-Ok-attempt.ensures.shorter, c.in-Ok-attempt-2.ensures.shorter, c.in-Ok-attempt-start.ensures.shorter, c.in-Ok-attempt-test.ensures.shorter, c.in-Ok-attempt-step.ensures.shorter, c.in-Ok-attempt-body.ensures.shorter))

pub groups-items-init : goal.groups-items-init
groups-items-init t c =
    let names = names_of c.args.scope.names.now in
    let inner = expressions c.args.scope.names.now in
    let inside = within c.args.scope.names.now c.args.fuel in
    record {
      going = subst (λ items. Groups names inner inside c.args.scope.depth (read_groups names inner inside c.args.scope.depth (list_of c.args.tokens.now.rest.now)) (map group_of (map (λ b. b.value) items)) (list_of c.args.tokens.now.rest.now)) (sym c.new-all.ensures.items) (groups-start names inner inside c.args.scope.depth (list_of c.args.tokens.now.rest.now));
      fewer = omega arith;
    }

pub groups-items-preserved : goal.groups-items-preserved
groups-items-preserved t c =
    let names = names_of c.args.scope.names.now in
    let inner = expressions c.args.scope.names.now in
    let inside = within c.args.scope.names.now c.args.fuel in
    let labels = taken_labels c.in-Ok-attempt.field-0 in
    let group = c.in-Ok-allocated.field-0 in
    let rest = list_of c.all_parts.new.tokens.rest.now in
    let made : (labels, statements.parts_of (taken_parts c.in-Ok-attempt-parts.field-0)) ≡ group_of group.value = ap (λ p. (labels, p)) (parts-same c.in-Ok-attempt-parts.field-0.items) ∙ sym c.in-Ok-allocated.ensures in
    let all : map group_of (unboxed c.push.new.self) ≡ map group_of (unboxed c.items.all) ++ group_of group.value ∷ [] =
    ap (λ items. map group_of (map (λ b. b.value) items)) c.in-Ok-allocated-2.ensures.items ∙ ap (map group_of) (map-append (λ b. b.value) c.items.all.items (group ∷ [])) ∙ map-append group_of (unboxed c.items.all) (group.value ∷ []) in
    record {
      going = subst (λ gs. Groups names inner inside c.args.scope.depth (read_groups names inner inside c.args.scope.depth (list_of c.args.tokens.now.rest.now)) gs rest) (sym all)
          (subst (λ g. Groups names inner inside c.args.scope.depth (read_groups names inner inside c.args.scope.depth (list_of c.args.tokens.now.rest.now)) (map group_of (unboxed c.items.all) ++ g ∷ []) rest) made
          (groups-step names inner inside c.args.scope.depth (read_groups names inner inside c.args.scope.depth (list_of c.args.tokens.now.rest.now)) (map group_of (unboxed c.items.all)) (list_of c.items.tokens.rest.now) (list_of c.labels.new.tokens.rest.now) rest labels (taken_parts c.in-Ok-attempt-parts.field-0) c.items.invariant.going (sym c.starts_label.ensures ∙ c.items-test.true) c.in-Ok-attempt.ensures.runs.0 c.in-Ok-attempt.ensures.runs.1 c.in-Ok-attempt-parts.ensures.runs.0 c.in-Ok-attempt-parts.ensures.runs.1));
      fewer = omega (arith, (run-takes begins_label (read_label inner c.args.scope.depth) c.items.tokens.rest.now c.labels.new.tokens.rest.now (taken_labels c.in-Ok-attempt.field-0) c.in-Ok-attempt.ensures.runs.0 (sym c.starts_label.ensures ∙ c.items-test.true) c.in-Ok-attempt.ensures.runs.1), c.in-Ok-attempt-parts.ensures.shorter, c.items.invariant.fewer);
    }

pub groups-items-smaller : goal.groups-items-smaller
groups-items-smaller t c =
    let names = names_of c.args.scope.names.now in
    let inner = expressions c.args.scope.names.now in
    let inside = within c.args.scope.names.now c.args.fuel in
    omega (arith, (run-takes begins_label (read_label inner c.args.scope.depth) c.items.tokens.rest.now c.labels.new.tokens.rest.now (taken_labels c.in-Ok-attempt.field-0) c.in-Ok-attempt.ensures.runs.0 (sym c.starts_label.ensures ∙ c.items-test.true) c.in-Ok-attempt.ensures.runs.1), c.in-Ok-attempt-parts.ensures.shorter)

pub groups-returns-in-items-clause-gives : goal.groups-returns-in-items-clause-gives
groups-returns-in-items-clause-gives t c =
    let names = names_of c.args.scope.names.now in
    let inner = expressions c.args.scope.names.now in
    let inside = within c.args.scope.names.now c.args.fuel in
    labels-failed names inner inside c.args.scope.depth (read_groups names inner inside c.args.scope.depth (list_of c.args.tokens.now.rest.now)) groups_in (map group_of (unboxed c.items.all)) c.items.tokens.rest.now _ c.in-Err-attempt.field-0 c.items.invariant.going c.in-Err-attempt.ensures.runs

pub groups-returns-in-items-2-clause-gives : goal.groups-returns-in-items-2-clause-gives
groups-returns-in-items-2-clause-gives t c =
    let names = names_of c.args.scope.names.now in
    let inner = expressions c.args.scope.names.now in
    let inside = within c.args.scope.names.now c.args.fuel in
    parts-failed names inner inside c.args.scope.depth (read_groups names inner inside c.args.scope.depth (list_of c.args.tokens.now.rest.now)) groups_in (map group_of (unboxed c.items.all)) (list_of c.items.tokens.rest.now) (taken_labels c.in-Ok-attempt.field-0) c.labels.new.tokens.rest.now _ c.in-Err-attempt-parts.field-0 c.items.invariant.going (sym c.starts_label.ensures ∙ c.items-test.true) c.in-Ok-attempt.ensures.runs.0 c.in-Ok-attempt.ensures.runs.1 c.in-Err-attempt-parts.ensures.runs

pub groups-returns-clause-gives : goal.groups-returns-clause-gives
groups-returns-clause-gives t c =
    let names = names_of c.args.scope.names.now in
    let inner = expressions c.args.scope.names.now in
    let inside = within c.args.scope.names.now c.args.fuel in
    groups-end names inner inside c.args.scope.depth (read_groups names inner inside c.args.scope.depth (list_of c.args.tokens.now.rest.now)) (map group_of (unboxed c.items.all)) (list_of c.items.tokens.rest.now) c.items.invariant.going (sym c.starts_label.ensures ∙ c.items-test.false)

pub if_statement-returns-4-clause-gives : goal.if_statement-returns-4-clause-gives
if_statement-returns-4-clause-gives t c =
    let names = names_of c.args.scope.names.now in
    let inner = expressions c.args.scope.names.now in
    let inside = within c.args.scope.names.now c.args.fuel in
    let same = if-parts inner inside c.args.scope.depth (c.args.scope.depth + 1) c.in-Ok-attempt.field-0 (expression_of c.in-Ok-attempt-test.field-0.value) (statement_of c.in-Ok-attempt-body.field-0.value) (list_of c.args.tokens.now.rest.now) (list_of c.opening.new.tokens.rest.now) (list_of c.test.new.tokens.rest.now) (list_of c.statement.new.tokens.rest.now) (omega arith) c.in-Ok-attempt.ensures.gives c.in-Ok-attempt-test.ensures.gives c.in-Ok-attempt-body.ensures.gives in
    subst (λ o. Gives o (λ x. statement_of x.value) c.else_part.new.tokens.rest.now c.else_part.result) (sym same) c.else_part.ensures.gives

pub switch_statement-returns-3-clause-gives : goal.switch_statement-returns-3-clause-gives
switch_statement-returns-3-clause-gives t c =
    let names = names_of c.args.scope.names.now in
    let inner = expressions c.args.scope.names.now in
    let inside = within c.args.scope.names.now c.args.fuel in
    gives-from _ _ (λ (x : ℕ). x) (λ y. y) _ c.in-Err-attempt-2.field-0 (λ fault e. switch-open_error names inner inside c.args.scope.depth (c.args.scope.depth + 1) (c.args.scope.depth + 2) c.in-Ok-attempt.field-0 (expression_of c.in-Ok-attempt-test.field-0.value) fault (list_of c.args.tokens.now.rest.now) (list_of c.opening.new.tokens.rest.now) (list_of c.test.new.tokens.rest.now) (omega arith) (omega arith) c.in-Ok-attempt.ensures.gives c.in-Ok-attempt-test.ensures.gives e) c.in-Err-attempt-2.ensures.gives

pub switch_statement-returns-4-clause-gives : goal.switch_statement-returns-4-clause-gives
switch_statement-returns-4-clause-gives t c =
    let names = names_of c.args.scope.names.now in
    let inner = expressions c.args.scope.names.now in
    let inside = within c.args.scope.names.now c.args.fuel in
    gives-from _ _ groups_in (λ y. y) _ c.in-Err-attempt-groups.field-0 (λ fault e. switch-groups_error names inner inside c.args.scope.depth (c.args.scope.depth + 1) (c.args.scope.depth + 2) c.in-Ok-attempt.field-0 (expression_of c.in-Ok-attempt-test.field-0.value) c.in-Ok-attempt-2.field-0 fault (list_of c.args.tokens.now.rest.now) (list_of c.opening.new.tokens.rest.now) (list_of c.test.new.tokens.rest.now) (list_of c.opening-2.new.self.rest.now) (omega arith) (omega arith) c.in-Ok-attempt.ensures.gives c.in-Ok-attempt-test.ensures.gives c.in-Ok-attempt-2.ensures.gives e) c.in-Err-attempt-groups.ensures.gives

pub switch_statement-returns-5-clause-gives : goal.switch_statement-returns-5-clause-gives
switch_statement-returns-5-clause-gives t c =
    let names = names_of c.args.scope.names.now in
    let inner = expressions c.args.scope.names.now in
    let inside = within c.args.scope.names.now c.args.fuel in
    gives-from _ _ (λ (x : ℕ). x) (λ y. y) _ c.in-Err-attempt-3.field-0 (λ fault e. switch-close_error names inner inside c.args.scope.depth (c.args.scope.depth + 1) (c.args.scope.depth + 2) c.in-Ok-attempt.field-0 (expression_of c.in-Ok-attempt-test.field-0.value) c.in-Ok-attempt-2.field-0 (groups_in c.in-Ok-attempt-groups.field-0) fault (list_of c.args.tokens.now.rest.now) (list_of c.opening.new.tokens.rest.now) (list_of c.test.new.tokens.rest.now) (list_of c.opening-2.new.self.rest.now) (list_of c.groups.new.tokens.rest.now) (omega arith) (omega arith) c.in-Ok-attempt.ensures.gives c.in-Ok-attempt-test.ensures.gives c.in-Ok-attempt-2.ensures.gives c.in-Ok-attempt-groups.ensures.gives e) c.in-Err-attempt-3.ensures.gives

pub switch_statement-returns-6-clause-gives : goal.switch_statement-returns-6-clause-gives
switch_statement-returns-6-clause-gives t c =
    let names = names_of c.args.scope.names.now in
    let inner = expressions c.args.scope.names.now in
    let inside = within c.args.scope.names.now c.args.fuel in
    made-gives _ (λ (x : Box Statement Global). statement_of x.value) (unit.Switch (expression_of c.in-Ok-attempt-test.field-0.value) (groups_in c.in-Ok-attempt-groups.field-0) c.in-Ok-attempt.field-0) _ _ _ c.or_no_memory.ensures c.switch.ensures (switch-found names inner inside c.args.scope.depth (c.args.scope.depth + 1) (c.args.scope.depth + 2) c.in-Ok-attempt.field-0 (expression_of c.in-Ok-attempt-test.field-0.value) c.in-Ok-attempt-2.field-0 (groups_in c.in-Ok-attempt-groups.field-0) c.in-Ok-attempt-3.field-0 (list_of c.args.tokens.now.rest.now) (list_of c.opening.new.tokens.rest.now) (list_of c.test.new.tokens.rest.now) (list_of c.opening-2.new.self.rest.now) (list_of c.groups.new.tokens.rest.now) (list_of c.mark.new.self.rest.now) (omega arith) (omega arith) c.in-Ok-attempt.ensures.gives c.in-Ok-attempt-test.ensures.gives c.in-Ok-attempt-2.ensures.gives c.in-Ok-attempt-groups.ensures.gives c.in-Ok-attempt-3.ensures.gives)

pub switch_statement-returns-6-clause-shorter : goal.switch_statement-returns-6-clause-shorter
switch_statement-returns-6-clause-shorter t c = always c.or_no_memory.result (omega (arith, c.in-Ok-attempt.ensures.shorter, c.in-Ok-attempt-test.ensures.shorter, c.in-Ok-attempt-2.ensures.shorter, c.in-Ok-attempt-groups.ensures.shorter, c.in-Ok-attempt-3.ensures.shorter))

pub part-returns-then-starts_locals-clause-gives : goal.part-returns-then-starts_locals-clause-gives
part-returns-then-starts_locals-clause-gives t c =
    gives-from _ _ (λ (x : Box Locals Global). locals_of x.value) (λ y. y) _ c.in-Err-attempt.field-0 (λ fault e. rw (sym c.starts_locals.ensures ∙ c.if-starts_locals.true, e) refl) c.in-Err-attempt.ensures.gives

pub part-returns-clause-gives : goal.part-returns-clause-gives
part-returns-clause-gives t c =
    gives-from _ _ (λ (x : Box Statement Global). statement_of x.value) (λ y. y) _ c.in-Err-attempt-statement.field-0 (λ fault e. rw (sym c.starts_locals.ensures ∙ c.if-starts_locals.false, e) refl) c.in-Err-attempt-statement.ensures.gives

pub part-returns-then-starts_locals-2-clause-gives : goal.part-returns-then-starts_locals-2-clause-gives
part-returns-then-starts_locals-2-clause-gives t c =
    rw (sym c.starts_locals.ensures ∙ c.if-starts_locals.true, c.in-Ok-attempt.ensures.gives) (ap (λ p. Ok (read_of p, list_of c.locals.new.tokens.rest.now)) (sym c.declared.ensures))

pub part-returns-2-clause-gives : goal.part-returns-2-clause-gives
part-returns-2-clause-gives t c =
    rw (sym c.starts_locals.ensures ∙ c.if-starts_locals.false, c.in-Ok-attempt-statement.ensures.gives) (ap (λ p. Ok (read_of p, list_of c.statement.new.tokens.rest.now)) (sym c.stated.ensures))

pub block-returns-clause-gives : goal.block-returns-clause-gives
block-returns-clause-gives t c =
    gives-from _ _ (λ (x : ℕ). x) (λ y. y) _ c.in-Err-attempt.field-0 (λ fault e. rw (e) refl) c.in-Err-attempt.ensures.gives

pub block-returns-2-clause-gives : goal.block-returns-2-clause-gives
block-returns-2-clause-gives t c =
    let one : c.args.scope.depth + 1 ≡ suc c.args.scope.depth = omega arith in
    gives-from _ _ parts_in (λ y. y) _ c.in-Err-attempt-parts.field-0 (λ fault e. rw (c.in-Ok-attempt.ensures.gives, rw one at e) refl) c.in-Err-attempt-parts.ensures.gives

pub block-returns-4-clause-gives : goal.block-returns-4-clause-gives
block-returns-4-clause-gives t c =
    let one : c.args.scope.depth + 1 ≡ suc c.args.scope.depth = omega arith in
    made-gives _ (λ (x : Box Statement Global). statement_of x.value) (unit.Block (parts_in c.in-Ok-attempt-parts.field-0) c.in-Ok-attempt.field-0) _ _ _ c.or_no_memory.ensures c.block.ensures (rw (c.in-Ok-attempt.ensures.gives, rw one at c.in-Ok-attempt-parts.ensures.gives, c.in-Ok-attempt-2.ensures.gives) refl)

pub block-returns-4-clause-shorter : goal.block-returns-4-clause-shorter
block-returns-4-clause-shorter t c = always c.or_no_memory.result (omega (arith, c.in-Ok-attempt.ensures.shorter, c.in-Ok-attempt-parts.ensures.shorter, c.in-Ok-attempt-2.ensures.shorter))

pub if_statement-returns-clause-gives : goal.if_statement-returns-clause-gives
if_statement-returns-clause-gives t c =
    gives-from _ _ (λ (x : ℕ). x) (λ y. y) _ c.in-Err-attempt.field-0 (λ fault e. rw (e) refl) c.in-Err-attempt.ensures.gives

pub if_statement-returns-2-clause-gives : goal.if_statement-returns-2-clause-gives
if_statement-returns-2-clause-gives t c =
    let one : c.args.scope.depth + 1 ≡ suc c.args.scope.depth = omega arith in
    gives-from _ _ (λ (x : Box Expression Global). expression_of x.value) (λ y. y) _ c.in-Err-attempt-test.field-0 (λ fault e. rw (c.in-Ok-attempt.ensures.gives, rw one at e) refl) c.in-Err-attempt-test.ensures.gives

pub if_statement-returns-3-clause-gives : goal.if_statement-returns-3-clause-gives
if_statement-returns-3-clause-gives t c =
    let one : c.args.scope.depth + 1 ≡ suc c.args.scope.depth = omega arith in
    gives-from _ _ (λ (x : Box Statement Global). statement_of x.value) (λ y. y) _ c.in-Err-attempt-body.field-0 (λ fault e. rw (c.in-Ok-attempt.ensures.gives, rw one at c.in-Ok-attempt-test.ensures.gives, rw one at e) refl) c.in-Err-attempt-body.ensures.gives

pub while_statement-returns-clause-gives : goal.while_statement-returns-clause-gives
while_statement-returns-clause-gives t c =
    gives-from _ _ (λ (x : ℕ). x) (λ y. y) _ c.in-Err-attempt.field-0 (λ fault e. rw (e) refl) c.in-Err-attempt.ensures.gives

pub while_statement-returns-2-clause-gives : goal.while_statement-returns-2-clause-gives
while_statement-returns-2-clause-gives t c =
    let one : c.args.scope.depth + 1 ≡ suc c.args.scope.depth = omega arith in
    gives-from _ _ (λ (x : Box Expression Global). expression_of x.value) (λ y. y) _ c.in-Err-attempt-test.field-0 (λ fault e. rw (c.in-Ok-attempt.ensures.gives, rw one at e) refl) c.in-Err-attempt-test.ensures.gives

pub while_statement-returns-3-clause-gives : goal.while_statement-returns-3-clause-gives
while_statement-returns-3-clause-gives t c =
    let one : c.args.scope.depth + 1 ≡ suc c.args.scope.depth = omega arith in
    gives-from _ _ (λ (x : Box Statement Global). statement_of x.value) (λ y. y) _ c.in-Err-attempt-body.field-0 (λ fault e. rw (c.in-Ok-attempt.ensures.gives, rw one at c.in-Ok-attempt-test.ensures.gives, rw one at e) refl) c.in-Err-attempt-body.ensures.gives

pub while_statement-returns-4-clause-gives : goal.while_statement-returns-4-clause-gives
while_statement-returns-4-clause-gives t c =
    let one : c.args.scope.depth + 1 ≡ suc c.args.scope.depth = omega arith in
    made-gives _ (λ (x : Box Statement Global). statement_of x.value) (unit.While (expression_of c.in-Ok-attempt-test.field-0.value) (statement_of c.in-Ok-attempt-body.field-0.value) c.in-Ok-attempt.field-0) _ _ _ c.or_no_memory.ensures c.while_loop.ensures (rw (c.in-Ok-attempt.ensures.gives, rw one at c.in-Ok-attempt-test.ensures.gives, rw one at c.in-Ok-attempt-body.ensures.gives) refl)

pub while_statement-returns-4-clause-shorter : goal.while_statement-returns-4-clause-shorter
while_statement-returns-4-clause-shorter t c = always c.or_no_memory.result (omega (arith, c.in-Ok-attempt.ensures.shorter, c.in-Ok-attempt-test.ensures.shorter, c.in-Ok-attempt-body.ensures.shorter))

pub do_statement-returns-clause-gives : goal.do_statement-returns-clause-gives
do_statement-returns-clause-gives t c =
    gives-from _ _ (λ (x : ℕ). x) (λ y. y) _ c.in-Err-attempt.field-0 (λ fault e. rw (e) refl) c.in-Err-attempt.ensures.gives

pub do_statement-returns-2-clause-gives : goal.do_statement-returns-2-clause-gives
do_statement-returns-2-clause-gives t c =
    let one : c.args.scope.depth + 1 ≡ suc c.args.scope.depth = omega arith in
    gives-from _ _ (λ (x : Box Statement Global). statement_of x.value) (λ y. y) _ c.in-Err-attempt-body.field-0 (λ fault e. rw (c.in-Ok-attempt.ensures.gives, rw one at e) refl) c.in-Err-attempt-body.ensures.gives

pub do_statement-returns-3-clause-gives : goal.do_statement-returns-3-clause-gives
do_statement-returns-3-clause-gives t c =
    let one : c.args.scope.depth + 1 ≡ suc c.args.scope.depth = omega arith in
    gives-from _ _ (λ (x : ℕ). x) (λ y. y) _ c.in-Err-attempt-2.field-0 (λ fault e. rw (c.in-Ok-attempt.ensures.gives, rw one at c.in-Ok-attempt-body.ensures.gives, e) refl) c.in-Err-attempt-2.ensures.gives

pub do_statement-returns-4-clause-gives : goal.do_statement-returns-4-clause-gives
do_statement-returns-4-clause-gives t c =
    let one : c.args.scope.depth + 1 ≡ suc c.args.scope.depth = omega arith in
    gives-from _ _ (λ (x : Box Expression Global). expression_of x.value) (λ y. y) _ c.in-Err-attempt-test.field-0 (λ fault e. rw (c.in-Ok-attempt.ensures.gives, rw one at c.in-Ok-attempt-body.ensures.gives, c.in-Ok-attempt-2.ensures.gives, rw one at e) refl) c.in-Err-attempt-test.ensures.gives

pub do_statement-returns-5-clause-gives : goal.do_statement-returns-5-clause-gives
do_statement-returns-5-clause-gives t c =
    let one : c.args.scope.depth + 1 ≡ suc c.args.scope.depth = omega arith in
    gives-from _ _ (λ (x : ℕ). x) (λ y. y) _ c.in-Err-attempt-3.field-0 (λ fault e. rw (c.in-Ok-attempt.ensures.gives, rw one at c.in-Ok-attempt-body.ensures.gives, c.in-Ok-attempt-2.ensures.gives, rw one at c.in-Ok-attempt-test.ensures.gives, e) refl) c.in-Err-attempt-3.ensures.gives

pub do_statement-returns-6-clause-gives : goal.do_statement-returns-6-clause-gives
do_statement-returns-6-clause-gives t c =
    let one : c.args.scope.depth + 1 ≡ suc c.args.scope.depth = omega arith in
    made-gives _ (λ (x : Box Statement Global). statement_of x.value) (unit.Do (statement_of c.in-Ok-attempt-body.field-0.value) (expression_of c.in-Ok-attempt-test.field-0.value) c.in-Ok-attempt.field-0) _ _ _ c.or_no_memory.ensures c.do_loop.ensures (rw (c.in-Ok-attempt.ensures.gives, rw one at c.in-Ok-attempt-body.ensures.gives, c.in-Ok-attempt-2.ensures.gives, rw one at c.in-Ok-attempt-test.ensures.gives, c.in-Ok-attempt-3.ensures.gives) refl)

pub do_statement-returns-6-clause-shorter : goal.do_statement-returns-6-clause-shorter
do_statement-returns-6-clause-shorter t c = always c.or_no_memory.result (omega (arith, c.in-Ok-attempt.ensures.shorter, c.in-Ok-attempt-body.ensures.shorter, c.in-Ok-attempt-2.ensures.shorter, c.in-Ok-attempt-test.ensures.shorter, c.in-Ok-attempt-3.ensures.shorter))

pub for_statement-returns-clause-gives : goal.for_statement-returns-clause-gives
for_statement-returns-clause-gives t c =
    gives-from _ _ (λ (x : ℕ). x) (λ y. y) _ c.in-Err-attempt.field-0 (λ fault e. rw (e) refl) c.in-Err-attempt.ensures.gives

pub for_statement-returns-2-clause-gives : goal.for_statement-returns-2-clause-gives
for_statement-returns-2-clause-gives t c =
    let one : c.args.scope.depth + 1 ≡ suc c.args.scope.depth = omega arith in
    gives-from _ _ (λ (x : ℕ). x) (λ y. y) _ c.in-Err-attempt-2.field-0 (λ fault e. rw (c.in-Ok-attempt.ensures.gives, rw one at e) refl) c.in-Err-attempt-2.ensures.gives

pub switch_statement-returns-clause-gives : goal.switch_statement-returns-clause-gives
switch_statement-returns-clause-gives t c =
    gives-from _ _ (λ (x : ℕ). x) (λ y. y) _ c.in-Err-attempt.field-0 (λ fault e. rw (e) refl) c.in-Err-attempt.ensures.gives

pub switch_statement-returns-2-clause-gives : goal.switch_statement-returns-2-clause-gives
switch_statement-returns-2-clause-gives t c =
    let one : c.args.scope.depth + 1 ≡ suc c.args.scope.depth = omega arith in
    gives-from _ _ (λ (x : Box Expression Global). expression_of x.value) (λ y. y) _ c.in-Err-attempt-test.field-0 (λ fault e. rw (c.in-Ok-attempt.ensures.gives, rw one at e) refl) c.in-Err-attempt-test.ensures.gives

pub statement-returns-then-next_is-clause-gives : goal.statement-returns-then-next_is-clause-gives
statement-returns-then-next_is-clause-gives t c =
    let names = names_of c.args.scope.names.now in
    let inner = expressions c.args.scope.names.now in
    let inside = within c.args.scope.names.now (c.args.fuel - 1) in
    let chosen : statements.read_statement_around names inner inside c.args.scope.depth (list_of c.args.tokens.now.rest.now) ≡ statements.read_block names inner inside c.args.scope.depth (list_of c.args.tokens.now.rest.now) = rw (sym c.next_is.ensures ∙ c.if-next_is.true) refl in
    subst (λ o. Gives o (λ x. statement_of x.value) c.block.new.tokens.rest.now c.block.result) (sym (statement-some names inner c.args.fuel c.args.scope.depth (list_of c.args.tokens.now.rest.now) c.if-fuel-eq0.false ∙ chosen)) c.block.ensures.gives

pub statement-returns-then-next_is-2-2-clause-gives : goal.statement-returns-then-next_is-2-2-clause-gives
statement-returns-then-next_is-2-2-clause-gives t c =
    let names = names_of c.args.scope.names.now in
    let inner = expressions c.args.scope.names.now in
    let inside = within c.args.scope.names.now (c.args.fuel - 1) in
    let chosen : statements.read_statement_around names inner inside c.args.scope.depth (list_of c.args.tokens.now.rest.now) ≡ Ok (unit.Empty c.in-Ok-attempt.field-0, list_of c.mark.new.self.rest.now) = rw (sym c.next_is.ensures ∙ c.if-next_is.false, sym c.next_is-2.ensures ∙ c.if-next_is-2.true, c.in-Ok-attempt.ensures.gives) refl in
    made-gives _ (λ (x : Box Statement Global). statement_of x.value) (unit.Empty c.in-Ok-attempt.field-0) _ _ _ c.or_no_memory.ensures c.empty.ensures (statement-some names inner c.args.fuel c.args.scope.depth (list_of c.args.tokens.now.rest.now) c.if-fuel-eq0.false ∙ chosen)

pub statement-returns-then-next_is-2-2-clause-shorter : goal.statement-returns-then-next_is-2-2-clause-shorter
statement-returns-then-next_is-2-2-clause-shorter t c = always c.or_no_memory.result (omega (arith, c.in-Ok-attempt.ensures.shorter))

pub statement-returns-then-next_is-2-clause-gives : goal.statement-returns-then-next_is-2-clause-gives
statement-returns-then-next_is-2-clause-gives t c =
    let names = names_of c.args.scope.names.now in
    let inner = expressions c.args.scope.names.now in
    let inside = within c.args.scope.names.now (c.args.fuel - 1) in
    gives-from _ _ (λ (x : ℕ). x) (λ y. y) _ c.in-Err-attempt.field-0 (λ fault e. let chosen : statements.read_statement_around names inner inside c.args.scope.depth (list_of c.args.tokens.now.rest.now) ≡ Err fault = rw (sym c.next_is.ensures ∙ c.if-next_is.false, sym c.next_is-2.ensures ∙ c.if-next_is-2.true, e) refl in statement-some names inner c.args.fuel c.args.scope.depth (list_of c.args.tokens.now.rest.now) c.if-fuel-eq0.false ∙ chosen) c.in-Err-attempt.ensures.gives

pub statement-returns-then-next_keyword-clause-gives : goal.statement-returns-then-next_keyword-clause-gives
statement-returns-then-next_keyword-clause-gives t c =
    let names = names_of c.args.scope.names.now in
    let inner = expressions c.args.scope.names.now in
    let inside = within c.args.scope.names.now (c.args.fuel - 1) in
    let chosen : statements.read_statement_around names inner inside c.args.scope.depth (list_of c.args.tokens.now.rest.now) ≡ statements.read_if inner inside c.args.scope.depth (list_of c.args.tokens.now.rest.now) = rw (sym c.next_is.ensures ∙ c.if-next_is.false, sym c.next_is-2.ensures ∙ c.if-next_is-2.false, sym c.next_keyword.ensures ∙ c.if-next_keyword.true) refl in
    subst (λ o. Gives o (λ x. statement_of x.value) c.if_statement.new.tokens.rest.now c.if_statement.result) (sym (statement-some names inner c.args.fuel c.args.scope.depth (list_of c.args.tokens.now.rest.now) c.if-fuel-eq0.false ∙ chosen)) c.if_statement.ensures.gives

pub statement-returns-then-next_keyword-2-clause-gives : goal.statement-returns-then-next_keyword-2-clause-gives
statement-returns-then-next_keyword-2-clause-gives t c =
    let names = names_of c.args.scope.names.now in
    let inner = expressions c.args.scope.names.now in
    let inside = within c.args.scope.names.now (c.args.fuel - 1) in
    let chosen : statements.read_statement_around names inner inside c.args.scope.depth (list_of c.args.tokens.now.rest.now) ≡ statements.read_switch names inner inside c.args.scope.depth (list_of c.args.tokens.now.rest.now) = rw (sym c.next_is.ensures ∙ c.if-next_is.false, sym c.next_is-2.ensures ∙ c.if-next_is-2.false, sym c.next_keyword.ensures ∙ c.if-next_keyword.false, sym c.next_keyword-2.ensures ∙ c.if-next_keyword-2.true) refl in
    subst (λ o. Gives o (λ x. statement_of x.value) c.switch_statement.new.tokens.rest.now c.switch_statement.result) (sym (statement-some names inner c.args.fuel c.args.scope.depth (list_of c.args.tokens.now.rest.now) c.if-fuel-eq0.false ∙ chosen)) c.switch_statement.ensures.gives

pub statement-returns-then-next_keyword-3-clause-gives : goal.statement-returns-then-next_keyword-3-clause-gives
statement-returns-then-next_keyword-3-clause-gives t c =
    let names = names_of c.args.scope.names.now in
    let inner = expressions c.args.scope.names.now in
    let inside = within c.args.scope.names.now (c.args.fuel - 1) in
    let chosen : statements.read_statement_around names inner inside c.args.scope.depth (list_of c.args.tokens.now.rest.now) ≡ statements.read_while inner inside c.args.scope.depth (list_of c.args.tokens.now.rest.now) = rw (sym c.next_is.ensures ∙ c.if-next_is.false, sym c.next_is-2.ensures ∙ c.if-next_is-2.false, sym c.next_keyword.ensures ∙ c.if-next_keyword.false, sym c.next_keyword-2.ensures ∙ c.if-next_keyword-2.false, sym c.next_keyword-3.ensures ∙ c.if-next_keyword-3.true) refl in
    subst (λ o. Gives o (λ x. statement_of x.value) c.while_statement.new.tokens.rest.now c.while_statement.result) (sym (statement-some names inner c.args.fuel c.args.scope.depth (list_of c.args.tokens.now.rest.now) c.if-fuel-eq0.false ∙ chosen)) c.while_statement.ensures.gives

pub statement-returns-then-next_keyword-4-clause-gives : goal.statement-returns-then-next_keyword-4-clause-gives
statement-returns-then-next_keyword-4-clause-gives t c =
    let names = names_of c.args.scope.names.now in
    let inner = expressions c.args.scope.names.now in
    let inside = within c.args.scope.names.now (c.args.fuel - 1) in
    let chosen : statements.read_statement_around names inner inside c.args.scope.depth (list_of c.args.tokens.now.rest.now) ≡ statements.read_do inner inside c.args.scope.depth (list_of c.args.tokens.now.rest.now) = rw (sym c.next_is.ensures ∙ c.if-next_is.false, sym c.next_is-2.ensures ∙ c.if-next_is-2.false, sym c.next_keyword.ensures ∙ c.if-next_keyword.false, sym c.next_keyword-2.ensures ∙ c.if-next_keyword-2.false, sym c.next_keyword-3.ensures ∙ c.if-next_keyword-3.false, sym c.next_keyword-4.ensures ∙ c.if-next_keyword-4.true) refl in
    subst (λ o. Gives o (λ x. statement_of x.value) c.do_statement.new.tokens.rest.now c.do_statement.result) (sym (statement-some names inner c.args.fuel c.args.scope.depth (list_of c.args.tokens.now.rest.now) c.if-fuel-eq0.false ∙ chosen)) c.do_statement.ensures.gives

pub statement-returns-then-next_keyword-5-clause-gives : goal.statement-returns-then-next_keyword-5-clause-gives
statement-returns-then-next_keyword-5-clause-gives t c =
    let names = names_of c.args.scope.names.now in
    let inner = expressions c.args.scope.names.now in
    let inside = within c.args.scope.names.now (c.args.fuel - 1) in
    let chosen : statements.read_statement_around names inner inside c.args.scope.depth (list_of c.args.tokens.now.rest.now) ≡ statements.read_for names inner inside c.args.scope.depth (list_of c.args.tokens.now.rest.now) = rw (sym c.next_is.ensures ∙ c.if-next_is.false, sym c.next_is-2.ensures ∙ c.if-next_is-2.false, sym c.next_keyword.ensures ∙ c.if-next_keyword.false, sym c.next_keyword-2.ensures ∙ c.if-next_keyword-2.false, sym c.next_keyword-3.ensures ∙ c.if-next_keyword-3.false, sym c.next_keyword-4.ensures ∙ c.if-next_keyword-4.false, sym c.next_keyword-5.ensures ∙ c.if-next_keyword-5.true) refl in
    subst (λ o. Gives o (λ x. statement_of x.value) c.for_statement.new.tokens.rest.now c.for_statement.result) (sym (statement-some names inner c.args.fuel c.args.scope.depth (list_of c.args.tokens.now.rest.now) c.if-fuel-eq0.false ∙ chosen)) c.for_statement.ensures.gives

pub statement-returns-clause-gives : goal.statement-returns-clause-gives
statement-returns-clause-gives t c =
    let names = names_of c.args.scope.names.now in
    let inner = expressions c.args.scope.names.now in
    let inside = within c.args.scope.names.now (c.args.fuel - 1) in
    let chosen : statements.read_statement_around names inner inside c.args.scope.depth (list_of c.args.tokens.now.rest.now) ≡ read_plain inner c.args.scope.depth (list_of c.args.tokens.now.rest.now) = rw (sym c.next_is.ensures ∙ c.if-next_is.false, sym c.next_is-2.ensures ∙ c.if-next_is-2.false, sym c.next_keyword.ensures ∙ c.if-next_keyword.false, sym c.next_keyword-2.ensures ∙ c.if-next_keyword-2.false, sym c.next_keyword-3.ensures ∙ c.if-next_keyword-3.false, sym c.next_keyword-4.ensures ∙ c.if-next_keyword-4.false, sym c.next_keyword-5.ensures ∙ c.if-next_keyword-5.false) refl in
    subst (λ o. Gives o (λ x. statement_of x.value) c.plain_statement.new.tokens.rest.now c.plain_statement.result) (sym (statement-some names inner c.args.fuel c.args.scope.depth (list_of c.args.tokens.now.rest.now) c.if-fuel-eq0.false ∙ chosen)) c.plain_statement.ensures.gives
