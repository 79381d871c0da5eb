use Rattle.std.proofs.Common.{◌≡◌, ◌∙◌, sym, subst, ap, map, ◌++◌, ◌∷◌, []}
use Rattle.std.proofs.lemmas.List.{map-append}
use Rattle.c_parse_laws.specs.Statements.{begins_label, read_label}
use Rattle.c_syntax.specs.Locals.{label_of}
use Rattle.c_parse_token.specs.Lists.{list_of}
use Rattle.c_parse_token.proofs.Steps.{fewer}
use Rattle.c_parse_expression.specs.Whole.{expressions}
use Rattle.c_parse.specs.Pieces.{taken_labels}
use Rattle.c_parse.specs.Runs.{Run, none}
use Rattle.c_parse.proofs.Runs.{run-last, run-fault}
use Rattle.c_parse.proofs.pieces.labels.Goals as goal

pub items-init : goal.items-init
items-init c = subst (λ items. Run begins_label (read_label (expressions c.args.scope.names.now) c.args.scope.depth) (list_of c.args.tokens.now.rest.now) (map label_of items) (list_of c.args.tokens.now.rest.now)) (sym c.new-all.ensures.items) (none (list_of c.args.tokens.now.rest.now))

pub items-preserved : goal.items-preserved
items-preserved c =
    let next = c.in-Ok-attempt.field-0 in
    let rest = c.label.new.tokens.rest.now in
    let all : taken_labels c.push.new.self ≡ taken_labels c.items.all ++ label_of next ∷ [] = ap (map label_of) c.in-Ok-allocated.ensures.items ∙ map-append label_of c.items.all.items (next ∷ []) in
    subst (λ xs. Run begins_label (read_label (expressions c.args.scope.names.now) c.args.scope.depth) (list_of c.args.tokens.now.rest.now) xs (list_of rest)) (sym all)
    (run-last begins_label (read_label (expressions c.args.scope.names.now) c.args.scope.depth) (list_of c.args.tokens.now.rest.now) (list_of c.items.tokens.rest.now) (list_of rest) (taken_labels c.items.all) (label_of next) c.items.invariant (sym c.starts_label.ensures ∙ c.items-test.true) c.in-Ok-attempt.ensures.gives (fewer rest c.items.tokens.rest.now c.in-Ok-attempt.ensures.shorter))

pub returns-in-items : goal.returns-in-items
returns-in-items c = record { runs = run-fault begins_label (read_label (expressions c.args.scope.names.now) c.args.scope.depth) taken_labels label_of _ _ (list_of c.items.tokens.rest.now) (taken_labels c.items.all) c.in-Err-attempt.field-0 c.items.invariant (sym c.starts_label.ensures ∙ c.items-test.true) c.in-Err-attempt.ensures.gives }

pub returns : goal.returns
returns c = record { runs = (c.items.invariant, sym c.starts_label.ensures ∙ c.items-test.false) }
