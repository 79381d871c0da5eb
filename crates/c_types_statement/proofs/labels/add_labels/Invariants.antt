use Rattle.std.proofs.Common.{◌≡◌, [], drop, map}
use Rattle.c_syntax.specs.Locals.{label_of}
use Rattle.c_types_spec.specs.Statements as rule
use Rattle.c_types_scope.specs.States.{state_of}
use Rattle.c_types_statement.proofs.labels.add_labels.Given as goal

-- what is left gives what all give
abbrev pub invariant-loop-item : goal.invariant-loop-item
invariant-loop-item l =
    rule.labels (map label_of (drop l.item-index l.list)) l.of [] l.seen.keys (state_of l.state)
    ≡ rule.labels (map label_of l.list) l.of [] l.fn.seen.keys (state_of l.fn.state)
