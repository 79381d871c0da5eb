use Rattle.std.proofs.Common.{map, Option, Vec, ℤ}
use Rattle.std.specs.declared.alloc.Global.{Global}
use Rattle.c_syntax.specs.Locals.{label_of}
use Rattle.c_types_scope.specs.States.{state_of}
use Rattle.c_types_statement.proofs.GroupLabels.{labels-given, labels-kept, labels-failed}
use Rattle.c_types_statement.proofs.labels.labels.Goals as goal

pub returns-in-Ok-clause-given : goal.returns-in-Ok-clause-given
returns-in-Ok-clause-given c =
    labels-given (map label_of c.args.list.now) c.args.of c.args.seen.now.keys c.add_labels.new.seen.keys c.as_slice.result.now c.len-start.result (state_of c.args.state.now) c.add_labels.new.state c.labels_since.result
    c.len-start.ensures.len c.as_slice.ensures.keys c.in-Ok.ensures c.labels_since.ensures

pub returns-in-Ok-clause-kept : goal.returns-in-Ok-clause-kept
returns-in-Ok-clause-kept c =
    labels-kept (map label_of c.args.list.now) c.args.of c.args.seen.now.keys c.add_labels.new.seen.keys c.as_slice.result.now c.len-start.result (state_of c.args.state.now) c.add_labels.new.state c.labels_since.result
    c.len-start.ensures.len c.as_slice.ensures.keys c.in-Ok.ensures c.labels_since.ensures

pub returns-in-Err-clause-given : goal.returns-in-Err-clause-given
returns-in-Err-clause-given c =
    labels-failed {A = Unit {0}} {B = Vec (Option ℤ) Global} (map label_of c.args.list.now) c.args.of c.args.seen.now.keys (state_of c.args.state.now) (λ _. c.add_labels.new.seen.keys) (λ l. l.items) c.add_labels.new.state c.in-Err.fault c.in-Err.ensures
