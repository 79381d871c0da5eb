use Rattle.std.proofs.Common.{◌∙◌, drop, ap, sym, subst}
use Rattle.std.specs.Prelude.{OnOk, IfErr}
use Rattle.pair_setup_calls.specs.Graph.{graph_of, Grows, IsClosed, Reaches}
use Rattle.c_types.specs.Typed.{typed_of}
use Rattle.pair_setup_calls.specs.Names.{names_of}
use Rattle.pair_setup.specs.Names.{IsPassed, IsNameError, IsLeast, IsUsedMarked}
use Rattle.pair_setup.proofs.Numbering.{numbering}
use Rattle.pair_setup.proofs.Passing.{passed-if, fault-if}
use Rattle.pair_setup.proofs.names.check_declared.Goals as goal

pub extend-requires : goal.extend-requires
extend-requires c = record { closed = subst (λ l. IsClosed (graph_of l) c.args.seen.now.keys) (sym c.as_slice.ensures.value) c.requires.fine.closed }

pub returns-4-clause-passed : goal.returns-4-clause-passed
returns-4-clause-passed c =
    let graph = graph_of c.args.survey.now.graph.items in
    subst (λ r. OnOk r (IsPassed c.args.image.now (typed_of c.args.unit.now) (names_of c.args.unit.now) graph c.args.survey.now.misplaced.items c.args.name.now
    c.args.seen.now.keys c.extend.new.nodes.keys)) (sym c.refusal.ensures)
    (passed-if c.args.image.now (typed_of c.args.unit.now) (names_of c.args.unit.now) c.requires.typed (numbering c.args.unit.now c.requires.survey.apart) graph
    c.requires.survey.graph_is c.args.survey.now.misplaced.items c.requires.survey.marks_are c.args.name.now c.args.start c.requires.declared c.args.seen.now.keys
    c.extend.new.nodes.keys c.requires.fine (subst (λ l. Grows (Reaches (graph_of l) c.args.start) c.args.seen.now.keys c.extend.new.nodes.keys) c.as_slice.ensures.value c.in-Ok-attempt.ensures.grows)
    (subst (λ l. IsClosed (graph_of l) c.extend.new.nodes.keys) c.as_slice.ensures.value c.in-Ok-attempt.ensures.closed) c.added-numbers.result.now
    (c.added-numbers.ensures ∙ ap (λ k. drop k c.extend.new.nodes.keys) c.len-before.ensures.len)
    c.in-Ok-attempt-lacking.field-0 c.is_absent.result c.in-Ok-attempt-global.field-0 c.args.index c.in-Ok-attempt-lacking.ensures c.is_absent.ensures
    (subst (λ m. IsLeast (IsUsedMarked (typed_of c.args.unit.now) (names_of c.args.unit.now) m c.added-numbers.result.now) c.in-Ok-attempt-global.field-0) c.as_slice-marks.ensures.value c.in-Ok-attempt-global.ensures))

pub returns-4-clause-fault : goal.returns-4-clause-fault
returns-4-clause-fault c =
    let graph = graph_of c.args.survey.now.graph.items in
    subst (λ r. IfErr r (IsNameError c.args.image.now (typed_of c.args.unit.now) (names_of c.args.unit.now) c.args.name.now c.args.index)) (sym c.refusal.ensures)
    (fault-if c.args.image.now (typed_of c.args.unit.now) (names_of c.args.unit.now) c.requires.typed (numbering c.args.unit.now c.requires.survey.apart) graph
    c.requires.survey.graph_is c.args.survey.now.misplaced.items c.requires.survey.marks_are c.args.name.now c.args.start c.requires.declared c.args.seen.now.keys
    c.extend.new.nodes.keys c.requires.fine (subst (λ l. Grows (Reaches (graph_of l) c.args.start) c.args.seen.now.keys c.extend.new.nodes.keys) c.as_slice.ensures.value c.in-Ok-attempt.ensures.grows)
    (subst (λ l. IsClosed (graph_of l) c.extend.new.nodes.keys) c.as_slice.ensures.value c.in-Ok-attempt.ensures.closed) c.added-numbers.result.now
    (c.added-numbers.ensures ∙ ap (λ k. drop k c.extend.new.nodes.keys) c.len-before.ensures.len)
    c.in-Ok-attempt-lacking.field-0 c.is_absent.result c.in-Ok-attempt-global.field-0 c.args.index c.in-Ok-attempt-lacking.ensures c.is_absent.ensures
    (subst (λ m. IsLeast (IsUsedMarked (typed_of c.args.unit.now) (names_of c.args.unit.now) m c.added-numbers.result.now) c.in-Ok-attempt-global.field-0) c.as_slice-marks.ensures.value c.in-Ok-attempt-global.ensures))
