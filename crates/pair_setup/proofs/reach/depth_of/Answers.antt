use Rattle.std.proofs.Common.{◌∙◌, sym, subst, true≢false}
use Rattle.std.specs.Prelude.{IfSome}
use Rattle.code_reach_spec.specs.Code as code
use Rattle.code_reach.specs.Found.{IsDepth}
use Rattle.pair_setup_calls.specs.Graph.{graph_of, IsCyclic}
use Rattle.c_types.specs.Typed.{typed_of}
use Rattle.pair_setup_calls.specs.Names.{names_of}
use Rattle.pair_setup.specs.Depths.{IsDepthOf}
use Rattle.pair_setup.specs.Surveys.{AreAcyclic}
use Rattle.pair_setup.proofs.Numbering.{numbering}
use Rattle.pair_setup.proofs.Shallow.{source-cyclic, code-cyclic, within-depth}
use Rattle.pair_setup.proofs.reach.depth_of.Goals as goal

pub reaches_cycle-requires : goal.reaches_cycle-requires
reaches_cycle-requires c =
    subst (AreAcyclic (graph_of c.as_slice-graph.result.now)) (sym c.as_slice-depths.ensures.value)
    (subst (λ l. AreAcyclic (graph_of l) c.args.survey.now.depths.items) (sym c.as_slice-graph.ensures.value) c.requires.survey.acyclic)

pub returns-then-attempt : goal.returns-then-attempt
returns-then-attempt c = λ name at.
    source-cyclic c.args.image.now (typed_of c.args.unit.now) (names_of c.args.unit.now) c.requires.typed (numbering c.args.unit.now c.requires.survey.apart)
    (graph_of c.args.survey.now.graph.items) c.requires.survey.graph_is c.args.start c.args.entry name at
    (subst (λ l. IsCyclic (graph_of l) c.args.start) c.as_slice-graph.ensures.value (c.in-Ok-attempt.ensures.0 c.if-attempt.true))

pub returns-in-None : goal.returns-in-None
returns-in-None c = λ name at.
    code-cyclic c.args.image.now (typed_of c.args.unit.now) (names_of c.args.unit.now) c.requires.typed (numbering c.args.unit.now c.requires.survey.apart)
    (graph_of c.args.survey.now.graph.items) c.requires.survey.graph_is c.args.start c.args.entry name at
    (subst (IsDepth c.args.image.now c.args.entry) c.in-None.is c.in-Ok-attempt-2.ensures.found)

pub returns-in-Some : goal.returns-in-Some
returns-in-Some c = λ name at.
    subst (IsDepthOf c.args.image.now (typed_of c.args.unit.now) name c.args.entry) (sym c.within.ensures)
    (within-depth c.args.image.now (typed_of c.args.unit.now) (names_of c.args.unit.now) c.requires.typed (numbering c.args.unit.now c.requires.survey.apart)
    (graph_of c.args.survey.now.graph.items) c.requires.survey.graph_is c.args.start c.args.entry name at
    (λ cyclic. true≢false (sym (c.in-Ok-attempt.ensures.1 (subst (λ l. IsCyclic (graph_of l) c.args.start) (sym c.as_slice-graph.ensures.value) cyclic)) ∙ c.if-attempt.false))
    (subst (λ o. IfSome o (λ _. code.IsCyclic c.args.image.now c.args.entry → ⊥)) c.in-Some.is c.in-Ok-attempt-2.ensures.acyclic) c.in-Some.stack
    (subst (IsDepth c.args.image.now c.args.entry) c.in-Some.is c.in-Ok-attempt-2.ensures.found))
