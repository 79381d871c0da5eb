use Rattle.std.proofs.Common.{◌≡◌, ◌∙◌, true, false, sym}
use Rattle.term_core_spec.specs.declared.Family.TheVariants.{Register}
use Rattle.term_core_spec.specs.declared.Sort.TheVariants.{Truth}
use Rattle.graph_core.specs.declared.shared.SharedBinding.{SharedBinding}
use Rattle.graph_inline.proofs.Inputs.{input_step, input_end}
use Rattle.graph_inline.proofs.start.find_input.Goals as goal

nothing : SharedBinding
nothing = record { variable = record { family = Register; index = 0; instance = 0; sort = Truth }; term = 0 }

pub returns-then-eq : goal.returns-then-eq
unfolding nothing
returns-then-eq c =
    sym (sym c.loop-input.invariant ∙ input_step c.args.inputs.now c.loop-input.input-index nothing c.args.variable true c.loop-input-test.true (sym c.eq.ensures ∙ c.if-eq.true))

pub loop-input-preserved : goal.loop-input-preserved
unfolding nothing
loop-input-preserved c =
    sym (input_step c.args.inputs.now c.loop-input.input-index nothing c.args.variable false c.loop-input-test.true (sym c.eq.ensures ∙ c.if-eq.false)) ∙ c.loop-input.invariant

pub returns : goal.returns
returns c = sym (input_end c.args.inputs.now c.loop-input.input-index c.args.variable c.loop-input-test.false) ∙ c.loop-input.invariant
