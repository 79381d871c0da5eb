use Rattle.std.proofs.Common.{◌∙◌, get_or, refl, sym, true≢false, arith}
use Rattle.c_types.specs.Typed.{typed_of}
use Rattle.pair_setup_calls.specs.Names.{names_of}
use Rattle.pair_setup.specs.Sizes.{IsLargeAt}
use Rattle.pair_setup_calls.proofs.Cycles.{none-more}
use Rattle.pair_setup.proofs.Large.{any-source, no-source}
use Rattle.pair_setup.proofs.nodes.any_large_source.Goals as goal

pub returns-then-attempt : goal.returns-then-attempt
returns-then-attempt c = (
  λ t. any-source (typed_of c.args.unit.now) (names_of c.args.unit.now) c.args.numbers.now c.loop-number.number-index c.loop-number-test.true
      (c.in-Ok-attempt.ensures.0 c.if-attempt.true),
  λ any. refl,
)

pub loop-number-preserved : goal.loop-number-preserved
loop-number-preserved c =
    none-more (IsLargeAt (typed_of c.args.unit.now) (names_of c.args.unit.now)) c.args.numbers.now c.loop-number.number-index (get_or c.args.numbers.now c.loop-number.number-index 0) refl
    c.loop-number.invariant (λ large. true≢false (sym (c.in-Ok-attempt.ensures.1 large) ∙ c.if-attempt.false))

pub returns : goal.returns
returns c = (
  λ no. absurd (true≢false (sym no)),
  λ any. absurd (no-source (typed_of c.args.unit.now) (names_of c.args.unit.now) c.args.numbers.now c.loop-number.number-index (omega arith) c.loop-number.invariant any),
)
