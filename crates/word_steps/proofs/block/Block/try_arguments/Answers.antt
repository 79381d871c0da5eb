use Rattle.std.specs.Prelude.{◌||◌}
use Rattle.std.proofs.Common.{suc, ◌+◌, ◌≡◌, refl, sym, ap, ◌∙◌, subst, arith, length}
use Rattle.memory_spec.specs.Viewed.{runs_of}
use Rattle.term_bank.specs.Subterms.{arguments_of}
use Rattle.word_steps_spec.specs.Lines as lines
use Rattle.word_steps_spec.specs.Lines.{with_places}
use Rattle.word_steps.specs.declared.number.Number.{Number}
use Rattle.word_steps.specs.Outcomes.{Tries}
use Rattle.word_steps.specs.Views.{fact_at, with_all_places}
use Rattle.term_norm.proofs.Growth.{extends_same, extends_through}
use Rattle.word_steps.proofs.Arguing.{nothing_yet, one_more, tries_as, tries_block, all_places}
use Rattle.word_steps.proofs.block.Block.try_arguments.Goals as goal

pub loop-i-init : goal.loop-i-init
loop-i-init c =
    record { tries = nothing_yet (runs_of c.args.runs.now) (fact_at c.args.index c.args.holds) c.args.bank.now c.args.self.now c.requires.block; block = c.requires.block; grown = extends_same c.args.bank.now; count = refl }

pub loop-i-preserved : goal.loop-i-preserved
loop-i-preserved c =
    let f = fact_at c.args.index c.args.holds in
    let one : suc c.loop-i.i ≡ c.loop-i.i + 1 = omega arith in
    let tried = subst (λ n. Tries c.loop-i.bank c.try_argument.new.bank c.loop-i.self c.try_argument.new.self (lines.with_argument_fact (runs_of c.args.runs.now) f n) c.in-Ok-attempt.field-0) (sym one) c.in-Ok-attempt.ensures.tries in
    let more = one_more (runs_of c.args.runs.now) f c.args.bank.now c.loop-i.bank c.try_argument.new.bank c.args.self.now c.loop-i.self c.try_argument.new.self c.loop-i.i c.loop-i.found c.in-Ok-attempt.field-0 c.loop-i.invariant.tries tried in
    record {
      tries = subst (Tries c.args.bank.now c.try_argument.new.bank c.args.self.now c.try_argument.new.self (with_places (runs_of c.args.runs.now) f (c.loop-i.i + 1))) (sym c.either-found.ensures)
          (subst (λ n. Tries c.args.bank.now c.try_argument.new.bank c.args.self.now c.try_argument.new.self (with_places (runs_of c.args.runs.now) f n) (c.loop-i.found || c.in-Ok-attempt.field-0)) one more);
      block = tries_block c.loop-i.bank c.try_argument.new.bank c.loop-i.self c.try_argument.new.self _ c.in-Ok-attempt.field-0 c.in-Ok-attempt.ensures.tries;
      grown = extends_through c.args.bank.now c.loop-i.bank c.try_argument.new.bank c.loop-i.invariant.grown c.try_argument.ensures.extends;
      count = c.in-Ok-attempt.ensures.count ∙ c.loop-i.invariant.count;
    }

pub returns-clause-tries : goal.returns-clause-tries
returns-clause-tries c =
    let f = fact_at c.args.index c.args.holds in
    let count : c.loop-i.i ≡ c.argument_count-count.result = omega arith in
    tries_as c.args.bank.now c.loop-i.bank c.args.self.now c.loop-i.self (with_places (runs_of c.args.runs.now) f c.loop-i.i) (with_all_places (runs_of c.args.runs.now) f) c.loop-i.found
    (all_places (runs_of c.args.runs.now) c.args.bank.now c.args.self.now c.args.index c.args.holds c.loop-i.i c.requires.block c.requires.index
    (count ∙ c.argument_count-count.ensures ∙ ap (λ (m : Number). length (arguments_of m.operation)) c.number.ensures))
    c.loop-i.invariant.tries
