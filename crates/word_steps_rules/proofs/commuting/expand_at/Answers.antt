use Rattle.std.proofs.Common.{length, sym, arith}
use Rattle.word_steps_rules.proofs.Arguments.{step_plain, step_sides}
use Rattle.word_steps_rules.proofs.commuting.expand_at.Goals as goal

pub returns-in_ok-insert-in-Some : goal.returns-in_ok-insert-in-Some
returns-in_ok-insert-in-Some c =
    λ old h.
    let below = c.in-Some.ensures.below in
    step_sides c.args.bank.now c.args.operator (length c.args.sorts.now) old c.args.terms.now.items c.insert.new.self.items c.args.at c.args.id c.in-Some.sides.left c.in-Some.sides.right c.requires.id
    (sym c.in-Some.ensures.sides) (omega (arith, below.0, c.requires.within)) (omega (arith, below.1, c.requires.within)) c.in_ok-insert-in-Some.ensures.items h

pub returns-in-None : goal.returns-in-None
returns-in-None c =
    λ old h. step_plain c.args.bank.now c.args.operator (length c.args.sorts.now) old c.args.terms.now.items c.args.at c.args.id c.requires.id (sym c.in-None.ensures.sides) h
