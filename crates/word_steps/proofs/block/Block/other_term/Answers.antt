use Rattle.std.proofs.Common.{subst, sym, Some}
use Rattle.std.specs.Prelude.{IfOk}
use Rattle.term_bank.specs.Nodes.{Holds}
use Rattle.word_steps.specs.declared.number.Number.{Number}
use Rattle.word_steps.specs.declared.number.Other.{Other}
use Rattle.word_steps.specs.declared.number.Other.TheVariants.{Index}
use Rattle.word_steps.specs.Views.{count_of, other_in}
use Rattle.word_steps.specs.Shows.{IsOther}
use Rattle.word_steps.proofs.Renewals.{held_other}
use Rattle.word_steps.proofs.block.Block.other_term.Goals as goal

pub number-requires : goal.number-requires
number-requires c = subst (λ (o : Other). IsOther (count_of c.args.self.now) (Some o)) c.in-Index.is c.requires.other

pub returns-in-Index-clause-other : goal.returns-in-Index-clause-other
returns-in-Index-clause-other c =
    let trees = c.args.bank.now in
    let items = c.args.self.now.numbers.items in
    let below = subst (λ (o : Other). IsOther (count_of c.args.self.now) (Some o)) c.in-Index.is c.requires.other in
    let index = c.in-Index.index in
    let known = held_other trees c.args.self.now c.requires.block index below in
    subst (λ (o : Other). Holds trees c.number.result.now (other_in trees items o)) (sym c.in-Index.is)
    (subst (λ (m : Number). Holds trees m.now (other_in trees items (Index index))) (sym c.number.ensures) known)

pub returns-in-Constant-clause-other : goal.returns-in-Constant-clause-other
returns-in-Constant-clause-other c =
    subst (λ (o : Other). IfOk c.add.result (λ id. Holds c.add.new.self id (other_in c.args.bank.now c.args.self.now.numbers.items o))) (sym c.in-Constant.is) c.add.ensures.id
