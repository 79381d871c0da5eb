use Rattle.std.proofs.Common.{sym, ◌∙◌}
use Rattle.term_sorts.proofs.Walks.{already}
use Rattle.term_sorts.proofs.order.add_subterms.Goals as goal

pub returns-then-contains-clause-adds : goal.returns-then-contains-clause-adds
returns-then-contains-clause-adds c =
    already c.args.bank.now c.are_distinct.ensures c.args.found.now.keys c.args.id c.requires.order c.requires.within (sym c.contains.ensures ∙ c.if-contains.true)
