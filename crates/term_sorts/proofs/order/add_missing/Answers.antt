use Rattle.term_sorts.proofs.Walks.{walk_start, walk_within}
use Rattle.term_sorts.proofs.order.add_missing.Goals as goal

pub steps-init : goal.steps-init
steps-init c = walk_start c.args.bank.now c.args.id c.args.found.now.keys c.args.waiting.now.items c.requires.order c.requires.none c.requires.new

pub step-requires : goal.step-requires
step-requires c =
    walk_within c.args.bank.now c.args.id c.args.found.now.keys c.steps.found.keys c.steps.waiting.items c.steps.at c.requires.within c.steps.invariant
