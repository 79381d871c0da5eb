use Rattle.prove_run.proofs.Listing.{none_found, one_found, all_found, as_many}
use Rattle.prove_run.proofs.search.add_found.Goals as goal

pub loop-index-init : goal.loop-index-init
loop-index-init g c = none_found c.args.listed.now c.args.all.now.items c.requires

pub loop-index-preserved : goal.loop-index-preserved
loop-index-preserved g c =
    one_found c.args.listed.now c.loop-index.index c.loop-index.all.items c.push.new.self.items c.in-Ok-attempt.field-0 c.index-listed-index.result _ c.loop-index.invariant
    c.loop-index-test.true c.index-listed-index.is c.in-Ok-attempt-2.ensures.items (λ f is truths. c.in-Ok-attempt.ensures f is truths)

pub returns-clause-found : goal.returns-clause-found
returns-clause-found g c = λ functions are truths. all_found c.args.listed.now c.loop-index.index c.loop-index.all.items c.loop-index-test.false c.loop-index.invariant functions are truths

pub returns-clause-count : goal.returns-clause-count
returns-clause-count g c = as_many c.args.listed.now c.loop-index.index c.loop-index.all.items c.loop-index-test.false c.loop-index.invariant
