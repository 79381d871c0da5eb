use Rattle.std.proofs.Common.{ℕ, List, ◌++◌, drop}
use Rattle.std.proofs.lemmas.List.{at_drop_all}
use Rattle.c_types_spec.specs.declared.Scalar.{Scalar}
use Rattle.agreement_laws.specs.EntryFrame.{argument_facts}
use Rattle.cert_check_frames.specs.Facts.{facts_of}
use Rattle.cert_check_relations.proofs.Grown.{complete}
use Rattle.cert_check_frames.proofs.Locals.{one_argument}
use Rattle.cert_check_frames.proofs.facts.add_arguments.Goals as goal

pub loop-number-preserved : goal.loop-number-preserved
loop-number-preserved c =
    one_argument c.args.parameters.now c.loop-number.number _ (facts_of c.loop-number.facts.items) (facts_of c.add_argument.new.facts.items)
    (facts_of c.args.facts.now.items ++ argument_facts 0 c.args.parameters.now) c.loop-number-test.true c.in-Ok-attempt.ensures c.loop-number.invariant

pub returns : goal.returns
returns c =
    let n : ℕ = c.loop-number.number in
    let all : List Scalar = c.args.parameters.now in
    complete (facts_of c.loop-number.facts.items) (argument_facts n (drop n all)) (facts_of c.args.facts.now.items ++ argument_facts 0 all)
    (at_drop_all (argument_facts n) all n c.loop-number-test.false) c.loop-number.invariant
