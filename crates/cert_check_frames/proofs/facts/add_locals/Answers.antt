use Rattle.std.proofs.Common.{ℕ, List, ◌++◌, drop}
use Rattle.std.proofs.lemmas.List.{at_drop_all}
use Rattle.c_types_spec.specs.declared.Scalar.{Scalar}
use Rattle.agreement_laws.specs.EntryFrame.{local_facts}
use Rattle.cert_check_frames.specs.Facts.{facts_of}
use Rattle.cert_check_relations.proofs.Grown.{complete}
use Rattle.cert_check_frames.proofs.Locals.{one_local}
use Rattle.cert_check_frames.proofs.facts.add_locals.Goals as goal

pub loop-number-preserved : goal.loop-number-preserved
loop-number-preserved c =
    one_local c.args.parameters.now c.args.locals.now c.loop-number.number (facts_of c.loop-number.facts.items) (facts_of c.add_local.new.facts.items)
    (facts_of c.args.facts.now.items ++ local_facts 0 c.args.parameters.now c.args.locals.now) c.loop-number-test.true c.in-Ok-attempt.ensures c.loop-number.invariant

pub returns : goal.returns
returns c =
    let n : ℕ = c.loop-number.number in
    let parameters : List Scalar = c.args.parameters.now in
    let locals : List Scalar = c.args.locals.now in
    complete (facts_of c.loop-number.facts.items) (local_facts n (drop n parameters) (drop n locals)) (facts_of c.args.facts.now.items ++ local_facts 0 parameters locals)
    (at_drop_all (local_facts n (drop n parameters)) locals n c.loop-number-test.false) c.loop-number.invariant
