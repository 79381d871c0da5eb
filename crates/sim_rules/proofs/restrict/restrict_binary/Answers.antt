use Rattle.proof_tree.specs.Frames.{frame_of}
use Rattle.sim_rules_spec.specs.Obligations.{RestrictBinary}
use Rattle.sim_rules.specs.declared.change.Change.TheVariants.{Plain, Restricting}
use Rattle.sim_rules.specs.Terms.{restrict_all}
use Rattle.sim_rules.proofs.Answering.{by_fault}
use Rattle.sim_rules.proofs.Answered.{added, can_see, binary_answer}
use Rattle.sim_rules.proofs.Faulty.{binary_fault}
use Rattle.sim_rules.proofs.Made.{few_fault, some_sides}
use Rattle.sim_rules.proofs.restrict.restrict_binary.Goals as goal

-- a walk is not as the rule needs it
pub returns-in-Err-clause-answer : goal.returns-in-Err-clause-answer
returns-in-Err-clause-answer c =
    let s = c.args.setup.now in
    let sides = c.in-Ok-attempt.field-0 in
    let walked = c.in-Ok-attempt.ensures in
    let bound = c.args.bound in
    by_fault c.args.bank.now c.args.bank.now s (RestrictBinary bound) c.in-Err.refusal
    (λ o. few_fault (binary_fault o (frame_of s.frame.now) s.maximum bound sides.binary.way.shape.successors.items walked.of_binary.shape_is) (walked.of_binary.walk_is o) (walked.of_source.walk_is o) (c.in-Err.ensures s.maximum walked.binary_outcome walked.source_outcome))

pub conditions-requires : goal.conditions-requires
conditions-requires c = some_sides c.args.bank.now c.args.setup.now _ _ c.in-Ok-attempt.field-0 c.in-Ok-attempt.ensures c.requires.opening

pub add_excluded-added-requires-clause-see : goal.add_excluded-added-requires-clause-see
add_excluded-added-requires-clause-see c =
    can_see c.args.bank.now c.conditions.new.bank c.conditions.new.bank c.conditions.ensures.extends c.args.setup.now _ _ c.in-Ok-attempt.field-0 c.in-Ok-conditions.found c.seen-both.result c.seen-both.ensures.setup
    c.in-Ok-attempt.ensures c.seen-both.ensures.seen c.in-Ok-conditions.ensures.found c.requires.opening

pub returns-in-Ok-added-clause-answer : goal.returns-in-Ok-added-clause-answer
returns-in-Ok-added-clause-answer c =
    let b0 = c.args.bank.now in
    let b1 = c.conditions.new.bank in
    let b2 = c.add_excluded-added.new.bank in
    let s = c.args.setup.now in
    let sides = c.in-Ok-attempt.field-0 in
    let walked = c.in-Ok-attempt.ensures in
    let bound = c.args.bound in
    let enough = c.in-Ok.ensures s.maximum walked.binary_outcome walked.source_outcome in
    binary_answer b0 b2 s sides c.add_excluded-added.new.ids c.requires.opening bound walked enough
    (added b0 b1 b2 c.conditions.ensures.extends s (Restricting bound) Plain sides c.in-Ok-conditions.found c.seen-both.result c.seen-both.ensures.setup
    walked c.seen-both.ensures.seen c.in-Ok-conditions.ensures.found c.add_excluded-added.new.ids.items
    (λ z k o a d. restrict_all o (frame_of z.frame.now) a d a (frame_of z.frame.now).start.binary_bounds bound) c.in-Ok-added.ensures.terms)
