use Rattle.std.proofs.Common.{ℕ, Option, get_or, refl, subst}
use Rattle.std.specs.Prelude.{IfSome}
use Rattle.memory_spec.specs.Viewed.{runs_of}
use Rattle.term_core.specs.declared.assignment.Assignment.{Assignment}
use Rattle.term_bank.specs.Nodes.{tree_at}
use Rattle.path_cond.proofs.Banks.{extends_itself, extends_then}
use Rattle.discharge.specs.Answers.{RefutesGoal}
use Rattle.prove_run.specs.declared.trail.Trail.TheVariants.{Refuted}
use Rattle.prove_run.proofs.Searched.{inside_now, one_refuted}
use Rattle.prove_run.proofs.logs.refuted.Goals as goal

pub loop-index-init : goal.loop-index-init
loop-index-init c = record { grown = extends_itself c.args.bank.now }

pub refute-requires : goal.refute-requires
refute-requires c =
    inside_now (runs_of c.args.runs.now) c.args.bank.now c.args.goals.now c.loop-index.bank c.loop-index.invariant.grown c.requires c.loop-index.index
    (get_or c.args.goals.now c.loop-index.index 0) 0 c.loop-index-test.true refl

pub loop-index-preserved : goal.loop-index-preserved
loop-index-preserved c = record {
  grown = extends_then c.args.bank.now c.loop-index.bank c.refute.new.bank c.loop-index.invariant.grown c.refute.ensures.extends;
}

pub returns-in-Ok-Some-clause-trail : goal.returns-in-Ok-Some-clause-trail
returns-in-Ok-Some-clause-trail c =
    let id : ℕ = get_or c.args.goals.now c.loop-index.index 0 in
    let refutes : RefutesGoal (runs_of c.args.runs.now) (tree_at c.loop-index.bank id) c.in-Ok-Some.assignment =
    subst (λ (found : Option Assignment). IfSome found (RefutesGoal (runs_of c.args.runs.now) (tree_at c.loop-index.bank id))) c.in-Ok-Some.field-0-is
    c.in-Ok-Some.ensures.refutes in
    one_refuted (runs_of c.args.runs.now) c.args.bank.now c.args.goals.now c.loop-index.bank c.loop-index.invariant.grown c.requires c.loop-index.index id 0 c.loop-index-test.true refl
    (Refuted c.loop-index.index c.in-Ok-Some.assignment) (refl, refutes.0, c.is_assignment.ensures, refutes.1)

pub returns-in-Ok-Some-clause-extends : goal.returns-in-Ok-Some-clause-extends
returns-in-Ok-Some-clause-extends c = extends_then c.args.bank.now c.loop-index.bank c.refute.new.bank c.loop-index.invariant.grown c.refute.ensures.extends
