use Rattle.std.proofs.Common.{ℕ, Option, get_or, refl, subst}
use Rattle.memory_spec.specs.Viewed.{runs_of}
use Rattle.term_bank.specs.Nodes.{tree_at}
use Rattle.path_cond.proofs.Banks.{extends_itself, extends_then}
use Rattle.prove_run.specs.declared.trail.Trail.{Trail}
use Rattle.prove_run.specs.Logs.{HasLog}
use Rattle.prove_run.proofs.Searched.{none_so_far, inside_now, truth_now, one_so_far, one_trail, all_so_far}
use Rattle.prove_run.proofs.logs.add_logs.Goals as goal

pub loop-index-init : goal.loop-index-init
loop-index-init g c = record {
  grown = extends_itself c.args.bank.now;
  so_far = none_so_far (runs_of c.args.runs.now) c.args.bank.now c.args.goals.now c.args.logs.now.items c.requires.nothing;
}

pub add_log-requires : goal.add_log-requires
add_log-requires g c =
    inside_now (runs_of c.args.runs.now) c.args.bank.now c.args.goals.now c.loop-index.bank c.loop-index.invariant.grown c.requires.within c.loop-index.index
    (get_or c.args.goals.now c.loop-index.index 0) 0 c.loop-index-test.true refl

pub loop-index-preserved : goal.loop-index-preserved
loop-index-preserved g c =
    let id : ℕ = get_or c.args.goals.now c.loop-index.index 0 in
    record {
      grown = extends_then c.args.bank.now c.loop-index.bank c.add_log.new.bank c.loop-index.invariant.grown c.add_log.ensures.extends;
      so_far =
          one_so_far (runs_of c.args.runs.now) c.args.bank.now c.args.goals.now c.loop-index.bank c.loop-index.invariant.grown c.requires.within c.loop-index.index
          (get_or c.args.goals.now c.loop-index.index 0) 0 c.loop-index-test.true refl c.loop-index.logs.items c.add_log.new.logs.items c.loop-index.invariant.so_far
          (λ truths.
          subst
          (λ (t : Option Trail). HasLog (runs_of c.args.runs.now) (tree_at c.loop-index.bank id) c.loop-index.index c.loop-index.logs.items c.add_log.new.logs.items t)
          c.in-Ok-None.field-0-is
          (c.in-Ok-None.ensures.log
          (truth_now (runs_of c.args.runs.now) c.args.bank.now c.args.goals.now c.loop-index.bank c.loop-index.invariant.grown c.requires.within c.loop-index.index
          (get_or c.args.goals.now c.loop-index.index 0) 0 c.loop-index-test.true refl truths)));
    }

pub returns-in-Ok-Some : goal.returns-in-Ok-Some
returns-in-Ok-Some g c =
    let id : ℕ = get_or c.args.goals.now c.loop-index.index 0 in
    one_trail (runs_of c.args.runs.now) c.args.bank.now c.args.goals.now c.loop-index.bank c.loop-index.invariant.grown c.requires.within c.loop-index.index
    (get_or c.args.goals.now c.loop-index.index 0) 0 c.loop-index-test.true refl c.in-Ok-Some.trail
    (λ truths.
    subst (λ (t : Option Trail). HasLog (runs_of c.args.runs.now) (tree_at c.loop-index.bank id) c.loop-index.index c.loop-index.logs.items c.add_log.new.logs.items t)
    c.in-Ok-Some.field-0-is
    (c.in-Ok-Some.ensures.log
    (truth_now (runs_of c.args.runs.now) c.args.bank.now c.args.goals.now c.loop-index.bank c.loop-index.invariant.grown c.requires.within c.loop-index.index
    (get_or c.args.goals.now c.loop-index.index 0) 0 c.loop-index-test.true refl truths)))

pub returns : goal.returns
returns g c = all_so_far (runs_of c.args.runs.now) c.args.bank.now c.args.goals.now c.loop-index.index c.loop-index.logs.items c.loop-index-test.false c.loop-index.invariant.so_far
