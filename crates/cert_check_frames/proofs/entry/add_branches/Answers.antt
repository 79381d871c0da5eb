use Rattle.std.proofs.Common.{false, get_or, map, ap}
use Rattle.term_core.specs.declared.term.Term.{Term}
use Rattle.term_core.specs.Trees.{term_of}
use Rattle.proof_tree.specs.Frames.{premise_of}
use Rattle.cert_check_frames.specs.declared.jobs.Branch.{Branch}
use Rattle.cert_check_frames.specs.Jobs as jobs
use Rattle.cert_check_frames.proofs.Made.{no_branches, branch_added, all_branches}
use Rattle.cert_check_frames.proofs.entry.add_branches.Goals as goal

pub loop-index-init : goal.loop-index-init
loop-index-init c = no_branches (map premise_of c.args.premises.now.items)

pub loop-index-preserved : goal.loop-index-preserved
loop-index-preserved c =
    let d : Branch = record { test = 0; holds = false } in
    branch_added (map premise_of c.args.premises.now.items) c.args.branches.now c.args.tests.now c.loop-index.index d c.index-tests-index.result c.loop-index.premises.items c.push.new.self.items _
    c.requires c.loop-index-test.true c.index-tests-index.is c.loop-index.invariant c.in-Ok-attempt.ensures.items
    (ap (λ (t : Term). jobs.premise_of (get_or c.args.branches.now c.loop-index.index d) (term_of t)) c.deref.ensures)

pub returns : goal.returns
returns c =
    all_branches (map premise_of c.args.premises.now.items) c.args.branches.now c.args.tests.now c.loop-index.index c.loop-index.premises.items c.requires c.loop-index-test.false c.loop-index.invariant
