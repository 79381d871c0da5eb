use Rattle.std.proofs.Common.{◌<◌, length, get_or, arith}
use Rattle.term_core_spec.specs.declared.Family.TheVariants.{Register}
use Rattle.term_core_spec.specs.declared.Sort.TheVariants.{Truth}
use Rattle.term_bank.specs.Nodes.{tree_at}
use Rattle.mem_terms.specs.declared.ids.LoadIds.{LoadIds}
use Rattle.mem_terms.proofs.Trees.{extends_then, within_later, tree_as}
use Rattle.mem_terms.proofs.Pairs.{within_at, later_step}
use Rattle.mem_terms.proofs.ties.with_later.Goals as goal

nothing : LoadIds
nothing = record { memory = record { family = Register; index = 0; instance = 0; sort = Truth }; address = 0; byte = 0 }

pub with_agreement-requires-clause-y_within : goal.with_agreement-requires-clause-y_within
unfolding nothing
with_agreement-requires-clause-y_within c =
    within_later c.args.bank.now c.loop-other.bank (get_or c.args.later.now c.loop-other.other-index nothing) c.loop-other.invariant.extends
    (within_at (length c.args.bank.now) c.args.later.now c.loop-other.other-index nothing c.requires.later_within (omega arith))

pub loop-other-preserved : goal.loop-other-preserved
unfolding nothing
loop-other-preserved c = record {
  extends = extends_then c.args.bank.now c.loop-other.bank c.with_agreement.new.bank c.loop-other.invariant.extends c.with_agreement.ensures.extends;
  tree = tree_as c.with_agreement.new.bank c.in_ok-all.all _ _
      (later_step c.args.bank.now c.loop-other.bank c.args.load c.args.later.now c.loop-other.other-index nothing (tree_at c.args.bank.now c.args.so_far) (tree_at c.loop-other.bank c.loop-other.all)
      c.loop-other.invariant.extends c.requires.load_within c.requires.later_within (omega arith) c.loop-other.invariant.tree.tree)
      c.in_ok-all.ensures.tree;
}
