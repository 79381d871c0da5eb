use Rattle.std.proofs.Common.{◌≡◌, ◌+◌, ◌<◌, length, map, drop, get_or, sym, ap, ◌∙◌, subst, arith}
use Rattle.term_core_spec.specs.declared.Family.TheVariants.{Register}
use Rattle.term_core_spec.specs.declared.Sort.TheVariants.{Truth}
use Rattle.term_core_spec.specs.declared.Variable.{Variable}
use Rattle.term_bank.specs.Nodes.{tree_at}
use Rattle.mem_terms_spec.specs.Flat.{pairs, all_of}
use Rattle.mem_terms.specs.Ids.{load_at, AreWithin}
use Rattle.mem_terms.proofs.Trees.{extends_then, all_within_later}
use Rattle.mem_terms.proofs.Pairs.{within_filter, consistent_step}
use Rattle.mem_terms.proofs.ties.consistent.Goals as goal

nothing : Variable
nothing = record { family = Register; index = 0; instance = 0; sort = Truth }

pub with_pairs-requires-clause-loads_within : goal.with_pairs-requires-clause-loads_within
unfolding nothing
with_pairs-requires-clause-loads_within c =
    let memory : Variable = get_or c.deref-memory-items.result.now c.loop-memory.memory-index nothing in
    subst (AreWithin (length c.loop-memory.bank)) (sym (c.deref.ensures.value ∙ c.in_ok-own.ensures))
    (all_within_later c.args.bank.now c.loop-memory.bank _ c.loop-memory.invariant.extends (within_filter (length c.args.bank.now) memory c.args.loads.now c.requires))

pub loop-memory-preserved : goal.loop-memory-preserved
unfolding nothing
loop-memory-preserved c = record {
  extends = extends_then c.args.bank.now c.loop-memory.bank c.with_pairs.new.bank c.loop-memory.invariant.extends c.with_pairs.ensures.extends;
  within = c.in_ok-all-2.ensures.tree.within;
  rest =
      consistent_step c.args.bank.now c.loop-memory.bank c.args.loads.now c.deref.result.now c.deref-memory-items.result.now c.loop-memory.memory-index nothing
      (tree_at c.loop-memory.bank c.loop-memory.all) (tree_at c.with_pairs.new.bank c.in_ok-all-2.all) c.loop-memory.invariant.extends c.requires (omega arith)
      (c.deref.ensures.value ∙ c.in_ok-own.ensures) c.in_ok-all-2.ensures.tree.tree
      ∙ c.loop-memory.invariant.rest;
}
