use Rattle.std.proofs.Common.{◌≡◌, ◌+◌, ◌-◌, ◌<◌, length, map, take, drop, get_or, sym, ap, ◌∙◌, subst, arith}
use Rattle.term_core_spec.specs.declared.Family.TheVariants.{Register}
use Rattle.term_core_spec.specs.declared.Sort.TheVariants.{Truth}
use Rattle.term_bank.specs.Nodes.{tree_at}
use Rattle.mem_terms_spec.specs.Flat.{agree, all_of}
use Rattle.mem_terms.specs.declared.ids.LoadIds.{LoadIds}
use Rattle.mem_terms.specs.Ids.{load_at, AreWithin}
use Rattle.mem_terms.proofs.Trees.{extends_then, within_later, all_within_later}
use Rattle.mem_terms.proofs.Pairs.{later_is, within_at, within_drop, pairs_step}
use Rattle.mem_terms.proofs.ties.with_pairs.Goals as goal

nothing : LoadIds
nothing = record { memory = record { family = Register; index = 0; instance = 0; sort = Truth }; address = 0; byte = 0 }

pub with_later-requires-clause-load_within : goal.with_later-requires-clause-load_within
unfolding nothing
with_later-requires-clause-load_within c =
    within_later c.args.bank.now c.loop-i.bank (get_or c.args.loads.now c.loop-i.i nothing) c.loop-i.invariant.extends
    (within_at (length c.args.bank.now) c.args.loads.now c.loop-i.i nothing c.requires.loads_within (omega arith))

pub with_later-requires-clause-later_within : goal.with_later-requires-clause-later_within
with_later-requires-clause-later_within c =
    subst (AreWithin (length c.loop-i.bank)) (sym (later_is c.loop-i.i c.args.loads.now))
    (all_within_later c.args.bank.now c.loop-i.bank (drop (c.loop-i.i + 1) c.args.loads.now) c.loop-i.invariant.extends
    (within_drop (length c.args.bank.now) c.args.loads.now (c.loop-i.i + 1) c.requires.loads_within))

pub loop-i-preserved : goal.loop-i-preserved
unfolding nothing
loop-i-preserved c = record {
  extends = extends_then c.args.bank.now c.loop-i.bank c.with_later.new.bank c.loop-i.invariant.extends c.with_later.ensures.extends;
  within = c.in_ok-all.ensures.tree.within;
  rest =
      pairs_step c.args.bank.now c.loop-i.bank c.args.loads.now c.loop-i.i nothing (tree_at c.loop-i.bank c.loop-i.all) (tree_at c.with_later.new.bank c.in_ok-all.all)
      c.loop-i.invariant.extends c.requires.loads_within (omega arith)
      (c.in_ok-all.ensures.tree.tree
      ∙ ap (λ l. all_of (tree_at c.loop-i.bank c.loop-i.all) (map (agree (load_at c.loop-i.bank (get_or c.args.loads.now c.loop-i.i nothing))) (map (load_at c.loop-i.bank) l))) (later_is c.loop-i.i c.args.loads.now))
      ∙ c.loop-i.invariant.rest;
}
