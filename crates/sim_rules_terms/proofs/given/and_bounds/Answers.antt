use Rattle.std.proofs.Common.{◌≡◌, ◌∙◌, ◌<◌, List, length, map, drop, get_or, sym, ap, subst, arith, refl}
use Rattle.std.proofs.lemmas.List.{drop_all}
use Rattle.std.specs.List.{fold}
use Rattle.term_core_spec.specs.Term.{Term, and_term}
use Rattle.term_bank.specs.Nodes.{Holds}
use Rattle.term_bank.proofs.Substitution.{extends_through}
use Rattle.graph_core_spec.specs.declared.Mark.{Mark}
use Rattle.proof_tree.specs.Frames.{mark_of}
use Rattle.sim_rules_spec.specs.Sides.{unbroken}
use Rattle.sim_rules_terms.proofs.Bounds.{bound_more}
use Rattle.sim_rules_terms.proofs.Later.{itself, sight_later}
use Rattle.sim_rules_terms.proofs.given.and_bounds.Goals as goal

pub loop-index-init : goal.loop-index-init
loop-index-init c = record { extends = itself c.args.bank.now; longer = omega arith; within = c.requires.first; tree = λ w t is h. (t, h, refl) }

pub and_bound-requires-clause-sight : goal.and_bound-requires-clause-sight
and_bound-requires-clause-sight c = (c.requires.sight.0, sight_later c.args.bank.now c.loop-index.bank c.loop-index.invariant.extends c.requires.sight.0 c.args.sight.now c.requires.sight.1)

pub loop-index-preserved : goal.loop-index-preserved
loop-index-preserved c =
    let b0 = c.args.bank.now in
    let b1 = c.loop-index.bank in
    let b2 = c.and_bound.new.bank in
    let V = c.args.sight.now.visits.now.visits in
    record {
      extends = extends_through b0 b1 b2 c.loop-index.invariant.extends c.and_bound.ensures.extends;
      longer = omega arith;
      within = c.in_ok-all.ensures.within;
      tree = λ w t is h.
          let at = c.loop-index.invariant.tree w t is h in (
            _,
            c.in_ok-all.ensures.tree w at.0 (sight_later b0 b1 c.loop-index.invariant.extends w c.args.sight.now is) at.1,
            sym (bound_more w V c.args.bounds.now c.loop-index.index _ at.0 c.loop-index-test.true) ∙ at.2,
          );
    }

pub returns-clause-tree : goal.returns-clause-tree
returns-clause-tree c = λ w t is h.
    let V = c.args.sight.now.visits.now.visits in
    let at = c.loop-index.invariant.tree w t is h in
    subst (Holds c.loop-index.bank c.loop-index.all)
    (ap (λ (l : List Mark). fold and_term at.0 (unbroken w V c.loop-index.index (map mark_of l))) (sym (drop_all c.loop-index.index c.args.bounds.now c.loop-index-test.false)) ∙ at.2) at.1
