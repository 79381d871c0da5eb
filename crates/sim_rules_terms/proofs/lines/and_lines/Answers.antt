use Rattle.std.proofs.Common.{◌≡◌, ◌<◌, Box, Global, List, length, map, take, get_or, Some, sym, ap, ◌∙◌, subst, arith}
use Rattle.std.proofs.lemmas.List.{take_all}
use Rattle.std.specs.List.{fold}
use Rattle.term_core_spec.specs.Term.{and_term}
use Rattle.term_core_spec.specs.Substitution.{State, substituted}
use Rattle.term_core.specs.Trees.{term_of}
use Rattle.term_core.specs.declared.term.Term.{Term as CodeTerm}
use Rattle.term_bank.specs.Nodes.{Holds}
use Rattle.term_bank.proofs.Substitution.{kept, extends_through}
use Rattle.graph_core.specs.Graphs.{boxed_term}
use Rattle.proof_tree.specs.Frames.{terms_of}
use Rattle.sim_rules_terms.proofs.Folds.{fold_more}
use Rattle.sim_rules_terms.proofs.Later.{below_later, itself, map_later}
use Rattle.sim_rules_terms.proofs.lines.and_lines.Goals as goal

pub loop-i-init : goal.loop-i-init
loop-i-init g c = record { extends = itself c.args.bank.now; longer = omega arith; within = c.requires.first; tree = λ t s h is. h }

pub line_at-requires : goal.line_at-requires
line_at-requires g c =
    below_later c.args.bank.now c.loop-i.bank c.loop-i.invariant.extends (g.L.Lookup.terms c.args.terms.now) c.requires.terms

pub loop-i-preserved : goal.loop-i-preserved
loop-i-preserved g c =
    let b0 = c.args.bank.now in
    let b1 = c.loop-i.bank in
    let b2 = c.line_at.new.bank in
    let b3 = c.both.new.bank in
    record {
      extends = extends_through b0 b1 b3 c.loop-i.invariant.extends (extends_through b1 b2 b3 c.line_at.ensures.extends c.both.ensures.extends);
      longer = omega arith;
      within = c.in_ok-all.ensures.within;
      tree = λ t s h is.
          let before = c.loop-i.invariant.tree t s h is in
          let next = c.in_ok-next.ensures.tree s (map_later b0 b1 c.loop-i.invariant.extends (g.L.Lookup.terms c.args.terms.now) s is) in
          let both = c.in_ok-all.ensures.tree _ _ (kept b1 b2 c.loop-i.all _ c.line_at.ensures.extends before) next in
          let here = ap (λ (u : CodeTerm). substituted s (term_of u)) c.deref.ensures ∙ ap (λ (b : Box CodeTerm Global). substituted s (boxed_term b)) c.index-lines-i.is in
          subst (Holds b3 c.in_ok-all.all) (ap (and_term (fold and_term t (map (substituted s) (terms_of (take c.loop-i.i c.args.lines.now))))) here
          ∙ sym (fold_more (substituted s) boxed_term c.args.lines.now c.loop-i.i c.index-lines-i.result c.loop-i-test.true t)) both;
    }

pub returns-clause-tree : goal.returns-clause-tree
returns-clause-tree g c = λ t s h is.
    subst (λ (l : List (Box CodeTerm Global)). Holds c.loop-i.bank c.loop-i.all (fold and_term t (map (substituted s) (terms_of l)))) (take_all c.loop-i.i c.args.lines.now c.loop-i-test.false) (c.loop-i.invariant.tree t s h is)
