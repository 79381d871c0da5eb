use Rattle.std.proofs.Common.{◌≡◌, ◌∙◌, List, [], ◌∷◌, ◌++◌, true, map, sym, ap, ap₂, refl, subst}
use Rattle.std.specs.List.{fold}
use Rattle.term_core_spec.specs.Substitution.{substituted}
use Rattle.term_core_spec.specs.Term.{Term, and_term, truth, or_term, not_term}
use Rattle.term_core.specs.Trees.{term_of}
use Rattle.term_core.specs.declared.term.Term.{Term as CodeTerm}
use Rattle.term_bank.specs.Nodes.{Holds}
use Rattle.term_bank.proofs.Substitution.{kept, extends_through}
use Rattle.proof_tree.specs.Frames.{frame_of, terms_of}
use Rattle.sim_rules_spec.specs.Calls.{begins_well, returns_well, call_premises, call_terms}
use Rattle.sim_rules_spec.specs.Rules.{all_of, at_cut, under}
use Rattle.sim_calls.specs.Begun.{begins_by}
use Rattle.sim_calls.specs.Returned.{returns_by}
use Rattle.sim_calls.specs.Sites.{outputs_of, pair_by}
use Rattle.sim_calls.proofs.Banks.{cut_later}
use Rattle.sim_calls.proofs.rule.terms_over.Goals as goal

pub premises-requires : goal.premises-requires
premises-requires c = (c.requires.cut.convention, c.requires.cut.is_cut)

pub begins-requires-clause-cut : goal.begins-requires-clause-cut
begins-requires-clause-cut c = (
  c.requires.cut.convention,
  cut_later c.args.bank.now c.premises.new.bank c.premises.ensures.extends c.requires.cut.convention c.args.cut.now c.requires.cut.is_cut,
)

pub returns-requires-clause-cut : goal.returns-requires-clause-cut
returns-requires-clause-cut c =
    let b0 : List Term = c.args.bank.now in
    let b1 : List Term = c.premises.new.bank in
    let b2 : List Term = c.begins.new.bank in
    let b3 : List Term = c.implication.new.bank in
    let e = extends_through b0 b1 b3 c.premises.ensures.extends (extends_through b1 b2 b3 c.begins.ensures.extends c.implication.ensures.extends) in
    record {
      convention = c.requires.cut.convention;
      from_is = c.requires.cut.from_is;
      to_is = c.requires.cut.to_is;
      is_cut = cut_later b0 b3 e c.requires.cut.convention c.args.cut.now c.requires.cut.is_cut;
    }

pub returns-clause-terms : goal.returns-clause-terms
returns-clause-terms c = λ k s setup callee cut.
    let b0 : List Term = c.args.bank.now in
    let b1 : List Term = c.premises.new.bank in
    let b2 : List Term = c.begins.new.bank in
    let b3 : List Term = c.implication.new.bank in
    let b4 : List Term = c.returns.new.bank in
    let b5 : List Term = c.implication-2.new.bank in
    let e1 = c.premises.ensures.extends in
    let e2 = c.begins.ensures.extends in
    let e3 = c.implication.ensures.extends in
    let e4 = c.returns.ensures.extends in
    let e5 = c.implication-2.ensures.extends in
    let e13 = extends_through b1 b2 b3 e2 e3 in
    let e14 = extends_through b1 b3 b4 e13 e4 in
    let e35 = extends_through b3 b4 b5 e4 e5 in
    let f = frame_of c.args.setup.now.frame.now in
    let calls = pair_by c.args.calls.now in
    let before = terms_of c.args.lines.now.before.now in
    let after = terms_of c.args.lines.now.after.now in
    let P : Term = fold and_term (truth true) (call_premises k f before) in
    let given : Holds b1 c.in_ok-given.given P = c.in_ok-given.ensures.tree k cut in
    let cut1 = cut_later b0 b1 e1 k c.args.cut.now cut in
    let cut3 = cut_later b1 b3 e13 k c.args.cut.now cut1 in
    let memory = ap (λ (x : CodeTerm). term_of x) c.deref.ensures ∙ sym setup.convention_is.memory_is in
    let memory_2 = ap (λ (x : CodeTerm). term_of x) c.deref-2.ensures ∙ sym setup.convention_is.memory_is in
    let begins : Holds b2 c.in_ok-begins.begins (begins_well k calls s (at_cut k)) =
    subst (Holds b2 c.in_ok-begins.begins)
    (ap₂ (λ (ls : List Term) (m : Term). all_of (map (substituted (begins_by k calls)) (ls ++ m ∷ []))) (ap terms_of c.as_slice.ensures.value ∙ sym callee.lines) memory)
    (c.in_ok-begins.ensures.tree k cut1) in
    let first : Holds b3 c.in_ok-first.first (under (call_premises k f before) (begins_well k calls s (at_cut k))) =
    c.in_ok-first.ensures.tree P (begins_well k calls s (at_cut k)) (kept b1 b2 c.in_ok-given.given P e2 given) begins in
    let returns : Holds b4 c.in_ok-returns.returns (returns_well k calls s (at_cut k) after) =
    subst (Holds b4 c.in_ok-returns.returns)
    (ap (λ (m : Term). all_of (map (substituted (returns_by k s (outputs_of c.args.calls.now.source))) (after ++ m ∷ []))) memory_2)
    (c.in_ok-returns.ensures.tree k s cut3 setup.from_is setup.to_is callee.stack callee.result) in
    let second : Holds b5 c.in_ok-second.second (under (call_premises k f before) (returns_well k calls s (at_cut k) after)) =
    c.in_ok-second.ensures.tree P (returns_well k calls s (at_cut k) after) (kept b1 b4 c.in_ok-given.given P e14 given) returns in
    record {
      terms = call_terms k f calls s before after;
      are = refl;
      held = (kept b3 b5 c.in_ok-first.first (under (call_premises k f before) (begins_well k calls s (at_cut k))) e35 first, (second, tt));
    }
