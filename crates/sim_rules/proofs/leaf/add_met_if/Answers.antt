use Rattle.std.proofs.Common.{◌∙◌, inl, inr, sym, ap, subst}
use Rattle.term_core.specs.declared.term.Term.{Term as CodeTerm}
use Rattle.term_core.specs.Trees.{term_of}
use Rattle.proof_tree.specs.Frames.{frame_of}
use Rattle.sim_rules_terms.specs.Seen.{IsSeen}
use Rattle.sim_rules.specs.Compared.{stops}
use Rattle.sim_rules.proofs.Resting.{met_if, unmet}
use Rattle.sim_rules.proofs.leaf.add_met_if.Goals as goal

pub add_met-requires : goal.add_met-requires
add_met-requires c =
    let a = c.requires.see.some_binary in
    let d = c.requires.see.some_source in
    record {
      some_binary = (a.0.way, (subst (IsSeen c.args.bank.now a.0) c.in-Some.is a.1).1);
      some_source = (d.0.way, (subst (IsSeen c.args.bank.now d.0) c.in-Some-source.is d.1).1);
      denied_in = c.requires.denied;
    }

pub returns-in-None-clause-added : goal.returns-in-None-clause-added
returns-in-None-clause-added c = λ k a d t convention are h.
    let none = subst (IsSeen c.args.bank.now a) c.in-None.is are.binary in
    unmet t k a.way d.way a.visits d.visits (stops k (frame_of c.args.both.now.setup.now.frame.now)) c.args.bank.now c.args.ids.now.items (inl none)

pub returns-in-None-source-clause-added : goal.returns-in-None-source-clause-added
returns-in-None-source-clause-added c = λ k a d t convention are h.
    let none = subst (IsSeen c.args.bank.now d) c.in-None-source.is are.source in
    unmet t k a.way d.way a.visits d.visits (stops k (frame_of c.args.both.now.setup.now.frame.now)) c.args.bank.now c.args.ids.now.items (inr none)

pub returns-in-Some-source-clause-added : goal.returns-in-Some-source-clause-added
returns-in-Some-source-clause-added c = λ k a d t convention are h.
    let b0 = c.args.bank.now in
    let p = subst (IsSeen b0 a) c.in-Some.is are.binary in
    let q = subst (IsSeen b0 d) c.in-Some-source.is are.source in
    met_if t k a.way d.way a.visits d.visits (stops k (frame_of c.args.both.now.setup.now.frame.now)) b0 c.add_met.new.bank c.args.ids.now.items c.add_met.new.ids.items c.add_met.result _ _ p.0 q.0
    (c.add_met.ensures.added t k a.way d.way
    (record { of_binary = p.1; of_source = q.1; memory_is = convention.memory_is ∙ sym (ap (λ (x : CodeTerm). term_of x) c.deref.ensures); denied_is = h }) convention)
