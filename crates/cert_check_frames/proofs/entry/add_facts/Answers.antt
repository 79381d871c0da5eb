use Rattle.std.proofs.Common.{List, sym, subst, arith}
use Rattle.std.specs.HashMap.{get}
use Rattle.term_core_spec.specs.Same.{same_variable}
use Rattle.path_cond.specs.States.{IsMapOf}
use Rattle.cert_check_frames.specs.declared.listed.Fact.{Fact}
use Rattle.cert_check_frames.specs.Listed.{terms_given}
use Rattle.path_cond.proofs.Banks.{extends_itself, extends_then}
use Rattle.cert_check_frames.proofs.FrameFacts.{none_given, last_first, all_last}
use Rattle.cert_check_frames.proofs.entry.add_facts.Goals as goal

pub loop-index-init : goal.loop-index-init
loop-index-init c = record {
  terms = none_given c.args.bank.now (get same_variable c.args.known.now) c.requires c.args.facts.now _ (omega arith);
  extends = extends_itself c.args.bank.now;
}

pub loop-index-preserved : goal.loop-index-preserved
loop-index-preserved c = record {
  terms =
      subst (λ (l : List Fact). IsMapOf c.add_fact.new.bank (get same_variable c.add_fact.new.known) (terms_given l))
      (sym (last_first c.args.facts.now c.loop-index.index c.index-facts-count.result _ c.loop-index-test.true c.index-facts-count.is))
      (c.in-Ok-attempt.ensures.terms _ c.loop-index.invariant.terms);
  extends = extends_then c.args.bank.now c.loop-index.bank c.add_fact.new.bank c.loop-index.invariant.extends c.add_fact.ensures.extends;
}

pub returns-in-loop-index-clause-extends : goal.returns-in-loop-index-clause-extends
returns-in-loop-index-clause-extends c = extends_then c.args.bank.now c.loop-index.bank c.add_fact.new.bank c.loop-index.invariant.extends c.add_fact.ensures.extends

pub returns-clause-terms : goal.returns-clause-terms
returns-clause-terms c =
    subst (λ (l : List Fact). IsMapOf c.loop-index.bank (get same_variable c.loop-index.known) (terms_given l))
    (all_last c.args.facts.now c.loop-index.index c.loop-index-test.false) c.loop-index.invariant.terms
