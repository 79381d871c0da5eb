use Rattle.std.proofs.Common.{subst}
use Rattle.std.specs.HashMap.{get}
use Rattle.term_core_spec.specs.Same.{same_variable}
use Rattle.term_core.specs.declared.term.Term.{Term}
use Rattle.term_core.specs.Trees.{term_of}
use Rattle.term_bank.specs.Nodes.{Holds}
use Rattle.cert_check_frames.proofs.FrameFacts.{fact_given}
use Rattle.cert_check_frames.proofs.entry.add_fact.Goals as goal

pub returns-3-clause-terms : goal.returns-3-clause-terms
returns-3-clause-terms c =
    fact_given c.args.bank.now c.intern.new.bank c.intern.ensures.extends (get same_variable c.args.known.now) (get same_variable c.insert.new.self) c.args.fact.now c.in-Ok-attempt.field-0
    c.in-Ok-attempt-2.ensures.updates.0
    (subst (λ (t : Term). Holds c.intern.new.bank c.in-Ok-attempt.field-0 (term_of t)) c.deref.ensures c.in-Ok-attempt.ensures.tree) c.in-Ok-attempt.ensures.within
