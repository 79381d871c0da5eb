use Rattle.std.proofs.Common.{◌≡◌, ◌∙◌, List, sym, ap, ap₂, subst}
use Rattle.term_core_spec.specs.Term.{Term}
use Rattle.term_core.specs.Trees.{term_of}
use Rattle.term_core.specs.declared.term.Term.{Term as CodeTerm}
use Rattle.term_bank.specs.Nodes.{Holds}
use Rattle.term_bank.proofs.Growth.{length-Extends}
use Rattle.term_bank.proofs.Substitution.{kept, extends_through}
use Rattle.sim_calls.specs.Cuts.{zone_over}
use Rattle.sim_calls.proofs.cut.Cut.new.Goals as goal

pub returns-clause-cut : goal.returns-clause-cut
returns-clause-cut c = λ k from to.
    let b1 : List Term = c.intern.new.bank in
    let b2 : List Term = c.intern-2.new.bank in
    let b3 : List Term = c.intern-3.new.bank in
    let e2 = c.intern-2.ensures.extends in
    let e3 = c.intern-3.ensures.extends in
    let memory : Holds b3 c.in_ok-memory.memory (zone_over k.zone_from k.zone_to) =
    kept b1 b3 c.in_ok-memory.memory (zone_over k.zone_from k.zone_to) (extends_through b1 b2 b3 e2 e3)
    (subst (Holds b1 c.in_ok-memory.memory) (ap (λ (t : CodeTerm). term_of t) c.deref.ensures ∙ c.in_ok-over.ensures ∙ ap₂ zone_over (sym from) (sym to)) c.in_ok-memory.ensures.tree) in
    let low : Holds b3 c.in_ok-low.low k.zone_from = kept b2 b3 c.in_ok-low.low k.zone_from e3 (subst (Holds b2 c.in_ok-low.low) (sym from) c.in_ok-low.ensures.tree) in
    let high : Holds b3 c.in_ok-high.high k.zone_to = subst (Holds b3 c.in_ok-high.high) (sym to) c.in_ok-high.ensures.tree in
    record {
      of_binary = c.in_ok-binary.ensures b3 (zone_over k.zone_from k.zone_to) memory;
      of_source = c.in_ok-source.ensures b3 k.zone_from k.zone_to low high;
      memory = memory;
    }

pub returns-clause-longer : goal.returns-clause-longer
returns-clause-longer c =
    length-Extends c.args.bank.now c.intern-3.new.bank
    (extends_through c.args.bank.now c.intern.new.bank c.intern-3.new.bank c.intern.ensures.extends
    (extends_through c.intern.new.bank c.intern-2.new.bank c.intern-3.new.bank c.intern-2.ensures.extends c.intern-3.ensures.extends))
