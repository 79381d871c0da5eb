use Rattle.std.proofs.Common.{◌∙◌, List, [], ◌∷◌, ◌++◌, ap}
use Rattle.agreement_laws.specs.EntryFrame.{argument_facts, registers}
use Rattle.cert_check_frames.specs.declared.listed.Fact.{Fact as CodeFact}
use Rattle.cert_check_frames.specs.Facts.{facts_of, entry_facts, memory_fact}
use Rattle.cert_check_relations.proofs.Grown.{one_then}
use Rattle.cert_check_frames.proofs.facts.binary_facts.Goals as goal

pub returns-4 : goal.returns-4
returns-4 c =
    let f0 = facts_of c.new-facts.result.items in
    let f1 = facts_of c.add_arguments.new.facts.items in
    let f2 = facts_of c.add_registers.new.facts.items in
    let f3 = facts_of c.add_memory.new.facts.items in
    let a = argument_facts 0 c.args.parameters.now in
    let r = entry_facts registers in
    let m = memory_fact c.args.stack ∷ [] in
    one_then f0 f2 f3 (a ++ r) m (one_then f0 f1 f2 a r c.in-Ok-attempt.ensures c.in-Ok-attempt-2.ensures) c.in-Ok-attempt-3.ensures
    ∙ ap (λ (l : List CodeFact). facts_of l ++ ((a ++ r) ++ m)) c.new-facts.ensures.items
