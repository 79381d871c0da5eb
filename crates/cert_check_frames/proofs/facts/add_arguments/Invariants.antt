use Rattle.std.proofs.Common.{◌≡◌, ◌++◌, drop}
use Rattle.agreement_laws.specs.EntryFrame.{argument_facts}
use Rattle.cert_check_frames.specs.Facts.{facts_of}
use Rattle.cert_check_frames.proofs.facts.add_arguments.Given as goal

-- what is left to add completes the whole
abbrev pub invariant-loop-number : goal.invariant-loop-number
invariant-loop-number l =
    facts_of l.facts.items ++ argument_facts l.number (drop l.number l.parameters) ≡ facts_of l.fn.facts.items ++ argument_facts 0 l.parameters
