use Rattle.std.proofs.Common.{◌≡◌, ◌++◌, drop}
use Rattle.agreement_laws.specs.EntryFrame.{local_facts}
use Rattle.cert_check_frames.specs.Facts.{facts_of}
use Rattle.cert_check_frames.proofs.facts.add_locals.Given as goal

-- what is left to add completes the whole
abbrev pub invariant-loop-number : goal.invariant-loop-number
invariant-loop-number l =
    facts_of l.facts.items ++ local_facts l.number (drop l.number l.parameters) (drop l.number l.locals)
    ≡ facts_of l.fn.facts.items ++ local_facts 0 l.parameters l.locals
