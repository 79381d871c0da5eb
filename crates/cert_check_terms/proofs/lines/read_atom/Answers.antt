use Rattle.std.proofs.Common.{subst}
use Rattle.term_core_spec.specs.Term.{Leaf}
use Rattle.cert_check_terms.specs.Reading.{leaf, sorted}
use Rattle.cert_check_terms.specs.Outcomes.{IsMade}
use Rattle.cert_check_terms.proofs.Stacks.{pushed_next}
use Rattle.cert_check_terms.proofs.lines.read_atom.Goals as goal

pub returns-clause-next : goal.returns-clause-next
returns-clause-next c =
    pushed_next c.args.bank.now c.place-made.new.bank c.place-made.ensures.extends c.args.entries.now.items c.requires c.push_made.new.entries.items (leaf c.args.atom) c.place-made.result
    c.push_made.result
    (subst (λ s. IsMade c.place-made.new.bank (sorted (Leaf c.args.atom) s) c.place-made.result) c.sort_of_atom.ensures c.place-made.ensures.made) c.push_made.ensures
