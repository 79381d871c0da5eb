use Rattle.std.proofs.Common.{◌≡◌, false, OnOk, [], ◌∷◌, ◌++◌, subst}
use Rattle.term_core_spec.specs.declared.Variable.{Variable}
use Rattle.term_core_spec.specs.Term.{truth}
use Rattle.cert_check_frames.specs.Facts.{facts_of}
use Rattle.cert_check_frames.proofs.facts.add_unset.Goals as goal

pub returns : goal.returns
returns c =
    subst (λ (v : Variable). OnOk c.add_fact.result (facts_of c.add_fact.new.facts.items ≡ facts_of c.args.facts.now.items ++ record { variable = v; term = truth false } ∷ []))
    c.is_set.ensures (c.add_fact.ensures (truth false) c.leaf.ensures)
