use Rattle.std.proofs.Common.{◌∙◌, List, Box, Global, sym, ap}
use Rattle.term_core.specs.Trees.{term_of}
use Rattle.term_core.specs.declared.term.Term.{Term as CodeTerm}
use Rattle.proof_tree.specs.Frames.{terms_of}
use Rattle.sim_rules_spec.specs.Calling.{zone_from}
use Rattle.validity_laws.specs.Derivation.{pair_for, stated}
use Rattle.cert_check_frames.proofs.entries.Entry.convention.Goals as goal

pub returns-3 : goal.returns-3
returns-3 c = λ q g is.
    let tree : CodeTerm → _ = λ t. term_of t in
    c.new.ensures (stated (pair_for q g))
    (sym (ap tree c.deref.ensures ∙ c.in-Ok-attempt.ensures ∙ ap zone_from is.stack_is))
    (sym (ap tree c.deref-2.ensures ∙ c.in-Ok-attempt-to.ensures))
    (sym (ap (λ (l : List (Box CodeTerm Global)). terms_of l) c.as_slice.ensures.value ∙ is.returns_are))
