use Rattle.std.proofs.Common.{◌≡◌, ◌∙◌, Box, Global, Option, Some, sym, ap, subst}
use Rattle.std.specs.Option.{option_map}
use Rattle.term_core_spec.specs.Substitution.{renamed}
use Rattle.term_core.specs.Trees.{term_of}
use Rattle.term_core.specs.declared.term.Term.{Term as CodeTerm}
use Rattle.term_bank.specs.Nodes.{Holds}
use Rattle.term_substitution.specs.Renaming.{in_instance}
use Rattle.graph_core.specs.Graphs.{boxed_term}
use Rattle.sim_calls.specs.Returned.{HasResult}
use Rattle.sim_calls.proofs.Renamed.{families, renamed_left}
use Rattle.sim_calls.proofs.returned.left_result.Goals as goal

pub returns-in_ok-id-in-Some-clause-held : goal.returns-in_ok-id-in-Some-clause-held
returns-in_ok-id-in-Some-clause-held c =
    let b = c.intern.new.bank in
    let id = c.in_ok-id-in-Some.id in
    let same = ap (λ (t : CodeTerm). term_of t) c.deref-in-Some.ensures ∙ c.in_ok-left-in-Some.ensures
    ∙ ap (λ (t : CodeTerm). renamed (in_instance families 1) (term_of t)) c.deref.ensures ∙ renamed_left (boxed_term c.in-Some.term) in
    subst (λ (t : Option (Box CodeTerm Global)). HasResult b (option_map boxed_term t) (Some id)) (sym c.in-Some.is) (subst (Holds b id) same c.in_ok-id-in-Some.ensures.tree)
