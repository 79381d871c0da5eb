-- Variables that are added in parts.
use Rattle.std.proofs.Common.{◌≡◌, ◌∙◌, List, ◌∷◌, ◌++◌, sym, ap}
use Rattle.std.proofs.lemmas.List.Sums.{fold-append}
use Rattle.term_core_spec.specs.declared.Variable.{Variable}
use Rattle.graph_core_spec.specs.Graph.{Binding}
use Rattle.graph_core_spec.specs.Variables.{occurrences, occurrences_in_bindings, with_variable, with_variables}

-- those of one part, then those of the next
pub then : (seen middle new first second : List Variable) → middle ≡ with_variables seen first → new ≡ with_variables middle second
    → new ≡ with_variables seen (first ++ second)
then seen middle new first second a b = b ∙ ap (λ (s : List Variable). with_variables s second) a ∙ sym (fold-append with_variable seen first second)

-- the same of what is still to be added
pub left : (seen new first rest : List Variable) (whole : List Variable) → new ≡ with_variables seen first → with_variables seen (first ++ rest) ≡ whole
    → with_variables new rest ≡ whole
left seen new first rest whole a b = ap (λ (s : List Variable). with_variables s rest) a ∙ sym (fold-append with_variable seen first rest) ∙ b

-- one binding: its variable, then those of its term
pub binding_added : (seen middle new : List Variable) (b : Binding) (rest : List Binding) (whole : List Variable) → middle ≡ with_variable seen b.variable
    → new ≡ with_variables middle (occurrences b.term) → with_variables seen (occurrences_in_bindings (b ∷ rest)) ≡ whole
    → with_variables new (occurrences_in_bindings rest) ≡ whole
binding_added seen middle new b rest whole first second all =
    left (with_variable seen b.variable) new (occurrences b.term) (occurrences_in_bindings rest) whole
    (second ∙ ap (λ (s : List Variable). with_variables s (occurrences b.term)) first) all
