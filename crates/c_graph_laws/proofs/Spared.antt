-- A variable that bindings don't bind keeps its value.
use Rattle.std.proofs.Common.{◌≡◌, ◌≢◌, Bool, true, false, if◌then◌else◌, List, [], ◌∷◌, All, refl, sym}
use Rattle.std.proofs.lemmas.List.Elements.{All-head, All-tail}
use Rattle.term_core_spec.specs.declared.Variable.{Variable}
use Rattle.term_core_spec.specs.Same.{same_variable}
use Rattle.term_core_spec.proofs.Same.{variable-same}
use Rattle.term_core_spec.specs.Value.{Assignment, value}
use Rattle.graph_core_spec.specs.Graph.{Binding}
use Rattle.graph_core_spec.specs.Run.{bound}

module _ (u : Variable) where
  -- none of these binds it
  abbrev pub Spares : List Binding → Type 0
  Spares bindings = All (λ (b : Binding). b.variable ≢ u) bindings

  pub spared : (bindings : List Binding) → Spares bindings → (values rest : Assignment) → bound bindings values rest u ≡ rest u
  unfolding bound
  spared [] spares values rest = refl
  spared (b ∷ bindings) spares values rest =
      by (same_variable u b.variable) refl (spared bindings (All-tail (λ (b : Binding). b.variable ≢ u) b bindings spares) values rest)
    where
      by : (t : Bool) → same_variable u b.variable ≡ t → bound bindings values rest u ≡ rest u
          → (if t then value values b.term else bound bindings values rest u) ≡ rest u
      by true e later = absurd (All-head (λ (b : Binding). b.variable ≢ u) b bindings spares (sym (variable-same u b.variable e)))
      by false e later = later
