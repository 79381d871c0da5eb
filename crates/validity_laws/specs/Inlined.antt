-- The graphs of a proof of a function: those of the function, or graphs of its own with calls inlined, beside the set's.
use Rattle.std.specs.Prelude.{◌≡◌, ℕ, Bool, true, false, All, Some}
use Rattle.term_core_spec.specs.declared.Family.{Family}
use Rattle.term_core_spec.specs.declared.Family.TheVariants as family
use Rattle.term_core_spec.specs.declared.Sort.{Sort}
use Rattle.term_core_spec.specs.declared.Variable.{Variable}
use Rattle.term_core_spec.specs.Sort.{is_memory}
use Rattle.graph_core_spec.specs.Graph.{Graph}
use Rattle.proof_tree_spec.specs.Frames.{Side}
use Rattle.proof_tree_spec.specs.Scope.{Body, Setting}
use Rattle.sim_rules_spec.specs.Points.{is_binary}
use Rattle.sim_inline_laws.specs.Runs.{beside_side}
use Rattle.sim_inline_laws.specs.Unfolding.{Inlinable, Functions, AreInlinable, Unfolds}
use Rattle.agreement_laws.specs.EntryFrame.{Pair, entry_frame}
use Rattle.agreement_laws.specs.Callers.{Base}

-- what a function of the source has for its own
abbrev pub is_own_of_source : Family → Bool
is_own_of_source family.Parameter = true
is_own_of_source family.Local = true
is_own_of_source family.IsSet = true
is_own_of_source family.Further = true
is_own_of_source f = false

-- a side of a function as it is; or with calls inlined one after the other into a graph beside the set's, where the own
-- variables of functions are of the side
pub data IsInlinedSide (own_family : Family → Bool) (side : Side) : Side → Type 0 where
  as_it_is : IsInlinedSide own_family side side
  inlined : (functions : Functions) (function : Inlinable) (free : ℕ) (own : Graph) → AreInlinable side.graphs functions
      → ((number : ℕ) (f : Inlinable) → functions number ≡ Some f → All (λ (v : Variable). own_family v.family ≡ true) f.own)
      → functions side.outermost ≡ Some function → Unfolds functions function free own → IsInlinedSide own_family side (beside_side side own)

-- parameters and locals are no memories
pub record HasWords (s : Setting) : Type 0 where
  pub parameters : All (λ (t : Sort). is_memory t ≡ false) s.parameters
  pub locals : All (λ (b : Body). All (λ (t : Sort). is_memory t ≡ false) b.locals) s.bodies

-- both sides of a function
pub record IsInlined (q : Pair) (b : Base) : Type 0 where
  pub binary : IsInlinedSide is_binary (entry_frame q).binary b.binary
  pub source : IsInlinedSide is_own_of_source (entry_frame q).source b.source
  pub setting : HasWords b.setting
