use Rattle.std.proofs.Common.{◌≡◌, ℕ, ◌<◌, zero, suc, false, [], ◌∷◌, refl, arith}
use Rattle.graph_core_spec.specs.TransitionSystem.{stopped}
use Rattle.example_laws.specs.Call.{walk, start, mark}
use Rattle.example_laws.proofs.GraphComputes.{runs_compute}
use Rattle.example_laws.proofs.graphs.no_node_is_met_inside_a_call.Goals as goal

not_before : (k : ℕ) → k < 5 → stopped walk (mark 2 1 ∷ []) k start ≡ false
unfolding runs_compute
not_before zero less = refl
not_before (suc zero) less = refl
not_before (suc (suc zero)) less = refl
not_before (suc (suc (suc zero))) less = refl
not_before (suc (suc (suc (suc zero)))) less = refl
not_before (suc (suc (suc (suc (suc k))))) less = absurd (omega arith)

pub returns : goal.returns
unfolding runs_compute
returns c = record { callees_node = refl; landing = refl; landed = refl; stops = record { now = refl; before = not_before } }
