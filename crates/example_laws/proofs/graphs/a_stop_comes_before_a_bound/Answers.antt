use Rattle.std.proofs.Common.{◌≡◌, ◌∙◌, ℕ, ◌+◌, ◌<◌, zero, suc, true, false, [], ◌∷◌, refl, sym, ap, lit<, arith}
use Rattle.std.specs.List.{All}
use Rattle.std.proofs.lemmas.List.Elements.{All-from_recursion}
use Rattle.graph_core_spec.specs.TransitionSystem.{arrivals, stopped}
use Rattle.graph_core_spec.specs.declared.Mark.{Mark}
use Rattle.example_laws.specs.Countdown.{countdown}
use Rattle.example_laws.proofs.GraphCountdown.{countdown_is_system}
use Rattle.graph_core_spec.proofs.Runs.{stopped_on}
use Rattle.example_laws.specs.Call.{mark}
use Rattle.example_laws.proofs.GraphComputes.{runs_compute}
use Rattle.example_laws.proofs.graphs.a_stop_comes_before_a_bound.Goals as goal

not_before : (k : ℕ) → k < 2 → stopped countdown (mark 0 2 ∷ []) k 3 ≡ false
unfolding runs_compute
not_before zero less = refl
not_before (suc zero) less = refl
not_before (suc (suc k)) less = absurd (omega arith)

at_two : stopped countdown (mark 0 2 ∷ []) 2 3 ≡ true
unfolding runs_compute
at_two = refl

from_two : (k : ℕ) → stopped countdown (mark 0 2 ∷ []) (suc (suc k)) 3 ≡ true
from_two k = let same : suc (suc k) ≡ 2 + k = omega arith in ap (λ (n : ℕ). stopped countdown (mark 0 2 ∷ []) n 3) same ∙ stopped_on countdown countdown_is_system.returned_stays (mark 0 2 ∷ []) 2 k 3 at_two

kept : (k : ℕ) → stopped countdown (mark 0 2 ∷ []) k 3 ≡ false → All (λ b. arrivals countdown b.node k 3 < b.count) (mark 0 2 ∷ [])
unfolding runs_compute
kept zero runs = All-from_recursion (λ (b : Mark). arrivals countdown b.node 0 3 < b.count) (mark 0 2 ∷ []) (lit< tt, tt)
kept (suc zero) runs = All-from_recursion (λ (b : Mark). arrivals countdown b.node 1 3 < b.count) (mark 0 2 ∷ []) (lit< tt, tt)
kept (suc (suc k)) runs = let done = from_two k in absurd (differ (sym done ∙ runs))
  where
    differ : true ≡ false → ⊥
    differ e = cc

pub returns : goal.returns
unfolding runs_compute
returns c = record {
  stops = record { now = at_two; before = not_before };
  kept = λ n k less runs. kept k runs;
  broken = λ h. let bad : 1 < 1 = h 1 (omega arith) refl 0 (mark 0 1) (omega arith) in omega arith;
}
