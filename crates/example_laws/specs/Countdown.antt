-- A transition system that has nothing of graphs: it counts down to 0 and returns there. Above 0 it is at its one node.
use Rattle.std.specs.Prelude.{◌≡◌, ℕ, ◌-◌, ◌==◌, ◌&&◌, not, false}
use Rattle.graph_core_spec.specs.TransitionSystem.{TransitionSystem}

abbrev pub countdown : TransitionSystem ℕ
countdown = record {
  step = λ n. n - 1;
  returned = λ n. n == 0;
  failed = λ n. false;
  at = λ m n. m == 0 && not (n == 0);
}

-- the node leads to itself
abbrev pub leads_back : ℕ → ℕ → Type 0
leads_back m n = (m ≡ 0) × (n ≡ 0)

abbrev pub no_call : ℕ → ℕ → Type 0
no_call m l = ⊥
