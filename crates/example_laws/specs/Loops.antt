-- Frames of two systems that count down or run for ever, without goals.
use Rattle.std.specs.Prelude.{ℕ, ◌==◌, ◌&&◌, not, true, false, [], ⊤}
use Rattle.graph_core_spec.specs.TransitionSystem.{TransitionSystem}
use Rattle.graph_core_spec.specs.Simulation.{Frame}

-- it never ends, and is always at its one node
abbrev pub endless : TransitionSystem ℕ
endless = record { step = λ n. n; returned = λ n. false; failed = λ n. false; at = λ m n. m == 0 }

-- it is at its one node, and fails at the first step from there
abbrev pub failing : TransitionSystem ℕ
failing = record { step = λ n. 0; returned = λ n. false; failed = λ n. n == 0; at = λ m n. m == 0 && not (n == 0) }

-- both start at their node from one number, and whatever they return with will do
abbrev pub frame_of : TransitionSystem ℕ → TransitionSystem ℕ → Frame ℕ ℕ
frame_of binary source = record {
  binary = binary;
  source = source;
  binary_start = 0;
  source_start = 0;
  premise = λ address x y. x == y;
  returns = λ address x y. true;
  goals = [];
  binary_bounds = [];
  source_bounds = [];
  holds = [];
}

abbrev pub any_state : ℕ → Type 0
any_state n = ⊤
