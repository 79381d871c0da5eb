-- Frames over which no rule may cut, though what the rule leaves to show holds all the same.
use Rattle.std.specs.Prelude.{ℕ, suc, ◌==◌, ◌&&◌, ◌||◌, Bool, true, false, nat_lt, if◌then◌else◌, [], ◌∷◌, ⊤}
use Rattle.graph_core_spec.specs.TransitionSystem.{TransitionSystem}
use Rattle.graph_core_spec.specs.declared.Mark.{Mark}
use Rattle.graph_core_spec.specs.Simulation.{Frame, Hold}

abbrev pub any_state : ℕ → Type 0
any_state n = ⊤

-- what holds of every two states, and what holds of none
abbrev pub always : ℕ → ℕ → ℕ → Bool
always address x y = true

abbrev pub never : ℕ → ℕ → ℕ → Bool
never address x y = false

abbrev pub mark : ℕ → ℕ → Mark
mark node count = record { node = node; count = count }

-- both sides of a frame run one system from one state, and stop at one goal, at which no two states are related
abbrev pub frame_of : TransitionSystem ℕ → Mark → Frame ℕ ℕ
frame_of w m = record {
  binary = w;
  source = w;
  binary_start = 0;
  source_start = 0;
  premise = λ address x y. x == 0 && y == 0;
  returns = always;
  goals = (record { binary = m; source = m; relation = never }) ∷ [];
  binary_bounds = [];
  source_bounds = [];
  holds = [];
}

-- both sides are at this node, in this state
abbrev pub both_at : ℕ → ℕ → Hold ℕ ℕ
both_at node state = record { binary = node; source = node; relation = λ address x y. x == state && y == state }

-- it runs through node 0, node 1, node 2 and node 1 again, and returns
abbrev pub there_and_back : TransitionSystem ℕ
there_and_back = record {
  step = λ k. if nat_lt k 4 then suc k else k;
  returned = λ k. k == 4;
  failed = λ k. false;
  at = λ n k. (n == 0 && k == 0) || ((n == 1 && (k == 1 || k == 3)) || (n == 2 && k == 2));
}

-- it runs through node 0, a call at node 1 and the landing node 2, and fails
abbrev pub fails_after_a_call : TransitionSystem ℕ
fails_after_a_call = record {
  step = λ k. if nat_lt k 3 then suc k else k;
  returned = λ k. false;
  failed = λ k. k == 3;
  at = λ n k. n == k && nat_lt k 3;
}
