-- Frames with further premises: tests, each as it holds.
use Rattle.std.specs.Prelude.{ℕ, ◌<◌, if◌then◌else◌, List, [], ◌∷◌, ◌++◌, map, All}
use Rattle.term_core_spec.specs.Term.{Term, not_term}
use Rattle.term_bank.specs.Nodes.{tree_at}
use Rattle.proof_tree_spec.specs.Frames.{Frame}
use Rattle.cert_check_frames.specs.declared.jobs.Branch.{Branch}

-- ---- premises

-- the test holds, or it doesn't
abbrev pub premise_of : Branch → (test : Term) → Term
premise_of b test = if b.holds then test else not_term test

abbrev pub test_at : List Term → Branch → Term
test_at trees b = tree_at trees b.test

abbrev pub tests_at : List Term → List Branch → List Term
tests_at trees branches = map (test_at trees) branches

abbrev pub premise_at : List Term → Branch → Term
premise_at trees b = premise_of b (tree_at trees b.test)

abbrev pub premises_at : List Term → List Branch → List Term
premises_at trees branches = map (premise_at trees) branches

-- the tests of branches are given, in their order
unfoldable pub premises_with : List Branch → (tests : List Term) → List Term
premises_with [] tests = []
premises_with (b ∷ branches) [] = []
premises_with (b ∷ branches) (test ∷ tests) = premise_of b test ∷ premises_with branches tests

-- the frame with further premises
abbrev pub frame_with : Frame → List Term → Frame
frame_with f premises = record f { start = record f.start { premises = f.start.premises ++ premises } }

-- ---- ids

abbrev pub AreBelow : ℕ → List Branch → Type 0
AreBelow n branches = All (λ (b : Branch). b.test < n) branches
