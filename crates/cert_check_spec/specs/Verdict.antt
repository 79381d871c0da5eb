-- The functions that a certificate is a proof of, and which of them lacks a part first.
use Rattle.std.specs.Prelude.{◌≡◌, ◌≢◌, ℕ, List, ◌∷◌, ◌++◌, All, Option}
use Rattle.memory_spec.specs.Runs.{Run}
use Rattle.proof_tree_spec.specs.declared.Place.{Place}
use Rattle.proof_tree_spec.specs.Frames.{Frame}
use Rattle.sim_rules_spec.specs.Points.{Convention}
use Rattle.sim_rules_spec.specs.Rules.{Opening}
use Rattle.sim_rules_spec.specs.Calls.{Callee}

-- a listed function: its stack, the frame at its entry, the terms of variables there, the fixed bytes, and what its callers
-- know of it. And of all functions: by the numbers of the graphs of code, the addresses of the instructions, each with its
-- first node; by those of the source, the places, each with its node, and which graph the code of the function's name has
pub record Listed : Type 0 where
  pub name : List ℕ
  pub stack : ℕ
  pub convention : Convention
  pub opening : Opening
  pub frame : Frame
  pub runs : List Run
  pub callee : Callee
  pub firsts : List (List (ℕ × ℕ))
  pub points : List (List (Place × ℕ))
  pub named : List (Option ℕ)

-- the first listed function that has no part
pub record IsMissing (listed parts : List Listed) (f : Listed) : Type 0 where
  pub before : List Listed
  pub after : List Listed
  pub cut : listed ≡ before ++ f ∷ after
  pub none : All (λ (other : Listed). other.name ≢ f.name) parts
  pub others : All (λ (earlier : Listed). All (λ (other : Listed). other.name ≢ earlier.name) parts → ⊥) before
