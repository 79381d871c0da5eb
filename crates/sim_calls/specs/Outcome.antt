-- The obligations of a call, as terms of a bank, and why there are none.
use Rattle.std.specs.Prelude.{◌≡◌, ℕ, List, ◌++◌, Option, Some, None}
use Rattle.term_core_spec.specs.Term.{Term}
use Rattle.term_core.specs.Trees.{term_of}
use Rattle.proof_tree_spec.specs.Frames.{Frame}
use Rattle.proof_tree_spec.specs.Scope.{Setting}
use Rattle.sim_rules_spec.specs.Calls.{CallPair, Callee, AreOfCall}
use Rattle.sim_rules_spec.specs.Obligations.{IsNoLine}
use Rattle.sim_rules_spec.specs.Points.{Convention}
use Rattle.sim_rules_terms.specs.Conventions.{IsConventionOf}
use Rattle.sim_rules_terms.specs.Held.{AreHeld}
use Rattle.sim_rules_terms.specs.Lines.{AreLines}
use Rattle.attempt.specs.declared.refusal.Refusal.{Refusal}
use Rattle.attempt.specs.declared.refusal.Refusal.TheVariants.{Fault, NoMemory}
use Rattle.sim_calls.specs.declared.rule.CallFault.{CallFault}
use Rattle.sim_calls.specs.declared.rule.CallFault.TheVariants.{Sort}
use Rattle.sim_calls.specs.declared.rule.Setup.{Setup}

pub record IsSetup (c : Convention) (s : Setup) : Type 0 where
  pub convention_is : IsConventionOf s.convention.now c
  pub from_is : c.zone_from ≡ term_of s.zone_from.now
  pub to_is : c.zone_to ≡ term_of s.zone_to.now

-- the ids are those of the obligations of the call, in their order
pub record AreObligations (trees : List Term) (c : Convention) (f : Frame) (calls : CallPair) (callee : Callee) (before later : List Term) (ids : List ℕ) : Type 0 where
  pub terms : List Term
  pub are : AreOfCall c f calls callee before later terms
  pub held : AreHeld trees ids terms

-- each line is one
pub record HasLines (s : Setting) (path : List ℕ) (before later : List Term) : Type 0 where
  pub of_before : AreLines s path before
  pub of_later : AreLines s path later

-- of the lines before and after a call
abbrev pub IsBadLine : Setting → (path : List ℕ) → (before later : List Term) → Option ℕ → Type 0
IsBadLine s path before later (Some index) = IsNoLine s path (before ++ later) index
IsBadLine s path before later None = HasLines s path before later

-- out of memory may come at any time
abbrev pub IsCallFault : Setting → (path : List ℕ) → List Term → Refusal CallFault → Type 0
IsCallFault s path lines (Fault (Sort index)) = IsNoLine s path lines index
IsCallFault s path lines NoMemory = Unit {0}
