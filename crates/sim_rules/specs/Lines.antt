-- Why some terms are no lines.
use Rattle.std.specs.Prelude.{ℕ, List}
use Rattle.term_core_spec.specs.Term.{Term}
use Rattle.proof_tree_spec.specs.Scope.{Setting}
use Rattle.sim_rules_spec.specs.Obligations.{IsNoLine}
use Rattle.attempt.specs.declared.refusal.Refusal.{Refusal}
use Rattle.attempt.specs.declared.refusal.Refusal.TheVariants.{Fault, NoMemory}
use Rattle.sim_rules.specs.declared.fault.RuleFault.{RuleFault}
use Rattle.sim_rules.specs.declared.fault.RuleFault.TheVariants.{Sort, Cyclic, Large}

abbrev pub IsLineFault : Setting → (path : List ℕ) → List Term → Refusal RuleFault → Type 0
IsLineFault s path lines (Fault (Sort index)) = IsNoLine s path lines index
IsLineFault s path lines (Fault (Cyclic side node)) = ⊥
IsLineFault s path lines (Fault (Large side count)) = ⊥
IsLineFault s path lines NoMemory = Unit {0}
