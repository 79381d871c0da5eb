-- Terms that are added to a bank, and their ids to a list.
use Rattle.std.specs.Prelude.{◌≡◌, ℕ, List, ◌++◌, length, map, flat_map}
use Rattle.term_core_spec.specs.declared.BinaryOperator.{BinaryOperator}
use Rattle.term_core_spec.specs.Term.{Term, Binary}
use Rattle.term_bank.specs.Nodes.{tree_at}
use Rattle.c_graph_spec.specs.State.{number}
use Rattle.c_graph_terms.specs.Tables.{AreWithin}
use Rattle.c_graph_terms.specs.Built.{IsGrown}
use Rattle.sim_rules_spec.specs.Calling.{at_entry}
use Rattle.templates_spec.specs.Templates.{register}
use Rattle.templates.specs.declared.adding.Leaves.{Leaves}
use Rattle.templates.specs.declared.adding.Leaves.TheVariants.{Numbers, Registers, Entries}

-- the bank has grown, and after the ids before there are those of these terms
pub record AreAdded (old new : List Term) (before ids : List ℕ) (terms : List Term) : Type 0 where
  pub is_grown : IsGrown old new
  pub within : AreWithin (length new) ids
  pub are : map (tree_at new) ids ≡ map (tree_at old) before ++ terms

-- what an operator makes of a term and each of others, and of each of some terms with each of others
abbrev pub on_each : BinaryOperator → Term → List Term → List Term
on_each operator x ys = map (λ y. Binary operator x y) ys

abbrev pub on_all : BinaryOperator → List Term → List Term → List Term
on_all operator xs ys = flat_map (λ x. on_each operator x ys) xs

-- the word of a number, a register, or its value at entry
abbrev pub leaf_of : Leaves → ℕ → Term
leaf_of Numbers n = number n
leaf_of Registers n = register n
leaf_of Entries n = at_entry n
