-- Flat terms and their loads, by their indices among the trees of a bank.
use Rattle.std.specs.Prelude.{◌≡◌, ℕ, ◌<◌, Bool, List, [], ◌∷◌, length, map}
use Rattle.term_core_spec.specs.declared.Variable.{Variable}
use Rattle.term_core_spec.specs.Term.{Term}
use Rattle.term_core_spec.specs.Same.{same_variable}
use Rattle.term_bank.specs.Nodes.{tree_at}
use Rattle.mem_terms_spec.specs.Flat.{FlatLoad, flat_loads, flat_of}
use Rattle.mem_terms.specs.declared.ids.LoadIds.{LoadIds}
use Rattle.mem_terms.specs.declared.ids.Flat.{Flat}

-- the tree is at the index
pub record IsTreeAt (trees : List Term) (i : ℕ) (t : Term) : Type 0 where
  pub within : i < length trees
  pub tree : tree_at trees i ≡ t

-- a load by the trees at its indices
abbrev pub load_at : List Term → LoadIds → FlatLoad
load_at trees l = record { memory = l.memory; address = tree_at trees l.address; byte = tree_at trees l.byte }

abbrev pub is_load_from : Variable → LoadIds → Bool
is_load_from memory l = same_variable memory l.memory

abbrev pub IsWithin : ℕ → LoadIds → Type 0
IsWithin n l = (l.address < n) × (l.byte < n)

-- their indices are below n
abbrev pub AreWithin : ℕ → List LoadIds → Type 0
AreWithin n [] = Unit {0}
AreWithin n (l ∷ loads) = IsWithin n l × AreWithin n loads

-- the flat term of a term is at its index, and so are the terms of its loads
pub record IsFlatOf (trees : List Term) (flat : Flat) (t : Term) : Type 0 where
  pub is_flat : IsTreeAt trees flat.term (flat_of t)
  pub within : AreWithin (length trees) flat.loads.items
  pub loads_are : map (load_at trees) flat.loads.items ≡ flat_loads t
