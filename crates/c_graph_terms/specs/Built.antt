-- What a call that adds terms to a bank answers.
use Rattle.std.specs.Prelude.{◌≡◌, ℕ, ◌+◌, ◌<◌, ◌≤◌, List, length, map, Result, IfOk}
use Rattle.term_core_spec.specs.Term.{Term}
use Rattle.term_bank.specs.declared.node.TermNode.{TermNode}
use Rattle.term_bank.specs.Nodes.{tree_at, Extends}
use Rattle.term_bank.specs.Trees.{grown}
use Rattle.c_graph_spec.specs.Values.{Terms}
use Rattle.c_graph_terms.specs.declared.values.ValueIds.{ValueIds}
use Rattle.c_graph_terms.specs.Tables.{AreWithin}

-- the terms before are the first of the terms after
pub record IsGrown (old new : List Term) : Type 0 where
  pub extends : Extends old new
  pub longer : length old ≤ length new

-- the bank has grown, and has the term at the id
pub record IsBuilt (old new : List Term) (id : ℕ) (term : Term) : Type 0 where
  pub is_grown : IsGrown old new
  pub within : id < length new
  pub tree : tree_at new id ≡ term

-- the id of the term; or it is out of memory
abbrev pub Builds : {E : Type 0} → (old new : List Term) → Result ℕ E → Term → Type 0
Builds old new result term = IfOk result (λ id. IsBuilt old new id term)

-- the ids of the terms of a table
pub record AreGrown (old new : List Term) (given ids : List ℕ) (nodes : List TermNode) : Type 0 where
  pub is_grown : IsGrown old new
  pub within : AreWithin (length new) ids
  pub count : length ids ≡ length given + length nodes
  pub trees : map (tree_at new) ids ≡ grown (map (tree_at old) given) nodes

-- ---- the word of a value, and whether it is not 0

pub record AreTerms (trees : List Term) (ids : ValueIds) (terms : Terms) : Type 0 where
  pub word_within : ids.word < length trees
  pub truth_within : ids.truth < length trees
  pub word_is : tree_at trees ids.word ≡ terms.word
  pub truth_is : tree_at trees ids.truth ≡ terms.truth

pub record AreBuilt (old new : List Term) (ids : ValueIds) (terms : Terms) : Type 0 where
  pub is_grown : IsGrown old new
  pub are : AreTerms new ids terms

abbrev pub BuildsTerms : {E : Type 0} → (old new : List Term) → Result ValueIds E → Terms → Type 0
BuildsTerms old new result terms = IfOk result (λ ids. AreBuilt old new ids terms)

-- both are ids of a bank of so many terms
abbrev pub IsWithin : ℕ → ValueIds → Type 0
IsWithin n ids = (ids.word < n) × (ids.truth < n)

abbrev pub terms_at : List Term → ValueIds → Terms
terms_at trees ids = record { word = tree_at trees ids.word; truth = tree_at trees ids.truth }
