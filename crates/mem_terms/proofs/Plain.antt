-- The tree at the index of a flat term.
use Rattle.std.proofs.Common.{◌≡◌, ◌↔◌, List, Some, sym, ap, ◌∙◌, subst}
use Rattle.term_core_spec.specs.declared.Sort.TheVariants as sort
use Rattle.term_core_spec.specs.Term.{Term}
use Rattle.term_core_spec.specs.Sort.{sort_of}
use Rattle.term_bank.specs.Nodes.{tree_at}
use Rattle.mem_terms_spec.specs.Assignments.{LoadsFromVariables, IsWithoutMemory, HasNoBytes, IsAlwaysTrue}
use Rattle.mem_terms_spec.proofs.Forms.{flat_plain}
use Rattle.mem_terms_spec.proofs.Validity.{equally}
use Rattle.mem_terms.specs.Ids.{IsFlatOf}
use Rattle.mem_terms.specs.declared.ids.Flat.{Flat}

pub flat_sort : (trees : List Term) (flat : Flat) (t : Term) → IsFlatOf trees flat t
    → sort_of t ≡ Some sort.Truth → LoadsFromVariables t → sort_of (tree_at trees flat.term) ≡ Some sort.Truth
flat_sort trees flat t is s all = ap sort_of is.is_flat.tree ∙ (flat_plain t s all).truth_sort

pub flat_memory : (trees : List Term) (flat : Flat) (t : Term) → IsFlatOf trees flat t
    → sort_of t ≡ Some sort.Truth → LoadsFromVariables t → IsWithoutMemory (tree_at trees flat.term)
flat_memory trees flat t is s all = subst IsWithoutMemory (sym is.is_flat.tree) (flat_plain t s all).without

pub flat_valid : (trees : List Term) (flat : Flat) (t : Term) → IsFlatOf trees flat t
    → sort_of t ≡ Some sort.Truth → LoadsFromVariables t → HasNoBytes t → IsAlwaysTrue t ↔ IsAlwaysTrue (tree_at trees flat.term)
flat_valid trees flat t is s all fresh = subst (λ u. IsAlwaysTrue t ↔ IsAlwaysTrue u) (sym is.is_flat.tree) (equally t s all fresh)
