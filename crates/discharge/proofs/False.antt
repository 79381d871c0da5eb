-- What the values of a bank say of a term.
use Rattle.std.proofs.Common.{◌≡◌, ◌∙◌, ℕ, false, List, map, sym, ap}
use Rattle.std.proofs.Math.ListN.{get_or-map}
use Rattle.term_core_spec.specs.declared.Atom.TheVariants as atom
use Rattle.term_core_spec.specs.Term as tree
use Rattle.term_core_spec.specs.Term.{Term}
use Rattle.term_core_spec.specs.Value as spec
use Rattle.term_core_spec.specs.Value.{Assignment, Truth, value}
use Rattle.term_core.specs.declared.value.Value.{Value}
use Rattle.term_core.specs.Values.{value_of}
use Rattle.term_bank.specs.Nodes.{tree_at, value_at}

value_there : (a : Assignment) (trees : List Term) (id : ℕ) → value_at (map (value a) trees) id ≡ value a (tree_at trees id)
unfolding value
value_there a trees id = get_or-map (value a) trees id (tree.Leaf (atom.Truth false))

pub false_there : (a : Assignment) (trees : List Term) (values : List Value) (id : ℕ) → map value_of values ≡ map (value a) trees → value_at (map value_of values) id ≡ Truth false
    → value a (tree_at trees id) ≡ Truth false
false_there a trees values id are found = sym (value_there a trees id) ∙ ap (λ (vs : List spec.Value). value_at vs id) (sym are) ∙ found
