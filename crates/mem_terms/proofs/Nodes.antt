-- Nodes that are loads, and nodes over the flat terms of their arguments.
use Rattle.std.proofs.Common.{◌≡◌, ℕ, zero, suc, ◌+◌, ◌<◌, ◌≤◌, Bool, true, false, List, [], ◌∷◌, ◌++◌, length, get_or, Option, Some, None, ◌⊎◌, inl, inr, refl, ap, sym, ◌∙◌, subst, arith, unwrap_or, is_some}
use Rattle.std.proofs.Math.ListN.{set}
use Rattle.std.specs.Prelude.{slice_get, option_map}
use Rattle.std.proofs.lemmas.Option.{get_or_from_slice_get, slice_get-get_or, same_Some}
use Rattle.term_core_spec.specs.declared.Atom.TheVariants as atom
use Rattle.term_core_spec.specs.declared.Variable.{Variable}
use Rattle.term_core_spec.specs.declared.BinaryOperator.{BinaryOperator}
use Rattle.term_core_spec.specs.declared.BinaryOperator.TheVariants as binary
use Rattle.term_core_spec.specs.Term as tree
use Rattle.term_core_spec.specs.Term.{Term}
use Rattle.term_bank.specs.declared.node.TermNode.{TermNode}
use Rattle.term_bank.specs.declared.node.TermNode.TheVariants.{Leaf, Unary, Binary, Ternary, Quaternary, Octonary}
use Rattle.term_bank.specs.Nodes.{IsNode, tree_at, build, Extends}
use Rattle.mem_terms_spec.specs.Flat.{VariableLoad, load_of, with_load, byte_or, without_loads}
use Rattle.mem_terms_spec.specs.Assignments.{term_of}
use Rattle.mem_terms_spec.proofs.Lists.{with_load-there}
use Rattle.mem_terms_spec.proofs.Loads.{IfIn, AreIn}
use Rattle.mem_terms.specs.declared.walk.LoadNode.{LoadNode}
use Rattle.mem_terms.specs.Walk.{variable_of, load_from, load_in, flat_id, replaced, EachArgument, with_root, IsDone}
use Rattle.mem_terms.proofs.Trees.{kept_tree}
use Rattle.mem_terms.proofs.Tasks.{each_map}

-- ---- loads

-- a load by the tree of its address
abbrev pub load_by : List Term → LoadNode → VariableLoad
load_by trees n = record { memory = n.memory; address = tree_at trees n.address }

from_variable : (trees : List Term) (x : Term) (b : ℕ) → load_of binary.Load x (tree_at trees b) ≡ option_map (load_by trees) (load_from (variable_of x) b)
from_variable trees (tree.Leaf (atom.Open v)) b = refl
from_variable trees (tree.Leaf (atom.Truth value)) b = refl
from_variable trees (tree.Leaf (atom.Constant width number)) b = refl
from_variable trees (tree.Unary o x) b = refl
from_variable trees (tree.Binary o x y) b = refl
from_variable trees (tree.Ternary o x y z) b = refl
from_variable trees (tree.Quaternary o x y z w) b = refl
from_variable trees (tree.Octonary x1 x2 x3 x4 x5 x6 x7 x8) b = refl

-- the load that a node is, by its tree
pub binary_load : (trees : List Term) (operator : BinaryOperator) (a b : ℕ)
    → load_of operator (tree_at trees a) (tree_at trees b) ≡ option_map (load_by trees) (load_in trees (Binary operator a b))
binary_load trees binary.Load a b = from_variable trees (tree_at trees a) b
binary_load trees binary.And a b = refl
binary_load trees binary.Or a b = refl
binary_load trees binary.Equal a b = refl
binary_load trees binary.Less a b = refl
binary_load trees (binary.Word operator) a b = refl
binary_load trees binary.Join a b = refl

-- a longer list has the same loads
pub load_in-kept : (a b : List Term) (node : TermNode) → Extends a b → IsNode (length a) node → load_in b node ≡ load_in a node
load_in-kept a b (Leaf leaf) e h = refl
load_in-kept a b (Unary operator x) e h = refl
load_in-kept a b (Binary binary.Load x y) e h = ap (λ t. load_from (variable_of t) y) (kept_tree a b x e h.0)
load_in-kept a b (Binary binary.And x y) e h = refl
load_in-kept a b (Binary binary.Or x y) e h = refl
load_in-kept a b (Binary binary.Equal x y) e h = refl
load_in-kept a b (Binary binary.Less x y) e h = refl
load_in-kept a b (Binary (binary.Word operator) x y) e h = refl
load_in-kept a b (Binary binary.Join x y) e h = refl
load_in-kept a b (Ternary operator x y z) e h = refl
load_in-kept a b (Quaternary operator x y z w) e h = refl
load_in-kept a b (Octonary x1 x2 x3 x4 x5 x6 x7 x8) e h = refl

some_load : (v : Option Variable) (b : ℕ) (n : LoadNode) → load_from v b ≡ Some n → b ≡ n.address
some_load (Some v) b n e = let is = same_Some _ n e in ap (λ m. m.address) is
some_load None b n e = absurd (cc)

-- the address of a load is an argument
pub address_argument : (P : ℕ → Type 0) (trees : List Term) (node : TermNode) (n : LoadNode) → load_in trees node ≡ Some n → EachArgument P node → P n.address
address_argument P trees (Leaf leaf) n e h = absurd (cc)
address_argument P trees (Unary operator x) n e h = absurd (cc)
address_argument P trees (Binary binary.Load x y) n e h = subst P (some_load (variable_of (tree_at trees x)) y n e) h.1
address_argument P trees (Binary binary.And x y) n e h = absurd (cc)
address_argument P trees (Binary binary.Or x y) n e h = absurd (cc)
address_argument P trees (Binary binary.Equal x y) n e h = absurd (cc)
address_argument P trees (Binary binary.Less x y) n e h = absurd (cc)
address_argument P trees (Binary (binary.Word operator) x y) n e h = absurd (cc)
address_argument P trees (Binary binary.Join x y) n e h = absurd (cc)
address_argument P trees (Ternary operator x y z) n e h = absurd (cc)
address_argument P trees (Quaternary operator x y z w) n e h = absurd (cc)
address_argument P trees (Octonary x1 x2 x3 x4 x5 x6 x7 x8) n e h = absurd (cc)

-- ---- the loads of a node are there

if_there : (o : Option VariableLoad) (loads : List VariableLoad) → IfIn o loads → with_load o loads ≡ loads
if_there None loads h = refl
if_there (Some l) loads h = with_load-there l loads h

pub root_there : (t : Term) (loads : List VariableLoad) → AreIn t loads → with_root t loads ≡ loads
unfolding AreIn
root_there (tree.Leaf leaf) loads h = refl
root_there (tree.Unary operator a) loads h = refl
root_there (tree.Binary operator a b) loads h = if_there (load_of operator a b) loads h.0
root_there (tree.Ternary operator a b c) loads h = refl
root_there (tree.Quaternary operator a b c d) loads h = refl
root_there (tree.Octonary a b c d e f g i) loads h = refl

-- ---- nodes over flat terms

-- the flat term of an argument
pub record IsFlatArgument (base now : List Term) (done : List (Option ℕ)) (loads : List VariableLoad) (a : ℕ) : Type 0 where
  pub within : flat_id done a < length now
  pub flat_is : tree_at now (flat_id done a) ≡ without_loads loads (tree_at base a)
  pub inside : AreIn (tree_at base a) loads

none_of : (o : Option LoadNode) (trees : List Term) → o ≡ None → option_map (load_by trees) o ≡ None
none_of (Some n) trees e = absurd (cc)
none_of None trees e = refl

module _ (base now : List Term) (done : List (Option ℕ)) (loads : List VariableLoad) where
  pub replaced_node : (node : TermNode) → EachArgument (IsFlatArgument base now done loads) node → IsNode (length now) (replaced done node)
  replaced_node (Leaf leaf) h = tt
  replaced_node (Unary operator a) h = h.within
  replaced_node (Binary operator a b) h = (h.0.within, h.1.within)
  replaced_node (Ternary operator a b c) h = (h.0.within, h.1.within, h.2.within)
  replaced_node (Quaternary operator a b c d) h = (h.0.within, h.1.within, h.2.within, h.3.within)
  replaced_node (Octonary a b c d e f g i) h = (h.0.within, h.1.within, h.2.within, h.3.within, h.4.within, h.5.within, h.6.within, h.7.within)

  -- what is no load is built over the flat terms of its arguments
  pub replaced_build : (node : TermNode) → load_in base node ≡ None → EachArgument (IsFlatArgument base now done loads) node
      → build now (replaced done node) ≡ without_loads loads (build base node)
  unfolding without_loads
  replaced_build (Leaf leaf) e h = refl
  replaced_build (Unary operator a) e h = let e1 = h.flat_is in cc
  replaced_build (Binary operator a b) e h =
      let none : load_of operator (tree_at base a) (tree_at base b) ≡ None = binary_load base operator a b ∙ none_of (load_in base (Binary operator a b)) base e in
      let e1 = h.0.flat_is in
      let e2 = h.1.flat_is in
      let same : tree.Binary operator (tree_at now (flat_id done a)) (tree_at now (flat_id done b)) ≡ tree.Binary operator (without_loads loads (tree_at base a)) (without_loads loads (tree_at base b)) = cc in
      same ∙ sym (ap (λ o. byte_or loads o (tree.Binary operator (without_loads loads (tree_at base a)) (without_loads loads (tree_at base b)))) none)
  replaced_build (Ternary operator a b c) e h =
      let e1 = h.0.flat_is in
      let e2 = h.1.flat_is in
      let e3 = h.2.flat_is in
      cc
  replaced_build (Quaternary operator a b c d) e h =
      let e1 = h.0.flat_is in
      let e2 = h.1.flat_is in
      let e3 = h.2.flat_is in
      let e4 = h.3.flat_is in
      cc
  replaced_build (Octonary a b c d f g i j) e h =
      let e1 = h.0.flat_is in
      let e2 = h.1.flat_is in
      let e3 = h.2.flat_is in
      let e4 = h.3.flat_is in
      let e5 = h.4.flat_is in
      let e6 = h.5.flat_is in
      let e7 = h.6.flat_is in
      let e8 = h.7.flat_is in
      cc

  pub node_inside : (node : TermNode) → load_in base node ≡ None → EachArgument (IsFlatArgument base now done loads) node → AreIn (build base node) loads
  unfolding AreIn
  node_inside (Leaf leaf) e h = tt
  node_inside (Unary operator a) e h = h.inside
  node_inside (Binary operator a b) e h =
      let none : load_of operator (tree_at base a) (tree_at base b) ≡ None = binary_load base operator a b ∙ none_of (load_in base (Binary operator a b)) base e in
      (subst (λ o. IfIn o loads) (sym none) tt, h.0.inside, h.1.inside)
  node_inside (Ternary operator a b c) e h = (h.0.inside, h.1.inside, h.2.inside)
  node_inside (Quaternary operator a b c d) e h = (h.0.inside, h.1.inside, h.2.inside, h.3.inside)
  node_inside (Octonary a b c d f g i j) e h = (h.0.inside, h.1.inside, h.2.inside, h.3.inside, h.4.inside, h.5.inside, h.6.inside, h.7.inside)

-- ---- a node that is a load

-- its tree is the load's
pub load_build : (trees : List Term) (node : TermNode) (n : LoadNode) → load_in trees node ≡ Some n → build trees node ≡ term_of (load_by trees n)
load_build trees (Leaf leaf) n e = absurd (cc)
load_build trees (Unary operator x) n e = absurd (cc)
load_build trees (Binary binary.Load x y) n e = by_tree (tree_at trees x) e
  where
    by_tree : (t : Term) → load_from (variable_of t) y ≡ Some n → tree.Binary binary.Load t (tree_at trees y) ≡ term_of (load_by trees n)
    by_tree (tree.Leaf (atom.Open v)) e = ap (λ m. term_of (load_by trees m)) (same_Some _ n e)
    by_tree (tree.Leaf (atom.Truth value)) e = absurd (cc)
    by_tree (tree.Leaf (atom.Constant width number)) e = absurd (cc)
    by_tree (tree.Unary o x1) e = absurd (cc)
    by_tree (tree.Binary o x1 x2) e = absurd (cc)
    by_tree (tree.Ternary o x1 x2 x3) e = absurd (cc)
    by_tree (tree.Quaternary o x1 x2 x3 x4) e = absurd (cc)
    by_tree (tree.Octonary x1 x2 x3 x4 x5 x6 x7 x8) e = absurd (cc)
load_build trees (Binary binary.And x y) n e = absurd (cc)
load_build trees (Binary binary.Or x y) n e = absurd (cc)
load_build trees (Binary binary.Equal x y) n e = absurd (cc)
load_build trees (Binary binary.Less x y) n e = absurd (cc)
load_build trees (Binary (binary.Word operator) x y) n e = absurd (cc)
load_build trees (Binary binary.Join x y) n e = absurd (cc)
load_build trees (Ternary operator x y z) n e = absurd (cc)
load_build trees (Quaternary operator x y z w) n e = absurd (cc)
load_build trees (Octonary x1 x2 x3 x4 x5 x6 x7 x8) n e = absurd (cc)

-- of another node the root adds nothing
pub root_none : (trees : List Term) (node : TermNode) (loads : List VariableLoad) → load_in trees node ≡ None → with_root (build trees node) loads ≡ loads
root_none trees (Leaf leaf) loads e = refl
root_none trees (Unary operator a) loads e = refl
root_none trees (Binary operator a b) loads e =
    let none : load_of operator (tree_at trees a) (tree_at trees b) ≡ None = binary_load trees operator a b ∙ none_of (load_in trees (Binary operator a b)) trees e in
    ap (λ o. with_load o loads) none
root_none trees (Ternary operator a b c) loads e = refl
root_none trees (Quaternary operator a b c d) loads e = refl
root_none trees (Octonary a b c d f g h i) loads e = refl

-- ---- terms that are done

pub done_some : (done : List (Option ℕ)) (i : ℕ) → i < length done → is_some (get_or done i None) ≡ true → IsDone done i
done_some done i below e = by_item (get_or done i None) (slice_get-get_or done i None below) e
  where
    by_item : (o : Option ℕ) → slice_get done i ≡ Some o → is_some o ≡ true → IsDone done i
    by_item (Some f) at k = (f, at)
    by_item None at k = absurd (cc)

pub done_none : (done : List (Option ℕ)) (i : ℕ) → i < length done → is_some (get_or done i None) ≡ false → slice_get done i ≡ Some None
done_none done i below e = by_item (get_or done i None) (slice_get-get_or done i None below) e
  where
    by_item : (o : Option ℕ) → slice_get done i ≡ Some o → is_some o ≡ false → slice_get done i ≡ Some None
    by_item (Some f) at k = absurd (cc)
    by_item None at k = at

pub done_id : (done : List (Option ℕ)) (i f : ℕ) → slice_get done i ≡ Some (Some f) → flat_id done i ≡ f
done_id done i f e = ap (λ o. unwrap_or o 0) (get_or_from_slice_get done i (Some f) None e)

pub set_here : {X : Type 0} → (xs : List X) (i : ℕ) (x : X) → i < length xs → slice_get (set xs i x) i ≡ Some x
set_here [] i x h = absurd (omega arith)
set_here (y ∷ xs) zero x h = refl
set_here (y ∷ xs) (suc i) x h = set_here xs i x (omega arith)

pub set_split : {X : Type 0} → (xs : List X) (i j : ℕ) (x y : X) → slice_get (set xs i x) j ≡ Some y → ((i ≡ j) × (x ≡ y)) ⊎ (slice_get xs j ≡ Some y)
set_split [] i j x y e = inr e
set_split (z ∷ xs) zero zero x y e = inl (refl, same_Some x y e)
set_split (z ∷ xs) zero (suc j) x y e = inr e
set_split (z ∷ xs) (suc i) zero x y e = inr e
set_split (z ∷ xs) (suc i) (suc j) x y e = later (set_split xs i j x y e)
  where
    later : ((i ≡ j) × (x ≡ y)) ⊎ (slice_get xs j ≡ Some y) → ((suc i ≡ suc j) × (x ≡ y)) ⊎ (slice_get xs j ≡ Some y)
    later (inl p) = inl (ap suc p.0, p.1)
    later (inr k) = inr k

pub set_done : (done : List (Option ℕ)) (i f j : ℕ) → IsDone done j → IsDone (set done i (Some f)) j
set_done [] i f j d = d
set_done (x ∷ done) zero f zero d = (f, refl)
set_done (x ∷ done) zero f (suc j) d = d
set_done (x ∷ done) (suc i) f zero d = d
set_done (x ∷ done) (suc i) f (suc j) d = set_done done i f j d
