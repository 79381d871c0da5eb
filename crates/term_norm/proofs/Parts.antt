-- The form of a term by those of its arguments, and the load of a memory by those of its memories.
use Rattle.std.proofs.Common.{◌≡◌, ℕ, ◌<◌, Bool, true, false, ◌&&◌, List, length, Option, Some, None, Result, refl, sym, ap, ◌∙◌, subst, arith}
use Rattle.std.specs.Prelude.{if◌then◌else◌, IfOk}
use Rattle.std.proofs.lemmas.Option.{same_Some}
use Rattle.term_core_spec.specs.declared.Atom.{Atom}
use Rattle.term_core_spec.specs.declared.Width.TheVariants.{W8}
use Rattle.term_core_spec.specs.declared.UnaryOperator.{UnaryOperator}
use Rattle.term_core_spec.specs.declared.BinaryOperator.{BinaryOperator}
use Rattle.term_core_spec.specs.declared.TernaryOperator.{TernaryOperator}
use Rattle.term_core_spec.specs.declared.TernaryOperator.TheVariants as ternary
use Rattle.term_core_spec.specs.declared.QuaternaryOperator.{QuaternaryOperator}
use Rattle.term_core_spec.specs.declared.QuaternaryOperator.TheVariants as quaternary
use Rattle.term_core_spec.specs.Term as tree
use Rattle.term_core_spec.specs.Term.{Term}
use Rattle.term_norm_spec.specs.Fixed as fixed
use Rattle.memory_spec.specs.Runs as fixed_runs
use Rattle.term_norm_spec.specs.Normal as spec
use Rattle.term_norm_spec.specs.Normal.{normal, normal_load, load_of_variable}
use Rattle.term_norm_spec.specs.Patterns as patterns
use Rattle.term_bank.specs.declared.node.TermNode.{TermNode}
use Rattle.term_bank.specs.declared.node.TermNode.TheVariants.{Leaf, Unary, Binary, Ternary, Quaternary, Octonary}
use Rattle.term_bank.specs.Nodes.{IsNode, tree_at, build, Holds, Extends}
use Rattle.memory_spec.specs.declared.Run.{Run as CodeRun}
use Rattle.memory_spec.specs.Viewed.{runs_of}
use Rattle.term_norm.specs.declared.walk.Walk.{Walk}
use Rattle.term_norm.specs.Runs.{form_with, load_from}
use Rattle.term_norm.specs.Walk.{form_at, AreForms}
use Rattle.term_norm.specs.Nodes.{HasForms, normal_node, HasLoads, load_node}
use Rattle.term_norm.proofs.Growth.{extends_through, within, read, stays}

-- the tree at an index is also this
pub holds_as : (trees : List Term) (i : ℕ) (t u : Term) → u ≡ t → Holds trees i t → Holds trees i u
holds_as trees i t u e h = h ∙ ap Some (sym e)

module _ (f : Term → Term) (trees : List Term) (walk : Walk) (forms : AreForms f trees walk) where
  pub form_within : (id form : ℕ) → form_at walk id ≡ Some form → form < length trees
  form_within id form e = within trees form (f (tree_at trees id)) (forms id form e).holds

  pub form_is : (id form : ℕ) → form_at walk id ≡ Some form → tree_at trees form ≡ f (tree_at trees id)
  form_is id form e = read trees form (f (tree_at trees id)) (forms id form e).holds

-- ---- the definitions at each number of arguments

normal_leaf : (runs : List fixed_runs.Run) (leaf : Atom) → normal runs (tree.Leaf leaf) ≡ tree.Leaf leaf
unfolding normal
normal_leaf runs leaf = refl

normal_one : (runs : List fixed_runs.Run) (o : UnaryOperator) (a : Term) → normal runs (tree.Unary o a) ≡ spec.normal_unary o (normal runs a)
unfolding normal
normal_one runs o a = refl

normal_two : (runs : List fixed_runs.Run) (o : BinaryOperator) (a b : Term) → normal runs (tree.Binary o a b) ≡ spec.normal_binary runs o (normal runs a) (normal runs b)
unfolding normal
normal_two runs o a b = refl

normal_three : (runs : List fixed_runs.Run) (o : TernaryOperator) (a b c : Term) → normal runs (tree.Ternary o a b c) ≡ spec.normal_ternary o (normal runs a) (normal runs b) (normal runs c)
unfolding normal
normal_three runs o a b c = refl

normal_four : (runs : List fixed_runs.Run) (o : QuaternaryOperator) (a b c d : Term) → normal runs (tree.Quaternary o a b c d) ≡ spec.normal_quaternary o (normal runs a) (normal runs b) (normal runs c) (normal runs d)
unfolding normal
normal_four runs o a b c d = refl

normal_eight : (runs : List fixed_runs.Run) (a b c d e f g h : Term)
    → normal runs (tree.Octonary a b c d e f g h) ≡ spec.normal_octonary (normal runs a) (normal runs b) (normal runs c) (normal runs d) (normal runs e) (normal runs f) (normal runs g) (normal runs h)
unfolding normal
normal_eight runs a b c d e f g h = refl

load_store : (runs : List fixed_runs.Run) (m a b d : Term) → normal_load runs (tree.store m a b) d ≡ spec.normal_choose (spec.normal_equal d a) b (normal_load runs m d)
unfolding normal_load
load_store runs m a b d = refl

load_choice : (runs : List fixed_runs.Run) (c m n d : Term) → normal_load runs (tree.choose c m n) d ≡ spec.normal_choose c (normal_load runs m d) (normal_load runs n d)
unfolding normal_load
load_choice runs c m n d = refl

load_over : (runs : List fixed_runs.Run) (m z x y d : Term)
    → normal_load runs (tree.over m z x y) d ≡ spec.normal_choose (spec.normal_and (spec.normal_not (spec.normal_less d x)) (spec.normal_less d y)) (normal_load runs z d) (normal_load runs m d)
unfolding normal_load
load_over runs m z x y d = refl

-- ---- the form of a term

module _ (runs : List fixed_runs.Run) (trees : List Term) (at : ℕ) where
  pub form_leaf : (leaf : Atom) → Holds trees at (tree.Leaf leaf) → normal runs (tree_at trees at) ≡ tree.Leaf leaf
  form_leaf leaf h = ap (normal runs) (read trees at (tree.Leaf leaf) h) ∙ normal_leaf runs leaf

  pub form_one : (o : UnaryOperator) (a x : ℕ) → Holds trees at (build trees (Unary o a)) → tree_at trees x ≡ normal runs (tree_at trees a)
      → normal runs (tree_at trees at) ≡ spec.normal_unary o (tree_at trees x)
  form_one o a x h ex = ap (normal runs) (read trees at (build trees (Unary o a)) h) ∙ normal_one runs o (tree_at trees a) ∙ ap (spec.normal_unary o) (sym ex)

  pub form_two : (o : BinaryOperator) (a b x y : ℕ) → Holds trees at (build trees (Binary o a b)) → tree_at trees x ≡ normal runs (tree_at trees a) → tree_at trees y ≡ normal runs (tree_at trees b)
      → normal runs (tree_at trees at) ≡ spec.normal_binary runs o (tree_at trees x) (tree_at trees y)
  form_two o a b x y h ex ey =
      let e : normal runs (tree_at trees at) ≡ spec.normal_binary runs o (normal runs (tree_at trees a)) (normal runs (tree_at trees b)) = ap (normal runs) (read trees at (build trees (Binary o a b)) h) ∙ normal_two runs o (tree_at trees a) (tree_at trees b) in
      cc

  pub form_three : (o : TernaryOperator) (a b c x y z : ℕ) → Holds trees at (build trees (Ternary o a b c)) → tree_at trees x ≡ normal runs (tree_at trees a) → tree_at trees y ≡ normal runs (tree_at trees b)
      → tree_at trees z ≡ normal runs (tree_at trees c) → normal runs (tree_at trees at) ≡ spec.normal_ternary o (tree_at trees x) (tree_at trees y) (tree_at trees z)
  form_three o a b c x y z h ex ey ez =
      let e : normal runs (tree_at trees at) ≡ spec.normal_ternary o (normal runs (tree_at trees a)) (normal runs (tree_at trees b)) (normal runs (tree_at trees c)) = ap (normal runs) (read trees at (build trees (Ternary o a b c)) h) ∙ normal_three runs o (tree_at trees a) (tree_at trees b) (tree_at trees c) in
      cc

  pub form_four : (o : QuaternaryOperator) (a b c d x y z w : ℕ) → Holds trees at (build trees (Quaternary o a b c d)) → tree_at trees x ≡ normal runs (tree_at trees a) → tree_at trees y ≡ normal runs (tree_at trees b)
      → tree_at trees z ≡ normal runs (tree_at trees c) → tree_at trees w ≡ normal runs (tree_at trees d)
      → normal runs (tree_at trees at) ≡ spec.normal_quaternary o (tree_at trees x) (tree_at trees y) (tree_at trees z) (tree_at trees w)
  form_four o a b c d x y z w h ex ey ez ew =
      let e : normal runs (tree_at trees at) ≡ spec.normal_quaternary o (normal runs (tree_at trees a)) (normal runs (tree_at trees b)) (normal runs (tree_at trees c)) (normal runs (tree_at trees d)) = ap (normal runs) (read trees at (build trees (Quaternary o a b c d)) h) ∙ normal_four runs o (tree_at trees a) (tree_at trees b) (tree_at trees c) (tree_at trees d) in
      cc

  pub form_eight : (a b c d e f g i s t u v w x y z : ℕ) → Holds trees at (build trees (Octonary a b c d e f g i)) → tree_at trees s ≡ normal runs (tree_at trees a) → tree_at trees t ≡ normal runs (tree_at trees b)
      → tree_at trees u ≡ normal runs (tree_at trees c) → tree_at trees v ≡ normal runs (tree_at trees d) → tree_at trees w ≡ normal runs (tree_at trees e) → tree_at trees x ≡ normal runs (tree_at trees f)
      → tree_at trees y ≡ normal runs (tree_at trees g) → tree_at trees z ≡ normal runs (tree_at trees i)
      → normal runs (tree_at trees at) ≡ spec.normal_octonary (tree_at trees s) (tree_at trees t) (tree_at trees u) (tree_at trees v) (tree_at trees w) (tree_at trees x) (tree_at trees y) (tree_at trees z)
  form_eight a b c d e f g i s t u v w x y z h es et eu ev ew ex ey ez =
      let e : normal runs (tree_at trees at) ≡ spec.normal_octonary (normal runs (tree_at trees a)) (normal runs (tree_at trees b)) (normal runs (tree_at trees c)) (normal runs (tree_at trees d)) (normal runs (tree_at trees e)) (normal runs (tree_at trees f)) (normal runs (tree_at trees g)) (normal runs (tree_at trees i)) = ap (normal runs) (read trees at (build trees (Octonary a b c d e f g i)) h) ∙ normal_eight runs (tree_at trees a) (tree_at trees b) (tree_at trees c) (tree_at trees d) (tree_at trees e) (tree_at trees f) (tree_at trees g) (tree_at trees i) in
      cc

-- by the node over the forms of its arguments
module _ (raw : List CodeRun) (trees : List Term) (walk : Walk) (forms : AreForms (form_with raw) trees walk) where
  pub forms_within : (node other : TermNode) → HasForms (form_at walk) node other → IsNode (length trees) other
  forms_within (Leaf leaf) other h = subst (IsNode (length trees)) (sym h) tt
  forms_within (Unary o a) other h =
      subst (IsNode (length trees)) (sym h.2) (form_within (form_with raw) trees walk forms a h.0 h.1)
  forms_within (Binary o a b) other h =
      subst (IsNode (length trees)) (sym h.4) (form_within (form_with raw) trees walk forms a h.0 h.2, form_within (form_with raw) trees walk forms b h.1 h.3)
  forms_within (Ternary o a b c) other h =
      subst (IsNode (length trees)) (sym h.6)
      (form_within (form_with raw) trees walk forms a h.0 h.3, form_within (form_with raw) trees walk forms b h.1 h.4, form_within (form_with raw) trees walk forms c h.2 h.5)
  forms_within (Quaternary o a b c d) other h =
      subst (IsNode (length trees)) (sym h.8)
      (form_within (form_with raw) trees walk forms a h.0 h.4, form_within (form_with raw) trees walk forms b h.1 h.5, form_within (form_with raw) trees walk forms c h.2 h.6, form_within (form_with raw) trees walk forms d h.3 h.7)
  forms_within (Octonary a b c d e f g i) other h =
      subst (IsNode (length trees)) (sym h.16) (
        form_within (form_with raw) trees walk forms a h.0 h.8,
        form_within (form_with raw) trees walk forms b h.1 h.9,
        form_within (form_with raw) trees walk forms c h.2 h.10,
        form_within (form_with raw) trees walk forms d h.3 h.11,
        form_within (form_with raw) trees walk forms e h.4 h.12,
        form_within (form_with raw) trees walk forms f h.5 h.13,
        form_within (form_with raw) trees walk forms g h.6 h.14,
        form_within (form_with raw) trees walk forms i h.7 h.15,
      )

  pub form_by : (at : ℕ) (node other : TermNode) → Holds trees at (build trees node) → HasForms (form_at walk) node other
      → form_with raw (tree_at trees at) ≡ normal_node (runs_of raw) trees other
  form_by at (Leaf leaf) other here h = form_leaf (runs_of raw) trees at leaf here ∙ ap (normal_node (runs_of raw) trees) (sym h)
  form_by at (Unary o a) other here h =
      form_one (runs_of raw) trees at o a h.0 here (form_is (form_with raw) trees walk forms a h.0 h.1) ∙ ap (normal_node (runs_of raw) trees) (sym h.2)
  form_by at (Binary o a b) other here h =
      form_two (runs_of raw) trees at o a b h.0 h.1 here (form_is (form_with raw) trees walk forms a h.0 h.2) (form_is (form_with raw) trees walk forms b h.1 h.3)
      ∙ ap (normal_node (runs_of raw) trees) (sym h.4)
  form_by at (Ternary o a b c) other here h =
      form_three (runs_of raw) trees at o a b c h.0 h.1 h.2 here (form_is (form_with raw) trees walk forms a h.0 h.3) (form_is (form_with raw) trees walk forms b h.1 h.4) (form_is (form_with raw) trees walk forms c h.2 h.5)
      ∙ ap (normal_node (runs_of raw) trees) (sym h.6)
  form_by at (Quaternary o a b c d) other here h =
      form_four (runs_of raw) trees at o a b c d h.0 h.1 h.2 h.3 here (form_is (form_with raw) trees walk forms a h.0 h.4) (form_is (form_with raw) trees walk forms b h.1 h.5) (form_is (form_with raw) trees walk forms c h.2 h.6) (form_is (form_with raw) trees walk forms d h.3 h.7)
      ∙ ap (normal_node (runs_of raw) trees) (sym h.8)
  form_by at (Octonary a b c d e f g i) other here h =
      form_eight (runs_of raw) trees at a b c d e f g i h.0 h.1 h.2 h.3 h.4 h.5 h.6 h.7 here
      (form_is (form_with raw) trees walk forms a h.0 h.8) (form_is (form_with raw) trees walk forms b h.1 h.9) (form_is (form_with raw) trees walk forms c h.2 h.10) (form_is (form_with raw) trees walk forms d h.3 h.11)
      (form_is (form_with raw) trees walk forms e h.4 h.12) (form_is (form_with raw) trees walk forms f h.5 h.13) (form_is (form_with raw) trees walk forms g h.6 h.14) (form_is (form_with raw) trees walk forms i h.7 h.15)
      ∙ ap (normal_node (runs_of raw) trees) (sym h.16)

-- ---- the load of a memory

-- the byte that is known to be there
abbrev pub known_byte : List fixed_runs.Run → Term → Term → Option ℕ
known_byte runs m d = if patterns.is_source_memory m && patterns.is_constant d then fixed_runs.fixed_byte runs (patterns.number_of d) else None

some_byte : (test : Bool) (o : Option ℕ) (t : Term) (number : ℕ) → Some number ≡ (if test then o else None) → (if test then spec.byte_or o t else t) ≡ tree.constant W8 number
some_byte true (Some n) t number e = ap (tree.constant W8) (sym (same_Some number n e))
some_byte true None t number e = absurd (cc)
some_byte false o t number e = absurd (cc)

no_byte : (test : Bool) (o : Option ℕ) (t : Term) → None ≡ (if test then o else None) → (if test then spec.byte_or o t else t) ≡ t
no_byte true (Some n) t e = absurd (cc)
no_byte true None t e = refl
no_byte false o t e = refl

pub load_known : (runs : List fixed_runs.Run) (m d : Term) (number : ℕ) → Some number ≡ known_byte runs m d → spec.load_of_variable runs m d ≡ tree.constant W8 number
unfolding load_of_variable
load_known runs m d number e = some_byte (patterns.is_source_memory m && patterns.is_constant d) (fixed_runs.fixed_byte runs (patterns.number_of d)) (tree.load m d) number e

pub load_unknown : (runs : List fixed_runs.Run) (m d : Term) → None ≡ known_byte runs m d → spec.load_of_variable runs m d ≡ tree.load m d
unfolding load_of_variable
load_unknown runs m d e = no_byte (patterns.is_source_memory m && patterns.is_constant d) (fixed_runs.fixed_byte runs (patterns.number_of d)) (tree.load m d) e

load_join : (runs : List fixed_runs.Run) (a b c e address : Term) → normal_load runs (tree.join_four a b c e) address ≡ spec.load_of_variable runs (tree.join_four a b c e) address
unfolding normal_load
load_join runs a b c e address = refl

module _ (runs : List fixed_runs.Run) (trees : List Term) (address : Term) (at : ℕ) where
  pub load_of_store : (m a b below : ℕ) → Holds trees at (build trees (Ternary ternary.Store m a b)) → tree_at trees below ≡ normal_load runs (tree_at trees m) address
      → normal_load runs (tree_at trees at) address ≡ spec.normal_choose (spec.normal_equal address (tree_at trees a)) (tree_at trees b) (tree_at trees below)
  load_of_store m a b below h e =
      let opened : normal_load runs (tree_at trees at) address ≡ spec.normal_choose (spec.normal_equal address (tree_at trees a)) (tree_at trees b) (normal_load runs (tree_at trees m) address) = ap (λ t. normal_load runs t address) (read trees at (build trees (Ternary ternary.Store m a b)) h) ∙ load_store runs (tree_at trees m) (tree_at trees a) (tree_at trees b) address in
      cc

  pub load_of_choice : (test m n x y : ℕ) → Holds trees at (build trees (Ternary ternary.Choose test m n)) → tree_at trees x ≡ normal_load runs (tree_at trees m) address
      → tree_at trees y ≡ normal_load runs (tree_at trees n) address → normal_load runs (tree_at trees at) address ≡ spec.normal_choose (tree_at trees test) (tree_at trees x) (tree_at trees y)
  load_of_choice test m n x y h ex ey =
      let e : normal_load runs (tree_at trees at) address ≡ spec.normal_choose (tree_at trees test) (normal_load runs (tree_at trees m) address) (normal_load runs (tree_at trees n) address) = ap (λ t. normal_load runs t address) (read trees at (build trees (Ternary ternary.Choose test m n)) h) ∙ load_choice runs (tree_at trees test) (tree_at trees m) (tree_at trees n) address in
      cc

  pub load_of_overlay : (m z low high lower upper : ℕ) → Holds trees at (build trees (Quaternary quaternary.Over m z low high)) → tree_at trees lower ≡ normal_load runs (tree_at trees m) address
      → tree_at trees upper ≡ normal_load runs (tree_at trees z) address
      → normal_load runs (tree_at trees at) address ≡ spec.normal_choose (spec.normal_and (spec.normal_not (spec.normal_less address (tree_at trees low))) (spec.normal_less address (tree_at trees high))) (tree_at trees upper) (tree_at trees lower)
  load_of_overlay m z low high lower upper h el eu =
      let e : normal_load runs (tree_at trees at) address ≡ spec.normal_choose (spec.normal_and (spec.normal_not (spec.normal_less address (tree_at trees low))) (spec.normal_less address (tree_at trees high))) (normal_load runs (tree_at trees z) address) (normal_load runs (tree_at trees m) address) = ap (λ t. normal_load runs t address) (read trees at (build trees (Quaternary quaternary.Over m z low high)) h) ∙ load_over runs (tree_at trees m) (tree_at trees z) (tree_at trees low) (tree_at trees high) address in
      cc

  pub load_of_join : (a b c e : ℕ) → Holds trees at (build trees (Quaternary quaternary.Join a b c e)) → normal_load runs (tree_at trees at) address ≡ spec.load_of_variable runs (tree_at trees at) address
  load_of_join a b c e h =
      let known : tree_at trees at ≡ build trees (Quaternary quaternary.Join a b c e) = read trees at (build trees (Quaternary quaternary.Join a b c e)) h in
      ap (λ t. normal_load runs t address) known ∙ load_join runs (tree_at trees a) (tree_at trees b) (tree_at trees c) (tree_at trees e) address ∙ ap (λ t. spec.load_of_variable runs t address) (sym known)

-- what is no store, choice or overlay
module _ (runs : List fixed_runs.Run) (trees : List Term) (at address : ℕ) where
  load_plain : (node : TermNode) → Holds trees at (build trees node) → ((d : Term) → normal_load runs (build trees node) d ≡ spec.load_of_variable runs (build trees node) d)
      → normal_load runs (tree_at trees at) (tree_at trees address) ≡ spec.load_of_variable runs (tree_at trees at) (tree_at trees address)
  load_plain node here opened =
      let known : tree_at trees at ≡ build trees node = read trees at (build trees node) here in
      ap (λ t. normal_load runs t (tree_at trees address)) known ∙ opened (tree_at trees address) ∙ ap (λ t. spec.load_of_variable runs t (tree_at trees address)) (sym known)

load_leaf : (runs : List fixed_runs.Run) (leaf : Atom) (d : Term) → normal_load runs (tree.Leaf leaf) d ≡ spec.load_of_variable runs (tree.Leaf leaf) d
unfolding normal_load
load_leaf runs leaf d = refl

load_one : (runs : List fixed_runs.Run) (o : UnaryOperator) (a d : Term) → normal_load runs (tree.Unary o a) d ≡ spec.load_of_variable runs (tree.Unary o a) d
unfolding normal_load
load_one runs o a d = refl

load_two : (runs : List fixed_runs.Run) (o : BinaryOperator) (a b d : Term) → normal_load runs (tree.Binary o a b) d ≡ spec.load_of_variable runs (tree.Binary o a b) d
unfolding normal_load
load_two runs o a b d = refl

load_eight : (runs : List fixed_runs.Run) (a b c e f g h i d : Term) → normal_load runs (tree.Octonary a b c e f g h i) d ≡ spec.load_of_variable runs (tree.Octonary a b c e f g h i) d
unfolding normal_load
load_eight runs a b c e f g h i d = refl

node_below : (m n : ℕ) → m < n → (node : TermNode) → IsNode m node → IsNode n node
node_below m n less (Leaf leaf) h = tt
node_below m n less (Unary o a) h = omega arith
node_below m n less (Binary o a b) h = (omega arith, omega arith)
node_below m n less (Ternary o a b c) h = (omega arith, omega arith, omega arith)
node_below m n less (Quaternary o a b c d) h = (omega arith, omega arith, omega arith, omega arith)
node_below m n less (Octonary a b c d e f g i) h =
    (omega arith, omega arith, omega arith, omega arith, omega arith, omega arith, omega arith, omega arith)

-- by the node over the loads of its memories
module _ (raw : List CodeRun) (trees : List Term) (address : ℕ) (walk : Walk) (loads : AreForms (load_from raw (tree_at trees address)) trees walk) where
  loads_inside : (node other : TermNode) → IsNode (length trees) node → HasLoads (form_at walk) node other → IsNode (length trees) other
  loads_inside (Leaf leaf) other inside h = subst (IsNode (length trees)) (sym h) inside
  loads_inside (Unary o a) other inside h = subst (IsNode (length trees)) (sym h) inside
  loads_inside (Binary o a b) other inside h = subst (IsNode (length trees)) (sym h) inside
  loads_inside (Ternary ternary.Store m a b) other inside h =
      subst (IsNode (length trees)) (sym h.2) (form_within (load_from raw (tree_at trees address)) trees walk loads m h.0 h.1, inside.1, inside.2)
  loads_inside (Ternary ternary.Choose c m n) other inside h =
      subst (IsNode (length trees)) (sym h.4)
      (inside.0, form_within (load_from raw (tree_at trees address)) trees walk loads m h.0 h.2, form_within (load_from raw (tree_at trees address)) trees walk loads n h.1 h.3)
  loads_inside (Quaternary quaternary.Over m n low high) other inside h =
      subst (IsNode (length trees)) (sym h.4)
      (form_within (load_from raw (tree_at trees address)) trees walk loads m h.0 h.2, form_within (load_from raw (tree_at trees address)) trees walk loads n h.1 h.3, inside.2, inside.3)
  loads_inside (Quaternary quaternary.Join a b c d) other inside h = subst (IsNode (length trees)) (sym h) inside
  loads_inside (Octonary a b c d e f g i) other inside h = subst (IsNode (length trees)) (sym h) inside

  pub loads_within : (at : ℕ) (node other : TermNode) → at < length trees → IsNode at node → HasLoads (form_at walk) node other → IsNode (length trees) other
  loads_within at node other below before h = loads_inside node other (node_below at (length trees) below node before) h

  pub load_by : (at : ℕ) (node other : TermNode) → Holds trees at (build trees node) → HasLoads (form_at walk) node other
      → load_from raw (tree_at trees address) (tree_at trees at) ≡ load_node (runs_of raw) trees at address other
  load_by at (Leaf leaf) other here h =
      load_plain (runs_of raw) trees at address (Leaf leaf) here (load_leaf (runs_of raw) leaf) ∙ ap (load_node (runs_of raw) trees at address) (sym h)
  load_by at (Unary o a) other here h =
      load_plain (runs_of raw) trees at address (Unary o a) here (load_one (runs_of raw) o (tree_at trees a)) ∙ ap (load_node (runs_of raw) trees at address) (sym h)
  load_by at (Binary o a b) other here h =
      load_plain (runs_of raw) trees at address (Binary o a b) here (load_two (runs_of raw) o (tree_at trees a) (tree_at trees b)) ∙ ap (load_node (runs_of raw) trees at address) (sym h)
  load_by at (Ternary ternary.Store m a b) other here h =
      load_of_store (runs_of raw) trees (tree_at trees address) at m a b h.0 here (form_is (load_from raw (tree_at trees address)) trees walk loads m h.0 h.1)
      ∙ ap (load_node (runs_of raw) trees at address) (sym h.2)
  load_by at (Ternary ternary.Choose c m n) other here h =
      load_of_choice (runs_of raw) trees (tree_at trees address) at c m n h.0 h.1 here (form_is (load_from raw (tree_at trees address)) trees walk loads m h.0 h.2) (form_is (load_from raw (tree_at trees address)) trees walk loads n h.1 h.3)
      ∙ ap (load_node (runs_of raw) trees at address) (sym h.4)
  load_by at (Quaternary quaternary.Over m n low high) other here h =
      load_of_overlay (runs_of raw) trees (tree_at trees address) at m n low high h.0 h.1 here (form_is (load_from raw (tree_at trees address)) trees walk loads m h.0 h.2) (form_is (load_from raw (tree_at trees address)) trees walk loads n h.1 h.3)
      ∙ ap (load_node (runs_of raw) trees at address) (sym h.4)
  load_by at (Quaternary quaternary.Join a b c d) other here h =
      load_of_join (runs_of raw) trees (tree_at trees address) at a b c d here ∙ ap (load_node (runs_of raw) trees at address) (sym h)
  load_by at (Octonary a b c d e f g i) other here h =
      load_plain (runs_of raw) trees at address (Octonary a b c d e f g i) here
      (load_eight (runs_of raw) (tree_at trees a) (tree_at trees b) (tree_at trees c) (tree_at trees d) (tree_at trees e) (tree_at trees f) (tree_at trees g) (tree_at trees i))
      ∙ ap (load_node (runs_of raw) trees at address) (sym h)

-- ---- nodes that are no store, choice or overlay

abbrev NoTernary : TermNode → Type 0
NoTernary node = (o : TernaryOperator) (m a b : ℕ) → node ≡ Ternary o m a b → ⊥

abbrev NoQuaternary : TermNode → Type 0
NoQuaternary node = (o : QuaternaryOperator) (m z x y : ℕ) → node ≡ Quaternary o m z x y → ⊥

pub has_itself : (load : ℕ → Option ℕ) (node : TermNode) → NoTernary node → NoQuaternary node → HasLoads load node node
has_itself load (Leaf leaf) t q = refl
has_itself load (Unary o a) t q = refl
has_itself load (Binary o a b) t q = refl
has_itself load (Ternary o a b c) t q = absurd (t o a b c refl)
has_itself load (Quaternary o a b c d) t q = absurd (q o a b c d refl)
has_itself load (Octonary a b c d e f g h) t q = refl

pub loads_itself : (runs : List fixed_runs.Run) (trees : List Term) (at address : ℕ) (node : TermNode) → NoTernary node → NoQuaternary node
    → load_node runs trees at address node ≡ spec.load_of_variable runs (tree_at trees at) (tree_at trees address)
loads_itself runs trees at address (Leaf leaf) t q = refl
loads_itself runs trees at address (Unary o a) t q = refl
loads_itself runs trees at address (Binary o a b) t q = refl
loads_itself runs trees at address (Ternary o a b c) t q = absurd (t o a b c refl)
loads_itself runs trees at address (Quaternary o a b c d) t q = absurd (q o a b c d refl)
loads_itself runs trees at address (Octonary a b c d e f g h) t q = refl

-- ---- one operation after the other

module _ {E : Type 0} (old mid new : List Term) (extends : Extends old mid) (r : Result ℕ E) where
  -- a choice by a test that was built
  pub chosen : (test x y : ℕ) (t : Term) → x < length old → y < length old → Holds mid test t
      → IfOk r (λ i. Holds new i (spec.normal_choose (tree_at mid test) (tree_at mid x) (tree_at mid y)))
      → IfOk r (λ i. Holds new i (spec.normal_choose t (tree_at old x) (tree_at old y)))
  chosen test x y t x_below y_below holds made =
      let first : tree_at mid test ≡ t = read mid test t holds in
      let second : tree_at mid x ≡ tree_at old x = stays old mid x extends x_below in
      let third : tree_at mid y ≡ tree_at old y = stays old mid y extends y_below in
      let made_as : spec.normal_choose (tree_at mid test) (tree_at mid x) (tree_at mid y) ≡ spec.normal_choose t (tree_at old x) (tree_at old y) = cc in
      subst (λ u. IfOk r (λ i. Holds new i u)) made_as made

-- a test of two bounds
pub between : {E : Type 0} (old first second third new : List Term) (d low high before from below : ℕ) (r : Result ℕ E)
    → Extends old first → Extends first second → Extends second third → d < length old → high < length old
    → Holds first before (spec.normal_less (tree_at old d) (tree_at old low)) → Holds second from (spec.normal_not (tree_at first before))
    → Holds third below (spec.normal_less (tree_at second d) (tree_at second high))
    → IfOk r (λ i. Holds new i (spec.normal_and (tree_at third from) (tree_at third below)))
    → IfOk r (λ i. Holds new i (spec.normal_and (spec.normal_not (spec.normal_less (tree_at old d) (tree_at old low))) (spec.normal_less (tree_at old d) (tree_at old high))))
between old first second third new d low high before from below r e1 e2 e3 d_below high_below is_before is_from is_below made =
    let to_second : Extends old second = extends_through old first second e1 e2 in
    let r1 : tree_at first before ≡ spec.normal_less (tree_at old d) (tree_at old low) = read first before (spec.normal_less (tree_at old d) (tree_at old low)) is_before in
    let r2 : tree_at third from ≡ spec.normal_not (tree_at first before) =
    stays second third from e3 (within second from (spec.normal_not (tree_at first before)) is_from) ∙ read second from (spec.normal_not (tree_at first before)) is_from in
    let r3 : tree_at third below ≡ spec.normal_less (tree_at second d) (tree_at second high) = read third below (spec.normal_less (tree_at second d) (tree_at second high)) is_below in
    let r4 : tree_at second d ≡ tree_at old d = stays old second d to_second d_below in
    let r5 : tree_at second high ≡ tree_at old high = stays old second high to_second high_below in
    let made_as : spec.normal_and (tree_at third from) (tree_at third below)
    ≡ spec.normal_and (spec.normal_not (spec.normal_less (tree_at old d) (tree_at old low))) (spec.normal_less (tree_at old d) (tree_at old high)) = cc in
    subst (λ u. IfOk r (λ i. Holds new i u)) made_as made
