-- What the trees of nodes are, by the nodes.
use Rattle.std.proofs.Common.{◌≡◌, ◌≢◌, ◌∙◌, ℕ, ◌+◌, ◌-◌, ◌*◌, ◌%◌, ◌^◌, ◌<◌, ◌≤◌, ◌==◌, Bool, true, false, refl, sym, ap, ap₂, subst, arith, eqb-true, eq-eqb, ne_eqb, List, [], ◌∷◌, length, Option, Some, None}
use Rattle.std.specs.Prelude.{Result, Ok, Err, IfOk, OnOk}
use Rattle.std.proofs.lemmas.Nat.{pow-add}
use Rattle.std.proofs.Math.Nat.{mul-mod_left, mul_assoc}
use Rattle.code_reach_spec.specs.RunUp as tree
use Rattle.code_reach_spec.specs.RunUp.{Symbolic, same, constant_of, parts_of, shift_of, plus_constant, difference_by, shifted_by, shifted, masked_by, masked}
use Rattle.code_reach_spec.proofs.RunUp.{same-eq, same-itself}
use Rattle.code_reach_tables.specs.declared.nodes.Node.{Node}
use Rattle.code_reach_tables.specs.declared.nodes.Node.TheVariants.{Constant, Initial, Unknown, Sum, Difference, Shifted, Masked}
use Rattle.code_reach_tables.specs.Nodes.{tree_at, build, Holds, Extends, trees_of, AreShared, Gives}
use Rattle.code_reach_tables.proofs.Growth.{held, trees-long, tree-held, tree-later, later-below, below-held, gives-then, nothing-given}

-- an index as it is
pub as-it-is : (nodes : List Node) (a : ℕ) (t : Symbolic) → AreShared nodes → a < length nodes → t ≡ tree_at (trees_of nodes) a → Gives nodes nodes a t
as-it-is nodes a t shared below e =
    subst (λ (s : Symbolic). Gives nodes nodes a s) (sym e) (nothing-given nodes a shared (omega (arith, below, trees-long nodes)))

pub longer : (old new : List Node) (id a : ℕ) (t : Symbolic) → Gives old new id t → a < length old → a < length new
longer old new id a t gives below =
    omega (arith, trees-long old, trees-long new, later-below (trees_of old) (trees_of new) a gives.extends (omega (arith, below, trees-long old)))

pub given-below : (old new : List Node) (id : ℕ) (t : Symbolic) → Gives old new id t → id < length new
given-below old new id t gives = omega (arith, trees-long new, below-held (trees_of new) id t gives.holds)

pub if-ok : {T E : Type 0} {P Q : T → Type 0} (r : Result T E) → ((x : T) → P x → Q x) → IfOk r P → IfOk r Q
if-ok (Ok x) more is = more x is
if-ok (Err e) more is = is

-- ---- parts

none-parts : (ts : List Symbolic) (node : Node) → ((a b : ℕ) → node ≡ Sum a b → ⊥) → parts_of (build ts node) ≡ None
unfolding parts_of
none-parts ts (Constant n) not_sum = refl
none-parts ts (Initial r) not_sum = refl
none-parts ts (Unknown p) not_sum = refl
none-parts ts (Sum a b) not_sum = absurd (not_sum a b refl)
none-parts ts (Difference a b) not_sum = refl
none-parts ts (Shifted a k) not_sum = refl
none-parts ts (Masked a k) not_sum = refl

pub no-parts : (ts : List Symbolic) (t : Symbolic) (node : Node) → t ≡ build ts node → ((a b : ℕ) → node ≡ Sum a b → ⊥) → None ≡ parts_of t
no-parts ts t node e not_sum = sym (ap (λ (s : Symbolic). parts_of s) e ∙ none-parts ts node not_sum)

none-by : (a b : Symbolic) → None ≡ constant_of b → parts_of (tree.Sum a b) ≡ None
unfolding parts_of constant_of
none-by a (tree.Constant n) e = absurd (cc)
none-by a (tree.Initial r) e = refl
none-by a (tree.Unknown p) e = refl
none-by a (tree.Sum x y) e = refl
none-by a (tree.Difference x y) e = refl
none-by a (tree.Shifted x k) e = refl
none-by a (tree.Masked x k) e = refl

pub no-constant : (t a b : Symbolic) → t ≡ tree.Sum a b → None ≡ constant_of b → parts_of t ≡ None
no-constant t a b e none = ap (λ (s : Symbolic). parts_of s) e ∙ none-by a b none

some-by : (a b : Symbolic) (n : ℕ) → Some n ≡ constant_of b → parts_of (tree.Sum a b) ≡ Some (a, n)
unfolding parts_of constant_of
some-by a (tree.Constant m) n e = let same_number : n ≡ m = cc in ap (λ k. Some (a, k)) (sym same_number)
some-by a (tree.Initial r) n e = absurd (cc)
some-by a (tree.Unknown p) n e = absurd (cc)
some-by a (tree.Sum x y) n e = absurd (cc)
some-by a (tree.Difference x y) n e = absurd (cc)
some-by a (tree.Shifted x k) n e = absurd (cc)
some-by a (tree.Masked x k) n e = absurd (cc)

pub some-constant : (t a b : Symbolic) (n : ℕ) → t ≡ tree.Sum a b → Some n ≡ constant_of b → Some (a, n) ≡ parts_of t
some-constant t a b n e some = sym (ap (λ (s : Symbolic). parts_of s) e ∙ some-by a b n some)

none-shift : (ts : List Symbolic) (node : Node) → ((a k : ℕ) → node ≡ Shifted a k → ⊥) → shift_of (build ts node) ≡ None
unfolding shift_of
none-shift ts (Constant n) not_shift = refl
none-shift ts (Initial r) not_shift = refl
none-shift ts (Unknown p) not_shift = refl
none-shift ts (Sum a b) not_shift = refl
none-shift ts (Difference a b) not_shift = refl
none-shift ts (Shifted a k) not_shift = absurd (not_shift a k refl)
none-shift ts (Masked a k) not_shift = refl

pub no-shift : (ts : List Symbolic) (t : Symbolic) (node : Node) → t ≡ build ts node → ((a k : ℕ) → node ≡ Shifted a k → ⊥) → None ≡ shift_of t
no-shift ts t node e not_shift = sym (ap (λ (s : Symbolic). shift_of s) e ∙ none-shift ts node not_shift)

pub a-shift : (t a : Symbolic) (k : ℕ) → t ≡ tree.Shifted a k → Some (a, k) ≡ shift_of t
unfolding shift_of
a-shift t a k e = sym (ap (λ (s : Symbolic). shift_of s) e)

-- ---- sums with a constant

pub plus-nothing : (t : Symbolic) (n : ℕ) → n ≡ 0 → plus_constant t n ≡ t
plus-nothing t n e = ap (λ k. plus_constant t k) e

plus-some : (t : Symbolic) (n : ℕ) → n ≢ 0 → plus_constant t n ≡ tree.Sum t (tree.Constant n)
plus-some t n some = rw (ne_eqb n 0 some) refl

pub plus-given : (old middle new : List Node) (a n c id : ℕ) → a < length old → n ≢ 0 → Gives old middle c (tree.Constant n)
    → Gives middle new id (tree.Sum (tree_at (trees_of middle) a) (tree_at (trees_of middle) c)) → Gives old new id (plus_constant (tree_at (trees_of old) a) n)
plus-given old middle new a n c id below some first second =
    gives-then old middle new c id (tree.Constant n) (plus_constant (tree_at (trees_of old) a) n) first
    (subst (λ (t : Symbolic). Gives middle new id t) same_tree second)
  where
    here : tree_at (trees_of middle) a ≡ tree_at (trees_of old) a
    here = tree-later (trees_of old) (trees_of middle) a first.extends (omega (arith, below, trees-long old))

    constant : tree_at (trees_of middle) c ≡ tree.Constant n
    constant = tree-held (trees_of middle) c (tree.Constant n) first.holds

    same_tree : tree.Sum (tree_at (trees_of middle) a) (tree_at (trees_of middle) c) ≡ plus_constant (tree_at (trees_of old) a) n
    same_tree = ap₂ (λ (s t : Symbolic). tree.Sum s t) here constant ∙ sym (plus-some (tree_at (trees_of old) a) n some)

-- ---- trees that are the same

pub same-one : (nodes : List Node) (a b : ℕ) → a ≡ b → difference_by (tree_at (trees_of nodes) a) (tree_at (trees_of nodes) b) None None ≡ tree.Constant 0
same-one nodes a b e =
    let here : same (tree_at (trees_of nodes) a) (tree_at (trees_of nodes) b) ≡ true =
    ap (λ k. same (tree_at (trees_of nodes) a) (tree_at (trees_of nodes) k)) (sym e) ∙ same-itself (tree_at (trees_of nodes) a) in
    rw here refl

pub not-same : (nodes : List Node) (a b : ℕ) → AreShared nodes → a < length nodes → b < length nodes → a ≢ b
    → same (tree_at (trees_of nodes) a) (tree_at (trees_of nodes) b) ≡ false
not-same nodes a b shared left right apart = by (same (tree_at (trees_of nodes) a) (tree_at (trees_of nodes) b)) refl
  where
    by : (z : Bool) → same (tree_at (trees_of nodes) a) (tree_at (trees_of nodes) b) ≡ z → z ≡ false
    by false e = refl
    by true e =
        let equal = same-eq (tree_at (trees_of nodes) a) (tree_at (trees_of nodes) b) e in
        let first : Holds (trees_of nodes) a (tree_at (trees_of nodes) a) = held (trees_of nodes) a (omega (arith, left, trees-long nodes)) in
        let second : Holds (trees_of nodes) b (tree_at (trees_of nodes) a) =
        held (trees_of nodes) b (omega (arith, right, trees-long nodes)) ∙ ap (λ (t : Symbolic). Some t) (sym equal) in
        absurd (apart (shared.distinct a b (tree_at (trees_of nodes) a) first second))

pub not-same-difference : (nodes : List Node) (a b : ℕ) → AreShared nodes → a < length nodes → b < length nodes → a ≢ b
    → difference_by (tree_at (trees_of nodes) a) (tree_at (trees_of nodes) b) None None
    ≡ tree.Difference (tree_at (trees_of nodes) a) (tree_at (trees_of nodes) b)
not-same-difference nodes a b shared left right apart = rw (not-same nodes a b shared left right apart) refl

-- ---- shifts and masks

pub shifted-nothing : (t : Symbolic) (amount : ℕ) → None ≡ constant_of t → amount ≡ 0 → shifted t amount ≡ t
unfolding shifted
shifted-nothing t amount none e = ap₂ (λ (k : ℕ) (o : Option ℕ). shifted_by t k o) e (sym none)

pub masked-all : (t : Symbolic) (mask : ℕ) → None ≡ constant_of t → mask ≡ 2 ^ 32 - 1 → masked t mask ≡ t
unfolding masked
masked-all t mask none e = ap₂ (λ (k : ℕ) (o : Option ℕ). masked_by t k o) e (sym none)

pub shifted-out : (n amount : ℕ) → 32 ≤ amount → 0 ≡ n * 2 ^ amount % 2 ^ 32
shifted-out n amount far =
    let split : amount ≡ amount - 32 + 32 = omega (arith, far) in
    let product : n * 2 ^ amount ≡ n * 2 ^ (amount - 32) * 2 ^ 32 =
    ap (λ k. n * 2 ^ k) split ∙ (ap (λ p. n * p) (pow-add 2 (amount - 32) 32) ∙ sym (mul_assoc n (2 ^ (amount - 32)) (2 ^ 32))) in
    sym (ap (λ p. p % 2 ^ 32) product ∙ mul-mod_left (n * 2 ^ (amount - 32)) (2 ^ 32))

pub on-ok : {T E P Q : Type 0} (r : Result T E) → (P → Q) → OnOk r P → OnOk r Q
on-ok (Ok x) more is = more is
on-ok (Err e) more is = is
