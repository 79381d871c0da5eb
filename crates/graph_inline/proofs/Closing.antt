-- With each marked term its arguments are marked.
use Rattle.std.proofs.Common.{◌≡◌, ◌∙◌, ◌⊎◌, inl, inr, ℕ, zero, suc, ◌+◌, ◌<◌, ◌≤◌, Bool, true, false, List, [], ◌∷◌, length, map, get_or, refl, sym, ap, subst, arith, eqb-true}
use Rattle.std.specs.Prelude.{nat_eq, ◌||◌}
use Rattle.std.specs.List.{All, list_any}
use Rattle.std.specs.Cmp.{nat_eq_equiv}
use Rattle.std.proofs.lemmas.Bool.{cases_lt}
use Rattle.std.proofs.lemmas.List.Elements.{All-tail, All-cons}
use Rattle.term_core_spec.specs.Term.{Term}
use Rattle.term_bank.specs.declared.node.TermNode.{TermNode}
use Rattle.term_bank.specs.declared.node.TermNode.TheVariants.{Leaf, Unary, Binary, Ternary, Quaternary, Octonary}
use Rattle.term_bank.specs.Nodes.{IsNode, tree_at, build, Holds, AreDistinct}
use Rattle.term_bank.specs.Subterms.{arguments_of}
use Rattle.term_bank.proofs.Growth.{held}
use Rattle.graph_inline.specs.Marks.{is_marked, MoreMarked, arguments, AreMarked, AreClosed}
use Rattle.graph_inline.proofs.Taking.{AllIn}

-- ---- arguments

arguments_built : (trees : List Term) (node : TermNode) → arguments (build trees node) ≡ map (tree_at trees) (arguments_of node)
arguments_built trees (Leaf leaf) = refl
arguments_built trees (Unary operator a) = refl
arguments_built trees (Binary operator a b) = refl
arguments_built trees (Ternary operator a b c) = refl
arguments_built trees (Quaternary operator a b c d) = refl
arguments_built trees (Octonary a b c d e f g h) = refl

pub arguments_below : (n : ℕ) (node : TermNode) → IsNode n node → AllIn (λ a. a < n) (arguments_of node)
unfolding AllIn
arguments_below n (Leaf leaf) h = tt
arguments_below n (Unary operator a) h = (h, tt)
arguments_below n (Binary operator a b) h = (h.0, (h.1, tt))
arguments_below n (Ternary operator a b c) h = (h.0, (h.1, (h.2, tt)))
arguments_below n (Quaternary operator a b c d) h = (h.0, (h.1, (h.2, (h.3, tt))))
arguments_below n (Octonary a b c d e f g i) h = (h.0, (h.1, (h.2, (h.3, (h.4, (h.5, (h.6, (h.7, tt))))))))

pub node_below : (n m : ℕ) (node : TermNode) → n ≤ m → IsNode n node → IsNode m node
node_below n m (Leaf leaf) le h = tt
node_below n m (Unary operator a) le h = omega (arith, le, h)
node_below n m (Binary operator a b) le h = (omega (arith, le, h.0), omega (arith, le, h.1))
node_below n m (Ternary operator a b c) le h = (omega (arith, le, h.0), omega (arith, le, h.1), omega (arith, le, h.2))
node_below n m (Quaternary operator a b c d) le h = (omega (arith, le, h.0), omega (arith, le, h.1), omega (arith, le, h.2), omega (arith, le, h.3))
node_below n m (Octonary a b c d e f g i) le h = (
  omega (arith, le, h.0),
  omega (arith, le, h.1),
  omega (arith, le, h.2),
  omega (arith, le, h.3),
  omega (arith, le, h.4),
  omega (arith, le, h.5),
  omega (arith, le, h.6),
  omega (arith, le, h.7),
)

-- as a property of each
pub each_below : (n : ℕ) (ids : List ℕ) → AllIn (λ a. a < n) ids → All (λ a. a < n) ids
unfolding AllIn
each_below n [] all = λ k d less. absurd (omega (arith, less))
each_below n (id ∷ ids) all = All-cons (λ (a : ℕ). a < n) id ids all.0 (each_below n ids all.1)

module _ (trees : List Term) (marks : List Bool) where
  abbrev Marked : ℕ → Type 0
  Marked a = is_marked marks a ≡ true

  Where : Term → Type 0
  Where t = (id : ℕ) → Holds trees id t → is_marked marks id ≡ true

  -- each argument of a marked term is marked
  each_marked : (n : ℕ) (ids : List ℕ) → n ≤ length trees → AllIn (λ a. a < n) ids → AreMarked trees marks (map (tree_at trees) ids) → AllIn (λ a. (a < n) × (is_marked marks a ≡ true)) ids
  unfolding AllIn
  each_marked n [] inside below all = tt
  each_marked n (id ∷ ids) inside below all =
      let first = all zero (tree_at trees id) (omega arith) in
      ((below.0, first id (held trees id (omega (arith, inside, below.0)))), each_marked n ids inside below.1 (All-tail (λ (t : Term). (i : ℕ) → Holds trees i t → is_marked marks i ≡ true) (tree_at trees id) (map (tree_at trees) ids) all))

  pub arguments_marked : (n : ℕ) (node : TermNode) → AreClosed 0 trees marks → is_marked marks n ≡ true → n ≤ length trees → IsNode n node → tree_at trees n ≡ build trees node
      → AllIn (λ a. (a < n) × (is_marked marks a ≡ true)) (arguments_of node)
  arguments_marked n node closed marked inside fits is =
      each_marked n (arguments_of node) inside (arguments_below n node fits)
      (subst (AreMarked trees marks) (ap arguments is ∙ arguments_built trees node) (closed n (omega arith) marked))

-- ---- one more node closed

-- an id among some that are below a number is below it
among_below : (n q : ℕ) (ids : List ℕ) → AllIn (λ a. a < n) ids → list_any (nat_eq q) ids ≡ true → q < n
unfolding AllIn
among_below n q [] below there = absurd (cc)
among_below n q (id ∷ ids) below there = by (nat_eq q id) refl there (λ rest. among_below n q ids below.1 rest)
  where
    by : (b : Bool) → nat_eq q id ≡ b → (b || list_any (nat_eq q) ids) ≡ true → (list_any (nat_eq q) ids ≡ true → q < n) → q < n
    by true e there later = subst (λ (m : ℕ). m < n) (sym (eqb-true q id e)) below.0
    by false e there later = later there

or_other : (a b : Bool) → (a || b) ≡ true → (a ≡ true) ⊎ (b ≡ true)
or_other true b e = inl refl
or_other false b e = inr e

or_first : (a b : Bool) → a ≡ true → (a || b) ≡ true
or_first a b e = ap (λ (c : Bool). c || b) e

or_second : (a b : Bool) → b ≡ true → (a || b) ≡ true
or_second true b e = refl
or_second false b e = e

either : (b : Bool) → (b ≡ true) ⊎ (b ≡ false)
either true = inl refl
either false = inr refl

module _ (trees : List Term) (old new : List Bool) (more : MoreMarked old new) where
  still_marked : (terms : List Term) → AreMarked trees old terms → AreMarked trees new terms
  still_marked terms all = λ k d less id at. more id (all k d less id at)

module _ (trees : List Term) (distinct : AreDistinct trees) (old new : List Bool) (n : ℕ) (node : TermNode)
    (is : (k : ℕ) → is_marked new k ≡ (list_any (nat_eq k) (arguments_of node) || is_marked old k)) (fits : IsNode n node) (inside : n < length trees)
    (tree : tree_at trees n ≡ build trees node) where
  pub more_marked : MoreMarked old new
  more_marked id marked = is id ∙ or_second (list_any (nat_eq id) (arguments_of node)) (is_marked old id) marked

  marked_before : (q : ℕ) → n ≤ q → is_marked new q ≡ true → is_marked old q ≡ true
  marked_before q past marked = elim (or_other (list_any (nat_eq q) (arguments_of node)) (is_marked old q) (sym (is q) ∙ marked)) [
    | inl there ↦ let below = among_below n q (arguments_of node) (arguments_below n node fits) there in absurd (omega (arith, below, past))
    | inr was ↦ was
  ]

  -- the tree of each of these ids is marked wherever it is
  trees_marked : (ids : List ℕ) → AllIn (λ a. a < n) ids → ((a : ℕ) → list_any (nat_eq a) ids ≡ true → is_marked new a ≡ true) → AreMarked trees new (map (tree_at trees) ids)
  unfolding AllIn
  trees_marked [] below there = λ k d less. absurd (omega (arith, less))
  trees_marked (id ∷ ids) below there =
      All-cons (λ (t : Term). (i : ℕ) → Holds trees i t → is_marked new i ≡ true) (tree_at trees id) (map (tree_at trees) ids)
      (λ i at.
      subst (λ (q : ℕ). is_marked new q ≡ true) (distinct id i (tree_at trees id) (held trees id (omega (arith, below.0, inside))) at)
      (there id (or_first (nat_eq id id) (list_any (nat_eq id) ids) (nat_eq_equiv.refl id))))
      (trees_marked ids below.1 (λ a among. there a (or_second (nat_eq a id) (list_any (nat_eq a) ids) among)))

  pub closes : AreClosed (n + 1) trees old → AreClosed n trees new
  closes closed q past marked = elim (cases_lt n q) [
    | inr other ↦
        let here : n ≡ q = omega (arith, past, other) in
        subst (λ (m : ℕ). AreMarked trees new (arguments (tree_at trees m))) here
        (subst (AreMarked trees new) (sym (ap arguments tree ∙ arguments_built trees node))
        (trees_marked (arguments_of node) (arguments_below n node fits) (λ a among. is a ∙ or_first (list_any (nat_eq a) (arguments_of node)) (is_marked old a) among)))
    | inl later ↦ still_marked trees old new more_marked (arguments (tree_at trees q)) (closed q (omega (arith, later)) (marked_before q past marked))
  ]

-- what is not marked needs nothing
pub closes_unmarked : (trees : List Term) (marks : List Bool) (n : ℕ) → is_marked marks n ≡ false → AreClosed (n + 1) trees marks → AreClosed n trees marks
closes_unmarked trees marks n unmarked closed q past marked = elim (cases_lt n q) [
  | inl later ↦ closed q (omega (arith, later)) marked
  | inr other ↦
      let here : n ≡ q = omega (arith, past, other) in
      absurd (clash (ap (is_marked marks) here ∙ marked) unmarked)
]
  where
    clash : {b : Bool} → b ≡ true → b ≡ false → ⊥
    clash x y = cc
