-- Operators over numbers, and the terms that they make.
use Rattle.std.proofs.Common.{◌≡◌, ℕ, zero, suc, ◌-◌, ◌<◌, ◌≤◌, Bool, true, false, cond, List, [], ◌∷◌, length, map, Some, None, refl, sym, ap, ◌∙◌, subst, arith}
use Rattle.std.specs.Prelude.{◌==◌, ◌&&◌, nat_lt, slice_get, option_map, is_some}
use Rattle.std.proofs.lemmas.Option.{same_Some}
use Rattle.std.proofs.lemmas.Bool.{and_parts, ltb-true, eqb-false}
use Rattle.term_core_spec.specs.Term.{Term}
use Rattle.term_bank.specs.declared.node.TermNode.{TermNode}
use Rattle.term_bank.specs.declared.node.TermNode.TheVariants.{Leaf, Unary, Binary, Ternary, Quaternary, Octonary}
use Rattle.term_bank.specs.Nodes.{IsNode, tree_at, build}
use Rattle.term_bank.specs.Subterms.{arguments_of}
use Rattle.word_steps_spec.specs.Numbers.{Operation, Alone, One, Two, Three, Four, Eight, operands, operand_at, at_places, made, Number, is_number}
use Rattle.word_steps_spec.specs.Lines.{are_numbers}
use Rattle.word_steps.specs.Views.{node_over, named, operation_of, index_below, are_below, place_of, before}

-- ---- the tree of a node whose arguments are put in

pub build_over : (trees : List Term) (f : ℕ → ℕ → Term) (g : ℕ → ℕ → ℕ) (count : ℕ) (node : TermNode) → IsNode count node
    → ((i x : ℕ) → x < count → tree_at trees (g i x) ≡ f i (suc x)) → build trees (node_over g node) ≡ made (at_places f (operation_of node))
unfolding node_over named at_places made
build_over trees f g count (Leaf leaf) is same = refl
build_over trees f g count (Unary o a) is same =
    let ea = same 1 a is in
    cc
build_over trees f g count (Binary o a b) is same =
    let ea = same 1 a is.0 in
    let eb = same 2 b is.1 in
    cc
build_over trees f g count (Ternary o a b c) is same =
    let ea = same 1 a is.0 in
    let eb = same 2 b is.1 in
    let ec = same 3 c is.2 in
    cc
build_over trees f g count (Quaternary o a b c d) is same =
    let ea = same 1 a is.0 in
    let eb = same 2 b is.1 in
    let ec = same 3 c is.2 in
    let ed = same 4 d is.3 in
    cc
build_over trees f g count (Octonary a b c d e h j k) is same =
    let ea = same 1 a is.0 in
    let eb = same 2 b is.1 in
    let ec = same 3 c is.2 in
    let ed = same 4 d is.3 in
    let ee = same 5 e is.4 in
    let eh = same 6 h is.5 in
    let ej = same 7 j is.6 in
    let ek = same 8 k is.7 in
    cc

pub over_within : (g : ℕ → ℕ → ℕ) (count n : ℕ) (node : TermNode) → IsNode count node → ((i x : ℕ) → x < count → g i x < n) → IsNode n (node_over g node)
unfolding node_over
over_within g count n (Leaf leaf) is h = tt
over_within g count n (Unary o a) is h = h 1 a is
over_within g count n (Binary o a b) is h = (h 1 a is.0, h 2 b is.1)
over_within g count n (Ternary o a b c) is h = (h 1 a is.0, h 2 b is.1, h 3 c is.2)
over_within g count n (Quaternary o a b c d) is h = (h 1 a is.0, h 2 b is.1, h 3 c is.2, h 4 d is.3)
over_within g count n (Octonary a b c d e i j k) is h =
    (h 1 a is.0, h 2 b is.1, h 3 c is.2, h 4 d is.3, h 5 e is.4, h 6 i is.5, h 7 j is.6, h 8 k is.7)

pub node_wider : (m n : ℕ) (node : TermNode) → m ≤ n → IsNode m node → IsNode n node
node_wider m n (Leaf leaf) le is = tt
node_wider m n (Unary o a) le is = let ha : a < m = is in omega arith
node_wider m n (Binary o a b) le is =
    let ha : a < m = is.0 in
    let hb : b < m = is.1 in
    (omega arith, omega arith)
node_wider m n (Ternary o a b c) le is =
    let ha : a < m = is.0 in
    let hb : b < m = is.1 in
    let hc : c < m = is.2 in
    (omega arith, omega arith, omega arith)
node_wider m n (Quaternary o a b c d) le is =
    let ha : a < m = is.0 in
    let hb : b < m = is.1 in
    let hc : c < m = is.2 in
    let hd : d < m = is.3 in
    (omega arith, omega arith, omega arith, omega arith)
node_wider m n (Octonary a b c d e f g h) le is = (
  wider a is.0,
  wider b is.1,
  wider c is.2,
  wider d is.3,
  wider e is.4,
  wider f is.5,
  wider g is.6,
  wider h is.7,
)
  where
    wider : (x : ℕ) → x < m → x < n
    wider x less = omega (arith, less, le)

-- at place 0, which no argument has, nothing is put in
pub nothing_at_0 : {A B : Type 0} (t : B) (f : A → B) (operation : Operation A) → at_places (λ i x. cond (i == 0) t (f x)) operation ≡ at_places (λ i x. f x) operation
unfolding at_places
nothing_at_0 t f (Alone atom) = refl
nothing_at_0 t f (One o a) = refl
nothing_at_0 t f (Two o a b) = refl
nothing_at_0 t f (Three o a b c) = refl
nothing_at_0 t f (Four o a b c d) = refl
nothing_at_0 t f (Eight a b c d e g h i) = refl

-- ---- numbers and their indices

suc-before : (k : ℕ) → 0 < k → suc (k - 1) ≡ k
suc-before k above = omega (arith, above)

index_of_some : (count k : ℕ) → is_some (index_below count k) ≡ true → (0 < k) × (k - 1 < count)
index_of_some count k h = by (k == 0) (nat_lt (k - 1) count) refl refl h
  where
    by : (p q : Bool) → (k == 0) ≡ p → nat_lt (k - 1) count ≡ q → is_some (cond p None (cond q (Some (k - 1)) None)) ≡ true → (0 < k) × (k - 1 < count)
    by true q e f g = absurd (cc)
    by false true e f g = (omega (arith, eqb-false k 0 e), ltb-true (k - 1) count f)
    by false false e f g = absurd (cc)

-- each is from 1 to a count
unfoldable AllFrom1 : ℕ → List ℕ → Type 0
AllFrom1 count [] = Unit {0}
AllFrom1 count (k ∷ rest) = ((0 < k) × (k - 1 < count)) × AllFrom1 count rest

all_from_1 : (count : ℕ) (ks : List ℕ) → are_below count ks ≡ true → AllFrom1 count ks
unfolding are_below AllFrom1
all_from_1 count [] h = tt
all_from_1 count (k ∷ rest) h =
    let parts = and_parts (is_some (index_below count k)) (are_below count rest) h in
    (index_of_some count k parts.0, all_from_1 count rest parts.1)

pub indices_within : (count : ℕ) (node : TermNode) → are_below count (arguments_of node) ≡ true → IsNode count (node_over before node)
unfolding node_over AllFrom1
indices_within count (Leaf leaf) h = tt
indices_within count (Unary o a) h = let p = all_from_1 count _ h in p.0.1
indices_within count (Binary o a b) h = let p = all_from_1 count _ h in (p.0.1, p.1.0.1)
indices_within count (Ternary o a b c) h = let p = all_from_1 count _ h in (p.0.1, p.1.0.1, p.1.1.0.1)
indices_within count (Quaternary o a b c d) h = let p = all_from_1 count _ h in (p.0.1, p.1.0.1, p.1.1.0.1, p.1.1.1.0.1)
indices_within count (Octonary a b c d e f g i) h =
    let p = all_from_1 count _ h in
    let q = p.1.1.1.1 in
    (p.0.1, p.1.0.1, p.1.1.0.1, p.1.1.1.0.1, q.0.1, q.1.0.1, q.1.1.0.1, q.1.1.1.0.1)

pub indices_named : (count : ℕ) (node : TermNode) → are_below count (arguments_of node) ≡ true → operation_of (node_over before node) ≡ named node
unfolding node_over named AllFrom1
indices_named count (Leaf leaf) h = refl
indices_named count (Unary o a) h =
    let p = all_from_1 count _ h in
    let ea = suc-before a p.0.0 in
    cc
indices_named count (Binary o a b) h =
    let p = all_from_1 count _ h in
    let ea = suc-before a p.0.0 in
    let eb = suc-before b p.1.0.0 in
    cc
indices_named count (Ternary o a b c) h =
    let p = all_from_1 count _ h in
    let ea = suc-before a p.0.0 in
    let eb = suc-before b p.1.0.0 in
    let ec = suc-before c p.1.1.0.0 in
    cc
indices_named count (Quaternary o a b c d) h =
    let p = all_from_1 count _ h in
    let ea = suc-before a p.0.0 in
    let eb = suc-before b p.1.0.0 in
    let ec = suc-before c p.1.1.0.0 in
    let ed = suc-before d p.1.1.1.0.0 in
    cc
indices_named count (Octonary a b c d e f g i) h =
    let p = all_from_1 count _ h in
    let q = p.1.1.1.1 in
    let ea = suc-before a p.0.0 in
    let eb = suc-before b p.1.0.0 in
    let ec = suc-before c p.1.1.0.0 in
    let ed = suc-before d p.1.1.1.0.0 in
    let ee = suc-before e q.0.0 in
    let ef = suc-before f q.1.0.0 in
    let eg = suc-before g q.1.1.0.0 in
    let ei = suc-before i q.1.1.1.0.0 in
    cc

-- a number is there exactly where it has an index
pub is_number_below : (numbers : List Number) (k : ℕ) → is_number numbers k ≡ is_some (index_below (length numbers) k)
unfolding is_number
is_number_below numbers zero = refl
is_number_below numbers (suc i) =
    let above : (suc i == 0) ≡ false = search arith in
    let is : suc i - 1 ≡ i = omega arith in
    sym
    (ap (λ b. is_some (cond b None (cond (nat_lt (suc i - 1) (length numbers)) (Some (suc i - 1)) None))) above
    ∙ ap (λ j. is_some (cond (nat_lt j (length numbers)) (Some j) None)) is ∙ by (nat_lt i (length numbers)))
  where
    by : (b : Bool) → is_some (cond b (Some i) None) ≡ b
    by true = refl
    by false = refl

operands-named : (node : TermNode) → operands (named node) ≡ arguments_of node
unfolding operands named
operands-named (Leaf leaf) = refl
operands-named (Unary o a) = refl
operands-named (Binary o a b) = refl
operands-named (Ternary o a b c) = refl
operands-named (Quaternary o a b c d) = refl
operands-named (Octonary a b c d e f g h) = refl

are_numbers_below : (numbers : List Number) (ks : List ℕ) → are_numbers numbers ks ≡ are_below (length numbers) ks
unfolding are_below
are_numbers_below numbers [] = refl
are_numbers_below numbers (k ∷ rest) =
    ap (λ b. b && are_numbers numbers rest) (is_number_below numbers k)
    ∙ ap (λ b. is_some (index_below (length numbers) k) && b) (are_numbers_below numbers rest)

pub named_there : (numbers : List Number) (node : TermNode) → are_numbers numbers (operands (named node)) ≡ are_below (length numbers) (arguments_of node)
named_there numbers node = ap (are_numbers numbers) (operands-named node) ∙ are_numbers_below numbers (arguments_of node)

-- ---- an argument

operands-operation : (node : TermNode) → operands (operation_of node) ≡ map suc (arguments_of node)
unfolding operands named node_over
operands-operation (Leaf leaf) = refl
operands-operation (Unary o a) = refl
operands-operation (Binary o a b) = refl
operands-operation (Ternary o a b c) = refl
operands-operation (Quaternary o a b c d) = refl
operands-operation (Octonary a b c d e f g h) = refl

pub operand_count : (node : TermNode) → length (operands (operation_of node)) ≡ length (arguments_of node)
operand_count node = ap length (operands-operation node) ∙ same (arguments_of node)
  where
    same : (xs : List ℕ) → length (map suc xs) ≡ length xs
    same [] = refl
    same (x ∷ xs) = ap suc (same xs)

slice_get-suc : (xs : List ℕ) (i : ℕ) → slice_get (map suc xs) i ≡ option_map suc (slice_get xs i)
slice_get-suc [] i = refl
slice_get-suc (x ∷ xs) zero = refl
slice_get-suc (x ∷ xs) (suc i) = slice_get-suc xs i

pub operand_is : (node : TermNode) (place : ℕ) → operand_at place (operation_of node) ≡ option_map suc (place_of (arguments_of node) place)
operand_is node zero = refl
operand_is node (suc i) =
    let above : (suc i == 0) ≡ false = search arith in
    let is : suc i - 1 ≡ i = omega arith in
    ap (λ xs. slice_get xs i) (operands-operation node) ∙ slice_get-suc (arguments_of node) i
    ∙ sym
    (ap (λ b. option_map suc (cond b None (slice_get (arguments_of node) (suc i - 1)))) above
    ∙ ap (λ j. option_map suc (slice_get (arguments_of node) j)) is)

-- all of some numbers are below a count
abbrev AllBelow : ℕ → List ℕ → Type 0
AllBelow count [] = Unit {0}
AllBelow count (x ∷ rest) = (x < count) × AllBelow count rest

one_below : (count : ℕ) (xs : List ℕ) → AllBelow count xs → (i x : ℕ) → slice_get xs i ≡ Some x → x < count
one_below count [] h i x f = absurd (cc)
one_below count (y ∷ xs) h zero x f = subst (λ n. n < count) (same_Some y x f) h.0
one_below count (y ∷ xs) h (suc i) x f = one_below count xs h.1 i x f

arguments_below : (count : ℕ) (n : TermNode) → IsNode count n → AllBelow count (arguments_of n)
arguments_below count (Leaf leaf) h = tt
arguments_below count (Unary o b) h = (h, tt)
arguments_below count (Binary o b c) h = (h.0, (h.1, tt))
arguments_below count (Ternary o b c d) h = (h.0, (h.1, (h.2, tt)))
arguments_below count (Quaternary o b c d g) h = (h.0, (h.1, (h.2, (h.3, tt))))
arguments_below count (Octonary b c d g j k l m) h = (h.0, (h.1, (h.2, (h.3, (h.4, (h.5, (h.6, (h.7, tt))))))))

-- an argument is below the count
pub argument_within : (count : ℕ) (node : TermNode) (place a : ℕ) → IsNode count node → place_of (arguments_of node) place ≡ Some a → a < count
argument_within count node place a is e = by (place == 0) e
  where
    by : (test : Bool) → cond test None (slice_get (arguments_of node) (place - 1)) ≡ Some a → a < count
    by true f = absurd (cc)
    by false f = one_below count (arguments_of node) (arguments_below count node is) (place - 1) a f
