-- The state of a block of word steps: terms by numbers from 1, of each what it is now, facts, and merges.
use Rattle.std.specs.Prelude.{ℕ, zero, suc, ◌+◌, ◌==◌, ◌&&◌, not, nat_lt, Bool, true, false, if◌then◌else◌, List, [], ◌∷◌, length, map, get_or, set, slice_get, Option, Some, None}
use Rattle.term_core_spec.specs.declared.Sort.{Sort}
use Rattle.term_core_spec.specs.declared.Sort.TheVariants.{Truth}
use Rattle.term_core_spec.specs.declared.Atom.{Atom}
use Rattle.term_core_spec.specs.declared.Atom.TheVariants as atom
use Rattle.term_core_spec.specs.declared.UnaryOperator.{UnaryOperator}
use Rattle.term_core_spec.specs.declared.BinaryOperator.{BinaryOperator}
use Rattle.term_core_spec.specs.declared.TernaryOperator.{TernaryOperator}
use Rattle.term_core_spec.specs.declared.QuaternaryOperator.{QuaternaryOperator}
use Rattle.term_core_spec.specs.Term.{Term, Leaf, Unary, Binary, Ternary, Quaternary, Octonary, truth, not_term, equal}
use Rattle.term_core_spec.specs.Sort.{same_sort, sort_of}
use Rattle.term_core_spec.specs.Same.{same_term}
use Rattle.term_core_spec.specs.Subterms.{subterms}
use Rattle.memory_spec.specs.Runs.{Run}
use Rattle.term_norm_spec.specs.Normal.{normal}

-- ---- operators with their arguments

-- an operator with its arguments: terms, or the numbers of terms
pub data Operation (A : Type 0) : Type 0 where
  Alone : (atom : Atom) → Operation A
  One : (operator : UnaryOperator) → (first : A) → Operation A
  Two : (operator : BinaryOperator) → (first second : A) → Operation A
  Three : (operator : TernaryOperator) → (first second third : A) → Operation A
  Four : (operator : QuaternaryOperator) → (first second third fourth : A) → Operation A
  Eight : (first second third fourth fifth sixth seventh eighth : A) → Operation A

unfoldable pub operands : {A : Type 0} → Operation A → List A
operands (Alone atom) = []
operands (One operator a) = a ∷ []
operands (Two operator a b) = a ∷ b ∷ []
operands (Three operator a b c) = a ∷ b ∷ c ∷ []
operands (Four operator a b c d) = a ∷ b ∷ c ∷ d ∷ []
operands (Eight a b c d e f g h) = a ∷ b ∷ c ∷ d ∷ e ∷ f ∷ g ∷ h ∷ []

-- the operator with `f i x` in place of the argument x at place i, from 1
unfoldable pub at_places : {A B : Type 0} → (ℕ → A → B) → Operation A → Operation B
at_places f (Alone atom) = Alone atom
at_places f (One operator a) = One operator (f 1 a)
at_places f (Two operator a b) = Two operator (f 1 a) (f 2 b)
at_places f (Three operator a b c) = Three operator (f 1 a) (f 2 b) (f 3 c)
at_places f (Four operator a b c d) = Four operator (f 1 a) (f 2 b) (f 3 c) (f 4 d)
at_places f (Eight a b c d e g h i) = Eight (f 1 a) (f 2 b) (f 3 c) (f 4 d) (f 5 e) (f 6 g) (f 7 h) (f 8 i)

-- the argument at a place
abbrev pub operand_at : {A : Type 0} → ℕ → Operation A → Option A
operand_at zero operation = None
operand_at (suc i) operation = slice_get (operands operation) i

-- the term of an operator over terms
unfoldable pub made : Operation Term → Term
made (Alone atom) = Leaf atom
made (One operator a) = Unary operator a
made (Two operator a b) = Binary operator a b
made (Three operator a b c) = Ternary operator a b c
made (Four operator a b c d) = Quaternary operator a b c d
made (Eight a b c d e f g h) = Octonary a b c d e f g h

unfoldable pub operation_of : Term → Operation Term
operation_of (Leaf atom) = Alone atom
operation_of (Unary operator a) = One operator a
operation_of (Binary operator a b) = Two operator a b
operation_of (Ternary operator a b c) = Three operator a b c
operation_of (Quaternary operator a b c d) = Four operator a b c d
operation_of (Octonary a b c d e f g h) = Eight a b c d e f g h

-- ---- states

-- a number: an operator over numbers, the term that it makes, and what the term is now
pub record Number : Type 0 where
  pub operation : Operation ℕ
  pub term : Term
  pub now : Term

-- a number that is true, or one that is false
pub record Fact : Type 0 where
  pub number : ℕ
  pub holds : Bool

-- what a number is merged with: a number, or a constant
pub data Other : Type 0 where
  Numbered : (number : ℕ) → Other
  Known : (atom : Atom) → Other

pub record Merge : Type 0 where
  pub number : ℕ
  pub other : Other

-- facts and merges have the latest first
pub record State : Type 0 where
  pub numbers : List Number
  pub facts : List Fact
  pub merges : List Merge
  -- renewals that changed what a number is now
  pub changes : ℕ
  -- lines that renewed all numbers
  pub sweeps : ℕ

-- what stands for a number that there is not
abbrev pub missing : Number
missing = record { operation = Alone (atom.Truth false); term = truth false; now = truth false }

-- the number k, from 1
unfoldable pub number_at : List Number → ℕ → Number
number_at numbers zero = missing
number_at numbers (suc i) = get_or numbers i missing

unfoldable pub is_number : List Number → ℕ → Bool
is_number numbers zero = false
is_number numbers (suc i) = nat_lt i (length numbers)

abbrev pub operation_at : List Number → ℕ → Operation ℕ
operation_at numbers k = (number_at numbers k).operation

abbrev pub term_at : List Number → ℕ → Term
term_at numbers k = (number_at numbers k).term

abbrev pub now_at : List Number → ℕ → Term
now_at numbers k = (number_at numbers k).now

-- the term of an operator over numbers
abbrev pub term_over : List Number → Operation ℕ → Term
term_over numbers operation = made (at_places (λ i x. term_at numbers x) operation)

-- the operator of k over what its arguments are now, in normal form
abbrev pub rebuilt : List Run → List Number → ℕ → Term
rebuilt runs numbers k = normal runs (made (at_places (λ i x. now_at numbers x) (operation_at numbers k)))

-- ---- the first state of a block: the distinct subterms of the goal in post-order, and that the goal is false

-- the place of a term in a list, from 1
unfoldable pub place_in : List Term → Term → ℕ
place_in [] t = 0
place_in (u ∷ rest) t = if same_term t u then 1 else suc (place_in rest t)

abbrev pub number_of_subterm : List Term → Term → Number
number_of_subterm terms t = record { operation = at_places (λ i x. place_in terms x) (operation_of t); term = t; now = t }

abbrev pub start : Term → State
start goal = record {
  numbers = map (number_of_subterm (subterms goal)) (subterms goal);
  facts = record { number = place_in (subterms goal) goal; holds = false } ∷ [];
  merges = [];
  changes = 0;
  sweeps = 0;
}

-- ---- renewing a number

-- whether k is a fact, or its opposite is; the later of the two
unfoldable pub known_truth : List Fact → ℕ → Option Bool
known_truth [] k = None
known_truth (fact ∷ earlier) k = if fact.number == k then Some fact.holds else known_truth earlier k

-- what k was last merged with
unfoldable pub merged_with : List Merge → ℕ → Option Other
merged_with [] k = None
merged_with (merge ∷ earlier) k = if merge.number == k then Some merge.other else merged_with earlier k

-- the term of what a number is merged with, and what that is now
abbrev pub other_term : List Number → Other → Term
other_term numbers (Numbered y) = term_at numbers y
other_term numbers (Known constant) = Leaf constant

abbrev pub other_now : List Number → Other → Term
other_now numbers (Numbered y) = now_at numbers y
other_now numbers (Known constant) = Leaf constant

abbrev pub truth_or : Option Bool → Term → Term
truth_or (Some holds) otherwise = truth holds
truth_or None otherwise = otherwise

abbrev pub other_or : List Number → Option Other → Term → Term
other_or numbers (Some other) otherwise = other_now numbers other
other_or numbers None otherwise = otherwise

-- what k becomes: `true` or `false` where it or its opposite is a fact; else what it was last merged with; else rebuilt
abbrev pub renewed : List Run → State → ℕ → Term
renewed runs s k = truth_or (known_truth s.facts k) (other_or s.numbers (merged_with s.merges k) (rebuilt runs s.numbers k))

-- the numbers, where k is now t
unfoldable pub with_now : List Number → ℕ → Term → List Number
with_now numbers zero t = numbers
with_now numbers (suc i) t = set numbers i (record (get_or numbers i missing) { now = t })

abbrev pub change : Term → Term → ℕ
change before after = if same_term before after then 0 else 1

unfoldable pub renew : List Run → ℕ → State → State
renew runs k s =
    record s { numbers = with_now s.numbers k (renewed runs s k); changes = s.changes + change (now_at s.numbers k) (renewed runs s k) }

-- the numbers 1 to `count` are renewed, in this order
unfoldable pub renew_up_to : List Run → ℕ → State → State
renew_up_to runs zero s = s
renew_up_to runs (suc count) s = renew runs (suc count) (renew_up_to runs count s)

-- ---- reading facts

-- a fact as it is named by a rule, or kept: rebuilt, or as it was made
pub record Reading : Type 0 where
  pub fact : Fact
  pub as_made : Bool

abbrev pub signed : Bool → Term → Term
signed holds t = if holds then t else not_term t

abbrev pub reading : List Run → List Number → Reading → Term
reading runs numbers r = signed r.fact.holds (if r.as_made then term_at numbers r.fact.number else rebuilt runs numbers r.fact.number)

abbrev pub same_sign : Bool → Bool → Bool
same_sign a b = if a then b else not b

unfoldable pub is_fact : List Fact → Fact → Bool
is_fact [] f = false
is_fact (g ∷ earlier) f = if g.number == f.number && same_sign g.holds f.holds then true else is_fact earlier f

unfoldable pub are_facts : List Fact → List Reading → Bool
are_facts facts [] = true
are_facts facts (r ∷ rest) = is_fact facts r.fact && are_facts facts rest

-- ---- sorts

abbrev pub has_sort : Option Sort → Sort → Bool
has_sort (Some s) t = same_sort s t
has_sort None t = false

-- a truth value
abbrev pub is_bool : Term → Bool
is_bool t = has_sort (sort_of t) Truth

-- two truth values, or two words of one width
abbrev pub are_alike : Term → Term → Bool
are_alike x y = is_bool (equal x y)
