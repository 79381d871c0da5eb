-- The state of a block, of the code as the definitions have it, over the trees of a bank.
use Rattle.std.specs.Prelude.{ℕ, zero, suc, ◌-◌, ◌<◌, ◌≤◌, ◌==◌, ◌&&◌, ◌||◌, not, nat_lt, nat_eq, Bool, true, false, if◌then◌else◌, List, [], ◌∷◌, get_or, slice_get, position, length, map, All, Option, Some, None, option_map, option_and_then, is_some, unwrap_or}
use Rattle.term_core_spec.specs.declared.Atom.TheVariants as atom
use Rattle.term_core_spec.specs.declared.Sort.{Sort}
use Rattle.term_core_spec.specs.Term.{Term, truth, not_term, and_term}
use Rattle.term_core_spec.specs.declared.Sort.TheVariants as sort
use Rattle.term_core_spec.specs.declared.BinaryOperator.TheVariants as binary
use Rattle.term_core_spec.specs.contracts.AtomPartialEq.TheImpl as atom_test
use Rattle.term_core_spec.specs.contracts.BinaryOperatorPartialEq.TheImpl as binary_test
use Rattle.term_core_spec.specs.Sort.{sort_of, sort_of_binary, with_two}
use Rattle.term_bank.specs.declared.node.TermNode.{TermNode}
use Rattle.term_bank.specs.declared.node.TermNode.TheVariants as node
use Rattle.term_bank.specs.Nodes.{tree_at, build}
use Rattle.memory_spec.specs.Runs.{Run}
use Rattle.term_norm_spec.specs.Normal.{normal}
use Rattle.word_steps_spec.specs.Numbers as spec
use Rattle.word_steps_spec.specs.Lines as lines
use Rattle.word_steps.specs.declared.number.Fact.{Fact}
use Rattle.word_steps.specs.declared.number.Reading.{Reading}
use Rattle.word_steps.specs.declared.number.Other.{Other}
use Rattle.word_steps.specs.declared.number.Other.TheVariants.{Index, Constant}
use Rattle.word_steps.specs.declared.number.Marks.{Marks}
use Rattle.word_steps.specs.declared.number.Number.{Number}
use Rattle.word_steps.specs.declared.block.Block.{Block}

-- ---- operators over numbers

-- the operator with `f i x` in place of the argument x at place i, from 1
unfoldable pub node_over : (ℕ → ℕ → ℕ) → TermNode → TermNode
node_over f (node.Leaf leaf) = node.Leaf leaf
node_over f (node.Unary operator a) = node.Unary operator (f 1 a)
node_over f (node.Binary operator a b) = node.Binary operator (f 1 a) (f 2 b)
node_over f (node.Ternary operator a b c) = node.Ternary operator (f 1 a) (f 2 b) (f 3 c)
node_over f (node.Quaternary operator a b c d) = node.Quaternary operator (f 1 a) (f 2 b) (f 3 c) (f 4 d)
node_over f (node.Octonary a b c d e g h i) = node.Octonary (f 1 a) (f 2 b) (f 3 c) (f 4 d) (f 5 e) (f 6 g) (f 7 h) (f 8 i)

-- an operator over numbers, of a node over numbers
unfoldable pub named : TermNode → spec.Operation ℕ
named (node.Leaf leaf) = spec.Alone leaf
named (node.Unary operator a) = spec.One operator a
named (node.Binary operator a b) = spec.Two operator a b
named (node.Ternary operator a b c) = spec.Three operator a b c
named (node.Quaternary operator a b c d) = spec.Four operator a b c d
named (node.Octonary a b c d e f g h) = spec.Eight a b c d e f g h

-- the same of a node over indices: that of a number is one less
abbrev pub operation_of : TermNode → spec.Operation ℕ
operation_of n = named (node_over (λ i x. suc x) n)

-- the index of a number, where it is one of so many
abbrev pub index_below : ℕ → ℕ → Option ℕ
index_below count number = if number == 0 then None else if nat_lt (number - 1) count then Some (number - 1) else None

-- a node is this truth value
unfoldable pub is_truth_node : TermNode → Bool → Bool
is_truth_node (node.Leaf leaf) value = atom_test.ghosts.eq leaf (atom.Truth value)
is_truth_node (node.Unary operator a) value = false
is_truth_node (node.Binary operator a b) value = false
is_truth_node (node.Ternary operator a b c) value = false
is_truth_node (node.Quaternary operator a b c d) value = false
is_truth_node (node.Octonary a b c d e f g h) value = false

-- two ids are two others, either way
abbrev pub are_both : (a b x y : ℕ) → Bool
are_both a b x y = (nat_eq a x && nat_eq b y) || (nat_eq a y && nat_eq b x)

-- a node is `eq` of two terms, either way
unfoldable pub is_equality_node : TermNode → (x y : ℕ) → Bool
is_equality_node (node.Leaf leaf) x y = false
is_equality_node (node.Unary operator a) x y = false
is_equality_node (node.Binary operator a b) x y = binary_test.ghosts.eq operator binary.Equal && are_both a b x y
is_equality_node (node.Ternary operator a b c) x y = false
is_equality_node (node.Quaternary operator a b c d) x y = false
is_equality_node (node.Octonary a b c d e f g h) x y = false

-- ---- numbers

abbrev pub unmarked : Marks
unmarked = record { known = None; is_true = false; is_false = false; merged = None }

-- what stands for a number that there is not
abbrev pub no_number : Number
no_number = record { operation = node.Leaf (atom.Truth false); term = 0; now = 0; marks = unmarked }

-- a number of which nothing is known
abbrev pub new_number : TermNode → ℕ → Number
new_number operation term = record { operation = operation; term = term; now = term; marks = unmarked }

abbrev pub number_in : List Number → ℕ → Number
number_in numbers i = get_or numbers i no_number

abbrev pub sort_in : List (Option Sort) → ℕ → Option Sort
sort_in sorts i = get_or sorts i None

abbrev pub count_of : Block → ℕ
count_of b = length b.numbers.items

-- how many renewals changed what a number is now
abbrev pub changes_of : Block → ℕ
changes_of b = b.changes

abbrev pub has_fact : Marks → Bool → Bool
has_fact marks holds = if holds then marks.is_true else marks.is_false

-- what is known of the number k, from 1
unfoldable pub marks_at : List Number → ℕ → Marks
marks_at numbers zero = unmarked
marks_at numbers (suc i) = (number_in numbers i).marks

abbrev pub number_of : List Term → Number → spec.Number
number_of trees n = record { operation = operation_of n.operation; term = tree_at trees n.term; now = tree_at trees n.now }

abbrev pub numbers_of : List Term → List Number → List spec.Number
numbers_of trees numbers = map (number_of trees) numbers

abbrev pub sort_of_number : List Term → Number → Option Sort
sort_of_number trees n = sort_of (tree_at trees n.term)

-- ---- facts and merges

abbrev pub fact_of : Fact → spec.Fact
fact_of f = record { number = f.number; holds = f.holds }

abbrev pub reading_of : Reading → spec.Reading
reading_of r = record { fact = fact_of r.fact; as_made = r.as_made }

abbrev pub other_of : Other → spec.Other
other_of (Index i) = spec.Numbered (suc i)
other_of (Constant constant) = spec.Known constant

-- ---- operators over what numbers are now, and over their terms

-- the term `id` at one place, from 1, and else what the number at an index is now
abbrev pub now_in : List Number → (at id : ℕ) → (place x : ℕ) → ℕ
now_in numbers at id place x = if place == at then id else (number_in numbers x).now

abbrev pub term_in : List Number → (place x : ℕ) → ℕ
term_in numbers place x = (number_in numbers x).term

-- the number before
abbrev pub before : (place x : ℕ) → ℕ
before place x = x - 1

-- all of some numbers are from 1 to a count
unfoldable pub are_below : ℕ → List ℕ → Bool
are_below count [] = true
are_below count (k ∷ rest) = is_some (index_below count k) && are_below count rest

-- one of some ids, at a place from 1
abbrev pub place_of : List ℕ → ℕ → Option ℕ
place_of ids place = if place == 0 then None else slice_get ids (place - 1)

-- the index of an id
abbrev pub index_among : List ℕ → (place id : ℕ) → ℕ
index_among ids place id = unwrap_or (position (nat_eq id) ids) 0

-- ---- forms

-- the normal form of an operator over what its arguments are now, with the term `id` at one place
abbrev pub form_with : List Run → List Term → List Number → (index at id : ℕ) → Term
form_with runs trees numbers index at id = normal runs (build trees (node_over (now_in numbers at id) (number_in numbers index).operation))

-- what a number is now that was merged with this
abbrev pub other_in : List Term → List Number → Other → Term
other_in trees numbers other = spec.other_now (numbers_of trees numbers) (other_of other)

-- what the number at an index was last merged with, or else its form
abbrev pub merged_in : List Run → List Term → List Number → ℕ → Term
merged_in runs trees numbers index =
    spec.other_or (numbers_of trees numbers) (option_map other_of (number_in numbers index).marks.merged) (spec.rebuilt runs (numbers_of trees numbers) (suc index))

-- what the number at an index becomes where it is renewed
abbrev pub renewed_in : List Run → List Term → List Number → ℕ → Term
renewed_in runs trees numbers index = spec.truth_or (number_in numbers index).marks.known (merged_in runs trees numbers index)

-- ---- facts and merges that are noted

abbrev pub fact_at : (index : ℕ) → Bool → spec.Fact
fact_at index holds = record { number = suc index; holds = holds }

abbrev pub with_truth : Marks → Bool → Marks
with_truth marks holds = record {
  known = Some holds;
  is_true = marks.is_true || holds;
  is_false = marks.is_false || not holds;
  merged = marks.merged;
}

abbrev pub with_other : Marks → Other → Marks
with_other marks other = record { known = marks.known; is_true = marks.is_true; is_false = marks.is_false; merged = Some other }

-- a state with one more fact, and with one more merge; nothing is renewed
abbrev pub noted_fact : spec.Fact → spec.State → spec.State
noted_fact f s = record s { facts = f ∷ s.facts }

abbrev pub noted_merge : ℕ → Other → spec.State → spec.State
noted_merge index other s = record s { merges = record { number = suc index; other = other_of other } ∷ s.merges }

-- what a fact says of all its arguments, one after the other
abbrev pub with_all_places : List Run → spec.Fact → spec.State → Option spec.State
with_all_places runs f s = lines.with_places runs f (length (spec.operands (spec.operation_at s.numbers f.number))) s

-- what a fact says of its argument k at a place, of numbers that may be of another state
abbrev pub with_said : List Run → List spec.Number → spec.Fact → (place k : ℕ) → spec.State → Option spec.State
with_said runs numbers f place k s = option_and_then (λ g. Some (lines.with_fact runs g s)) (lines.argument_fact runs numbers f place k)

-- the first so many numbers are renewed, of so many
abbrev pub renewed_up_to : List Run → ℕ → spec.State → spec.State
renewed_up_to runs count s = spec.renew_up_to runs count s

-- a truth value, or a word
abbrev pub is_value_sort : Option Sort → Bool
is_value_sort (Some sort.Truth) = true
is_value_sort (Some (sort.Word width)) = true
is_value_sort (Some sort.Memory) = false
is_value_sort None = false

-- two truth values, or two words of one width
abbrev pub are_alike_sorts : Option Sort → Option Sort → Bool
are_alike_sorts a b = spec.has_sort (with_two (sort_of_binary binary.Equal) a b) sort.Truth

-- ---- terms joined by `and`

abbrev pub and_with : Option Term → Term → Term
and_with None t = t
and_with (Some u) t = and_term u t

-- none where there are none
abbrev pub joined : List Term → Option Term
joined [] = None
joined (t ∷ rest) = Some (lines.and_all t rest)

-- the goal that these are not all true
abbrev pub not_joined : List Run → Option Term → Term
not_joined runs o = normal runs (not_term (unwrap_or o (truth true)))

abbrev pub IsIdBelow : ℕ → Option ℕ → Type 0
IsIdBelow n (Some id) = id < n
IsIdBelow n None = Unit {0}

-- the number of a fact is from 1 to a count
abbrev pub IsNumbered : ℕ → Reading → Type 0
IsNumbered count r = (0 < r.fact.number) × (r.fact.number ≤ count)

abbrev pub AreNumbered : ℕ → List Reading → Type 0
AreNumbered count kept = All (λ r. IsNumbered count r) kept

-- the number k as it was made, or rebuilt
abbrev pub read_number : List Run → List spec.Number → (as_made : Bool) → ℕ → Term
read_number runs numbers as_made k = if as_made then spec.term_at numbers k else spec.rebuilt runs numbers k

-- ---- merges by a fact

-- the first number is renewed, and merged with the second where the fact reads as `eq` of what they are now
abbrev pub merged_by_fact : List Run → (first second : ℕ) → Reading → spec.State → Option spec.State
merged_by_fact runs first second fact s =
    lines.merged runs lines.Same (suc first) (suc second) (reading_of fact ∷ []) (spec.renew runs (suc first) s)

-- the same, where the fact is there
abbrev pub merged_if_fact : List Run → (first second : ℕ) → Reading → spec.State → Option spec.State
merged_if_fact runs first second fact s = if spec.is_fact s.facts (fact_of fact.fact) then merged_by_fact runs first second fact s else None

-- the first number is renewed, and merged with the second where both are now the same up to the order of arguments
abbrev pub merged_by_order : List Run → (first second : ℕ) → spec.State → Option spec.State
merged_by_order runs first second s = lines.merged runs lines.Comm (suc first) (suc second) [] (spec.renew runs (suc first) s)
