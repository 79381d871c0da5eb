-- The lines of a block of word steps, and the goals that are left after one.
use Rattle.std.specs.Prelude.{ℕ, zero, suc, ◌+◌, ◌==◌, ◌&&◌, ◌||◌, not, nat_lt, Bool, true, false, if◌then◌else◌, List, [], ◌∷◌, ◌++◌, length, map, Option, Some, None, option_and_then, unwrap_or}
use Rattle.term_core_spec.specs.declared.Atom.{Atom}
use Rattle.term_core_spec.specs.declared.Atom.TheVariants as atom
use Rattle.term_core_spec.specs.Term.{Term, Leaf, truth, not_term, and_term, equal}
use Rattle.term_core_spec.specs.Same.{same_term}
use Rattle.memory_spec.specs.Runs.{Run}
use Rattle.term_norm_spec.specs.Normal.{normal}
use Rattle.word_steps_spec.specs.Numbers.{Operation, Alone, operands, at_places, operand_at, made, Number, Fact, Other, Numbered, Known, State, start, is_number, operation_at, term_at, now_at, term_over, rebuilt, renew, renew_up_to, Reading, signed, reading, is_fact, are_facts, is_bool, are_alike}
use Rattle.word_steps_spec.specs.Ring.{one_polynomial, decided_by_polynomials}
use Rattle.word_steps_spec.specs.Commuting.{same_up_to_order}
use Rattle.word_steps_spec.specs.Bitwise.{same_by_bits, decided_by_bits}
use Rattle.word_steps_spec.specs.Order.{same_by_spelling, else_by, decided_by_bounds}
use Rattle.word_steps_spec.specs.LowBits.{decided_by_low}
use Rattle.word_steps_spec.specs.Ranges.{decided_by_range}
use Rattle.word_steps_spec.specs.Zones.{says_zone, decided_within}
use Rattle.word_steps_spec.specs.Quotients.{same_by_quotient}
use Rattle.word_steps_spec.specs.Choices.{same_by_lifting}
use Rattle.word_steps_spec.specs.Spans.{same_by_fit, decided_by_fit}

-- ---- the tests of the rules

-- rules that say of two terms that they have one value
pub data MergeRule : Type 0 where
  Same Ring Comm Bits Quot Lift Fit : MergeRule

-- rules that say of a term which constant it is
pub data DecisionRule : Type 0 where
  RingOf BitsOf LowOf RangeOf WithinOf FitOf : DecisionRule

-- a fact is `eq` of both, either way
abbrev pub is_equality : List Term → Term → Term → Bool
is_equality (fact ∷ []) x y = same_term fact (equal x y) || same_term fact (equal y x)
is_equality facts x y = false

-- the test of a rule: the facts that it is given, and both terms
unfoldable pub merges_by : MergeRule → List Term → Term → Term → Bool
merges_by Same facts x y = is_equality facts x y
merges_by Ring [] x y = one_polynomial x y
merges_by Comm [] x y = same_up_to_order x y
merges_by Bits [] x y = same_by_bits x y || same_by_spelling x y
merges_by Quot facts x y = same_by_quotient facts x y
merges_by Lift [] x y = same_by_lifting x y
merges_by Fit facts x y = same_by_fit facts x y
merges_by rule (fact ∷ facts) x y = false

unfoldable pub decided_by : DecisionRule → List Term → Term → Option Atom
decided_by RingOf [] x = decided_by_polynomials x
decided_by BitsOf [] x = else_by (decided_by_bits x) (decided_by_bounds x)
decided_by LowOf facts x = decided_by_low facts x
decided_by RangeOf facts x = decided_by_range facts x
decided_by WithinOf facts x = decided_within facts x
decided_by FitOf facts x = decided_by_fit facts x
decided_by rule (fact ∷ facts) x = None

-- ---- lines

pub data Line : Type 0 where
  -- `t`: one more number
  Next : (operation : Operation ℕ) → Line
  -- `fact F K`: the argument at a place of a fact is true, or false
  Argument : (fact : Fact) → (place : ℕ) → Line
  -- `part F`: this at each place where it can be said
  Parts : (fact : Fact) → Line
  -- `now X`
  Renew : (number : ℕ) → Line
  -- `now`
  RenewAll : Line
  -- `ring X Y` and its like
  MergeBy : (rule : MergeRule) → (first second : ℕ) → (facts : List Reading) → Line
  -- `ring X` and its like
  DecideBy : (rule : DecisionRule) → (number : ℕ) → (facts : List Reading) → Line
  -- `zone F1 F2 F3 X`: a number becomes a fact
  Zone : (number : ℕ) → (facts : List Reading) → Line

-- at most so many lines of a block renew all numbers
abbrev pub SWEEPS : ℕ
SWEEPS = 16

-- ---- a new number

abbrev pub are_numbers : List Number → List ℕ → Bool
are_numbers numbers [] = true
are_numbers numbers (k ∷ rest) = is_number numbers k && are_numbers numbers rest

-- a constant or an operator: a line brings no new variable
abbrev pub is_open : Operation ℕ → Bool
is_open (Alone (atom.Open variable)) = true
is_open operation = false

-- well sorted, and no memory
abbrev pub is_value : Term → Bool
is_value t = are_alike t t

abbrev pub new_number : List Number → Operation ℕ → Number
new_number numbers operation = record { operation = operation; term = term_over numbers operation; now = term_over numbers operation }

abbrev pub with_number : List Run → Operation ℕ → State → State
with_number runs operation s =
    renew runs (suc (length s.numbers)) (record s { numbers = s.numbers ++ new_number s.numbers operation ∷ [] })

abbrev pub next_number : List Run → Operation ℕ → State → Option State
next_number runs operation s =
    if are_numbers s.numbers (operands operation) && (not (is_open operation) && is_value (term_over s.numbers operation))
    then Some (with_number runs operation s) else None

-- ---- facts about arguments

abbrev pub with_fact : List Run → Fact → State → State
with_fact runs f s = renew runs f.number (record s { facts = f ∷ s.facts })

-- the operator of k with a truth value at a place, over what the other arguments are now
abbrev pub with_truth_at : List Run → List Number → ℕ → ℕ → Bool → Term
with_truth_at runs numbers k place b =
    normal runs (made (at_places (λ i x. if i == place then truth b else now_at numbers x) (operation_at numbers k)))

-- the fact would not hold if its argument at the place were this truth value
abbrev pub is_refuted_by : List Run → List Number → Fact → ℕ → Bool → Bool
is_refuted_by runs numbers f place b = same_term (with_truth_at runs numbers f.number place b) (truth (not f.holds))

-- where the fact would not hold if its argument x at the place were true, x is false; else likewise if it were false
abbrev pub argument_fact : List Run → List Number → Fact → ℕ → ℕ → Option Fact
argument_fact runs numbers f place x =
    if is_bool (term_at numbers x)
    then (if is_refuted_by runs numbers f place true then Some (record { number = x; holds = false })
    else if is_refuted_by runs numbers f place false then Some (record { number = x; holds = true }) else None)
    else None

abbrev pub with_argument_fact : List Run → Fact → ℕ → State → Option State
with_argument_fact runs f place s =
    option_and_then (λ x. option_and_then (λ g. Some (with_fact runs g s)) (argument_fact runs s.numbers f place x)) (operand_at place (operation_at s.numbers f.number))

-- with what the next place gives, where it gives something
abbrev pub with_next_place : List Run → Fact → ℕ → State → Option State → Option State
with_next_place runs f place s None = with_argument_fact runs f place s
with_next_place runs f place s (Some so_far) = Some (unwrap_or (with_argument_fact runs f place so_far) so_far)

-- what the places from 1 to `count` give, one after the other; none where none of them gives anything
unfoldable pub with_places : List Run → Fact → ℕ → State → Option State
with_places runs f zero s = None
with_places runs f (suc i) s = with_next_place runs f (suc i) s (with_places runs f i s)

-- ---- merges

abbrev pub with_merge : List Run → ℕ → Other → State → State
with_merge runs x other s = renew runs x (record s { merges = record { number = x; other = other } ∷ s.merges })

-- x is renewed before the test, and after the merge
abbrev pub merged : List Run → MergeRule → ℕ → ℕ → List Reading → State → Option State
merged runs rule x y facts s =
    if merges_by rule (map (reading runs s.numbers) facts) (now_at s.numbers x) (now_at s.numbers y) then Some (with_merge runs x (Numbered y) s) else None

abbrev pub merged_if : List Run → MergeRule → ℕ → ℕ → List Reading → State → Option State
merged_if runs rule x y facts s =
    if is_number s.numbers x && (is_number s.numbers y && (are_alike (term_at s.numbers x) (term_at s.numbers y) && are_facts s.facts facts))
    then merged runs rule x y facts (renew runs x s) else None

abbrev pub with_constant : List Run → ℕ → State → Atom → Option State
with_constant runs x s constant = if are_alike (term_at s.numbers x) (Leaf constant) then Some (with_merge runs x (Known constant) s) else None

abbrev pub decided : List Run → DecisionRule → ℕ → List Reading → State → Option State
decided runs rule x facts s =
    option_and_then (with_constant runs x s) (decided_by rule (map (reading runs s.numbers) facts) (now_at s.numbers x))

abbrev pub decided_if : List Run → DecisionRule → ℕ → List Reading → State → Option State
decided_if runs rule x facts s = if is_number s.numbers x && are_facts s.facts facts then decided runs rule x facts (renew runs x s) else None

-- ---- a fact by `zone`

abbrev pub zoned : List Run → ℕ → List Reading → State → Option State
zoned runs x facts s =
    if says_zone (map (reading runs s.numbers) facts) (now_at s.numbers x)
    then Some (with_fact runs (record { number = x; holds = true }) s) else None

abbrev pub zoned_if : List Run → ℕ → List Reading → State → Option State
zoned_if runs x facts s =
    if is_number s.numbers x && (is_bool (term_at s.numbers x) && are_facts s.facts facts) then zoned runs x facts (renew runs x s) else None

-- ---- a line, and lines one after the other: none where one is not allowed

unfoldable pub applied : List Run → State → Line → Option State
applied runs s (Next operation) = next_number runs operation s
applied runs s (Argument f place) = if is_fact s.facts f then with_argument_fact runs f place s else None
applied runs s (Parts f) = if is_fact s.facts f then with_places runs f (length (operands (operation_at s.numbers f.number))) s else None
applied runs s (Renew k) = if is_number s.numbers k then Some (renew runs k s) else None
applied runs s RenewAll =
    if nat_lt s.sweeps SWEEPS then Some (renew_up_to runs (length s.numbers) (record s { sweeps = s.sweeps + 1 })) else None
applied runs s (MergeBy rule x y facts) = merged_if runs rule x y facts s
applied runs s (DecideBy rule x facts) = decided_if runs rule x facts s
applied runs s (Zone x facts) = zoned_if runs x facts s

unfoldable pub after_lines : List Run → State → List Line → Option State
after_lines runs s [] = Some s
after_lines runs s (line ∷ rest) = option_and_then (λ next. after_lines runs next rest) (applied runs s line)

-- ---- what is left

-- the `and` of some terms, nested to the left
unfoldable pub and_all : Term → List Term → Term
and_all t [] = t
and_all t (u ∷ rest) = and_all (and_term t u) rest

abbrev pub conjunction : List Term → Term
conjunction [] = truth true
conjunction (t ∷ rest) = and_all t rest

-- the goal that these are not all true
abbrev pub not_all : List Run → List Term → Term
not_all runs terms = normal runs (not_term (conjunction terms))

-- how a block ends
pub data End : Type 0 where
  -- `keep F ..`
  Keep : (kept : List Reading) → End
  -- `keep F ..` and `case X`: the goal is taken apart
  Case : (kept : List Reading) → (number : ℕ) → End

pub record Block : Type 0 where
  pub lines : List Line
  pub end : End

-- the goal with the kept facts and some more terms
abbrev pub kept_goal : List Run → State → List Reading → List Term → Term
kept_goal runs s kept more = not_all runs (map (reading runs s.numbers) kept ++ more)

-- the goals that are left: of `case` one with a number, rebuilt, as one more fact at the end, and one with its opposite
unfoldable pub left : List Run → State → End → Option (List Term)
left runs s (Keep kept) = if are_facts s.facts kept then Some (kept_goal runs s kept [] ∷ []) else None
left runs s (Case kept x) =
    if are_facts s.facts kept && (is_number s.numbers x && is_bool (term_at s.numbers x))
    then Some (kept_goal runs s kept (signed true (rebuilt runs s.numbers x) ∷ [])
    ∷ kept_goal runs s kept (signed false (rebuilt runs s.numbers x) ∷ []) ∷ [])
    else None

-- what is left of a goal after a block; none where a line isn't allowed
abbrev pub goals_after : List Run → Term → Block → Option (List Term)
goals_after runs goal block = option_and_then (λ s. left runs s block.end) (after_lines runs (start goal) block.lines)
