-- Reading symbols from the first to the last: a stack of operators that are open and of subterms that are whole.
use Rattle.std.specs.Prelude.{ℕ, ◌==◌, Bool, if◌then◌else◌, List, [], ◌∷◌, ◌++◌, length, Option, Some, None, option_map, option_and_then}
use Rattle.term_core_spec.specs.declared.Atom.{Atom}
use Rattle.term_core_spec.specs.declared.Atom.TheVariants as atom
use Rattle.term_core_spec.specs.declared.Sort.{Sort}
use Rattle.term_core_spec.specs.declared.Sort.TheVariants.{Word}
use Rattle.term_core_spec.specs.declared.Width.TheVariants.{W64}
use Rattle.term_core_spec.specs.declared.Variable.{Variable}
use Rattle.term_core_spec.specs.declared.UnaryOperator.{UnaryOperator}
use Rattle.term_core_spec.specs.declared.BinaryOperator.{BinaryOperator}
use Rattle.term_core_spec.specs.declared.TernaryOperator.TheVariants.{Choose}
use Rattle.term_core_spec.specs.declared.QuaternaryOperator.TheVariants.{Join}
use Rattle.term_core_spec.specs.Term.{Term, Leaf, Unary, Binary, Ternary, Quaternary, Octonary}
use Rattle.term_core_spec.specs.Sort.{is_truth, sort_if, all_bytes, sort_of_atom, sort_of_unary, sort_of_binary, sort_of_ternary, sort_of_quaternary}
use Rattle.cert_text_spec.specs.declared.Operator.{Operator}
use Rattle.cert_text_spec.specs.declared.Symbol.{Symbol}
use Rattle.cert_text_spec.specs.declared.Symbol.TheVariants as symbol
use Rattle.proof_tree_spec.specs.Scope.{Setting}
use Rattle.cert_check_terms.specs.Operators.{unary_of, binary_of, is_choose, is_join}
use Rattle.cert_check_terms.specs.Variables.{own_variable, local_at, is_set_at}

-- a term and its sort
pub record Sorted : Type 0 where
  pub term : Term
  pub its_sort : Sort

-- the last entry is the first of a list of them
pub data Entry : Type 0 where
  Bracket : Operator → Entry
  Whole : Sorted → Entry

pub record Reading : Type 0 where
  pub calls : List ℕ
  pub entries : List Entry

-- ---- operators around their arguments

abbrev pub with_sort : Term → Sort → Sorted
with_sort t s = record { term = t; its_sort = s }

-- a term that is well sorted
abbrev pub sorted : Term → Option Sort → Option Sorted
sorted t s = option_map (with_sort t) s

abbrev pub one : Sorted → UnaryOperator → Option Sorted
one a u = sorted (Unary u a.term) (sort_of_unary u a.its_sort)

abbrev pub two : (a b : Sorted) → BinaryOperator → Option Sorted
two a b u = sorted (Binary u a.term b.term) (sort_of_binary u a.its_sort b.its_sort)

abbrev pub three : (a b c : Sorted) → Option Sorted
three a b c = sorted (Ternary Choose a.term b.term c.term) (sort_of_ternary Choose a.its_sort b.its_sort c.its_sort)

abbrev pub four : (a b c d : Sorted) → Option Sorted
four a b c d = sorted (Quaternary Join a.term b.term c.term d.term) (sort_of_quaternary Join a.its_sort b.its_sort c.its_sort d.its_sort)

abbrev pub eight : (a b c d e f g h : Sorted) → Option Sorted
eight a b c d e f g h =
    sorted (Octonary a.term b.term c.term d.term e.term f.term g.term h.term)
    (sort_if
    (all_bytes (Some a.its_sort ∷ Some b.its_sort ∷ Some c.its_sort ∷ Some d.its_sort ∷ Some e.its_sort ∷ Some f.its_sort ∷ Some g.its_sort ∷ Some h.its_sort ∷ []))
    (Word W64))

abbrev pub around : Operator → List Sorted → Option Sorted
around o (a ∷ []) = option_and_then (one a) (unary_of o)
around o (a ∷ b ∷ []) = option_and_then (two a b) (binary_of o)
around o (a ∷ b ∷ c ∷ []) = if is_choose o then three a b c else None
around o (a ∷ b ∷ c ∷ d ∷ []) = if is_join o then four a b c d else None
around o (a ∷ b ∷ c ∷ d ∷ e ∷ f ∷ g ∷ h ∷ []) = if is_join o then eight a b c d e f g h else None
around o other = None

-- ---- a symbol

abbrev pub leaf : Atom → Option Sorted
leaf a = sorted (Leaf a) (sort_of_atom a)

abbrev pub on_top : List Entry → Sorted → List Entry
on_top entries x = Whole x ∷ entries

abbrev pub pushed : List Entry → Option Sorted → Option (List Entry)
pushed entries x = option_map (on_top entries) x

abbrev pub opened : Variable → Option Sorted
opened v = leaf (atom.Open v)

abbrev pub pushed_variable : List Entry → Option Variable → Option (List Entry)
pushed_variable entries v = pushed entries (option_and_then opened v)

-- an operator, its arguments, and the entries below
pub record Closing : Type 0 where
  pub operator : Operator
  pub arguments : List Sorted
  pub below : List Entry

-- what a closing bracket closes, from arguments that were taken already
abbrev pub closing : List Entry → (arguments : List Sorted) → Option Closing
closing [] arguments = None
closing (Whole x ∷ entries) arguments = closing entries (x ∷ arguments)
closing (Bracket o ∷ entries) arguments = Some (record { operator = o; arguments = arguments; below = entries })

abbrev pub closed : Closing → Option (List Entry)
closed c = pushed c.below (around c.operator c.arguments)

abbrev pub closed_by : List Entry → Option (List Entry)
closed_by entries = option_and_then closed (closing entries [])

-- one that is no part of a variable of a body
abbrev pub plain : Setting → List Entry → Symbol → Option (List Entry)
plain s entries (symbol.Truth b) = pushed entries (leaf (atom.Truth b))
plain s entries (symbol.Constant w n) = pushed entries (leaf (atom.Constant w n))
plain s entries (symbol.Open o) = Some (Bracket o ∷ entries)
plain s entries symbol.Close = closed_by entries
plain s entries x = pushed_variable entries (own_variable s x)

abbrev pub with_calls : List ℕ → List Entry → Reading
with_calls calls entries = record { calls = calls; entries = entries }

-- a variable of a body, after calls
abbrev pub named : List Entry → Option Variable → Option Reading
named entries v = option_map (with_calls []) (pushed_variable entries v)

-- another symbol, before which no call comes
abbrev pub other : Setting → Reading → Symbol → Option Reading
other s r symbol = if length r.calls == 0 then option_map (with_calls r.calls) (plain s r.entries symbol) else None

abbrev pub step : Setting → (path : List ℕ) → Reading → Symbol → Option Reading
step s path r (symbol.Inlined n) = Some (with_calls (r.calls ++ n ∷ []) r.entries)
step s path r (symbol.Local n) = named r.entries (local_at s path r.calls n)
step s path r (symbol.IsSet n) = named r.entries (is_set_at s path r.calls n)
step s path r x = other s r x

-- ---- a line

unfoldable pub run : Setting → (path : List ℕ) → Reading → List Symbol → Option Reading
run s path r [] = Some r
run s path r (x ∷ symbols) = option_and_then (λ (q : Reading). run s path q symbols) (step s path r x)

-- the only entry, a truth value
abbrev pub only : List Entry → Option Term
only (Whole x ∷ []) = if is_truth x.its_sort then Some x.term else None
only entries = None

abbrev pub finished : Reading → Option Term
finished r = if length r.calls == 0 then only r.entries else None

abbrev pub begun : Reading
begun = with_calls [] []

abbrev pub line_of : Setting → (path : List ℕ) → List Symbol → Option Term
line_of s path symbols = option_and_then finished (run s path begun symbols)
