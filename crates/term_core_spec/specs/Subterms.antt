-- The distinct subterms of a term, in post-order: arguments before their term and from left to right, each once.
use Rattle.std.specs.Prelude.{◌≡◌, ℕ, nat_le, if◌then◌else◌, true, List, [], ◌∷◌, ◌++◌, length, Option, Some, None}
use Rattle.std.specs.List.{list_any}
use Rattle.term_core_spec.specs.Term.{Term, Leaf, Unary, Binary, Ternary, Quaternary, Octonary}
use Rattle.term_core_spec.specs.Same.{same_term}

-- with a term, where it isn't there
abbrev pub with_term : Term → List Term → List Term
with_term t terms = if list_any (same_term t) terms then terms else terms ++ t ∷ []

unfoldable pub with_subterms : Term → List Term → List Term
with_subterms (Leaf leaf) terms = with_term (Leaf leaf) terms
with_subterms (Unary operator a) terms = with_term (Unary operator a) (with_subterms a terms)
with_subterms (Binary operator a b) terms = with_term (Binary operator a b) (with_subterms b (with_subterms a terms))
with_subterms (Ternary operator a b c) terms =
    with_term (Ternary operator a b c) (with_subterms c (with_subterms b (with_subterms a terms)))
with_subterms (Quaternary operator a b c d) terms =
    with_term (Quaternary operator a b c d) (with_subterms d (with_subterms c (with_subterms b (with_subterms a terms))))
with_subterms (Octonary a b c d e f g h) terms =
    with_term (Octonary a b c d e f g h)
    (with_subterms h (with_subterms g (with_subterms f (with_subterms e (with_subterms d (with_subterms c (with_subterms b (with_subterms a terms))))))))

abbrev pub subterms : Term → List Term
subterms t = with_subterms t []

abbrev pub subterm_count : Term → ℕ
subterm_count t = length (subterms t)

-- the number, where it is at most the maximum
abbrev pub up_to : ℕ → ℕ → Option ℕ
up_to maximum number = if nat_le number maximum then Some number else None

-- the arguments of a term
unfoldable pub arguments : Term → List Term
arguments (Leaf leaf) = []
arguments (Unary operator a) = a ∷ []
arguments (Binary operator a b) = a ∷ b ∷ []
arguments (Ternary operator a b c) = a ∷ b ∷ c ∷ []
arguments (Quaternary operator a b c d) = a ∷ b ∷ c ∷ d ∷ []
arguments (Octonary a b c d e f g h) = a ∷ b ∷ c ∷ d ∷ e ∷ f ∷ g ∷ h ∷ []

-- the term is in the list
abbrev pub IsIn : Term → List Term → Type 0
IsIn t terms = list_any (same_term t) terms ≡ true

-- with each term the list has the term's arguments
abbrev pub IsClosed : List Term → Type 0
IsClosed terms = (t : Term) → IsIn t terms → (a : Term) → IsIn a (arguments t) → IsIn a terms
