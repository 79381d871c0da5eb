-- The trees of the code without their pointers.
use Rattle.term_core_spec.specs.Term as term
use Rattle.term_core.specs.declared.term.Term.{Term}
use Rattle.term_core.specs.declared.term.Term.TheVariants.{Leaf, Unary', Binary', Ternary', Quaternary', Octonary'}

abbrev pub term_of : Term → term.Term
term_of (Leaf atom) = term.Leaf atom
term_of (Unary' operator p a) = term.Unary operator (term_of a)
term_of (Binary' operator p a q b) = term.Binary operator (term_of a) (term_of b)
term_of (Ternary' operator p a q b r c) = term.Ternary operator (term_of a) (term_of b) (term_of c)
term_of (Quaternary' operator p a q b r c s d) = term.Quaternary operator (term_of a) (term_of b) (term_of c) (term_of d)
term_of (Octonary' p a q b r c s d t e u f v g w h) = term.Octonary (term_of a) (term_of b) (term_of c) (term_of d) (term_of e) (term_of f) (term_of g) (term_of h)
