-- Terms that are put in for the variables of a term, and variables that are renamed.
use Rattle.std.specs.Prelude.{ℕ}
use Rattle.term_core_spec.specs.declared.Variable.{Variable}
use Rattle.term_core_spec.specs.declared.Atom.{Atom}
use Rattle.term_core_spec.specs.declared.Atom.TheVariants as atom
use Rattle.term_core_spec.specs.Term.{Term, Leaf, Unary, Binary, Ternary, Quaternary, Octonary, truth, constant, open_term}
use Rattle.term_core_spec.specs.Value.{Assignment, value}

-- the term of each variable
abbrev pub State : Type 0
State = Variable → Term

abbrev pub substituted_atom : State → Atom → Term
substituted_atom state (atom.Truth value) = truth value
substituted_atom state (atom.Constant width number) = constant width number
substituted_atom state (atom.Open variable) = state variable

-- the term with the state's term in place of each variable, all at once: variables of these terms are left alone
unfoldable pub substituted : State → Term → Term
substituted state (Leaf leaf) = substituted_atom state leaf
substituted state (Unary operator a) = Unary operator (substituted state a)
substituted state (Binary operator a b) = Binary operator (substituted state a) (substituted state b)
substituted state (Ternary operator a b c) = Ternary operator (substituted state a) (substituted state b) (substituted state c)
substituted state (Quaternary operator a b c d) =
    Quaternary operator (substituted state a) (substituted state b) (substituted state c) (substituted state d)
substituted state (Octonary a b c d e f g h) =
    Octonary (substituted state a) (substituted state b) (substituted state c) (substituted state d)
    (substituted state e) (substituted state f) (substituted state g) (substituted state h)

-- the values of the terms of a state
abbrev pub values_of : Assignment → State → Assignment
values_of assignment state = λ v. value assignment (state v)

-- ---- renaming

abbrev pub renamed_atom : (Variable → Variable) → Atom → Atom
renamed_atom name (atom.Truth value) = atom.Truth value
renamed_atom name (atom.Constant width number) = atom.Constant width number
renamed_atom name (atom.Open variable) = atom.Open (name variable)

-- the term with each variable renamed
unfoldable pub renamed : (Variable → Variable) → Term → Term
renamed name (Leaf leaf) = Leaf (renamed_atom name leaf)
renamed name (Unary operator a) = Unary operator (renamed name a)
renamed name (Binary operator a b) = Binary operator (renamed name a) (renamed name b)
renamed name (Ternary operator a b c) = Ternary operator (renamed name a) (renamed name b) (renamed name c)
renamed name (Quaternary operator a b c d) = Quaternary operator (renamed name a) (renamed name b) (renamed name c) (renamed name d)
renamed name (Octonary a b c d e f g h) =
    Octonary (renamed name a) (renamed name b) (renamed name c) (renamed name d) (renamed name e) (renamed name f) (renamed name g) (renamed name h)

-- the variable of its family and index that belongs to an instance, as that of an inlined call
abbrev pub at_instance : ℕ → Variable → Variable
at_instance instance v = record { family = v.family; index = v.index; instance = instance; sort = v.sort }
