-- Terms as values that contracts see: a term is stored as the list of its operators, each after its arguments.
use Rattle.std.specs.Prelude.{◌≡◌, List, [], ◌∷◌, ◌⊎◌, false, refl}
use Rattle.std.specs.Coded.{Coded, code_by, coded⊎, coded_list}
use base.Stored.{coded_unit}
use Rattle.std.proofs.Common.{inl, inr, ◌∙◌, ap}
use Rattle.term_core_spec.specs.declared.Atom.{Atom}
use Rattle.term_core_spec.specs.declared.Atom.TheVariants as atom
use Rattle.term_core_spec.specs.declared.UnaryOperator.{UnaryOperator}
use Rattle.term_core_spec.specs.declared.BinaryOperator.{BinaryOperator}
use Rattle.term_core_spec.specs.declared.TernaryOperator.{TernaryOperator}
use Rattle.term_core_spec.specs.declared.QuaternaryOperator.{QuaternaryOperator}
use Rattle.term_core_spec.specs.contracts.Atom as atom_row
use Rattle.term_core_spec.specs.contracts.UnaryOperator as unary_row
use Rattle.term_core_spec.specs.contracts.BinaryOperator as binary_row
use Rattle.term_core_spec.specs.contracts.TernaryOperator as ternary_row
use Rattle.term_core_spec.specs.contracts.QuaternaryOperator as quaternary_row
use Rattle.term_core_spec.specs.Term.{Term, Leaf, Unary, Binary, Ternary, Quaternary, Octonary}

-- an operator, or the join of eight bytes
abbrev pub Token : Type 0
Token = Atom ⊎ (UnaryOperator ⊎ (BinaryOperator ⊎ (TernaryOperator ⊎ (QuaternaryOperator ⊎ Unit {0}))))

abbrev pub token_code : Coded Token
token_code =
    coded⊎ atom_row.the_row.coded
    (coded⊎ unary_row.the_row.coded
    (coded⊎ binary_row.the_row.coded (coded⊎ ternary_row.the_row.coded (coded⊎ quaternary_row.the_row.coded coded_unit))))

abbrev pub leaf_token : Atom → Token
leaf_token atom = inl atom

abbrev pub unary_token : UnaryOperator → Token
unary_token operator = inr (inl operator)

abbrev pub binary_token : BinaryOperator → Token
binary_token operator = inr (inr (inl operator))

abbrev pub ternary_token : TernaryOperator → Token
ternary_token operator = inr (inr (inr (inl operator)))

abbrev pub quaternary_token : QuaternaryOperator → Token
quaternary_token operator = inr (inr (inr (inr (inl operator))))

abbrev pub octonary_token : Token
octonary_token = inr (inr (inr (inr (inr tt))))

-- the operators of a term in front of some others
abbrev pub tokens : Term → List Token → List Token
tokens (Leaf atom) rest = leaf_token atom ∷ rest
tokens (Unary operator a) rest = tokens a (unary_token operator ∷ rest)
tokens (Binary operator a b) rest = tokens a (tokens b (binary_token operator ∷ rest))
tokens (Ternary operator a b c) rest = tokens a (tokens b (tokens c (ternary_token operator ∷ rest)))
tokens (Quaternary operator a b c d) rest = tokens a (tokens b (tokens c (tokens d (quaternary_token operator ∷ rest))))
tokens (Octonary a b c d e f g h) rest =
    tokens a (tokens b (tokens c (tokens d (tokens e (tokens f (tokens g (tokens h (octonary_token ∷ rest))))))))

-- one operator takes its arguments from the terms so far, of which the last is first
abbrev pub taken : Token → List Term → List Term
taken (inl atom) stack = Leaf atom ∷ stack
taken (inr (inl operator)) (a ∷ stack) = Unary operator a ∷ stack
taken (inr (inr (inl operator))) (b ∷ a ∷ stack) = Binary operator a b ∷ stack
taken (inr (inr (inr (inl operator)))) (c ∷ b ∷ a ∷ stack) = Ternary operator a b c ∷ stack
taken (inr (inr (inr (inr (inl operator))))) (d ∷ c ∷ b ∷ a ∷ stack) = Quaternary operator a b c d ∷ stack
taken (inr (inr (inr (inr (inr unit))))) (h ∷ g ∷ f ∷ e ∷ d ∷ c ∷ b ∷ a ∷ stack) = Octonary a b c d e f g h ∷ stack
taken token stack = stack

abbrev pub read_terms : List Token → List Term → List Term
read_terms [] stack = stack
read_terms (token ∷ rest) stack = read_terms rest (taken token stack)

-- a term is read back from its operators
pub read-tokens : (t : Term) (rest : List Token) (stack : List Term) → read_terms (tokens t rest) stack ≡ read_terms rest (t ∷ stack)
read-tokens (Leaf atom) rest stack = refl
read-tokens (Unary operator a) rest stack = read-tokens a (unary_token operator ∷ rest) stack
read-tokens (Binary operator a b) rest stack =
    read-tokens a (tokens b (binary_token operator ∷ rest)) stack ∙ read-tokens b (binary_token operator ∷ rest) (a ∷ stack)
read-tokens (Ternary operator a b c) rest stack =
    read-tokens a (tokens b (tokens c (ternary_token operator ∷ rest))) stack
    ∙ read-tokens b (tokens c (ternary_token operator ∷ rest)) (a ∷ stack)
    ∙ read-tokens c (ternary_token operator ∷ rest) (b ∷ a ∷ stack)
read-tokens (Quaternary operator a b c d) rest stack =
    read-tokens a (tokens b (tokens c (tokens d (quaternary_token operator ∷ rest)))) stack
    ∙ read-tokens b (tokens c (tokens d (quaternary_token operator ∷ rest))) (a ∷ stack)
    ∙ read-tokens c (tokens d (quaternary_token operator ∷ rest)) (b ∷ a ∷ stack)
    ∙ read-tokens d (quaternary_token operator ∷ rest) (c ∷ b ∷ a ∷ stack)
read-tokens (Octonary a b c d e f g h) rest stack =
    read-tokens a _ stack
    ∙ read-tokens b _ (a ∷ stack)
    ∙ read-tokens c _ (b ∷ a ∷ stack)
    ∙ read-tokens d _ (c ∷ b ∷ a ∷ stack)
    ∙ read-tokens e _ (d ∷ c ∷ b ∷ a ∷ stack)
    ∙ read-tokens f _ (e ∷ d ∷ c ∷ b ∷ a ∷ stack)
    ∙ read-tokens g _ (f ∷ e ∷ d ∷ c ∷ b ∷ a ∷ stack)
    ∙ read-tokens h (octonary_token ∷ rest) (g ∷ f ∷ e ∷ d ∷ c ∷ b ∷ a ∷ stack)

abbrev pub first_term : List Term → Term
first_term [] = Leaf (atom.Truth false)
first_term (t ∷ rest) = t

abbrev pub term_code : Coded Term
term_code = code_by (List Token) (coded_list token_code) (λ t. tokens t []) (λ list. first_term (read_terms list [])) (λ t. ap first_term (read-tokens t [] []))
