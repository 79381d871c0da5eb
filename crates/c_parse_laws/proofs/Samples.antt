-- There is an expression everywhere: the constant 0.
use Rattle.std.proofs.Common.{List, [], ◌∷◌, ℕ, zero, suc}
use Rattle.c_token_spec.specs.declared.token.NumberType.TheVariants.{SignedInt}
use Rattle.c_syntax_spec.specs.Expression as tree
use Rattle.c_parse_spec.specs.Leaves.{Leaf, plain, number}
use Rattle.c_parse_spec.specs.Expressions.{Primary, constant, primary, Unary, postfix, Cast, unary, Binary, operand, tighter, Conditional, logical_or}

abbrev pub zero_tree : tree.Expression
zero_tree = tree.Number 0 SignedInt 0

abbrev pub zero_text : List Leaf
zero_text = plain (number 0 SignedInt 0) ∷ []

pub zero_primary : (names : List (List ℕ)) (depth count : ℕ) → Primary names depth count zero_tree zero_text
zero_primary names depth count = constant depth count 0 SignedInt 0

pub zero_unary : (names : List (List ℕ)) (depth count : ℕ) → Unary names depth count zero_tree zero_text
zero_unary names depth count = postfix depth count zero_tree zero_text (primary depth count zero_tree zero_text (zero_primary names depth count))

pub zero_cast : (names : List (List ℕ)) (depth count : ℕ) → Cast names depth count zero_tree zero_text
zero_cast names depth count = unary depth count zero_tree zero_text (zero_unary names depth count)

pub zero_binary : (names : List (List ℕ)) (level depth count : ℕ) → Binary names level depth count zero_tree zero_text
zero_binary names zero depth count = operand depth count zero_tree zero_text (zero_cast names depth count)
zero_binary names (suc level) depth count = tighter level depth count zero_tree zero_text (zero_binary names level depth count)

pub zero_conditional : (names : List (List ℕ)) (depth count : ℕ) → Conditional names depth count zero_tree zero_text
zero_conditional names depth count = logical_or depth count zero_tree zero_text (zero_binary names 10 depth count)
