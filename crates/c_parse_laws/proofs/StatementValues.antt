-- Each token with which an expression can begin begins one.
use Rattle.std.proofs.Common.{◌≡◌, Bool, true, false, refl, not, ℕ, zero, suc, List, ◌∷◌, [], ◌++◌}
use Rattle.c_token_spec.specs.declared.token.Keyword.{Keyword}
use Rattle.c_token_spec.specs.declared.token.Keyword.TheVariants.{Sizeof}
use Rattle.c_token_spec.specs.declared.token.Punctuator.{Punctuator}
use Rattle.c_token_spec.specs.declared.token.Punctuator.TheVariants as punctuator
use Rattle.c_token_spec.specs.Lexical.{Token, Name as name_token, Word, Number as number_token, Character as character_token, Mark, Placed}
use Rattle.c_syntax_spec.specs.declared.UnaryOperator.{UnaryOperator}
use Rattle.c_syntax_spec.specs.declared.UnaryOperator.TheVariants.{AddressOf, Dereference, Plus, Minus, Complement, Not}
use Rattle.c_syntax_spec.specs.Expression as tree
use Rattle.c_parse_spec.specs.Leaves.{Leaf, operates, mark, marks, expected, brackets, keyword_at, plain}
use Rattle.c_parse_spec.specs.declared.Role.TheVariants.{OperandEnd}
use Rattle.c_parse_spec.specs.Expressions as grammar
use Rattle.c_parse_spec.specs.Expressions.{unary_mark}
use Rattle.exact_read.proofs.RoleBegins.{Begins}
use Rattle.c_parse_laws.proofs.Samples.{zero_tree, zero_text, zero_cast, zero_conditional, zero_unary}
use Rattle.c_parse_laws.specs.Firsts.{begins_by_mark, begins_by_word, begins_expression}

not_true : (b : Bool) → not b ≡ true → b ≡ false
not_true true e = absurd (cc)
not_true false e = refl

binary_of : (names : List (List ℕ)) (level depth count : ℕ) (x : tree.Expression) (text : List Leaf) → grammar.Unary names depth count x text → grammar.Binary names level depth count x text
binary_of names zero depth count x text h = grammar.operand depth count x text (grammar.unary depth count x text h)
binary_of names (suc level) depth count x text h = grammar.tighter level depth count x text (binary_of names level depth count x text h)

conditional_of : (names : List (List ℕ)) (depth count : ℕ) (x : tree.Expression) (text : List Leaf) → grammar.Unary names depth count x text → grammar.Conditional names depth count x text
conditional_of names depth count x text h = grammar.logical_or depth count x text (binary_of names 10 depth count x text h)

primary_of : (names : List (List ℕ)) (depth count : ℕ) (x : tree.Expression) (text : List Leaf) → grammar.Primary names depth count x text → grammar.Conditional names depth count x text
primary_of names depth count x text h = conditional_of names depth count x text (grammar.postfix depth count x text (grammar.primary depth count x text h))

prefixed_begins : (names : List (List ℕ)) (depth offset : ℕ) (o : UnaryOperator) → Begins marks (grammar.Conditional names depth 0) (mark (unary_mark o) offset)
prefixed_begins names depth offset o =
    record { value = tree.Unary o zero_tree offset; first = operates 1 (mark (unary_mark o) offset); more = zero_text; derives = conditional_of names depth 0 (tree.Unary o zero_tree offset) (operates 1 (mark (unary_mark o) offset) ∷ zero_text) (grammar.prefixed depth 0 o zero_tree zero_text offset (zero_cast names depth 1)); is = refl }

mark_begins : (names : List (List ℕ)) (depth offset : ℕ) (p : Punctuator) → begins_by_mark p ≡ true → Begins marks (grammar.Conditional names depth 0) (mark p offset)
mark_begins names depth offset punctuator.LeftParenthesis e =
    let text = brackets (suc depth) 1 (mark punctuator.LeftParenthesis offset) ∷ zero_text ++ expected OperandEnd (mark punctuator.RightParenthesis 0) ∷ [] in
    record { value = tree.Bracketed zero_tree offset; first = brackets (suc depth) 1 (mark punctuator.LeftParenthesis offset); more = zero_text ++ expected OperandEnd (mark punctuator.RightParenthesis 0) ∷ []; derives = primary_of names depth 0 (tree.Bracketed zero_tree offset) text (grammar.bracketed depth 0 zero_tree zero_text offset 0 (zero_conditional names (suc depth) 1)); is = refl }
mark_begins names depth offset punctuator.Ampersand e = prefixed_begins names depth offset AddressOf
mark_begins names depth offset punctuator.Star e = prefixed_begins names depth offset Dereference
mark_begins names depth offset punctuator.Plus e = prefixed_begins names depth offset Plus
mark_begins names depth offset punctuator.Minus e = prefixed_begins names depth offset Minus
mark_begins names depth offset punctuator.Tilde e = prefixed_begins names depth offset Complement
mark_begins names depth offset punctuator.Exclamation e = prefixed_begins names depth offset Not
mark_begins names depth offset other e = absurd (cc)

word_begins : (names : List (List ℕ)) (depth offset : ℕ) (w : Keyword) → begins_by_word w ≡ true → Begins marks (grammar.Conditional names depth 0) (keyword_at w offset)
word_begins names depth offset Sizeof e =
    record { value = tree.Sizeof zero_tree offset; first = operates 1 (keyword_at Sizeof offset); more = zero_text; derives = conditional_of names depth 0 (tree.Sizeof zero_tree offset) (operates 1 (keyword_at Sizeof offset) ∷ zero_text) (grammar.sizeof_expression depth 0 zero_tree zero_text offset (zero_unary names depth 1)); is = refl }
word_begins names depth offset other e = absurd (cc)

token_begins : (names : List (List ℕ)) (depth : ℕ) (k : Token) (o : ℕ) → begins_expression names k ≡ true → Begins marks (grammar.Conditional names depth 0) (record { token = k; offset = o })
token_begins names depth (Mark p) o e = mark_begins names depth o p e
token_begins names depth (Word w) o e = word_begins names depth o w e
token_begins names depth (name_token spelling) o e =
    let n : tree.Name = record { spelling = spelling; offset = o } in
    record { value = tree.Named n; first = plain (record { token = name_token spelling; offset = o }); more = []; derives = primary_of names depth 0 (tree.Named n) _ (grammar.name depth 0 n (not_true (grammar.is_typedef_name names spelling) e)); is = refl }
token_begins names depth (number_token value type) o e =
    record { value = tree.Number value type o; first = plain (record { token = number_token value type; offset = o }); more = []; derives = primary_of names depth 0 (tree.Number value type o) _ (grammar.constant depth 0 value type o); is = refl }
token_begins names depth (character_token value) o e =
    record { value = tree.Character value o; first = plain (record { token = character_token value; offset = o }); more = []; derives = primary_of names depth 0 (tree.Character value o) _ (grammar.character_constant depth 0 value o); is = refl }

pub conditional_begins : (names : List (List ℕ)) (depth : ℕ) (t : Placed) → begins_expression names t.token ≡ true → Begins marks (grammar.Conditional names depth 0) t
conditional_begins names depth t e = token_begins names depth t.token t.offset e
