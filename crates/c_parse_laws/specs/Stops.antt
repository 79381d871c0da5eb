-- Where an expression that was read ends: at a token that does not go on with it.
use Rattle.std.specs.Prelude.{ℕ, ◌&&◌, not, Bool, true, false}
use Rattle.c_token_spec.specs.declared.token.Punctuator.TheVariants as punctuator
use Rattle.c_token_spec.specs.Lexical.{Placed}
use Rattle.c_syntax_spec.specs.Expression as tree
use Rattle.c_parse_laws.specs.Classes.{is_mark, is_suffix, binary_operator, is_up_to}

-- the expression ends with a postfix expression, so that a postfix can follow: it doesn't end with `sizeof (type)`
abbrev pub ends_postfix : tree.Expression → Bool
ends_postfix (tree.Named name) = true
ends_postfix (tree.Number value type offset) = true
ends_postfix (tree.Character value offset) = true
ends_postfix (tree.Bracketed inner offset) = true
ends_postfix (tree.Index base index offset) = true
ends_postfix (tree.Member base access member offset) = true
ends_postfix (tree.Unary operator operand offset) = ends_postfix operand
ends_postfix (tree.Sizeof operand offset) = ends_postfix operand
ends_postfix (tree.SizeofType type offset) = false
ends_postfix (tree.Cast type operand offset) = ends_postfix operand
ends_postfix (tree.Binary operator left right offset) = ends_postfix right
ends_postfix (tree.Conditional test first second offset) = ends_postfix second

abbrev pub stop_cast : tree.Expression → Placed → Bool
stop_cast x token = not (is_suffix token.token && ends_postfix x)

abbrev pub stop_binary : (level : ℕ) → tree.Expression → Placed → Bool
stop_binary level x token = not (is_up_to level (binary_operator token.token)) && stop_cast x token

abbrev pub stop_conditional : tree.Expression → Placed → Bool
stop_conditional x token = not (is_mark punctuator.Question token.token) && stop_binary 10 x token
