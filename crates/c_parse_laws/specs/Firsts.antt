-- What an expression begins with.
use Rattle.std.specs.Prelude.{ℕ, Bool, true, false, not, List}
use Rattle.c_token_spec.specs.declared.token.Keyword.{Keyword}
use Rattle.c_token_spec.specs.declared.token.Keyword.TheVariants.{Sizeof}
use Rattle.c_token_spec.specs.declared.token.Punctuator.{Punctuator}
use Rattle.c_token_spec.specs.declared.token.Punctuator.TheVariants as punctuator
use Rattle.c_token_spec.specs.Lexical.{Token, Name as name_token, Word, Number as number_token, Character as character_token, Mark}
use Rattle.c_parse_spec.specs.Expressions.{is_typedef_name}

abbrev pub begins_by_mark : Punctuator → Bool
begins_by_mark punctuator.LeftParenthesis = true
begins_by_mark punctuator.Ampersand = true
begins_by_mark punctuator.Star = true
begins_by_mark punctuator.Plus = true
begins_by_mark punctuator.Minus = true
begins_by_mark punctuator.Tilde = true
begins_by_mark punctuator.Exclamation = true
begins_by_mark other = false

abbrev pub begins_by_word : Keyword → Bool
begins_by_word Sizeof = true
begins_by_word other = false

abbrev pub begins_expression : (names : List (List ℕ)) → Token → Bool
begins_expression names (Mark mark) = begins_by_mark mark
begins_expression names (Word word) = begins_by_word word
begins_expression names (name_token spelling) = not (is_typedef_name names spelling)
begins_expression names (number_token value type) = true
begins_expression names (character_token value) = true
