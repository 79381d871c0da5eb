-- Worked samples: token lists that are no units, with the offset of each token, and their faults.
use Rattle.std.specs.Prelude.{◌≡◌, ℕ, List, [], ◌∷◌}
use Rattle.c_token_spec.specs.declared.token.Keyword.TheVariants as keyword
use Rattle.c_token_spec.specs.declared.token.NumberType.TheVariants.{SignedInt}
use Rattle.c_token_spec.specs.declared.token.Punctuator.TheVariants as punctuator
use Rattle.c_token_spec.specs.Lexical.{Placed}
use Rattle.c_parse_spec.specs.declared.ParseFaultKind.{ParseFaultKind}
use Rattle.c_parse_spec.specs.Faults.{IsFault, offset_of}
use Rattle.c_parse_spec.specs.Leaves.{mark, keyword_at, named, number}

-- tokens of a text that ends there have a fault of this kind at this offset
abbrev pub IsFaultAt : (tokens : List Placed) → (end : ℕ) → ParseFaultKind → (offset : ℕ) → Type 0
IsFaultAt tokens end kind offset = (rest : List Placed) × IsFault tokens kind rest × (offset_of end rest ≡ offset)

-- a name of one letter
abbrev pub name : (letter offset : ℕ) → Placed
name letter offset = named (record { spelling = letter ∷ []; offset = offset })

-- `int (*p)(int);`
abbrev pub function_pointer : List Placed
function_pointer = keyword_at keyword.Int 0 ∷ mark punctuator.LeftParenthesis 4 ∷ mark punctuator.Star 5 ∷ name 112 6 ∷ mark punctuator.RightParenthesis 7 ∷ mark punctuator.LeftParenthesis 8 ∷ keyword_at keyword.Int 9 ∷ mark punctuator.RightParenthesis 12 ∷ mark punctuator.Semicolon 13 ∷ []

-- `int f(void){goto a;}`
abbrev pub goto_word : List Placed
goto_word = keyword_at keyword.Int 0 ∷ name 102 4 ∷ mark punctuator.LeftParenthesis 5 ∷ keyword_at keyword.Void 6 ∷ mark punctuator.RightParenthesis 10 ∷ mark punctuator.LeftBrace 11 ∷ keyword_at keyword.Goto 12 ∷ name 97 17 ∷ mark punctuator.Semicolon 18 ∷ mark punctuator.RightBrace 19 ∷ []

-- `int f(void){a:;}`
abbrev pub label : List Placed
label = keyword_at keyword.Int 0 ∷ name 102 4 ∷ mark punctuator.LeftParenthesis 5 ∷ keyword_at keyword.Void 6 ∷ mark punctuator.RightParenthesis 10 ∷ mark punctuator.LeftBrace 11 ∷ name 97 12 ∷ mark punctuator.Colon 13 ∷ mark punctuator.Semicolon 14 ∷ mark punctuator.RightBrace 15 ∷ []

-- `struct s{int a:3;};`
abbrev pub bit_field : List Placed
bit_field = keyword_at keyword.Struct 0 ∷ name 115 7 ∷ mark punctuator.LeftBrace 8 ∷ keyword_at keyword.Int 9 ∷ name 97 13 ∷ mark punctuator.Colon 14 ∷ number 3 SignedInt 15 ∷ mark punctuator.Semicolon 16 ∷ mark punctuator.RightBrace 17 ∷ mark punctuator.Semicolon 18 ∷ []

-- `int f(void){a,b;}`
abbrev pub comma : List Placed
comma = keyword_at keyword.Int 0 ∷ name 102 4 ∷ mark punctuator.LeftParenthesis 5 ∷ keyword_at keyword.Void 6 ∷ mark punctuator.RightParenthesis 10 ∷ mark punctuator.LeftBrace 11 ∷ name 97 12 ∷ mark punctuator.Comma 13 ∷ name 98 14 ∷ mark punctuator.Semicolon 15 ∷ mark punctuator.RightBrace 16 ∷ []

-- `int f(void){a=1,b=2;}`
abbrev pub comma_after_assignment : List Placed
comma_after_assignment = keyword_at keyword.Int 0 ∷ name 102 4 ∷ mark punctuator.LeftParenthesis 5 ∷ keyword_at keyword.Void 6 ∷ mark punctuator.RightParenthesis 10 ∷ mark punctuator.LeftBrace 11 ∷ name 97 12 ∷ mark punctuator.Assign 13 ∷ number 1 SignedInt 14 ∷ mark punctuator.Comma 15 ∷ name 98 16 ∷ mark punctuator.Assign 17 ∷ number 2 SignedInt 18 ∷ mark punctuator.Semicolon 19 ∷ mark punctuator.RightBrace 20 ∷ []

-- `int f(void){f(1),b;}`
abbrev pub comma_after_call : List Placed
comma_after_call = keyword_at keyword.Int 0 ∷ name 102 4 ∷ mark punctuator.LeftParenthesis 5 ∷ keyword_at keyword.Void 6 ∷ mark punctuator.RightParenthesis 10 ∷ mark punctuator.LeftBrace 11 ∷ name 102 12 ∷ mark punctuator.LeftParenthesis 13 ∷ number 1 SignedInt 14 ∷ mark punctuator.RightParenthesis 15 ∷ mark punctuator.Comma 16 ∷ name 98 17 ∷ mark punctuator.Semicolon 18 ∷ mark punctuator.RightBrace 19 ∷ []

-- `int f(void){a=1+f(2);}`
abbrev pub call_in_operand : List Placed
call_in_operand = keyword_at keyword.Int 0 ∷ name 102 4 ∷ mark punctuator.LeftParenthesis 5 ∷ keyword_at keyword.Void 6 ∷ mark punctuator.RightParenthesis 10 ∷ mark punctuator.LeftBrace 11 ∷ name 97 12 ∷ mark punctuator.Assign 13 ∷ number 1 SignedInt 14 ∷ mark punctuator.Plus 15 ∷ name 102 16 ∷ mark punctuator.LeftParenthesis 17 ∷ number 2 SignedInt 18 ∷ mark punctuator.RightParenthesis 19 ∷ mark punctuator.Semicolon 20 ∷ mark punctuator.RightBrace 21 ∷ []

-- `int f(void){f(1)+2;}`
abbrev pub operator_after_call : List Placed
operator_after_call = keyword_at keyword.Int 0 ∷ name 102 4 ∷ mark punctuator.LeftParenthesis 5 ∷ keyword_at keyword.Void 6 ∷ mark punctuator.RightParenthesis 10 ∷ mark punctuator.LeftBrace 11 ∷ name 102 12 ∷ mark punctuator.LeftParenthesis 13 ∷ number 1 SignedInt 14 ∷ mark punctuator.RightParenthesis 15 ∷ mark punctuator.Plus 16 ∷ number 2 SignedInt 17 ∷ mark punctuator.Semicolon 18 ∷ mark punctuator.RightBrace 19 ∷ []

-- `int f(void){return g()*2;}`
abbrev pub operator_after_returned_call : List Placed
operator_after_returned_call = keyword_at keyword.Int 0 ∷ name 102 4 ∷ mark punctuator.LeftParenthesis 5 ∷ keyword_at keyword.Void 6 ∷ mark punctuator.RightParenthesis 10 ∷ mark punctuator.LeftBrace 11 ∷ keyword_at keyword.Return 12 ∷ name 103 19 ∷ mark punctuator.LeftParenthesis 20 ∷ mark punctuator.RightParenthesis 21 ∷ mark punctuator.Star 22 ∷ number 2 SignedInt 23 ∷ mark punctuator.Semicolon 24 ∷ mark punctuator.RightBrace 25 ∷ []

-- `int a=b(1);`
abbrev pub call_in_value : List Placed
call_in_value = keyword_at keyword.Int 0 ∷ name 97 4 ∷ mark punctuator.Assign 5 ∷ name 98 6 ∷ mark punctuator.LeftParenthesis 7 ∷ number 1 SignedInt 8 ∷ mark punctuator.RightParenthesis 9 ∷ mark punctuator.Semicolon 10 ∷ []

-- `int f(int a,...);`
abbrev pub dots : List Placed
dots = keyword_at keyword.Int 0 ∷ name 102 4 ∷ mark punctuator.LeftParenthesis 5 ∷ keyword_at keyword.Int 6 ∷ name 97 10 ∷ mark punctuator.Comma 11 ∷ mark punctuator.Ellipsis 12 ∷ mark punctuator.RightParenthesis 15 ∷ mark punctuator.Semicolon 16 ∷ []

-- `int f(;`
abbrev pub missing_parameter : List Placed
missing_parameter = keyword_at keyword.Int 0 ∷ name 102 4 ∷ mark punctuator.LeftParenthesis 5 ∷ mark punctuator.Semicolon 6 ∷ []

-- `int f(void){return 1`
abbrev pub missing_end : List Placed
missing_end = keyword_at keyword.Int 0 ∷ name 102 4 ∷ mark punctuator.LeftParenthesis 5 ∷ keyword_at keyword.Void 6 ∷ mark punctuator.RightParenthesis 10 ∷ mark punctuator.LeftBrace 11 ∷ keyword_at keyword.Return 12 ∷ number 1 SignedInt 19 ∷ []
