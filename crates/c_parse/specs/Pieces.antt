-- Parts of the reference parsers of statements, and of what they give.
use Rattle.std.specs.Prelude.{ℕ, suc, ◌&&◌, not, Bool, List, map, Vec, Result, Ok, Err}
use Rattle.std.specs.declared.alloc.Global.{Global}
use Rattle.c_token_spec.specs.declared.token.Keyword.TheVariants.{Break, Continue, Else, Return}
use Rattle.c_token_spec.specs.declared.token.Punctuator.TheVariants as punctuator
use Rattle.c_token_spec.specs.Lexical.{Placed, Token}
use Rattle.c_syntax_spec.specs.Expression as tree
use Rattle.c_syntax_spec.specs.Unit as unit
use Rattle.c_parse_spec.specs.declared.Role.{Role}
use Rattle.c_parse_spec.specs.declared.Role.TheVariants.{Nothing}
use Rattle.c_parse_spec.specs.Leaves.{opens, expected}
use Rattle.c_parse_spec.specs.Statements.{takes_else, simple_end}
use Rattle.exact_read.specs.Reading.{Parser}
use Rattle.exact_read.specs.Grammar.{read_map, read_nothing, read_then}
use Rattle.c_parse_laws.specs.Classes.{mark_offset}
use Rattle.c_parse_laws.specs.Parsers.{Parsers, token, following, choose}
use Rattle.c_parse_laws.specs.Values.{read_simple}
use Rattle.c_parse_laws.specs.Statements as statements
use Rattle.c_syntax.specs.declared.statement.Label.{Label}
use Rattle.c_syntax.specs.declared.statement.Part.{Part}
use Rattle.c_syntax.specs.Locals.{label_of}
use Rattle.c_syntax.specs.Statements.{Piece, Declares, States, part_of}
use Rattle.c_parse_token.specs.declared.names.TypedefNames.{TypedefNames}
use Rattle.attempt.specs.declared.refusal.Refusal.{Refusal}
use Rattle.attempt.specs.declared.refusal.Refusal.TheVariants.{NoMemory}
use Rattle.c_parse_token.specs.declared.outcome.SyntaxFault.{SyntaxFault}
use Rattle.c_parse_token.specs.Lists.{names_of}
use Rattle.c_parse_expression.specs.Whole.{expressions}
use Rattle.c_parse_declaration.specs.declared.Scope.{Scope}

-- statements in which so many constructs may open
abbrev pub within : TypedefNames → (fuel : ℕ) → statements.Statements
within names fuel = statements.read_statement (names_of names) (expressions names) fuel

abbrev pub statements_in : Scope → (fuel : ℕ) → statements.Statements
statements_in scope fuel = within scope.names.now fuel

-- a part of a block, as the reference parser gives it
abbrev pub read_of : Piece → statements.Part
read_of (Declares locals) = statements.PartLocals locals
read_of (States statement) = statements.PartStatement statement

-- labels, and the parts of a block, as the reference parser gives them
abbrev pub taken_labels : Vec Label Global → List unit.Label
taken_labels labels = map label_of labels.items

abbrev pub taken_parts : Vec Part Global → List statements.Part
taken_parts parts = map (λ part. read_of (part_of part)) parts.items

-- a part begins with the token
abbrev pub starts_part : Token → Bool
starts_part next = not (statements.ends_parts next)

-- statements that contain no other
abbrev pub read_plain : Parsers → (depth : ℕ) → Parser Placed Role unit.Statement
read_plain inner depth =
    choose (statements.is_keyword Continue) (statements.read_jump Continue (λ offset. unit.Continue offset))
    (choose (statements.is_keyword Break) (statements.read_jump Break (λ offset. unit.Break offset))
    (choose (statements.is_keyword Return) (statements.read_return inner depth)
    (statements.read_perform inner depth)))

-- what follows an `if` with its body
abbrev pub read_else : statements.Statements → (depth : ℕ) → tree.Expression → (body : unit.Statement) → (offset : ℕ) → Parser Placed Role unit.Statement
read_else inside depth x body offset =
    choose (λ next. not (takes_else body) && statements.is_keyword Else next)
    (following (token Nothing (opens (suc (suc depth))) (statements.keyword_offset Else)) (λ _. read_map (λ otherwise. unit.IfElse x body otherwise offset) (inside (suc (suc depth)))))
    (read_nothing (unit.If x body offset))

-- an expression statement that begins a `for`
abbrev pub read_start_simple : Parsers → (depth : ℕ) → Parser Placed Role unit.ForStart
read_start_simple inner depth = read_map (λ made. unit.StartsSimple made.0) (read_then (read_simple inner depth) (λ x. token (simple_end x) (expected (simple_end x)) (mark_offset punctuator.Semicolon)))

-- what was made, or out of memory
abbrev pub kept : {X E : Type 0} → Result X E → Result X (Refusal SyntaxFault)
kept (Ok x) = Ok x
kept (Err error) = Err NoMemory
