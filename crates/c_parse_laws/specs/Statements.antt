-- Parsers of statements (ISO C11, 6.8). `fuel` is how many constructs may still open inside.
use Rattle.std.specs.Prelude.{ℕ, zero, suc, ◌&&◌, ◌||◌, not, Bool, true, false, if◌then◌else◌, List, [], ◌∷◌, Option, Some, None}
use denote.Enum.Bare.{sameb}
use Rattle.c_token_spec.specs.declared.token.Keyword.{Keyword}
use Rattle.c_token_spec.specs.declared.token.Keyword.TheVariants.{Break, Case, Continue, Default, Do, Else, For, If, Return, Switch, While}
use Rattle.c_token_spec.specs.contracts.token.Keyword.{the_type}
use Rattle.c_token_spec.specs.declared.token.Punctuator.TheVariants as punctuator
use Rattle.c_token_spec.specs.Lexical.{Placed, Token, Name as name_token, Word, Number as number_token, Character as character_token, Mark}
use Rattle.c_syntax_spec.specs.Expression as tree
use Rattle.c_syntax_spec.specs.Unit as unit
use Rattle.c_parse_spec.specs.declared.Role.{Role}
use Rattle.c_parse_spec.specs.declared.Role.TheVariants.{Nothing, OperandEnd}
use Rattle.c_parse_spec.specs.Leaves.{plain, expected, opens}
use Rattle.c_parse_spec.specs.Statements.{value_end, simple_end, statement_end, takes_else}
use Rattle.exact_read.specs.Reading.{Parser}
use Rattle.exact_read.specs.Grammar.{read_then, read_map, read_many, read_nothing}
use Rattle.c_parse_laws.specs.Classes.{is_mark, mark_offset}
use Rattle.c_parse_laws.specs.Parsers.{Parsers, token, following, before, choose}
use Rattle.c_parse_laws.specs.Fuel.{limit_exceeded}
use Rattle.c_parse_laws.specs.Values.{read_value, read_simple}
use Rattle.c_parse_laws.specs.Declarations.{read_locals, begins_locals}

-- the token is this keyword
abbrev pub is_keyword : Keyword → Token → Bool
is_keyword wanted (Word keyword) = sameb the_type keyword wanted
is_keyword wanted (name_token spelling) = false
is_keyword wanted (number_token value type) = false
is_keyword wanted (character_token value) = false
is_keyword wanted (Mark punctuator) = false

abbrev pub keyword_offset : Keyword → Placed → Option ℕ
keyword_offset wanted next = if is_keyword wanted next.token then Some next.offset else None

abbrev pub Statements : Type 0
Statements = (depth : ℕ) → Parser Placed Role unit.Statement

-- a test in brackets
abbrev pub read_test : Parsers → (depth : ℕ) → Parser Placed Role tree.Expression
read_test inner depth =
    following (token Nothing (opens (suc depth)) (mark_offset punctuator.LeftParenthesis)) (λ _. before (inner.conditional (suc depth) 0) (token OperandEnd (expected OperandEnd) (mark_offset punctuator.RightParenthesis)))

-- a part of a block: a declaration or a statement. No part begins with these tokens.
abbrev pub ends_parts : Token → Bool
ends_parts token = is_mark punctuator.RightBrace token || is_keyword Case token || is_keyword Default token || is_keyword Else token

pub data Part : Type 0 where
  PartLocals : (locals : unit.Locals) → Part
  PartStatement : (statement : unit.Statement) → Part

abbrev pub with_part : Part → unit.Parts → unit.Parts
with_part (PartLocals locals) parts = unit.parts_local locals parts
with_part (PartStatement statement) parts = unit.parts_statement statement parts

abbrev pub parts_of : List Part → unit.Parts
parts_of [] = unit.no_parts
parts_of (part ∷ parts) = with_part part (parts_of parts)

abbrev pub read_part : (names : List (List ℕ)) → Parsers → Statements → (depth : ℕ) → Parser Placed Role Part
read_part names inner statements depth = choose (begins_locals names) (read_map (λ locals. PartLocals locals) (read_locals names inner depth)) (read_map (λ statement. PartStatement statement) (statements depth))

-- parts, as long as a token comes next that can begin one
abbrev pub read_parts : (names : List (List ℕ)) → Parsers → Statements → (depth : ℕ) → Parser Placed Role unit.Parts
read_parts names inner statements depth = read_map parts_of (read_many (λ (_ : Unit {0}) next. not (ends_parts next.token)) (λ _. read_part names inner statements depth) (λ _ _. tt {0}) (tt {0}))

abbrev pub read_block : (names : List (List ℕ)) → Parsers → Statements → (depth : ℕ) → Parser Placed Role unit.Statement
read_block names inner statements depth =
    following (token Nothing (opens (suc depth)) (mark_offset punctuator.LeftBrace)) (λ offset. read_map (λ parts. unit.Block parts offset) (before (read_parts names inner statements (suc depth)) (token Nothing plain (mark_offset punctuator.RightBrace))))

-- an `else` belongs to the last `if` that can take it
abbrev pub read_if : Parsers → Statements → (depth : ℕ) → Parser Placed Role unit.Statement
read_if inner statements depth =
    following (token Nothing (opens (suc depth)) (keyword_offset If)) (λ offset. following (read_test inner (suc depth)) (λ x. following (statements (suc depth))
    (λ body. choose (λ next. not (takes_else body) && is_keyword Else next)
    (following (token Nothing (opens (suc (suc depth))) (keyword_offset Else)) (λ _. read_map (λ otherwise. unit.IfElse x body otherwise offset) (statements (suc (suc depth)))))
    (read_nothing (unit.If x body offset)))))

abbrev pub read_while : Parsers → Statements → (depth : ℕ) → Parser Placed Role unit.Statement
read_while inner statements depth =
    following (token Nothing (opens (suc depth)) (keyword_offset While)) (λ offset. following (read_test inner (suc depth)) (λ x. read_map (λ body. unit.While x body offset) (statements (suc depth))))

abbrev pub read_do : Parsers → Statements → (depth : ℕ) → Parser Placed Role unit.Statement
read_do inner statements depth =
    following (token Nothing (opens (suc depth)) (keyword_offset Do)) (λ offset. following (statements (suc depth)) (λ body. following (token Nothing plain (keyword_offset While))
    (λ _. read_map (λ x. unit.Do body x offset) (before (read_test inner (suc depth)) (token Nothing plain (mark_offset punctuator.Semicolon))))))

-- how a `for` begins, its test and its step, each with what ends it
abbrev pub read_for_start : (names : List (List ℕ)) → Parsers → (depth : ℕ) → Parser Placed Role unit.ForStart
read_for_start names inner depth =
    choose (is_mark punctuator.Semicolon) (read_map (λ _. unit.StartsEmpty) (token Nothing plain (mark_offset punctuator.Semicolon)))
    (choose (begins_locals names) (read_map (λ locals. unit.StartsLocals locals) (read_locals names inner depth))
    (read_map (λ made. unit.StartsSimple made.0) (read_then (read_simple inner depth) (λ x. token (simple_end x) (expected (simple_end x)) (mark_offset punctuator.Semicolon)))))

abbrev pub read_for_test : Parsers → (depth : ℕ) → Parser Placed Role (Option tree.Expression)
read_for_test inner depth =
    choose (is_mark punctuator.Semicolon) (read_map (λ _. None) (token Nothing plain (mark_offset punctuator.Semicolon)))
    (read_map (λ x. Some x) (before (inner.conditional depth 0) (token OperandEnd (expected OperandEnd) (mark_offset punctuator.Semicolon))))

abbrev pub read_for_step : Parsers → (depth : ℕ) → Parser Placed Role (Option unit.Simple)
read_for_step inner depth =
    choose (is_mark punctuator.RightParenthesis) (read_map (λ _. None) (token Nothing plain (mark_offset punctuator.RightParenthesis)))
    (read_map (λ made. Some made.0) (read_then (read_simple inner depth) (λ x. token (simple_end x) (expected (simple_end x)) (mark_offset punctuator.RightParenthesis))))

abbrev pub read_for : (names : List (List ℕ)) → Parsers → Statements → (depth : ℕ) → Parser Placed Role unit.Statement
read_for names inner statements depth =
    following (token Nothing (opens (suc depth)) (keyword_offset For)) (λ offset. following (token Nothing (opens (suc (suc depth))) (mark_offset punctuator.LeftParenthesis))
    (λ _. read_map (λ made. unit.For made.0 made.1.0 made.1.1.0 made.1.1.1 offset)
    (read_then (read_for_start names inner (suc (suc depth))) (λ _. read_then (read_for_test inner (suc (suc depth))) (λ _. read_then (read_for_step inner (suc (suc depth))) (λ _. statements (suc depth)))))))

-- labels of a `switch`
abbrev pub begins_label : Token → Bool
begins_label token = is_keyword Case token || is_keyword Default token

abbrev pub read_label : Parsers → (depth : ℕ) → Parser Placed Role unit.Label
read_label inner depth =
    choose (is_keyword Case)
    (following (token Nothing plain (keyword_offset Case)) (λ offset. read_map (λ x. unit.Case x offset) (before (inner.conditional depth 0) (token OperandEnd (expected OperandEnd) (mark_offset punctuator.Colon)))))
    (following (token Nothing plain (keyword_offset Default)) (λ offset. read_map (λ _. unit.Default offset) (token Nothing plain (mark_offset punctuator.Colon))))

-- the contents of a `switch`: labels and parts, of which the first is a label
pub data Element : Type 0 where
  ElementLabel : (label : unit.Label) → Element
  ElementPart : (part : Part) → Element

abbrev pub elements_start : (had_label : Bool) → Placed → Bool
elements_start true next = begins_label next.token || not (ends_parts next.token)
elements_start false next = begins_label next.token

abbrev pub read_element : (names : List (List ℕ)) → Parsers → Statements → (depth : ℕ) → (had_label : Bool) → Parser Placed Role Element
read_element names inner statements depth true = choose begins_label (read_map (λ label. ElementLabel label) (read_label inner depth)) (read_map (λ part. ElementPart part) (read_part names inner statements depth))
read_element names inner statements depth false = read_map (λ label. ElementLabel label) (read_label inner depth)

-- labels, the parts after them, and the groups after those
pub record Collected : Type 0 where
  pub labels : List unit.Label
  pub parts : unit.Parts
  pub groups : unit.Groups

-- a group, if any label begins one
abbrev pub group_of : List unit.Label → unit.Parts → unit.Groups → unit.Groups
group_of [] parts following = following
group_of (label ∷ labels) parts following = unit.groups (label ∷ labels) parts following

-- a part before labels begins no group of theirs; before parts it belongs to theirs
abbrev pub before_part : Part → Collected → Collected
before_part part collected = before_labels part collected.labels collected.parts collected.groups
  where
    before_labels : Part → List unit.Label → unit.Parts → unit.Groups → Collected
    before_labels part [] parts following = record { labels = []; parts = with_part part parts; groups = following }
    before_labels part (label ∷ labels) parts following = record { labels = []; parts = with_part part unit.no_parts; groups = unit.groups (label ∷ labels) parts following }

abbrev pub collect : List Element → Collected
collect [] = record { labels = []; parts = unit.no_parts; groups = unit.no_groups }
collect (ElementLabel label ∷ elements) = record { labels = label ∷ (collect elements).labels; parts = (collect elements).parts; groups = (collect elements).groups }
collect (ElementPart part ∷ elements) = before_part part (collect elements)

abbrev pub groups_of : List Element → unit.Groups
groups_of elements = group_of (collect elements).labels (collect elements).parts (collect elements).groups

abbrev pub read_groups : (names : List (List ℕ)) → Parsers → Statements → (depth : ℕ) → Parser Placed Role unit.Groups
read_groups names inner statements depth = read_map groups_of (read_many elements_start (read_element names inner statements depth) (λ _ _. true) false)

abbrev pub read_switch : (names : List (List ℕ)) → Parsers → Statements → (depth : ℕ) → Parser Placed Role unit.Statement
read_switch names inner statements depth =
    following (token Nothing (opens (suc depth)) (keyword_offset Switch)) (λ offset. following (read_test inner (suc depth)) (λ x. following (token Nothing (opens (suc (suc depth))) (mark_offset punctuator.LeftBrace))
    (λ _. read_map (λ groups. unit.Switch x groups offset) (before (read_groups names inner statements (suc (suc depth))) (token Nothing plain (mark_offset punctuator.RightBrace))))))

-- a word and its `;`
abbrev pub read_jump : (word : Keyword) → (made : (offset : ℕ) → unit.Statement) → Parser Placed Role unit.Statement
read_jump word made = read_map made (before (token Nothing plain (keyword_offset word)) (token Nothing plain (mark_offset punctuator.Semicolon)))

abbrev pub read_return : Parsers → (depth : ℕ) → Parser Placed Role unit.Statement
read_return inner depth =
    following (token Nothing plain (keyword_offset Return)) (λ offset. choose (is_mark punctuator.Semicolon)
    (read_map (λ _. unit.Return None offset) (token Nothing plain (mark_offset punctuator.Semicolon)))
    (read_map (λ made. unit.Return (Some made.0) offset) (read_then (read_value inner depth 0) (λ value. token (value_end value) (expected (value_end value)) (mark_offset punctuator.Semicolon)))))

-- an expression statement
abbrev pub read_perform : Parsers → (depth : ℕ) → Parser Placed Role unit.Statement
read_perform inner depth =
    read_map (λ made. unit.Perform made.0) (read_then (read_simple inner depth) (λ x. token (statement_end x) (expected (statement_end x)) (mark_offset punctuator.Semicolon)))

-- a statement by its first token, where those inside are read by others
abbrev pub read_statement_around : (names : List (List ℕ)) → Parsers → Statements → (depth : ℕ) → Parser Placed Role unit.Statement
read_statement_around names inner statements depth =
    choose (is_mark punctuator.LeftBrace) (read_block names inner statements depth)
    (choose (is_mark punctuator.Semicolon) (read_map (λ offset. unit.Empty offset) (token Nothing plain (mark_offset punctuator.Semicolon)))
    (choose (is_keyword If) (read_if inner statements depth)
    (choose (is_keyword Switch) (read_switch names inner statements depth)
    (choose (is_keyword While) (read_while inner statements depth)
    (choose (is_keyword Do) (read_do inner statements depth)
    (choose (is_keyword For) (read_for names inner statements depth)
    (choose (is_keyword Continue) (read_jump Continue (λ offset. unit.Continue offset))
    (choose (is_keyword Break) (read_jump Break (λ offset. unit.Break offset))
    (choose (is_keyword Return) (read_return inner depth)
    (read_perform inner depth))))))))))

unfoldable pub read_statement : (names : List (List ℕ)) → Parsers → (fuel : ℕ) → Statements
read_statement names inner zero depth = limit_exceeded
read_statement names inner (suc fuel) depth = read_statement_around names inner (read_statement names inner fuel) depth
