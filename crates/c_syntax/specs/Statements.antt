-- The tree of a statement without the program's pointers.
use Rattle.std.specs.Prelude.{List, [], ◌∷◌, map, Vec}
use Rattle.std.specs.declared.alloc.Global.{Global}
use Rattle.std.specs.declared.boxed.Box.{Box}
use Rattle.std.specs.Option.{option_map}
use Rattle.c_syntax_spec.specs.Unit as tree
use Rattle.c_syntax.specs.Expressions.{expression_of, unboxed}
use Rattle.c_syntax.specs.Simples.{value_of, simple_of}
use Rattle.c_syntax.specs.declared.statement.Statement.{Statement, Statement-F, fold-Statement}
use Rattle.c_syntax.specs.declared.statement.Part.{Part, Part-F, fold-Part}
use Rattle.c_syntax.specs.declared.statement.Part.TheOpen as open_tree
use Rattle.c_syntax.specs.declared.statement.Group.{Group, Group-F, fold-Group}
use Rattle.c_syntax.specs.Locals.{locals_of, start_of, label_of}

-- one part of a block
pub data Piece : Type 0 where
  Declares : (locals : tree.Locals) → Piece
  States : (statement : tree.Statement) → Piece

-- lists of the program, and of the tree
abbrev pub parts_of : List Piece → tree.Parts
parts_of [] = tree.no_parts
parts_of (Declares locals ∷ rest) = tree.parts_local locals (parts_of rest)
parts_of (States statement ∷ rest) = tree.parts_statement statement (parts_of rest)

abbrev pub groups_of : List (List tree.Label × tree.Parts) → tree.Groups
groups_of [] = tree.no_groups
groups_of (group ∷ rest) = tree.groups group.0 group.1 (groups_of rest)

-- one level, whose parts are seen as trees already
abbrev pub part_step : Part-F Piece tree.Statement (List tree.Label × tree.Parts) → Piece
part_step (open_tree.Locals locals) = Declares (locals_of locals.value)
part_step (open_tree.Statement statement) = States statement.value

abbrev pub statement_step : Statement-F Piece tree.Statement (List tree.Label × tree.Parts) → tree.Statement
statement_step (open_tree.Block parts offset) = tree.Block (parts_of parts.items) offset
statement_step (open_tree.Empty offset) = tree.Empty offset
statement_step (open_tree.Perform simple) = tree.Perform (simple_of simple.value)
statement_step (open_tree.Break offset) = tree.Break offset
statement_step (open_tree.Continue offset) = tree.Continue offset
statement_step (open_tree.Return value offset) = tree.Return (option_map (λ x. value_of x.value) value) offset
statement_step (open_tree.If test body offset) = tree.If (expression_of test.value) body.value offset
statement_step (open_tree.IfElse test body otherwise offset) = tree.IfElse (expression_of test.value) body.value otherwise.value offset
statement_step (open_tree.While test body offset) = tree.While (expression_of test.value) body.value offset
statement_step (open_tree.Do body test offset) = tree.Do body.value (expression_of test.value) offset
statement_step (open_tree.For start test step body offset) =
    tree.For (start_of start.value) (option_map (λ x. expression_of x.value) test) (option_map (λ x. simple_of x.value) step) body.value offset
statement_step (open_tree.Switch test groups offset) = tree.Switch (expression_of test.value) (groups_of (unboxed groups)) offset

abbrev pub group_step : Group-F Piece tree.Statement (List tree.Label × tree.Parts) → List tree.Label × tree.Parts
group_step group = (map label_of group.labels.items, parts_of group.parts.items)

unfoldable pub statement_of : Statement → tree.Statement
statement_of = fold-Statement Piece tree.Statement (List tree.Label × tree.Parts) part_step statement_step group_step

unfoldable pub part_of : Part → Piece
part_of = fold-Part Piece tree.Statement (List tree.Label × tree.Parts) part_step statement_step group_step

unfoldable pub group_of : Group → List tree.Label × tree.Parts
group_of = fold-Group Piece tree.Statement (List tree.Label × tree.Parts) part_step statement_step group_step

-- the trees of lists of the program
abbrev pub parts_in : Vec Part Global → tree.Parts
parts_in parts = parts_of (map part_of parts.items)

abbrev pub groups_in : Vec (Box Group Global) Global → tree.Groups
groups_in groups = groups_of (map group_of (unboxed groups))
