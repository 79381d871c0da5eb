-- Statements that are read by functions of their own.
use Rattle.std.specs.Prelude.{◌≡◌, ℕ, Bool, true, false}
use Rattle.std.specs.declared.alloc.Global.{Global}
use Rattle.std.specs.declared.boxed.Box.{Box}
use Rattle.c_syntax_spec.specs.Unit as tree
use Rattle.c_syntax.specs.declared.expression.Expression.{Expression}
use Rattle.c_syntax.specs.declared.statement.Statement.{Statement}
use Rattle.c_syntax.specs.declared.statement.Statement.TheVariants as made

abbrev pub IsIfElse : Statement → Type 0
IsIfElse x =
    (test : Box Expression Global) × (first : Box Statement Global) × (second : Box Statement Global) × (offset : ℕ) × (x ≡ made.IfElse test first second offset)

-- a statement without statements in it
abbrev pub is_plain : tree.Statement → Bool
is_plain (tree.Empty offset) = true
is_plain (tree.Perform simple) = true
is_plain (tree.Break offset) = true
is_plain (tree.Continue offset) = true
is_plain (tree.Return value offset) = true
is_plain other = false
