-- The tree of each statement, by the trees of its parts.
use Rattle.std.proofs.Common.{◌≡◌, ℕ, map, ap, sym, refl, ◌∙◌, Option, Vec}
use Rattle.std.specs.Option.{option_map}
use Rattle.std.specs.declared.alloc.Global.{Global}
use Rattle.std.specs.declared.boxed.Box.{Box}
use Rattle.c_syntax_spec.specs.Unit as tree
use Rattle.c_syntax.specs.declared.expression.Expression.{Expression}
use Rattle.c_syntax.specs.declared.simple.Simple.{Simple}
use Rattle.c_syntax.specs.declared.simple.Value.{Value}
use Rattle.c_syntax.specs.Expressions.{expression_of}
use Rattle.c_syntax.specs.Simples.{value_of, simple_of}
use Rattle.c_syntax.specs.declared.statement.ForStart.{ForStart}
use Rattle.c_syntax.specs.declared.statement.Statement.{Statement, fold-roll-Statement}
use Rattle.c_syntax.specs.declared.statement.Part.TheOpen as layer
use Rattle.c_syntax.specs.declared.statement.Statement.TheVariants as made
use Rattle.c_syntax.specs.declared.statement.Part.{Part, fold-roll-Part}
use Rattle.c_syntax.specs.declared.statement.Part.TheVariants as part_made
use Rattle.c_syntax.specs.declared.statement.Group.{Group, roll-Group, fold-roll-Group}
use Rattle.c_syntax.specs.declared.statement.Label.{Label}
use Rattle.c_syntax.specs.declared.statement.Locals.{Locals}
use Rattle.c_syntax.proofs.Views.{unboxed-mapped}
use Rattle.c_syntax.specs.Locals.{start_of, locals_of, label_of}
use Rattle.c_syntax.specs.Statements.{statement_of, part_of, group_of, parts_of, groups_of, parts_in, groups_in, Declares, States, Piece, part_step, statement_step, group_step}

pub Declared-view : (locals : Box Locals Global) → part_of (part_made.Locals locals) ≡ Declares (locals_of locals.value)
unfolding statement_of part_of group_of
Declared-view locals = ap part_of (sym (part_made.rolls-Locals locals)) ∙ fold-roll-Part _ _ _ part_step statement_step group_step (layer.Locals locals)

pub Stated-view : (statement : Box Statement Global) → part_of (part_made.Statement statement) ≡ States (statement_of statement.value)
unfolding statement_of part_of group_of
Stated-view statement = ap part_of (sym (part_made.rolls-Statement statement)) ∙ fold-roll-Part _ _ _ part_step statement_step group_step (layer.Statement statement)

pub Group-view : (labels : Vec Label Global) (parts : Vec Part Global) → group_of (roll-Group (record { labels = labels; parts = parts })) ≡ (map label_of labels.items, parts_in parts)
unfolding statement_of part_of group_of
Group-view labels parts = fold-roll-Group _ _ _ part_step statement_step group_step (record { labels = labels; parts = parts })

pub Block-view : (parts : Vec Part Global) (offset : ℕ) → statement_of (made.Block parts offset) ≡ tree.Block (parts_in parts) offset
unfolding statement_of part_of group_of
Block-view parts offset = ap statement_of (sym (made.rolls-Block parts offset)) ∙ fold-roll-Statement _ _ _ part_step statement_step group_step (layer.Block parts offset)

pub Empty-view : (offset : ℕ) → statement_of (made.Empty offset) ≡ tree.Empty offset
unfolding statement_of part_of group_of
Empty-view offset = ap statement_of (sym (made.rolls-Empty offset)) ∙ fold-roll-Statement _ _ _ part_step statement_step group_step (layer.Empty offset)

pub Perform-view : (simple : Box Simple Global) → statement_of (made.Perform simple) ≡ tree.Perform (simple_of simple.value)
unfolding statement_of part_of group_of
Perform-view simple = ap statement_of (sym (made.rolls-Perform simple)) ∙ fold-roll-Statement _ _ _ part_step statement_step group_step (layer.Perform simple)

pub Break-view : (offset : ℕ) → statement_of (made.Break offset) ≡ tree.Break offset
unfolding statement_of part_of group_of
Break-view offset = ap statement_of (sym (made.rolls-Break offset)) ∙ fold-roll-Statement _ _ _ part_step statement_step group_step (layer.Break offset)

pub Continue-view : (offset : ℕ) → statement_of (made.Continue offset) ≡ tree.Continue offset
unfolding statement_of part_of group_of
Continue-view offset = ap statement_of (sym (made.rolls-Continue offset)) ∙ fold-roll-Statement _ _ _ part_step statement_step group_step (layer.Continue offset)

pub Return-view : (value : Option (Box Value Global)) (offset : ℕ) → statement_of (made.Return value offset) ≡ tree.Return (option_map (λ x. value_of x.value) value) offset
unfolding statement_of part_of group_of
Return-view value offset = ap statement_of (sym (made.rolls-Return value offset)) ∙ fold-roll-Statement _ _ _ part_step statement_step group_step (layer.Return value offset)

pub If-view : (test : Box Expression Global) (body : Box Statement Global) (offset : ℕ) → statement_of (made.If test body offset) ≡ tree.If (expression_of test.value) (statement_of body.value) offset
unfolding statement_of part_of group_of
If-view test body offset = ap statement_of (sym (made.rolls-If test body offset)) ∙ fold-roll-Statement _ _ _ part_step statement_step group_step (layer.If test body offset)

pub IfElse-view : (test : Box Expression Global) (body : Box Statement Global) (otherwise : Box Statement Global) (offset : ℕ) → statement_of (made.IfElse test body otherwise offset) ≡ tree.IfElse (expression_of test.value) (statement_of body.value) (statement_of otherwise.value) offset
unfolding statement_of part_of group_of
IfElse-view test body otherwise offset = ap statement_of (sym (made.rolls-IfElse test body otherwise offset)) ∙ fold-roll-Statement _ _ _ part_step statement_step group_step (layer.IfElse test body otherwise offset)

pub While-view : (test : Box Expression Global) (body : Box Statement Global) (offset : ℕ) → statement_of (made.While test body offset) ≡ tree.While (expression_of test.value) (statement_of body.value) offset
unfolding statement_of part_of group_of
While-view test body offset = ap statement_of (sym (made.rolls-While test body offset)) ∙ fold-roll-Statement _ _ _ part_step statement_step group_step (layer.While test body offset)

pub Do-view : (body : Box Statement Global) (test : Box Expression Global) (offset : ℕ) → statement_of (made.Do body test offset) ≡ tree.Do (statement_of body.value) (expression_of test.value) offset
unfolding statement_of part_of group_of
Do-view body test offset = ap statement_of (sym (made.rolls-Do body test offset)) ∙ fold-roll-Statement _ _ _ part_step statement_step group_step (layer.Do body test offset)

pub For-view : (start : Box ForStart Global) (test : Option (Box Expression Global)) (step : Option (Box Simple Global)) (body : Box Statement Global) (offset : ℕ) → statement_of (made.For start test step body offset) ≡ tree.For (start_of start.value) (option_map (λ x. expression_of x.value) test) (option_map (λ x. simple_of x.value) step) (statement_of body.value) offset
unfolding statement_of part_of group_of
For-view start test step body offset = ap statement_of (sym (made.rolls-For start test step body offset)) ∙ fold-roll-Statement _ _ _ part_step statement_step group_step (layer.For start test step body offset)

pub Switch-view : (test : Box Expression Global) (groups : Vec (Box Group Global) Global) (offset : ℕ) → statement_of (made.Switch test groups offset) ≡ tree.Switch (expression_of test.value) (groups_in groups) offset
unfolding statement_of part_of group_of
Switch-view test groups offset = ap statement_of (sym (made.rolls-Switch test groups offset)) ∙ fold-roll-Statement _ _ _ part_step statement_step group_step (layer.Switch test groups offset) ∙ ap (λ l. tree.Switch (expression_of test.value) (groups_of l) offset) (unboxed-mapped _ group_of (λ b. refl) groups.items)

pub ruleset statement_views = (Declared-view, Stated-view, Group-view, Block-view, Empty-view, Perform-view, Break-view, Continue-view, Return-view, If-view, IfElse-view, While-view, Do-view, For-view, Switch-view)
