-- Arguments and declared locals, one more at a time.
use Rattle.std.proofs.Common.{◌≡◌, ℕ, ◌+◌, ◌<◌, ◌≤◌, List, [], ◌∷◌, ◌++◌, length, map, drop, get_or, sym, ap, ◌∙◌}
use Rattle.std.specs.Prelude.{Bool, Ok}
use Rattle.std.specs.declared.alloc.Global.{Global}
use Rattle.std.specs.declared.boxed.Box.{Box}
use Rattle.std.proofs.lemmas.List.{drop_more, drop_all}
use Rattle.c_syntax_spec.specs.Expression as tree
use Rattle.c_syntax.specs.declared.expression.Expression.{Expression}
use Rattle.c_syntax.specs.Expressions.{expression_of}
use Rattle.c_syntax.specs.declared.statement.Local.{Local}
use Rattle.c_syntax.specs.Locals.{local_of}
use Rattle.c_types_spec.specs.Types.{CType}
use Rattle.c_types_spec.specs.Core.{Action}
use Rattle.c_types_spec.specs.Operands.{Valued}
use Rattle.c_types_spec.specs.Names.{State, bind}
use Rattle.c_types_spec.specs.Expressions.{value}
use Rattle.c_types_spec.specs.Statements.{arguments, declared_local, declared_locals}
use Rattle.c_types_expression.specs.Trees.{expressions_in, unboxed}

pub expressions-more : (list : List (Box Expression Global)) (i : ℕ) (d : Box Expression Global) → i < length list → expressions_in (drop i list) ≡ tree.expressions (expression_of (get_or list i d).value) (expressions_in (drop (i + 1) list))
expressions-more list i d h = ap (λ l. expressions_in l) (drop_more list i d h)

pub locals-more : (list : List (Box Local Global)) (i : ℕ) (d : Box Local Global) → i < length list → map local_of (unboxed (drop i list)) ≡ local_of (get_or list i d).value ∷ map local_of (unboxed (drop (i + 1) list))
locals-more list i d h = ap (λ l. map local_of (unboxed l)) (drop_more list i d h)

pub ruleset lists = (expressions-more, locals-more)

-- ---- one more argument, or local, after those so far

pub arguments-row : (list : List (Box Expression Global)) (i : ℕ) (item : Box Expression Global) (x : Expression) (done : List Valued) (st : State) → item ≡ get_or list i item → x ≡ item.value → i < length list
    → arguments (expressions_in (drop i list)) done st ≡ bind (value (expression_of x) st) (λ more. arguments (expressions_in (drop (i + 1) list)) (done ++ more.0 ∷ []) more.1)
unfolding arguments
arguments-row list i item x done st is same h =
    ap (λ l. arguments l done st) (expressions-more list i item h)
    ∙ ap (λ y. bind (value (expression_of y) st) (λ more. arguments (expressions_in (drop (i + 1) list)) (done ++ more.0 ∷ []) more.1)) (ap (λ (b : Box Expression Global). b.value) (sym is) ∙ sym same)

pub arguments-none : (list : List (Box Expression Global)) (i : ℕ) (done : List Valued) (st : State) → length list ≤ i → arguments (expressions_in (drop i list)) done st ≡ Ok (done, st)
unfolding arguments
arguments-none list i done st h = ap (λ l. arguments (expressions_in l) done st) (drop_all i list h)

pub locals-row : (list : List (Box Local Global)) (i : ℕ) (item : Box Local Global) (x : Local) (base : CType) (is_static : Bool) (done : List Action) (st : State) → item ≡ get_or list i item → x ≡ item.value → i < length list
    → declared_locals (map local_of (unboxed (drop i list))) base is_static done st
    ≡ bind (declared_local (local_of x) base is_static st) (λ more. declared_locals (map local_of (unboxed (drop (i + 1) list))) base is_static (done ++ more.0 ∷ []) more.1)
unfolding declared_locals
locals-row list i item x base is_static done st is same h =
    ap (λ l. declared_locals l base is_static done st) (locals-more list i item h)
    ∙ ap (λ y. bind (declared_local (local_of y) base is_static st) (λ more. declared_locals (map local_of (unboxed (drop (i + 1) list))) base is_static (done ++ more.0 ∷ []) more.1))
    (ap (λ (b : Box Local Global). b.value) (sym is) ∙ sym same)

pub locals-none : (list : List (Box Local Global)) (i : ℕ) (base : CType) (is_static : Bool) (done : List Action) (st : State) → length list ≤ i → declared_locals (map local_of (unboxed (drop i list))) base is_static done st ≡ Ok (done, st)
unfolding declared_locals
locals-none list i base is_static done st h = ap (λ l. declared_locals (map local_of (unboxed l)) base is_static done st) (drop_all i list h)

pub ruleset ends = (arguments-none, locals-none)
