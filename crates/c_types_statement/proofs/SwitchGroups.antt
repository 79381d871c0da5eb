-- A group of a `switch` by its parts, and groups one at a time.
use Rattle.std.proofs.Common.{◌≡◌, ℕ, zero, suc, ◌+◌, ◌<◌, ◌≤◌, List, [], ◌∷◌, ◌++◌, length, map, drop, get_or, true, false, refl, ap, subst, sym, ◌∙◌, arith}
use Rattle.std.specs.Prelude.{ℤ, Bool, Option, Vec, Result, Ok, Err}
use Rattle.std.specs.declared.alloc.Global.{Global}
use Rattle.std.specs.declared.boxed.Box.{Box}
use Rattle.std.proofs.lemmas.List.{drop_more, drop_all}
use Rattle.c_syntax_spec.specs.Unit as tree
use Rattle.c_syntax.specs.declared.expression.Expression.{Expression}
use Rattle.c_syntax.specs.declared.statement.Group.{Group, out-Group, roll-out-Group}
use Rattle.c_syntax.specs.declared.statement.Part.{Part}
use Rattle.c_syntax.specs.declared.statement.Statement.{Statement}
use Rattle.c_syntax.specs.declared.statement.Statement.TheVariants as made
use Rattle.c_syntax.specs.Expressions.{expression_of}
use Rattle.c_syntax.specs.Locals.{label_of}
use Rattle.c_syntax.specs.Statements.{statement_of, part_of, parts_of, group_of, groups_of, parts_in}
use Rattle.c_syntax.proofs.StatementViews.{Group-view, Block-view, Switch-view}
use Rattle.c_types_spec.specs.declared.Scalar.{Scalar}
use Rattle.c_types_spec.specs.Core.{Action}
use Rattle.c_types_spec.specs.Names.{State, Fault, bind, give, rule}
use Rattle.c_types_spec.specs.Statements.{Context, is_end, groups_in, switch_groups}
use Rattle.c_types_expression.specs.Trees.{unboxed}
use Rattle.c_types_statement.specs.Groups.{SoFar, group, ended, one_group}

pub group-parts : (x : Group) → group_of x ≡ (map label_of (out-Group x).labels.items, parts_in (out-Group x).parts)
group-parts x =
    let g = out-Group x in
    subst (λ z. group_of z ≡ (map label_of g.labels.items, parts_in g.parts)) (roll-out-Group x) (Group-view g.labels g.parts)

pub ruleset by_parts = (group-parts)

pub groups-more : (list : List (Box Group Global)) (i : ℕ) (d : Box Group Global) → i < length list
    → groups_of (map group_of (unboxed (drop i list))) ≡ tree.groups (group_of (get_or list i d).value).0 (group_of (get_or list i d).value).1 (groups_of (map group_of (unboxed (drop (i + 1) list))))
groups-more list i d h = ap (λ l. groups_of (map group_of (unboxed l))) (drop_more list i d h)

-- whether a group is the last
pub none-left : (list : List (Box Group Global)) (next : ℕ) → length list ≤ next → is_end (groups_of (map group_of (unboxed (drop next list)))) ≡ true
none-left list next h = ap (λ l. is_end (groups_of (map group_of (unboxed l)))) (drop_all next list h)

pub some-left : (list : List (Box Group Global)) (next : ℕ) → next < length list → is_end (groups_of (map group_of (unboxed (drop next list)))) ≡ false
some-left [] next h = absurd (omega (arith, h))
some-left (x ∷ list) zero h = refl
some-left (x ∷ list) (suc next) h = some-left list next (omega (arith, h))

pub ruleset last = (none-left, some-left)

-- one more group

ended-assoc : {B C : Type 0} (e : Result (Unit {0}) Fault) (st : State) (x : B) (k : B → State → Result (C × State) Fault)
    → bind (rule e st) (λ u. k x u.1) ≡ bind (bind (rule e st) (λ u. give x u.1)) (λ m. k m.0 m.1)
ended-assoc (Ok u) st x k = refl
ended-assoc (Err fault) st x k = refl

group-assoc : {A B C : Type 0} (r : Result (A × State) Fault) (e : Result (Unit {0}) Fault) (g : A → B) (k : B → State → Result (C × State) Fault)
    → bind r (λ m. bind (rule e m.1) (λ u. k (g m.0) u.1)) ≡ bind (bind r (λ m. bind (rule e m.1) (λ u. give (g m.0) u.1))) (λ m. k m.0 m.1)
group-assoc (Ok m) e g k = ended-assoc e m.1 (g m.0) k
group-assoc (Err fault) e g k = refl

after-group : SoFar → List (Option ℤ) × Action → SoFar
after-group so_far made = record { seen = so_far.seen ++ made.0; done = so_far.done ++ made ∷ [] }

groups-one : (given : List tree.Label × tree.Parts) (rest : tree.Groups) (context : Context) (type : Scalar) (so_far : SoFar) (st : State)
    → switch_groups (tree.groups given.0 given.1 rest) context type so_far.seen so_far.done st
    ≡ bind (one_group given (is_end rest) context type so_far st) (λ more. switch_groups rest context type more.0.seen more.0.done more.1)
unfolding switch_groups group ended one_group after-group
groups-one given rest context type so_far st =
    group-assoc (group given context type so_far.seen st) (ended given (is_end rest)) (λ made. after-group so_far made) (λ more st. switch_groups rest context type more.seen more.done st)

pub groups-row : (list : List (Box Group Global)) (i : ℕ) (item : Box Group Global) (given : Group) (is_last : Bool) (context : Context) (type : Scalar) (so_far : SoFar) (st : State)
    → item ≡ get_or list i item → given ≡ item.value → is_last ≡ is_end (groups_of (map group_of (unboxed (drop (i + 1) list)))) → i < length list
    → switch_groups (groups_of (map group_of (unboxed (drop i list)))) context type so_far.seen so_far.done st
    ≡ bind (one_group (group_of given) is_last context type so_far st) (λ more. switch_groups (groups_of (map group_of (unboxed (drop (i + 1) list)))) context type more.0.seen more.0.done more.1)
groups-row list i item given is_last context type so_far st is same last h =
    let rest = groups_of (map group_of (unboxed (drop (i + 1) list))) in
    ap (λ l. switch_groups l context type so_far.seen so_far.done st) (groups-more list i item h)
    ∙ groups-one (group_of (get_or list i item).value) rest context type so_far st
    ∙ ap (λ (b : Box Group Global). bind (one_group (group_of b.value) (is_end rest) context type so_far st) (λ more. switch_groups rest context type more.0.seen more.0.done more.1)) (sym is)
    ∙ ap (λ (g : Group). bind (one_group (group_of g) (is_end rest) context type so_far st) (λ more. switch_groups rest context type more.0.seen more.0.done more.1)) (sym same)
    ∙ ap (λ b. bind (one_group (group_of given) b context type so_far st) (λ more. switch_groups rest context type more.0.seen more.0.done more.1)) (sym last)

pub groups-none : (list : List (Box Group Global)) (i : ℕ) (context : Context) (type : Scalar) (seen : List (Option ℤ)) (done : List (List (Option ℤ) × Action)) (st : State) → length list ≤ i
    → switch_groups (groups_of (map group_of (unboxed (drop i list)))) context type seen done st ≡ Ok (groups_in done, st)
unfolding switch_groups
groups-none list i context type seen done st h = ap (λ l. switch_groups (groups_of (map group_of (unboxed l))) context type seen done st) (drop_all i list h)

pub ruleset rows = (groups-none)

-- ---- statements of lists

pub block-read : (x : Statement) (parts : Vec Part Global) (slice : List Part) (offset : ℕ) → x ≡ made.Block parts offset → slice ≡ parts.items
    → tree.Block (parts_of (map part_of slice)) offset ≡ statement_of x
block-read x parts slice offset e s = ap (λ l. tree.Block (parts_of (map part_of l)) offset) s ∙ sym (ap statement_of e ∙ Block-view parts offset)

pub switch-read : (x : Statement) (test : Box Expression Global) (given : Expression) (groups : Vec (Box Group Global) Global) (slice : List (Box Group Global)) (offset : ℕ)
    → x ≡ made.Switch test groups offset → given ≡ test.value → slice ≡ groups.items
    → tree.Switch (expression_of given) (groups_of (map group_of (unboxed slice))) offset ≡ statement_of x
switch-read x test given groups slice offset e g s =
    ap (λ y. tree.Switch (expression_of y) (groups_of (map group_of (unboxed slice))) offset) g
    ∙ ap (λ l. tree.Switch (expression_of test.value) (groups_of (map group_of (unboxed l))) offset) s
    ∙ sym (ap statement_of e ∙ Switch-view test groups offset)
