-- Members and constants of enumerations, one row at a time.
use Rattle.std.proofs.Common.{◌≡◌, ℕ, ◌+◌, ◌<◌, ◌≤◌, List, [], ◌∷◌, length, drop, get_or, refl, sym, ap, ◌∙◌}
use Rattle.std.specs.Prelude.{ℤ, pos, ◌+ℤ◌, int_lt, ◌||◌, Bool, Option, Result, Ok, Err}
use Rattle.std.specs.declared.alloc.Global.{Global}
use Rattle.std.specs.declared.boxed.Box.{Box}
use Rattle.std.proofs.lemmas.List.{drop_all}
use Rattle.c_syntax_spec.specs.Expression as tree
use Rattle.c_syntax.specs.declared.expression.Constant.{Constant}
use Rattle.c_syntax.specs.declared.expression.Member.{Member}
use Rattle.c_syntax.specs.Expressions.{constant_before, constant_of, member_of}
use Rattle.c_types_spec.specs.Types.{Layout}
use Rattle.c_types_spec.specs.Names.{State, Fault, Typing, bind, give, ◌>>=◌, ◌>>◌}
use Rattle.c_types_spec.specs.Declarations.{enumerator}
use Rattle.c_types_spec.specs.Expressions.{specifiers, member_declarators, members, enumerators}
use Rattle.attempt.specs.declared.refusal.Refusal.{Refusal}
use Rattle.attempt.specs.declared.refusal.Refusal.TheVariants as refusal
use Rattle.c_types_core.specs.declared.fault.TypeFault.{TypeFault}
use Rattle.c_types_core.specs.declared.fault.TypeFault.TheVariants.{At}
use Rattle.c_types_scope.specs.declared.state.State.{State as Program}
use Rattle.c_types_scope.specs.States.{Runs}
use Rattle.c_types_expression.specs.Trees.{members_in, constants_in, constant_value, member_row, next_constant}
use Rattle.c_types_expression.proofs.Parts.{members-more, constants-more}
use Rattle.c_types_expression.proofs.Values.{enumerators-value}

bind-assoc : {A B C : Type 0} (r : Result A Fault) (f : A → Result B Fault) (g : B → Result C Fault) → bind r (λ x. bind (f x) g) ≡ bind (bind r f) g
bind-assoc (Ok x) f g = refl
bind-assoc (Err fault) f g = refl

members-row : (row : tree.Specifiers × tree.Declarators) (rest : tree.Members) (layout : Layout) (st : State) → members (tree.members row.0 row.1 rest) layout st ≡ (member_row row layout >>= (λ more. members rest more)) st
unfolding members
members-row row rest layout st = bind-assoc (specifiers row.0 st) (λ made. member_declarators row.1 made.0 layout made.1) (λ made. members rest made.0 made.1)

pub members-rows : (list : List (Box Member Global)) (i : ℕ) (d : Box Member Global) (layout : Layout) (st : State) → i < length list
    → members (members_in (drop i list)) layout st ≡ (member_row (member_of (get_or list i d).value) layout >>= (λ more. members (members_in (drop (i + 1) list)) more)) st
members-rows list i d layout st h = ap (λ l. members l layout st) (members-more list i d h) ∙ members-row (member_of (get_or list i d).value) (members_in (drop (i + 1) list)) layout st

members-by : (list : List (Box Member Global)) (i : ℕ) (item : Box Member Global) (member : Member) (layout : Layout) (st : State) (made : Result (Layout × State) Fault)
    → item ≡ get_or list i item → member ≡ item.value → i < length list → member_row (member_of member) layout st ≡ made
    → members (members_in (drop i list)) layout st ≡ bind made (λ more. members (members_in (drop (i + 1) list)) more.0 more.1)
members-by list i item member layout st made is same h e =
    members-rows list i item layout st h
    ∙ ap (λ (r : Result (Layout × State) Fault). bind r (λ more. members (members_in (drop (i + 1) list)) more.0 more.1))
    (ap (λ (b : Box Member Global). member_row (member_of b.value) layout st) (sym is) ∙ ap (λ (m : Member). member_row (member_of m) layout st) (sym same) ∙ e)

-- one more row
pub members-next : (list : List (Box Member Global)) (i : ℕ) (item : Box Member Global) (member : Member) (layout more : Layout) (st next : State) (whole : Result (Layout × State) Fault)
    → item ≡ get_or list i item → member ≡ item.value → i < length list → member_row (member_of member) layout st ≡ Ok (more, next)
    → members (members_in (drop i list)) layout st ≡ whole → members (members_in (drop (i + 1) list)) more next ≡ whole
members-next list i item member layout more st next whole is same h e all = sym (members-by list i item member layout st (Ok (more, next)) is same h e) ∙ all

-- a fault of a row is one of all
pub members-failed : (list : List (Box Member Global)) (i : ℕ) (item : Box Member Global) (member : Member) (layout : Layout) (st : State) (whole : Result (Layout × State) Fault) (fault : Refusal TypeFault) (view : Unit {0} → Layout) (after : Program)
    → item ≡ get_or list i item → member ≡ item.value → i < length list → Runs view (Err fault) after (member_row (member_of member) layout st)
    → members (members_in (drop i list)) layout st ≡ whole → Runs view (Err fault) after whole
members-failed list i item member layout st whole refusal.NoMemory view after is same h e all = tt {0}
members-failed list i item member layout st whole (refusal.Fault (At kind offset)) view after is same h e all = sym all ∙ members-by list i item member layout st (Err (kind, offset)) is same h e

then-next : {B : Type 0} (r : Result (Unit {0} × State) Fault) (x : ℤ × Bool) (k : ℤ × Bool → Typing B) → bind r (λ m. k x m.1) ≡ bind (bind r (λ m. give x m.1)) (λ made. k made.0 made.1)
then-next (Ok m) x k = refl
then-next (Err fault) x k = refl

rows-assoc : {B : Type 0} (r : Result (ℤ × State) Fault) (f : ℤ → Typing (Unit {0})) (g : ℤ → ℤ × Bool) (k : ℤ × Bool → Typing B)
    → bind r (λ m. (f m.0 >> k (g m.0)) m.1) ≡ bind (bind r (λ m. (f m.0 >> give (g m.0)) m.1)) (λ made. k made.0 made.1)
rows-assoc (Ok m) f g k = then-next (f m.0 m.1) (g m.0) k
rows-assoc (Err fault) f g k = refl

enumerators-row : (row : tree.Name × Option tree.Expression) (rest : tree.Constants) (next : ℤ) (is_negative : Bool) (st : State)
    → enumerators (constant_before row rest) next is_negative st ≡ (next_constant row (next, is_negative) >>= (λ made. enumerators rest made.0 made.1)) st
enumerators-row (name, given) rest next is_negative st =
    enumerators-value name given rest next is_negative st
    ∙ rows-assoc (constant_value given next st) (λ value. enumerator name value) (λ value. (value +ℤ pos 1, is_negative || int_lt value (pos 0))) (λ made. enumerators rest made.0 made.1)

pub enumerators-rows : (list : List (Box Constant Global)) (i : ℕ) (d : Box Constant Global) (next : ℤ) (is_negative : Bool) (st : State) → i < length list
    → enumerators (constants_in (drop i list)) next is_negative st ≡ (next_constant (constant_of (get_or list i d).value) (next, is_negative) >>= (λ made. enumerators (constants_in (drop (i + 1) list)) made.0 made.1)) st
enumerators-rows list i d next is_negative st h =
    ap (λ l. enumerators l next is_negative st) (constants-more list i d h)
    ∙ enumerators-row (constant_of (get_or list i d).value) (constants_in (drop (i + 1) list)) next is_negative st

pub members-none : (list : List (Box Member Global)) (i : ℕ) (layout : Layout) (st : State) → length list ≤ i → members (members_in (drop i list)) layout st ≡ Ok (layout, st)
unfolding members
members-none list i layout st h = ap (λ l. members (members_in l) layout st) (drop_all i list h)

pub ruleset rows = (members-rows, members-none, enumerators-rows)
