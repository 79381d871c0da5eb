-- Where blocks and groups begin, one statement or group after the other.
use Rattle.std.proofs.Common.{◌≡◌, ◌∙◌, ℕ, suc, ◌+◌, ◌<◌, ◌≤◌, Bool, false, ◌||◌, if◌then◌else◌, List, [], ◌∷◌, length, map, drop, get_or, Option, Some, None, refl, sym, ap, arith, drop-cons}
use Rattle.std.specs.Prelude.{ℤ}
use Rattle.std.proofs.lemmas.List.{drop_all}
use Rattle.graph_core_spec.specs.declared.Next.{Next}
use Rattle.c_types_spec.specs.Core as tree
use Rattle.c_types_spec.specs.Core.{Core, sequence}
use Rattle.c_types_core.specs.declared.action.Action.{Action}
use Rattle.c_types_core.specs.declared.action.Group.{Group, out-Group}
use Rattle.c_types_core.specs.Actions.{action_of}
use Rattle.c_graph_spec.specs.Layout as spec
use Rattle.c_graph_spec.specs.Layout.{Setting, Exits, exits}
use Rattle.c_graph_layout.specs.Lists.{block_of, groups_of}
use Rattle.c_graph_layout.proofs.Blocks.{item, groups_at, groups_past}

-- ---- blocks

entry_first : (f : Setting) (a : tree.Action) (rest : List tree.Action) (at : ℕ) (to : Next) (e : Exits) → spec.entry f (sequence (a ∷ rest)) at to e ≡ spec.entry f a at (spec.entry f (sequence rest) (at + spec.size f a) to e) e
unfolding spec.entry
entry_first f a [] at to e = refl
entry_first f a (next ∷ rest) at to e = refl

entry_none : (f : Setting) (at : ℕ) (to : Next) (e : Exits) → spec.entry f (sequence []) at to e ≡ to
unfolding spec.entry
entry_none f at to e = refl

pub entry_past : (f : Setting) (actions : List Action) (i at : ℕ) (to : Next) (e : Exits) → length actions ≤ i → spec.entry f (block_of (drop i actions)) at to e ≡ to
entry_past f actions i at to e past = ap (λ (l : List Action). spec.entry f (block_of l) at to e) (drop_all i actions past) ∙ entry_none f at to e

pub entry_at : (f : Setting) (actions : List Action) (i at begin : ℕ) (x : Action) (to : Next) (e : Exits) → i < length actions → x ≡ get_or actions i x → begin ≡ at + spec.size f (action_of x)
    → spec.entry f (block_of (drop i actions)) at to e ≡ spec.entry f (action_of x) at (spec.entry f (block_of (drop (i + 1) actions)) begin to e) e
entry_at f actions i at begin x to e within is there =
    ap (λ (l : List Action). spec.entry f (block_of l) at to e) (item actions i x within is) ∙ entry_first f (action_of x) (map action_of (drop (i + 1) actions)) at to e
    ∙ ap (λ (n : ℕ). spec.entry f (action_of x) at (spec.entry f (block_of (drop (i + 1) actions)) n to e) e) (sym there)

-- ---- `default`

default_first : (x : Option ℤ) (rest : List (Option ℤ)) → spec.has_default (x ∷ rest) ≡ (spec.is_default x || spec.has_default rest)
unfolding spec.has_default
default_first None rest = refl
default_first (Some value) rest = refl

no_default : spec.has_default [] ≡ false
unfolding spec.has_default
no_default = refl

pub default_in : (xs : List (Option ℤ)) (i : ℕ) → i < length xs → spec.has_default (drop i xs) ≡ (spec.is_default (get_or xs i None) || spec.has_default (drop (i + 1) xs))
default_in xs i within =
    let next : i + 1 ≡ suc i = omega arith in
    let here : drop i xs ≡ get_or xs i None ∷ drop (i + 1) xs = drop-cons xs i None within ∙ ap (λ n. get_or xs i None ∷ drop n xs) (sym next) in
    ap spec.has_default here ∙ default_first (get_or xs i None) (drop (i + 1) xs)

pub default_past : (xs : List (Option ℤ)) (i : ℕ) → length xs ≤ i → spec.has_default (drop i xs) ≡ false
default_past xs i past = ap spec.has_default (drop_all i xs past) ∙ no_default

-- ---- groups

group_first : (f : Setting) (labels : List (Option ℤ)) (body : tree.Action) (rest : tree.Groups) (at : ℕ) (to : Next) (e : Exits)
    → spec.otherwise f (tree.groups labels body rest) at to e ≡ (if spec.has_default labels then spec.entry f body at (to) (exits to e.continues) else spec.otherwise f rest (at + spec.size f body) to e)
unfolding spec.otherwise
group_first f labels body rest at to e = refl

no_group : (f : Setting) (at : ℕ) (to : Next) (e : Exits) → spec.otherwise f tree.no_groups at to e ≡ to
unfolding spec.otherwise
no_group f at to e = refl

pub otherwise_past : (f : Setting) (groups : List Group) (i at : ℕ) (to : Next) (e : Exits) → length groups ≤ i → spec.otherwise f (groups_of (drop i groups)) at to e ≡ to
otherwise_past f groups i at to e past = ap (λ (g : tree.Groups). spec.otherwise f g at to e) (groups_past groups i past) ∙ no_group f at to e

pub otherwise_at : (f : Setting) (groups : List Group) (i at : ℕ) (g : Group) (has : Bool) (to : Next) (e : Exits) → i < length groups → g ≡ get_or groups i g → spec.has_default (out-Group g).labels.items ≡ has
    → spec.otherwise f (groups_of (drop i groups)) at to e
    ≡ (if has then spec.entry f (action_of (out-Group g).body.value) at to (exits to e.continues)
    else spec.otherwise f (groups_of (drop (i + 1) groups)) (at + spec.size f (action_of (out-Group g).body.value)) to e)
otherwise_at f groups i at g has to e within is test =
    ap (λ (r : tree.Groups). spec.otherwise f r at to e) (groups_at groups i g within is) ∙ group_first f _ _ _ at to e
    ∙ ap (λ (b : Bool). if b then spec.entry f (action_of (out-Group g).body.value) at to (exits to e.continues) else spec.otherwise f (groups_of (drop (i + 1) groups)) (at + spec.size f (action_of (out-Group g).body.value)) to e) test

-- ---- `switch`

pub switch_entry : (f : Setting) (test : Core) (list : tree.Groups) (at tests many begin : ℕ) (to other : Next) (e : Exits) → tests ≡ spec.count f test → many ≡ tests + spec.case_count list → begin ≡ at + many
    → other ≡ spec.otherwise f list begin to e → spec.first many at other ≡ spec.entry f (tree.Switch test list) at to e
unfolding spec.entry spec.otherwise
switch_entry f test list at tests many begin to other e tests_is many_is begin_is other_is =
    let all : many ≡ spec.count f test + spec.case_count list = omega arith in
    let there : begin ≡ at + spec.count f test + spec.case_count list = omega arith in
    ap (λ (n : Next). spec.first many at n) other_is ∙ ap (λ (n : ℕ). spec.first n at (spec.otherwise f list begin to e)) all
    ∙ ap (λ (n : ℕ). spec.first (spec.count f test + spec.case_count list) at (spec.otherwise f list n to e)) there
