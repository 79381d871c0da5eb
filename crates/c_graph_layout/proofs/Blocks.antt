-- Lists of statements, of groups, of labels and of arguments, one after the other.
use Rattle.std.proofs.Common.{◌≡◌, ◌∙◌, ℕ, zero, suc, ◌+◌, ◌<◌, ◌≤◌, if◌then◌else◌, List, [], ◌∷◌, length, map, drop, get_or, Option, Some, None, refl, sym, ap, arith, drop-cons}
use Rattle.std.specs.Prelude.{ℤ, is_some}
use Rattle.std.specs.declared.alloc.Global.{Global}
use Rattle.std.specs.declared.boxed.Box.{Box}
use Rattle.std.proofs.lemmas.List.{drop_all}
use Rattle.graph_core_spec.specs.declared.Next.TheVariants.{Ret}
use Rattle.c_types_spec.specs.Core as tree
use Rattle.c_types_spec.specs.Core.{Sequence, sequence}
use Rattle.c_types_core.specs.Expressions.{core_of}
use Rattle.c_types_core.specs.declared.expression.Core.{Core}
use Rattle.c_types_core.specs.declared.action.Action.{Action}
use Rattle.c_types_core.specs.declared.action.Group.{Group, out-Group, fold_out-Group}
use Rattle.c_types_core.specs.Actions.{Grouped, action_of, group_of, action_step, group_step}
use Rattle.c_graph_spec.specs.Layout.{cases_to, case_count}
use Rattle.c_graph_layout.specs.Counts.{test_count, argument_count, size_of, groups_size_of}
use Rattle.c_graph_layout.specs.Lists.{cores_of, block_of, groups_of}

pub item : {X : Type 0} (xs : List X) (i : ℕ) (x : X) → i < length xs → x ≡ get_or xs i x → drop i xs ≡ x ∷ drop (i + 1) xs
item xs i x within is = let next : i + 1 ≡ suc i = omega arith in drop-cons xs i x within ∙ ap (λ y. y ∷ drop (suc i) xs) (sym is) ∙ ap (λ n. x ∷ drop n xs) (sym next)

-- ---- arguments

argument_first : (x : Box Core Global) (rest : List (Box Core Global)) → argument_count (cores_of (x ∷ rest)) ≡ test_count (core_of x.value) + argument_count (cores_of rest)
unfolding argument_count
argument_first x rest = refl

none_counted : argument_count [] ≡ 0
unfolding argument_count
none_counted = refl

pub argument_at : (xs : List (Box Core Global)) (i : ℕ) (x : Box Core Global) → i < length xs → x ≡ get_or xs i x
    → argument_count (cores_of (drop i xs)) ≡ test_count (core_of x.value) + argument_count (cores_of (drop (i + 1) xs))
argument_at xs i x within is = ap (λ l. argument_count (cores_of l)) (item xs i x within is) ∙ argument_first x (drop (i + 1) xs)

pub argument_past : (xs : List (Box Core Global)) (i : ℕ) → length xs ≤ i → argument_count (cores_of (drop i xs)) ≡ 0
argument_past xs i past = ap (λ l. argument_count (cores_of l)) (drop_all i xs past) ∙ none_counted

-- ---- labels

label_first : (x : Option ℤ) (rest : List (Option ℤ)) → length (cases_to (x ∷ rest) Ret) ≡ (if is_some x then 1 else 0) + length (cases_to rest Ret)
unfolding cases_to
label_first None rest = omega arith
label_first (Some value) rest = omega arith

no_labels : length (cases_to [] Ret) ≡ 0
unfolding cases_to
no_labels = refl

pub label_in : (xs : List (Option ℤ)) (i : ℕ) → i < length xs → length (cases_to (drop i xs) Ret) ≡ (if is_some (get_or xs i None) then 1 else 0) + length (cases_to (drop (i + 1) xs) Ret)
label_in xs i within =
    let next : i + 1 ≡ suc i = omega arith in
    let here : drop i xs ≡ get_or xs i None ∷ drop (i + 1) xs = drop-cons xs i None within ∙ ap (λ n. get_or xs i None ∷ drop n xs) (sym next) in
    ap (λ l. length (cases_to l Ret)) here ∙ label_first (get_or xs i None) (drop (i + 1) xs)

pub label_past : (xs : List (Option ℤ)) (i : ℕ) → length xs ≤ i → length (cases_to (drop i xs) Ret) ≡ 0
label_past xs i past = ap (λ l. length (cases_to l Ret)) (drop_all i xs past) ∙ no_labels

-- ---- groups

pub group_parts : (g : Group) → group_of g ≡ ((out-Group g).labels.items, action_of (out-Group g).body.value)
unfolding action_of group_of
group_parts g = fold_out-Group _ _ action_step group_step g

pub groups_at : (groups : List Group) (i : ℕ) (g : Group) → i < length groups → g ≡ get_or groups i g
    → groups_of (drop i groups) ≡ tree.groups (out-Group g).labels.items (action_of (out-Group g).body.value) (groups_of (drop (i + 1) groups))
groups_at groups i g within is =
    ap groups_of (item groups i g within is) ∙ ap (λ (p : Grouped). tree.groups p.0 p.1 (groups_of (drop (i + 1) groups))) (group_parts g)

pub groups_past : (groups : List Group) (i : ℕ) → length groups ≤ i → groups_of (drop i groups) ≡ tree.no_groups
groups_past groups i past = ap groups_of (drop_all i groups past)

case_first : (labels : List (Option ℤ)) (body : tree.Action) (rest : tree.Groups) → case_count (tree.groups labels body rest) ≡ length (cases_to labels Ret) + case_count rest
unfolding case_count
case_first labels body rest = refl

no_cases : case_count tree.no_groups ≡ 0
unfolding case_count
no_cases = refl

pub cases_at : (groups : List Group) (i : ℕ) (g : Group) → i < length groups → g ≡ get_or groups i g
    → case_count (groups_of (drop i groups)) ≡ length (cases_to (out-Group g).labels.items Ret) + case_count (groups_of (drop (i + 1) groups))
cases_at groups i g within is = ap case_count (groups_at groups i g within is) ∙ case_first _ _ _

pub cases_past : (groups : List Group) (i : ℕ) → length groups ≤ i → case_count (groups_of (drop i groups)) ≡ 0
cases_past groups i past = ap case_count (groups_past groups i past) ∙ no_cases

group_first : (labels : List (Option ℤ)) (body : tree.Action) (rest : tree.Groups) → groups_size_of (tree.groups labels body rest) ≡ size_of body + groups_size_of rest
unfolding size_of groups_size_of
group_first labels body rest = refl

no_group : groups_size_of tree.no_groups ≡ 0
unfolding size_of groups_size_of
no_group = refl

pub group_size_at : (groups : List Group) (i : ℕ) (g : Group) → i < length groups → g ≡ get_or groups i g
    → groups_size_of (groups_of (drop i groups)) ≡ size_of (action_of (out-Group g).body.value) + groups_size_of (groups_of (drop (i + 1) groups))
group_size_at groups i g within is = ap groups_size_of (groups_at groups i g within is) ∙ group_first _ _ _

pub group_size_past : (groups : List Group) (i : ℕ) → length groups ≤ i → groups_size_of (groups_of (drop i groups)) ≡ 0
group_size_past groups i past = ap groups_size_of (groups_past groups i past) ∙ no_group

-- ---- statements

pub block_first : (first : tree.Action) (rest : List tree.Action) → size_of (sequence (first ∷ rest)) ≡ size_of first + size_of (sequence rest)
unfolding size_of
block_first first [] = omega arith
block_first first (next ∷ rest) = refl

no_block : size_of (sequence []) ≡ 0
unfolding size_of
no_block = refl

pub block_at : (actions : List Action) (i : ℕ) (x : Action) → i < length actions → x ≡ get_or actions i x → size_of (block_of (drop i actions)) ≡ size_of (action_of x) + size_of (block_of (drop (i + 1) actions))
block_at actions i x within is = ap (λ l. size_of (block_of l)) (item actions i x within is) ∙ block_first (action_of x) (map action_of (drop (i + 1) actions))

pub block_past : (actions : List Action) (i : ℕ) → length actions ≤ i → size_of (block_of (drop i actions)) ≡ 0
block_past actions i past = ap (λ l. size_of (block_of l)) (drop_all i actions past) ∙ no_block

block_tail : (x : Action) (rest : List Action) → size_of (block_of rest) ≤ size_of (block_of (x ∷ rest))
block_tail x rest = omega (arith, block_first (action_of x) (map action_of rest))

-- what is left of a block is no longer than the block
pub block_left : (actions : List Action) (i : ℕ) → size_of (block_of (drop i actions)) ≤ size_of (block_of actions)
block_left [] zero = omega arith
block_left [] (suc i) = omega arith
block_left (x ∷ actions) zero = omega arith
block_left (x ∷ actions) (suc i) = omega (arith, block_left actions i, block_tail x actions)
