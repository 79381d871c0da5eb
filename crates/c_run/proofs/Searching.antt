-- Labels of groups, one after the other.
use Rattle.std.proofs.Common.{◌≡◌, ℕ, suc, ◌+◌, ◌<◌, ◌≤◌, Bool, true, false, if◌then◌else◌, ◌||◌, Option, Some, None, List, ◌∷◌, length, drop, get_or, drop-cons, sym, ap, ◌∙◌, arith}
use Rattle.std.specs.Prelude.{ℤ, map}
use Rattle.std.specs.List.{list_any}
use Rattle.std.proofs.lemmas.List.{drop_all}
use Rattle.c_types_spec.specs.Statements.{groups_in, same_label}
use Rattle.c_types_core.specs.declared.action.Group.{Group, out-Group, fold_out-Group}
use Rattle.c_types_core.specs.Actions.{Grouped, action_of, group_of, action_step, group_step}
use Rattle.c_run.specs.Groups.{picked}

item : {X : Type 0} (xs : List X) (i : ℕ) (x : X) → i < length xs → x ≡ get_or xs i x → drop i xs ≡ x ∷ drop (i + 1) xs
item xs i x within is = let next : i + 1 ≡ suc i = omega arith in drop-cons xs i x within ∙ ap (λ y. y ∷ drop (suc i) xs) (sym is) ∙ ap (λ n. x ∷ drop n xs) (sym next)

-- ---- one of several labels

any_at : (test : Option ℤ → Bool) (xs : List (Option ℤ)) (i : ℕ) (d : Option ℤ) → i < length xs → list_any test (drop i xs) ≡ (test (get_or xs i d) || list_any test (drop (i + 1) xs))
any_at test xs i d within =
    let next : suc i ≡ i + 1 = omega arith in
    ap (list_any test) (drop-cons xs i d within) ∙ ap (λ n. test (get_or xs i d) || list_any test (drop n xs)) next

pub any_here : (test : Option ℤ → Bool) (xs : List (Option ℤ)) (i : ℕ) (d : Option ℤ) → i < length xs → test (get_or xs i d) ≡ true → list_any test (drop i xs) ≡ true
any_here test xs i d within passes = any_at test xs i d within ∙ ap (λ b. b || list_any test (drop (i + 1) xs)) passes

pub any_later : (test : Option ℤ → Bool) (xs : List (Option ℤ)) (i : ℕ) (d : Option ℤ) → i < length xs → test (get_or xs i d) ≡ false → list_any test (drop i xs) ≡ list_any test (drop (i + 1) xs)
any_later test xs i d within fails = any_at test xs i d within ∙ ap (λ b. b || list_any test (drop (i + 1) xs)) fails

pub any_past : (test : Option ℤ → Bool) (xs : List (Option ℤ)) (i : ℕ) → length xs ≤ i → list_any test (drop i xs) ≡ false
any_past test xs i past = ap (list_any test) (drop_all i xs past)

-- ---- one of several groups

group_parts : (g : Group) → group_of g ≡ ((out-Group g).labels.items, action_of (out-Group g).body.value)
unfolding action_of group_of
group_parts g = fold_out-Group _ _ action_step group_step g

picked_at : (label : Option ℤ) (groups : List Group) (i : ℕ) (g : Group) → i < length groups → g ≡ get_or groups i g
    → picked label (groups_in (map group_of (drop i groups))) ≡ (if list_any (λ other. same_label other label) (out-Group g).labels.items then Some (action_of (out-Group g).body.value) else picked label (groups_in (map group_of (drop (i + 1) groups))))
picked_at label groups i g within is =
    ap (λ gs. picked label (groups_in (map group_of gs))) (item groups i g within is)
    ∙ ap (λ (p : Grouped). if list_any (λ other. same_label other label) p.0 then Some p.1 else picked label (groups_in (map group_of (drop (i + 1) groups)))) (group_parts g)

pub picked_here : (label : Option ℤ) (groups : List Group) (i : ℕ) (g : Group) → i < length groups → g ≡ get_or groups i g → list_any (λ other. same_label other label) (out-Group g).labels.items ≡ true
    → picked label (groups_in (map group_of (drop i groups))) ≡ Some (action_of (out-Group g).body.value)
picked_here label groups i g within is passes = picked_at label groups i g within is ∙ ap (λ b. if b then Some (action_of (out-Group g).body.value) else picked label (groups_in (map group_of (drop (i + 1) groups)))) passes

pub picked_later : (label : Option ℤ) (groups : List Group) (i : ℕ) (g : Group) → i < length groups → g ≡ get_or groups i g → list_any (λ other. same_label other label) (out-Group g).labels.items ≡ false
    → picked label (groups_in (map group_of (drop i groups))) ≡ picked label (groups_in (map group_of (drop (i + 1) groups)))
picked_later label groups i g within is fails = picked_at label groups i g within is ∙ ap (λ b. if b then Some (action_of (out-Group g).body.value) else picked label (groups_in (map group_of (drop (i + 1) groups)))) fails

pub picked_past : (label : Option ℤ) (groups : List Group) (i : ℕ) → length groups ≤ i → picked label (groups_in (map group_of (drop i groups))) ≡ None
picked_past label groups i past = ap (λ gs. picked label (groups_in (map group_of gs))) (drop_all i groups past)
