-- Names that are added, statement by statement.
use Rattle.std.proofs.Common.{◌≡◌, ◌∙◌, ℕ, ◌+◌, ◌<◌, ◌≤◌, suc, List, [], ◌∷◌, ◌++◌, length, map, drop, get_or, refl, sym, ap, append_assoc, arith, drop-cons}
use Rattle.std.specs.Prelude.{ℤ, Option}
use Rattle.std.proofs.lemmas.List.{append-nil, drop_all, map-append}
use Rattle.c_types_spec.specs.Core as tree
use Rattle.c_types_spec.specs.Core.{Skip, Sequence, sequence}
use Rattle.c_types_core.specs.Actions.{Grouped, action_of, group_of, action_step, group_step}
use Rattle.c_types_core.specs.declared.action.Action.{Action}
use Rattle.c_types_core.specs.declared.action.Group.{Group, out-Group, fold_out-Group}
use Rattle.pair_setup_spec.specs.SourceReach.{calls_in, calls_in_groups}
use Rattle.pair_setup_calls.specs.Names.{block_of, groups_of}

abbrev Names : Type 0
Names = List (List ℕ)

-- ---- lists

pub added-both : (old middle new first second : Names) → middle ≡ old ++ first → new ≡ middle ++ second → new ≡ old ++ (first ++ second)
added-both old middle new first second e f = f ∙ ap (λ l. l ++ second) e ∙ append_assoc old first second

pub added-next : (now here rest all total new : Names) → all ≡ here ++ rest → new ≡ now ++ here → now ++ all ≡ total → new ++ rest ≡ total
added-next now here rest all total new is added h = ap (λ l. l ++ rest) added ∙ append_assoc now here rest ∙ ap (λ l. now ++ l) (sym is) ∙ h

pub added-all : (now all total : Names) → all ≡ [] → now ++ all ≡ total → now ≡ total
added-all now all total is h = sym (append-nil now) ∙ ap (λ l. now ++ l) (sym is) ∙ h

item : {X : Type 0} (xs : List X) (i : ℕ) (x : X) → i < length xs → x ≡ get_or xs i x → drop i xs ≡ x ∷ drop (i + 1) xs
item xs i x within is = let next : i + 1 ≡ suc i = omega arith in drop-cons xs i x within ∙ ap (λ y. y ∷ drop (suc i) xs) (sym is) ∙ ap (λ n. x ∷ drop n xs) (sym next)

-- names that are added make one list
pub ruleset joined = (append-nil, append_assoc, map-append)

-- ---- statements

module _ (f : tree.Action → Names) (skip : f Skip ≡ []) (both : (a b : tree.Action) → f (Sequence a b) ≡ f a ++ f b) where
  block_first : (first : tree.Action) (rest : List tree.Action) → f (sequence (first ∷ rest)) ≡ f first ++ f (sequence rest)
  block_first first [] = sym (append-nil (f first)) ∙ ap (λ l. f first ++ l) (sym skip)
  block_first first (next ∷ rest) = both first (sequence (next ∷ rest))

  block-at : (actions : List Action) (i : ℕ) (x : Action) → i < length actions → x ≡ get_or actions i x → f (block_of (drop i actions)) ≡ f (action_of x) ++ f (block_of (drop (i + 1) actions))
  block-at actions i x within is = ap (λ l. f (block_of l)) (item actions i x within is) ∙ block_first (action_of x) (map action_of (drop (i + 1) actions))

  block-past : (actions : List Action) (i : ℕ) → length actions ≤ i → f (block_of (drop i actions)) ≡ []
  block-past actions i past = ap (λ l. f (block_of l)) (drop_all i actions past) ∙ skip

calls-skip : calls_in Skip ≡ []
unfolding calls_in
calls-skip = refl

calls-both : (a b : tree.Action) → calls_in (Sequence a b) ≡ calls_in a ++ calls_in b
unfolding calls_in
calls-both a b = refl

pub block_calls_at : (actions : List Action) (i : ℕ) (x : Action) → i < length actions → x ≡ get_or actions i x → calls_in (block_of (drop i actions)) ≡ calls_in (action_of x) ++ calls_in (block_of (drop (i + 1) actions))
block_calls_at = block-at calls_in calls-skip calls-both

pub block_calls_past : (actions : List Action) (i : ℕ) → length actions ≤ i → calls_in (block_of (drop i actions)) ≡ []
block_calls_past = block-past calls_in calls-skip calls-both

-- ---- groups

group_parts : (g : Group) → group_of g ≡ ((out-Group g).labels.items, action_of (out-Group g).body.value)
unfolding action_of group_of
group_parts g = fold_out-Group _ _ action_step group_step g

groups_at : (groups : List Group) (i : ℕ) (g : Group) → i < length groups → g ≡ get_or groups i g
    → groups_of (drop i groups) ≡ tree.groups (out-Group g).labels.items (action_of (out-Group g).body.value) (groups_of (drop (i + 1) groups))
groups_at groups i g within is =
    ap groups_of (item groups i g within is) ∙ ap (λ (p : Grouped). tree.groups p.0 p.1 (groups_of (drop (i + 1) groups))) (group_parts g)

groups_past : (groups : List Group) (i : ℕ) → length groups ≤ i → groups_of (drop i groups) ≡ tree.no_groups
groups_past groups i past = ap groups_of (drop_all i groups past)

module _ (f : tree.Action → Names) (g : tree.Groups → Names) (none : g tree.no_groups ≡ [])
    (one : (labels : List (Option ℤ)) (body : tree.Action) (rest : tree.Groups) → g (tree.groups labels body rest) ≡ f body ++ g rest) where
  group-at : (groups : List Group) (i : ℕ) (x : Group) → i < length groups → x ≡ get_or groups i x
      → g (groups_of (drop i groups)) ≡ f (action_of (out-Group x).body.value) ++ g (groups_of (drop (i + 1) groups))
  group-at groups i x within is = ap g (groups_at groups i x within is) ∙ one _ _ _

  group-past : (groups : List Group) (i : ℕ) → length groups ≤ i → g (groups_of (drop i groups)) ≡ []
  group-past groups i past = ap g (groups_past groups i past) ∙ none

no_calls : calls_in_groups tree.no_groups ≡ []
unfolding calls_in
no_calls = refl

one_calls : (labels : List (Option ℤ)) (body : tree.Action) (rest : tree.Groups) → calls_in_groups (tree.groups labels body rest) ≡ calls_in body ++ calls_in_groups rest
unfolding calls_in
one_calls labels body rest = refl

pub group_calls_at : (groups : List Group) (i : ℕ) (x : Group) → i < length groups → x ≡ get_or groups i x
    → calls_in_groups (groups_of (drop i groups)) ≡ calls_in (action_of (out-Group x).body.value) ++ calls_in_groups (groups_of (drop (i + 1) groups))
group_calls_at = group-at calls_in calls_in_groups no_calls one_calls

pub group_calls_past : (groups : List Group) (i : ℕ) → length groups ≤ i → calls_in_groups (groups_of (drop i groups)) ≡ []
group_calls_past = group-past calls_in calls_in_groups no_calls one_calls
