-- Groups of a `switch` and their cases, one after the other.
use Rattle.std.proofs.Common.{◌≡◌, ◌∙◌, ℕ, suc, ◌+◌, ◌<◌, ◌≤◌, List, [], ◌∷◌, ◌++◌, length, drop, get_or, Option, Some, None, refl, sym, ap, ap₂, arith, append_assoc, append-nil}
use Rattle.std.specs.Prelude.{ℤ, pos}
use Rattle.std.proofs.lemmas.List.{drop_all}
use Rattle.graph_core_spec.specs.declared.Next.{Next}
use Rattle.graph_core_spec.specs.declared.Next.TheVariants.{At}
use Rattle.graph_core_spec.specs.Graph.{Node}
use Rattle.c_types_spec.specs.Core as tree
use Rattle.c_types_core.specs.declared.action.Group.{Group, out-Group}
use Rattle.c_types_core.specs.Actions.{action_of}
use Rattle.c_graph_spec.specs.Layout.{Setting, Exits, exits, size, entry, cases_to, cases_of, nodes, groups_nodes}
use Rattle.c_graph_layout.specs.Lists.{groups_of}
use Rattle.c_graph_layout.proofs.Blocks.{groups_at, groups_past}
use Rattle.c_graph.specs.declared.cases.Case.{Case}
use Rattle.c_graph.proofs.Ids.{item_at}

-- ---- a list that grows by what is left

pub one_more : {X : Type 0} (a b xs rest whole : List X) → b ≡ a ++ xs → a ++ (xs ++ rest) ≡ whole → b ++ rest ≡ whole
one_more a b xs rest whole e p = ap (λ l. l ++ rest) e ∙ append_assoc a xs rest ∙ p

pub all_of : {X : Type 0} (a rest whole : List X) → rest ≡ [] → a ++ rest ≡ whole → a ≡ whole
all_of a rest whole e p = sym (append-nil a) ∙ ap (λ l. a ++ l) (sym e) ∙ p

-- ---- labels

label_first : (x : Option ℤ) (rest : List (Option ℤ)) (to : Next) → cases_to (x ∷ rest) to ≡ cases_to (x ∷ []) to ++ cases_to rest to
unfolding cases_to
label_first None rest to = refl
label_first (Some value) rest to = refl

no_label : (to : Next) → cases_to [] to ≡ []
unfolding cases_to
no_label to = refl

pub label_at : (labels : List (Option ℤ)) (i : ℕ) (x : Option ℤ) (to : Next) → i < length labels → x ≡ get_or labels i None → cases_to (drop i labels) to ≡ cases_to (x ∷ []) to ++ cases_to (drop (i + 1) labels) to
label_at labels i x to below is =
    ap (λ (l : List (Option ℤ)). cases_to l to) (item_at labels i None below) ∙ label_first (get_or labels i None) (drop (i + 1) labels) to
    ∙ ap (λ (y : Option ℤ). cases_to (y ∷ []) to ++ cases_to (drop (i + 1) labels) to) (sym is)

pub label_past : (labels : List (Option ℤ)) (i : ℕ) (to : Next) → length labels ≤ i → cases_to (drop i labels) to ≡ []
label_past labels i to past = ap (λ (l : List (Option ℤ)). cases_to l to) (drop_all i labels past) ∙ no_label to

-- ---- groups

group_cases_first : (f : Setting) (values : List (Option ℤ)) (body : tree.Action) (rest : tree.Groups) (at : ℕ) (to : Next) (e : Exits)
    → cases_of f (tree.groups values body rest) at to e ≡ cases_to values (entry f body at to (exits to e.continues)) ++ cases_of f rest (at + size f body) to e
unfolding cases_of
group_cases_first f values body rest at to e = refl

no_cases : (f : Setting) (at : ℕ) (to : Next) (e : Exits) → cases_of f tree.no_groups at to e ≡ []
unfolding cases_of
no_cases f at to e = refl

pub group_cases_past : (f : Setting) (groups : List Group) (i at : ℕ) (to : Next) (e : Exits) → length groups ≤ i → cases_of f (groups_of (drop i groups)) at to e ≡ []
group_cases_past f groups i at to e past = ap (λ (g : tree.Groups). cases_of f g at to e) (groups_past groups i past) ∙ no_cases f at to e

pub group_cases_at : (f : Setting) (groups : List Group) (i at more : ℕ) (g : Group) (to next : Next) (e : Exits) → i < length groups → g ≡ get_or groups i g → more ≡ at + size f (action_of (out-Group g).body.value)
    → next ≡ entry f (action_of (out-Group g).body.value) at to (exits to e.continues)
    → cases_of f (groups_of (drop i groups)) at to e ≡ cases_to (out-Group g).labels.items next ++ cases_of f (groups_of (drop (i + 1) groups)) more to e
group_cases_at f groups i at more g to next e below is there enters =
    ap (λ (r : tree.Groups). cases_of f r at to e) (groups_at groups i g below is)
    ∙ group_cases_first f (out-Group g).labels.items (action_of (out-Group g).body.value) (groups_of (drop (i + 1) groups)) at to e
    ∙ ap₂ (λ (x : Next) (n : ℕ). cases_to (out-Group g).labels.items x ++ cases_of f (groups_of (drop (i + 1) groups)) n to e) (sym enters) (sym there)

group_nodes_first : (f : Setting) (values : List (Option ℤ)) (body : tree.Action) (rest : tree.Groups) (at : ℕ) (to : Next) (e : Exits)
    → groups_nodes f (tree.groups values body rest) at to e ≡ nodes f body at to (exits to e.continues) ++ groups_nodes f rest (at + size f body) to e
unfolding nodes groups_nodes
group_nodes_first f values body rest at to e = refl

no_group : (f : Setting) (at : ℕ) (to : Next) (e : Exits) → groups_nodes f tree.no_groups at to e ≡ []
unfolding nodes groups_nodes
no_group f at to e = refl

pub group_nodes_past : (f : Setting) (groups : List Group) (i at : ℕ) (to : Next) (e : Exits) → length groups ≤ i → groups_nodes f (groups_of (drop i groups)) at to e ≡ []
group_nodes_past f groups i at to e past = ap (λ (g : tree.Groups). groups_nodes f g at to e) (groups_past groups i past) ∙ no_group f at to e

pub group_nodes_at : (f : Setting) (groups : List Group) (i at more : ℕ) (g : Group) (to : Next) (e : Exits) → i < length groups → g ≡ get_or groups i g → more ≡ at + size f (action_of (out-Group g).body.value)
    → groups_nodes f (groups_of (drop i groups)) at to e ≡ nodes f (action_of (out-Group g).body.value) at to (exits to e.continues) ++ groups_nodes f (groups_of (drop (i + 1) groups)) more to e
group_nodes_at f groups i at more g to e below is there =
    ap (λ (r : tree.Groups). groups_nodes f r at to e) (groups_at groups i g below is)
    ∙ group_nodes_first f (out-Group g).labels.items (action_of (out-Group g).body.value) (groups_of (drop (i + 1) groups)) at to e
    ∙ ap (λ (n : ℕ). nodes f (action_of (out-Group g).body.value) at to (exits to e.continues) ++ groups_nodes f (groups_of (drop (i + 1) groups)) n to e) (sym there)

-- ---- a label alone

pub case_of_value : (label : Option ℤ) (value : ℤ) (to : Next) → label ≡ Some value → cases_to (label ∷ []) to ≡ (value, to) ∷ []
unfolding cases_to
case_of_value label value to e = ap (λ l. cases_to (l ∷ []) to) e

pub case_of_none : (label : Option ℤ) (to : Next) → label ≡ None → cases_to (label ∷ []) to ≡ []
unfolding cases_to
case_of_none label to e = ap (λ l. cases_to (l ∷ []) to) e

-- what a list of cases gives past its end
abbrev pub no_case : Case
no_case = record { value = pos 0; next = At 0 }
