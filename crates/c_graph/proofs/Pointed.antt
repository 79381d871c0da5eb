-- The points of statements by those of their parts.
use Rattle.std.proofs.Common.{◌≡◌, ◌∙◌, ℕ, ◌+◌, ◌-◌, ◌<◌, ◌≤◌, List, [], ◌∷◌, ◌++◌, length, map, drop, get_or, Option, None, refl, sym, ap, ap₂, arith, append_assoc, append-nil}
use Rattle.std.specs.Prelude.{ℤ}
use Rattle.std.proofs.lemmas.List.{drop_all}
use Rattle.proof_tree_spec.specs.declared.Place.{Place}
use Rattle.proof_tree_spec.specs.declared.Place.TheVariants as place
use Rattle.c_types_spec.specs.declared.TestPlace.TheVariants.{Before, After}
use Rattle.c_types_spec.specs.Types.{int}
use Rattle.c_types_spec.specs.declared.Scalar.{Scalar}
use Rattle.c_types_spec.specs.declared.Jump.{Jump}
use Rattle.c_types_spec.specs.Core as tree
use Rattle.c_types_spec.specs.Core.{sequence}
use Rattle.c_types_core.specs.declared.action.Action.{Action}
use Rattle.c_types_core.specs.declared.action.Group.{Group, out-Group}
use Rattle.c_types_core.specs.Actions.{action_of}
use Rattle.c_graph_spec.specs.Layout.{Setting, count, size, case_count}
use Rattle.c_graph_spec.specs.Layout as spec
use Rattle.c_graph_spec.specs.SourceGraph.{points, groups_points, void_function}
use Rattle.c_graph_layout.specs.Lists.{block_of, groups_of}
use Rattle.c_graph_layout.proofs.Blocks.{item, groups_at, groups_past}
use Rattle.c_graph.specs.declared.places.Starts.{Starts}
use Rattle.c_graph.specs.Laid.{AreStarts}
use Rattle.c_graph.specs.Seen.{loop_points}

-- ---- blocks

points_first : (f : Setting) (a : tree.Action) (rest : List tree.Action) (at : ℕ) → points f (sequence (a ∷ rest)) at ≡ points f a at ++ points f (sequence rest) (at + size f a)
unfolding points
points_first f a [] at = sym (append-nil (points f a at))
points_first f a (next ∷ rest) at = refl

no_points : (f : Setting) (at : ℕ) → points f (sequence []) at ≡ []
unfolding points
no_points f at = refl

pub block_points_past : (f : Setting) (actions : List Action) (i at : ℕ) → length actions ≤ i → points f (block_of (drop i actions)) at ≡ []
block_points_past f actions i at past = ap (λ (l : List Action). points f (block_of l) at) (drop_all i actions past) ∙ no_points f at

pub block_points_at : (f : Setting) (actions : List Action) (i at more : ℕ) (x : Action) → i < length actions → x ≡ get_or actions i x → more ≡ at + size f (action_of x)
    → points f (block_of (drop i actions)) at ≡ points f (action_of x) at ++ points f (block_of (drop (i + 1) actions)) more
block_points_at f actions i at more x below is there =
    ap (λ (l : List Action). points f (block_of l) at) (item actions i x below is)
    ∙ points_first f (action_of x) (map action_of (drop (i + 1) actions)) at
    ∙ ap (λ (n : ℕ). points f (action_of x) at ++ points f (block_of (drop (i + 1) actions)) n) (sym there)

-- ---- groups

group_points_first : (f : Setting) (values : List (Option ℤ)) (body : tree.Action) (rest : tree.Groups) (at : ℕ) → groups_points f (tree.groups values body rest) at ≡ points f body at ++ groups_points f rest (at + size f body)
unfolding points groups_points
group_points_first f values body rest at = refl

no_group_points : (f : Setting) (at : ℕ) → groups_points f tree.no_groups at ≡ []
unfolding points groups_points
no_group_points f at = refl

pub group_points_past : (f : Setting) (groups : List Group) (i at : ℕ) → length groups ≤ i → groups_points f (groups_of (drop i groups)) at ≡ []
group_points_past f groups i at past = ap (λ (g : tree.Groups). groups_points f g at) (groups_past groups i past) ∙ no_group_points f at

pub group_points_at : (f : Setting) (groups : List Group) (i at more : ℕ) (g : Group) → i < length groups → g ≡ get_or groups i g → more ≡ at + size f (action_of (out-Group g).body.value)
    → groups_points f (groups_of (drop i groups)) at ≡ points f (action_of (out-Group g).body.value) at ++ groups_points f (groups_of (drop (i + 1) groups)) more
group_points_at f groups i at more g below is there =
    ap (λ (r : tree.Groups). groups_points f r at) (groups_at groups i g below is)
    ∙ group_points_first f (out-Group g).labels.items (action_of (out-Group g).body.value) (groups_of (drop (i + 1) groups)) at
    ∙ ap (λ (n : ℕ). points f (action_of (out-Group g).body.value) at ++ groups_points f (groups_of (drop (i + 1) groups)) n) (sym there)

-- some setting: what holds in each holds in it
abbrev pub some_setting : Setting
some_setting = record {
  place = record { globals = λ name. None; runs = [] };
  graph_number = λ name. 0;
  function_type = λ name. void_function;
  local_type = λ number. int;
}

-- ---- statements with parts

pub if_points : (f : Setting) (test : tree.Core) (a b : tree.Action) (at : ℕ) (s : Starts) → AreStarts f test a at 1 s → points f a s.first ++ points f b s.second ≡ points f (tree.If test a b) at
unfolding points
if_points f test a b at s h = ap₂ (λ (m n : ℕ). points f a m ++ points f b n) h.begins h.ends

pub while_points : (f : Setting) (number : ℕ) (test : tree.Core) (step body : tree.Action) (at : ℕ) (s : Starts) → AreStarts f test body at 3 s
    → loop_points Before number at (s.first - 1) ++ (points f body s.first ++ points f step s.second) ≡ points f (tree.Loop number Before test step body) at
unfolding points
while_points f number test step body at s h =
    let begins = h.begins in
    let inside : s.first - 1 ≡ at + count f test + 2 = omega arith in
    ap₂ (λ (k : ℕ) (l : List (Place × ℕ)). loop_points Before number at k ++ l) inside (ap₂ (λ (m n : ℕ). points f body m ++ points f step n) h.begins h.ends)

pub do_points : (f : Setting) (number : ℕ) (test : tree.Core) (step body : tree.Action) (at begin second : ℕ) → begin ≡ at + 1 → second ≡ at + 1 + size f body
    → loop_points After number at second ++ points f body begin ≡ points f (tree.Loop number After test step body) at
unfolding points
do_points f number test step body at begin second p q = ap₂ (λ (m n : ℕ). loop_points After number at m ++ points f body n) q p

pub switch_points : (f : Setting) (test : tree.Core) (list : tree.Groups) (at begin : ℕ) → begin ≡ at + count f test + case_count list → groups_points f list begin ≡ points f (tree.Switch test list) at
unfolding points groups_points
switch_points f test list at begin e = ap (λ (n : ℕ). groups_points f list n) e

pub call_points : (f : Setting) (number : ℕ) (function : List ℕ) (arguments : List tree.Core) (into : Option ℕ) (at node : ℕ) → node ≡ at + length (spec.argument_tests f arguments)
    → (place.Call number, node) ∷ [] ≡ points f (tree.Call number function arguments into) at
unfolding points
call_points f number function arguments into at node e = ap (λ (n : ℕ). (place.Call number, n) ∷ []) e

-- ---- points that are added, one after the other

pub joined : (a b c : List (Place × ℕ)) (xs ys whole : List (Place × ℕ)) → b ≡ a ++ xs → c ≡ b ++ ys → xs ++ ys ≡ whole → c ≡ a ++ whole
joined a b c xs ys whole p q e = q ∙ ap (λ l. l ++ ys) p ∙ append_assoc a xs ys ∙ ap (λ l. a ++ l) e

pub no_more : (old list : List (Place × ℕ)) → list ≡ [] → old ≡ old ++ list
no_more old list e = sym (append-nil old) ∙ ap (λ l. old ++ l) (sym e)

-- ---- statements without points

pub Evaluate-points : (f : Setting) (x : tree.Core) (at : ℕ) → points f (tree.Evaluate x) at ≡ []
unfolding points
Evaluate-points f x at = refl

pub Set-points : (f : Setting) (number : ℕ) (x : tree.Core) (at : ℕ) → points f (tree.Set number x) at ≡ []
unfolding points
Set-points f number x at = refl

pub Unset-points : (f : Setting) (number : ℕ) (at : ℕ) → points f (tree.Unset number) at ≡ []
unfolding points
Unset-points f number at = refl

pub Store-points : (f : Setting) (type : Scalar) (address : tree.Core) (displacement : ℕ) (x : tree.Core) (offset : ℕ) (at : ℕ) → points f (tree.Store type address displacement x offset) at ≡ []
unfolding points
Store-points f type address displacement x offset at = refl

pub Leave-points : (f : Setting) (jump : Jump) (at : ℕ) → points f (tree.Leave jump) at ≡ []
unfolding points
Leave-points f jump at = refl

pub Return-points : (f : Setting) (x : Option tree.Core) (at : ℕ) → points f (tree.Return x) at ≡ []
unfolding points
Return-points f x at = refl

pub MissingReturn-points : (f : Setting) (offset : ℕ) (at : ℕ) → points f (tree.MissingReturn offset) at ≡ []
unfolding points
MissingReturn-points f offset at = refl
