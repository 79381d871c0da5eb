-- Statements of a block, one after the other.
use Rattle.std.proofs.Common.{◌≡◌, ◌∙◌, ℕ, suc, ◌+◌, ◌-◌, ◌<◌, ◌≤◌, List, [], ◌∷◌, ◌++◌, length, map, drop, get_or, inl, inr, refl, sym, ap, ap₂, subst, arith, append-nil, length-append}
use Rattle.std.proofs.lemmas.List.{drop_all}
use Rattle.std.proofs.lemmas.Bool.{cases_lt}
use Rattle.std.proofs.Math.ListN.{get_or-append}
use Rattle.std.proofs.Math.Seq.{get_or-append_seam}
use Rattle.graph_core_spec.specs.declared.Next.{Next}
use Rattle.graph_core_spec.specs.declared.Next.TheVariants.{Ret}
use Rattle.graph_core_spec.specs.Graph.{Node}
use Rattle.c_types_spec.specs.Core as tree
use Rattle.c_types_spec.specs.Core.{sequence}
use Rattle.c_types_core.specs.declared.action.Action.{Action}
use Rattle.c_types_core.specs.Actions.{action_of}
use Rattle.c_graph_spec.specs.Layout.{Setting, Exits, size, entry, nodes}
use Rattle.c_graph_layout.specs.Counts.{size_of}
use Rattle.c_graph_layout.specs.Lists.{block_of}
use Rattle.c_graph_layout.proofs.Blocks.{item}
use Rattle.c_graph.specs.Laid.{AreFollowed, block_end, next_at}

-- ---- where statements go on

pub followed_none : (f : Setting) (actions : List Action) (finish : ℕ) (to : Next) (e : Exits) (i : ℕ) (found : List Next) → found ≡ [] → i ≡ length actions → AreFollowed f actions finish to e i found
followed_none f actions finish to e i found none all =
    record {
      many = omega (arith, ap length none);
      each = λ j above within. absurd (omega arith);
    }

pub followed_more : (f : Setting) (actions : List Action) (finish : ℕ) (to : Next) (e : Exits) (i : ℕ) (found : List Next) (next : Next) → i < length actions → AreFollowed f actions finish to e (i + 1) found
    → next ≡ next_at f actions finish to e (i + 1) → AreFollowed f actions finish to e i (found ++ next ∷ [])
followed_more f actions finish to e i found next below h is =
    let many = h.many in
    record {
      many = omega (arith, length-append found (next ∷ []));
      each = λ j above within. elim (cases_lt (i + 1) j) [
        | inl later ↦ (let inside : length actions - j < length found = omega arith in get_or-append found (next ∷ []) Ret (length actions - j) inside ∙ h.each j later within)
        | inr here ↦ (
            let same : i + 1 ≡ j = omega arith in
            let place : length actions - j ≡ length found = omega arith in
            ap (λ (n : ℕ). get_or (found ++ next ∷ []) n Ret) place ∙ get_or-append_seam found next [] Ret ∙ is ∙ ap (next_at f actions finish to e) same)
      ];
    }

-- where the statements from a place on begin
pub next_is : (f : Setting) (actions : List Action) (finish begin : ℕ) (to : Next) (e : Exits) (i : ℕ) (next : Next) → begin + size_of (block_of (drop i actions)) ≡ finish
    → next ≡ entry f (block_of (drop i actions)) begin to e → next ≡ next_at f actions finish to e i
next_is f actions finish begin to e i next begins is =
    let there : begin ≡ finish - size_of (block_of (drop i actions)) = omega arith in
    is ∙ ap (λ (n : ℕ). entry f (block_of (drop i actions)) n to e) there

-- ---- nodes

nodes_first : (f : Setting) (a : tree.Action) (rest : List tree.Action) (at : ℕ) (to : Next) (e : Exits) → nodes f (sequence (a ∷ rest)) at to e
    ≡ nodes f a at (entry f (sequence rest) (at + size f a) to e) e ++ nodes f (sequence rest) (at + size f a) to e
unfolding nodes entry
nodes_first f a [] at to e = sym (append-nil (nodes f a at to e))
nodes_first f a (next ∷ rest) at to e = refl

no_nodes : (f : Setting) (at : ℕ) (to : Next) (e : Exits) → nodes f (sequence []) at to e ≡ []
unfolding nodes
no_nodes f at to e = refl

pub block_past : (f : Setting) (actions : List Action) (i at : ℕ) (to : Next) (e : Exits) → length actions ≤ i → nodes f (block_of (drop i actions)) at to e ≡ []
block_past f actions i at to e past = ap (λ (l : List Action). nodes f (block_of l) at to e) (drop_all i actions past) ∙ no_nodes f at to e

pub block_more : (f : Setting) (actions : List Action) (i begin more finish : ℕ) (x : Action) (to after : Next) (e : Exits) → i < length actions → x ≡ get_or actions i x → more ≡ begin + size f (action_of x)
    → after ≡ next_at f actions finish to e (i + 1) → finish - size_of (block_of (drop (i + 1) actions)) ≡ more
    → nodes f (block_of (drop i actions)) begin to e ≡ nodes f (action_of x) begin after e ++ nodes f (block_of (drop (i + 1) actions)) more to e
block_more f actions i begin more finish x to after e below is there next place =
    let rest : tree.Action = block_of (drop (i + 1) actions) in
    let goes : entry f rest (begin + size f (action_of x)) to e ≡ after =
    ap (λ (n : ℕ). entry f rest n to e) (sym there ∙ sym place) ∙ sym next in
    ap (λ (l : List Action). nodes f (block_of l) begin to e) (item actions i x below is)
    ∙ nodes_first f (action_of x) (map action_of (drop (i + 1) actions)) begin to e
    ∙ ap₂ (λ (n : Next) (l : List Node). nodes f (action_of x) begin n e ++ l) goes (ap (λ (n : ℕ). nodes f rest n to e) (sym there))
