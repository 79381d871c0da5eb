-- Marks that are set.
use Rattle.std.proofs.Common.{◌≡◌, ◌∙◌, ℕ, ◌+◌, ◌<◌, ◌≤◌, Bool, true, false, List, [], ◌∷◌, ◌++◌, length, get_or, take, replicate, set, subst, arith, refl, sym, ap, eqb-true}
use Rattle.std.specs.Prelude.{nat_eq, ◌||◌}
use Rattle.std.specs.List.{list_any}
use Rattle.std.specs.Cmp.{nat_eq_equiv}
use Rattle.std.proofs.lemmas.List.{get_or-set_other, get_or_past, get_or-replicate, take_more, take_all}
use Rattle.std.specs.List.{All}
use Rattle.std.proofs.lemmas.List.Elements.{All-nil, All-cons, All-append, All-weaker}
use Rattle.std.proofs.lemmas.Grind.{get_or-set_at}
use Rattle.term_core_spec.specs.Term.{Term}
use Rattle.term_bank.specs.Nodes.{tree_at}
use Rattle.term_bank.proofs.Growth.{within_added}
use Rattle.graph_inline.specs.Marks.{is_marked, AreClosed, MoreMarked, OutputsMarked, arguments}
use Rattle.graph_core.specs.declared.shared.SharedBinding.{SharedBinding}
use Rattle.graph_core.specs.declared.shared.SharedNode.{SharedNode}
use Rattle.graph_core.specs.declared.shared.SharedNode.TheVariants as node

clash : {b : Bool} → b ≡ true → b ≡ false → ⊥
clash x y = cc

pub set_marked : (marks : List Bool) (id k : ℕ) → id < length marks → is_marked (set marks id true) k ≡ (nat_eq k id || is_marked marks k)
set_marked marks id k less = by (nat_eq k id) refl
  where
    by : (b : Bool) → nat_eq k id ≡ b → is_marked (set marks id true) k ≡ (b || is_marked marks k)
    by true e = get_or-set_at marks id k true false (eqb-true k id e) less
    by false e = get_or-set_other marks id k true false (λ same. clash (ap (λ (j : ℕ). nat_eq j id) same ∙ nat_eq_equiv.refl id) e)

pub one_or_rest : (a b c : Bool) → (b || (a || c)) ≡ ((a || b) || c)
one_or_rest true true c = refl
one_or_rest true false c = refl
one_or_rest false b c = refl

-- ---- all, and none

-- past the last one nothing is marked
pub closed_at_end : (trees : List Term) (marks : List Bool) → length marks ≡ length trees → AreClosed (length trees) trees marks
closed_at_end trees marks count id past marked = absurd (clash marked (get_or_past marks id false (omega (arith, past, count))))

pub all_closed : (trees : List Term) → AreClosed 0 trees (replicate (length trees) true)
all_closed trees id past marked = λ k d less i at. get_or-replicate (length trees) i true false (within_added trees i (get_or (arguments (tree_at trees id)) k d) at)

-- ---- of each node

outputs_more : (old new : List Bool) → MoreMarked old new → (n : SharedNode) → OutputsMarked old n → OutputsMarked new n
outputs_more old new more (node.Basic bindings to) h = tt
outputs_more old new more (node.Cond test on_true on_false) h = tt
outputs_more old new more (node.Call callee inputs outputs landing) h =
    All-weaker (λ (b : SharedBinding). is_marked old b.term ≡ true) (λ (b : SharedBinding). is_marked new b.term ≡ true) (λ b marked. more b.term marked) outputs.items h

pub node_marked : (old new : List Bool) (nodes : List SharedNode) (i : ℕ) (n : SharedNode) → i < length nodes → n ≡ get_or nodes i n → All (OutputsMarked old) (take i nodes)
    → MoreMarked old new → OutputsMarked new n → All (OutputsMarked new) (take (i + 1) nodes)
node_marked old new nodes i n less is before more here =
    subst (All (OutputsMarked new)) (sym (take_more nodes i n less ∙ ap (λ (x : SharedNode). take i nodes ++ x ∷ []) (sym is)))
    (All-append (OutputsMarked new) (take i nodes) (n ∷ []) (All-weaker (OutputsMarked old) (OutputsMarked new) (outputs_more old new more) (take i nodes) before)
    (All-cons (OutputsMarked new) n [] here (All-nil (OutputsMarked new))))

pub all_at_end : {X : Type 0} (P : X → Type 0) (xs : List X) (i : ℕ) → length xs ≤ i → All P (take i xs) → All P xs
all_at_end P xs i past all = subst (All P) (take_all i xs past) all
