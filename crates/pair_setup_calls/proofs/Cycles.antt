-- Cycles of calls.
use Rattle.std.proofs.Common.{◌≡◌, ◌⊎◌, ◌+◌, ◌<◌, ℕ, List, length, get_or, refl, sym, ◌∙◌, subst, inl, inr, arith}
use Rattle.std.specs.Prelude.{Contains}
use Rattle.std.proofs.lemmas.List.{get_or_default}
use Rattle.pair_setup_calls.specs.Graph.{Calls, Reaches, itself, further, IsCyclic, IsDepth, deep}

module _ (graph : List (List ℕ)) where
  -- the node calls another one, from which a third is reached
  record FirstCall (node other : ℕ) : Type 0 where
    called : ℕ
    calls : Calls graph node called
    reached : Reaches graph called other

  first_call : (node other : ℕ) → Reaches graph node other → (other ≡ node) ⊎ FirstCall node other
  first_call node _ itself = inl refl
  first_call node _ (further middle other reached call) = inr (at (first_call node middle reached))
    where
      at : (middle ≡ node) ⊎ FirstCall node middle → FirstCall node other
      at (inl e) = record { called = other; calls = subst (λ z. Calls graph z other) e call; reached = itself }
      at (inr f) = record { called = f.called; calls = f.calls; reached = further middle other f.reached call }

  -- a node that reaches a cycle calls one that does
  record CallsCyclic (node : ℕ) : Type 0 where
    called : ℕ
    calls : Calls graph node called
    cyclic : IsCyclic graph called

  calls-cyclic : (node : ℕ) → IsCyclic graph node → CallsCyclic node
  calls-cyclic node c = at (first_call node c.other c.reached)
    where
      round : c.other ≡ node → (c.on_cycle.last ≡ c.other) ⊎ FirstCall c.other c.on_cycle.last → CallsCyclic node
      round e (inl same) = record {
        called = c.other;
        calls = subst (λ z. Calls graph z c.other) (same ∙ e) c.on_cycle.back;
        cyclic = record { other = c.other; reached = itself; on_cycle = c.on_cycle };
      }
      round e (inr f) = record {
        called = f.called;
        calls = subst (λ z. Calls graph z f.called) e f.calls;
        cyclic = record { other = c.other; reached = further c.on_cycle.last c.other f.reached c.on_cycle.back; on_cycle = c.on_cycle };
      }

      at : (c.other ≡ node) ⊎ FirstCall node c.other → CallsCyclic node
      at (inl e) = round e (first_call c.other c.on_cycle.last c.on_cycle.onward)
      at (inr f) = record { called = f.called; calls = f.calls; cyclic = record { other = c.other; reached = f.reached; on_cycle = c.on_cycle } }

  -- a node with a depth reaches no cycle
  pub depth-acyclic : (own : List ℕ) (node depth : ℕ) → IsDepth graph own node depth → IsCyclic graph node → ⊥
  depth-acyclic own _ _ (deep node deepest below depths greatest) cyclic =
      let next = calls-cyclic node cyclic in
      depth-acyclic own next.called (below next.called) (depths next.called next.calls) next.cyclic

-- ---- the nodes looked at so far

-- none of the first so many has the property
abbrev pub NoneBelow : (P : ℕ → Type 0) (items : List ℕ) (count : ℕ) → Type 0
NoneBelow P items count = (k : ℕ) → k < count → P (get_or items k 0) → ⊥

pub none-more : (P : ℕ → Type 0) (items : List ℕ) (index here : ℕ) → here ≡ get_or items index 0 → NoneBelow P items index → (P here → ⊥) → NoneBelow P items (index + 1)
none-more P items index here is none not_here k below p = elim (split k below) [
  | inl before ↦ none k before p
  | inr e ↦ not_here (subst P (subst (λ j. get_or items j 0 ≡ here) (sym e) (sym is)) p)
]
  where
    split : (k : ℕ) → k < index + 1 → (k < index) ⊎ (k ≡ index)
    split k below = grind (arith, below)

pub none-all : (P : ℕ → Type 0) (items : List ℕ) (index : ℕ) → index ≡ length items → NoneBelow P items index → (t : ℕ) → Contains items t → P t → ⊥
none-all P items index e none t (k, below, here) p =
    none k (omega (arith, below, e)) (subst P (sym (sym (get_or_default items k t 0 below) ∙ here)) p)
