-- Depth-first walks of small graphs, computed.
use Rattle.std.proofs.Common.{◌≡◌, ◌||◌, ℕ, zero, suc, Bool, true, false, List, [], ◌∷◌, ◌++◌, Option, Some, None, refl, sym, ap, subst, eqb-true}
use Rattle.std.specs.Prelude.{Contains, nat_eq}
use Rattle.std.specs.Cmp.{nat_eq_equiv}
use Rattle.std.specs.List.{list_any}
use Rattle.std.proofs.lemmas.Map.Views.{list_any-from_Contains}
use Rattle.std.proofs.lemmas.Option.{same_Some}
use Rattle.visit_walk_spec.proofs.Members.{contained_here, contained_later}
use Rattle.loop_find_spec.specs.Loops.{Walks, done, again, back, first}

abbrev Lists : Type 0
Lists = List ℕ × List ℕ

-- ---- members

abbrev pub has : List ℕ → ℕ → Bool
has xs x = list_any (nat_eq x) xs

pub there : (xs : List ℕ) (x : ℕ) → has xs x ≡ true → Contains xs x
there [] x e = absurd (cc)
there (y ∷ xs) x e = by (nat_eq x y) refl (λ later. there xs x later) e
  where
    by : (b : Bool) → nat_eq x y ≡ b → (has xs x ≡ true → Contains xs x) → (b || has xs x) ≡ true → Contains (y ∷ xs) x
    by true same rest e = subst (λ z. Contains (y ∷ xs) z) (sym (eqb-true x y same)) (contained_here y xs)
    by false same rest e = contained_later y xs x (rest e)

pub not_there : (xs : List ℕ) (x : ℕ) → has xs x ≡ false → Contains xs x → ⊥
not_there xs x e c = let is = list_any-from_Contains nat_eq_equiv x xs c in cc

-- ---- a walk with so much fuel

abbrev pick : Bool → (f g : Unit {0} → Option Lists) → Option Lists
pick true f g = f tt
pick false f g = g tt

abbrev with_heads : List ℕ → Option Lists → Option Lists
with_heads heads None = None
with_heads heads (Some p) = Some (p.0, heads ++ p.1)

abbrev then_rest : Option Lists → (List ℕ → Option Lists) → Option Lists
then_rest None rest = None
then_rest (Some inner) rest = with_heads inner.1 (rest inner.0)

module _ (nexts : ℕ → List ℕ) where
  abbrev pub walked : (fuel : ℕ) → (way left todo : List ℕ) → Option Lists
  walked zero way left todo = None
  walked (suc fuel) way left [] = Some (left, [])
  walked (suc fuel) way left (x ∷ todo) =
      pick (has left x) (λ _. walked fuel way left todo)
      (λ _. pick (has way x) (λ _. with_heads (x ∷ []) (walked fuel way left todo))
      (λ _. then_rest (walked fuel (x ∷ way) left (nexts x)) (λ middle. walked fuel way (x ∷ middle) todo)))

  abbrev IsSound : ℕ → Type 0
  IsSound fuel = (way left todo out heads : List ℕ) → walked fuel way left todo ≡ Some (out, heads) → Walks nexts way left todo out heads

  parts : (heads : List ℕ) (o : Option Lists) (out all : List ℕ) → with_heads heads o ≡ Some (out, all)
      → (rest : List ℕ) × (o ≡ Some (out, rest)) × (heads ++ rest ≡ all)
  parts heads None out all e = absurd (cc)
  parts heads (Some p) out all e =
      let same : (p.0, heads ++ p.1) ≡ (out, all) = same_Some (p.0, heads ++ p.1) (out, all) e in
      (p.1, ap (λ (o : List ℕ). Some (o, p.1)) (ap (λ (q : Lists). q.0) same), ap (λ (q : Lists). q.1) same)

  to_back : (fuel : ℕ) → IsSound fuel → (x : ℕ) (way left todo out heads : List ℕ) → Contains way x
      → with_heads (x ∷ []) (walked fuel way left todo) ≡ Some (out, heads) → Walks nexts way left (x ∷ todo) out heads
  to_back fuel ih x way left todo out heads c e =
      let p = parts (x ∷ []) (walked fuel way left todo) out heads e in
      subst (λ (h : List ℕ). Walks nexts way left (x ∷ todo) out h) p.2 (back x way left todo out p.0 c (ih way left todo out p.0 p.1))

  to_first : (fuel : ℕ) → IsSound fuel → (x : ℕ) (way left todo out heads : List ℕ) → (Contains left x → ⊥) → (Contains way x → ⊥)
      → (inner : Option Lists) → walked fuel (x ∷ way) left (nexts x) ≡ inner
      → then_rest inner (λ middle. walked fuel way (x ∷ middle) todo) ≡ Some (out, heads) → Walks nexts way left (x ∷ todo) out heads
  to_first fuel ih x way left todo out heads new off None is e = absurd (cc)
  to_first fuel ih x way left todo out heads new off (Some inner) is e =
      let p = parts inner.1 (walked fuel way (x ∷ inner.0) todo) out heads e in
      subst (λ (h : List ℕ). Walks nexts way left (x ∷ todo) out h) p.2
      (first x way left inner.0 todo out inner.1 p.0 new off (ih (x ∷ way) left (nexts x) inner.0 inner.1 is) (ih way (x ∷ inner.0) todo out p.0 p.1))

  to_new : (fuel : ℕ) → IsSound fuel → (x : ℕ) (way left todo out heads : List ℕ) → (Contains left x → ⊥) → (b : Bool) → has way x ≡ b
      → pick b (λ _. with_heads (x ∷ []) (walked fuel way left todo))
      (λ _. then_rest (walked fuel (x ∷ way) left (nexts x)) (λ middle. walked fuel way (x ∷ middle) todo)) ≡ Some (out, heads)
      → Walks nexts way left (x ∷ todo) out heads
  to_new fuel ih x way left todo out heads new true is e = to_back fuel ih x way left todo out heads (there way x is) e
  to_new fuel ih x way left todo out heads new false is e =
      to_first fuel ih x way left todo out heads new (not_there way x is) (walked fuel (x ∷ way) left (nexts x)) refl e

  to_any : (fuel : ℕ) → IsSound fuel → (x : ℕ) (way left todo out heads : List ℕ) → (b : Bool) → has left x ≡ b
      → pick b (λ _. walked fuel way left todo) (λ _. pick (has way x) (λ _. with_heads (x ∷ []) (walked fuel way left todo))
      (λ _. then_rest (walked fuel (x ∷ way) left (nexts x)) (λ middle. walked fuel way (x ∷ middle) todo))) ≡ Some (out, heads)
      → Walks nexts way left (x ∷ todo) out heads
  to_any fuel ih x way left todo out heads true is e = again x way left todo out heads (there left x is) (ih way left todo out heads e)
  to_any fuel ih x way left todo out heads false is e = to_new fuel ih x way left todo out heads (not_there left x is) (has way x) refl e

  -- what is computed is a walk
  pub walks : (fuel : ℕ) → IsSound fuel
  walks zero way left todo out heads e = absurd (cc)
  walks (suc fuel) way left [] out heads e =
      subst (λ (q : Lists). Walks nexts way left [] q.0 q.1) (same_Some (left, []) (out, heads) e) (done way left)
  walks (suc fuel) way left (x ∷ todo) out heads e = to_any fuel (walks fuel) x way left todo out heads (has left x) refl e
