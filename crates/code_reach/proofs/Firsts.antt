-- Which of several faults is the first.
use Rattle.std.proofs.Common.{◌≡◌, ◌⊎◌, ◌<◌, ◌≤◌, ◌==◌, ℕ, Bool, true, false, cond, refl, sym, subst, inl, inr, arith, eqb-true}
use Rattle.std.specs.Prelude.{Option, Some, None, nat_lt, ◌&&◌, ◌||◌}
use Rattle.std.proofs.lemmas.Bool.{ltb-true, ltb-false, eqb-false}
use Rattle.code_reach_spec.specs.declared.CodeKind.{CodeKind}
use Rattle.code_reach_spec.specs.Faults.{IsFirst, rank}
use Rattle.code_reach.specs.Surveys.{IsFirstOf, is_before, earlier}
use Rattle.code_reach.specs.declared.faults.CodeFault.{CodeFault}

test-is : (a b r s : ℕ) → (nat_lt a b || ((a == b) && nat_lt r s)) ≡ true → (a < b) ⊎ ((a ≡ b) × (r < s))
test-is a b r s e = at (nat_lt a b) (a == b) (nat_lt r s) refl refl refl e
  where
    at : (x y z : Bool) → nat_lt a b ≡ x → (a == b) ≡ y → nat_lt r s ≡ z → (x || (y && z)) ≡ true → (a < b) ⊎ ((a ≡ b) × (r < s))
    at true y z lower same lesser e = inl (ltb-true a b lower)
    at false true true lower same lesser e = inr (eqb-true a b same, ltb-true r s lesser)
    at false true false lower same lesser e = absurd (cc)
    at false false z lower same lesser e = absurd (cc)

test-not : (a b r s : ℕ) → (nat_lt a b || ((a == b) && nat_lt r s)) ≡ false → (b < a) ⊎ ((b ≡ a) × (s ≤ r))
test-not a b r s e = at (nat_lt a b) (a == b) (nat_lt r s) refl refl refl e
  where
    at : (x y z : Bool) → nat_lt a b ≡ x → (a == b) ≡ y → nat_lt r s ≡ z → (x || (y && z)) ≡ false → (b < a) ⊎ ((b ≡ a) × (s ≤ r))
    at true y z lower same lesser e = absurd (cc)
    at false true true lower same lesser e = absurd (cc)
    at false true false lower same lesser e = inr (sym (eqb-true a b same), ltb-false r s lesser)
    at false false z lower same lesser e = inl (let apart = eqb-false a b same in let below = ltb-false a b lower in omega (arith, apart, below))

le-trans : (a b c : ℕ) → a ≤ b → b ≤ c → a ≤ c
le-trans a b c l m = omega arith

lt-le : (a b : ℕ) → a < b → a ≤ b
lt-le a b l = omega arith

-- one fault doesn't come after another
abbrev NotAfter : CodeFault → CodeFault → Type 0
NotAfter f g = (f.address < g.address) ⊎ ((f.address ≡ g.address) × (rank f.kind ≤ rank g.kind))

not-after : (g f : CodeFault) → (g.address < f.address) ⊎ ((g.address ≡ f.address) × (rank g.kind < rank f.kind)) → NotAfter g f
not-after g f (inl lower) = inl lower
not-after g f (inr (same, lesser)) = inr (same, lt-le (rank g.kind) (rank f.kind) lesser)

module _ (Win Lose : CodeKind → (address : ℕ) → Type 0) where
  first-of-two : (f g : CodeFault) → IsFirst Win f.kind f.address → IsFirst Lose g.kind g.address → NotAfter f g
      → IsFirst (λ kind address. Win kind address ⊎ Lose kind address) f.kind f.address
  first-of-two f g wins loses order = record {
    fault = inl wins.fault;
    lowest = λ k a either. elim either [ inl x ↦ wins.lowest k a x | inr y ↦ below a (loses.lowest k a y) ];
    least = λ k either. elim either [ inl x ↦ wins.least k x | inr y ↦ there k y order ];
  }
    where
      below : (a : ℕ) → g.address ≤ a → f.address ≤ a
      below a l = elim order [ inl lower ↦ omega (arith, lower, l) | inr same ↦ omega (arith, same.0, l) ]

      there : (k : CodeKind) → Lose k f.address → NotAfter f g → rank f.kind ≤ rank k
      there k y (inl lower) = absurd (omega (arith, lower, loses.lowest k f.address y))
      there k y (inr (same, least)) = le-trans (rank f.kind) (rank g.kind) (rank k) least (loses.least k (subst (λ a. Lose k a) same y))

  first-alone : (f : CodeFault) → IsFirst Win f.kind f.address → ((k : CodeKind) (a : ℕ) → Lose k a → ⊥) → IsFirst (λ kind address. Win kind address ⊎ Lose kind address) f.kind f.address
  first-alone f wins never = record {
    fault = inl wins.fault;
    lowest = λ k a either. elim either [ inl x ↦ wins.lowest k a x | inr y ↦ absurd (never k a y) ];
    least = λ k either. elim either [ inl x ↦ wins.least k x | inr y ↦ absurd (never k f.address y) ];
  }

module _ (F G : CodeKind → (address : ℕ) → Type 0) where
  pub first-as : (kind : CodeKind) (address : ℕ) → ((k : CodeKind) (a : ℕ) → F k a → G k a) → ((k : CodeKind) (a : ℕ) → G k a → F k a)
      → IsFirst F kind address → IsFirst G kind address
  first-as kind address there back first = record {
    fault = there kind address first.fault;
    lowest = λ k a g. first.lowest k a (back k a g);
    least = λ k g. first.least k (back k address g);
  }

  pub first_of-as : (found : Option CodeFault) → ((k : CodeKind) (a : ℕ) → F k a → G k a) → ((k : CodeKind) (a : ℕ) → G k a → F k a)
      → IsFirstOf F found → IsFirstOf G found
  first_of-as None there back none = λ k a g. none k a (back k a g)
  first_of-as (Some f) there back first = first-as f.kind f.address there back first

swapped : (F G : CodeKind → (address : ℕ) → Type 0) (kind : CodeKind) (address : ℕ) → F kind address ⊎ G kind address → G kind address ⊎ F kind address
swapped F G kind address (inl x) = inr x
swapped F G kind address (inr y) = inl y

-- the first of two kinds of faults is the earlier of their first ones
pub first-earlier : (F G : CodeKind → (address : ℕ) → Type 0) (one other : Option CodeFault) → IsFirstOf F one → IsFirstOf G other
    → IsFirstOf (λ kind address. F kind address ⊎ G kind address) (earlier one other)
first-earlier F G None None none nothing = λ k a either. elim either [ inl x ↦ none k a x | inr y ↦ nothing k a y ]
first-earlier F G None (Some g) none first =
    first-as (λ k a. G k a ⊎ F k a) (λ k a. F k a ⊎ G k a) g.kind g.address (swapped G F) (swapped F G) (first-alone G F g first none)
first-earlier F G (Some f) None first none = first-alone F G f first none
first-earlier F G (Some f) (Some g) first second = at (is_before g f) refl
  where
    at : (b : Bool) → is_before g f ≡ b → IsFirstOf (λ kind address. F kind address ⊎ G kind address) (cond b (Some g) (Some f))
    at true e =
        let order = test-is g.address f.address (rank g.kind) (rank f.kind) e in
        first-as (λ k a. G k a ⊎ F k a) (λ k a. F k a ⊎ G k a) g.kind g.address (swapped G F) (swapped F G)
        (first-of-two G F g f second first (not-after g f order))
    at false e = first-of-two F G f g first second (test-not g.address f.address (rank g.kind) (rank f.kind) e)
