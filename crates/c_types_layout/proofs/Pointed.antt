-- Types with pointers round them.
use Rattle.std.proofs.Common.{◌≡◌, ℕ, zero, suc, ◌+◌, ◌<◌, ◌≤◌, refl, sym, ◌∙◌, ap, arith}
use Rattle.c_types_spec.specs.Types as tree
use Rattle.c_types_layout.specs.Types.{pointed}

pub same-pointed : (n : ℕ) (a b : tree.CType) → tree.same_type (pointed n a) (pointed n b) ≡ tree.same_type a b
unfolding tree.same_type
same-pointed zero a b = refl
same-pointed (suc n) a b = same-pointed n a b

-- how many layers a type has
abbrev pub depth : tree.CType → ℕ
depth tree.Void = 0
depth (tree.Integer scalar) = 0
depth (tree.Pointer target) = suc (depth target)
depth (tree.Array length element) = suc (depth element)
depth (tree.Struct number) = 0

pub depth-pointed : (n : ℕ) (type : tree.CType) → depth type ≤ depth (pointed n type)
depth-pointed zero type = omega arith
depth-pointed (suc n) type = let h = depth-pointed n type in omega arith

-- so many pointers round so many others
pub pointed-pointed : (m n all : ℕ) (type : tree.CType) → m + n ≡ all → pointed m (pointed n type) ≡ pointed all type
pointed-pointed zero n all type e = ap (λ k. pointed k type) (let h : n ≡ all = omega arith in h)
pointed-pointed (suc m) n zero type e = absurd (omega arith)
pointed-pointed (suc m) n (suc all) type e = ap tree.Pointer (pointed-pointed m n all type (omega arith))

module _ (n : ℕ) where
  -- so many pointers and one are taken off
  pub same-within : (a b s t left right : tree.CType) → pointed n a ≡ s → pointed n b ≡ t → tree.Pointer s ≡ left → tree.Pointer t ≡ right → tree.same_type a b ≡ tree.same_type left right
  same-within a b s t left right e f g h =
      sym (same-pointed (suc n) a b)
      ∙ ap (λ x. tree.same_type x (tree.Pointer (pointed n b))) (ap tree.Pointer e ∙ g)
      ∙ ap (λ y. tree.same_type left y) (ap tree.Pointer f ∙ h)

  pub smaller-within : (a s left : tree.CType) → pointed n a ≡ s → tree.Pointer s ≡ left → depth a < depth left
  smaller-within a s left e g =
      let one : suc (depth (pointed n a)) ≡ depth left = ap depth (ap tree.Pointer e ∙ g) in
      omega (arith, one, depth-pointed n a)
