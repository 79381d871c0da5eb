-- The choice, its rules taken one by one.
use Rattle.std.proofs.Common.{◌≡◌, Some, None, refl, sym, ◌∙◌, subst}
use Rattle.term_core_spec.specs.declared.UnaryOperator.TheVariants as unary
use Rattle.term_core_spec.specs.Term.{Term, Unary, not_term, choose}
use Rattle.term_norm_spec.specs.Patterns.{under_not}
use Rattle.term_norm_spec.specs.Normal.{arm_or, normal_choose}
use Rattle.term_norm_rules.proofs.Sameness.{under_not-is}

-- an arm or the test, whatever the last rule gives
pub choose_arm : (test x y t : Term) → ((otherwise : Term) → t ≡ arm_or test x y otherwise) → t ≡ normal_choose test x y
unfolding normal_choose
choose_arm (Unary unary.Not c) x y t h = h (normal_choose c y x)
choose_arm test x y t h = h (choose test x y)

-- a negated test turns
pub choose_turned : (test c x y : Term) → Some c ≡ under_not test → ((otherwise : Term) → otherwise ≡ arm_or test x y otherwise) → normal_choose c y x ≡ normal_choose test x y
unfolding normal_choose
choose_turned test c x y e h =
    h (normal_choose c y x)
    ∙ subst (λ t. arm_or t x y (normal_choose c y x) ≡ normal_choose t x y) (sym (under_not-is test c (sym e))) refl

-- any other test stays
pub choose_last : (test x y : Term) → None ≡ under_not test → ((otherwise : Term) → otherwise ≡ arm_or test x y otherwise) → choose test x y ≡ normal_choose test x y
unfolding normal_choose under_not
choose_last (Unary unary.Not c) x y none h = absurd (cc)
choose_last test x y none h = h (choose test x y)
