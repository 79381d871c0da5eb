-- What a call gives where it gives anything, at what is equal.
use Rattle.std.proofs.Common.{◌≡◌, IfOk, subst}
use Rattle.std.specs.Prelude.{Result}

pub at_equal : {A E X : Type 0} (r : Result A E) (f : A → X) (x y : X) → IfOk r (λ a. f a ≡ x) → x ≡ y → IfOk r (λ a. f a ≡ y)
at_equal r f x y given same = subst (λ z. IfOk r (λ a. f a ≡ z)) same given
