-- A state with one more index.
use Rattle.std.proofs.Common.{◌≡◌, ℕ, ◌<◌, Bool, true, false, Option, Some, None, cond, refl, sym, subst, ap}
use Rattle.std.specs.Option.{unwrap_or}

-- where the new index and an old one are below a number, so is the one that is chosen
pub below_chosen : (test : Bool) (size id i : ℕ) (old : Option ℕ) → id < size → (old ≡ Some i → i < size)
    → cond test (Some id) old ≡ Some i → i < size
below_chosen true size id i old new was e = subst (λ n. n < size) (ap (λ o. unwrap_or o 0) e) new
below_chosen false size id i old new was e = was e
