-- Where nothing was taken from another bank, all that was taken is right.
use Rattle.std.proofs.Common.{◌≡◌, ◌∙◌, ℕ, List, Option, Some, None, sym}
use Rattle.term_core_spec.specs.Term.{Term}
use Rattle.term_core_spec.specs.Substitution.{State}
use Rattle.term_substitution.specs.Transfers.{AreTaken, AreWithin}
use Rattle.path_cond.specs.States.{IsUntaken}

module _ (done : ℕ → Option ℕ) (none : IsUntaken done) where
  never : (id index : ℕ) → done id ≡ Some index → ⊥
  never id index is = let bad : None ≡ Some index = sym (none id) ∙ is in cc

pub untaken_within : (n : ℕ) (done : ℕ → Option ℕ) → IsUntaken done → AreWithin n done
untaken_within n done none id index is = absurd (never done none id index is)

pub untaken_taken : (terms : State) (from trees : List Term) (done : ℕ → Option ℕ) → IsUntaken done → AreTaken terms from trees done
untaken_taken terms from trees done none id index is = absurd (never done none id index is)
