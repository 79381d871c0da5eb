-- The bytes of a range, one after the other.
use Rattle.std.proofs.Common.{◌≡◌, ◌⊎◌, ◌+◌, ℕ, IsSome, arith, subst, sym, inl, inr}
use Rattle.elf_read_spec.specs.Image.{Image, fixed_byte}
use Rattle.code_reach_spec.specs.Code.{InRange}

pub none_yet : (image : Image) (entry address : ℕ) → InRange entry 0 address → IsSome (fixed_byte image address)
none_yet image entry address r = absurd (omega (arith, r.from, r.below))

last_or_before : (entry k address : ℕ) → InRange entry (k + 1) address → InRange entry k address ⊎ (address ≡ entry + k)
last_or_before entry k address r = grind (arith, r.from, r.below)

pub one_more : (image : Image) (entry k : ℕ) → ((address : ℕ) → InRange entry k address → IsSome (fixed_byte image address))
    → IsSome (fixed_byte image (entry + k)) → (address : ℕ) → InRange entry (k + 1) address → IsSome (fixed_byte image address)
one_more image entry k before here address r =
    elim (last_or_before entry k address r) [
      | inl earlier ↦ before address earlier
      | inr e ↦ subst (λ a. IsSome (fixed_byte image a)) (sym e) here
    ]
