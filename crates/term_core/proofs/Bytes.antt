-- The number of four bytes and of those above them.
use Rattle.std.proofs.Common.{◌≡◌, ℕ, ◌+◌, ◌*◌, ◌^◌, List, [], ◌∷◌, Option, Some, None, option_map, option_and_then, refl, ap, arith}
use Rattle.term_core_spec.specs.declared.Width.{Width}
use Rattle.term_core_spec.specs.declared.Width.TheVariants.{W64}
use Rattle.term_core_spec.specs.Value.{Value, byte_of, number_of_bytes, word_or_stray, joined}
use Rattle.term_core.specs.Values.{four_more}

-- one byte, and those above it
abbrev more : Option ℕ → Option ℕ → Option ℕ
more x rest = option_and_then (λ byte. option_map (λ number. byte + 2 ^ 8 * number) rest) x

fours : (a b c d o : Option ℕ) → more a (more b (more c (more d o))) ≡ four_more (more a (more b (more c (more d (Some 0))))) o
fours None b c d o = refl
fours (Some a) None c d o = refl
fours (Some a) (Some b) None d o = refl
fours (Some a) (Some b) (Some c) None o = refl
fours (Some a) (Some b) (Some c) (Some d) None = refl
fours (Some a) (Some b) (Some c) (Some d) (Some n) = ap Some (omega arith)

pub joined_four : (width : Width) (a b c d : Option ℕ) (high : List (Option ℕ)) → word_or_stray width (number_of_bytes (a ∷ b ∷ c ∷ d ∷ high)) ≡ word_or_stray width (four_more (number_of_bytes (a ∷ b ∷ c ∷ d ∷ [])) (number_of_bytes high))
joined_four width a b c d high = ap (word_or_stray width) (fours a b c d (number_of_bytes high))

-- the bytes of eight values are joined
pub joined_values : (a b c d e f g h : Option ℕ) (s t u v w x y z : Value)
    → a ≡ byte_of s → b ≡ byte_of t → c ≡ byte_of u → d ≡ byte_of v → e ≡ byte_of w → f ≡ byte_of x → g ≡ byte_of y → h ≡ byte_of z
    → word_or_stray W64 (number_of_bytes (a ∷ b ∷ c ∷ d ∷ e ∷ f ∷ g ∷ h ∷ [])) ≡ joined W64 (s ∷ t ∷ u ∷ v ∷ w ∷ x ∷ y ∷ z ∷ [])
joined_values a b c d e f g h s t u v w x y z pa pb pc pd pe pf pg ph = rw (pa, pb, pc, pd, pe, pf, pg, ph) refl
