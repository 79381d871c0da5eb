-- Digits twice as many.
use Rattle.std.specs.Prelude.{◌*◌}
use Rattle.std.proofs.Common.{◌≡◌, ℕ, ◌+◌, ◌<◌, List, Ok, Err, refl, ap, sym, ◌∙◌, subst, arith}
use Rattle.cert_text_laws.specs.Readers.{given, refused, read_hexadecimal, read_address}
use Rattle.attempt.specs.declared.refusal.Refusal.{Refusal}
use Rattle.attempt.specs.declared.refusal.Refusal.TheVariants.{Fault, NoMemory}
use Rattle.cert_text_parse.specs.declared.stopped.TextFault.{TextFault}
use Rattle.cert_text_parse.specs.declared.stopped.TextFault.TheVariants.{Wrong}
use Rattle.cert_text_parse.specs.declared.cursor.Cursor.{Cursor}
use Rattle.cert_text_parse.specs.Outcomes.{Parses, Takes}

twice : (digits more : ℕ) → digits + (digits + more) ≡ digits + digits + more
twice digits more = omega arith

module _ (digits bound : ℕ) (old middle new : Cursor) where
  pub first_fails : (e : Refusal TextFault) → Takes digits bound old new (Err e) → Takes (digits + digits) (bound * bound) old new (Err e)
  first_fails NoMemory h = h
  first_fails (Fault Wrong) h = λ more value. ap (λ n. read_hexadecimal n value old.rest.now) (sym (twice digits more)) ∙ h (digits + more) value

  module _ (high : ℕ) (one : Takes digits bound old middle (Ok high)) where
    pub second_fails : (e : Refusal TextFault) → Takes digits bound middle new (Err e) → Takes (digits + digits) (bound * bound) old new (Err e)
    second_fails NoMemory h = h
    second_fails (Fault Wrong) h = λ more value. ap (λ n. read_hexadecimal n value old.rest.now) (sym (twice digits more)) ∙ one.1 (digits + more) value ∙ h more (value * bound + high)

    pub both_taken : (low : ℕ) → high * bound + low < bound * bound → ((v : ℕ) → (v * bound + high) * bound + low ≡ v * (bound * bound) + (high * bound + low))
        → Takes digits bound middle new (Ok low) → Takes (digits + digits) (bound * bound) old new (Ok (high * bound + low))
    both_taken low small sum two = (
      small,
      λ more value. ap (λ n. read_hexadecimal n value old.rest.now) (sym (twice digits more)) ∙ one.1 (digits + more) value ∙ two.1 more (value * bound + high)
          ∙ ap (λ n. read_hexadecimal more n new.rest.now) (sum value),
    )

module _ (bound : ℕ) (old new : Cursor) where
  pub address_taken : (d : ℕ) → Takes 8 bound old new (Ok d) → Parses read_address old new (Ok d)
  address_taken d h = h.1 0 0 ∙ ap (λ n. given n new.rest.now) (zero_more d)
    where
      zero_more : (d : ℕ) → 0 * bound + d ≡ d
      zero_more d = omega arith

  pub address_fails : (e : Refusal TextFault) → Takes 8 bound old new (Err e) → Parses read_address old new (Err e)
  address_fails NoMemory h = tt
  address_fails (Fault Wrong) h = h 0 0
