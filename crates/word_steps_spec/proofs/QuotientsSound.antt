-- What the rule `quot` accepts has one value.
use Rattle.std.proofs.Common.{◌≡◌, true, List, sym, ◌∙◌}
use Rattle.std.specs.Prelude.{◌||◌}
use Rattle.std.specs.List.{AllByRecursion}
use Rattle.term_core_spec.specs.Term.{Term}
use Rattle.term_core_spec.specs.Sort.{sort_of}
use Rattle.term_core_spec.specs.Value.{Truth, Assignment, IsAssignment, value}
use Rattle.term_norm_spec.proofs.Equals.{Alike, truths, words}
use Rattle.word_steps_spec.specs.Order.{order_of}
use Rattle.word_steps_spec.specs.Quotients.{is_written, is_signed_division, truncated_of, divided_of, is_divisor_test, is_signed_divisor_test, is_any_divisor_test, same_by_quotient}
use Rattle.word_steps_spec.proofs.CommHolds.{either_test}
use Rattle.word_steps_spec.proofs.QuotientsHold.{written_sound, divisor_sound}
use Rattle.word_steps_spec.proofs.SignedHold.{signed_division_sound}
use Rattle.word_steps_spec.proofs.SignedDivisors.{signed_divisor_sound}

module _ (assignment : Assignment) (assigns : IsAssignment assignment) where
  alike_sorts : (t u : Term) → Alike t u → sort_of t ≡ sort_of u
  alike_sorts t u (truths ht hu) = ht ∙ sym hu
  alike_sorts t u (words w ht hu) = ht ∙ sym hu

  turned_alike : (t u : Term) → Alike t u → Alike u t
  turned_alike t u (truths ht hu) = truths hu ht
  turned_alike t u (words w ht hu) = words w hu ht

  any_divisor_sound : (t u : Term) → sort_of t ≡ sort_of u → is_any_divisor_test (order_of t) (divided_of u) ≡ true → value assignment t ≡ value assignment u
  any_divisor_sound t u same h =
      either_test (is_divisor_test (order_of t) (divided_of u)) (is_signed_divisor_test (order_of t) (divided_of u)) h
      (λ g. divisor_sound assignment assigns t u same g) (λ g. signed_divisor_sound assignment assigns t u same g)

  pub quotient_sound : (facts : List Term) (t u : Term) → AllByRecursion (λ t. value assignment t ≡ Truth true) facts → Alike t u → same_by_quotient facts t u ≡ true → value assignment t ≡ value assignment u
  unfolding same_by_quotient
  quotient_sound facts t u are alike e =
      either_test (is_written facts t u) (is_written facts u t || (is_signed_division facts t (truncated_of u) || (is_signed_division facts u (truncated_of t)
      || (is_any_divisor_test (order_of t) (divided_of u) || is_any_divisor_test (order_of u) (divided_of t))))) e
      (λ h. written_sound assignment assigns facts t u are alike h)
      (λ f.
      either_test (is_written facts u t)
      (is_signed_division facts t (truncated_of u) || (is_signed_division facts u (truncated_of t) || (is_any_divisor_test (order_of t) (divided_of u) || is_any_divisor_test (order_of u) (divided_of t)))) f
      (λ h. sym (written_sound assignment assigns facts u t are (turned_alike t u alike) h))
      (λ g.
      either_test (is_signed_division facts t (truncated_of u))
      (is_signed_division facts u (truncated_of t) || (is_any_divisor_test (order_of t) (divided_of u) || is_any_divisor_test (order_of u) (divided_of t))) g
      (λ h. signed_division_sound assignment assigns facts t u are (alike_sorts t u alike) h)
      (λ k.
      either_test (is_signed_division facts u (truncated_of t)) (is_any_divisor_test (order_of t) (divided_of u) || is_any_divisor_test (order_of u) (divided_of t)) k
      (λ h. sym (signed_division_sound assignment assigns facts u t are (sym (alike_sorts t u alike)) h))
      (λ j.
      either_test (is_any_divisor_test (order_of t) (divided_of u)) (is_any_divisor_test (order_of u) (divided_of t)) j
      (λ h. any_divisor_sound t u (alike_sorts t u alike) h) (λ h. sym (any_divisor_sound u t (sym (alike_sorts t u alike)) h))))))
