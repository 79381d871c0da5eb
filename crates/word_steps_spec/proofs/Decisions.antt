-- What a rule decides of a term is a truth value or a word, and no variable.
use Rattle.std.proofs.Common.{◌≡◌, ℕ, ◌%◌, ◌^◌, Bool, true, false, cond, List, [], ◌∷◌, Option, Some, None, option_and_then, subst}
use Rattle.std.specs.Prelude.{◌==◌, ◌&&◌}
use Rattle.std.proofs.lemmas.Option.{same_Some}
use Rattle.term_core_spec.specs.declared.Width.{Width}
use Rattle.term_core_spec.specs.declared.Atom.{Atom}
use Rattle.term_core_spec.specs.declared.Atom.TheVariants as atom
use Rattle.term_core_spec.specs.Term.{Term}
use Rattle.term_core_spec.specs.Sort.{bits}
use Rattle.term_norm_spec.specs.Patterns.{width_of}
use Rattle.word_steps_spec.specs.Polynomial.{is_empty, is_only_constant}
use Rattle.word_steps_spec.specs.Sides.{Sides, are_words, sides_of}
use Rattle.word_steps_spec.specs.Ring.{difference, decided_by_sides, decided_by_polynomials}
use Rattle.word_steps_spec.specs.Bitwise.{pairs_of, has_none, has_opposite, decided_by_pairs, decided_by_bits}
use Rattle.word_steps_spec.specs.Order.{Bounds, equality_by_bounds, order_by_bounds, order_of, by_sides, else_by, decided_by_bounds}
use Rattle.word_steps_spec.specs.LowBits.{decided_by_low_of, decided_by_low}
use Rattle.word_steps_spec.specs.Ranges.{Range, as_of, range_of, decided_inside, decided_as, known_range, decided_with, decided_by_range}
use Rattle.word_steps_spec.specs.Zones.{window_range, decided_by_window, decided_within}
use Rattle.word_steps_spec.specs.Spans.{Span, span_of, only_word, equality_by_span, order_by_span, decided_by_fit}
use Rattle.word_steps_spec.specs.Lines.{DecisionRule, RingOf, BitsOf, LowOf, RangeOf, WithinOf, FitOf, decided_by}

-- a constant
pub data IsConstant : Atom → Type 0 where
  a_truth : (b : Bool) → IsConstant (atom.Truth b)
  a_word : (width : Width) → (n : ℕ) → IsConstant (atom.Constant width n)

module _ (c : Atom) where
  abbrev Settles : Option Atom → Type 0
  Settles o = o ≡ Some c → IsConstant c

  nothing : Settles None
  nothing e = absurd (cc)

  choice : (test b : Bool) (o : Option Atom) → Settles o → Settles (cond test (Some (atom.Truth b)) o)
  choice true b o f e = subst IsConstant (same_Some (atom.Truth b) c e) (a_truth b)
  choice false b o f e = f e

  choices : (p q a b : Bool) → Settles (cond p (Some (atom.Truth a)) (cond q (Some (atom.Truth b)) None))
  choices p q a b = choice p a (cond q (Some (atom.Truth b)) None) (choice q b None nothing)

  then : {X : Type 0} (f : X → Option Atom) (o : Option X) → ((x : X) → Settles (f x)) → Settles (option_and_then f o)
  then f (Some x) h e = h x e
  then f None h e = absurd (cc)

  either : (o p : Option Atom) → Settles o → Settles p → Settles (else_by o p)
  either (Some a) p f g e = f e
  either None p f g e = g e

  -- ---- the rules

  by_polynomials : (o : Option Sides) → Settles (decided_by_sides o)
  by_polynomials (Some s) = choices (is_empty (difference s.left s.right)) (is_only_constant (bits (width_of s.left)) (difference s.left s.right)) true false
  by_polynomials None = nothing

  by_pairs : (o : Option Sides) → Settles (decided_by_pairs o)
  by_pairs (Some s) = choices (has_none (pairs_of s)) (has_opposite (pairs_of s)) true false
  by_pairs None = nothing

  by_bounds : (decide : Bounds → Bounds → Option Atom) → ((b d : Bounds) → Settles (decide b d)) → (o : Option Sides) → Settles (by_sides decide o)
  by_bounds decide h (Some s) = h _ _
  by_bounds decide h None = nothing

  by_low : (facts : List Term) (o : Option Sides) → Settles (decided_by_low_of facts o)
  by_low facts (Some s) = choice _ false None nothing
  by_low facts None = nothing

  by_inside : (q r : Range) → Settles (decided_inside q r)
  by_inside q r = choices _ _ true false

  by_ranges : (facts : List Term) (r : Range) → Settles (decided_with facts r)
  by_ranges facts r = then (decided_as r) (known_range facts r) (λ q. then (λ k. decided_inside k r) (as_of r q) (λ k. by_inside k r))

  by_windows : (facts : List Term) (fact x : Term) → Settles (decided_by_window facts fact x)
  by_windows facts fact x = then (decided_with (fact ∷ [])) (window_range facts x) (by_ranges (fact ∷ []))

  within : (facts : List Term) (x : Term) → Settles (decided_within facts x)
  unfolding decided_within
  within [] x = nothing
  within (fact ∷ []) x = by_windows [] fact x
  within (low ∷ fact ∷ []) x = by_windows (low ∷ []) fact x
  within (a ∷ b ∷ d ∷ facts) x = nothing

  only : (x : Term) (s : Span) → Settles (only_word x s)
  only x s = by (are_words x x && s.width == 0)
    where
      by : (test : Bool) → Settles (cond test (Some (atom.Constant (width_of x) (s.first % 2 ^ bits (width_of x)))) None)
      by true e = subst IsConstant (same_Some (atom.Constant (width_of x) (s.first % 2 ^ bits (width_of x))) c e) (a_word (width_of x) (s.first % 2 ^ bits (width_of x)))
      by false e = absurd (cc)

  by_span : (facts : List Term) (o : Option Sides) → Settles (equality_by_span facts o)
  by_span facts (Some s) = choice _ false None nothing
  by_span facts None = nothing

  by_spans : (facts : List Term) (o : Option Sides) → Settles (order_by_span facts o)
  by_spans facts (Some s) = choices _ _ true false
  by_spans facts None = nothing

  fit : (facts : List Term) (x : Term) → Settles (decided_by_fit facts x)
  unfolding decided_by_fit
  fit facts x =
      either (only_word x (span_of facts x)) (else_by (equality_by_span facts (sides_of x)) (order_by_span facts (order_of x))) (only x (span_of facts x))
      (either (equality_by_span facts (sides_of x)) (order_by_span facts (order_of x)) (by_span facts (sides_of x)) (by_spans facts (order_of x)))

  pub decides_constants : (rule : DecisionRule) (facts : List Term) (x : Term) → decided_by rule facts x ≡ Some c → IsConstant c
  unfolding decided_by decided_by_polynomials decided_by_bits decided_by_bounds decided_by_low decided_by_range
  decides_constants RingOf [] x = by_polynomials (sides_of x)
  decides_constants BitsOf [] x =
      either (decided_by_bits x) (decided_by_bounds x) (by_pairs (sides_of x))
      (either (by_sides equality_by_bounds (sides_of x)) (by_sides order_by_bounds (order_of x)) (by_bounds equality_by_bounds (λ b d. choices _ _ true false) (sides_of x))
      (by_bounds order_by_bounds (λ b d. choices _ _ true false) (order_of x)))
  decides_constants LowOf facts x = by_low facts (sides_of x)
  decides_constants RangeOf facts x = then (decided_with facts) (range_of x) (by_ranges facts)
  decides_constants WithinOf facts x = within facts x
  decides_constants FitOf facts x = fit facts x
  decides_constants RingOf (f ∷ facts) x = nothing
  decides_constants BitsOf (f ∷ facts) x = nothing
