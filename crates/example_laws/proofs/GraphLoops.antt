-- Transition systems that end alike or unlike.
use Rattle.std.proofs.Common.{◌≡◌, ℕ, zero, suc, ◌<◌, ◌==◌, ◌||◌, Bool, true, false, [], refl, ap, subst, inl, inr, arith}
use Rattle.std.proofs.lemmas.Bool.{eqb-true, eq-eqb, or_cases}
use Rattle.graph_core_spec.specs.TransitionSystem.{TransitionSystem, after, reached, stopped, StopsAt, IsSafe, KeepsBounds}
use Rattle.graph_core_spec.specs.Simulation.{Agree, both_return, IsStart, Simulates, IsHeld, held}
use Rattle.example_laws.specs.Countdown.{countdown}
use Rattle.example_laws.specs.Loops.{endless, failing, frame_of, any_state}

never : (b : Bool) → b ≡ true → b ≡ false → ⊥
never b yes_is no_is = cc

no_bounds : (w : TransitionSystem ℕ) (n x : ℕ) → KeepsBounds w [] [] n x
no_bounds w n x = λ k less going i d within. absurd (omega arith)

-- a system that never returns never stops
going : (w : TransitionSystem ℕ) → ((n : ℕ) → w.returned n ≡ false) → (k x : ℕ) → stopped w [] k x ≡ false
unfolding reached
going w runs k x = ap (λ (b : Bool). b || false) (runs (after w k x))

-- it simulates a system that never returns, where the source fails if it does
pub endless_pair : (w : TransitionSystem ℕ) → ((n : ℕ) → w.returned n ≡ false) → ((x y : ℕ) → IsStart (frame_of w w) any_state any_state x y → (n : ℕ) → IsSafe w [] n x) → Simulates (frame_of w w) any_state any_state
endless_pair w runs safe x y start n = inl (record {
  safe = safe x y start n;
  forth = λ t less stops. absurd (never _ stops.now (going w runs t x));
  back = λ u less stops. absurd (never _ stops.now (going w runs u y));
})

pub start_of : (binary source : TransitionSystem ℕ) (x : ℕ) → binary.at 0 x ≡ true → source.at 0 x ≡ true → ((n : ℕ) → IsSafe source [] n x)
    → IsStart (frame_of binary source) any_state any_state x x
start_of binary source x there here safe = record {
  binary_at = there;
  source_at = here;
  premise = λ address. same x;
  binary_fine = tt;
  source_fine = tt;
  binary_kept = λ n. no_bounds binary n x;
  source_kept = λ n. no_bounds source n x;
  source_safe = safe;
}
  where
    same : (n : ℕ) → (n == n) ≡ true
    same n = eq-eqb n n refl

pub not_held : (binary source : TransitionSystem ℕ) (x y : ℕ) → IsHeld (frame_of binary source) x y → ⊥
not_held binary source x y (held h among t u more before_binary before_source at_binary at_source related) = let none = among.1 in absurd (omega arith)

-- ---- like ends

returned_at : (w : TransitionSystem ℕ) (t x : ℕ) → stopped w [] t x ≡ true → w.returned (after w t x) ≡ true
unfolding reached
returned_at w t x h = elim (or_cases (w.returned (after w t x)) false h) [ inl is ↦ is | inr bad ↦ absurd (never _ bad refl) ]

countdown_agrees : (n x : ℕ) → Agree (frame_of countdown countdown) n x x
countdown_agrees n x = record {
  safe = λ k less runs. refl;
  forth = λ t less stops. (t, stops, both_return (returned_at countdown t x stops.now) (returned_at countdown t x stops.now) (λ address. refl));
  back = λ u less stops. (u, stops, both_return (returned_at countdown u x stops.now) (returned_at countdown u x stops.now) (λ address. refl));
}

pub countdowns_agree : Simulates (frame_of countdown countdown) any_state any_state
countdowns_agree x y start n = inl (subst (λ (z : ℕ). Agree (frame_of countdown countdown) n x z) (eqb-true x y (start.premise 0)) (countdown_agrees n x))

pub endless_agree : Simulates (frame_of endless endless) any_state any_state
endless_agree = endless_pair endless (λ n. refl) (λ x y start n k less runs. refl)

-- it has failed after one step
fails_at_one : (x : ℕ) → failing.failed (after failing 1 x) ≡ true
unfolding after
fails_at_one x = refl

pub failing_agree : Simulates (frame_of failing failing) any_state any_state
failing_agree = endless_pair failing (λ n. refl)
    (λ x y start n. absurd (never _ (fails_at_one y) (start.source_safe 1 1 (omega arith) (going failing (λ m. refl) 1 y))))

-- ---- unlike ends

-- a countdown from 1 stops after one step
not_yet : (k : ℕ) → k < 1 → stopped countdown [] k 1 ≡ false
unfolding after reached
not_yet zero less = refl
not_yet (suc k) less = absurd (omega arith)

stops_at_one : StopsAt countdown [] 1 1
unfolding after reached
stops_at_one = record { now = refl; before = not_yet }

pub endless_source : Simulates (frame_of countdown endless) any_state any_state → ⊥
endless_source sim = elim (sim 1 1 (start_of countdown endless 1 refl refl (λ n k less runs. refl)) 1) [
  | inl agree ↦ let stop = agree.forth 1 (omega arith) stops_at_one in never _ stop.1.now (going endless (λ n. refl) stop.0 1)
  | inr hold ↦ not_held countdown endless 1 1 hold
]

pub endless_binary : Simulates (frame_of endless countdown) any_state any_state → ⊥
endless_binary sim = elim (sim 1 1 (start_of endless countdown 1 refl refl (λ n k less runs. refl)) 1) [
  | inl agree ↦ let stop = agree.back 1 (omega arith) stops_at_one in never _ stop.1.now (going endless (λ n. refl) stop.0 1)
  | inr hold ↦ not_held endless countdown 1 1 hold
]

pub failing_binary : Simulates (frame_of failing endless) any_state any_state → ⊥
failing_binary sim = elim (sim 1 1 (start_of failing endless 1 refl refl (λ n k less runs. refl)) 1) [
  | inl agree ↦ never _ (fails_at_one 1) (agree.safe 1 (omega arith) (going failing (λ m. refl) 1 1))
  | inr hold ↦ not_held failing endless 1 1 hold
]
