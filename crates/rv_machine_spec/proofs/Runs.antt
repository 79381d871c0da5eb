-- Runs by their last step.
use Rattle.std.proofs.Common.{◌≡◌, ◌≢◌, ℕ, suc, ◌+◌, ◌-◌, ◌<◌, ◌≤◌, ap, ◌∙◌, arith, ne_eqb, Some, None}
use Rattle.std.specs.Prelude.{option_and_then}
use Rattle.rv_machine_spec.specs.Machine.{Machine}
use Rattle.rv_machine_spec.specs.Step.{step, after}
use Rattle.rv_machine_spec.proofs.Steps.{after-add, after_stopped, after_step}

-- once a run has stopped, more steps change nothing
pub stays_stopped : (m : Machine) (stop k limit : ℕ) (n : Machine) → k ≤ limit → after m stop k ≡ Some n → n.pc ≡ stop → after m stop limit ≡ Some n
stays_stopped m stop k limit n fits there here =
    let whole : limit ≡ k + (limit - k) = omega arith in
    ap (after m stop) whole ∙ after-add m stop k (limit - k) ∙ ap (option_and_then (λ l. after l stop (limit - k))) there ∙ after_stopped n stop (limit - k) here

first_step : (m : Machine) (stop k : ℕ) → m.pc ≢ stop → after m stop (suc k) ≡ option_and_then (λ n. after n stop k) (step m)
first_step m stop k there = after_step m stop k (ne_eqb m.pc stop there)

-- one more step
pub one_more : (m : Machine) (stop k : ℕ) (n next : Machine) → after m stop k ≡ Some n → n.pc ≢ stop → step n ≡ Some next → after m stop (k + 1) ≡ Some next
unfolding after
one_more m stop k n next there on does =
    after-add m stop k 1 ∙ ap (option_and_then (λ l. after l stop 1)) there ∙ first_step n stop 0 on ∙ ap (option_and_then (λ l. after l stop 0)) does

-- a run that comes to a trap
pub stays_trapped : (m : Machine) (stop k limit : ℕ) (n : Machine) → k < limit → after m stop k ≡ Some n → n.pc ≢ stop → step n ≡ None → after m stop limit ≡ None
stays_trapped m stop k limit n fits there on traps =
    let whole : limit ≡ k + suc (limit - k - 1) = omega arith in
    ap (after m stop) whole ∙ after-add m stop k (suc (limit - k - 1)) ∙ ap (option_and_then (λ l. after l stop (suc (limit - k - 1)))) there
    ∙ first_step n stop (limit - k - 1) on ∙ ap (option_and_then (λ l. after l stop (limit - k - 1))) traps
