-- The countdown is a transition system.
use Rattle.std.proofs.Common.{◌≡◌, ◌∙◌, ℕ, ◌-◌, ◌==◌, ◌&&◌, not, true, false, refl, sym, arith}
use Rattle.std.specs.Prelude.{⊤}
use Rattle.std.proofs.lemmas.Bool.{and_parts, eqb-true, not-true}
use Rattle.graph_core_spec.specs.TransitionSystem.{IsTransitionSystem}
use Rattle.example_laws.specs.Countdown.{countdown, leads_back, no_call}

node_is : (m n : ℕ) → (m == 0 && not (n == 0)) ≡ true → m ≡ 0
node_is m n h = eqb-true m 0 (and_parts (m == 0) (not (n == 0)) h).0

runs : (m n : ℕ) → (m == 0 && not (n == 0)) ≡ true → (n == 0) ≡ false
runs m n h = not-true (n == 0) (and_parts (m == 0) (not (n == 0)) h).1

ended : (n : ℕ) → (n == 0) ≡ true → n - 1 ≡ n
ended n h = let none : n ≡ 0 = eqb-true n 0 h in omega arith

pub countdown_is_system : IsTransitionSystem countdown leads_back no_call (λ n. ⊤) 1
countdown_is_system = record {
  returned_stays = ended;
  failed_stays = λ n h. let bad : false ≡ true = h in absurd (differ bad);
  one_end = λ n h. refl;
  no_end = λ m n h. (runs m n h, refl);
  one_node = λ m n s a b. node_is m s a ∙ sym (node_is n s b);
  numbered = λ m n fine h. let none = node_is m n h in omega arith;
  fine_stays = λ n fine. tt;
  leads_on = λ m n o first second. (first.0, second.1);
  led = λ m n k s here there. (node_is m s here, node_is n _ there);
  landed = λ m l n k s call here there away. absurd call;
}
  where
    differ : false ≡ true → ⊥
    differ e = cc
