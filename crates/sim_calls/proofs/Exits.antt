-- What a callee leaves at a cut, of the code as the definitions have it.
use Rattle.std.proofs.Common.{◌≡◌, ◌∙◌, ℕ, List, [], Option, Some, None, refl, sym, ap, ap₂, subst}
use Rattle.term_core_spec.specs.Term.{Term}
use Rattle.term_bank.specs.Nodes.{Holds, Extends}
use Rattle.term_bank.proofs.Substitution.{kept}
use Rattle.sim_rules_spec.specs.Calls.{Callee, left_memory}
use Rattle.sim_rules_spec.specs.Points.{Convention, nothing}
use Rattle.sim_rules_spec.specs.Rules.{at_cut}
use Rattle.sim_calls.specs.declared.cut.Cut.{Cut}
use Rattle.sim_calls.specs.Cuts.{IsCut}
use Rattle.sim_calls.specs.Returned.{HasResult, IsExit, left_memory_by}
use Rattle.sim_calls.proofs.Banks.{cut_later}

-- the memory at a cut
pub left_memory_is : (c : Convention) (callee : Callee) (from to : Term) (stack : ℕ) → c.zone_from ≡ from → c.zone_to ≡ to → callee.stack ≡ stack
    → left_memory_by from to stack ≡ left_memory c callee (at_cut c).binary
left_memory_is c callee from to stack a b s =
    ap₂ (λ (x y : Term). left_memory_by x y stack) (sym a) (sym b) ∙ ap (left_memory_by c.zone_from c.zone_to) (sym s)

-- of the maps of a cut there is always a convention
abbrev pub own_convention : (from to : Term) → Convention
own_convention from to = record { zone_from = from; zone_to = to; bottom = 0; top = 0; returns = []; fixed = nothing }

abbrev pub own_callee : (stack : ℕ) → (result : Option Term) → Callee
own_callee stack result = record { stack = stack; arguments = []; result = result }

module _ (before middle now : List Term) (e : Extends before now) (f : Extends middle now) where
  pub exit_is : (c : Convention) (callee : Callee) (cut : Cut) (from to : Term) (stack memory : ℕ) (returned : Option ℕ) → c.zone_from ≡ from → c.zone_to ≡ to
      → callee.stack ≡ stack → IsCut before c cut → Holds middle memory (left_memory_by from to stack) → HasResult now callee.result returned
      → IsExit now c callee cut memory returned
  exit_is c callee cut from to stack memory returned a b s is holds result = record {
    is_cut = cut_later before now e c cut is;
    memory_is = kept middle now memory _ f (subst (Holds middle memory) (left_memory_is c callee from to stack a b s) holds);
    result_is = result;
  }
