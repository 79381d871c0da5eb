-- One step of a loop whose steps give what all give.
use Rattle.std.proofs.Common.{◌≡◌, sym, ap, ◌∙◌}
use Rattle.std.specs.Prelude.{Result, Ok, Err}
use Rattle.c_types_spec.specs.Names.{State, Fault, bind}
use Rattle.attempt.specs.declared.refusal.Refusal.{Refusal}
use Rattle.attempt.specs.declared.refusal.Refusal.TheVariants as refusal
use Rattle.c_types_core.specs.declared.fault.TypeFault.{TypeFault}
use Rattle.c_types_core.specs.declared.fault.TypeFault.TheVariants.{At}
use Rattle.c_types_scope.specs.declared.state.State.{State as Program}
use Rattle.c_types_scope.specs.States.{Runs}

pub step-kept : {A B : Type 0} (here whole : Result (B × State) Fault) (step : Result (A × State) Fault) (next : A × State → Result (B × State) Fault) (x : A × State)
    → here ≡ bind step next → step ≡ Ok x → here ≡ whole → next x ≡ whole
step-kept here whole step next x row made all = sym (row ∙ ap (λ r. bind r next) made) ∙ all

-- a fault of a step is one of all
pub step-failed : {A B C : Type 0} (here whole : Result (B × State) Fault) (step : Result (A × State) Fault) (next : A × State → Result (B × State) Fault) (fault : Refusal TypeFault) (one : C → A) (other : C → B) (after : Program)
    → here ≡ bind step next → Runs one (Err fault) after step → here ≡ whole → Runs other (Err fault) after whole
step-failed here whole step next refusal.NoMemory one other after row made all = tt {0}
step-failed here whole step next (refusal.Fault (At kind offset)) one other after row made all = sym all ∙ row ∙ ap (λ r. bind r next) made

-- a fault of the first step is one of both
pub first-failed : {A B C D : Type 0} (step : Result (A × State) Fault) (next : A × State → Result (B × State) Fault) (fault : Refusal TypeFault) (one : C → A) (other : D → B) (after : Program)
    → Runs one (Err fault) after step → Runs other (Err fault) after (bind step next)
first-failed step next refusal.NoMemory one other after made = tt {0}
first-failed step next (refusal.Fault (At kind offset)) one other after made = ap (λ r. bind r next) made
