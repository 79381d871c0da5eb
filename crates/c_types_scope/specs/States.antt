-- The state of the program, and what it means that the program gives what a definition gives from one state, and leaves
-- another. Memory may be refused at any time.
use Rattle.std.specs.Prelude.{◌≡◌, ℕ, List, map, Result, Ok, Err, Vec}
use Rattle.std.specs.Borrow.{Bor}
use Rattle.std.specs.declared.alloc.Global.{Global}
use Rattle.c_types_spec.specs.Names as names
use Rattle.c_types_layout.specs.Structs.{structs_of}
use Rattle.attempt.specs.declared.refusal.Refusal.{Refusal}
use Rattle.attempt.specs.declared.refusal.Refusal.TheVariants.{Fault, NoMemory}
use Rattle.c_types_core.specs.declared.fault.TypeFault.{TypeFault}
use Rattle.c_types_core.specs.declared.fault.TypeFault.TheVariants.{At}
use Rattle.c_types_scope.specs.declared.state.State.{State}
use Rattle.c_types_scope.specs.Meanings.{types_in, seen_meaning, seen_tag, scopes_by}

abbrev pub texts_in : Vec (Bor (List ℕ)) Global → List (List ℕ)
texts_in texts = map (λ text. text.now) texts.items

unfoldable pub state_of : State → names.State
state_of state = record {
  names = scopes_by seen_meaning state.names;
  tags = scopes_by seen_tag state.tags;
  structs = structs_of state.structs.items;
  locals = types_in state.locals;
  results = types_in state.results;
  loops = state.loops;
  calls = state.calls;
  mentions = texts_in state.mentions;
}

-- the program gives what the definition gives, as seen by the view, and ends in the state of the definition
abbrev pub Runs : {A B : Type 0} → (view : A → B) → Result A (Refusal TypeFault) → (after : State) → Result (B × names.State) names.Fault → Type 0
Runs view (Ok x) after given = given ≡ Ok (view x, state_of after)
Runs view (Err NoMemory) after given = Unit {0}
Runs view (Err (Fault (At kind offset))) after given = given ≡ Err (kind, offset)

-- what is done, where nothing is given
abbrev pub nothing : {A : Type 0} → A → Unit {0}
nothing x = tt {0}
