-- What it means that the program gives what a definition gives. Memory may be refused at any time.
use Rattle.std.specs.Prelude.{◌≡◌, Result, Ok, Err}
use Rattle.c_types_spec.specs.Names.{Fault}
use Rattle.attempt.specs.declared.refusal.Refusal.{Refusal}
use Rattle.attempt.specs.declared.refusal.Refusal.TheVariants as refusal
use Rattle.c_types_core.specs.declared.fault.TypeFault.{TypeFault}
use Rattle.c_types_core.specs.declared.fault.TypeFault.TheVariants.{At}

abbrev pub Gives : {A B : Type 0} → (view : A → B) → Result A (Refusal TypeFault) → Result B Fault → Type 0
Gives view (Ok x) given = given ≡ Ok (view x)
Gives view (Err refusal.NoMemory) given = Unit {0}
Gives view (Err (refusal.Fault (At kind offset))) given = given ≡ Err (kind, offset)

-- the same, where memory is refused only for what is large
abbrev pub GivesUnless : {A B : Type 0} → (large : Type 0) → (view : A → B) → Result A (Refusal TypeFault) → Result B Fault → Type 0
GivesUnless large view (Ok x) given = given ≡ Ok (view x)
GivesUnless large view (Err refusal.NoMemory) given = large
GivesUnless large view (Err (refusal.Fault (At kind offset))) given = given ≡ Err (kind, offset)
