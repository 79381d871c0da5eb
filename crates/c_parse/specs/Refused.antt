-- Why tokens gave no unit.
use Rattle.std.specs.Prelude.{◌≤◌, List, length, drop}
use Rattle.c_token_spec.specs.Lexical.{Placed}
use Rattle.c_parse_spec.specs.declared.ParseFaultKind.{ParseFaultKind}
use Rattle.c_parse_spec.specs.declared.ParseFaultKind.TheVariants.{Depth}
use Rattle.c_parse_spec.specs.declared.Role.{Role}
use Rattle.c_parse_spec.specs.Faults.{IsFault, fault_kind}
use Rattle.exact_read.specs.Reading.{Fault as Stop, LimitExceeded, Wrong}
use Rattle.attempt.specs.declared.refusal.Refusal.{Refusal}
use Rattle.attempt.specs.declared.refusal.Refusal.TheVariants.{Fault, NoMemory}
use Rattle.c_parse.specs.declared.ParseFault.{ParseFault}

-- the fault of the tokens: out of memory may always come
abbrev pub IsFaultOf : (tokens : List Placed) → Refusal ParseFault → Type 0
IsFaultOf tokens (Fault fault) = (fault.token ≤ length tokens) × IsFault tokens fault.kind (drop fault.token tokens)
IsFaultOf tokens NoMemory = Unit {0}

-- the kind of a fault at which the parser of units stopped
abbrev pub reported : Stop Role → (rest : List Placed) → ParseFaultKind
reported LimitExceeded rest = Depth
reported (Wrong role) rest = fault_kind role rest
