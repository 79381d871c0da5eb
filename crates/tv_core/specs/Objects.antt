-- What contracts see of the objects that a run is given, at one moment.
use Rattle.std.specs.Prelude.{◌≡◌, ◌⊎◌}
use Rattle.tv_base.specs.Faults.{Rose}
pub use Rattle.tv_base.specs.States.{Contents, DeskState, SinkState}

-- of what is written: the report, and the store of certificates
pub record Outputs : Type 0 where
  pub report : SinkState
  pub store : SinkState

pub record State : Type 0 where
  pub desk : DeskState
  pub outputs : Outputs

-- ---- by their parts

abbrev pub outputs_of : SinkState → SinkState → Outputs
outputs_of report store = record { report = report; store = store }

abbrev pub state_of : DeskState → SinkState → SinkState → State
state_of desk report store = record { desk = desk; outputs = outputs_of report store }

-- ---- counts of faults

-- a count of the outputs rose
abbrev pub OutputsRose : (before now : Outputs) → Type 0
OutputsRose before now = Rose before.report.faults now.report.faults ⊎ Rose before.store.faults now.store.faults

-- a count rose
abbrev pub AnyRose : (before now : State) → Type 0
AnyRose before now = Rose before.desk.faults now.desk.faults ⊎ OutputsRose before.outputs now.outputs

abbrev pub SameOutputFaults : (before now : Outputs) → Type 0
SameOutputFaults before now = (now.report.faults ≡ before.report.faults) × (now.store.faults ≡ before.store.faults)

-- no count rose
abbrev pub SameFaults : (before now : State) → Type 0
SameFaults before now = (now.desk.faults ≡ before.desk.faults) × SameOutputFaults before.outputs now.outputs
