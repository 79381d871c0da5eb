-- Which calls of an object in memory fail, and how much a call takes.
use Rattle.std.specs.Prelude.{◌≡◌, ◌+◌, ◌-◌, ◌^◌, ◌<◌, ◌⊎◌, ℕ, List, min, Contains, Result, Ok, Err}
use Rattle.attempt.specs.declared.refusal.Refusal.{Refusal}
use Rattle.attempt.specs.declared.refusal.Refusal.TheVariants.{Fault, NoMemory}
use Rattle.tv_base.specs.declared.faults.OutsideFault.{OutsideFault}
use Rattle.tv_base.specs.declared.faults.OutsideFault.TheVariants.{Failed}
use Rattle.tv_base.specs.declared.mishaps.Mishaps.{Mishaps}
use Rattle.tv_base.specs.declared.desks.MemDesk.{MemDesk}
use Rattle.tv_base.specs.declared.sinks.MemSink.{MemSink}
use Rattle.tv_base.specs.declared.stores.MemStore.{MemStore}

-- the numbers of the calls that fail, the most bytes that a call takes, and how many calls there were
pub record Plan : Type 0 where
  pub failing : List ℕ
  pub most : ℕ
  pub calls : ℕ

abbrev pub plan_of : Mishaps → Plan
plan_of mishaps = record { failing = mishaps.failing.now; most = mishaps.most; calls = mishaps.calls }

abbrev pub desk_plan : MemDesk → Plan
desk_plan desk = plan_of desk.mishaps

abbrev pub sink_plan : MemSink → Plan
sink_plan sink = plan_of sink.mishaps

abbrev pub store_plan : MemStore → Plan
store_plan store = plan_of store.mishaps

-- the plan of an object of which no call was made yet
abbrev pub fresh : (failing : List ℕ) → (most : ℕ) → Plan
fresh failing most = record { failing = failing; most = most; calls = 0 }

-- the number of the next call; the first has the number 1, and it stops at the last value
abbrev pub next_call : Plan → ℕ
next_call plan = min (plan.calls + 1) (2 ^ 64 - 1)

-- the plan when one more call was made
abbrev pub called : Plan → Plan
called plan = record plan { calls = next_call plan }

-- the next call is one of those that fail
abbrev pub FailsNext : Plan → Type 0
FailsNext plan = Contains plan.failing (next_call plan)

-- a call fails where the plan has it fail, or for this other cause, and nowhere else
abbrev pub GoesAs : {T : Type 0} → Plan → (cause : Type 0) → Result T (Refusal OutsideFault) → Type 0
GoesAs plan cause (Ok value) = FailsNext plan → ⊥
GoesAs plan cause (Err (Fault Failed)) = FailsNext plan ⊎ cause
GoesAs plan cause (Err NoMemory) = FailsNext plan → ⊥

-- so many of `size` bytes are taken as the plan lets through; a call that would take none of some fails
abbrev pub TakesAs : Plan → (size : ℕ) → Result ℕ (Refusal OutsideFault) → Type 0
TakesAs plan size (Ok count) = (FailsNext plan → ⊥) × (count ≡ min size plan.most)
TakesAs plan size (Err (Fault Failed)) = FailsNext plan ⊎ ((0 < size) × (plan.most ≡ 0))
TakesAs plan size (Err NoMemory) = FailsNext plan → ⊥
