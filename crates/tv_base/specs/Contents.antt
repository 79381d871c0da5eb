-- What contracts see of the objects in memory.
use Rattle.std.specs.Prelude.{ℕ, List, [], Option, Some, None, map, string_bytes}
use Rattle.tv_base.specs.States.{DeskState, SinkState}
use Rattle.tv_base.specs.Given.{bytes_of, steady_bytes_of}
use Rattle.tv_base.specs.Shelf.{unnamed, on_shelf}
use Rattle.tv_base.specs.declared.desks.MemDesk.{MemDesk}
use Rattle.tv_base.specs.declared.desks.SteadyDesk.{SteadyDesk}
use Rattle.tv_base.specs.declared.sinks.MemSink.{MemSink}
use Rattle.tv_base.specs.declared.sinks.SteadySink.{SteadySink}
use Rattle.tv_base.specs.declared.stores.MemStore.{MemStore}
use Rattle.tv_base.specs.declared.stores.SteadyStore.{SteadyStore}

-- no call of a steady object fails
abbrev pub steady_faults : {T : Type 0} → T → ℕ
steady_faults object = 0

-- ---- desks: the bytes of each name, what is left of the begun file, the names begun, and the failed calls

abbrev pub desk_bytes : MemDesk → List ℕ → Option (List ℕ)
desk_bytes desk = bytes_of desk.files.now

abbrev pub desk_left : MemDesk → Option (List ℕ)
desk_left desk = Some desk.left.now

abbrev pub desk_opened : MemDesk → Option (List (List ℕ))
desk_opened desk = Some (map string_bytes desk.opened.items)

abbrev pub desk_faults : MemDesk → ℕ
desk_faults desk = desk.mishaps.faults

abbrev pub steady_bytes : SteadyDesk → List ℕ → Option (List ℕ)
steady_bytes desk = steady_bytes_of desk.files.now

abbrev pub steady_left : SteadyDesk → Option (List ℕ)
steady_left desk = Some desk.left.now

abbrev pub steady_opened : SteadyDesk → Option (List (List ℕ))
steady_opened desk = None

-- ---- sinks and stores: what is held under each name, the name begun last, and the failed calls

abbrev pub sink_held : MemSink → List ℕ → Option (List ℕ)
sink_held sink = unnamed sink.text.items

abbrev pub sink_begun : MemSink → List ℕ
sink_begun sink = []

abbrev pub sink_faults : MemSink → ℕ
sink_faults sink = sink.mishaps.faults

abbrev pub steady_sink_held : SteadySink → List ℕ → Option (List ℕ)
steady_sink_held sink = unnamed sink.text.items

abbrev pub steady_sink_begun : SteadySink → List ℕ
steady_sink_begun sink = []

abbrev pub store_held : MemStore → List ℕ → Option (List ℕ)
store_held store = on_shelf store.shelf

abbrev pub store_begun : MemStore → List ℕ
store_begun store = string_bytes store.shelf.last.name

abbrev pub store_faults : MemStore → ℕ
store_faults store = store.mishaps.faults

abbrev pub steady_store_held : SteadyStore → List ℕ → Option (List ℕ)
steady_store_held store = on_shelf store.shelf

abbrev pub steady_store_begun : SteadyStore → List ℕ
steady_store_begun store = string_bytes store.shelf.last.name

-- ---- all of it

abbrev pub desk_state : MemDesk → DeskState
desk_state desk = record { files = desk_bytes desk; left = desk_left desk; opened = desk_opened desk; faults = desk_faults desk }

abbrev pub steady_state : SteadyDesk → DeskState
steady_state desk = record { files = steady_bytes desk; left = steady_left desk; opened = steady_opened desk; faults = steady_faults desk }

abbrev pub sink_state : MemSink → SinkState
sink_state sink = record { held = sink_held sink; begun = sink_begun sink; faults = sink_faults sink }

abbrev pub steady_sink_state : SteadySink → SinkState
steady_sink_state sink = record { held = steady_sink_held sink; begun = steady_sink_begun sink; faults = steady_faults sink }

abbrev pub store_state : MemStore → SinkState
store_state store = record { held = store_held store; begun = store_begun store; faults = store_faults store }

abbrev pub steady_store_state : SteadyStore → SinkState
steady_store_state store = record { held = steady_store_held store; begun = steady_store_begun store; faults = steady_faults store }

-- of an object of the operating system, whose contents contracts do not see
abbrev pub unseen_desk : (faults : ℕ) → DeskState
unseen_desk faults = record { files = λ name. None; left = None; opened = None; faults = faults }

abbrev pub unseen_sink : (begun : List ℕ) → (faults : ℕ) → SinkState
unseen_sink begun faults = record { held = λ name. None; begun = begun; faults = faults }
