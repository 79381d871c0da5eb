-- Facts of the program as those that the definitions speak of.
use Rattle.std.specs.Prelude.{ℕ, List, [], ◌∷◌, ◌++◌, map, true, false, Option, Some, None}
use Rattle.term_core_spec.specs.Term.{Term, over, open_term, truth}
use Rattle.term_core.specs.Trees.{term_of}
use Rattle.decompile_spec.specs.State as code
use Rattle.c_types_spec.specs.declared.Scalar.{Scalar}
use Rattle.c_graph_spec.specs.State.{local, is_set}
use Rattle.sim_rules_spec.specs.Points.{binary_memory, source_memory, zone_memory}
use Rattle.sim_rules_spec.specs.Calling.{zone_from, at_entry}
use Rattle.agreement_laws.specs.EntryFrame.{Fact, argument_facts, local_facts, parameter, registers, zone_facts}
use Rattle.cert_check_frames.specs.declared.listed.Fact.{Fact as CodeFact}

abbrev pub fact_of : CodeFact → Fact
fact_of f = record { variable = f.variable; term = term_of f.term.value }

abbrev pub facts_of : List CodeFact → List Fact
facts_of facts = map fact_of facts

-- ---- of the binary

-- registers have their values at entry
abbrev pub entry_facts : List ℕ → List Fact
entry_facts numbers = map (λ (r : ℕ). record { variable = code.register r; term = at_entry r }) numbers

-- the source's memory, with the zone's over it
abbrev pub memory_over_zone : (stack : ℕ) → Term
memory_over_zone stack = over (open_term source_memory) (open_term zone_memory) (zone_from stack) (at_entry 2)

abbrev pub memory_fact : (stack : ℕ) → Fact
memory_fact stack = record { variable = binary_memory; term = memory_over_zone stack }

abbrev pub binary_facts_of : (stack : ℕ) → List Scalar → List Fact
binary_facts_of stack parameters = (argument_facts 0 parameters ++ entry_facts registers) ++ memory_fact stack ∷ []

-- ---- of the source

-- a local that is a parameter of a type, and one that is none
abbrev pub facts_of_local : (number : ℕ) → Option Scalar → List Fact
facts_of_local number (Some type) =
    record { variable = is_set number; term = truth true } ∷ record { variable = local number type; term = open_term (parameter number type) } ∷ []
facts_of_local number None = record { variable = is_set number; term = truth false } ∷ []

abbrev pub source_facts_of : (stack : ℕ) → (parameters locals : List Scalar) → List Fact
source_facts_of stack parameters locals = local_facts 0 parameters locals ++ zone_facts stack
