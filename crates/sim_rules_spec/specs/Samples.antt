-- A small frame, worked by hand: both sides return at once, and a goal that neither of them meets.
use Rattle.std.specs.Prelude.{ℕ, Some, true, false, List, [], ◌∷◌}
use Rattle.term_core_spec.specs.declared.Family.TheVariants.{Register, Entry, Local, SourceMemory, ZoneMemory, Further}
use Rattle.term_core_spec.specs.declared.Width.TheVariants.{W32}
use Rattle.term_core_spec.specs.declared.Sort.TheVariants as sort
use Rattle.term_core_spec.specs.declared.Variable.{Variable}
use Rattle.term_core_spec.specs.Term.{Term, truth, not_term, and_term, or_term, equal, less, load, over, subtract, bit_and, constant, open_term}
use Rattle.graph_core_spec.specs.declared.Next.TheVariants as next
use Rattle.graph_core_spec.specs.Graph.{Basic}
use Rattle.visit_walk_spec.specs.Visits.{Visit}
use Rattle.proof_tree_spec.specs.Frames.{Frame, Goal, Side}
use Rattle.sim_rules_spec.specs.Points.{Convention, source_memory, zone_memory, address, nothing}
use Rattle.sim_rules_spec.specs.Calling.{word, register, at_entry}
use Rattle.sim_rules_spec.specs.Rules.{at_cut, leaf_terms}
use Rattle.sim_rules_spec.specs.Calls.{CallPair, Callee, call_terms}

abbrev pub result : Variable
result = record { family = Register; index = 10; instance = 0; sort = sort.Word W32 }

abbrev pub stack : Variable
stack = record { family = Entry; index = 2; instance = 0; sort = sort.Word W32 }

abbrev pub local : Variable
local = record { family = Local; index = 0; instance = 0; sort = sort.Word W32 }

abbrev pub same_result : Term
same_result = equal (open_term result) (open_term local)

-- the zone is the 16 bytes below the stack
abbrev pub below_stack : Term
below_stack = subtract (open_term stack) (constant W32 16)

abbrev pub convention : Convention
convention = record { zone_from = below_stack; zone_to = open_term stack; bottom = 0; top = 0; returns = same_result ∷ []; fixed = nothing }

abbrev pub at_once : Side
at_once = record { graphs = (record { nodes = Basic [] next.Ret ∷ []; entry = 0 }) ∷ []; outermost = 0 }

abbrev pub goal : Goal
goal = record { binary = record { node = 0; count = 1 }; source = record { node = 0; count = 1 }; relation = [] }

abbrev pub frame : List Goal → Frame
frame goals = record {
  binary = at_once;
  source = at_once;
  setting = record { argument_words = 0; parameters = []; bodies = [] };
  entry = [];
  start = record { nodes = record { binary = 0; source = 0 }; path = []; premises = same_result ∷ []; binary_bounds = []; source_bounds = [] };
  goals = goals;
  holds = [];
}

-- the counts are of arrivals at the goals
abbrev pub visits : (counts : List ℕ) → List Visit
visits counts = record { place = next.At 0; counts = counts } ∷ record { place = next.Ret; counts = counts } ∷ []

abbrev pub obligations : List Goal → (counts : List ℕ) → List Term
obligations goals counts = leaf_terms convention (at_cut convention) (frame goals) (visits counts) (visits counts)

-- ---- what is expected

-- the premise, and that the source doesn't fail
abbrev pub premises : Term
premises = and_term (and_term (truth true) same_result) (not_term (truth false))

abbrev pub given : Term → Term
given t = or_term (not_term premises) t

-- the byte at the address of the binary's memory, which is the source's with the zone's over it
abbrev pub same_memory : Term
same_memory = or_term
    (and_term (not_term (less (open_term address) below_stack)) (less (open_term address) (open_term stack)))
    (equal (load (over (open_term source_memory) (open_term zone_memory) below_stack (open_term stack)) (open_term address)) (load (open_term source_memory) (open_term address)))

abbrev pub no_failure : Term
no_failure = given (not_term (truth false))

abbrev pub return_too : Term
return_too = given (or_term (not_term (truth true)) (truth true))

abbrev pub return_alike : Term
return_alike = given (or_term (not_term (and_term (truth true) (truth true))) (and_term same_result same_memory))

-- a goal that no side meets: nothing holds there
abbrev pub goal_too : Term
goal_too = given (or_term (not_term (truth false)) (truth false))

abbrev pub goal_alike : Term
goal_alike = given (or_term (not_term (and_term (truth false) (truth false))) (truth true))

-- ---- a call: x1 is 16 there, and the argument is 5; the callee takes 8 bytes of stack, and its result is put into the local

abbrev pub result_word : Variable
result_word = record { family = Further; index = 2; instance = 0; sort = sort.Word W32 }

abbrev pub calls : CallPair
calls = record {
  binary_inputs = (record { variable = record { family = Register; index = 1; instance = 0; sort = sort.Word W32 }; term = word 16 }) ∷ [];
  source_inputs = (record { variable = local; term = word 5 }) ∷ [];
  source_outputs = (record { variable = local; term = open_term result_word }) ∷ [];
}

abbrev pub callee : Callee
callee = record { stack = 8; arguments = same_result ∷ []; result = Some (open_term result_word) }

-- after the call the result is in the local; x8 is one that a callee saves, and x5 is none
abbrev pub call_obligations : List Term
call_obligations = call_terms convention (frame []) calls callee [] (same_result ∷ equal (register 8) (register 5) ∷ [])

abbrev pub without_premises : Term → Term
without_premises t = or_term (not_term (truth true)) t

abbrev pub callee_begins : Term
callee_begins = without_premises
    (and_term (and_term (and_term (and_term (and_term (and_term (and_term
    (equal (register 10) (word 5))
    (equal (bit_and (word 16) (word 3)) (word 0)))
    (equal (bit_and (register 2) (word 15)) (word 0)))
    (not_term (less (register 2) below_stack)))
    (not_term (less (subtract (register 2) below_stack) (word 8))))
    (not_term (less (open_term stack) (register 2))))
    (equal (register 3) (at_entry 3)))
    same_memory)

-- what the callee leaves
abbrev pub left_result : Term
left_result = open_term (record { family = Further; index = 2; instance = 1; sort = sort.Word W32 })

abbrev pub left_x5 : Term
left_x5 = open_term (record { family = Register; index = 5; instance = 1; sort = sort.Word W32 })

abbrev pub left_source : Term
left_source = open_term (record { family = SourceMemory; index = 0; instance = 1; sort = sort.Memory })

abbrev pub left_zone : Term
left_zone = open_term (record { family = ZoneMemory; index = 0; instance = 1; sort = sort.Memory })

abbrev pub left_binary : Term
left_binary =
    over left_source (over (open_term zone_memory) left_zone (subtract (register 2) (word 8)) (register 2)) below_stack (open_term stack)

abbrev pub callee_returns : Term
callee_returns = without_premises
    (and_term (and_term
    (equal left_result left_result)
    (equal (register 8) left_x5))
    (or_term (and_term (not_term (less (open_term address) below_stack)) (less (open_term address) (open_term stack)))
    (equal (load left_binary (open_term address)) (load left_source (open_term address)))))
