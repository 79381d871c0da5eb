-- Two small graphs. The caller calls with its parameter and 1, and adds 2 to what comes back; the callee fails
-- where its parameter isn't below 10, writes it to the byte at address 0, and gives twice of it.
use Rattle.std.specs.Prelude.{ℕ, Bool, true, false, [], ◌∷◌, length, Option, Some, None}
use Rattle.term_core_spec.specs.declared.Width.TheVariants.{W8, W32}
use Rattle.term_core_spec.specs.declared.Sort.TheVariants.{Word, Memory}
use Rattle.term_core_spec.specs.declared.Family.{Family}
use Rattle.term_core_spec.specs.declared.Family.TheVariants.{Parameter, Local, SourceMemory}
use Rattle.term_core_spec.specs.declared.Variable.{Variable}
use Rattle.term_core_spec.specs.Term.{Term, constant, open_term, add, multiply, less, low, store}
use Rattle.term_core_spec.specs.Value.{Value, Truth, Number, Bytes, Assignment}
use Rattle.graph_core_spec.specs.TransitionSystem.{TransitionSystem}
use Rattle.graph_core_spec.specs.declared.Mark.{Mark}
use Rattle.graph_core_spec.specs.declared.Next.TheVariants.{At, Ret, Err}
use Rattle.graph_core_spec.specs.Graph.{Node, Basic, Cond, Call, Graph}
use Rattle.graph_core_spec.specs.Run.{State, Running, Returned, Failed, system_of}

abbrev pub parameter : Variable
parameter = record { family = Parameter; index = 0; instance = 0; sort = Word W32 }

abbrev pub local : Variable
local = record { family = Local; index = 0; instance = 0; sort = Word W32 }

abbrev pub memory : Variable
memory = record { family = SourceMemory; index = 0; instance = 0; sort = Memory }

abbrev pub number : ℕ → Term
number n = constant W32 n

abbrev pub landing : ℕ → Node
landing n = Basic [] (At n)

abbrev pub caller : Graph
caller = record {
  nodes = landing 1
      ∷ Call 1 (record { variable = parameter; term = add (open_term parameter) (number 1) } ∷ [])
      (record { variable = local; term = open_term local } ∷ []) 2
      ∷ landing 3
      ∷ Basic (record { variable = local; term = add (open_term local) (number 2) } ∷ []) Ret
      ∷ [];
  entry = 0;
}

abbrev pub callee : Graph
callee = record {
  nodes = landing 1
      ∷ Cond (less (open_term parameter) (number 10)) (At 2) Err
      ∷ Basic (record { variable = local; term = multiply (open_term parameter) (number 2) }
      ∷ record { variable = memory; term = store (open_term memory) (number 0) (low W8 (open_term parameter)) } ∷ []) Ret
      ∷ [];
  entry = 0;
}

abbrev pub walk : TransitionSystem State
walk = system_of (caller ∷ callee ∷ []) 0

-- the local is 7, and every byte 0
abbrev pub value_at_start : ℕ → Family → Value
value_at_start n Parameter = Number W32 n
value_at_start n Local = Number W32 7
value_at_start n f = Bytes (λ address. 0)

-- with this parameter
abbrev pub start_with : ℕ → State
start_with n = Running 0 0 (λ v. value_at_start n v.family) []

abbrev pub start : State
start = start_with 3

-- ---- what is seen of a state

-- the graph, the node, and how many functions wait
abbrev pub place : State → Option (ℕ × ℕ × ℕ)
place (Running g n values below) = Some (g, n, length below)
place s = None

abbrev pub values_of : State → Assignment
values_of (Running g n values below) = values
values_of (Returned values) = values
values_of Failed = λ v. Truth false

abbrev pub ended : State → Bool
ended (Returned values) = true
ended s = false

abbrev pub word : Value → ℕ
word (Number width n) = n
word v = 0

-- the parameter and the local
abbrev pub words : State → ℕ × ℕ
words s = (word (values_of s parameter), word (values_of s local))

abbrev pub byte_at_zero : Value → ℕ
byte_at_zero (Bytes bytes) = bytes 0
byte_at_zero v = 0

abbrev pub first_byte : State → ℕ
first_byte s = byte_at_zero (values_of s memory)

abbrev pub mark : ℕ → ℕ → Mark
mark n count = record { node = n; count = count }
