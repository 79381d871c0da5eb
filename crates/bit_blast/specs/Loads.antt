-- Loads by the indices of their terms.
use Rattle.std.specs.Prelude.{◌<◌, ◌==◌, ℕ, not, List, [], ◌∷◌, length, filter, Option, Some, None}
use Rattle.term_core_spec.specs.declared.Variable.{Variable}
use Rattle.term_core_spec.specs.declared.Atom.TheVariants as atom
use Rattle.term_core_spec.specs.declared.BinaryOperator.TheVariants as binary
use Rattle.term_bank.specs.declared.node.TermNode.{TermNode}
use Rattle.term_bank.specs.declared.node.TermNode.TheVariants.{Leaf, Binary}
use Rattle.term_bank.specs.Nodes.{tree_at}
use Rattle.bit_blast_spec.specs.Goal.{Table, Load}
use Rattle.bit_blast.specs.Terms.{terms_in}
use Rattle.bit_blast.specs.BitsAt.{bits_at}
use Rattle.bit_blast.specs.declared.loads.LoadIndices.{LoadIndices}

abbrev pub load_at : Table → LoadIndices → Load
load_at table load = record { memory = tree_at (terms_in table) load.memory; address = bits_at table load.address; byte = bits_at table load.byte }

abbrev pub IsWithin : Table → LoadIndices → Type 0
IsWithin table load = (load.memory < length table) × (load.address < length table) × (load.byte < length table)

abbrev pub AreWithin : Table → List LoadIndices → Type 0
AreWithin table [] = Unit {0}
AreWithin table (load ∷ loads) = IsWithin table load × AreWithin table loads

-- in the order of their first loads
abbrev pub with_memory : ℕ → List ℕ → List ℕ
with_memory memory memories = memory ∷ filter (λ other. not (other == memory)) memories

abbrev pub memories_of : List LoadIndices → List ℕ
memories_of [] = []
memories_of (load ∷ loads) = with_memory load.memory (memories_of loads)

-- the load that the node of an index is
abbrev pub load_of : ℕ → TermNode → Option LoadIndices
load_of index (Binary binary.Load memory address) = Some (record { memory = memory; address = address; byte = index })
load_of index node = None

-- the variable that a node is
abbrev pub variable_of : TermNode → Option Variable
variable_of (Leaf (atom.Open variable)) = Some variable
variable_of node = None
