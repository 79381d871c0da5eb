-- A term without memory: each load of a memory variable becomes a byte of its own, and loads of one memory at equal
-- addresses are said to be equal.
use Rattle.std.specs.Prelude.{ℕ, ◌+◌, ◌&&◌, if◌then◌else◌, Bool, true, false, List, [], ◌∷◌, ◌++◌, map, filter, Option, Some, None}
use Rattle.term_core_spec.specs.declared.Width.TheVariants.{W8}
use Rattle.term_core_spec.specs.declared.Sort.TheVariants as sort
use Rattle.term_core_spec.specs.declared.Family.TheVariants as family
use Rattle.term_core_spec.specs.declared.Variable.{Variable}
use Rattle.term_core_spec.specs.declared.Atom.TheVariants as atom
use Rattle.term_core_spec.specs.declared.BinaryOperator.{BinaryOperator}
use Rattle.term_core_spec.specs.declared.BinaryOperator.TheVariants as binary
use Rattle.term_core_spec.specs.Term.{Term, Leaf, Unary, Binary, Ternary, Quaternary, Octonary, truth, open_term, not_term, and_term, or_term, equal}
use Rattle.term_core_spec.specs.Same.{same_variable, same_term}

-- ---- the loads of a term

-- a load of a memory variable
pub record VariableLoad : Type 0 where
  pub memory : Variable
  pub address : Term

-- the load that an operator with two arguments is, where it is one of a variable
abbrev pub load_of : BinaryOperator → Term → Term → Option VariableLoad
load_of binary.Load (Leaf (atom.Open v)) address = Some (record { memory = v; address = address })
load_of operator x y = None

abbrev pub same_load : VariableLoad → VariableLoad → Bool
same_load k l = same_variable k.memory l.memory && same_term k.address l.address

abbrev pub is_in : VariableLoad → List VariableLoad → Bool
is_in load [] = false
is_in load (l ∷ loads) = if same_load load l then true else is_in load loads

-- with a load, where it is one and isn't there
abbrev pub with_load : Option VariableLoad → List VariableLoad → List VariableLoad
with_load None loads = loads
with_load (Some load) loads = if is_in load loads then loads else loads ++ load ∷ []

-- with the loads of a term, arguments before their term and from left to right, each once
unfoldable pub with_loads : Term → List VariableLoad → List VariableLoad
with_loads (Leaf leaf) loads = loads
with_loads (Unary operator a) loads = with_loads a loads
with_loads (Binary operator a b) loads = with_load (load_of operator a b) (with_loads b (with_loads a loads))
with_loads (Ternary operator a b c) loads = with_loads c (with_loads b (with_loads a loads))
with_loads (Quaternary operator a b c d) loads = with_loads d (with_loads c (with_loads b (with_loads a loads)))
with_loads (Octonary a b c d e f g h) loads =
    with_loads h (with_loads g (with_loads f (with_loads e (with_loads d (with_loads c (with_loads b (with_loads a loads)))))))

abbrev pub loads_of : Term → List VariableLoad
loads_of t = with_loads t []

-- ---- each load a byte

-- the byte of the load at an index
abbrev pub byte_variable : ℕ → Variable
byte_variable k = record { family = family.LoadedByte; index = k; instance = 0; sort = sort.Word W8 }

-- the first index of a load
abbrev pub index_of : VariableLoad → List VariableLoad → ℕ
index_of load [] = 0
index_of load (l ∷ loads) = if same_load load l then 0 else index_of load loads + 1

-- the byte of a load, where it is one; else the term
abbrev pub byte_or : List VariableLoad → Option VariableLoad → Term → Term
byte_or loads (Some load) t = open_term (byte_variable (index_of load loads))
byte_or loads None t = t

-- each of these loads, at any place, is its byte
unfoldable pub without_loads : List VariableLoad → Term → Term
without_loads loads (Leaf leaf) = Leaf leaf
without_loads loads (Unary operator a) = Unary operator (without_loads loads a)
without_loads loads (Binary operator a b) = byte_or loads (load_of operator a b) (Binary operator (without_loads loads a) (without_loads loads b))
without_loads loads (Ternary operator a b c) = Ternary operator (without_loads loads a) (without_loads loads b) (without_loads loads c)
without_loads loads (Quaternary operator a b c d) =
    Quaternary operator (without_loads loads a) (without_loads loads b) (without_loads loads c) (without_loads loads d)
without_loads loads (Octonary a b c d e f g h) =
    Octonary (without_loads loads a) (without_loads loads b) (without_loads loads c) (without_loads loads d)
    (without_loads loads e) (without_loads loads f) (without_loads loads g) (without_loads loads h)

-- a load by terms without loads
pub record FlatLoad : Type 0 where
  pub memory : Variable
  pub address : Term
  pub byte : Term

-- some of all loads, the first of which has index k
abbrev pub flattened : (all : List VariableLoad) → (k : ℕ) → List VariableLoad → List FlatLoad
flattened all k [] = []
flattened all k (load ∷ loads) =
    record { memory = load.memory; address = without_loads all load.address; byte = open_term (byte_variable k) } ∷ flattened all (k + 1) loads

abbrev pub flat_loads : Term → List FlatLoad
flat_loads t = flattened (loads_of t) 0 (loads_of t)

-- ---- loads of one memory at equal addresses are equal

abbrev pub agree : FlatLoad → FlatLoad → Term
agree x y = or_term (not_term (equal x.address y.address)) (equal x.byte y.byte)

-- each with the later ones
abbrev pub pairs : List FlatLoad → List Term
pairs [] = []
pairs (load ∷ loads) = map (agree load) loads ++ pairs loads

abbrev pub is_among : Variable → List Variable → Bool
is_among memory [] = false
is_among memory (m ∷ memories) = if same_variable memory m then true else is_among memory memories

-- with the memories of loads, in the order of their first loads
abbrev pub with_memories : List Variable → List FlatLoad → List Variable
with_memories memories [] = memories
with_memories memories (load ∷ loads) = with_memories (if is_among load.memory memories then memories else memories ++ load.memory ∷ []) loads

abbrev pub memories_of : List FlatLoad → List Variable
memories_of loads = with_memories [] loads

abbrev pub is_from : Variable → FlatLoad → Bool
is_from memory load = same_variable memory load.memory

-- the pairs of each of these memories
abbrev pub pairs_of : List Variable → List FlatLoad → List Term
pairs_of [] loads = []
pairs_of (memory ∷ memories) loads = pairs (filter (is_from memory) loads) ++ pairs_of memories loads

-- a term, and these
abbrev pub all_of : Term → List Term → Term
all_of t [] = t
all_of t (u ∷ terms) = all_of (and_term t u) terms

abbrev pub consistent : List FlatLoad → Term
consistent loads = all_of (truth true) (pairs_of (memories_of loads) loads)

-- ---- the whole

-- where the bytes are consistent, the term by them
abbrev pub flat_of : Term → Term
flat_of t = or_term (not_term (consistent (flat_loads t))) (without_loads (loads_of t) t)
