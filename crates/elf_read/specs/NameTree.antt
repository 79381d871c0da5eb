-- The names of a string table as a tree. A node is an offset of the table and stands for the name there; 0 is the empty
-- name. A name is read from its end: in whole blocks, then what is left before them.
use Rattle.std.specs.Prelude.{◌≡◌, ◌==◌, ◌/◌, ◌%◌, ◌<◌, ◌≤◌, ◌++◌, ◌⊎◌, ℕ, zero, suc, List, [], ◌∷◌, length, take, drop, slice_index, slice_index_or, Option, None, Some, unwrap_or, map, filter, if◌then◌else◌}
use Rattle.std.specs.Borrow.{Bor}
use Rattle.std.specs.Ordering.{nat_cmp}
use Rattle.std.specs.Cmp.Lexicographic.{slice_cmp}
use Rattle.std.specs.Option.{option_and_then}
use Rattle.std.specs.List.{before_first}
use Rattle.std.specs.BTreeMap.{BTreeMap, get, get_by}
use Rattle.elf_read_spec.specs.Image as spec
use Rattle.elf_read_spec.specs.File.{name_in}
use Rattle.elf_read_spec.specs.declared.SymbolValues.{SymbolValues}
use Rattle.elf_read_spec.specs.declared.SymbolValues.TheVariants.{Absent, One, Two}
use Rattle.elf_read.specs.declared.tree.TheConstants.{BLOCK}
use Rattle.elf_read.specs.declared.parts.Symbol.{Symbol}
use Rattle.elf_read.specs.Values.{symbol_of}

-- the names of some symbols begin at these offsets of a string table
abbrev pub ArePlaced : List Symbol → (strings offsets : List ℕ) → Type 0
ArePlaced symbols strings offsets = map (name_in strings) offsets ≡ map (λ s. s.name.now) symbols

-- from a node and the bytes before its name to the node of both
abbrev pub Children : Type 0
Children = BTreeMap (Bor (List ℕ)) ℕ

abbrev pub Tree : Type 0
Tree = BTreeMap ℕ Children

abbrev pub child_among : Option Children → (block : List ℕ) → Option ℕ
child_among children block = option_and_then (λ map. get_by (λ key. slice_cmp nat_cmp block key.now) map) children

abbrev pub child : Tree → (rest : ℕ) → (block : List ℕ) → Option ℕ
child tree rest block = child_among (get nat_cmp tree rest) block

-- the node of so many whole blocks
abbrev pub node_of_blocks : Tree → (count : ℕ) → List ℕ → Option ℕ
node_of_blocks tree zero bytes = Some 0
node_of_blocks tree (suc count) bytes =
    option_and_then (λ rest. child tree rest (take BLOCK bytes)) (node_of_blocks tree count (drop BLOCK bytes))

-- the node of the whole blocks of a name
abbrev pub rest_of : Tree → (name : List ℕ) → Option ℕ
rest_of tree name = node_of_blocks tree (length name / BLOCK) (drop (length name % BLOCK) name)

-- the node of a name
abbrev pub node_of : Tree → (name : List ℕ) → Option ℕ
node_of tree name =
    option_and_then (λ rest. if length name % BLOCK == 0 then Some rest else child tree rest (take (length name % BLOCK) name)) (rest_of tree name)

-- a block that is not there is added with node i; `node` is its node now
pub record IsAdded (old new : List ℕ → Option ℕ) (block : List ℕ) (i node : ℕ) : Type 0 where
  pub kept : (other : List ℕ) (j : ℕ) → old other ≡ Some j → new other ≡ Some j
  pub here : new block ≡ Some node
  pub own : (other : List ℕ) (j : ℕ) → new other ≡ Some j → (old other ≡ Some j) ⊎ ((other ≡ block) × (j ≡ i))

-- the nodes stay that are there
abbrev pub IsKept : (old new : Tree) → Type 0
IsKept old new = (rest : ℕ) (block : List ℕ) (node : ℕ) → child old rest block ≡ Some node → child new rest block ≡ Some node

-- the same for a block before a node
pub record IsGrown (old new : Tree) (rest : ℕ) (block : List ℕ) (i node : ℕ) : Type 0 where
  pub kept : IsKept old new
  pub here : child new rest block ≡ Some node
  pub own : (r : ℕ) (b : List ℕ) (n : ℕ) → child new r b ≡ Some n → (child old r b ≡ Some n) ⊎ ((r ≡ rest) × (b ≡ block) × (n ≡ i))

-- each node stands for the name at its offset
abbrev pub AreOwn : Tree → (strings : List ℕ) → Type 0
AreOwn tree strings = (rest : ℕ) (block : List ℕ) (node : ℕ) → child tree rest block ≡ Some node
    → name_in strings node ≡ block ++ name_in strings rest

-- the bytes of a string table from an offset up to a 0 byte
abbrev pub text_at : List ℕ → (offset : ℕ) → List ℕ
text_at strings offset = before_first (λ b. b == 0) (drop offset strings)

-- from each offset, of those from one on, at which whole blocks are left to their node
pub record AreBlocks (tree : Tree) (strings : List ℕ) (nodes : BTreeMap ℕ ℕ) (from : ℕ) : Type 0 where
  pub own : AreOwn tree strings
  pub each : (offset : ℕ) → 0 < offset → from ≤ offset → length (text_at strings offset) % BLOCK ≡ 0 → BLOCK ≤ length (text_at strings offset)
      → (node : ℕ) × (get nat_cmp nodes offset ≡ Some node) × (rest_of tree (text_at strings offset) ≡ Some node)

-- a name is added, and is at this node
pub record IsNamed (old new : Tree) (strings name : List ℕ) (node : ℕ) : Type 0 where
  pub kept : IsKept old new
  pub own : AreOwn new strings
  pub here : node_of new name ≡ Some node

-- the node of the name of each of the first symbols, as many as there are nodes; and no two names have one node
pub record AreNumbered (tree : Tree) (symbols : List Symbol) (numbers : List ℕ) : Type 0 where
  pub each : (i : ℕ) (d : Symbol) → i < length numbers → node_of tree (slice_index_or symbols i d).name.now ≡ Some (slice_index numbers i)
  pub once : (name other : List ℕ) (node : ℕ) → node_of tree name ≡ Some node → node_of tree other ≡ Some node → name ≡ other

-- what is known of a name, given what is known of each node
abbrev pub looked_up : {V : Type 0} → Tree → BTreeMap ℕ V → (name : List ℕ) → Option V
looked_up tree known name = option_and_then (λ node. get nat_cmp known node) (node_of tree name)

-- what is known of symbols: of none nothing, and of more what a step makes of the first and of what is known of the others
abbrev pub collected : {V : Type 0} → (step : spec.Symbol → Option V → V) → List spec.Symbol → Option V
collected step [] = None
collected step (symbol ∷ symbols) = Some (step symbol (collected step symbols))

-- the same of the symbols of a type and a name, of those from an index on
abbrev pub known_among : {V : Type 0} → (step : spec.Symbol → Option V → V) → List Symbol → (kind : ℕ) (name : List ℕ) (from : ℕ) → Option V
known_among step symbols kind name from = collected step (filter (spec.has_name kind name) (map symbol_of (drop from symbols)))

-- this is what is known of each name
abbrev pub AreCollected : {V : Type 0} → Tree → List Symbol → (kind : ℕ) → (step : spec.Symbol → Option V → V) → BTreeMap ℕ V → (from : ℕ) → Type 0
AreCollected tree symbols kind step known from = (name : List ℕ) → looked_up tree known name ≡ known_among step symbols kind name from

-- the values of the symbols of a name, given the first symbol's value and those of all others
abbrev pub with_first : ℕ → SymbolValues → SymbolValues
with_first value Absent = One value
with_first value (One other) = if other == value then One value else Two value other
with_first value (Two first other) = if first == value then Two value other else Two value first

-- with the value of one symbol more, at the start
abbrev pub values_step : spec.Symbol → Option SymbolValues → SymbolValues
values_step symbol later = with_first symbol.value (unwrap_or later Absent)

-- the size of the first symbol
abbrev pub size_step : spec.Symbol → Option ℕ → ℕ
size_step symbol later = symbol.size
