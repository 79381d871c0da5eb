-- What is followed of straight code, as the program has it.
use Rattle.std.specs.Prelude.{◌≡◌, ℕ, ◌<◌, ◌==◌, ◌&&◌, not, if◌then◌else◌, List, [], ◌∷◌, ◌++◌, get_or, length, reverse, Option, Some, None}
use Rattle.std.specs.List.{slice_set}
use Rattle.rv_instr.specs.declared.Instr.{Instr}
use Rattle.rv_instr.specs.declared.Instr.TheVariants as instr
use Rattle.rv_instr.specs.declared.LoadKind.TheVariants as load_kind
use Rattle.rv_machine_spec.specs.Arithmetic.{word}
use Rattle.code_reach_spec.specs.RunUp as spec
use Rattle.code_reach_spec.specs.RunUp.{Symbolic, Registers, follow}
use Rattle.code_reach_tables.specs.declared.nodes.Node.{Node}
use Rattle.code_reach_tables.specs.declared.straight.Bound.{Bound}
use Rattle.code_reach_tables.specs.declared.straight.Straight.{Straight}
use Rattle.code_reach_tables.specs.Nodes.{Holds, Extends, trees_of, AreShared, Gives}

-- each index is that of what its register has
pub record AreRegisters (nodes : List Node) (ids : List ℕ) (x : Registers) : Type 0 where
  pub count : length ids ≡ 32
  pub each : (r : ℕ) → r < 32 → Holds (trees_of nodes) (get_or ids r 0) (x r)

-- each is an index of a tree
pub record AreIds (nodes : List Node) (ids : List ℕ) : Type 0 where
  pub shared : AreShared nodes
  pub count : length ids ≡ 32
  pub below : (r : ℕ) → r < 32 → get_or ids r 0 < length nodes

-- what is put into a register, if something is
abbrev pub value_of : (address : ℕ) → Option (ℕ × Symbolic) → Symbolic
value_of address None = spec.Unknown address
value_of address (Some result) = result.1

-- the register that an instruction writes
abbrev pub register_named : Instr → Option ℕ
register_named (instr.Lui rd imm) = Some rd
register_named (instr.Auipc rd imm) = Some rd
register_named (instr.Load kind rd base offset) = Some rd
register_named (instr.Immediate operation rd source imm) = Some rd
register_named (instr.Shift operation rd source amount) = Some rd
register_named (instr.Arithmetic operation rd left right) = Some rd
register_named other = None

-- from where LW loads, whatever its register
abbrev pub address_of : Registers → Instr → Option Symbolic
address_of x (instr.Load load_kind.Word rd base offset) = Some (spec.sum (x base) (spec.Constant (word offset)))
address_of x other = None

abbrev pub IsTree : List Symbolic → Option ℕ → Option Symbolic → Type 0
IsTree ts None None = Unit {0}
IsTree ts (Some id) (Some t) = Holds ts id t
IsTree ts id t = ⊥

pub record IsBound (ts : List Symbolic) (bound : Bound) (other : spec.Bound) : Type 0 where
  pub branch_is : bound.branch ≡ other.branch
  pub count_is : bound.count ≡ other.count
  pub index_is : Holds ts bound.index other.index

abbrev pub AreBounds : List Symbolic → List Bound → List spec.Bound → Type 0
AreBounds ts [] [] = Unit {0}
AreBounds ts (b ∷ bs) (c ∷ cs) = IsBound ts b c × AreBounds ts bs cs
AreBounds ts bs cs = ⊥

-- the trees stay, and an index is that of a tree, if there is one
pub record GivesMaybe (old new : List Node) (id : Option ℕ) (t : Option Symbolic) : Type 0 where
  pub shared : AreShared new
  pub extends : Extends (trees_of old) (trees_of new)
  pub is : IsTree (trees_of new) id t

abbrev pub IsBoundOr : List Symbolic → Option Bound → Option spec.Bound → Type 0
IsBoundOr ts None None = Unit {0}
IsBoundOr ts (Some b) (Some c) = IsBound ts b c
IsBoundOr ts b c = ⊥

-- this is what is followed; the last bound comes last
pub record IsFollowed (s : Straight) (f : spec.Followed) : Type 0 where
  pub shared : AreShared s.nodes.keys
  pub registers : AreRegisters s.nodes.keys s.registers.items f.registers
  pub source : IsTree (trees_of s.nodes.keys) s.source f.source
  pub bounds : AreBounds (trees_of s.nodes.keys) (reverse s.bounds.items) f.bounds

abbrev pub option_list : Option Bound → List Bound
option_list None = []
option_list (Some b) = b ∷ []

-- something is followed
abbrev pub IsFine : Straight → Type 0
IsFine s = (f : spec.Followed) × IsFollowed s f

-- past an instruction
abbrev pub Follows : (old new : Straight) → (r address : ℕ) → Instr → Type 0
Follows old new r address i = (f : spec.Followed) → IsFollowed old f → IsFollowed new (follow r address i f)

-- an index is put into a register, and what was loaded into it is the source where the jump is by that register
pub record IsPut (old new : Straight) (r rd id : ℕ) (loaded : Option ℕ) : Type 0 where
  pub nodes : new.nodes.keys ≡ old.nodes.keys
  pub registers : new.registers.items ≡ (if rd == 0 then old.registers.items else slice_set old.registers.items rd id)
  pub source : new.source ≡ (if (r == rd) && not (r == 0) then loaded else old.source)
  pub bounds : new.bounds.items ≡ old.bounds.items

-- an instruction's result is put into its register: another one has no result
abbrev pub IsResult : (old new : Straight) → (r : ℕ) → Option (ℕ × Symbolic) → (loaded : Option ℕ) → Type 0
IsResult old new r None loaded = new ≡ old
IsResult old new r (Some (rd, t)) loaded =
    (middle : Straight) × (id : ℕ) × Gives old.nodes.keys middle.nodes.keys id t × (middle.registers ≡ old.registers) × (middle.source ≡ old.source) × (middle.bounds ≡ old.bounds)
    × IsPut middle new r rd id loaded

abbrev pub IsWritten : (old new : Straight) → (r address : ℕ) → Instr → (loaded : Option ℕ) → Type 0
IsWritten old new r address i loaded = (x : Registers) → AreRegisters old.nodes.keys old.registers.items x → IsResult old new r (spec.result_of x address i) loaded

-- a bound comes after those before, if there is one
pub record IsNoted (old new : Straight) (bound : Option Bound) : Type 0 where
  pub nodes : new.nodes ≡ old.nodes
  pub registers : new.registers ≡ old.registers
  pub source : new.source ≡ old.source
  pub bounds : new.bounds.items ≡ old.bounds.items ++ option_list bound
