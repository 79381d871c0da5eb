-- The calling convention (psABI, ILP32) as terms: what holds at the entry of a function, where both sides have returned,
-- and the zone of its dead stack.
use Rattle.std.specs.Prelude.{ℕ, nat_lt, if◌then◌else◌, List, [], ◌∷◌, ◌++◌, map, Option, Some, None}
use Rattle.term_core_spec.specs.declared.Family.TheVariants.{Register, Entry}
use Rattle.term_core_spec.specs.declared.Width.TheVariants.{W32}
use Rattle.term_core_spec.specs.declared.Sort.TheVariants as sort
use Rattle.term_core_spec.specs.Term.{Term, not_term, or_term, equal, less, bit_and, subtract, constant, open_term}
use Rattle.sim_rules_spec.specs.Points.{Convention}

abbrev pub word : ℕ → Term
word number = constant W32 number

-- a register at a point, and at the entry of the function
abbrev pub register : ℕ → Term
register r = open_term (record { family = Register; index = r; instance = 0; sort = sort.Word W32 })

abbrev pub at_entry : ℕ → Term
at_entry r = open_term (record { family = Entry; index = r; instance = 0; sort = sort.Word W32 })

-- the stack pointer, the global and the thread pointer, and the registers that a callee saves
abbrev pub kept_registers : List ℕ
kept_registers = 2 ∷ 3 ∷ 4 ∷ 8 ∷ 9 ∷ 18 ∷ 19 ∷ 20 ∷ 21 ∷ 22 ∷ 23 ∷ 24 ∷ 25 ∷ 26 ∷ 27 ∷ []

abbrev pub result_lines : Option Term → List Term
result_lines None = []
result_lines (Some result) = equal (register 10) result ∷ []

-- where both have returned: the result, widened, is in x10, if there is one, and each of these registers is as at entry
abbrev pub return_lines : Option Term → List Term
return_lines result = result_lines result ++ map (λ (r : ℕ). equal (register r) (at_entry r)) kept_registers

-- the zone is so many bytes below the stack pointer at entry
abbrev pub zone_from : ℕ → Term
zone_from stack = subtract (at_entry 2) (word stack)

-- in runs in which the zone is from `bottom` to `top`
abbrev pub convention : (stack bottom top : ℕ) → (result : Option Term) → (fixed : ℕ → Option ℕ) → Convention
convention stack bottom top result fixed = record {
  zone_from = zone_from stack;
  zone_to = at_entry 2;
  bottom = bottom;
  top = top;
  returns = return_lines result;
  fixed = fixed;
}

-- ---- what holds at entry

-- a run of fixed bytes, by its first and its last address
pub record Run : Type 0 where
  pub first : ℕ
  pub last : ℕ

-- the run doesn't meet the zone
abbrev pub outside_zone : (stack : ℕ) → Run → Term
outside_zone stack run = or_term (not_term (less (word run.first) (at_entry 2))) (less (word run.last) (zone_from stack))

abbrev pub global_pointer_lines : Option ℕ → List Term
global_pointer_lines None = []
global_pointer_lines (Some pointer) = equal (at_entry 3) (word pointer) ∷ []

-- the return address is a multiple of 4 and the stack pointer one of 16, and the stack has room; the global pointer is the
-- file's, where it has one; and where there is a zone, no run of fixed bytes meets it
abbrev pub entry_lines : (stack : ℕ) → (global_pointer : Option ℕ) → (runs : List Run) → List Term
entry_lines stack global_pointer runs =
    equal (bit_and (at_entry 1) (word 3)) (word 0)
    ∷ equal (bit_and (at_entry 2) (word 15)) (word 0)
    ∷ not_term (less (at_entry 2) (word stack))
    ∷ (global_pointer_lines global_pointer ++ (if nat_lt 0 stack then map (outside_zone stack) runs else []))
