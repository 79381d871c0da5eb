-- The registers that an instruction of a word names are below 32.
use Rattle.std.proofs.Common.{◌≡◌, ℕ, ◌+◌, ◌<◌, ◌==◌, Bool, true, false, cond, subst, arith, Option, Some, None}
use Rattle.std.specs.Prelude.{⊤, IfSome, option_map, option_and_then}
use Rattle.rv_instr.specs.declared.Instr.{Instr}
use Rattle.rv_instr.specs.declared.Instr.TheVariants.{Lui, Auipc, Jal, Jalr, Branch, Load, Store, Immediate, Shift, Arithmetic, Fence, Ecall, Ebreak}
use Rattle.rv_instr.specs.Instr.{instr, instr_of, instr_of_immediate, either, listed, opcode, rd, rs1, rs2, funct3, funct10, branches, loads, stores, immediates, shifts, arithmetics, i_immediate, u_immediate, j_immediate, field}
use Rattle.elf_read_spec.specs.Image.{Image, fixed_byte}
use Rattle.code_reach_spec.specs.Code.{instr_at, word_of_bytes}

-- registers, and the amount of a shift
abbrev pub AreFields : Instr → Type 0
AreFields (Lui r imm) = r < 32
AreFields (Auipc r imm) = r < 32
AreFields (Jal r offset) = r < 32
AreFields (Jalr r base offset) = (r < 32) × (base < 32)
AreFields (Branch test left right offset) = (left < 32) × (right < 32)
AreFields (Load kind r base offset) = (r < 32) × (base < 32)
AreFields (Store kind base source offset) = (base < 32) × (source < 32)
AreFields (Immediate operation r source imm) = (r < 32) × (source < 32)
AreFields (Shift operation r source amount) = (r < 32) × (source < 32) × (amount < 32)
AreFields (Arithmetic operation r left right) = (r < 32) × (left < 32) × (right < 32)
AreFields (Fence r source bits) = ⊤
AreFields Ecall = ⊤
AreFields Ebreak = ⊤

Good : Option Instr → Type 0
Good o = IfSome o AreFields

either_good : (b : Bool) (x y : Option Instr) → Good x → Good y → Good (cond b x y)
either_good true x y first second = first
either_good false x y first second = second

mapped_good : {X : Type 0} (f : X → Instr) (o : Option X) → ((x : X) → AreFields (f x)) → Good (option_map f o)
unfolding Good
mapped_good f None all = tt
mapped_good f (Some x) all = all x

one_good : (x y : Option Instr) → Good x → Good y → Good (either x y)
unfolding Good
one_good (Some x) y first second = first
one_good None y first second = second

none_good : Good None
unfolding Good
none_good = tt

some_good : (i : Instr) → AreFields i → Good (Some i)
unfolding Good
some_good i are = are

module _ (w : ℕ) where
  rd_below : rd w < 32
  rd_below = omega arith

  rs1_below : rs1 w < 32
  rs1_below = omega arith

  rs2_below : rs2 w < 32
  rs2_below = omega arith

  immediate_good : Good (instr_of_immediate w)
  unfolding instr_of_immediate
  immediate_good = one_good _ _
      (mapped_good _ (listed immediates (funct3 w)) (λ operation. (rd_below, rs1_below)))
      (mapped_good _ (listed shifts (funct10 w)) (λ operation. (rd_below, rs1_below, rs2_below)))

  form_good : (op : ℕ) → Good (instr_of op w)
  unfolding instr_of
  form_good op =
      either_good (op == 0x37) _ _ (some_good (Lui (rd w) (u_immediate w)) rd_below)
      (either_good (op == 0x17) _ _ (some_good (Auipc (rd w) (u_immediate w)) rd_below)
      (either_good (op == 0x6f) _ _ (some_good (Jal (rd w) (j_immediate w)) rd_below)
      (either_good (op == 0x67) _ _ (either_good (funct3 w == 0) _ _ (some_good (Jalr (rd w) (rs1 w) (i_immediate w)) (rd_below, rs1_below)) none_good)
      (either_good (op == 0x63) _ _ (mapped_good _ (listed branches (funct3 w)) (λ test. (rs1_below, rs2_below)))
      (either_good (op == 0x03) _ _ (mapped_good _ (listed loads (funct3 w)) (λ kind. (rd_below, rs1_below)))
      (either_good (op == 0x23) _ _ (mapped_good _ (listed stores (funct3 w)) (λ kind. (rs1_below, rs2_below)))
      (either_good (op == 0x13) _ _ immediate_good
      (either_good (op == 0x33) _ _ (mapped_good _ (listed arithmetics (funct10 w)) (λ operation. (rd_below, rs1_below, rs2_below)))
      (either_good (op == 0x0f) _ _ (either_good (funct3 w == 0) _ _ (some_good (Fence (rd w) (rs1 w) (field 20 12 w)) tt) none_good)
      (either_good (w == 0x00000073) _ _ (some_good Ecall tt)
      (either_good (w == 0x00100073) _ _ (some_good Ebreak tt) none_good)))))))))))

pub fields_of_word : (w : ℕ) (i : Instr) → instr w ≡ Some i → AreFields i
unfolding instr Good
fields_of_word w i is = subst (λ (o : Option Instr). IfSome o AreFields) is (form_good w (opcode w))

pub fields_at : (image : Image) (address : ℕ) (i : Instr) → instr_at image address ≡ Some i → AreFields i
unfolding instr_at
fields_at image address i is = at (word_of_bytes (fixed_byte image address) (fixed_byte image (address + 1)) (fixed_byte image (address + 2)) (fixed_byte image (address + 3))) is
  where
    at : (o : Option ℕ) → option_and_then instr o ≡ Some i → AreFields i
    at None e = absurd (cc)
    at (Some w) e = fields_of_word w i e
