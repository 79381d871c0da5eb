-- What is followed, past an instruction.
use Rattle.std.proofs.Common.{◌≡◌, ◌≢◌, ◌∙◌, ℕ, zero, suc, ◌+◌, ◌<◌, ◌==◌, ◌&&◌, not, Bool, true, false, if◌then◌else◌, refl, sym, ap, ap₂, subst, arith, eqb-true, length, get_or, reverse, List, [], ◌∷◌, ◌++◌, Option, Some, None, append-nil}
use Rattle.std.specs.List.{slice_set}
use Rattle.std.proofs.lemmas.Bool.{eqb-false}
use Rattle.std.proofs.lemmas.List.{reverse-append}
use Rattle.std.proofs.lemmas.Option.{same_Some}
use Rattle.rv_instr.specs.declared.Instr.{Instr}
use Rattle.rv_instr.specs.declared.Instr.TheVariants as instr
use Rattle.rv_instr.specs.declared.LoadKind.{LoadKind}
use Rattle.rv_instr.specs.declared.LoadKind.TheVariants as load_kind
use Rattle.code_reach_spec.specs.RunUp as spec
use Rattle.code_reach_spec.specs.RunUp.{Symbolic, Registers, result_of, bound_of, source_of, with_result, is_into, source_after, with_bound, follow}
use Rattle.code_reach_tables.specs.declared.nodes.Node.{Node}
use Rattle.code_reach_tables.specs.declared.straight.Bound.{Bound}
use Rattle.code_reach_tables.specs.declared.straight.Straight.{Straight}
use Rattle.code_reach_tables.specs.Nodes.{Holds, Extends, trees_of, AreShared, Gives}
use Rattle.code_reach_tables.specs.Followed.{AreRegisters, AreIds, value_of, register_named, address_of, IsTree, GivesMaybe, IsBound, IsBoundOr, AreBounds, option_list, IsFollowed, IsPut, IsResult, IsWritten, IsNoted}
use Rattle.code_reach_tables.proofs.Growth.{held-later, extends-both, below-held, trees-long}
use Rattle.code_reach_tables.proofs.Values.{with_register, result-parts}

-- ---- more trees

pub registers-later : (old new : List Node) (ids : List ℕ) (x : Registers) → Extends (trees_of old) (trees_of new) → AreRegisters old ids x → AreRegisters new ids x
registers-later old new ids x extends has =
    record { count = has.count; each = λ r below. held-later (trees_of old) (trees_of new) (get_or ids r 0) (x r) extends (has.each r below) }

pub tree-stays : (old new : List Symbolic) (id : Option ℕ) (t : Option Symbolic) → Extends old new → IsTree old id t → IsTree new id t
tree-stays old new None None extends is = tt
tree-stays old new (Some id) (Some t) extends is = held-later old new id t extends is
tree-stays old new None (Some t) extends is = absurd is
tree-stays old new (Some id) None extends is = absurd is

bound-stays : (old new : List Symbolic) (b : Bound) (c : spec.Bound) → Extends old new → IsBound old b c → IsBound new b c
bound-stays old new b c extends is =
    record { branch_is = is.branch_is; count_is = is.count_is; index_is = held-later old new b.index c.index extends is.index_is }

bound-or-stays : (old new : List Symbolic) (b : Option Bound) (c : Option spec.Bound) → Extends old new → IsBoundOr old b c → IsBoundOr new b c
bound-or-stays old new None None extends is = tt
bound-or-stays old new (Some b) (Some c) extends is = bound-stays old new b c extends is
bound-or-stays old new None (Some c) extends is = absurd is
bound-or-stays old new (Some b) None extends is = absurd is

bounds-stay : (old new : List Symbolic) (bs : List Bound) (cs : List spec.Bound) → Extends old new → AreBounds old bs cs → AreBounds new bs cs
bounds-stay old new [] [] extends are = tt
bounds-stay old new (b ∷ bs) (c ∷ cs) extends are = (bound-stays old new b c extends are.0, bounds-stay old new bs cs extends are.1)
bounds-stay old new [] (c ∷ cs) extends are = absurd are
bounds-stay old new (b ∷ bs) [] extends are = absurd are

-- ---- indices

pub ids-of : (nodes : List Node) (ids : List ℕ) (x : Registers) → AreShared nodes → AreRegisters nodes ids x → AreIds nodes ids
ids-of nodes ids x shared has = record {
  shared = shared;
  count = has.count;
  below = λ r low. omega (arith, below-held (trees_of nodes) (get_or ids r 0) (x r) (has.each r low), trees-long nodes);
}

pub ids-after : (s : Straight) (f : spec.Followed) → IsFollowed s f → (new : List Node) (ids : List ℕ) → ids ≡ s.registers.items → (loaded : Option ℕ) (t : Option Symbolic)
    → GivesMaybe s.nodes.keys new loaded t → AreIds new ids
ids-after s f is new ids same loaded t gives =
    subst (λ (l : List ℕ). AreIds new l) (sym same)
    (ids-of new s.registers.items f.registers gives.shared (registers-later s.nodes.keys new s.registers.items f.registers gives.extends is.registers))

-- ---- a register is written

set-same : (ids : List ℕ) (k value : ℕ) → k < length ids → get_or (slice_set ids k value) k 0 ≡ value
set-same [] k value below = absurd (omega (arith, below))
set-same (a ∷ ids) zero value below = refl
set-same (a ∷ ids) (suc k) value below = set-same ids k value (omega (arith, below))

set-other : (ids : List ℕ) (k q value : ℕ) → q ≢ k → get_or (slice_set ids k value) q 0 ≡ get_or ids q 0
set-other [] k q value other = refl
set-other (a ∷ ids) zero zero value other = absurd (other refl)
set-other (a ∷ ids) zero (suc q) value other = refl
set-other (a ∷ ids) (suc k) zero value other = refl
set-other (a ∷ ids) (suc k) (suc q) value other = set-other ids k q value (λ e. other (ap suc e))

set-long : (ids : List ℕ) (k value : ℕ) → length (slice_set ids k value) ≡ length ids
set-long [] k value = refl
set-long (a ∷ ids) zero value = refl
set-long (a ∷ ids) (suc k) value = ap suc (set-long ids k value)

registers-set : (nodes : List Node) (ids : List ℕ) (x : Registers) (rd id : ℕ) (t : Symbolic) → AreRegisters nodes ids x → Holds (trees_of nodes) id t
    → AreRegisters nodes (if rd == 0 then ids else slice_set ids rd id) (with_result (Some (rd, t)) x)
registers-set nodes ids x rd id t has holds = by (rd == 0) refl
  where
    by : (b : Bool) → (rd == 0) ≡ b → AreRegisters nodes (if b then ids else slice_set ids rd id) (with_result (Some (rd, t)) x)
    by true none = record { count = has.count; each = λ r below. each r below (r == rd) (r == 0) refl refl }
      where
        each : (r : ℕ) → r < 32 → (a z : Bool) → (r == rd) ≡ a → (r == 0) ≡ z → Holds (trees_of nodes) (get_or ids r 0) (if a && not z then t else x r)
        each r below true true here zero_is = has.each r below
        each r below true false here some = absurd (eqb-false r 0 some (eqb-true r rd here ∙ eqb-true rd 0 none))
        each r below false z off is = has.each r below
    by false some = record { count = set-long ids rd id ∙ has.count; each = λ r below. each r below (r == rd) (r == 0) refl refl }
      where
        each : (r : ℕ) → r < 32 → (a z : Bool) → (r == rd) ≡ a → (r == 0) ≡ z → Holds (trees_of nodes) (get_or (slice_set ids rd id) r 0) (if a && not z then t else x r)
        each r below true true here zero_is = absurd (eqb-false rd 0 some (sym (eqb-true r rd here) ∙ eqb-true r 0 zero_is))
        each r below true false here away =
            let same : r ≡ rd = eqb-true r rd here in
            let place : get_or (slice_set ids rd id) r 0 ≡ id =
            ap (λ k. get_or (slice_set ids rd id) k 0) same ∙ set-same ids rd id (omega (arith, same, below, has.count)) in
            subst (λ k. Holds (trees_of nodes) k t) (sym place) holds
        each r below false z off is =
            subst (λ k. Holds (trees_of nodes) k (x r)) (sym (set-other ids rd r id (eqb-false r rd off))) (has.each r below)

-- where LW loads into the register of the jump
source-address : (x : Registers) (r rd : ℕ) (i : Instr) → register_named i ≡ Some rd → ((r == rd) && not (r == 0)) ≡ true → source_of x r i ≡ address_of x i
source-address x r rd (instr.Load load_kind.Word own base offset) named into =
    let same : own ≡ rd = same_Some own rd named in
    ap (λ b. if b then address_of x (instr.Load load_kind.Word own base offset) else None) (ap (λ k. (r == k) && not (r == 0)) same ∙ into)
source-address x r rd (instr.Load load_kind.Byte own base offset) named into = refl
source-address x r rd (instr.Load load_kind.Half own base offset) named into = refl
source-address x r rd (instr.Load load_kind.ByteUnsigned own base offset) named into = refl
source-address x r rd (instr.Load load_kind.HalfUnsigned own base offset) named into = refl
source-address x r rd (instr.Lui own imm) named into = refl
source-address x r rd (instr.Auipc own imm) named into = refl
source-address x r rd (instr.Jal own offset) named into = refl
source-address x r rd (instr.Jalr own base offset) named into = refl
source-address x r rd (instr.Branch test left right offset) named into = refl
source-address x r rd (instr.Store kind base source offset) named into = refl
source-address x r rd (instr.Immediate operation own source imm) named into = refl
source-address x r rd (instr.Shift operation own source amount) named into = refl
source-address x r rd (instr.Arithmetic operation own left right) named into = refl
source-address x r rd (instr.Fence own source bits) named into = refl
source-address x r rd instr.Ecall named into = refl
source-address x r rd instr.Ebreak named into = refl

named-by : (n : Option ℕ) (v : Symbolic) (rd : ℕ) (t : Symbolic) → with_register n v ≡ Some (rd, t) → n ≡ Some rd
named-by None v rd t e = absurd (cc)
named-by (Some k) v rd t e = ap (λ (p : ℕ × Symbolic). Some p.0) (same_Some (k, v) (rd, t) e)

-- ---- past an instruction

module _ (s0 s1 s2 : Straight) (r address : ℕ) (i : Instr) (f : spec.Followed) (is : IsFollowed s0 f) (loaded : Option ℕ) (gives : GivesMaybe s0.nodes.keys s1.nodes.keys loaded (address_of f.registers i))
    (same_registers : s1.registers ≡ s0.registers) (same_source : s1.source ≡ s0.source) (same_bounds : s1.bounds ≡ s0.bounds) where
  -- what is there before the bound is noted
  record Half (o : Option (ℕ × Symbolic)) : Type 0 where
    shared : AreShared s2.nodes.keys
    extends : Extends (trees_of s1.nodes.keys) (trees_of s2.nodes.keys)
    registers : AreRegisters s2.nodes.keys s2.registers.items (with_result o f.registers)
    source : IsTree (trees_of s2.nodes.keys) s2.source (source_after r o (source_of f.registers r i) f.source)
    bounds : s2.bounds.items ≡ s0.bounds.items

  start-registers : AreRegisters s1.nodes.keys s1.registers.items f.registers
  start-registers = registers-later s0.nodes.keys s1.nodes.keys s1.registers.items f.registers gives.extends
      (subst (λ (ids : List ℕ). AreRegisters s0.nodes.keys ids f.registers) (sym (ap (λ v. v.items) same_registers)) is.registers)

  half : (o : Option (ℕ × Symbolic)) → result_of f.registers address i ≡ o → IsResult s1 s2 r o loaded → Half o
  half None e same = record {
    shared = subst (λ (s : Straight). AreShared s.nodes.keys) (sym same) gives.shared;
    extends = subst (λ (s : Straight). Extends (trees_of s1.nodes.keys) (trees_of s.nodes.keys)) (sym same) ([], sym (append-nil (trees_of s1.nodes.keys)));
    registers = subst (λ (s : Straight). AreRegisters s.nodes.keys s.registers.items f.registers) (sym same) start-registers;
    source = subst (λ (s : Straight). IsTree (trees_of s.nodes.keys) s.source f.source) (sym same)
        (subst (λ o. IsTree (trees_of s1.nodes.keys) o f.source) (sym same_source) (tree-stays (trees_of s0.nodes.keys) (trees_of s1.nodes.keys) s0.source f.source gives.extends is.source));
    bounds = ap (λ (s : Straight). s.bounds.items) same ∙ ap (λ v. v.items) same_bounds;
  }
  half (Some (rd, t)) e (middle, id, given, registers_are, source_is, bounds_are, put) = record {
    shared = subst AreShared (sym put.nodes) given.shared;
    extends = subst (λ ns. Extends (trees_of s1.nodes.keys) (trees_of ns)) (sym put.nodes) given.extends;
    registers = subst (λ ns. AreRegisters ns s2.registers.items (with_result (Some (rd, t)) f.registers)) (sym put.nodes)
        (subst (λ ids. AreRegisters middle.nodes.keys ids (with_result (Some (rd, t)) f.registers)) (sym put.registers)
        (registers-set middle.nodes.keys middle.registers.items f.registers rd id t
        (subst (λ ids. AreRegisters middle.nodes.keys ids f.registers) (sym (ap (λ v. v.items) registers_are))
        (registers-later s1.nodes.keys middle.nodes.keys s1.registers.items f.registers given.extends start-registers)) given.holds));
    source = subst (λ ns. IsTree (trees_of ns) s2.source (source_after r (Some (rd, t)) (source_of f.registers r i) f.source)) (sym put.nodes)
        (subst (λ o. IsTree (trees_of middle.nodes.keys) o (source_after r (Some (rd, t)) (source_of f.registers r i) f.source)) (sym put.source)
        (by ((r == rd) && not (r == 0)) refl));
    bounds = put.bounds ∙ (ap (λ v. v.items) bounds_are ∙ ap (λ v. v.items) same_bounds);
  }
    where
      named : register_named i ≡ Some rd
      named = named-by (register_named i) (value_of address (result_of f.registers address i)) rd t (result-parts f.registers address i ∙ e)

      by : (b : Bool) → ((r == rd) && not (r == 0)) ≡ b
          → IsTree (trees_of middle.nodes.keys) (if b then loaded else middle.source) (if b then source_of f.registers r i else f.source)
      by true into =
          subst (λ o. IsTree (trees_of middle.nodes.keys) loaded o) (sym (source-address f.registers r rd i named into))
          (tree-stays (trees_of s1.nodes.keys) (trees_of middle.nodes.keys) loaded (address_of f.registers i) given.extends gives.is)
      by false away =
          subst (λ o. IsTree (trees_of middle.nodes.keys) o f.source) (sym (source_is ∙ same_source))
          (tree-stays (trees_of s0.nodes.keys) (trees_of middle.nodes.keys) s0.source f.source
          (extends-both (trees_of s0.nodes.keys) (trees_of s1.nodes.keys) (trees_of middle.nodes.keys) gives.extends given.extends) is.source)

  -- with the bound
  noted : (ts : List Symbolic) (bs : List Bound) (cs : List spec.Bound) (b : Option Bound) (c : Option spec.Bound) → AreBounds ts (reverse bs) cs → IsBoundOr ts b c
      → AreBounds ts (reverse (bs ++ option_list b)) (with_bound c cs)
  noted ts bs cs None None are bound = subst (λ l. AreBounds ts (reverse l) cs) (sym (append-nil bs)) are
  noted ts bs cs (Some b) (Some c) are bound = subst (λ l. AreBounds ts l (c ∷ cs)) (sym (reverse-append bs (b ∷ []))) (bound, are)
  noted ts bs cs None (Some c) are bound = absurd bound
  noted ts bs cs (Some b) None are bound = absurd bound

  pub followed-past : (s3 : Straight) (bound : Option Bound) → IsBoundOr (trees_of s1.nodes.keys) bound (bound_of f.registers address i) → IsWritten s1 s2 r address i loaded
      → IsNoted s2 s3 bound → IsFollowed s3 (follow r address i f)
  unfolding follow
  followed-past s3 bound bounds written note =
      let h = half (result_of f.registers address i) refl (written f.registers start-registers) in
      let to2 = extends-both (trees_of s0.nodes.keys) (trees_of s1.nodes.keys) (trees_of s2.nodes.keys) gives.extends h.extends in
      record {
        shared = subst (λ n. AreShared n.keys) (sym note.nodes) h.shared;
        registers = subst (λ n. AreRegisters n.keys s3.registers.items (with_result (result_of f.registers address i) f.registers)) (sym note.nodes)
            (subst (λ v. AreRegisters s2.nodes.keys v.items (with_result (result_of f.registers address i) f.registers)) (sym note.registers) h.registers);
        source = subst (λ n. IsTree (trees_of n.keys) s3.source (source_after r (result_of f.registers address i) (source_of f.registers r i) f.source)) (sym note.nodes)
            (subst (λ o. IsTree (trees_of s2.nodes.keys) o (source_after r (result_of f.registers address i) (source_of f.registers r i) f.source)) (sym note.source) h.source);
        bounds = subst (λ n. AreBounds (trees_of n.keys) (reverse s3.bounds.items) (with_bound (bound_of f.registers address i) f.bounds)) (sym note.nodes)
            (subst (λ l. AreBounds (trees_of s2.nodes.keys) (reverse l) (with_bound (bound_of f.registers address i) f.bounds)) (sym (note.bounds ∙ ap (λ l. l ++ option_list bound) h.bounds))
            (noted (trees_of s2.nodes.keys) s0.bounds.items f.bounds bound (bound_of f.registers address i)
            (bounds-stay (trees_of s0.nodes.keys) (trees_of s2.nodes.keys) (reverse s0.bounds.items) f.bounds to2 is.bounds)
            (bound-or-stays (trees_of s1.nodes.keys) (trees_of s2.nodes.keys) bound (bound_of f.registers address i) h.extends bounds)));
      }
