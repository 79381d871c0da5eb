-- The addresses that a function without faults reaches, and where its instructions go.
use Rattle.std.proofs.Common.{◌≡◌, ◌∙◌, ◌⊎◌, inl, inr, ℕ, zero, suc, ◌+◌, ◌-◌, ◌*◌, ◌%◌, ◌^◌, ◌<◌, ◌≤◌, ◌==◌, Bool, true, false, cond, refl, sym, ap, subst, arith, eqb-true, eq-eqb, List, [], ◌∷◌, get_or, Option, Some, None}
use Rattle.std.specs.Prelude.{Contains, flat_map, IsSome, is_some}
use Rattle.std.proofs.lemmas.List.Elements.{Contains-append_left, Contains-append_right, Contains-append_cases}
use Rattle.std.proofs.lemmas.Bool.{cases_lt, cases_eq}
use Rattle.rv_instr.specs.declared.Instr.{Instr}
use Rattle.elf_read_spec.specs.Image.{Image, size_at, fixed_byte}
use Rattle.code_reach_spec.specs.declared.CodeKind.TheVariants.{NoFunction, Empty, Writable, Misplaced, Undecoded, Indirect, Leaves}
use Rattle.code_reach_spec.specs.Code.{InRange, HasCode, IsFixedRange, empty, writable, misplaced, aligned, Flow, Falls, Branches, Jumps, Calls, Links, Returns, Stops, Switches, TableJump, instr_at, flow_at, nexts_of, IsReachable, here, next}
use Rattle.code_reach_spec.specs.Faults.{is_pair, goes_to, IsTarget, IsInstructionFault, no_function, undecoded, entered, at_jump, in_run_up, leaves, misaligned as odd_table, of_instruction, of_range, HasNoFault}

-- ---- lists of one or two addresses

none_in : (t : ℕ) → Contains [] t → ⊥
none_in t (k, below, is) = absurd (omega arith)

pub first_in : (a : ℕ) (xs : List ℕ) → Contains (a ∷ xs) a
first_in a xs = (0, omega arith, refl)

pub second_in : (a b : ℕ) → Contains (a ∷ b ∷ []) b
second_in a b = (1, omega arith, refl)

only_in : (a t : ℕ) → Contains (a ∷ []) t → t ≡ a
only_in a t (k, below, is) =
    let first : k ≡ 0 = omega arith in
    sym (subst (λ j. get_or (a ∷ []) j t ≡ t) first is)

in_aligned : (target t : ℕ) → Contains (aligned target) t → (t ≡ target) × (t % 4 ≡ 0)
in_aligned target t = at (target % 4 == 0) refl
  where
    at : (b : Bool) → (target % 4 == 0) ≡ b → Contains (cond b (target ∷ []) []) t → (t ≡ target) × (t % 4 ≡ 0)
    at true e among =
        let same : t ≡ target = only_in target t among in
        (same, ap (λ x. x % 4) same ∙ eqb-true (target % 4) 0 e)
    at false e among = absurd (none_in t among)

pub is_aligned : (target : ℕ) → target % 4 ≡ 0 → Contains (aligned target) target
is_aligned target e = rw (eq-eqb (target % 4) 0 e) (first_in target [])

-- the words of a table that are multiples of 4
in_all_aligned : (targets : List ℕ) (t : ℕ) → Contains (flat_map aligned targets) t → t % 4 ≡ 0
in_all_aligned [] t among = absurd (none_in t among)
in_all_aligned (target ∷ rest) t among = elim (Contains-append_cases (aligned target) (flat_map aligned rest) t among) [
  | inl first ↦ (in_aligned target t first).1
  | inr later ↦ in_all_aligned rest t later
]

pub all_aligned : (targets : List ℕ) (t : ℕ) → Contains targets t → t % 4 ≡ 0 → Contains (flat_map aligned targets) t
all_aligned [] t among even = absurd (none_in t among)
all_aligned (target ∷ rest) t (zero, below, e) even =
    Contains-append_left (aligned target) (flat_map aligned rest) t (subst (λ u. Contains (aligned u) t) (sym e) (is_aligned t even))
all_aligned (target ∷ rest) t (suc k, below, e) even =
    Contains-append_right (aligned target) (flat_map aligned rest) t (all_aligned rest t (k, omega (arith, below), e) even)

-- ---- where they lie

pub has_code : (image : Image) (entry size address : ℕ) → IsReachable image entry size address → HasCode image entry size
has_code image entry size address (here has) = has
has_code image entry size address (next before _ flow reached is among inside) = has_code image entry size before reached

pub inside_range : (image : Image) (entry size address : ℕ) → IsReachable image entry size address → InRange entry size address
inside_range image entry size address (here has) = record { from = omega arith; below = omega (arith, has.not_empty) }
inside_range image entry size address (next before _ flow reached is among inside) = inside

next_multiple : (address t : ℕ) (flow : Flow) → address % 4 ≡ 0 → Contains (nexts_of address flow) t → t % 4 ≡ 0
next_multiple address t Falls e among = omega (arith, e, only_in (address + 4) t among)
next_multiple address t (Branches target) e (k, below, is) = elim (cases_lt k 1) [
  | inl first ↦
      let zeroth : k ≡ 0 = omega arith in
      let same : address + 4 ≡ t = subst (λ j. get_or ((address + 4) ∷ aligned target) j t ≡ t) zeroth is in
      omega (arith, e, same)
  | inr later ↦
      let one : k ≡ (k - 1) + 1 = omega arith in
      (in_aligned target t (k - 1, omega arith, following k one is)).1
]
  where
    following : (k : ℕ) → k ≡ (k - 1) + 1 → get_or ((address + 4) ∷ aligned target) k t ≡ t → get_or (aligned target) (k - 1) t ≡ t
    following k one is = grind (arith)
next_multiple address t (Jumps target) e among = (in_aligned target t among).1
next_multiple address t (Calls target) e among = omega (arith, e, only_in (address + 4) t among)
next_multiple address t (Links target) e among = (in_aligned target t among).1
next_multiple address t Returns e among = absurd (none_in t among)
next_multiple address t (Switches jump) e among = in_all_aligned jump.targets t among
next_multiple address t Stops e among = absurd (none_in t among)

pub multiple_there : (image : Image) (entry size address : ℕ) → IsReachable image entry size address → address % 4 ≡ 0
multiple_there image entry size address (here has) = has.entry_aligned
multiple_there image entry size address (next before _ flow reached is among inside) = next_multiple before address flow (multiple_there image entry size before reached) among

pub whole_word : (image : Image) (entry size address : ℕ) → IsReachable image entry size address → address + 4 ≤ 2 ^ 32
whole_word image entry size address reached =
    let has = has_code image entry size address reached in
    omega (arith, has.range_fixed.in_space, has.entry_aligned, has.size_aligned, (inside_range image entry size address reached).below, multiple_there image entry size address reached)

-- ---- flow

module _ (image : Image) (entry size address : ℕ) (sound : HasNoFault image entry size) (reached : IsReachable image entry size address) where
  no_fault : (kind : _) → IsInstructionFault image entry size (IsTarget image entry size) address kind → ⊥
  no_fault kind fault = sound kind address (of_instruction kind address reached fault)

  in_range_or_not : (t : ℕ) → InRange entry size t ⊎ (InRange entry size t → ⊥)
  in_range_or_not t = elim (cases_lt t entry) [
    | inl low ↦ inr (λ inside. omega (arith, inside.from))
    | inr from ↦ elim (cases_lt t (entry + size)) [
      | inl below ↦ inl (record { from = from; below = below })
      | inr past ↦ inr (λ inside. omega (arith, inside.below))
    ]
  ]

  -- where it goes by falling through or a branch lies in the range
  pub stays_inside : (flow : Flow) (t : ℕ) → flow_at image entry address ≡ Some flow → Contains (goes_to address flow) t → (flow ≡ Jumps t → ⊥) → InRange entry size t
  stays_inside flow t is among no_jump = elim (in_range_or_not t) [
    | inl inside ↦ inside
    | inr outside ↦ absurd (no_fault Leaves (leaves flow t is among outside (λ on. no_jump on.jumps)))
  ]

  -- where it goes by a jump lies in the range, or is the entry of a function
  pub jumps_inside : (target : ℕ) → flow_at image entry address ≡ Some (Jumps target)
      → InRange entry size target ⊎ ((InRange entry size target → ⊥) × IsSome (size_at image target))
  jumps_inside target is = elim (in_range_or_not target) [
    | inl inside ↦ inl inside
    | inr outside ↦ inr (outside, by_size outside (size_at image target) refl)
  ]
    where
      by_size : (InRange entry size target → ⊥) → (o : Option ℕ) → size_at image target ≡ o → IsSome (size_at image target)
      by_size outside None e = absurd (no_fault Leaves (leaves (Jumps target) target is (first_in target []) outside
          (λ on. let some : is_some (size_at image target) ≡ true = on.to_entry in let off : is_some (size_at image target) ≡ false = ap is_some e in cc)))
      by_size outside (Some s) e = rw e refl

  -- a call is of a function
  pub calls_function : (target : ℕ) → flow_at image entry address ≡ Some (Calls target) → IsSome (size_at image target)
  calls_function target is = at (size_at image target) refl
    where
      at : (o : Option ℕ) → size_at image target ≡ o → IsSome (size_at image target)
      at None e = absurd (no_fault NoFunction (no_function target is e))
      at (Some s) e = rw e refl

  pub has_instruction : (i : Instr) × (instr_at image address ≡ Some i)
  has_instruction = at (instr_at image address) refl
    where
      at : (o : Option Instr) → instr_at image address ≡ o → (i : Instr) × (instr_at image address ≡ Some i)
      at None e = absurd (no_fault Undecoded (undecoded e))
      at (Some i) e = (i, e)

  -- the JALR of a pair is no target
  pub no_target : (i : Instr) (flow : Flow) → instr_at image address ≡ Some i → flow_at image entry address ≡ Some flow → is_pair i flow ≡ true
      → IsTarget image entry size address → ⊥
  no_target i flow there is pair target = no_fault Indirect (entered i flow there is (at_jump flow pair target))

  -- a target is no word of a run-up but the first
  pub not_entered : (jump : TableJump) (back : ℕ) → flow_at image entry address ≡ Some (Switches jump) → back < jump.before
      → IsTarget image entry size (address - 4 * back) → ⊥
  not_entered jump back is lt target =
      let i = has_instruction in
      no_fault Indirect (entered i.0 (Switches jump) i.1 is (in_run_up jump back lt target))

  -- the words of a table are multiples of 4
  pub table_whole : (jump : TableJump) (t : ℕ) → flow_at image entry address ≡ Some (Switches jump) → Contains jump.targets t → t % 4 ≡ 0
  table_whole jump t is among = elim (cases_eq (t % 4) 0) [
    | inl even ↦ even
    | inr odd ↦ absurd (no_fault Leaves (odd_table jump t is among odd))
  ]

-- a function without faults has code
module _ (image : Image) (entry size : ℕ) (sound : HasNoFault image entry size) where
  some_bytes : 0 < size
  some_bytes = elim (cases_lt 0 size) [
    | inl some ↦ some
    | inr none ↦ absurd (sound Empty entry (of_range Empty (empty (omega arith))))
  ]

  range_fixed : IsFixedRange image entry size
  range_fixed = record { in_space = in_space; fixed = fixed }
    where
      not_writable : (IsFixedRange image entry size → ⊥) → ⊥
      not_writable open_range = sound Writable entry (of_range Writable (writable some_bytes open_range))

      in_space : entry + size ≤ 2 ^ 32
      in_space = elim (cases_lt (2 ^ 32) (entry + size)) [
        | inl past ↦ absurd (not_writable (λ is. omega (arith, is.in_space)))
        | inr within ↦ within
      ]

      fixed : (address : ℕ) → InRange entry size address → IsSome (fixed_byte image address)
      fixed address inside = at (fixed_byte image address) refl
        where
          at : (o : Option ℕ) → fixed_byte image address ≡ o → IsSome o
          at (Some b) e = refl
          at None e = absurd (not_writable (λ is. let some : is_some (fixed_byte image address) ≡ true = is.fixed address inside in let off : is_some (fixed_byte image address) ≡ false = ap is_some e in cc))

  pub code_there : HasCode image entry size
  code_there = elim (cases_eq (entry % 4) 0) [
    | inr odd ↦ absurd (sound Misplaced entry (of_range Misplaced (misplaced some_bytes range_fixed (λ e d. odd e))))
    | inl first ↦ elim (cases_eq (size % 4) 0) [
      | inr odd ↦ absurd (sound Misplaced entry (of_range Misplaced (misplaced some_bytes range_fixed (λ e d. odd d))))
      | inl second ↦ record { not_empty = some_bytes; range_fixed = range_fixed; entry_aligned = first; size_aligned = second }
    ]
  ]
