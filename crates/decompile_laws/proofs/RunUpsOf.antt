-- The run-ups of a function without faults: where a machine is not inside one, and how it goes on inside one.
use Rattle.std.proofs.Common.{◌≡◌, ◌≢◌, ◌∙◌, ◌⊎◌, inl, inr, ℕ, zero, suc, ◌+◌, ◌-◌, ◌*◌, ◌/◌, ◌%◌, ◌^◌, ◌<◌, ◌≤◌, ◌==◌, if◌then◌else◌, Bool, true, false, refl, sym, ap, ap₂, subst, arith, length, get_or, List, [], ◌∷◌, ◌++◌, eqb-true, Option, Some, None, pos}
use Rattle.std.specs.Prelude.{Contains, ⊤}
use Rattle.std.proofs.lemmas.Bool.{cases_lt, cases_eq}
use Rattle.std.proofs.lemmas.Option.{same_Some}
use Rattle.rv_instr.specs.declared.Instr.{Instr}
use Rattle.rv_instr.specs.declared.Instr.TheVariants.{Jalr}
use Rattle.rv_machine_spec.specs.Machine.{Machine, IsMachine, read_register, past}
use Rattle.rv_machine_spec.specs.Step.{execute}
use Rattle.rv_machine_spec.proofs.Registers.{read_zero}
use Rattle.rv_machine_spec.proofs.Kept.{read_below}
use Rattle.elf_read_spec.specs.Image.{Image}
use Rattle.code_reach_spec.specs.RunUp.{Symbolic, Constant, Initial, is_straight, at_start, Bound, Followed, follow, followed, before_all, bound_of, with_bound}
use Rattle.code_reach_spec.specs.Code.{Flow, Falls, Branches, Calls, Switches, TableJump, most_targets, HoldsFixed, instr_at, flow_at, straight, IsReachable}
use Rattle.code_reach_spec.specs.Faults.{IsTarget, HasNoFault}
use Rattle.term_core_spec.specs.declared.Width.TheVariants.{W32}
use Rattle.term_core_spec.specs.Value.{Number, Assignment}
use Rattle.decompile_spec.specs.State.{table_index}
use Rattle.decompile_spec.specs.InstructionTerms.{operand}
use Rattle.decompile_spec.specs.Blocks.{bounded_by}
use Rattle.decompile_spec.specs.CodeGraph.{IsKept, keeps, keeps_nothing}
use Rattle.decompile_laws.specs.RunUps.{Free, number_of, IsBefore, Has, HasKept, IsTableJump, IsPast, IsInRunUps}
use Rattle.decompile_laws.proofs.Fields.{AreFields}
use Rattle.decompile_laws.proofs.Reached.{inside_range, whole_word, not_entered, has_instruction}
use Rattle.decompile_laws.proofs.Switching.{IsTable, switch_is, straight_flow, flow_with_table}
use Rattle.decompile_laws.proofs.RunUpJumps.{LookedUp, has_run_up, before_within, words_long, ends, GoesTo, goes_to}
use Rattle.code_reach_spec.proofs.RunUpPlaces.{IsStraightAt, straight_at, straight-none, straight-more, straight-long, followed-more}
use Rattle.decompile_laws.proofs.RunUpBounds.{IsBoundOf, bound_is, IsAmongWords, bounds_lie, new_or_old}
use Rattle.decompile_laws.proofs.RunUpSteps.{Stepped, stepped, IsNotTaken}

same_jump : (a b : TableJump) → Switches a ≡ Switches b → a ≡ b
same_jump a b e = cc

same_base : (r s : ℕ) → Jalr 0 r (pos 0) ≡ Jalr 0 s (pos 0) → r ≡ s
same_base r s e = cc

module _ (image : Image) (entry size : ℕ) (sound : HasNoFault image entry size) where
  -- ---- the words of a run-up

  -- a jump by a table that is reached, and its run-up, which lies in the function
  pub record RunUpOf (place r : ℕ) (jump : TableJump) : Type 0 where
    pub looked : LookedUp image r place jump
    pub from : entry + 4 * jump.before ≤ place

  pub run_up_of : (place r : ℕ) (jump : TableJump) → IsTableJump image entry size place r jump → RunUpOf place r jump
  run_up_of place r jump is =
      let table = switch_is image entry place (Jalr 0 r (pos 0)) jump is.is_jalr is.flow_is in
      let same : r ≡ table.r = same_base r table.r table.is in
      let within : jump.before ≤ (place - entry) / 4 = before_within image table.r place jump ((place - entry) / 4) table.by in
      record {
        looked = subst (λ k. LookedUp image k place jump) (sym same) (has_run_up image table.r place jump ((place - entry) / 4) table.by);
        from = omega (arith, within, (inside_range image entry size place is.reached).from);
      }

  -- where the flow is a jump by a table
  pub table_jump_at : (place : ℕ) (jump : TableJump) → IsReachable image entry size place → flow_at image entry place ≡ Some (Switches jump)
      → (r : ℕ) × IsTableJump image entry size place r jump
  table_jump_at place jump reached flow_is =
      let instruction = has_instruction image entry size place sound reached in
      let table = switch_is image entry place instruction.0 jump instruction.1 flow_is in
      (table.r, record { reached = reached; is_jalr = instruction.1 ∙ ap Some table.is; flow_is = flow_is })

  -- its table has at most so many words
  pub table_few : (place : ℕ) (jump : TableJump) → IsReachable image entry size place → flow_at image entry place ≡ Some (Switches jump) → length jump.targets ≤ most_targets
  table_few place jump reached flow_is =
      let found = table_jump_at place jump reached flow_is in
      let looked = (run_up_of place found.0 jump found.1).looked in
      omega (arith, words_long image looked.first looked.bound.count jump.targets looked.targets_are, looked.few)

  -- so many words past the first word of a run-up
  abbrev pub IsPassed : (pc place : ℕ) → TableJump → (passed : ℕ) → Type 0
  IsPassed pc place jump passed = pc + 4 * jump.before ≡ place + 4 * passed

  -- the word there is straight, if it isn't the jump
  pub straight_there : (pc place r : ℕ) (jump : TableJump) (passed : ℕ) → IsTableJump image entry size place r jump → passed < jump.before → IsPassed pc place jump passed
      → IsStraightAt image pc
  straight_there pc place r jump passed is before at =
      let run = run_up_of place r jump is in
      let there : place - 4 * jump.before + 4 * passed ≡ pc = omega (arith, at, run.from) in
      subst (IsStraightAt image) there (straight_at image (place - 4 * jump.before) jump.before passed run.looked.words run.looked.words_are before)

  -- the bounding branch is one of its words
  pub branch_there : (place r : ℕ) (jump : TableJump) → IsTableJump image entry size place r jump
      → (passed : ℕ) × (passed < jump.before) × IsPassed jump.branch place jump passed
  branch_there place r jump is =
      let run = run_up_of place r jump is in
      let looked = run.looked in
      let end = ends (followed r (place - 4 * jump.before) looked.words before_all) looked.first looked.bound looked.found in
      let lies = bounds_lie r (place - 4 * jump.before) looked.words looked.bound end.among in
      let long = straight-long image (place - 4 * jump.before) jump.before looked.words looked.words_are in
      (lies.place, omega (arith, lies.below, long), omega (arith, lies.branch_is, looked.branch_is, run.from))

  -- ---- two run-ups with a word in common are one

  -- a jump by a table is not straight
  pub jumps_not_straight : (other s : ℕ) (another : TableJump) → IsTableJump image entry size other s another → IsStraightAt image other → ⊥
  jumps_not_straight other s another is_other here =
      let same : here.instruction ≡ Jalr 0 s (pos 0) = same_Some here.instruction (Jalr 0 s (pos 0)) (sym here.there ∙ is_other.is_jalr) in
      let straight_too : is_straight (Jalr 0 s (pos 0)) ≡ true = ap (λ (i : Instr). is_straight i) (sym same) ∙ here.is in
      absurd (cc)

  -- and so no word of a run-up
  apart : (place r : ℕ) (jump : TableJump) (other s : ℕ) (another : TableJump) (passed : ℕ) → IsTableJump image entry size place r jump
      → IsTableJump image entry size other s another → passed < jump.before → IsPassed other place jump passed → ⊥
  apart place r jump other s another passed is is_other before at =
      jumps_not_straight other s another is_other (straight_there other place r jump passed is before at)

  pub one_place : (pc place r : ℕ) (jump : TableJump) (passed other s : ℕ) (another : TableJump) (gone : ℕ) → IsTableJump image entry size place r jump
      → IsTableJump image entry size other s another → passed < jump.before → IsPassed pc place jump passed → gone < another.before → IsPassed pc other another gone
      → place ≡ other
  one_place pc place r jump passed other s another gone is is_other before at before_other at_other = elim (cases_lt place other) [
    | inl earlier ↦ absurd (apart other s another place r jump (gone + (jump.before - passed)) is_other is (omega (arith, before, at, before_other, at_other, earlier)) (omega (arith, before, at, at_other)))
    | inr not_earlier ↦ elim (cases_lt other place) [
      | inl later ↦ absurd (apart place r jump other s another (passed + (another.before - gone)) is is_other (omega (arith, before, at, before_other, at_other, later)) (omega (arith, before_other, at, at_other)))
      | inr not_later ↦ omega (arith, not_earlier, not_later)
    ]
  ]

  pub one_jump : (pc place r : ℕ) (jump : TableJump) (passed other s : ℕ) (another : TableJump) (gone : ℕ) → IsTableJump image entry size place r jump
      → IsTableJump image entry size other s another → passed < jump.before → IsPassed pc place jump passed → gone < another.before → IsPassed pc other another gone
      → jump ≡ another
  one_jump pc place r jump passed other s another gone is is_other before at before_other at_other =
      let same = one_place pc place r jump passed other s another gone is is_other before at before_other at_other in
      same_jump jump another (same_Some (Switches jump) (Switches another) (sym is.flow_is ∙ (ap (flow_at image entry) same ∙ is_other.flow_is)))

  -- ---- where no run-up is entered

  -- at the entry
  pub outside_at_entry : (m : Machine) (values : Assignment) → m.pc ≡ entry → IsInRunUps image entry size m values
  outside_at_entry m values pc_is = λ place r jump passed is some within at.
      let from = (run_up_of place r jump is).from in absurd (omega (arith, pc_is, some, at, from))

  -- at a target
  pub outside_at_target : (m : Machine) (values : Assignment) → IsTarget image entry size m.pc → IsInRunUps image entry size m values
  outside_at_target m values target = λ place r jump passed is some within at.
      let from = (run_up_of place r jump is).from in
      let there : m.pc ≡ place - 4 * (jump.before - passed) = omega (arith, at, within, from) in
      absurd (not_entered image entry size place sound is.reached jump (jump.before - passed) is.flow_is (omega (arith, some, within))
      (subst (IsTarget image entry size) there target))

  calls_not_straight : (address target : ℕ) → flow_at image entry address ≡ Some (Calls target) → IsStraightAt image address → ⊥
  calls_not_straight address target flow_is here =
      elim (straight_flow image entry address here.instruction (Calls target) here.is (flow_with_table image entry address here.instruction (Calls target) here.there flow_is)) [
        | inl falls ↦ absurd (cc)
        | inr branches ↦ (let same = branches.1 in absurd (cc))
      ]

  -- after a call
  pub outside_after_call : (m : Machine) (values : Assignment) (address target : ℕ) → IsReachable image entry size address → flow_at image entry address ≡ Some (Calls target)
      → m.pc ≡ past address 4 → IsInRunUps image entry size m values
  outside_after_call m values address target there flow_is pc_is = λ place r jump passed is some within at.
      let from = (run_up_of place r jump is).from in
      let whole = whole_word image entry size address there in
      let place_is : IsPassed address place jump (passed - 1) = omega (arith, pc_is, some, at, from, whole) in
      absurd (calls_not_straight address target flow_is (straight_there address place r jump (passed - 1) is (omega (arith, some, within)) place_is))

  -- ---- from a word of a run-up to the next one

  module _ (m : Machine) (is_machine : IsMachine m) (fixed : HoldsFixed image m.memory) where
    -- before its first word, whatever the registers have
    at_first : (r : ℕ) (branch : ℕ) (values : Assignment)
        → (free : Free) × Has image m free r before_all × HasKept values free branch before_all
    unfolding number_of IsBefore
    at_first r branch values = (
      free,
      record {
        registers = registers;
        loaded = λ source w e at. absurd (cc);
        below = λ bound among. absurd (none among);
        register_before = before;
        source_before = λ source e. absurd (cc);
        bound_before = λ bound among. absurd (none among);
      },
      λ bound among same. absurd (none among),
    )
      where
        free : Free
        free = record { initial = λ s. read_register m s; unknown = λ a. 0 }

        none : {bound : Bound} → Contains [] bound → ⊥
        none (k, below, e) = absurd (omega (arith, below))

        registers : (s : ℕ) → read_register m s ≡ number_of free (at_start s)
        registers s = by (s == 0) refl
          where
            by : (b : Bool) → (s == 0) ≡ b → read_register m s ≡ number_of free (if b then Constant 0 else Initial s)
            by true e = ap (λ k. read_register m k) (eqb-true s 0 e) ∙ read_zero m
            by false e = omega (arith, read_below m s is_machine)

        before : (s : ℕ) → IsBefore m.pc (at_start s)
        before s = by (s == 0)
          where
            by : (b : Bool) → IsBefore m.pc (if b then Constant 0 else Initial s)
            by true = tt
            by false = tt

    -- what an instruction does to the index that is kept: in each run-up in which it lies, from what was followed before it
    abbrev pub KeepsIndex : (values after : Assignment) → Instr → Type 0
    KeepsIndex values after i = (place r : ℕ) (jump : TableJump) (passed : ℕ) → IsTableJump image entry size place r jump → passed < jump.before → IsPassed m.pc place jump passed
        → (free later : Free) (f : Followed) → Has image m free r f → ((bound : Bound) → Contains f.bounds bound → bound.branch < m.pc)
        → ((s : Symbolic) → IsBefore m.pc s → number_of later s ≡ number_of free s)
        → HasKept values free jump.branch f → HasKept after later jump.branch (follow r m.pc i f)

    module _ (now : Machine) (values after : Assignment) (i : Instr) (there : instr_at image m.pc ≡ Some i) (straight_is : is_straight i ≡ true)
        (fields : AreFields i) (then_machine : IsMachine now) (does : execute i m ≡ Some now) (onward : now.pc ≡ m.pc + 4) where
      module _ (not_taken : IsNotTaken m i) (keeps_index : KeepsIndex values after i) where
        further : (place r : ℕ) (jump : TableJump) (passed : ℕ) → IsTableJump image entry size place r jump → passed < jump.before → IsPassed m.pc place jump passed
            → IsPast image m values place r jump passed → IsPast image now after place r jump (passed + 1)
        further place r jump passed is before at past_it =
            let run = run_up_of place r jump is in
            let start : ℕ = place - 4 * jump.before in
            let f : Followed = followed r start past_it.words before_all in
            let here : start + 4 * passed ≡ m.pc = omega (arith, at, run.from) in
            let long : length past_it.words ≡ passed = straight-long image start passed past_it.words past_it.words_are in
            let more = stepped image m now past_it.free r f past_it.has is_machine onward i straight_is fields not_taken then_machine fixed does in
            let same_place : start + 4 * length past_it.words ≡ m.pc = omega (arith, here, long) in
            let all : follow r m.pc i f ≡ followed r start (past_it.words ++ i ∷ []) before_all =
            ap (λ a. follow r a i f) (sym same_place) ∙ sym (followed-more r start past_it.words i before_all) in
            record {
              words = past_it.words ++ i ∷ [];
              words_are = straight-more image start passed past_it.words i past_it.words_are (ap (instr_at image) here ∙ there) straight_is;
              free = more.after;
              has = subst (λ (x : Followed). Has image now more.after r x) all more.has;
              kept = subst (λ (x : Followed). HasKept after more.after jump.branch x) all
                  (keeps_index place r jump passed is before at past_it.free more.after f past_it.has
                  (λ bound among. let lies = bounds_lie r start past_it.words bound among in omega (arith, lies.below, lies.branch_is, long, here)) more.same past_it.kept);
            }

        pub falls_on : IsInRunUps image entry size m values → IsInRunUps image entry size now after
        falls_on inside = λ place r jump passed is some within at.
            let before : passed - 1 < jump.before = omega (arith, some, within) in
            let here : IsPassed m.pc place jump (passed - 1) = omega (arith, at, onward, some) in
            let count : passed - 1 + 1 ≡ passed = omega (arith, some) in
            subst (λ k. IsPast image now after place r jump k) count
            (further place r jump (passed - 1) is before here (come (passed - 1) place r jump is before here))
          where
            come : (passed : ℕ) (place r : ℕ) (jump : TableJump) → IsTableJump image entry size place r jump → passed < jump.before → IsPassed m.pc place jump passed
                → IsPast image m values place r jump passed
            come (suc passed) place r jump is before at = inside place r jump (suc passed) is (omega arith) (omega (arith, before)) at
            come zero place r jump is before at =
                let fresh = at_first r jump.branch values in
                record { words = []; words_are = straight-none image (place - 4 * jump.before); free = fresh.0; has = fresh.1; kept = fresh.2 }

    -- ---- what keeps the index

    -- of a bound that was there before, if the word of the state has not changed
    old_index : (values after : Assignment) (branch r : ℕ) (free later : Free) (f : Followed) (bound : Bound) → after table_index ≡ values table_index → Has image m free r f
        → ((s : Symbolic) → IsBefore m.pc s → number_of later s ≡ number_of free s) → HasKept values free branch f → Contains f.bounds bound → bound.branch ≡ branch
        → after table_index ≡ Number W32 (number_of later bound.index)
    old_index values after branch r free later f bound unchanged has same kept among at_branch =
        unchanged ∙ (kept bound among at_branch ∙ ap (λ k. Number W32 k) (sym (same bound.index (has.bound_before bound among))))

    -- an instruction that bounds nothing
    pub bounds_nothing : (values after : Assignment) (i : Instr) → ((x : ℕ → Symbolic) → bound_of x m.pc i ≡ None) → after table_index ≡ values table_index → KeepsIndex values after i
    unfolding follow
    bounds_nothing values after i none unchanged = λ place r jump passed is before at free later f has old same kept bound among at_branch.
        old_index values after jump.branch r free later f bound unchanged has same kept
        (subst (λ (o : Option Bound). Contains (with_bound o f.bounds) bound) (none f.registers) among) at_branch

    -- a branch that bounds the index of no table
    pub keeps_none : (values after : Assignment) (i : Instr) → IsKept image entry size m.pc false → after table_index ≡ values table_index → KeepsIndex values after i
    unfolding follow
    keeps_none values after i (keeps_nothing no_table) unchanged = λ place r jump passed is before at free later f has old same kept bound among at_branch.
        elim (new_or_old (bound_of f.registers m.pc i) f.bounds bound among) [
          | inl new ↦ absurd (no_table place jump is.reached is.flow_is (sym at_branch ∙ (bound_is f.registers m.pc bound i new).branch_is))
          | inr among_old ↦ old_index values after jump.branch r free later f bound unchanged has same kept among_old at_branch
        ]

    -- a branch that bounds the index of a table, which is kept
    pub keeps_it : (values after : Assignment) (i : Instr) → IsKept image entry size m.pc true
        → ((register : ℕ) → register < 32 → bounded_by i ≡ operand register → after table_index ≡ Number W32 (read_register m register)) → AreFields i → KeepsIndex values after i
    unfolding follow
    keeps_it values after i (keeps other another reached flow_is branch_is) put fields = λ place r jump passed is before at free later f has old same kept bound among at_branch.
        elim (new_or_old (bound_of f.registers m.pc i) f.bounds bound among) [
          | inl new ↦
              let b = bound_is f.registers m.pc bound i new in
              put b.register (b.below fields) b.term_is
              ∙ ap (λ k. Number W32 k) (has.registers b.register ∙ (sym (same (f.registers b.register) (has.register_before b.register)) ∙ ap (λ (s : Symbolic). number_of later s) (sym b.index_is)))
          | inr among_old ↦
              let found = table_jump_at other another reached flow_is in
              let there = branch_there other found.0 another found.1 in
              let same_jump_is = one_jump m.pc place r jump passed other found.0 another there.0 is found.1 before at there.1
              (ap (λ a. a + 4 * another.before) (sym branch_is) ∙ there.2) in
              absurd (omega (arith, old bound among_old, at_branch, branch_is, ap (λ (j : TableJump). j.branch) same_jump_is))
        ]

  -- ---- at the jump

  pub goes_to_target : (m : Machine) (values : Assignment) (r : ℕ) (jump : TableJump) → IsTableJump image entry size m.pc r jump → IsInRunUps image entry size m values
      → GoesTo m values r jump.targets
  goes_to_target m values r jump is inside =
      let run = run_up_of m.pc r jump is in
      let branch = branch_there m.pc r jump is in
      let past_all = inside m.pc r jump jump.before is (omega (arith, branch.1)) (omega arith) (omega arith) in
      let same : past_all.words ≡ run.looked.words = same_Some past_all.words run.looked.words (sym past_all.words_are ∙ run.looked.words_are) in
      goes_to image m values past_all.free r m.pc jump run.looked
      (subst (λ (ws : List Instr). Has image m past_all.free r (followed r (m.pc - 4 * jump.before) ws before_all)) same past_all.has)
      (subst (λ (ws : List Instr). HasKept values past_all.free jump.branch (followed r (m.pc - 4 * jump.before) ws before_all)) same past_all.kept)
