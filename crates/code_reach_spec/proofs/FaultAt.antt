-- The first fault of an instruction is one that it has, and the least of those.
use Rattle.std.proofs.Common.{◌≡◌, ◌∙◌, ◌⊎◌, inl, inr, ℕ, zero, suc, ◌+◌, ◌-◌, ◌*◌, ◌%◌, ◌==◌, ◌<◌, ◌≤◌, if◌then◌else◌, ◌&&◌, ◌||◌, not, Bool, true, false, List, [], ◌∷◌, get_or, refl, sym, ap, subst, arith, eqb-true, eq-eqb, Option, Some, None}
use Rattle.std.specs.Prelude.{Contains, is_some, option_and_then, nat_le, nat_lt}
use Rattle.std.specs.List.{list_all}
use Rattle.std.proofs.lemmas.Bool.{and_parts, and_from, leb-true, ltb-true, le-leb, lt-ltb}
use Rattle.std.proofs.lemmas.List.Elements.{Contains-append_cases, Contains-append_right}
use Rattle.rv_instr.specs.declared.Instr.{Instr}
use Rattle.elf_read_spec.specs.Image.{Image, size_at}
use Rattle.code_reach_spec.specs.declared.CodeKind.{CodeKind}
use Rattle.code_reach_spec.specs.declared.CodeKind.TheVariants.{NoFunction, Undecoded, Indirect, Leaves}
use Rattle.code_reach_spec.specs.Code.{instr_at, instr_before, flow_at, InRange, Flow, Falls, Branches, Jumps, Calls, Links, Returns, Stops, Switches, TableJump, flow_of, with_table, table_at}
use Rattle.code_reach_spec.specs.Faults.{is_indirect, is_jalr, is_pair, goes_to, IsEntered, at_jump, in_run_up, IsJumpToEntry, IsInstructionFault, no_function, undecoded, indirect, entered, leaves, misaligned, rank}
use Rattle.code_reach_spec.specs.FaultAt.{in_range, is_jump, is_switch, may_go, calls_none, some_target, is_entered, is_unknown, least, stays, flow_fault, fault_of, fault_at}

-- ---- lists

none_in : (t : ℕ) → Contains [] t → ⊥
none_in t (k, below, is) = absurd (omega arith)

only_in : (x t : ℕ) → Contains (x ∷ []) t → t ≡ x
only_in x t (k, below, is) =
    let first : k ≡ 0 = omega arith in
    sym (subst (λ j. get_or (x ∷ []) j t ≡ t) first is)

each : (f : ℕ → Bool) (ts : List ℕ) (t : ℕ) → list_all f ts ≡ true → Contains ts t → f t ≡ true
each f [] t e among = absurd (none_in t among)
each f (x ∷ ts) t e among = elim (Contains-append_cases (x ∷ []) ts t among) [
  | inl first ↦ ap f (only_in x t first) ∙ (and_parts (f x) (list_all f ts) e).0
  | inr rest ↦ each f ts t (and_parts (f x) (list_all f ts) e).1 rest
]

record Out (f : ℕ → Bool) (ts : List ℕ) : Type 0 where
  target : ℕ
  among : Contains ts target
  outside : f target ≡ false

one_out : (f : ℕ → Bool) (ts : List ℕ) → list_all f ts ≡ false → Out f ts
one_out f [] e = absurd (cc)
one_out f (x ∷ ts) e = by (f x) refl e (λ rest. one_out f ts rest)
  where
    by : (b : Bool) → f x ≡ b → (b && list_all f ts) ≡ false → (list_all f ts ≡ false → Out f ts) → Out f (x ∷ ts)
    by false is h rest = record { target = x; among = (0, omega arith, refl); outside = is }
    by true is h rest =
        let o = rest h in
        record { target = o.target; among = Contains-append_right (x ∷ []) ts o.target o.among; outside = o.outside }

-- ---- where control may go

module _ (image : Image) (entry size : ℕ) (flow : Flow) (target : ℕ) where
  jumps_or_not : (f : Flow) (t : ℕ) → Contains (goes_to t f) target → is_jump f ≡ true → f ≡ Jumps target
  jumps_or_not Falls t among e = absurd (cc)
  jumps_or_not (Branches u) t among e = absurd (cc)
  jumps_or_not (Jumps u) t among e = ap Jumps (sym (only_in u target among))
  jumps_or_not (Calls u) t among e = absurd (cc)
  jumps_or_not (Links u) t among e = absurd (cc)
  jumps_or_not Returns t among e = absurd (cc)
  jumps_or_not (Switches jump) t among e = absurd (cc)
  jumps_or_not Stops t among e = absurd (cc)

  inside : in_range entry size target ≡ true → InRange entry size target
  inside e =
      let sides = and_parts (nat_le entry target) (nat_lt target (entry + size)) e in
      record { from = leb-true entry target sides.0; below = ltb-true target (entry + size) sides.1 }

  abbrev by_jump : Bool
  by_jump = is_jump flow && is_some (size_at image target)

  -- it may go there: inside, or to an entry
  goes : (address : ℕ) → Contains (goes_to address flow) target → may_go image entry size flow target ≡ true
      → InRange entry size target ⊎ IsJumpToEntry image flow target
  goes address among e = at (is_switch flow) refl e
    where
      by : (b : Bool) → in_range entry size target ≡ b → (b || by_jump) ≡ true → InRange entry size target ⊎ IsJumpToEntry image flow target
      by true is h = inl (inside is)
      by false is h =
          let sides = and_parts (is_jump flow) (is_some (size_at image target)) h in
          inr (record { jumps = jumps_or_not flow address among sides.0; to_entry = sides.1 })

      at : (s : Bool) → is_switch flow ≡ s → (if s then (target % 4 == 0) && in_range entry size target else in_range entry size target || by_jump) ≡ true
          → InRange entry size target ⊎ IsJumpToEntry image flow target
      at true is h = inl (inside (and_parts (target % 4 == 0) (in_range entry size target) h).1)
      at false is h = by (in_range entry size target) refl h

  in_not : in_range entry size target ≡ false → InRange entry size target → ⊥
  in_not is r =
      let there : in_range entry size target ≡ true =
      and_from (nat_le entry target) (nat_lt target (entry + size)) (le-leb entry target r.from) (lt-ltb target (entry + size) r.below) in
      absurd (cc)

  jump_not : by_jump ≡ false → IsJumpToEntry image flow target → ⊥
  jump_not is j =
      let there : by_jump ≡ true = and_from (is_jump flow) (is_some (size_at image target)) (ap is_jump j.jumps) j.to_entry in
      absurd (cc)

  goes_not : (in_range entry size target || by_jump) ≡ false → (InRange entry size target → ⊥) × (IsJumpToEntry image flow target → ⊥)
  goes_not e = by (in_range entry size target) refl e
    where
      by : (b : Bool) → in_range entry size target ≡ b → (b || by_jump) ≡ false → (InRange entry size target → ⊥) × (IsJumpToEntry image flow target → ⊥)
      by true is h = absurd (cc)
      by false is h = (λ r. in_not is r, λ j. jump_not h j)

either : (b c : Bool) → b ≡ true → (b || c) ≡ true
either b c e = ap (λ x. x || c) e

or_right : (b c : Bool) → c ≡ true → (b || c) ≡ true
or_right true c e = refl
or_right false c e = e

-- ---- words that can be come to without those before

module _ (is_target : ℕ → Bool) where
  some_true : (count back address : ℕ) → back < count → is_target (address - 4 * back) ≡ true → some_target is_target address count ≡ true
  some_true zero back address lt e = absurd (omega (arith, lt))
  some_true (suc count) zero address lt e =
      let here : address ≡ address - 4 * 0 = omega arith in
      ap (λ b. b || some_target is_target (address - 4) count) (ap is_target here ∙ e)
  some_true (suc count) (suc back) address lt e =
      let there : address - 4 - 4 * back ≡ address - 4 * suc back = omega arith in
      or_right (is_target address) (some_target is_target (address - 4) count)
      (some_true count back (address - 4) (omega (arith, lt)) (ap is_target there ∙ e))

  some_found : (count address : ℕ) → some_target is_target address count ≡ true → (back : ℕ) × (back < count) × (is_target (address - 4 * back) ≡ true)
  some_found zero address e = absurd (cc)
  some_found (suc count) address e = by (is_target address) refl e (λ h. some_found count (address - 4) h)
    where
      by : (b : Bool) → is_target address ≡ b → (b || some_target is_target (address - 4) count) ≡ true
          → (some_target is_target (address - 4) count ≡ true → (back : ℕ) × (back < count) × (is_target (address - 4 - 4 * back) ≡ true))
          → (back : ℕ) × (back < suc count) × (is_target (address - 4 * back) ≡ true)
      by true is h rest = let here : address - 4 * 0 ≡ address = omega arith in (0, omega arith, ap is_target here ∙ is)
      by false is h rest =
          let found = rest h in
          let there : address - 4 * suc found.0 ≡ address - 4 - 4 * found.0 = omega arith in
          (suc found.0, omega (arith, found.1), ap is_target there ∙ found.2)

-- ---- the least kind

at_unknown : (a c : Bool) → (kind : CodeKind) × (least a true c ≡ Some kind) × (rank kind ≤ 7)
at_unknown true c = (NoFunction, refl, omega arith)
at_unknown false c = (Indirect, refl, omega arith)

at_leaving : (a b : Bool) → (kind : CodeKind) × (least a b false ≡ Some kind) × (rank kind ≤ 8)
at_leaving true b = (NoFunction, refl, omega arith)
at_leaving false true = (Indirect, refl, omega arith)
at_leaving false false = (Leaves, refl, omega arith)

module _ (image : Image) (entry size address : ℕ) (IsReachedTarget : ℕ → Type 0) (is_target : ℕ → Bool) where
  abbrev Flows : Instr → Flow
  Flows i = with_table (table_at image entry address i) (flow_of (instr_before image entry address) address i)

  flow_is : (i : Instr) → instr_at image address ≡ Some i → flow_at image entry address ≡ Some (Flows i)
  unfolding flow_at
  flow_is i there = ap (option_and_then (λ j. Some (Flows j))) there

  record HasForm (flow : Flow) : Type 0 where
    instruction : Instr
    there : instr_at image address ≡ Some instruction
    flows : Flows instruction ≡ flow

  has_form : (flow : Flow) → flow_at image entry address ≡ Some flow → HasForm flow
  unfolding flow_at
  has_form flow e = by (instr_at image address) refl
    where
      by : (o : Option Instr) → instr_at image address ≡ o → HasForm flow
      by None is = let none : option_and_then (λ j. Some (Flows j)) (instr_at image address) ≡ None = ap (option_and_then (λ j. Some (Flows j))) is in absurd (cc)
      by (Some i) is =
          let some : option_and_then (λ j. Some (Flows j)) (instr_at image address) ≡ Some (Flows i) = ap (option_and_then (λ j. Some (Flows j))) is in
          record { instruction = i; there = is; flows = cc }

  fault_is : (i : Instr) (flow : Flow) → instr_at image address ≡ Some i → Flows i ≡ flow
      → fault_at image entry size address is_target ≡ flow_fault image entry size address is_target i flow
  unfolding fault_at
  fault_is i flow there flows = ap (fault_of image entry size address is_target) there ∙ ap (flow_fault image entry size address is_target i) flows

  undecoded_is : instr_at image address ≡ None → fault_at image entry size address is_target ≡ Some Undecoded
  unfolding fault_at
  undecoded_is e = ap (fault_of image entry size address is_target) e

  flows_of : (i : Instr) (flow : Flow) → instr_at image address ≡ Some i → flow_at image entry address ≡ Some flow → Flows i ≡ flow
  flows_of i flow there is = let found = flow_is i there in cc

  -- ---- each fault has a kind no lower than the first

  abbrev pub FirstFor : CodeKind → Type 0
  FirstFor kind = (first : CodeKind) × (fault_at image entry size address is_target ≡ Some first) × (rank first ≤ rank kind)

  unknown_first : (i : Instr) (flow : Flow) → instr_at image address ≡ Some i → flow_at image entry address ≡ Some flow
      → is_unknown is_target address i flow ≡ true → FirstFor Indirect
  unknown_first i flow there is unknown =
      let found = at_unknown (calls_none image flow) (stays image entry size address flow) in (
        found.0,
        fault_is i flow there (flows_of i flow there is)
            ∙ ap (λ b. least (calls_none image flow) b (stays image entry size address flow)) unknown ∙ found.1,
        found.2,
      )

  -- a jump that is known by the words before it
  pair_entered : (i : Instr) (flow : Flow) → is_pair i flow ≡ true → is_target address ≡ true → is_entered is_target address i flow ≡ true
  pair_entered i Falls e t = absurd (cc)
  pair_entered i (Branches target) e t = absurd (cc)
  pair_entered i (Jumps target) e t = ap (λ b. b && is_target address) e ∙ t
  pair_entered i (Calls target) e t = ap (λ b. b && is_target address) e ∙ t
  pair_entered i (Links target) e t = absurd (cc)
  pair_entered i Returns e t = absurd (cc)
  pair_entered i (Switches jump) e t = absurd (cc)
  pair_entered i Stops e t = absurd (cc)

  is_come_to : ((a : ℕ) → IsReachedTarget a → is_target a ≡ true) → (i : Instr) (flow : Flow) → IsEntered IsReachedTarget address i flow
      → is_entered is_target address i flow ≡ true
  is_come_to known i flow (at_jump _ pair target) = pair_entered i flow pair (known address target)
  is_come_to known i _ (in_run_up jump back lt target) = some_true is_target jump.before back address lt (known (address - 4 * back) target)

  come_to : ((a : ℕ) → is_target a ≡ true → IsReachedTarget a) → (i : Instr) (flow : Flow) → is_entered is_target address i flow ≡ true
      → IsEntered IsReachedTarget address i flow
  come_to known i Falls e = absurd (cc)
  come_to known i (Branches target) e = absurd (cc)
  come_to known i (Jumps target) e = let sides = and_parts (is_jalr i) (is_target address) e in at_jump (Jumps target) sides.0 (known address sides.1)
  come_to known i (Calls target) e = let sides = and_parts (is_jalr i) (is_target address) e in at_jump (Calls target) sides.0 (known address sides.1)
  come_to known i (Links target) e = absurd (cc)
  come_to known i Returns e = absurd (cc)
  come_to known i (Switches jump) e =
      let found = some_found is_target jump.before address e in
      in_run_up jump found.0 found.1 (known (address - 4 * found.0) found.2)
  come_to known i Stops e = absurd (cc)

  leaving : (flow : Flow) → flow_at image entry address ≡ Some flow → stays image entry size address flow ≡ false → FirstFor Leaves
  leaving flow is off =
      let h = has_form flow is in
      let found = at_leaving (calls_none image flow) (is_unknown is_target address h.instruction flow) in (
        found.0,
        fault_is h.instruction flow h.there h.flows
            ∙ ap (least (calls_none image flow) (is_unknown is_target address h.instruction flow)) off ∙ found.1,
        found.2,
      )

  pub none_before : ((a : ℕ) → IsReachedTarget a → is_target a ≡ true) → (kind : CodeKind) → IsInstructionFault image entry size IsReachedTarget address kind → FirstFor kind
  none_before known _ (no_function target is none) =
      let h = has_form (Calls target) is in (
        NoFunction,
        fault_is h.instruction (Calls target) h.there h.flows
            ∙ ap (λ o. least (not (is_some o)) (is_unknown is_target address h.instruction (Calls target)) true) none,
        omega arith,
      )
  none_before known _ (undecoded none) = (Undecoded, undecoded_is none, omega arith)
  none_before known _ (indirect i flow there is so) = unknown_first i flow there is (either (is_indirect i flow) (is_entered is_target address i flow) so)
  none_before known _ (entered i flow there is by) =
      unknown_first i flow there is (or_right (is_indirect i flow) (is_entered is_target address i flow) (is_come_to known i flow by))
  none_before known _ (leaves flow target is among outside no_tail) = leaving flow is (off (stays image entry size address flow) refl)
    where
      off : (b : Bool) → stays image entry size address flow ≡ b → b ≡ false
      off false e = refl
      off true e = absurd (elim (goes image entry size flow target address among (each (may_go image entry size flow) (goes_to address flow) target e among)) [
        | inl in_it ↦ outside in_it
        | inr tail ↦ no_tail tail
      ])
  none_before known _ (misaligned jump target is among odd) = leaving (Switches jump) is (off (stays image entry size address (Switches jump)) refl)
    where
      off : (b : Bool) → stays image entry size address (Switches jump) ≡ b → b ≡ false
      off false e = refl
      off true e =
          let there = each (may_go image entry size (Switches jump)) jump.targets target e among in
          absurd (odd (eqb-true (target % 4) 0 (and_parts (target % 4 == 0) (in_range entry size target) there).0))

  -- ---- the first fault is one

  abbrev Fault : CodeKind → Type 0
  Fault kind = IsInstructionFault image entry size IsReachedTarget address kind

  called_none : (flow : Flow) → calls_none image flow ≡ true → (target : ℕ) × (flow ≡ Calls target) × (size_at image target ≡ None)
  called_none Falls e = absurd (cc)
  called_none (Branches target) e = absurd (cc)
  called_none (Jumps target) e = absurd (cc)
  called_none (Calls target) e = (target, refl, by (size_at image target) refl e)
    where
      by : (o : Option ℕ) → size_at image target ≡ o → not (is_some o) ≡ true → o ≡ None
      by None is h = refl
      by (Some s) is h = absurd (cc)
  called_none (Links target) e = absurd (cc)
  called_none Returns e = absurd (cc)
  called_none (Switches jump) e = absurd (cc)
  called_none Stops e = absurd (cc)

  -- where it may not go
  not_plain : (flow : Flow) (target : ℕ) → flow_at image entry address ≡ Some flow → Contains (goes_to address flow) target
      → (in_range entry size target || (is_jump flow && is_some (size_at image target))) ≡ false → Fault Leaves
  not_plain flow target is among e =
      let not_there = goes_not image entry size flow target e in
      leaves flow target is among not_there.0 not_there.1

  not_there : (flow : Flow) (target : ℕ) → flow_at image entry address ≡ Some flow → Contains (goes_to address flow) target
      → may_go image entry size flow target ≡ false → Fault Leaves
  not_there Falls target is among e = not_plain Falls target is among e
  not_there (Branches t) target is among e = not_plain (Branches t) target is among e
  not_there (Jumps t) target is among e = not_plain (Jumps t) target is among e
  not_there (Calls t) target is among e = not_plain (Calls t) target is among e
  not_there (Links t) target is among e = not_plain (Links t) target is among e
  not_there Returns target is among e = not_plain Returns target is among e
  not_there Stops target is among e = not_plain Stops target is among e
  not_there (Switches jump) target is among e = by (target % 4 == 0) refl e
    where
      by : (b : Bool) → (target % 4 == 0) ≡ b → (b && in_range entry size target) ≡ false → Fault Leaves
      by true even h = not_plain (Switches jump) target is among (ap (λ b. b || false) h)
      by false odd h = misaligned jump target is among (λ even. let same = eq-eqb (target % 4) 0 even in absurd (cc))

  pub is_one : ((a : ℕ) → is_target a ≡ true → IsReachedTarget a) → (kind : CodeKind) → fault_at image entry size address is_target ≡ Some kind
      → IsInstructionFault image entry size IsReachedTarget address kind
  unfolding fault_at
  is_one known kind e = at (instr_at image address) refl e
    where
      unknown : (i : Instr) → instr_at image address ≡ Some i → (b : Bool) → is_indirect i (Flows i) ≡ b
          → (b || is_entered is_target address i (Flows i)) ≡ true → Fault Indirect
      unknown i there true is h = indirect i (Flows i) there (flow_is i there) is
      unknown i there false is h = entered i (Flows i) there (flow_is i there) (come_to known i (Flows i) h)

      by : (i : Instr) → instr_at image address ≡ Some i → (a b c : Bool) → calls_none image (Flows i) ≡ a → is_unknown is_target address i (Flows i) ≡ b
          → stays image entry size address (Flows i) ≡ c → least a b c ≡ Some kind → Fault kind
      by i there true b c no_entry x y h =
          let found = called_none (Flows i) no_entry in
          let same : NoFunction ≡ kind = cc in
          subst Fault same (no_function found.0 (flow_is i there ∙ ap Some found.1) found.2)
      by i there false true c x is y h =
          let same : Indirect ≡ kind = cc in
          subst Fault same (unknown i there (is_indirect i (Flows i)) refl is)
      by i there false false true x y z h = absurd (cc)
      by i there false false false x y z h =
          let o = one_out (may_go image entry size (Flows i)) (goes_to address (Flows i)) z in
          let same : Leaves ≡ kind = cc in
          subst Fault same (not_there (Flows i) o.target (flow_is i there) o.among o.outside)

      at : (o : Option Instr) → instr_at image address ≡ o → fault_of image entry size address is_target o ≡ Some kind → Fault kind
      at None none h = let same : Undecoded ≡ kind = cc in subst Fault same (undecoded none)
      at (Some i) there h = by i there _ _ _ refl refl refl h
