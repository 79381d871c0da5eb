-- Whether an instruction that is reached bounds the index of a table: the first instruction from it on that isn't straight decides.
use Rattle.std.proofs.Common.{◌≡◌, ◌∙◌, ◌⊎◌, inl, inr, ℕ, zero, suc, ◌+◌, ◌-◌, ◌*◌, ◌<◌, ◌≤◌, ◌==◌, Bool, true, false, refl, sym, ap, subst, arith, eqb-true, List, [], ◌∷◌, ◌++◌, Some}
use Rattle.std.specs.Prelude.{Contains}
use Rattle.std.proofs.lemmas.Bool.{cases_lt, eqb-false}
use Rattle.std.proofs.lemmas.Option.{same_Some}
use Rattle.rv_instr.specs.declared.Instr.{Instr}
use Rattle.elf_read_spec.specs.Image.{Image}
use Rattle.code_reach_spec.specs.RunUp.{is_straight}
use Rattle.code_reach_spec.specs.Code.{Flow, Falls, Branches, Jumps, Calls, Links, Returns, Switches, Stops, TableJump, instr_at, flow_at, nexts_of, straight, IsReachable, next}
use Rattle.code_reach_spec.specs.Faults.{goes_to, HasNoFault}
use Rattle.decompile_spec.specs.CodeGraph.{IsKept, keeps, keeps_nothing}
use Rattle.decompile_laws.specs.RunUps.{IsTableJump}
use Rattle.decompile_laws.proofs.Reached.{first_in, inside_range, stays_inside, has_instruction}
use Rattle.decompile_laws.proofs.Switching.{straight_flow, flow_with_table, has_flow}
use Rattle.code_reach_spec.proofs.RunUpPlaces.{IsStraightAt, straight_at, straight-none, straight-more}
use Rattle.decompile_laws.proofs.RunUpsOf.{table_jump_at, straight_there, branch_there, jumps_not_straight}

module _ (image : Image) (entry size : ℕ) (sound : HasNoFault image entry size) where
  -- straight code continues at the next word
  continues : (place : ℕ) (flow : Flow) → IsReachable image entry size place → flow_at image entry place ≡ Some flow
      → (flow ≡ Falls) ⊎ ((target : ℕ) × (flow ≡ Branches target)) → IsReachable image entry size (place + 4)
  continues place _ reached is (inl falls) =
      let is_falls = is ∙ ap Some falls in
      next place (place + 4) Falls reached is_falls (first_in (place + 4) [])
      (stays_inside image entry size place sound reached Falls (place + 4) is_falls (first_in (place + 4) []) (λ e. absurd (cc)))
  continues place _ reached is (inr (target, branches)) =
      let is_branch = is ∙ ap Some branches in
      next place (place + 4) (Branches target) reached is_branch (first_in (place + 4) _)
      (stays_inside image entry size place sound reached (Branches target) (place + 4) is_branch (first_in (place + 4) (target ∷ [])) (λ e. absurd (cc)))

  module _ (address : ℕ) where
    -- the instruction that isn't straight, after straight ones
    module _ (count : ℕ) (words : List Instr) (are : straight image address count ≡ Some words) (i : Instr) (reached : IsReachable image entry size (address + 4 * count))
        (there : instr_at image (address + 4 * count) ≡ Some i) (crooked : is_straight i ≡ false) where
      not_straight : IsStraightAt image (address + 4 * count) → ⊥
      not_straight here =
          let same : here.instruction ≡ i = same_Some here.instruction i (sym here.there ∙ there) in
          let straight_too : is_straight i ≡ true = ap (λ (j : Instr). is_straight j) (sym same) ∙ here.is in
          absurd (cc)

      -- it is the only one that can jump by a table whose index is bounded at the address
      only_there : (other : ℕ) (another : TableJump) → IsReachable image entry size other → flow_at image entry other ≡ Some (Switches another) → another.branch ≡ address
          → other ≡ address + 4 * count
      only_there other another other_reached is branch_is =
          let found = table_jump_at image entry size sound other another other_reached is in
          let b = branch_there image entry size sound other found.0 another found.1 in
          elim (cases_lt (address + 4 * count) other) [
            | inl earlier ↦ absurd (not_straight (straight_there image entry size sound (address + 4 * count) other found.0 another (b.0 + count) found.1
                (omega (arith, earlier, b.2, branch_is)) (omega (arith, b.2, branch_is))))
            | inr not_earlier ↦ elim (cases_lt other (address + 4 * count)) [
              | inl later ↦
                  let place_is : address + 4 * (another.before - b.0) ≡ other = omega (arith, b.1, b.2, branch_is) in
                  absurd (jumps_not_straight image entry size sound other found.0 another found.1
                  (subst (IsStraightAt image) place_is (straight_at image address count (another.before - b.0) words are (omega (arith, b.1, b.2, branch_is, later)))))
              | inr not_later ↦ omega (arith, not_earlier, not_later)
            ]
          ]

      decided : (flow : Flow) → flow_at image entry (address + 4 * count) ≡ Some flow → (kept : Bool) × IsKept image entry size address kept
      decided flow is = at flow is
        where
          none : (fl : Flow) → flow_at image entry (address + 4 * count) ≡ Some fl → ((jump : TableJump) → fl ≡ Switches jump → ⊥) → (kept : Bool) × IsKept image entry size address kept
          none fl e other_flow = (
            false,
            keeps_nothing (λ other another other_reached other_is branch_is.
                let same = only_there other another other_reached other_is branch_is in
                other_flow another (same_Some fl (Switches another) (sym e ∙ (ap (flow_at image entry) (sym same) ∙ other_is)))),
          )

          at : (fl : Flow) → flow_at image entry (address + 4 * count) ≡ Some fl → (kept : Bool) × IsKept image entry size address kept
          at (Switches jump) e = by (jump.branch == address) refl
            where
              by : (b : Bool) → (jump.branch == address) ≡ b → (kept : Bool) × IsKept image entry size address kept
              by true same = (true, keeps (address + 4 * count) jump reached e (eqb-true jump.branch address same))
              by false other_branch = (
                false,
                keeps_nothing (λ other another other_reached other_is branch_is.
                    let same = only_there other another other_reached other_is branch_is in
                    let flows : Switches jump ≡ Switches another = same_Some (Switches jump) (Switches another) (sym e ∙ (ap (flow_at image entry) (sym same) ∙ other_is)) in
                    let jumps : jump ≡ another = cc in
                    eqb-false jump.branch address other_branch (ap (λ (j : TableJump). j.branch) jumps ∙ branch_is)),
              )
          at Falls e = none Falls e (λ jump f. absurd (cc))
          at (Branches target) e = none (Branches target) e (λ jump f. absurd (cc))
          at (Jumps target) e = none (Jumps target) e (λ jump f. absurd (cc))
          at (Calls target) e = none (Calls target) e (λ jump f. absurd (cc))
          at (Links target) e = none (Links target) e (λ jump f. absurd (cc))
          at Returns e = none Returns e (λ jump f. absurd (cc))
          at Stops e = none Stops e (λ jump f. absurd (cc))

    decide : (fuel count : ℕ) (words : List Instr) → straight image address count ≡ Some words → IsReachable image entry size (address + 4 * count)
        → entry + size ≤ address + 4 * count + 4 * fuel → (kept : Bool) × IsKept image entry size address kept
    decide zero count words are reached far = absurd (omega (arith, far, (inside_range image entry size (address + 4 * count) reached).below))
    decide (suc fuel) count words are reached far =
        let i = has_instruction image entry size (address + 4 * count) sound reached in
        let flow = has_flow image entry (address + 4 * count) i.0 i.1 in
        by i.0 flow.0 i.1 flow.1 (is_straight i.0) refl (λ more on e. decide fuel (count + 1) more on e (omega (arith, far)))
      where
        by : (i : Instr) (flow : Flow) → instr_at image (address + 4 * count) ≡ Some i → flow_at image entry (address + 4 * count) ≡ Some flow → (b : Bool) → is_straight i ≡ b
            → ((more : List Instr) → straight image address (count + 1) ≡ Some more → IsReachable image entry size (address + 4 * (count + 1)) → (kept : Bool) × IsKept image entry size address kept)
            → (kept : Bool) × IsKept image entry size address kept
        by i flow there is true straight_is rest =
            let place : address + 4 * count + 4 ≡ address + 4 * (count + 1) = omega arith in
            rest (words ++ i ∷ []) (straight-more image address count words i are there straight_is)
            (subst (IsReachable image entry size) place
            (continues (address + 4 * count) flow reached is
            (straight_flow image entry (address + 4 * count) i flow straight_is (flow_with_table image entry (address + 4 * count) i flow there is))))
        by i flow there is false crooked rest = decided count words are i reached there crooked flow is

  pub kept_or_not : (address : ℕ) → IsReachable image entry size address → (kept : Bool) × IsKept image entry size address kept
  kept_or_not address reached =
      let here : address ≡ address + 4 * 0 = omega arith in
      decide address (entry + size) 0 [] (straight-none image address) (subst (IsReachable image entry size) here reached) (omega arith)

-- which it does is determined
pub one_kept : (image : Image) (entry size address : ℕ) (a b : Bool) → IsKept image entry size address a → IsKept image entry size address b → a ≡ b
one_kept image entry size address _ _ (keeps place jump reached is branch_is) (keeps other another there flow_is same) = refl
one_kept image entry size address _ _ (keeps place jump reached is branch_is) (keeps_nothing none) = absurd (none place jump reached is branch_is)
one_kept image entry size address _ _ (keeps_nothing none) (keeps place jump reached is branch_is) = absurd (none place jump reached is branch_is)
one_kept image entry size address _ _ (keeps_nothing none) (keeps_nothing nothing) = refl
