-- Small images: their fixed bytes, and their words.
use Rattle.std.proofs.Common.{◌≡◌, ◌+◌, ◌-◌, ◌%◌, ◌^◌, ◌<◌, ◌≤◌, ℕ, zero, suc, List, [], ◌∷◌, length, slice_get, cond, Option, Some, None, IsSome, refl, sym, ap, subst, ◌∙◌, arith, inl, inr, ◌⊎◌, slice_index}
use Rattle.std.specs.Prelude.{⊤, Contains}
use Rattle.std.specs.Option.{option_or}
use Rattle.std.proofs.lemmas.Option.{slice_get-get_or}
use Rattle.memory_spec.proofs.Runs.{le_true}
use Rattle.elf_read_spec.specs.Image.{Image, Symbol, fixed_byte, size_at}
use Rattle.rv_instr.specs.Instr.{instr, instr_of, instr_of_immediate}
use Rattle.code_reach_spec.specs.Code.{instr_at, Flow, Falls, Jumps, Calls, Returns, flow_at, nexts_of, InRange, HasCode, IsReachable, here, next, AreReachable, CallsOn, call, tail, IsStack, deep}
use Rattle.code_reach_spec.specs.Code.{Branches, Switches, TableJump, straight, words_from, table_jump}
use Rattle.code_reach_spec.specs.RunUp.{same, constant_of, parts_of, shift_of, sum, difference, shifted, masked, result_of, bound_of, follow}
use Rattle.example_laws.specs.CodeSamples.{image_with, pair, tail_call, circle, frame, frame_bytes, entered_pair, stray, pair_by_x1, switch, switch_by_bgeu, switch_on_sum, switch_unbounded, switch_out, switch_entered}

-- what computes a flow
unfoldable pub code_computes : ⊤
unfolding instr instr_of instr_of_immediate instr_at flow_at fixed_byte size_at pair tail_call circle frame entered_pair stray pair_by_x1 switch switch_by_bgeu switch_on_sum switch_unbounded switch_out switch_entered straight words_from table_jump same constant_of parts_of shift_of sum difference shifted masked result_of bound_of follow
code_computes = tt

-- the bytes of the one segment are fixed
pub fixed_in : (bytes : List ℕ) (symbols : List Symbol) (address : ℕ) → 0x10000 ≤ address → address < 0x10000 + length bytes
    → IsSome (fixed_byte (image_with bytes symbols) address)
unfolding fixed_byte
fixed_in bytes symbols address low high =
    subst IsSome (sym (ap (λ b. option_or (cond b (slice_get bytes (address - 0x10000)) None) None) (le_true 0x10000 address low)
    ∙ ap (λ o. option_or o None) (slice_get-get_or bytes (address - 0x10000) 0 (omega (arith, low, high))))) refl

-- a function whose range lies in the segment has code
pub has_code : (bytes : List ℕ) (symbols : List Symbol) (entry size long : ℕ) → length bytes ≡ long → 0 < size → 0x10000 ≤ entry
    → entry + size ≤ 0x10000 + long → entry + size ≤ 2 ^ 32 → entry % 4 ≡ 0 → size % 4 ≡ 0 → HasCode (image_with bytes symbols) entry size
has_code bytes symbols entry size long is some low high space e f = record {
  not_empty = some;
  range_fixed = record {
    in_space = space;
    fixed = λ address inside. fixed_in bytes symbols address (omega (arith, low, inside.from)) (omega (arith, high, is, inside.below));
  };
  entry_aligned = e;
  size_aligned = f;
}

pub inside_range : (image : Image) (entry size address : ℕ) → IsReachable image entry size address → InRange entry size address
inside_range image entry size _ (here has) = record { from = omega arith; below = omega (arith, has.not_empty) }
inside_range image entry size _ (next address target flow reached is among inside) = inside

-- ---- the frame

abbrev pub places : List ℕ
places = 0x10000 ∷ 0x10004 ∷ []

only_one : (x t : ℕ) → Contains (x ∷ []) t → x ≡ t
only_one x t (zero, below, e) = e
only_one x t (suc k, below, e) = absurd (omega (arith, below))

no_one : (t : ℕ) → Contains [] t → ⊥
no_one t (k, below, e) = omega (arith, below)

first_falls : flow_at frame 0x10000 0x10000 ≡ Some Falls
unfolding code_computes
first_falls = refl

second_returns : flow_at frame 0x10000 0x10004 ≡ Some Returns
unfolding code_computes
second_returns = refl

same_flow : (o : Option Flow) (known flow : Flow) → o ≡ Some known → o ≡ Some flow → known ≡ flow
same_flow o known flow e f = cc

-- the flow of a reached instruction: it falls, and the next one returns
flow_of_place : (a : ℕ) (flow : Flow) → Contains places a → flow_at frame 0x10000 a ≡ Some flow → ((a ≡ 0x10000) × (Falls ≡ flow)) ⊎ (Returns ≡ flow)
flow_of_place a flow (zero, below, e) is =
    inl (sym e, same_flow (flow_at frame 0x10000 0x10000) Falls flow first_falls (subst (λ n. flow_at frame 0x10000 n ≡ Some flow) (sym e) is))
flow_of_place a flow (suc zero, below, e) is =
    inr (same_flow (flow_at frame 0x10000 0x10004) Returns flow second_returns (subst (λ n. flow_at frame 0x10000 n ≡ Some flow) (sym e) is))
flow_of_place a flow (suc (suc k), below, e) is = absurd (omega (arith, below))

next_place : (a target : ℕ) (flow : Flow) → ((a ≡ 0x10000) × (Falls ≡ flow)) ⊎ (Returns ≡ flow) → Contains (nexts_of a flow) target → Contains places target
next_place a target flow (inl (first, falls)) among =
    let there : 0x10000 + 4 ≡ target =
    only_one (0x10000 + 4) target (subst (λ n. Contains (nexts_of n Falls) target) first (subst (λ f. Contains (nexts_of a f) target) (sym falls) among)) in
    (1, omega arith, there)
next_place a target flow (inr returned) among = absurd (no_one target (subst (λ f. Contains (nexts_of a f) target) (sym returned) among))

contained : (address : ℕ) → IsReachable frame 0x10000 8 address → Contains places address
contained _ (here has) = (0, omega arith, refl)
contained _ (next address target flow reached is among inside) =
    next_place address target flow (flow_of_place address flow (contained address reached) is) among

frame_code : HasCode frame 0x10000 8
unfolding frame
frame_code = has_code frame_bytes _ 0x10000 8 8 refl (omega arith) (omega arith) (omega arith) (omega arith) refl refl

first_reached : IsReachable frame 0x10000 8 0x10000
first_reached = here frame_code

second_reached : IsReachable frame 0x10000 8 0x10004
second_reached = next 0x10000 0x10004 Falls first_reached first_falls (0, omega arith, refl) (record { from = omega arith; below = omega arith })

reached_place : (address : ℕ) → Contains places address → IsReachable frame 0x10000 8 address
reached_place address (zero, below, e) = subst (IsReachable frame 0x10000 8) e first_reached
reached_place address (suc zero, below, e) = subst (IsReachable frame 0x10000 8) e second_reached
reached_place address (suc (suc k), below, e) = absurd (omega (arith, below))

pub frame_reachable : AreReachable frame 0x10000 8 places
frame_reachable = record { rising = rising; exactly = λ address. (reached_place address, contained address) }
  where
    rising : (k : ℕ) → k + 1 < 2 → slice_index places k < slice_index places (k + 1)
    rising zero below = omega arith
    rising (suc k) below = absurd (omega (arith, below))

calls_none : (target : ℕ) → CallsOn frame 0x10000 8 target → ⊥
calls_none _ (call address target reached is some) = elim (flow_of_place address (Calls target) (contained address reached) is) [ inl x ↦ (let e = x.1 in cc) | inr e ↦ cc ]
calls_none _ (tail address target reached is outside some) = elim (flow_of_place address (Jumps target) (contained address reached) is) [ inl x ↦ (let e = x.1 in cc) | inr e ↦ cc ]

pub frame_stack : IsStack frame 0x10000 16
unfolding code_computes
frame_stack =
    deep 0x10000 8 0 places (λ t. 0) refl frame_reachable (λ t calls. absurd (calls_none t calls)) (record { above = λ t calls. omega arith; reached = inl refl })

-- ---- jumps by a table

module _ (image : Image) (entry size address : ℕ) where
  -- by falling through
  pub falls_to : IsReachable image entry size address → flow_at image entry address ≡ Some Falls → InRange entry size (address + 4)
      → IsReachable image entry size (address + 4)
  falls_to reached is inside = next address (address + 4) Falls reached is (0, omega arith, refl) inside

  pub branch_falls_to : (target : ℕ) → IsReachable image entry size address → flow_at image entry address ≡ Some (Branches target)
      → InRange entry size (address + 4) → IsReachable image entry size (address + 4)
  branch_falls_to target reached is inside = next address (address + 4) (Branches target) reached is (0, omega arith, refl) inside

-- a place of the range of 52 bytes
pub within : (address : ℕ) → 0x10000 ≤ address → address < 0x10034 → InRange 0x10000 52 address
within address low high = record { from = low; below = omega (arith, high) }
