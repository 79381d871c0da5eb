-- The code reaches its two words, calls nothing and takes no stack.
use Rattle.std.proofs.Common.{◌≡◌, ℕ, zero, suc, ◌+◌, ◌-◌, ◌<◌, List, [], ◌∷◌, Contains, Some, None, refl, sym, ◌∙◌, ap, subst, inl, inr, arith, lit<, lit≤}
use Rattle.std.specs.Prelude.{◌⊎◌, IsSome, slice_get}
use Rattle.std.specs.List.Sorted.{IsStrictlyIncreasing}
use Rattle.rv_instr.specs.Instr.{instr, instr_of}
use Rattle.elf_read_spec.specs.Image.{size_at, fixed_byte}
use Rattle.code_reach_spec.specs.Code.{instr_at, InRange, HasCode, Flow, Falls, Returns, Calls, Jumps, flow_at, nexts_of, IsReachable, here, next, CallsOn, call, tail, AreReachable, IsStack, deep}
use Rattle.example_laws.specs.AddTwoArgumentsCalled.{image, code_bytes}
use Rattle.example_laws.proofs.ClaimBytes.{file_byte}

-- ---- the code

byte_there : (k : ℕ) → k < 8 → IsSome (slice_get code_bytes k)
byte_there zero below = refl
byte_there (suc zero) below = refl
byte_there (suc (suc zero)) below = refl
byte_there (suc (suc (suc zero))) below = refl
byte_there (suc (suc (suc (suc zero)))) below = refl
byte_there (suc (suc (suc (suc (suc zero))))) below = refl
byte_there (suc (suc (suc (suc (suc (suc zero)))))) below = refl
byte_there (suc (suc (suc (suc (suc (suc (suc zero))))))) below = refl
byte_there (suc (suc (suc (suc (suc (suc (suc (suc k)))))))) below = absurd (omega (arith, below))

has_code : HasCode image 0x10000 8
has_code = record {
  not_empty = lit< tt;
  range_fixed = record {
    in_space = lit≤ tt;
    fixed = λ address within.
        let k = address - 0x10000 in
        let from = within.from in
        let below = within.below in
        let place : 0x10000 + k ≡ address = omega (arith, from) in
        subst (λ a. IsSome (fixed_byte image a)) place (subst IsSome (sym (file_byte k)) (byte_there k (omega (arith, from, below))));
  };
  entry_aligned = refl;
  size_aligned = refl;
}

sized : size_at image 0x10000 ≡ Some 8
unfolding size_at
sized = refl

falls : flow_at image 0x10000 0x10000 ≡ Some Falls
unfolding flow_at instr_at fixed_byte instr instr_of
falls = refl

returns : flow_at image 0x10000 0x10004 ≡ Some Returns
unfolding flow_at instr_at fixed_byte instr instr_of
returns = refl

-- ---- what is reached

first_or_last : (address : ℕ) → Contains (0x10000 ∷ 0x10004 ∷ []) address → (address ≡ 0x10000) ⊎ (address ≡ 0x10004)
first_or_last address (zero, below, e) = inl (sym e)
first_or_last address (suc zero, below, e) = inr (sym e)
first_or_last address (suc (suc k), below, e) = absurd (omega (arith, below))

some_flow : (a b : Flow) → Some a ≡ Some b → a ≡ b
some_flow a b e = cc

in_one : (x y : ℕ) → Contains (x ∷ []) y → y ≡ x
in_one x y (zero, below, e) = sym e
in_one x y (suc k, below, e) = absurd (omega (arith, below))

in_none : (y : ℕ) → Contains [] y → ⊥
in_none y (k, below, e) = omega (arith, below)

after_one : (address target : ℕ) (flow : Flow) → (address ≡ 0x10000) ⊎ (address ≡ 0x10004) → flow_at image 0x10000 address ≡ Some flow
    → Contains (nexts_of address flow) target → Contains (0x10000 ∷ 0x10004 ∷ []) target
after_one address target flow (inl e) is inside =
    let flow_is : flow ≡ Falls = some_flow flow Falls (sym is ∙ (ap (flow_at image 0x10000) e ∙ falls)) in
    let target_is : target ≡ address + 4 = in_one (address + 4) target (subst (λ f. Contains (nexts_of address f) target) flow_is inside) in
    (1, lit< tt, omega (arith, e, target_is))
after_one address target flow (inr e) is inside =
    let flow_is : flow ≡ Returns = some_flow flow Returns (sym is ∙ (ap (flow_at image 0x10000) e ∙ returns)) in
    absurd (in_none target (subst (λ f. Contains (nexts_of address f) target) flow_is inside))

from_reached : (address : ℕ) → IsReachable image 0x10000 8 address → Contains (0x10000 ∷ 0x10004 ∷ []) address
from_reached _ (here code) = (0, lit< tt, refl)
from_reached _ (next address target flow reached is inside within) =
    after_one address target flow (first_or_last address (from_reached address reached)) is inside

second_reached : IsReachable image 0x10000 8 0x10004
second_reached = next 0x10000 0x10004 Falls (here has_code) falls (0, lit< tt, refl) (record { from = lit≤ tt; below = lit< tt })

to_reached : (address : ℕ) → Contains (0x10000 ∷ 0x10004 ∷ []) address → IsReachable image 0x10000 8 address
to_reached address (zero, below, e) = subst (IsReachable image 0x10000 8) e (here has_code)
to_reached address (suc zero, below, e) = subst (IsReachable image 0x10000 8) e second_reached
to_reached address (suc (suc k), below, e) = absurd (omega (arith, below))

rising : IsStrictlyIncreasing (0x10000 ∷ 0x10004 ∷ [])
rising zero within = lit< tt
rising (suc k) within = absurd (omega (arith, within))

reachable : AreReachable image 0x10000 8 (0x10000 ∷ 0x10004 ∷ [])
reachable = record { rising = rising; exactly = λ address. (to_reached address, from_reached address) }

-- ---- what is called

no_call : (address : ℕ) (flow : Flow) → (address ≡ 0x10000) ⊎ (address ≡ 0x10004) → flow_at image 0x10000 address ≡ Some flow → (flow ≡ Falls) ⊎ (flow ≡ Returns)
no_call address flow (inl e) is = inl (some_flow flow Falls (sym is ∙ (ap (flow_at image 0x10000) e ∙ falls)))
no_call address flow (inr e) is = inr (some_flow flow Returns (sym is ∙ (ap (flow_at image 0x10000) e ∙ returns)))

calls_nothing : (target : ℕ) → CallsOn image 0x10000 8 target → ⊥
calls_nothing _ (call address target reached is sized) =
    elim (no_call address (Calls target) (first_or_last address (from_reached address reached)) is) [ inl e ↦ absurd (cc) | inr e ↦ absurd (cc) ]
calls_nothing _ (tail address target reached is outside sized) =
    elim (no_call address (Jumps target) (first_or_last address (from_reached address reached)) is) [ inl e ↦ absurd (cc) | inr e ↦ absurd (cc) ]

pub no_stack : IsStack image 0x10000 0
unfolding instr_at fixed_byte instr instr_of
no_stack =
    deep 0x10000 8 0 (0x10000 ∷ 0x10004 ∷ []) (λ target. 0) sized reachable (λ target calls. absurd (calls_nothing target calls))
    (record { above = λ x calls. lit≤ tt; reached = inl refl })
