-- The bytes of the code, in the file and in memory.
use Rattle.std.proofs.Common.{◌≡◌, ℕ, zero, suc, ◌+◌, ◌-◌, ◌^◌, ◌<◌, ◌≤◌, Bool, true, false, cond, List, [], ◌∷◌, get_or, refl, sym, ◌∙◌, ap, subst, arith, eqb-true}
use Rattle.std.specs.Prelude.{Option, Some, None, nat_le, nat_lt, slice_get, unwrap_or}
use Rattle.std.specs.List.{list_all}
use Rattle.std.specs.Option.{option_or}
use Rattle.std.specs.Ordering.{nat_cmp, eq_by_cmp}
use Rattle.std.specs.Cmp.{nat_cmp_total, unsigned_tied}
use Rattle.std.specs.FinMap.{get, find, get-from_entries}
use Rattle.std.proofs.lemmas.Bool.{leb-true, le-leb, ltb-true}
use Rattle.std.proofs.lemmas.List.Sums.{AllPass-from_list_all}
use Rattle.std.proofs.lemmas.Map.Views.{Contains-from_lookup}
use Rattle.std.proofs.lemmas.Option.{slice_get_within, get_or_from_slice_get}
use Rattle.elf_read_spec.specs.Image.{fixed_byte}
use Rattle.memory_spec.specs.Memory.{byte_at}
use Rattle.code_reach_spec.specs.Code.{HoldsFixed}
use Rattle.example_laws.specs.AddTwoArguments.{code}
use Rattle.example_laws.specs.AddTwoArgumentsCalled.{image, code_bytes}

-- ---- in the file

or_none : (o : Option ℕ) → option_or o None ≡ o
or_none None = refl
or_none (Some byte) = refl

pub file_byte : (k : ℕ) → fixed_byte image (0x10000 + k) ≡ slice_get code_bytes k
unfolding fixed_byte
file_byte k =
    let from : nat_le 0x10000 (0x10000 + k) ≡ true = le-leb 0x10000 (0x10000 + k) (omega arith) in
    let place : 0x10000 + k - 0x10000 ≡ k = omega arith in
    rw (from, place) (or_none (slice_get code_bytes k))

from_start : (address byte : ℕ) → fixed_byte image address ≡ Some byte → 0x10000 ≤ address
unfolding fixed_byte
from_start address byte e = by_test (nat_le 0x10000 address) refl e
  where
    by_test : (b : Bool) → nat_le 0x10000 address ≡ b → option_or (cond b (slice_get code_bytes (address - 0x10000)) None) None ≡ Some byte → 0x10000 ≤ address
    by_test true from e = leb-true 0x10000 address from
    by_test false from e = absurd (cc)

-- ---- in memory

abbrev cells : List (ℕ × ℕ)
cells =
    (0x10000, 0x33) ∷ (0x10001, 0x05) ∷ (0x10002, 0xb5) ∷ (0x10003, 0x00)
    ∷ (0x10004, 0x67) ∷ (0x10005, 0x80) ∷ (0x10006, 0x00) ∷ (0x10007, 0x00) ∷ []

cell : (address : ℕ) → get code address ≡ find nat_cmp address cells
unfolding code
cell address = get-from_entries nat_cmp_total cells address

memory_byte : (k : ℕ) → k < 8 → byte_at code (0x10000 + k) ≡ get_or code_bytes k 0
unfolding byte_at
memory_byte k below = ap (λ o. unwrap_or o 0) (cell (0x10000 + k)) ∙ found k below
  where
    found : (k : ℕ) → k < 8 → unwrap_or (find nat_cmp (0x10000 + k) cells) 0 ≡ get_or code_bytes k 0
    found zero below = refl
    found (suc zero) below = refl
    found (suc (suc zero)) below = refl
    found (suc (suc (suc zero))) below = refl
    found (suc (suc (suc (suc zero)))) below = refl
    found (suc (suc (suc (suc (suc zero))))) below = refl
    found (suc (suc (suc (suc (suc (suc zero)))))) below = refl
    found (suc (suc (suc (suc (suc (suc (suc zero))))))) below = refl
    found (suc (suc (suc (suc (suc (suc (suc (suc k)))))))) below = absurd (omega arith)

pub holds_fixed : HoldsFixed image code
holds_fixed address byte e =
    let from = from_start address byte e in
    let k = address - 0x10000 in
    let place : 0x10000 + k ≡ address = omega arith in
    let is : slice_get code_bytes k ≡ Some byte = sym (file_byte k) ∙ ap (λ a. fixed_byte image a) place ∙ e in
    ap (λ a. byte_at code a) (sym place) ∙ memory_byte k (slice_get_within code_bytes k byte is) ∙ get_or_from_slice_get code_bytes k byte 0 is

pub code_cells : (a b : ℕ) → get code a ≡ Some b → (a < 2 ^ 32) × (b < 256)
code_cells a b e =
    let exact : (x y : ℕ) → eq_by_cmp nat_cmp x y ≡ true → x ≡ y = λ x y tied. eqb-true x y (sym (unsigned_tied x y) ∙ tied) in
    let there = Contains-from_lookup {eq = eq_by_cmp nat_cmp} exact a b cells (sym (cell a) ∙ e) in
    let passes : (test : ℕ × ℕ → Bool) → list_all test cells ≡ true → test (a, b) ≡ true =
    λ test all. subst (λ c. test c ≡ true) there.2 (AllPass-from_list_all test cells all there.0 (a, b) there.1) in
    (ltb-true a (2 ^ 32) (passes (λ c. nat_lt c.0 (2 ^ 32)) refl), ltb-true b 256 (passes (λ c. nat_lt c.1 256) refl))
