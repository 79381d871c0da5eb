-- The bytes of loads, written from the last to the first.
use Rattle.std.proofs.Common.{◌≡◌, ◌<◌, ◌≤◌, ◌+◌, ◌%◌, ◌^◌, ℕ, zero, suc, List, [], ◌∷◌, length, map, drop, get_or, ap, sym, ◌∙◌, subst, arith}
use Rattle.clause_check_spec.specs.Clause.{Valuation}
use Rattle.term_core_spec.specs.Value.{low_bits, with_byte}
use Rattle.bit_blast_spec.specs.Circuits.{Bits}
use Rattle.bit_blast_spec.specs.Goal.{Table, Load}
use Rattle.bit_blast_laws.specs.Meaning.{number_of}
use Rattle.bit_blast_laws.specs.Back.{first_byte}
use Rattle.bit_blast.specs.declared.loads.LoadIndices.{LoadIndices}
use Rattle.bit_blast.specs.Loads.{load_at}
use Rattle.bit_blast.specs.Backs.{AreShort}
use Rattle.bit_blast.proofs.Ties.{from_index}
use Rattle.bit_blast.proofs.Numbers.{short_number, low_byte}
use Rattle.bit_blast.proofs.Restored.{written_back}

short_at : (t : Table) (loads : List LoadIndices) (index : ℕ) (d : LoadIndices) → AreShort (map (load_at t) loads) → index < length loads
    → length (load_at t (get_or loads index d)).address ≤ 32
short_at t [] index d short below = absurd (omega arith)
short_at t (load ∷ loads) zero d short below = short.0
short_at t (load ∷ loads) (suc index) d short below = short_at t loads index d short.1 (omega arith)

-- one byte more, before the others
pub back_one : (values : Valuation) (t : Table) (loads : List LoadIndices) (index before : ℕ) (d : LoadIndices) (old new : ℕ → ℕ) → index ≡ before + 1 → index ≤ length loads
    → (AreShort (map (load_at t) loads) → (q : ℕ) → old q ≡ low_bits 8 (first_byte values q (map (load_at t) (drop index loads))))
    → (length (load_at t (get_or loads before d)).address ≤ 32
    → new ≡ with_byte old (number_of values (load_at t (get_or loads before d)).address) (low_bits 8 (number_of values (load_at t (get_or loads before d)).byte)))
    → AreShort (map (load_at t) loads) → (q : ℕ) → new q ≡ low_bits 8 (first_byte values q (map (load_at t) (drop before loads)))
back_one values t loads index before d old new e within was wrote short q =
    let below : before < length loads = omega (arith, e) in
    let rest : List Load = map (load_at t) (drop (before + 1) loads) in
    subst (λ (list : List Load). new q ≡ low_bits 8 (first_byte values q list)) (sym (from_index (load_at t) loads before d below))
    (written_back values (load_at t (get_or loads before d)) rest old new (wrote (short_at t loads before d short below))
    (λ p. was short p ∙ ap (λ (n : ℕ). low_bits 8 (first_byte values p (map (load_at t) (drop n loads)))) e) q)

-- one byte is written
pub write_one : (values : Valuation) (address byte : Bits) (a b n m : ℕ) (old new : ℕ → ℕ) → new ≡ with_byte old a b
    → n ≡ number_of values address % 2 ^ 64 → m ≡ number_of values byte % 2 ^ 64 → (n < 2 ^ 32 → a ≡ n) → b ≡ m % 256 → length address ≤ 32
    → new ≡ with_byte old (number_of values address) (low_bits 8 (number_of values byte))
write_one values address byte a b n m old new e is_n is_m at low short =
    let whole = short_number values address n is_n short in
    e ∙ ap (λ (x : ℕ). with_byte old x b) (at whole.1 ∙ whole.0) ∙ ap (with_byte old (number_of values address)) (low ∙ low_byte values byte m is_m)
