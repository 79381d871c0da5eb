-- The ties of loads, one after the other.
use Rattle.std.proofs.Common.{◌≡◌, ◌<◌, ◌≤◌, ◌+◌, ℕ, zero, suc, List, [], ◌∷◌, length, map, drop, get_or, refl, ap, sym, ◌∙◌, arith, filter}
use Rattle.clause_check_spec.specs.declared.Literal.{Literal}
use Rattle.clause_check_spec.specs.Clause.{Cnf}
use Rattle.term_core_spec.specs.Term.{Term}
use Rattle.bit_blast_spec.specs.Gates.{Build, ◌>>=◌, claim}
use Rattle.bit_blast_spec.specs.Circuits.{equal_bits}
use Rattle.bit_blast_spec.specs.Goal.{Load, equal_where, tie, tie_all, is_of_memory, tie_memories}
use Rattle.bit_blast_circuits.specs.Built.{IsBuilt, Continues}
use Rattle.bit_blast_circuits.proofs.Built.{continues_then, continues_end}
use Rattle.bit_blast.specs.Within.{BuiltWithin}
use Rattle.bit_blast.proofs.Within.{ContinuesWithin, within_then, within_end}

-- ---- a load and later ones

pub tie_one : (load later : Load) (loads : List Load) (whole : Build (Unit {0})) (old now mid next : Cnf) (same : Literal)
    → Continues whole old now (tie load (later ∷ loads)) (λ (u : Unit {0}). u) → IsBuilt (equal_bits load.address later.address) now same mid
    → IsBuilt (claim (equal_where same load.byte later.byte)) mid tt next → Continues whole old next (tie load loads) (λ (u : Unit {0}). u)
unfolding tie
tie_one load later loads whole old now mid next same on first second =
    continues_then (λ (u : Unit {0}). tie load loads)
    (continues_then (λ (s : Literal). claim (equal_where s load.byte later.byte) >>= λ u. tie load loads) on first) second

pub tie_end : (load : Load) (whole : Build (Unit {0})) (old now : Cnf) → Continues whole old now (tie load []) (λ (u : Unit {0}). u) → IsBuilt whole old tt now
unfolding tie
tie_end load whole old now on = continues_end tt on

-- ---- each load and the later ones

pub ties_one : (maximum : ℕ) (load : Load) (loads : List Load) (whole : Build (Unit {0})) (old now next : Cnf) → now.variables ≤ maximum
    → ContinuesWithin maximum whole old now (tie_all (load ∷ loads)) → BuiltWithin maximum (tie load loads) now tt next → ContinuesWithin maximum whole old next (tie_all loads)
unfolding tie_all
ties_one maximum load loads whole old now next small on first = within_then (tie load loads) (λ (u : Unit {0}). tie_all loads) small on first

pub ties_end : (maximum : ℕ) (whole : Build (Unit {0})) (old now : Cnf) → ContinuesWithin maximum whole old now (tie_all []) → BuiltWithin maximum whole old tt now
unfolding tie_all
ties_end maximum whole old now on = within_end tt on

-- ---- each memory

pub memories_one : (maximum : ℕ) (memory : Term) (memories : List Term) (loads : List Load) (whole : Build (Unit {0})) (old now next : Cnf) → now.variables ≤ maximum
    → ContinuesWithin maximum whole old now (tie_memories (memory ∷ memories) loads) → BuiltWithin maximum (tie_all (filter (is_of_memory memory) loads)) now tt next
    → ContinuesWithin maximum whole old next (tie_memories memories loads)
unfolding tie_memories
memories_one maximum memory memories loads whole old now next small on first = within_then (tie_all (filter (is_of_memory memory) loads)) (λ (u : Unit {0}). tie_memories memories loads) small on first

pub memories_end : (maximum : ℕ) (loads : List Load) (whole : Build (Unit {0})) (old now : Cnf) → ContinuesWithin maximum whole old now (tie_memories [] loads)
    → BuiltWithin maximum whole old tt now
unfolding tie_memories
memories_end maximum loads whole old now on = within_end tt on

-- ---- lists from an index on

pub from_index : {X Y : Type 0} → (f : X → Y) (xs : List X) (index : ℕ) (d : X) → index < length xs
    → map f (drop index xs) ≡ f (get_or xs index d) ∷ map f (drop (index + 1) xs)
from_index f [] index d below = absurd (omega arith)
from_index f (x ∷ xs) zero d below = refl
from_index f (x ∷ xs) (suc index) d below =
    let next : suc index + 1 ≡ suc (index + 1) = omega arith in
    from_index f xs index d (omega arith) ∙ ap (λ (n : ℕ). f (get_or xs index d) ∷ map f (drop n (x ∷ xs))) (sym next)

pub from_end : {X : Type 0} → (xs : List X) → drop (length xs) xs ≡ []
from_end [] = refl
from_end (x ∷ xs) = from_end xs

-- ---- two bits that are equal
