-- What holds at the entry of a function speaks of registers at entry alone.
use Rattle.std.proofs.Common.{◌≡◌, ℕ, Bool, true, false, if◌then◌else◌, nat_lt, List, [], ◌∷◌, ◌++◌, map, Option, Some, None, ap, inl, inr}
use Rattle.std.specs.List.{All}
use Rattle.std.proofs.lemmas.List.Elements.{All-nil, All-cons, All-append}
use Rattle.elf_read_spec.specs.Image.{global_pointer}
use Rattle.term_core_spec.specs.declared.Variable.{Variable}
use Rattle.term_core_spec.specs.Term.{Term, Occurs, equal, less, not_term, bit_and}
use Rattle.decompile_spec.specs.State.{entry_register}
use Rattle.sim_rules_spec.specs.Calling.{Run, word, at_entry, outside_zone, global_pointer_lines}
use Rattle.sim_rules_spec.specs.Proper.{IsEntryLine}
use Rattle.agreement_laws.specs.EntryFrame.{Pair, run_of, entry_premises}

-- each variable of the term is a register at entry
abbrev pub IsOfEntry : Term → Type 0
IsOfEntry t = (v : Variable) → Occurs v t → (r : ℕ) × (v ≡ entry_register r)

no_rest : (r mask : ℕ) → IsOfEntry (equal (bit_and (at_entry r) (word mask)) (word 0))
unfolding Occurs
no_rest r mask v (inl (inl o)) = (r, o)
no_rest r mask v (inl (inr o)) = absurd o
no_rest r mask v (inr o) = absurd o

has_room : (stack : ℕ) → IsOfEntry (not_term (less (at_entry 2) (word stack)))
unfolding Occurs
has_room stack v (inl o) = (2, o)
has_room stack v (inr o) = absurd o

gp_line : (pointer : ℕ) → IsOfEntry (equal (at_entry 3) (word pointer))
unfolding Occurs
gp_line pointer v (inl o) = (3, o)
gp_line pointer v (inr o) = absurd o

gp_lines : (o : Option ℕ) → All IsOfEntry (global_pointer_lines o)
gp_lines None = All-nil IsOfEntry
gp_lines (Some pointer) = All-cons IsOfEntry (equal (at_entry 3) (word pointer)) [] (gp_line pointer) (All-nil IsOfEntry)

run_line : (stack : ℕ) (run : Run) → IsOfEntry (outside_zone stack run)
unfolding Occurs
run_line stack run v (inl (inl o)) = absurd o
run_line stack run v (inl (inr o)) = (2, o)
run_line stack run v (inr (inl o)) = absurd o
run_line stack run v (inr (inr (inl o))) = (2, o)
run_line stack run v (inr (inr (inr o))) = absurd o

run_lines : (stack : ℕ) (runs : List Run) → All IsOfEntry (map (outside_zone stack) runs)
run_lines stack [] = All-nil IsOfEntry
run_lines stack (run ∷ runs) = All-cons IsOfEntry (outside_zone stack run) (map (outside_zone stack) runs) (run_line stack run) (run_lines stack runs)

pub are_of_entry : (p : Pair) → All IsOfEntry (entry_premises p)
are_of_entry p =
    let runs : List Term = if nat_lt 0 p.stack then map (outside_zone p.stack) (map run_of p.numbering.runs) else [] in
    let third : List Term = not_term (less (at_entry 2) (word p.stack)) ∷ (global_pointer_lines (global_pointer p.image) ++ runs) in
    let second : List Term = equal (bit_and (at_entry 2) (word 15)) (word 0) ∷ third in
    All-cons IsOfEntry (equal (bit_and (at_entry 1) (word 3)) (word 0)) second (no_rest 1 3)
    (All-cons IsOfEntry (equal (bit_and (at_entry 2) (word 15)) (word 0)) third (no_rest 2 15)
    (All-cons IsOfEntry (not_term (less (at_entry 2) (word p.stack))) (global_pointer_lines (global_pointer p.image) ++ runs) (has_room p.stack)
    (All-append IsOfEntry (global_pointer_lines (global_pointer p.image)) runs (gp_lines (global_pointer p.image)) (runs_if (nat_lt 0 p.stack)))))
  where
    runs_if : (b : Bool) → All IsOfEntry (if b then map (outside_zone p.stack) (map run_of p.numbering.runs) else [])
    runs_if false = All-nil IsOfEntry
    runs_if true = run_lines p.stack (map run_of p.numbering.runs)

pub are_entry_lines : (p : Pair) → All IsEntryLine (entry_premises p)
are_entry_lines p i d lt = λ v o. ap (λ (w : Variable). w.family) (are_of_entry p i d lt v o).1
