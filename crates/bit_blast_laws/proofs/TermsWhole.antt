-- The clauses of a whole goal.
use Rattle.std.proofs.Common.{◌≡◌, ◌+◌, ℕ, Bool, true, false, List, [], ◌∷◌, ◌++◌, length, Some, refl, ap, sym, ◌∙◌, subst}
use Rattle.std.specs.Prelude.{not, ◌||◌}
use Rattle.clause_check_spec.specs.declared.Literal.{Literal}
use Rattle.clause_check_spec.specs.Clause.{Valuation, holds, satisfies_clause, satisfies, negation}
use Rattle.term_core_spec.specs.declared.Sort.TheVariants as sort
use Rattle.term_core_spec.specs.Term.{Term}
use Rattle.term_core_spec.specs.Sort.{sort_of}
use Rattle.term_core_spec.specs.Value.{Value, Truth, IsOfSort, Assignment, IsAssignment, value}
use Rattle.term_core_spec.proofs.Soundness.{value-sort, at_truth}
use Rattle.bit_blast_spec.specs.Gates.{Gate, last_of, claims}
use Rattle.bit_blast_spec.specs.Circuits.{Bits}
use Rattle.bit_blast_spec.specs.Goal.{Table, bits_in, bit_of, visit, tie_memories, memories_of, loads_of, goal_gates, cnf_of}
use Rattle.bit_blast_laws.specs.Meaning.{Satisfies, digit, number_of, AllHold}
use Rattle.bit_blast_laws.proofs.Gates.{all_hold, holds-negation}
use Rattle.bit_blast_laws.specs.Shows.{Shows, AllShow}
use Rattle.bit_blast_laws.specs.Reads.{Reads}
use Rattle.bit_blast_laws.proofs.Unaries.{only_bit}
use Rattle.bit_blast_laws.proofs.Tables.{Obeys, obeys_parts, Visited, shown_there}
use Rattle.bit_blast_laws.proofs.Visits.{Takes, all_taken}

-- a clause of one literal
one_literal : (b : Bool) → (b || false) ≡ true → b ≡ true
one_literal true e = refl
one_literal false e = cc

not_true : (b : Bool) → not b ≡ true → b ≡ false
not_true true e = cc
not_true false e = refl

false_by_bit : (values : Valuation) (x : Value) (found : Bits) → IsOfSort sort.Truth x → Shows values x found → holds values (bit_of found) ≡ false → x ≡ Truth false
false_by_bit values x found h shows e =
    at_truth (λ u. Shows values u found → u ≡ Truth false) x h
    (λ b here.
    let bit = only_bit values found b here.0 here.1 in
    ap Truth (sym bit.2 ∙ ap (λ l. holds values (bit_of l)) (sym bit.1) ∙ e)) shows

pub goal_is_false : (values : Valuation) (assignment : Assignment) (goal : Term) → IsAssignment assignment → sort_of goal ≡ Some sort.Truth
    → satisfies values (cnf_of goal).clauses ≡ true → Reads assignment values 0 (goal_gates goal 0).gates → value assignment goal ≡ Truth false
unfolding cnf_of goal_gates Takes
goal_is_false values assignment goal h e satisfied read =
    let visited = visit goal [] 1 in
    let second = last_of 1 visited.gates in
    let loads = loads_of visited.out visited.out in
    let tied = tie_memories (memories_of loads) loads second in
    let last = claims ((negation (bit_of (bits_in visited.out goal)) ∷ []) ∷ []) in
    let hold = all_hold values 0 (goal_gates goal 0).gates satisfied in
    let own : Obeys values assignment 1 (visited.gates ++ (tied.gates ++ last)) = record { hold = hold.1; read = read.1 } in
    let parts = obeys_parts values assignment 1 visited.gates (tied.gates ++ last) own in
    let more = obeys_parts values assignment second tied.gates last parts.1 in
    let taken = all_taken values assignment hold.0 h goal sort.Truth e [] 1 tt parts.0 in
    let shows = shown_there values assignment goal visited.out taken.shows taken.there in
    let denied = one_literal (holds values (negation (bit_of (bits_in visited.out goal)))) more.1.hold.0 in
    false_by_bit values (value assignment goal) (bits_in visited.out goal) (value-sort assignment h goal sort.Truth e) shows
    (not_true (holds values (bit_of (bits_in visited.out goal))) (sym (holds-negation values (bit_of (bits_in visited.out goal))) ∙ denied))

-- each term that is taken for the goal has bits that show its value
pub terms_show : (values : Valuation) (assignment : Assignment) (goal : Term) → IsAssignment assignment → sort_of goal ≡ Some sort.Truth
    → satisfies values (cnf_of goal).clauses ≡ true → Reads assignment values 0 (goal_gates goal 0).gates → AllShow values assignment (visit goal [] 1).out
unfolding cnf_of goal_gates Takes
terms_show values assignment goal h e satisfied read =
    let visited = visit goal [] 1 in
    let second = last_of 1 visited.gates in
    let loads = loads_of visited.out visited.out in
    let tied = tie_memories (memories_of loads) loads second in
    let last = claims ((negation (bit_of (bits_in visited.out goal)) ∷ []) ∷ []) in
    let hold = all_hold values 0 (goal_gates goal 0).gates satisfied in
    let own : Obeys values assignment 1 (visited.gates ++ (tied.gates ++ last)) = record { hold = hold.1; read = read.1 } in
    let parts = obeys_parts values assignment 1 visited.gates (tied.gates ++ last) own in
    (all_taken values assignment hold.0 h goal sort.Truth e [] 1 tt parts.0).shows
