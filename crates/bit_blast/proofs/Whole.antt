-- The clauses of a whole goal.
use Rattle.std.proofs.Common.{◌≡◌, ◌≤◌, ℕ, List, [], ◌∷◌, ap, subst, ◌∙◌, arith}
use Rattle.std.specs.HashMap.{HashMap}
use Rattle.clause_check_spec.specs.declared.Literal.{Literal}
use Rattle.clause_check_spec.specs.Clause.{Cnf, negation}
use Rattle.term_core_spec.specs.Term.{Term}
use Rattle.term_bank.specs.Nodes.{tree_at}
use Rattle.bit_blast_spec.specs.Gates.{Truth, Build, ◌>>=◌, make, claim}
use Rattle.bit_blast_spec.specs.Goal.{Table, bits_in, bit_of, visit, loads_of, memories_of, tie_memories, goal_gates, cnf_of}
use Rattle.bit_blast_circuits.specs.Built.{no_clauses, IsBuilt, Continues}
use Rattle.bit_blast_circuits.proofs.Built.{then_gives, continues_start, continues_then}
use Rattle.bit_blast.specs.Within.{BuiltWithin}
use Rattle.bit_blast.proofs.Within.{count_first}
use Rattle.bit_blast.specs.Terms.{terms_in}
use Rattle.bit_blast.specs.Indices.{IsIndexed, AreIndices, index_in}
use Rattle.bit_blast.proofs.Moved.{same_tree}

pub whole_goal : (goal : Term) (one : Literal) (table : Table) (g1 g2 g3 g4 : Cnf) → IsBuilt (make Truth) no_clauses one g1 → IsBuilt (visit goal []) g1 table g2
    → IsBuilt (tie_memories (memories_of (loads_of table table)) (loads_of table table)) g2 tt g3
    → IsBuilt (claim ((negation (bit_of (bits_in table goal)) ∷ []) ∷ [])) g3 tt g4 → g4 ≡ cnf_of goal
unfolding goal_gates cnf_of
whole_goal goal one table g1 g2 g3 g4 truth visited tied last =
    let whole : IsBuilt (goal_gates goal) no_clauses tt g4 =
    then_gives (λ (o : Literal). visit goal [] >>= λ t. tie_memories (memories_of (loads_of t t)) (loads_of t t) >>= λ unit. claim ((negation (bit_of (bits_in t goal)) ∷ []) ∷ [])) truth
    (then_gives (λ (t : Table). tie_memories (memories_of (loads_of t t)) (loads_of t t) >>= λ unit. claim ((negation (bit_of (bits_in t goal)) ∷ []) ∷ [])) visited
    (then_gives (λ (unit : Unit {0}). claim ((negation (bit_of (bits_in table goal)) ∷ []) ∷ [])) tied last)) in
    whole.grown

pub whole_table : (goal : Term) (one : Literal) (table : Table) (g1 g2 : Cnf) → IsBuilt (make Truth) no_clauses one g1 → IsBuilt (visit goal []) g1 table g2
    → table ≡ (visit goal [] 1).out
whole_table goal one table g1 g2 truth visited =
    let number : g1.variables ≡ 1 = ap (λ (cnf : Cnf). cnf.variables) truth.grown in
    visited.answer ∙ ap (λ (n : ℕ). (visit goal [] n).out) number

-- from what each call made
pub whole_blast : {S : Type 0} (trees : List Term) (indices : HashMap ℕ ℕ S) (table : Table) (goal index : ℕ) (one last : Literal) (g0 g1 g2 g3 g4 : Cnf)
    → AreIndices trees indices table → IsIndexed indices goal → index ≡ index_in indices goal → g0 ≡ no_clauses
    → IsBuilt (make Truth) g0 one g1 → IsBuilt (visit (tree_at trees goal) []) g1 table g2
    → IsBuilt (tie_memories (memories_of (loads_of table table)) (loads_of table table)) g2 tt g3
    → last ≡ negation (bit_of (bits_in table (tree_at (terms_in table) index))) → IsBuilt (claim ((last ∷ []) ∷ [])) g3 tt g4
    → g4 ≡ cnf_of (tree_at trees goal)
whole_blast trees indices table goal index one last g0 g1 g2 g3 g4 are indexed at empty truth visited tied is_last claimed =
    let tree : tree_at (terms_in table) index ≡ tree_at trees goal = ap (tree_at (terms_in table)) at ∙ same_tree trees indices table are goal indexed in
    whole_goal (tree_at trees goal) one table g1 g2 g3 g4 (subst (λ (g : Cnf). IsBuilt (make Truth) g one g1) empty truth) visited tied
    (subst (λ (l : Literal). IsBuilt (claim ((l ∷ []) ∷ [])) g3 tt g4) (is_last ∙ ap (λ (x : Term). negation (bit_of (bits_in table x))) tree) claimed)

-- ---- where a build is left the goal has at least the variables so far

abbrev after_visit : Term → Table → Build (Unit {0})
after_visit goal table =
    tie_memories (memories_of (loads_of table table)) (loads_of table table) >>= λ unit. claim ((negation (bit_of (bits_in table goal)) ∷ []) ∷ [])

visit_continues : (goal : Term) (one : Literal) (g0 g1 : Cnf) → g0 ≡ no_clauses → IsBuilt (make Truth) g0 one g1
    → Continues (goal_gates goal) no_clauses g1 (visit goal [] >>= after_visit goal) (λ (u : Unit {0}). u)
unfolding goal_gates
visit_continues goal one g0 g1 empty truth =
    continues_then (λ (o : Literal). visit goal [] >>= after_visit goal) (continues_start (goal_gates goal) no_clauses)
    (subst (λ (g : Cnf). IsBuilt (make Truth) g one g1) empty truth)

pub count_at_visit : (maximum : ℕ) (goal : Term) (one : Literal) (table : Table) (g0 g1 g2 : Cnf) → g0 ≡ no_clauses → IsBuilt (make Truth) g0 one g1
    → BuiltWithin maximum (visit goal []) g1 table g2 → g2.variables ≤ (cnf_of goal).variables
unfolding cnf_of
count_at_visit maximum goal one table g0 g1 g2 empty truth visited =
    omega (arith, visited.count, count_first (visit goal []) (after_visit goal) (visit_continues goal one g0 g1 empty truth))

pub count_at_ties : (maximum : ℕ) (goal : Term) (one : Literal) (table : Table) (g0 g1 g2 g3 : Cnf) → g0 ≡ no_clauses → IsBuilt (make Truth) g0 one g1
    → IsBuilt (visit goal []) g1 table g2 → BuiltWithin maximum (tie_memories (memories_of (loads_of table table)) (loads_of table table)) g2 tt g3
    → g3.variables ≤ (cnf_of goal).variables
unfolding cnf_of
count_at_ties maximum goal one table g0 g1 g2 g3 empty truth visited tied =
    omega (
      arith,
      tied.count,
      count_first (tie_memories (memories_of (loads_of table table)) (loads_of table table)) (λ (unit : Unit {0}). claim ((negation (bit_of (bits_in table goal)) ∷ []) ∷ []))
          (continues_then (after_visit goal) (visit_continues goal one g0 g1 empty truth) visited),
    )
