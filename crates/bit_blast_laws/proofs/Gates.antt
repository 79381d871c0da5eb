-- An assignment satisfies the clauses of gates exactly where each gate's variable has its value.
use Rattle.std.proofs.Common.{◌≡◌, ◌+◌, ℕ, Bool, true, false, List, [], ◌∷◌, ◌++◌, refl, ap, sym, ◌∙◌, subst}
use Rattle.std.specs.Prelude.{◌&&◌, ◌||◌, not, if◌then◌else◌}
use Rattle.std.specs.List.{list_any, list_all}
use Rattle.std.proofs.lemmas.List.Folds.{list_all-append}
use Rattle.clause_check_spec.specs.declared.Literal.{Literal}
use Rattle.clause_check_spec.specs.Clause.{Clause, Valuation, holds, satisfies_clause, satisfies, negation}
use Rattle.bit_blast_spec.specs.Gates.{Gate, Truth, Bit, And, Xor, Mux, Majority, Claim, gate_clauses, next, last_of, literal_of, clauses_from, Made, Build, ◌>>=◌}
use Rattle.bit_blast_laws.specs.Meaning.{Satisfies, differ, majority, HasGateValue, AllHold}

-- ---- single gates

flipped : (negated value : Bool) → (if not negated then not value else value) ≡ not (if negated then not value else value)
flipped true true = refl
flipped true false = refl
flipped false true = refl
flipped false false = refl

pub holds-negation : (values : Valuation) (l : Literal) → holds values (negation l) ≡ not (holds values l)
holds-negation values l = flipped l.is_negated (values l.variable)

-- clauses of two and of three literals, by the values of the literals
abbrev two : Bool → Bool → Bool
two a b = a || (b || false)

abbrev three : Bool → Bool → Bool → Bool
three a b c = a || (b || (c || false))

and_table : (o a b : Bool) → (two (not o) a && (two (not o) b && (three o (not a) (not b) && true))) ≡ true → o ≡ (a && b)
and_table true true true e = refl
and_table true true false e = cc
and_table true false b e = cc
and_table false true true e = cc
and_table false true false e = refl
and_table false false b e = refl

xor_table : (o a b : Bool) → (three (not o) a b && (three (not o) (not a) (not b) && (three o (not a) b && (three o a (not b) && true)))) ≡ true → o ≡ differ a b
xor_table true true true e = cc
xor_table true true false e = refl
xor_table true false true e = refl
xor_table true false false e = cc
xor_table false true true e = refl
xor_table false true false e = cc
xor_table false false true e = cc
xor_table false false false e = refl

mux_table : (o c a b : Bool) → (three (not c) (not a) o && (three (not c) a (not o) && (three c (not b) o && (three c b (not o) && true)))) ≡ true
    → o ≡ (if c then a else b)
mux_table true true true b e = refl
mux_table true true false b e = cc
mux_table true false a true e = refl
mux_table true false a false e = cc
mux_table false true true b e = cc
mux_table false true false b e = refl
mux_table false false a true e = cc
mux_table false false a false e = refl

majority_table : (o a b c : Bool)
    → (three (not a) (not b) o && (three (not a) (not c) o && (three (not b) (not c) o && (three a b (not o) && (three a c (not o) && (three b c (not o) && true)))))) ≡ true
    → o ≡ majority a b c
majority_table true true true c e = refl
majority_table true true false true e = refl
majority_table true true false false e = cc
majority_table true false true true e = refl
majority_table true false true false e = cc
majority_table true false false c e = cc
majority_table false true true c e = cc
majority_table false true false true e = cc
majority_table false true false false e = refl
majority_table false false true true e = cc
majority_table false false true false e = refl
majority_table false false false c e = refl

-- literals of a clause that are negations
neg : (values : Valuation) (l : Literal) → holds values (negation l) ≡ not (holds values l)
neg values l = holds-negation values l

one_clause : (a : Bool) → ((a || false) && true) ≡ true → a ≡ true
one_clause true e = refl
one_clause false e = cc

claimed : (a : Bool) → (a && true) ≡ true → a ≡ true
claimed true e = refl
claimed false e = cc

and_holds : (values : Valuation) (o a b : Literal) → satisfies values (gate_clauses o (And a b)) ≡ true → holds values o ≡ (holds values a && holds values b)
and_holds values o a b satisfied =
    and_table (holds values o) (holds values a) (holds values b)
    (sym (ap (λ n. two n (holds values a) && (two n (holds values b) && (three (holds values o) (holds values (negation a)) (holds values (negation b)) && true))) (neg values o)
    ∙ ap (λ n. two (not (holds values o)) (holds values a) && (two (not (holds values o)) (holds values b) && (three (holds values o) n (holds values (negation b)) && true))) (neg values a)
    ∙ ap (λ n. two (not (holds values o)) (holds values a) && (two (not (holds values o)) (holds values b) && (three (holds values o) (not (holds values a)) n && true))) (neg values b))
    ∙ satisfied)

xor_holds : (values : Valuation) (o a b : Literal) → satisfies values (gate_clauses o (Xor a b)) ≡ true → holds values o ≡ differ (holds values a) (holds values b)
xor_holds values o a b satisfied =
    xor_table (holds values o) (holds values a) (holds values b)
    (sym (ap (λ n. three n (holds values a) (holds values b) && (three n (holds values (negation a)) (holds values (negation b)) && (three (holds values o) (holds values (negation a)) (holds values b) && (three (holds values o) (holds values a) (holds values (negation b)) && true)))) (neg values o)
    ∙ ap (λ n. three (not (holds values o)) (holds values a) (holds values b) && (three (not (holds values o)) n (holds values (negation b)) && (three (holds values o) n (holds values b) && (three (holds values o) (holds values a) (holds values (negation b)) && true)))) (neg values a)
    ∙ ap (λ n. three (not (holds values o)) (holds values a) (holds values b) && (three (not (holds values o)) (not (holds values a)) n && (three (holds values o) (not (holds values a)) (holds values b) && (three (holds values o) (holds values a) n && true)))) (neg values b))
    ∙ satisfied)

mux_holds : (values : Valuation) (o c a b : Literal) → satisfies values (gate_clauses o (Mux c a b)) ≡ true
    → holds values o ≡ (if holds values c then holds values a else holds values b)
mux_holds values o c a b satisfied =
    mux_table (holds values o) (holds values c) (holds values a) (holds values b)
    (sym (ap (λ n. three n (holds values (negation a)) (holds values o) && (three n (holds values a) (holds values (negation o)) && (three (holds values c) (holds values (negation b)) (holds values o) && (three (holds values c) (holds values b) (holds values (negation o)) && true)))) (neg values c)
    ∙ ap (λ n. three (not (holds values c)) n (holds values o) && (three (not (holds values c)) (holds values a) (holds values (negation o)) && (three (holds values c) (holds values (negation b)) (holds values o) && (three (holds values c) (holds values b) (holds values (negation o)) && true)))) (neg values a)
    ∙ ap (λ n. three (not (holds values c)) (not (holds values a)) (holds values o) && (three (not (holds values c)) (holds values a) n && (three (holds values c) (holds values (negation b)) (holds values o) && (three (holds values c) (holds values b) n && true)))) (neg values o)
    ∙ ap (λ n. three (not (holds values c)) (not (holds values a)) (holds values o) && (three (not (holds values c)) (holds values a) (not (holds values o)) && (three (holds values c) n (holds values o) && (three (holds values c) (holds values b) (not (holds values o)) && true)))) (neg values b))
    ∙ satisfied)

majority_holds : (values : Valuation) (o a b c : Literal) → satisfies values (gate_clauses o (Majority a b c)) ≡ true
    → holds values o ≡ majority (holds values a) (holds values b) (holds values c)
majority_holds values o a b c satisfied =
    let p = holds values o in let x = holds values a in let y = holds values b in let z = holds values c in
    majority_table (holds values o) (holds values a) (holds values b) (holds values c)
    (sym (ap (λ n. three n (holds values (negation b)) p && (three n (holds values (negation c)) p && (three (holds values (negation b)) (holds values (negation c)) p && (three x y (holds values (negation o)) && (three x z (holds values (negation o)) && (three y z (holds values (negation o)) && true)))))) (neg values a)
    ∙ ap (λ n. three (not x) n p && (three (not x) (holds values (negation c)) p && (three n (holds values (negation c)) p && (three x y (holds values (negation o)) && (three x z (holds values (negation o)) && (three y z (holds values (negation o)) && true)))))) (neg values b)
    ∙ ap (λ n. three (not x) (not y) p && (three (not x) n p && (three (not y) n p && (three x y (holds values (negation o)) && (three x z (holds values (negation o)) && (three y z (holds values (negation o)) && true)))))) (neg values c)
    ∙ ap (λ n. three (not x) (not y) p && (three (not x) (not z) p && (three (not y) (not z) p && (three x y n && (three x z n && (three y z n && true)))))) (neg values o))
    ∙ satisfied)

pub gate_holds : (values : Valuation) (last : ℕ) (gate : Gate) → satisfies values (gate_clauses (literal_of (last + 1)) gate) ≡ true → HasGateValue values (last + 1) gate
gate_holds values last Truth satisfied = one_clause (values (last + 1)) satisfied
gate_holds values last (Bit term index) satisfied = tt
gate_holds values last (And a b) satisfied = and_holds values (literal_of (last + 1)) a b satisfied
gate_holds values last (Xor a b) satisfied = xor_holds values (literal_of (last + 1)) a b satisfied
gate_holds values last (Mux c a b) satisfied = mux_holds values (literal_of (last + 1)) c a b satisfied
gate_holds values last (Majority a b c) satisfied = majority_holds values (literal_of (last + 1)) a b c satisfied
gate_holds values last (Claim clause) satisfied = claimed (satisfies_clause values clause) satisfied

-- ---- gates one after the other

both : (a b : Bool) → (a && b) ≡ true → (a ≡ true) × (b ≡ true)
both true true e = (refl, refl)
both true false e = cc
both false b e = cc

pub all_hold : (values : Valuation) (last : ℕ) (gates : List Gate) → Satisfies values last gates → AllHold values last gates
all_hold values last [] satisfied = tt
all_hold values last (gate ∷ gates) satisfied =
    let parts =
    both (satisfies values (gate_clauses (literal_of (last + 1)) gate)) (satisfies values (clauses_from (next last gate) gates))
    (sym (list_all-append (satisfies_clause values) (gate_clauses (literal_of (last + 1)) gate) (clauses_from (next last gate) gates)) ∙ satisfied)
    in
    (gate_holds values last gate parts.0, all_hold values (next last gate) gates parts.1)

pub hold_parts : (values : Valuation) (last : ℕ) (gates more : List Gate) → AllHold values last (gates ++ more)
    → AllHold values last gates × AllHold values (last_of last gates) more
hold_parts values last [] more all = (tt, all)
hold_parts values last (gate ∷ gates) more all =
    let parts = hold_parts values (next last gate) gates more all.1 in ((all.0, parts.0), parts.1)

-- ---- and the other way round

and_back : (o a b : Bool) → o ≡ (a && b) → (two (not o) a && (two (not o) b && (three o (not a) (not b) && true))) ≡ true
and_back true true true e = refl
and_back true true false e = cc
and_back true false b e = cc
and_back false true true e = cc
and_back false true false e = refl
and_back false false true e = refl
and_back false false false e = refl

xor_back : (o a b : Bool) → o ≡ differ a b → (three (not o) a b && (three (not o) (not a) (not b) && (three o (not a) b && (three o a (not b) && true)))) ≡ true
xor_back true true true e = cc
xor_back true true false e = refl
xor_back true false true e = refl
xor_back true false false e = cc
xor_back false true true e = refl
xor_back false true false e = cc
xor_back false false true e = cc
xor_back false false false e = refl

mux_back : (o c a b : Bool) → o ≡ (if c then a else b)
    → (three (not c) (not a) o && (three (not c) a (not o) && (three c (not b) o && (three c b (not o) && true)))) ≡ true
mux_back true true true b e = refl
mux_back true true false b e = cc
mux_back true false a true e = refl
mux_back true false a false e = cc
mux_back false true true b e = cc
mux_back false true false b e = refl
mux_back false false a true e = cc
mux_back false false a false e = refl

majority_back : (o a b c : Bool) → o ≡ majority a b c
    → (three (not a) (not b) o && (three (not a) (not c) o && (three (not b) (not c) o && (three a b (not o) && (three a c (not o) && (three b c (not o) && true)))))) ≡ true
majority_back true true true true e = refl
majority_back true true true false e = refl
majority_back true true false true e = refl
majority_back true true false false e = cc
majority_back true false true true e = refl
majority_back true false true false e = cc
majority_back true false false c e = cc
majority_back false true true c e = cc
majority_back false true false true e = cc
majority_back false true false false e = refl
majority_back false false true true e = cc
majority_back false false true false e = refl
majority_back false false false true e = refl
majority_back false false false false e = refl

back_one : (a : Bool) → a ≡ true → ((a || false) && true) ≡ true
back_one true e = refl
back_one false e = cc

back_claimed : (a : Bool) → a ≡ true → (a && true) ≡ true
back_claimed true e = refl
back_claimed false e = cc

and_satisfied : (values : Valuation) (o a b : Literal) → holds values o ≡ (holds values a && holds values b) → satisfies values (gate_clauses o (And a b)) ≡ true
and_satisfied values o a b gate_holds =
    ap (λ n. two n (holds values a) && (two n (holds values b) && (three (holds values o) (holds values (negation a)) (holds values (negation b)) && true))) (neg values o)
    ∙ ap (λ n. two (not (holds values o)) (holds values a) && (two (not (holds values o)) (holds values b) && (three (holds values o) n (holds values (negation b)) && true))) (neg values a)
    ∙ ap (λ n. two (not (holds values o)) (holds values a) && (two (not (holds values o)) (holds values b) && (three (holds values o) (not (holds values a)) n && true))) (neg values b)
    ∙ and_back (holds values o) (holds values a) (holds values b) gate_holds

xor_satisfied : (values : Valuation) (o a b : Literal) → holds values o ≡ differ (holds values a) (holds values b) → satisfies values (gate_clauses o (Xor a b)) ≡ true
xor_satisfied values o a b gate_holds =
    ap (λ n. three n (holds values a) (holds values b) && (three n (holds values (negation a)) (holds values (negation b)) && (three (holds values o) (holds values (negation a)) (holds values b) && (three (holds values o) (holds values a) (holds values (negation b)) && true)))) (neg values o)
    ∙ ap (λ n. three (not (holds values o)) (holds values a) (holds values b) && (three (not (holds values o)) n (holds values (negation b)) && (three (holds values o) n (holds values b) && (three (holds values o) (holds values a) (holds values (negation b)) && true)))) (neg values a)
    ∙ ap (λ n. three (not (holds values o)) (holds values a) (holds values b) && (three (not (holds values o)) (not (holds values a)) n && (three (holds values o) (not (holds values a)) (holds values b) && (three (holds values o) (holds values a) n && true)))) (neg values b)
    ∙ xor_back (holds values o) (holds values a) (holds values b) gate_holds

mux_satisfied : (values : Valuation) (o c a b : Literal) → holds values o ≡ (if holds values c then holds values a else holds values b)
    → satisfies values (gate_clauses o (Mux c a b)) ≡ true
mux_satisfied values o c a b gate_holds =
    ap (λ n. three n (holds values (negation a)) (holds values o) && (three n (holds values a) (holds values (negation o)) && (three (holds values c) (holds values (negation b)) (holds values o) && (three (holds values c) (holds values b) (holds values (negation o)) && true)))) (neg values c)
    ∙ ap (λ n. three (not (holds values c)) n (holds values o) && (three (not (holds values c)) (holds values a) (holds values (negation o)) && (three (holds values c) (holds values (negation b)) (holds values o) && (three (holds values c) (holds values b) (holds values (negation o)) && true)))) (neg values a)
    ∙ ap (λ n. three (not (holds values c)) (not (holds values a)) (holds values o) && (three (not (holds values c)) (holds values a) n && (three (holds values c) (holds values (negation b)) (holds values o) && (three (holds values c) (holds values b) n && true)))) (neg values o)
    ∙ ap (λ n. three (not (holds values c)) (not (holds values a)) (holds values o) && (three (not (holds values c)) (holds values a) (not (holds values o)) && (three (holds values c) n (holds values o) && (three (holds values c) (holds values b) (not (holds values o)) && true)))) (neg values b)
    ∙ mux_back (holds values o) (holds values c) (holds values a) (holds values b) gate_holds

majority_satisfied : (values : Valuation) (o a b c : Literal) → holds values o ≡ majority (holds values a) (holds values b) (holds values c)
    → satisfies values (gate_clauses o (Majority a b c)) ≡ true
majority_satisfied values o a b c gate_holds =
    let p = holds values o in let x = holds values a in let y = holds values b in let z = holds values c in
    ap (λ n. three n (holds values (negation b)) p && (three n (holds values (negation c)) p && (three (holds values (negation b)) (holds values (negation c)) p && (three x y (holds values (negation o)) && (three x z (holds values (negation o)) && (three y z (holds values (negation o)) && true)))))) (neg values a)
    ∙ ap (λ n. three (not x) n p && (three (not x) (holds values (negation c)) p && (three n (holds values (negation c)) p && (three x y (holds values (negation o)) && (three x z (holds values (negation o)) && (three y z (holds values (negation o)) && true)))))) (neg values b)
    ∙ ap (λ n. three (not x) (not y) p && (three (not x) n p && (three (not y) n p && (three x y (holds values (negation o)) && (three x z (holds values (negation o)) && (three y z (holds values (negation o)) && true)))))) (neg values c)
    ∙ ap (λ n. three (not x) (not y) p && (three (not x) (not z) p && (three (not y) (not z) p && (three x y n && (three x z n && (three y z n && true)))))) (neg values o)
    ∙ majority_back (holds values o) (holds values a) (holds values b) (holds values c) gate_holds

gate_satisfied : (values : Valuation) (last : ℕ) (gate : Gate) → HasGateValue values (last + 1) gate → satisfies values (gate_clauses (literal_of (last + 1)) gate) ≡ true
gate_satisfied values last Truth gate_holds = back_one (values (last + 1)) gate_holds
gate_satisfied values last (Bit term index) gate_holds = refl
gate_satisfied values last (And a b) gate_holds = and_satisfied values (literal_of (last + 1)) a b gate_holds
gate_satisfied values last (Xor a b) gate_holds = xor_satisfied values (literal_of (last + 1)) a b gate_holds
gate_satisfied values last (Mux c a b) gate_holds = mux_satisfied values (literal_of (last + 1)) c a b gate_holds
gate_satisfied values last (Majority a b c) gate_holds = majority_satisfied values (literal_of (last + 1)) a b c gate_holds
gate_satisfied values last (Claim clause) gate_holds = back_claimed (satisfies_clause values clause) gate_holds

both_back : (a b : Bool) → a ≡ true → b ≡ true → (a && b) ≡ true
both_back true b e f = f
both_back false b e f = cc

pub all_satisfied : (values : Valuation) (last : ℕ) (gates : List Gate) → AllHold values last gates → Satisfies values last gates
all_satisfied values last [] all = refl
all_satisfied values last (gate ∷ gates) all =
    list_all-append (satisfies_clause values) (gate_clauses (literal_of (last + 1)) gate) (clauses_from (next last gate) gates)
    ∙ both_back (satisfies values (gate_clauses (literal_of (last + 1)) gate)) (satisfies values (clauses_from (next last gate) gates))
    (gate_satisfied values last gate all.0) (all_satisfied values (next last gate) gates all.1)
