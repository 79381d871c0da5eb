-- Calls one after the other, by what their arguments are equal to.
use Rattle.std.proofs.Common.{◌≡◌, ◌<◌, ◌≤◌, ◌-◌, suc, List, [], ◌∷◌, length, map, take, drop, Some, Result, refl, ap, sym, ◌∙◌, subst, arith}
use Rattle.std.specs.Prelude.{unwrap_or, slice_get}
use Rattle.std.specs.Result.{OnOk}
use Rattle.std.proofs.lemmas.Result.{on_ok_weaker}
use Rattle.std.proofs.lemmas.List.{nil_from_length, take_rest}
use Rattle.clause_check_spec.specs.declared.Literal.{Literal}
use Rattle.clause_check_spec.specs.Clause.{Clause, Cnf, negation}
use Rattle.bit_blast_spec.specs.Gates.{give, ◌>>=◌, claim}
use Rattle.bit_blast_spec.specs.Circuits.{Bits, one, none, and_gate, or_gate, fold_gates, and_all, or_all, sum_bits, carry_bit, less_bit, sign_of, twice_as_wide, product_bits, equal_bits, without_divisor, division}
use Rattle.bit_blast_circuits.specs.Built.{IsBuilt}
use Rattle.bit_blast_circuits.specs.Kinds.{makes_up}
use Rattle.bit_blast_circuits.proofs.Built.{then_gives, give_gives, same_gives, gives_three, claims_more}
use Rattle.bit_blast_circuits.proofs.Steps.{IsAt, bit_before}

-- ---- sums and comparison

pub sum_same : (xs ys zs ws : Bits) (carry first : Literal) → zs ≡ xs → ws ≡ ys → first ≡ carry → sum_bits zs ws first ≡ sum_bits xs ys carry
sum_same xs ys zs ws carry first e f g = ap (λ vs. sum_bits vs ws first) e ∙ ap (λ vs. sum_bits xs vs first) f ∙ ap (sum_bits xs ys) g

pub less_made : {old new : Cnf} (xs ys zs : Bits) (first carry o : Literal) → zs ≡ map negation ys → first ≡ one → o ≡ negation carry
    → IsBuilt (carry_bit xs zs first) old carry new → IsBuilt (less_bit xs ys) old o new
less_made {old = old} {new = new} xs ys zs first carry o e f g made =
    subst (λ answer. IsBuilt (less_bit xs ys) old answer new) (sym g)
    (then_gives (λ carry. give (negation carry))
    (same_gives (carry_bit xs zs first) (carry_bit xs (map negation ys) one) (ap (λ ws. carry_bit xs ws first) e ∙ ap (carry_bit xs (map negation ys)) f) made)
    (give_gives (negation carry) new))

-- ---- folds

pub and_all_none : (bits : Bits) (o : Literal) (old : Cnf) → length bits < 1 → o ≡ one → IsBuilt (and_all bits) old o old
unfolding and_all
and_all_none bits o old e f =
    subst (λ answer. IsBuilt (and_all bits) old answer old) (sym f)
    (subst (λ xs. IsBuilt (and_all xs) old one old) (sym (nil_from_length bits (omega (arith, e)))) (give_gives one old))

pub or_all_none : (bits : Bits) (o : Literal) (old : Cnf) → length bits < 1 → o ≡ none → IsBuilt (or_all bits) old o old
unfolding or_all
or_all_none bits o old e f =
    subst (λ answer. IsBuilt (or_all bits) old answer old) (sym f)
    (subst (λ xs. IsBuilt (or_all xs) old none old) (sym (nil_from_length bits (omega (arith, e)))) (give_gives none old))

pub and_all_some : (bits : Bits) (x : Literal) → 1 ≤ length bits → IsAt bits 0 x → fold_gates and_gate x (take (length bits - 1) (drop 1 bits)) ≡ and_all bits
unfolding and_all
and_all_some bits x some first =
    ap (fold_gates and_gate x) (take_rest bits 1) ∙ ap and_all (sym (bit_before bits 0 x some first))

pub or_all_some : (bits : Bits) (x : Literal) → 1 ≤ length bits → IsAt bits 0 x → fold_gates or_gate x (take (length bits - 1) (drop 1 bits)) ≡ or_all bits
unfolding or_all
or_all_some bits x some first =
    ap (fold_gates or_gate x) (take_rest bits 1) ∙ ap or_all (sym (bit_before bits 0 x some first))

-- ---- the top bit

pub sign_last : (xs : Bits) → sign_of xs ≡ unwrap_or (slice_get xs (length xs - 1)) none
sign_last [] = refl
sign_last (x ∷ []) = refl
sign_last (x ∷ y ∷ xs) =
    let inner : suc (length xs) - 1 ≡ length xs = omega arith in
    let outer : suc (suc (length xs)) - 1 ≡ suc (length xs) = omega arith in
    sign_last (y ∷ xs) ∙ ap (λ k. unwrap_or (slice_get (y ∷ xs) k) none) inner ∙ sym (ap (λ k. unwrap_or (slice_get (x ∷ y ∷ xs) k) none) outer)

pub sign_there : (xs : Bits) (top : Literal) → Some top ≡ slice_get xs (length xs - 1) → top ≡ sign_of xs
sign_there xs top here = ap (λ found. unwrap_or found none) here ∙ sym (sign_last xs)

-- ---- products and division

pub product_same : (xs ys zs ws : Bits) → zs ≡ xs → ws ≡ ys → product_bits zs ws ≡ product_bits xs ys
product_same xs ys zs ws e f = ap (λ vs. product_bits vs ws) e ∙ ap (product_bits xs) f

pub equal_same : (xs ys zs ws : Bits) → zs ≡ xs → ws ≡ ys → equal_bits zs ws ≡ equal_bits xs ys
equal_same xs ys zs ws e f = ap (λ vs. equal_bits vs ws) e ∙ ap (equal_bits xs) f

-- the clauses of a division
abbrev pub rules : (n same less : Literal) → (q r x : Bits) → List Clause
rules n same less q r x = (negation n ∷ same ∷ []) ∷ (negation n ∷ less ∷ []) ∷ without_divisor n q r x

pub rules_claimed : {E : Type 0} (outcome : Result (Unit {0}) E) (s0 s1 s2 s3 : Cnf) (n first second same less : Literal) (q r x : Bits)
    → first ≡ negation n → second ≡ negation n → IsBuilt (claim ((first ∷ same ∷ []) ∷ [])) s0 tt s1 → IsBuilt (claim ((second ∷ less ∷ []) ∷ [])) s1 tt s2
    → OnOk outcome (IsBuilt (claim (without_divisor n q r x)) s2 tt s3) → OnOk outcome (IsBuilt (claim (rules n same less q r x)) s0 tt s3)
rules_claimed outcome s0 s1 s2 s3 n first second same less q r x e f a b last =
    on_ok_weaker outcome
    (λ rest. claims_more ((negation n ∷ same ∷ []) ∷ []) ((negation n ∷ less ∷ []) ∷ without_divisor n q r x)
    (subst (λ l. IsBuilt (claim ((l ∷ same ∷ []) ∷ [])) s0 tt s1) e a)
    (claims_more ((negation n ∷ less ∷ []) ∷ []) (without_divisor n q r x) (subst (λ l. IsBuilt (claim ((l ∷ less ∷ []) ∷ [])) s1 tt s2) f b) rest)) last

divided : (s0 s1 s2 s3 new : Cnf) (q r x y : Bits) (n same less : Literal) → IsBuilt (or_all y) s0 n s1 → IsBuilt (makes_up q r x y) s1 same s2
    → IsBuilt (less_bit r y) s2 less s3 → IsBuilt (claim (rules n same less q r x)) s3 tt new → IsBuilt (division q r x y) s0 tt new
unfolding division
divided s0 s1 s2 s3 new q r x y n same less of_divisor of_product of_less of_rules =
    then_gives (λ n. product_bits (twice_as_wide q) (twice_as_wide y) >>= λ product. sum_bits product (twice_as_wide r) none >>= λ sum.
    equal_bits sum (twice_as_wide x) >>= λ same. less_bit r y >>= λ less. claim (rules n same less q r x)) of_divisor
    (gives_three (product_bits (twice_as_wide q) (twice_as_wide y)) (λ product. sum_bits product (twice_as_wide r) none) (λ sum. equal_bits sum (twice_as_wide x))
    (λ same. less_bit r y >>= λ less. claim (rules n same less q r x)) s1 new tt
    (then_gives (λ same. less_bit r y >>= λ less. claim (rules n same less q r x)) of_product
    (then_gives (λ less. claim (rules n same less q r x)) of_less of_rules)))

pub division_ok : {E : Type 0} (outcome : Result (Unit {0}) E) (s0 s1 s2 s3 new : Cnf) (q r x y : Bits) (n same less : Literal) → IsBuilt (or_all y) s0 n s1
    → IsBuilt (makes_up q r x y) s1 same s2 → IsBuilt (less_bit r y) s2 less s3 → OnOk outcome (IsBuilt (claim (rules n same less q r x)) s3 tt new)
    → OnOk outcome (IsBuilt (division q r x y) s0 tt new)
division_ok outcome s0 s1 s2 s3 new q r x y n same less of_divisor of_product of_less of_rules =
    on_ok_weaker outcome (divided s0 s1 s2 s3 new q r x y n same less of_divisor of_product of_less) of_rules
