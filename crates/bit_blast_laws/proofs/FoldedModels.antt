-- An assignment that satisfies the clauses of gates gives one that satisfies those of the folded gates.
use Rattle.std.proofs.Common.{◌≡◌, ℕ, zero, suc, ◌+◌, ◌-◌, ◌<◌, Bool, true, false, cond, List, [], ◌∷◌, ◌++◌, length, map, Option, Some, None, refl, sym, ap, ◌∙◌, subst, arith, eqb-true, leb-true, ne_eqb, eq-eqb}
use Rattle.std.specs.Prelude.{◌==◌, ◌&&◌, ◌||◌, not, nat_le, option_map}
use Rattle.std.specs.List.{list_any, list_all}
use Rattle.std.proofs.lemmas.Bool.{and_parts}
use Rattle.std.proofs.lemmas.Option.{same_Some}
use Rattle.clause_check_spec.specs.declared.Literal.{Literal}
use Rattle.clause_check_spec.specs.Clause.{Clause, Valuation, holds, satisfies_clause, satisfies, same_sign, same_literal, is_of, negation}
use Rattle.bit_blast_spec.specs.Gates.{Gate, Truth, Bit, And, Xor, Mux, Majority, Claim, next, last_of, clauses_from}
use Rattle.bit_blast_spec.specs.Folding.{Signal, Known, Of, opposite, opposite_if, Folded, Stands, Needs, reversed, is_before, is_one_variable, have_one_sign, plain, and_of, fold_and, fold_or, xor_of, fold_xor, mux_form, mux_of, fold_mux, majority_form, majority_in_order, majority_of, either_or_both, fold_majority, signal_value, sign, gate_value, folded_value}
use Rattle.bit_blast_spec.specs.FoldedGoal.{Folding, signal_at, signal_of, same_gate, place_of, with_signal, with_gate, with_place, with_folded, clause_of, with_claim, after_gate, after_gates, nothing_made, folded, literals_of, are_in_order}
use Rattle.bit_blast_laws.proofs.Foldings.{and_is, xor_is, mux_is, majority_is, opposite_value}
use Rattle.bit_blast_laws.specs.Meaning.{majority, HasGateValue, AllHold}
use Rattle.bit_blast_laws.proofs.Gates.{all_hold, all_satisfied}

-- ---- what folding makes: gates of two or three literals

data IsJoined : Gate → Type 0 where
  both : (a b : Literal) → IsJoined (And a b)
  alone : (a b : Literal) → IsJoined (Xor a b)
  chosen : (c a b : Literal) → IsJoined (Mux c a b)
  most : (a b c : Literal) → IsJoined (Majority a b c)

abbrev Joins : Folded → Type 0
Joins (Stands t) = Unit {0}
Joins (Needs n g) = IsJoined g

joins_reversed : (t : Folded) → Joins t → Joins (reversed t)
joins_reversed (Stands t) p = tt
joins_reversed (Needs n g) p = p

joins_and_of : (a b : Literal) → Joins (and_of a b)
joins_and_of a b = by (is_one_variable a b) (is_before a b)
  where
    by : (p q : Bool) → Joins (cond p (Stands (cond (have_one_sign a b) (Of a) (Known false))) (Needs false (cond q (And a b) (And b a))))
    by true q = tt
    by false true = both a b
    by false false = both b a

joins_and : (t u : Signal) → Joins (fold_and t u)
joins_and (Known x) u = tt
joins_and (Of a) (Known y) = tt
joins_and (Of a) (Of b) = joins_and_of a b

joins_or : (t u : Signal) → Joins (fold_or t u)
joins_or t u = joins_reversed (fold_and (opposite t) (opposite u)) (joins_and (opposite t) (opposite u))

joins_xor_of : (a b : Literal) → Joins (xor_of a b)
joins_xor_of a b = by (is_one_variable a b) (is_before a b)
  where
    by : (p q : Bool)
        → Joins (cond p (Stands (Known (not (have_one_sign a b)))) (Needs (not (have_one_sign a b)) (cond q (Xor (plain a) (plain b)) (Xor (plain b) (plain a)))))
    by true q = tt
    by false true = alone (plain a) (plain b)
    by false false = alone (plain b) (plain a)

joins_xor : (t u : Signal) → Joins (fold_xor t u)
joins_xor (Known x) u = tt
joins_xor (Of a) (Known y) = tt
joins_xor (Of a) (Of b) = joins_xor_of a b

joins_mux_form : (c a b : Literal) → Joins (mux_form c a b)
joins_mux_form c a b = by a.is_negated
  where
    by : (p : Bool) → Joins (cond p (Needs true (Mux c (negation a) (negation b))) (Needs false (Mux c a b)))
    by true = chosen c (negation a) (negation b)
    by false = chosen c a b

joins_mux_of : (c a b : Literal) → Joins (mux_of c a b)
joins_mux_of c a b = by (is_one_variable a b) (have_one_sign a b) (is_one_variable c a) (have_one_sign c a) (is_one_variable c b) (have_one_sign c b) c.is_negated
  where
    by : (p u q v r w n : Bool)
        → Joins (cond p (cond u (Stands (Of a)) (reversed (xor_of c a)))
        (cond q (cond v (fold_or (Of c) (Of b)) (fold_and (Of (negation c)) (Of b)))
        (cond r (cond w (fold_and (Of c) (Of a)) (fold_or (Of (negation c)) (Of a))) (cond n (mux_form (plain c) b a) (mux_form c a b)))))
    by true true q v r w n = tt
    by true false q v r w n = joins_reversed (xor_of c a) (joins_xor_of c a)
    by false u true true r w n = joins_or (Of c) (Of b)
    by false u true false r w n = joins_and (Of (negation c)) (Of b)
    by false u false v true true n = joins_and (Of c) (Of a)
    by false u false v true false n = joins_or (Of (negation c)) (Of a)
    by false u false v false w true = joins_mux_form (plain c) b a
    by false u false v false w false = joins_mux_form c a b

joins_mux : (c t u : Signal) → Joins (fold_mux c t u)
joins_mux (Known x) t u = tt
joins_mux (Of c) (Known true) u = joins_or (Of c) u
joins_mux (Of c) (Known false) u = joins_and (Of (negation c)) u
joins_mux (Of c) (Of a) (Known true) = joins_or (Of (negation c)) (Of a)
joins_mux (Of c) (Of a) (Known false) = joins_and (Of c) (Of a)
joins_mux (Of c) (Of a) (Of b) = joins_mux_of c a b

joins_majority_form : (a b c : Literal) → Joins (majority_form a b c)
joins_majority_form a b c = by a.is_negated
  where
    by : (p : Bool) → Joins (cond p (Needs true (Majority (negation a) (negation b) (negation c))) (Needs false (Majority a b c)))
    by true = most (negation a) (negation b) (negation c)
    by false = most a b c

joins_in_order : (a b c : Literal) → Joins (majority_in_order a b c)
joins_in_order a b c = by (is_before a b) (is_before b c) (is_before a c)
  where
    by : (p q r : Bool)
        → Joins (cond p (cond q (majority_form a b c) (cond r (majority_form a c b) (majority_form c a b)))
        (cond r (majority_form b a c) (cond q (majority_form b c a) (majority_form c b a))))
    by true true r = joins_majority_form a b c
    by true false true = joins_majority_form a c b
    by true false false = joins_majority_form c a b
    by false q true = joins_majority_form b a c
    by false true false = joins_majority_form b c a
    by false false false = joins_majority_form c b a

joins_majority_of : (a b c : Literal) → Joins (majority_of a b c)
joins_majority_of a b c = by (is_one_variable a b) (is_one_variable a c) (is_one_variable b c)
  where
    by : (p q r : Bool)
        → Joins (cond p (Stands (Of (cond (have_one_sign a b) a c))) (cond q (Stands (Of (cond (have_one_sign a c) a b)))
        (cond r (Stands (Of (cond (have_one_sign b c) b a))) (majority_in_order a b c))))
    by true q r = tt
    by false true r = tt
    by false false true = tt
    by false false false = joins_in_order a b c

joins_either : (b : Bool) (t u : Signal) → Joins (either_or_both b t u)
joins_either true t u = joins_or t u
joins_either false t u = joins_and t u

joins_majority : (t u w : Signal) → Joins (fold_majority t u w)
joins_majority (Known b) u w = joins_either b u w
joins_majority (Of a) (Known b) w = joins_either b (Of a) w
joins_majority (Of a) (Of b) (Known c) = joins_either c (Of a) (Of b)
joins_majority (Of a) (Of b) (Of c) = joins_majority_of a b c

-- ---- values of gates

majority_table : (x y z : Bool) → cond x (y || z) (y && z) ≡ majority x y z
majority_table true true z = refl
majority_table true false true = refl
majority_table true false false = refl
majority_table false true true = refl
majority_table false true false = refl
majority_table false false true = refl
majority_table false false false = refl

has_value : (values : Valuation) (k : ℕ) (g : Gate) → IsJoined g → values k ≡ gate_value values g → HasGateValue values k g
has_value values k g (both a b) e = e
has_value values k g (alone a b) e = e
has_value values k g (chosen c a b) e = e
has_value values k g (most a b c) e = e ∙ majority_table (holds values a) (holds values b) (holds values c)

value_has : (values : Valuation) (k : ℕ) (g : Gate) → IsJoined g → HasGateValue values k g → values k ≡ gate_value values g
value_has values k g (both a b) e = e
value_has values k g (alone a b) e = e
value_has values k g (chosen c a b) e = e
value_has values k g (most a b c) e = e ∙ sym (majority_table (holds values a) (holds values b) (holds values c))

next_joined : (last : ℕ) (g : Gate) → IsJoined g → next last g ≡ last + 1
next_joined last g (both a b) = refl
next_joined last g (alone a b) = refl
next_joined last g (chosen c a b) = refl
next_joined last g (most a b c) = refl

-- ---- gates found again

literal_is : (a b : Literal) → same_literal a b ≡ true → a ≡ b
literal_is a b e =
    let parts = and_parts (a.variable == b.variable) (same_sign a.is_negated b.is_negated) e in
    ap (λ n. record { variable = n; is_negated = a.is_negated }) (eqb-true a.variable b.variable parts.0)
    ∙ ap (λ n. record { variable = b.variable; is_negated = n }) (by a.is_negated b.is_negated parts.1)
  where
    by : (p q : Bool) → same_sign p q ≡ true → p ≡ q
    by true true h = refl
    by true false h = absurd (cc)
    by false true h = absurd (cc)
    by false false h = refl

gate_is : (g h : Gate) → same_gate g h ≡ true → g ≡ h
gate_is (And a b) (And p q) e =
    let parts = and_parts (same_literal a p) (same_literal b q) e in
    ap (λ l. And l b) (literal_is a p parts.0) ∙ ap (And p) (literal_is b q parts.1)
gate_is (Xor a b) (Xor p q) e =
    let parts = and_parts (same_literal a p) (same_literal b q) e in
    ap (λ l. Xor l b) (literal_is a p parts.0) ∙ ap (Xor p) (literal_is b q parts.1)
gate_is (Mux c a b) (Mux r p q) e =
    let one = and_parts (same_literal c r) (same_literal a p && same_literal b q) e in
    let two = and_parts (same_literal a p) (same_literal b q) one.1 in
    ap (λ l. Mux l a b) (literal_is c r one.0) ∙ ap (λ l. Mux r l b) (literal_is a p two.0) ∙ ap (Mux r p) (literal_is b q two.1)
gate_is (Majority a b c) (Majority p q r) e =
    let one = and_parts (same_literal a p) (same_literal b q && same_literal c r) e in
    let two = and_parts (same_literal b q) (same_literal c r) one.1 in
    ap (λ l. Majority l b c) (literal_is a p one.0) ∙ ap (λ l. Majority p l c) (literal_is b q two.0) ∙ ap (Majority p q) (literal_is c r two.1)
gate_is g h e = absurd (cc)

place_is : (values : Valuation) (g : Gate) (last : ℕ) (hs : List Gate) (k : ℕ) → AllHold values last hs → place_of g last hs ≡ Some k → HasGateValue values k g
unfolding place_of
place_is values g last [] k all e = absurd (cc)
place_is values g last (h ∷ hs) k all e = by (same_gate g h) refl (place_is values g (next last h) hs k all.1) e
  where
    by : (test : Bool) → same_gate g h ≡ test → (place_of g (next last h) hs ≡ Some k → HasGateValue values k g)
        → cond test (Some (last + 1)) (place_of g (next last h) hs) ≡ Some k → HasGateValue values k g
    by true d again f = subst (λ n. HasGateValue values n g) (same_Some (last + 1) k f) (subst (HasGateValue values (last + 1)) (sym (gate_is g h d)) all.0)
    by false d again f = again f

-- ---- the values of new variables

abbrev fresh_place : Valuation → (last : ℕ) → Bool → Option ℕ → List Bool
fresh_place values last n (Some k) = []
fresh_place values last n None = sign n (values (last + 1)) ∷ []

abbrev fresh_folded : Valuation → (last : ℕ) → Folding → Folded → List Bool
fresh_folded values last s (Stands t) = []
fresh_folded values last s (Needs n g) = fresh_place values last n (place_of g 0 s.made)

abbrev fresh : Valuation → (last : ℕ) → Folding → Gate → List Bool
fresh values last s Truth = []
fresh values last s (Bit term index) = values (last + 1) ∷ []
fresh values last s (And a b) = fresh_folded values last s (fold_and (signal_of s.stands a) (signal_of s.stands b))
fresh values last s (Xor a b) = fresh_folded values last s (fold_xor (signal_of s.stands a) (signal_of s.stands b))
fresh values last s (Mux c a b) = fresh_folded values last s (fold_mux (signal_of s.stands c) (signal_of s.stands a) (signal_of s.stands b))
fresh values last s (Majority a b c) = fresh_folded values last s (fold_majority (signal_of s.stands a) (signal_of s.stands b) (signal_of s.stands c))
fresh values last s (Claim clause) = []

abbrev all_fresh : Valuation → (last : ℕ) → Folding → List Gate → List Bool
all_fresh values last s [] = []
all_fresh values last s (g ∷ gates) = fresh values last s g ++ all_fresh values (next last g) (after_gate s g) gates

sign_twice : (n b : Bool) → sign n (sign n b) ≡ b
sign_twice true true = refl
sign_twice true false = refl
sign_twice false b = refl

last_more : (last : ℕ) (xs : List Gate) (g : Gate) → last_of last (xs ++ g ∷ []) ≡ next (last_of last xs) g
last_more last [] g = refl
last_more last (x ∷ xs) g = last_more (next last x) xs g

length_more : (ts : List Signal) (t : Signal) → length (ts ++ t ∷ []) ≡ length ts + 1
length_more [] t = refl
length_more (u ∷ ts) t = let again = length_more ts t in omega arith

plus_none : (n : ℕ) → n ≡ n + 0
plus_none n = omega arith

module _ (values model : Valuation) where
  -- each signal has the value of its variable
  abbrev Stand : ℕ → List Signal → Type 0
  Stand k [] = Unit {0}
  Stand k (t ∷ rest) = (signal_value model t ≡ values (k + 1)) × Stand (k + 1) rest

  stand_at : (ts : List Signal) (k n : ℕ) → Stand k ts → n < length ts → signal_value model (signal_at ts n) ≡ values (k + n + 1)
  unfolding signal_at
  stand_at [] k n is less = absurd (omega arith)
  stand_at (t ∷ ts) k zero is less = let same : k + 1 ≡ k + 0 + 1 = omega arith in is.0 ∙ ap values same
  stand_at (t ∷ ts) k (suc n) is less = let same : k + 1 + n + 1 ≡ k + suc n + 1 = omega arith in stand_at ts (k + 1) n is.1 (omega arith) ∙ ap values same

  stand_more : (ts : List Signal) (k : ℕ) (t : Signal) → Stand k ts → signal_value model t ≡ values (k + length ts + 1) → Stand k (ts ++ t ∷ [])
  stand_more [] k t is e = let same : k + 0 + 1 ≡ k + 1 = omega arith in (e ∙ ap values same, tt)
  stand_more (u ∷ ts) k t is e = let same : k + suc (length ts) + 1 ≡ k + 1 + length ts + 1 = omega arith in (is.0, stand_more ts (k + 1) t is.1 (e ∙ ap values same))

  opposite_if_value : (b : Bool) (t : Signal) → signal_value model (opposite_if b t) ≡ sign b (signal_value model t)
  opposite_if_value true t = opposite_value model t
  opposite_if_value false t = refl

  -- the model has these values from a variable on
  abbrev Reads : ℕ → List Bool → Type 0
  Reads k [] = Unit {0}
  Reads k (b ∷ bs) = (model k ≡ b) × Reads (k + 1) bs

  reads_parts : (k : ℕ) (xs ys : List Bool) → Reads k (xs ++ ys) → Reads k xs × Reads (k + length xs) ys
  reads_parts k [] ys r = (tt, subst (λ n. Reads n ys) (plus_none k) r)
  reads_parts k (x ∷ xs) ys r =
      let again = reads_parts (k + 1) xs ys r.1 in
      let same : k + 1 + length xs ≡ k + suc (length xs) = omega arith in
      ((r.0, again.0), subst (λ n. Reads n ys) same again.1)

  hold_more : (last : ℕ) (xs : List Gate) (g : Gate) → AllHold model last xs → HasGateValue model (last_of last xs + 1) g → AllHold model last (xs ++ g ∷ [])
  hold_more last [] g all h = (h, tt)
  hold_more last (x ∷ xs) g all h = (all.0, hold_more (next last x) xs g all.1 h)

  record Inv (last : ℕ) (s : Folding) : Type 0 where
    pub length_is : length s.stands ≡ last
    pub stand : Stand 0 s.stands
    pub hold : AllHold model 0 s.made

  signal_in : (last : ℕ) (s : Folding) → Inv last s → (l : Literal) → is_of last l ≡ true → signal_value model (signal_of s.stands l) ≡ holds values l
  signal_in last s inv l e =
      let parts = and_parts (nat_le 1 l.variable) (nat_le l.variable last) e in
      let from = leb-true 1 l.variable parts.0 in
      let to = leb-true l.variable last parts.1 in
      let len = inv.length_is in
      let same : 0 + (l.variable - 1) + 1 ≡ l.variable = omega arith in
      opposite_if_value l.is_negated (signal_at s.stands (l.variable - 1))
      ∙ ap (sign l.is_negated) (stand_at s.stands 0 (l.variable - 1) inv.stand (omega arith) ∙ ap values same)

  -- what a step leaves, and how many variables it makes
  record Step (last : ℕ) (s t : Folding) (bs : List Bool) : Type 0 where
    pub inv : Inv last t
    pub count : last_of 0 t.made ≡ last_of 0 s.made + length bs

  signal_step : (last : ℕ) (s : Folding) → Inv last s → (t : Signal) → signal_value model t ≡ values (last + 1) → Step (last + 1) s (with_signal s t) []
  signal_step last s inv t e = record {
    inv = record {
      length_is = length_more s.stands t ∙ ap (λ n. n + 1) inv.length_is;
      stand = stand_more s.stands 0 t inv.stand (e ∙ ap (λ n. values (n + 1)) (sym inv.length_is) ∙ ap (λ n. values (n + 1)) (none_plus (length s.stands)));
      hold = inv.hold;
    };
    count = plus_none (last_of 0 s.made);
  }
    where
      none_plus : (n : ℕ) → n ≡ 0 + n
      none_plus n = omega arith

  gate_step : (last : ℕ) (s : Folding) → Inv last s → (n : Bool) (g : Gate) → next (last_of 0 s.made) g ≡ last_of 0 s.made + 1
      → HasGateValue model (last_of 0 s.made + 1) g → sign n (model (last_of 0 s.made + 1)) ≡ values (last + 1) → (b : Bool) → Step (last + 1) s (with_gate s n g) (b ∷ [])
  gate_step last s inv n g one h e b = record {
    inv = record {
      length_is = length_more s.stands (Of (record { variable = last_of 0 s.made + 1; is_negated = n })) ∙ ap (λ n. n + 1) inv.length_is;
      stand =
          stand_more s.stands 0 (Of (record { variable = last_of 0 s.made + 1; is_negated = n })) inv.stand
          (e ∙ ap (λ n. values (n + 1)) (sym inv.length_is) ∙ ap (λ n. values (n + 1)) (none_plus (length s.stands)));
      hold = hold_more 0 s.made g inv.hold h;
    };
    count = last_more 0 s.made g ∙ one;
  }
    where
      none_plus : (n : ℕ) → n ≡ 0 + n
      none_plus n = omega arith

  folded_step : (last : ℕ) (s : Folding) → Inv last s → (t : Folded) → Joins t → folded_value model t ≡ values (last + 1) → Reads (last_of 0 s.made + 1) (fresh_folded values last s t)
      → Step (last + 1) s (with_folded s t) (fresh_folded values last s t)
  folded_step last s inv (Stands t) joins e reads = signal_step last s inv t e
  folded_step last s inv (Needs n g) joins e reads = by (place_of g 0 s.made) refl reads
    where
      by : (o : Option ℕ) → place_of g 0 s.made ≡ o → Reads (last_of 0 s.made + 1) (fresh_place values last n o) → Step (last + 1) s (with_place s n g o) (fresh_place values last n o)
      by (Some k) d r =
          signal_step last s inv (Of (record { variable = k; is_negated = n }))
          (ap (sign n) (value_has model k g joins (place_is model g 0 s.made k inv.hold d)) ∙ e)
      by None d r =
          gate_step last s inv n g (next_joined (last_of 0 s.made) g joins)
          (has_value model (last_of 0 s.made + 1) g joins (r.0 ∙ ap (sign n) (sym e) ∙ sign_twice n (gate_value model g)))
          (ap (sign n) r.0 ∙ sign_twice n (values (last + 1))) (sign n (values (last + 1)))

  -- ---- claims

  abbrev Satisfied : Option Clause → Type 0
  Satisfied (Some clause) = satisfies_clause model clause ≡ true
  Satisfied None = Unit {0}

  clause_sound : (ts : List Signal) → list_any (signal_value model) ts ≡ true → Satisfied (clause_of ts)
  unfolding clause_of
  clause_sound [] e = absurd (cc)
  clause_sound (Known true ∷ ts) e = tt
  clause_sound (Known false ∷ ts) e = clause_sound ts e
  clause_sound (Of l ∷ ts) e = by (clause_of ts) (holds model l) refl (clause_sound ts) e
    where
      by : (o : Option Clause) (b : Bool) → holds model l ≡ b → (list_any (signal_value model) ts ≡ true → Satisfied o) → (b || list_any (signal_value model) ts) ≡ true
          → Satisfied (option_map (λ clause. l ∷ clause) o)
      by (Some clause) true d again f = ap (λ n. n || satisfies_clause model clause) d
      by (Some clause) false d again f = ap (λ n. n || satisfies_clause model clause) d ∙ again f
      by None b d again f = tt

  any_is : (last : ℕ) (s : Folding) → Inv last s → (clause : Clause) → list_all (is_of last) clause ≡ true
      → list_any (signal_value model) (map (signal_of s.stands) clause) ≡ list_any (holds values) clause
  any_is last s inv [] e = refl
  any_is last s inv (l ∷ clause) e =
      let parts = and_parts (is_of last l) (list_all (is_of last) clause) e in
      ap (λ n. n || list_any (signal_value model) (map (signal_of s.stands) clause)) (signal_in last s inv l parts.0) ∙ ap (λ n. holds values l || n) (any_is last s inv clause parts.1)

  claim_step : (last : ℕ) (s : Folding) → Inv last s → (o : Option Clause) → Satisfied o → Step last s (with_claim s o) []
  claim_step last s inv (Some clause) h = record {
    inv = record { length_is = inv.length_is; stand = inv.stand; hold = hold_more 0 s.made (Claim clause) inv.hold h };
    count = last_more 0 s.made (Claim clause) ∙ plus_none (last_of 0 s.made);
  }
  claim_step last s inv None h = record { inv = inv; count = plus_none (last_of 0 s.made) }

  -- ---- steps

  step : (last : ℕ) (s : Folding) → Inv last s → (g : Gate) → list_all (is_of last) (literals_of g) ≡ true → HasGateValue values (last + 1) g
      → Reads (last_of 0 s.made + 1) (fresh values last s g) → Step (next last g) s (after_gate s g) (fresh values last s g)
  unfolding after_gate
  step last s inv Truth e h r = signal_step last s inv (Known true) (sym h)
  step last s inv (Bit term index) e h r = gate_step last s inv false (Bit term index) refl tt r.0 (values (last + 1))
  step last s inv (And a b) e h r =
      let one = and_parts (is_of last a) (is_of last b && true) e in
      let two = and_parts (is_of last b) true one.1 in
      folded_step last s inv (fold_and (signal_of s.stands a) (signal_of s.stands b)) (joins_and (signal_of s.stands a) (signal_of s.stands b))
      (and_is model (signal_of s.stands a) (signal_of s.stands b) ∙ ap (λ n. n && signal_value model (signal_of s.stands b)) (signal_in last s inv a one.0)
      ∙ ap (λ n. holds values a && n) (signal_in last s inv b two.0) ∙ sym h) r
  step last s inv (Xor a b) e h r =
      let one = and_parts (is_of last a) (is_of last b && true) e in
      let two = and_parts (is_of last b) true one.1 in
      folded_step last s inv (fold_xor (signal_of s.stands a) (signal_of s.stands b)) (joins_xor (signal_of s.stands a) (signal_of s.stands b))
      (xor_is model (signal_of s.stands a) (signal_of s.stands b) ∙ ap (λ n. sign n (signal_value model (signal_of s.stands b))) (signal_in last s inv a one.0)
      ∙ ap (sign (holds values a)) (signal_in last s inv b two.0) ∙ sym h) r
  step last s inv (Mux c a b) e h r =
      let one = and_parts (is_of last c) (is_of last a && (is_of last b && true)) e in
      let two = and_parts (is_of last a) (is_of last b && true) one.1 in
      let three = and_parts (is_of last b) true two.1 in
      folded_step last s inv (fold_mux (signal_of s.stands c) (signal_of s.stands a) (signal_of s.stands b))
      (joins_mux (signal_of s.stands c) (signal_of s.stands a) (signal_of s.stands b))
      (mux_is model (signal_of s.stands c) (signal_of s.stands a) (signal_of s.stands b)
      ∙ ap (λ n. cond n (signal_value model (signal_of s.stands a)) (signal_value model (signal_of s.stands b))) (signal_in last s inv c one.0)
      ∙ ap (λ n. cond (holds values c) n (signal_value model (signal_of s.stands b))) (signal_in last s inv a two.0)
      ∙ ap (cond (holds values c) (holds values a)) (signal_in last s inv b three.0) ∙ sym h) r
  step last s inv (Majority a b c) e h r =
      let one = and_parts (is_of last a) (is_of last b && (is_of last c && true)) e in
      let two = and_parts (is_of last b) (is_of last c && true) one.1 in
      let three = and_parts (is_of last c) true two.1 in
      folded_step last s inv (fold_majority (signal_of s.stands a) (signal_of s.stands b) (signal_of s.stands c))
      (joins_majority (signal_of s.stands a) (signal_of s.stands b) (signal_of s.stands c))
      (majority_is model (signal_of s.stands a) (signal_of s.stands b) (signal_of s.stands c)
      ∙ majority_table (signal_value model (signal_of s.stands a)) (signal_value model (signal_of s.stands b)) (signal_value model (signal_of s.stands c))
      ∙ ap (λ n. majority n (signal_value model (signal_of s.stands b)) (signal_value model (signal_of s.stands c))) (signal_in last s inv a one.0)
      ∙ ap (λ n. majority (holds values a) n (signal_value model (signal_of s.stands c))) (signal_in last s inv b two.0)
      ∙ ap (majority (holds values a) (holds values b)) (signal_in last s inv c three.0) ∙ sym h) r
  step last s inv (Claim clause) e h r =
      claim_step last s inv (clause_of (map (signal_of s.stands) clause)) (clause_sound (map (signal_of s.stands) clause) (any_is last s inv clause e ∙ h))

  steps : (gates : List Gate) (last : ℕ) (s : Folding) → Inv last s → are_in_order last gates ≡ true → AllHold values last gates
      → Reads (last_of 0 s.made + 1) (all_fresh values last s gates) → AllHold model 0 (after_gates s gates).made
  unfolding after_gates are_in_order
  steps [] last s inv e all reads = inv.hold
  steps (g ∷ gates) last s inv e all reads =
      let parts = and_parts (list_all (is_of last) (literals_of g)) (are_in_order (next last g) gates) e in
      let split = reads_parts (last_of 0 s.made + 1) (fresh values last s g) (all_fresh values (next last g) (after_gate s g) gates) reads in
      let one = step last s inv g parts.0 all.0 split.0 in
      steps gates (next last g) (after_gate s g) one.inv parts.1 all.1
      (subst (λ n. Reads n (all_fresh values (next last g) (after_gate s g) gates)) (moved (last_of 0 s.made) (length (fresh values last s g)) (last_of 0 (after_gate s g).made) one.count) split.1)
    where
      moved : (m l n : ℕ) → n ≡ m + l → m + 1 + l ≡ n + 1
      moved m l n e = omega arith

-- ---- an assignment with these values from a variable on

abbrev model_of : ℕ → List Bool → Valuation
model_of k [] v = false
model_of k (b ∷ bs) v = cond (v == k) b (model_of (k + 1) bs v)

reads_later : (values f g : Valuation) (k : ℕ) (bs : List Bool) → ((v : ℕ) → k < v + 1 → f v ≡ g v) → Reads values g k bs → Reads values f k bs
reads_later values f g k [] same r = tt
reads_later values f g k (b ∷ bs) same r =
    (same k (omega arith) ∙ r.0, reads_later values f g (k + 1) bs (λ v less. same v (omega arith)) r.1)

reads_model : (values : Valuation) (k : ℕ) (bs : List Bool) → Reads values (model_of k bs) k bs
reads_model values k [] = tt
reads_model values k (b ∷ bs) = (
  ap (λ t. cond t b (model_of (k + 1) bs k)) (eq-eqb k k refl),
  reads_later values (model_of k (b ∷ bs)) (model_of (k + 1) bs) (k + 1) bs
      (λ v less. ap (λ t. cond t b (model_of (k + 1) bs v)) (ne_eqb v k (λ e. absurd (apart v k less e)))) (reads_model values (k + 1) bs),
)
  where
    apart : (v k : ℕ) → k + 1 < v + 1 → v ≡ k → ⊥
    apart v k less e = omega arith

pub models_fold : (gates : List Gate) → are_in_order 0 gates ≡ true → (values : Valuation) → satisfies values (clauses_from 0 gates) ≡ true
    → (model : Valuation) × (satisfies model (clauses_from 0 (folded gates)) ≡ true)
models_fold gates order values satisfied = (
  model_of 1 (all_fresh values 0 nothing_made gates),
  all_satisfied (model_of 1 (all_fresh values 0 nothing_made gates)) 0 (folded gates)
      (steps values (model_of 1 (all_fresh values 0 nothing_made gates)) gates 0 nothing_made (record { length_is = refl; stand = tt; hold = tt }) order
      (all_hold values 0 gates satisfied) (reads_model values 1 (all_fresh values 0 nothing_made gates))),
)
