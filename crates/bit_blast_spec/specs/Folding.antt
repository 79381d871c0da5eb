-- Gates folded: a gate of a constant, of equal or of opposite inputs is a constant, a literal or a simpler gate; and gates of one kind
-- with the same inputs have one form.
use Rattle.std.specs.Prelude.{◌==◌, ◌&&◌, ◌||◌, nat_le, not, Bool, true, false, if◌then◌else◌}
use Rattle.clause_check_spec.specs.declared.Literal.{Literal}
use Rattle.clause_check_spec.specs.Clause.{Valuation, holds, negation, same_sign}
use Rattle.bit_blast_spec.specs.Gates.{Gate, And, Xor, Mux, Majority}

-- a constant, or a literal
pub data Signal : Type 0 where
  Known : (value : Bool) → Signal
  Of : (literal : Literal) → Signal

abbrev pub opposite : Signal → Signal
opposite (Known b) = Known (not b)
opposite (Of l) = Of (negation l)

abbrev pub opposite_if : Bool → Signal → Signal
opposite_if b s = if b then opposite s else s

-- what a gate is: a signal, or a gate in its one form, or the opposite of one
pub data Folded : Type 0 where
  Stands : (signal : Signal) → Folded
  Needs : (is_negated : Bool) → (gate : Gate) → Folded

abbrev pub reversed : Folded → Folded
reversed (Stands s) = Stands (opposite s)
reversed (Needs n gate) = Needs (not n) gate

-- ---- one form: inputs in the order of their variables, signs moved out

abbrev pub is_before : Literal → Literal → Bool
is_before a b = nat_le a.variable b.variable

abbrev pub is_one_variable : Literal → Literal → Bool
is_one_variable a b = a.variable == b.variable

-- of literals of one variable: they are equal, not opposite
abbrev pub have_one_sign : Literal → Literal → Bool
have_one_sign a b = same_sign a.is_negated b.is_negated

abbrev pub plain : Literal → Literal
plain l = record { variable = l.variable; is_negated = false }

-- ---- both, and either

abbrev pub and_of : Literal → Literal → Folded
and_of a b =
    if is_one_variable a b then Stands (if have_one_sign a b then Of a else Known false)
    else Needs false (if is_before a b then And a b else And b a)

abbrev pub fold_and : Signal → Signal → Folded
fold_and (Known x) t = Stands (if x then t else Known false)
fold_and (Of a) (Known y) = Stands (if y then Of a else Known false)
fold_and (Of a) (Of b) = and_of a b

abbrev pub fold_or : Signal → Signal → Folded
fold_or s t = reversed (fold_and (opposite s) (opposite t))

-- ---- one of both alone

abbrev pub xor_of : Literal → Literal → Folded
xor_of a b =
    if is_one_variable a b then Stands (Known (not (have_one_sign a b)))
    else Needs (not (have_one_sign a b)) (if is_before a b then Xor (plain a) (plain b) else Xor (plain b) (plain a))

abbrev pub fold_xor : Signal → Signal → Folded
fold_xor (Known x) t = Stands (opposite_if x t)
fold_xor (Of a) (Known y) = Stands (opposite_if y (Of a))
fold_xor (Of a) (Of b) = xor_of a b

-- ---- a choice

-- the condition and the first arm without a sign
abbrev pub mux_form : (c a b : Literal) → Folded
mux_form c a b = if a.is_negated then Needs true (Mux c (negation a) (negation b)) else Needs false (Mux c a b)

abbrev pub mux_of : (c a b : Literal) → Folded
mux_of c a b =
    if is_one_variable a b then (if have_one_sign a b then Stands (Of a) else reversed (xor_of c a))
    else if is_one_variable c a then (if have_one_sign c a then fold_or (Of c) (Of b) else fold_and (Of (negation c)) (Of b))
    else if is_one_variable c b then (if have_one_sign c b then fold_and (Of c) (Of a) else fold_or (Of (negation c)) (Of a))
    else if c.is_negated then mux_form (plain c) b a else mux_form c a b

abbrev pub fold_mux : (c a b : Signal) → Folded
fold_mux (Known x) s t = Stands (if x then s else t)
fold_mux (Of c) (Known x) t = if x then fold_or (Of c) t else fold_and (Of (negation c)) t
fold_mux (Of c) (Of a) (Known y) = if y then fold_or (Of (negation c)) (Of a) else fold_and (Of c) (Of a)
fold_mux (Of c) (Of a) (Of b) = mux_of c a b

-- ---- two of three

-- the first without a sign
abbrev pub majority_form : (a b c : Literal) → Folded
majority_form a b c =
    if a.is_negated then Needs true (Majority (negation a) (negation b) (negation c)) else Needs false (Majority a b c)

abbrev pub majority_in_order : (a b c : Literal) → Folded
majority_in_order a b c =
    if is_before a b
    then (if is_before b c then majority_form a b c else if is_before a c then majority_form a c b else majority_form c a b)
    else (if is_before a c then majority_form b a c else if is_before b c then majority_form b c a else majority_form c b a)

-- two equal ones decide, and two opposite ones leave it to the third
abbrev pub majority_of : (a b c : Literal) → Folded
majority_of a b c =
    if is_one_variable a b then Stands (Of (if have_one_sign a b then a else c))
    else if is_one_variable a c then Stands (Of (if have_one_sign a c then a else b))
    else if is_one_variable b c then Stands (Of (if have_one_sign b c then b else a))
    else majority_in_order a b c

-- with a constant it is both, or either
abbrev pub either_or_both : Bool → Signal → Signal → Folded
either_or_both x s t = if x then fold_or s t else fold_and s t

abbrev pub fold_majority : (a b c : Signal) → Folded
fold_majority (Known x) s t = either_or_both x s t
fold_majority (Of a) (Known x) t = either_or_both x (Of a) t
fold_majority (Of a) (Of b) (Known x) = either_or_both x (Of a) (Of b)
fold_majority (Of a) (Of b) (Of c) = majority_of a b c

-- ---- values

abbrev pub signal_value : Valuation → Signal → Bool
signal_value values (Known b) = b
signal_value values (Of l) = holds values l

abbrev pub sign : Bool → Bool → Bool
sign is_negated b = if is_negated then not b else b

-- of the gates that are folded; of the others it isn't asked
abbrev pub gate_value : Valuation → Gate → Bool
gate_value values (And a b) = holds values a && holds values b
gate_value values (Xor a b) = sign (holds values a) (holds values b)
gate_value values (Mux c a b) = if holds values c then holds values a else holds values b
gate_value values (Majority a b c) = if holds values a then holds values b || holds values c else holds values b && holds values c
gate_value values gate = false

abbrev pub folded_value : Valuation → Folded → Bool
folded_value values (Stands s) = signal_value values s
folded_value values (Needs is_negated gate) = sign is_negated (gate_value values gate)
