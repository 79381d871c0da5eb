use Rattle.std.proofs.Common.{◌≡◌, ap, ◌∙◌, sym, [], ◌∷◌}
use Rattle.std.specs.Prelude.{Box}
use Rattle.std.specs.Global.{Global}
use Rattle.term_core_spec.specs.declared.Width.TheVariants.{W64}
use Rattle.term_core_spec.specs.Value as spec
use Rattle.term_core_spec.specs.Value.{value}
use Rattle.term_core.specs.declared.value.Value.{Value}
use Rattle.term_core.specs.Assignment.{assignment_of}
use Rattle.term_core.specs.Trees.{term_of}
use Rattle.term_core.specs.Values.{value_of}
use Rattle.term_core.proofs.Bytes.{joined_values}
use Rattle.term_core.proofs.Calls.{at_equal}
use Rattle.term_core.proofs.term.+evaluate.Goals as goal

abbrev boxed : Box Value Global → spec.Value
boxed b = value_of b.value

pub returns-in_ok-a-in-Binary : goal.returns-in_ok-a-in-Binary
unfolding value
returns-in_ok-a-in-Binary t c =
    let given : spec.Assignment = assignment_of c.args.assignment.now in
    let ab = c.in_ok-a-in-Binary.ensures (value given (term_of c.in-Binary.a.value)) (value given (term_of c.in-Binary.b.value))
    (at_equal c.evaluate-in-Binary.result boxed _ _ c.evaluate-in-Binary.ensures (ap (λ u. value given (term_of u)) c.deref-in-Binary.ensures))
    (at_equal c.evaluate-in-Binary-2.result boxed _ _ c.evaluate-in-Binary-2.ensures (ap (λ u. value given (term_of u)) c.deref-in-Binary-2.ensures)) in
    let is_a : value_of c.deref-in-Binary-3.result.now ≡ value given (term_of c.in-Binary.a.value) = ap value_of c.deref-in-Binary-3.ensures ∙ ab.0 in
    let is_b : value_of c.deref-in-Binary-4.result.now ≡ value given (term_of c.in-Binary.b.value) = ap value_of c.deref-in-Binary-4.ensures ∙ ab.1 in
    let whole : spec.binary_value c.in-Binary.operator (value_of c.deref-in-Binary-3.result.now) (value_of c.deref-in-Binary-4.result.now) ≡ value given (term_of c.args.term.now) =
    rw (is_a, is_b) (sym (ap (λ u. value given (term_of u)) c.in-Binary.is)) in
    c.boxed_value-in-Binary.ensures (value given (term_of c.args.term.now)) (c.binary.ensures ∙ whole)

pub returns-in_ok-c-in-Ternary : goal.returns-in_ok-c-in-Ternary
unfolding value
returns-in_ok-c-in-Ternary t c =
    let given : spec.Assignment = assignment_of c.args.assignment.now in
    let ab = c.in_ok-a-in-Ternary.ensures (value given (term_of c.in-Ternary.a.value)) (value given (term_of c.in-Ternary.b.value))
    (at_equal c.evaluate-in-Ternary.result boxed _ _ c.evaluate-in-Ternary.ensures (ap (λ u. value given (term_of u)) c.deref-in-Ternary.ensures))
    (at_equal c.evaluate-in-Ternary-2.result boxed _ _ c.evaluate-in-Ternary-2.ensures (ap (λ u. value given (term_of u)) c.deref-in-Ternary-2.ensures)) in
    let of_c = c.in_ok-c-in-Ternary.ensures ∙ ap (λ u. value given (term_of u)) c.deref-in-Ternary-3.ensures in
    let is_a : value_of c.deref-in-Ternary-4.result.now ≡ value given (term_of c.in-Ternary.a.value) = ap value_of c.deref-in-Ternary-4.ensures ∙ ab.0 in
    let is_b : value_of c.deref-in-Ternary-5.result.now ≡ value given (term_of c.in-Ternary.b.value) = ap value_of c.deref-in-Ternary-5.ensures ∙ ab.1 in
    let is_c : value_of c.deref-in-Ternary-6.result.now ≡ value given (term_of c.in-Ternary.c.value) = ap value_of c.deref-in-Ternary-6.ensures ∙ of_c in
    let whole : spec.ternary_value c.in-Ternary.operator (value_of c.deref-in-Ternary-4.result.now) (value_of c.deref-in-Ternary-5.result.now) (value_of c.deref-in-Ternary-6.result.now) ≡ value given (term_of c.args.term.now) =
    rw (is_a, is_b, is_c) (sym (ap (λ u. value given (term_of u)) c.in-Ternary.is)) in
    c.boxed_value-in-Ternary.ensures (value given (term_of c.args.term.now)) (at_equal c.ternary.result value_of _ _ c.ternary.ensures whole)

pub returns-in_ok-c-in-Quaternary : goal.returns-in_ok-c-in-Quaternary
unfolding value
returns-in_ok-c-in-Quaternary t c =
    let given : spec.Assignment = assignment_of c.args.assignment.now in
    let ab = c.in_ok-a-in-Quaternary.ensures (value given (term_of c.in-Quaternary.a.value)) (value given (term_of c.in-Quaternary.b.value))
    (at_equal c.evaluate-in-Quaternary.result boxed _ _ c.evaluate-in-Quaternary.ensures (ap (λ u. value given (term_of u)) c.deref-in-Quaternary.ensures))
    (at_equal c.evaluate-in-Quaternary-2.result boxed _ _ c.evaluate-in-Quaternary-2.ensures (ap (λ u. value given (term_of u)) c.deref-in-Quaternary-2.ensures)) in
    let cd = c.in_ok-c-in-Quaternary.ensures (value given (term_of c.in-Quaternary.c.value)) (value given (term_of c.in-Quaternary.d.value))
    (at_equal c.evaluate-in-Quaternary-3.result boxed _ _ c.evaluate-in-Quaternary-3.ensures (ap (λ u. value given (term_of u)) c.deref-in-Quaternary-3.ensures))
    (at_equal c.evaluate-in-Quaternary-4.result boxed _ _ c.evaluate-in-Quaternary-4.ensures (ap (λ u. value given (term_of u)) c.deref-in-Quaternary-4.ensures)) in
    let is_a : value_of c.deref-in-Quaternary-5.result.now ≡ value given (term_of c.in-Quaternary.a.value) = ap value_of c.deref-in-Quaternary-5.ensures ∙ ab.0 in
    let is_b : value_of c.deref-in-Quaternary-6.result.now ≡ value given (term_of c.in-Quaternary.b.value) = ap value_of c.deref-in-Quaternary-6.ensures ∙ ab.1 in
    let is_c : value_of c.deref-in-Quaternary-7.result.now ≡ value given (term_of c.in-Quaternary.c.value) = ap value_of c.deref-in-Quaternary-7.ensures ∙ cd.0 in
    let is_d : value_of c.deref-in-Quaternary-8.result.now ≡ value given (term_of c.in-Quaternary.d.value) = ap value_of c.deref-in-Quaternary-8.ensures ∙ cd.1 in
    let whole : spec.quaternary_value c.in-Quaternary.operator (value_of c.deref-in-Quaternary-5.result.now) (value_of c.deref-in-Quaternary-6.result.now) (value_of c.deref-in-Quaternary-7.result.now) (value_of c.deref-in-Quaternary-8.result.now) ≡ value given (term_of c.args.term.now) =
    rw (is_a, is_b, is_c, is_d) (sym (ap (λ u. value given (term_of u)) c.in-Quaternary.is)) in
    c.boxed_value-in-Quaternary.ensures (value given (term_of c.args.term.now)) (at_equal c.quaternary.result value_of _ _ c.quaternary.ensures whole)

-- the bytes of the eight arguments are joined
pub returns-in_ok-g-in-Octonary : goal.returns-in_ok-g-in-Octonary
unfolding value
returns-in_ok-g-in-Octonary t c =
    let given : spec.Assignment = assignment_of c.args.assignment.now in
    let ab = c.in_ok-a-in-Octonary.ensures (value given (term_of c.in-Octonary.a.value)) (value given (term_of c.in-Octonary.b.value))
    (at_equal c.evaluate-in-Octonary.result boxed _ _ c.evaluate-in-Octonary.ensures (ap (λ u. value given (term_of u)) c.deref-in-Octonary.ensures))
    (at_equal c.evaluate-in-Octonary-2.result boxed _ _ c.evaluate-in-Octonary-2.ensures (ap (λ u. value given (term_of u)) c.deref-in-Octonary-2.ensures)) in
    let cd = c.in_ok-c-in-Octonary.ensures (value given (term_of c.in-Octonary.c.value)) (value given (term_of c.in-Octonary.d.value))
    (at_equal c.evaluate-in-Octonary-3.result boxed _ _ c.evaluate-in-Octonary-3.ensures (ap (λ u. value given (term_of u)) c.deref-in-Octonary-3.ensures))
    (at_equal c.evaluate-in-Octonary-4.result boxed _ _ c.evaluate-in-Octonary-4.ensures (ap (λ u. value given (term_of u)) c.deref-in-Octonary-4.ensures)) in
    let ef = c.in_ok-e-in-Octonary.ensures (value given (term_of c.in-Octonary.e.value)) (value given (term_of c.in-Octonary.f.value))
    (at_equal c.evaluate-in-Octonary-5.result boxed _ _ c.evaluate-in-Octonary-5.ensures (ap (λ u. value given (term_of u)) c.deref-in-Octonary-5.ensures))
    (at_equal c.evaluate-in-Octonary-6.result boxed _ _ c.evaluate-in-Octonary-6.ensures (ap (λ u. value given (term_of u)) c.deref-in-Octonary-6.ensures)) in
    let gh = c.in_ok-g-in-Octonary.ensures (value given (term_of c.in-Octonary.g.value)) (value given (term_of c.in-Octonary.h.value))
    (at_equal c.evaluate-in-Octonary-7.result boxed _ _ c.evaluate-in-Octonary-7.ensures (ap (λ u. value given (term_of u)) c.deref-in-Octonary-7.ensures))
    (at_equal c.evaluate-in-Octonary-8.result boxed _ _ c.evaluate-in-Octonary-8.ensures (ap (λ u. value given (term_of u)) c.deref-in-Octonary-8.ensures)) in
    let word : value_of c.octonary.result ≡ spec.word_or_stray W64 (spec.number_of_bytes (c.in_ok-a-in-Octonary.a ∷ c.in_ok-a-in-Octonary.b ∷ c.in_ok-c-in-Octonary.c ∷ c.in_ok-c-in-Octonary.d ∷ c.in_ok-e-in-Octonary.e ∷ c.in_ok-e-in-Octonary.f ∷ c.in_ok-g-in-Octonary.g ∷ c.in_ok-g-in-Octonary.h ∷ [])) = c.octonary.ensures in
    c.boxed_value-in-Octonary.ensures (value given (term_of c.args.term.now))
    (word ∙ joined_values _ _ _ _ _ _ _ _ _ _ _ _ _ _ _ _ ab.0 ab.1 cd.0 cd.1 ef.0 ef.1 gh.0 gh.1 ∙ sym (ap (λ u. value given (term_of u)) c.in-Octonary.is))
