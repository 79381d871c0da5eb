use Rattle.std.proofs.Common.{◌≡◌, ◌∙◌, ap, sym}
use Rattle.std.proofs.lemmas.Result.{IfOk-weaker}
use Rattle.std.specs.Prelude.{Result, IfOk, Box}
use Rattle.std.specs.Global.{Global}
use Rattle.term_core_spec.specs.declared.Variable.{Variable}
use Rattle.term_core_spec.specs.Term as tree
use Rattle.term_core_spec.specs.Substitution.{renamed}
use Rattle.term_core.specs.declared.term.Term.{Term as CodeTerm}
use Rattle.term_core.specs.Trees.{term_of}
use Rattle.term_substitution.specs.Renaming.{in_instance}
use Rattle.term_substitution.proofs.renaming.+rename.Goals as goal

-- a term that was made for x, at what equals x
at : {E : Type 0} (r : Result (Box CodeTerm Global) E) (x y : tree.Term) → IfOk r (λ t. term_of t.value ≡ x) → x ≡ y → IfOk r (λ t. term_of t.value ≡ y)
at r x y given same = IfOk-weaker r _ _ (λ t e. e ∙ same) given

pub returns-in_ok-a-in-Binary : goal.returns-in_ok-a-in-Binary
unfolding renamed
returns-in_ok-a-in-Binary t c =
    let name : Variable → Variable = in_instance c.args.own.now c.args.instance in
    let of : CodeTerm → tree.Term = λ u. renamed name (term_of u) in
    let ab = c.in_ok-a-in-Binary.ensures (of c.in-Binary.a.value) (of c.in-Binary.b.value)
    (at c.rename-in-Binary.result _ _ c.rename-in-Binary.ensures (ap of c.deref-in-Binary.ensures))
    (at c.rename-in-Binary-2.result _ _ c.rename-in-Binary-2.ensures (ap of c.deref-in-Binary-2.ensures)) in
    let built : tree.Binary c.in-Binary.operator (term_of c.in_ok-a-in-Binary.a.value) (term_of c.in_ok-a-in-Binary.b.value) ≡ of c.args.term.now = rw (ab.0, ab.1) (sym (ap of c.in-Binary.is)) in
    at c.binary.result _ _ c.binary.ensures built

pub returns-in_ok-c-in-Ternary : goal.returns-in_ok-c-in-Ternary
unfolding renamed
returns-in_ok-c-in-Ternary t c =
    let name : Variable → Variable = in_instance c.args.own.now c.args.instance in
    let of : CodeTerm → tree.Term = λ u. renamed name (term_of u) in
    let ab = c.in_ok-a-in-Ternary.ensures (of c.in-Ternary.a.value) (of c.in-Ternary.b.value)
    (at c.rename-in-Ternary.result _ _ c.rename-in-Ternary.ensures (ap of c.deref-in-Ternary.ensures))
    (at c.rename-in-Ternary-2.result _ _ c.rename-in-Ternary-2.ensures (ap of c.deref-in-Ternary-2.ensures)) in
    let of_c = c.in_ok-c-in-Ternary.ensures ∙ ap of c.deref-in-Ternary-3.ensures in
    let built : tree.Ternary c.in-Ternary.operator (term_of c.in_ok-a-in-Ternary.a.value) (term_of c.in_ok-a-in-Ternary.b.value) (term_of c.in_ok-c-in-Ternary.c.value) ≡ of c.args.term.now = rw (ab.0, ab.1, of_c) (sym (ap of c.in-Ternary.is)) in
    at c.ternary.result _ _ c.ternary.ensures built

pub returns-in_ok-c-in-Quaternary : goal.returns-in_ok-c-in-Quaternary
unfolding renamed
returns-in_ok-c-in-Quaternary t c =
    let name : Variable → Variable = in_instance c.args.own.now c.args.instance in
    let of : CodeTerm → tree.Term = λ u. renamed name (term_of u) in
    let ab = c.in_ok-a-in-Quaternary.ensures (of c.in-Quaternary.a.value) (of c.in-Quaternary.b.value)
    (at c.rename-in-Quaternary.result _ _ c.rename-in-Quaternary.ensures (ap of c.deref-in-Quaternary.ensures))
    (at c.rename-in-Quaternary-2.result _ _ c.rename-in-Quaternary-2.ensures (ap of c.deref-in-Quaternary-2.ensures)) in
    let cd = c.in_ok-c-in-Quaternary.ensures (of c.in-Quaternary.c.value) (of c.in-Quaternary.d.value)
    (at c.rename-in-Quaternary-3.result _ _ c.rename-in-Quaternary-3.ensures (ap of c.deref-in-Quaternary-3.ensures))
    (at c.rename-in-Quaternary-4.result _ _ c.rename-in-Quaternary-4.ensures (ap of c.deref-in-Quaternary-4.ensures)) in
    let built : tree.Quaternary c.in-Quaternary.operator (term_of c.in_ok-a-in-Quaternary.a.value) (term_of c.in_ok-a-in-Quaternary.b.value) (term_of c.in_ok-c-in-Quaternary.c.value) (term_of c.in_ok-c-in-Quaternary.d.value) ≡ of c.args.term.now = rw (ab.0, ab.1, cd.0, cd.1) (sym (ap of c.in-Quaternary.is)) in
    at c.quaternary.result _ _ c.quaternary.ensures built

pub returns-in_ok-g-in-Octonary : goal.returns-in_ok-g-in-Octonary
unfolding renamed
returns-in_ok-g-in-Octonary t c =
    let name : Variable → Variable = in_instance c.args.own.now c.args.instance in
    let of : CodeTerm → tree.Term = λ u. renamed name (term_of u) in
    let ab = c.in_ok-a-in-Octonary.ensures (of c.in-Octonary.a.value) (of c.in-Octonary.b.value)
    (at c.rename-in-Octonary.result _ _ c.rename-in-Octonary.ensures (ap of c.deref-in-Octonary.ensures))
    (at c.rename-in-Octonary-2.result _ _ c.rename-in-Octonary-2.ensures (ap of c.deref-in-Octonary-2.ensures)) in
    let cd = c.in_ok-c-in-Octonary.ensures (of c.in-Octonary.c.value) (of c.in-Octonary.d.value)
    (at c.rename-in-Octonary-3.result _ _ c.rename-in-Octonary-3.ensures (ap of c.deref-in-Octonary-3.ensures))
    (at c.rename-in-Octonary-4.result _ _ c.rename-in-Octonary-4.ensures (ap of c.deref-in-Octonary-4.ensures)) in
    let ef = c.in_ok-e-in-Octonary.ensures (of c.in-Octonary.e.value) (of c.in-Octonary.f.value)
    (at c.rename-in-Octonary-5.result _ _ c.rename-in-Octonary-5.ensures (ap of c.deref-in-Octonary-5.ensures))
    (at c.rename-in-Octonary-6.result _ _ c.rename-in-Octonary-6.ensures (ap of c.deref-in-Octonary-6.ensures)) in
    let gh = c.in_ok-g-in-Octonary.ensures (of c.in-Octonary.g.value) (of c.in-Octonary.h.value)
    (at c.rename-in-Octonary-7.result _ _ c.rename-in-Octonary-7.ensures (ap of c.deref-in-Octonary-7.ensures))
    (at c.rename-in-Octonary-8.result _ _ c.rename-in-Octonary-8.ensures (ap of c.deref-in-Octonary-8.ensures)) in
    let built : tree.Octonary (term_of c.in_ok-a-in-Octonary.a.value) (term_of c.in_ok-a-in-Octonary.b.value) (term_of c.in_ok-c-in-Octonary.c.value) (term_of c.in_ok-c-in-Octonary.d.value) (term_of c.in_ok-e-in-Octonary.e.value) (term_of c.in_ok-e-in-Octonary.f.value) (term_of c.in_ok-g-in-Octonary.g.value) (term_of c.in_ok-g-in-Octonary.h.value) ≡ of c.args.term.now = rw (ab.0, ab.1, cd.0, cd.1, ef.0, ef.1, gh.0, gh.1) (sym (ap of c.in-Octonary.is)) in
    at c.octonary.result _ _ c.octonary.ensures built
