use Rattle.std.proofs.Common.{◌≡◌, ◌∙◌, ap, sym}
use Rattle.std.specs.Prelude.{Box}
use Rattle.std.specs.Global.{Global}
use Rattle.term_core_spec.specs.Term as tree
use Rattle.term_core.specs.declared.term.Term.{Term as CodeTerm}
use Rattle.term_core.specs.Trees.{term_of}
use Rattle.term_core.proofs.Calls.{at_equal}
use Rattle.term_core.proofs.term.Term.+copy.Goals as goal

abbrev boxed : Box CodeTerm Global → tree.Term
boxed b = term_of b.value

pub returns-in_ok-a-in-Binary : goal.returns-in_ok-a-in-Binary
returns-in_ok-a-in-Binary t c =
    let ab = c.in_ok-a-in-Binary.ensures (term_of c.in-Binary.a.value) (term_of c.in-Binary.b.value)
    (at_equal c.copy-in-Binary.result boxed _ _ c.copy-in-Binary.ensures (ap term_of c.deref-in-Binary.ensures))
    (at_equal c.copy-in-Binary-2.result boxed _ _ c.copy-in-Binary-2.ensures (ap term_of c.deref-in-Binary-2.ensures)) in
    let built : tree.Binary c.in-Binary.operator (term_of c.in_ok-a-in-Binary.a.value) (term_of c.in_ok-a-in-Binary.b.value) ≡ term_of c.args.self.now = rw (ab.0, ab.1) (sym (ap term_of c.in-Binary.is)) in
    at_equal c.binary.result boxed _ _ c.binary.ensures built

pub returns-in_ok-c-in-Ternary : goal.returns-in_ok-c-in-Ternary
returns-in_ok-c-in-Ternary t c =
    let ab = c.in_ok-a-in-Ternary.ensures (term_of c.in-Ternary.a.value) (term_of c.in-Ternary.b.value)
    (at_equal c.copy-in-Ternary.result boxed _ _ c.copy-in-Ternary.ensures (ap term_of c.deref-in-Ternary.ensures))
    (at_equal c.copy-in-Ternary-2.result boxed _ _ c.copy-in-Ternary-2.ensures (ap term_of c.deref-in-Ternary-2.ensures)) in
    let of_c = c.in_ok-c-in-Ternary.ensures ∙ ap term_of c.deref-in-Ternary-3.ensures in
    let built : tree.Ternary c.in-Ternary.operator (term_of c.in_ok-a-in-Ternary.a.value) (term_of c.in_ok-a-in-Ternary.b.value) (term_of c.in_ok-c-in-Ternary.c.value) ≡ term_of c.args.self.now = rw (ab.0, ab.1, of_c) (sym (ap term_of c.in-Ternary.is)) in
    at_equal c.ternary.result boxed _ _ c.ternary.ensures built

pub returns-in_ok-c-in-Quaternary : goal.returns-in_ok-c-in-Quaternary
returns-in_ok-c-in-Quaternary t c =
    let ab = c.in_ok-a-in-Quaternary.ensures (term_of c.in-Quaternary.a.value) (term_of c.in-Quaternary.b.value)
    (at_equal c.copy-in-Quaternary.result boxed _ _ c.copy-in-Quaternary.ensures (ap term_of c.deref-in-Quaternary.ensures))
    (at_equal c.copy-in-Quaternary-2.result boxed _ _ c.copy-in-Quaternary-2.ensures (ap term_of c.deref-in-Quaternary-2.ensures)) in
    let cd = c.in_ok-c-in-Quaternary.ensures (term_of c.in-Quaternary.c.value) (term_of c.in-Quaternary.d.value)
    (at_equal c.copy-in-Quaternary-3.result boxed _ _ c.copy-in-Quaternary-3.ensures (ap term_of c.deref-in-Quaternary-3.ensures))
    (at_equal c.copy-in-Quaternary-4.result boxed _ _ c.copy-in-Quaternary-4.ensures (ap term_of c.deref-in-Quaternary-4.ensures)) in
    let built : tree.Quaternary c.in-Quaternary.operator (term_of c.in_ok-a-in-Quaternary.a.value) (term_of c.in_ok-a-in-Quaternary.b.value) (term_of c.in_ok-c-in-Quaternary.c.value) (term_of c.in_ok-c-in-Quaternary.d.value) ≡ term_of c.args.self.now = rw (ab.0, ab.1, cd.0, cd.1) (sym (ap term_of c.in-Quaternary.is)) in
    at_equal c.quaternary.result boxed _ _ c.quaternary.ensures built

pub returns-in_ok-g-in-Octonary : goal.returns-in_ok-g-in-Octonary
returns-in_ok-g-in-Octonary t c =
    let ab = c.in_ok-a-in-Octonary.ensures (term_of c.in-Octonary.a.value) (term_of c.in-Octonary.b.value)
    (at_equal c.copy-in-Octonary.result boxed _ _ c.copy-in-Octonary.ensures (ap term_of c.deref-in-Octonary.ensures))
    (at_equal c.copy-in-Octonary-2.result boxed _ _ c.copy-in-Octonary-2.ensures (ap term_of c.deref-in-Octonary-2.ensures)) in
    let cd = c.in_ok-c-in-Octonary.ensures (term_of c.in-Octonary.c.value) (term_of c.in-Octonary.d.value)
    (at_equal c.copy-in-Octonary-3.result boxed _ _ c.copy-in-Octonary-3.ensures (ap term_of c.deref-in-Octonary-3.ensures))
    (at_equal c.copy-in-Octonary-4.result boxed _ _ c.copy-in-Octonary-4.ensures (ap term_of c.deref-in-Octonary-4.ensures)) in
    let ef = c.in_ok-e-in-Octonary.ensures (term_of c.in-Octonary.e.value) (term_of c.in-Octonary.f.value)
    (at_equal c.copy-in-Octonary-5.result boxed _ _ c.copy-in-Octonary-5.ensures (ap term_of c.deref-in-Octonary-5.ensures))
    (at_equal c.copy-in-Octonary-6.result boxed _ _ c.copy-in-Octonary-6.ensures (ap term_of c.deref-in-Octonary-6.ensures)) in
    let gh = c.in_ok-g-in-Octonary.ensures (term_of c.in-Octonary.g.value) (term_of c.in-Octonary.h.value)
    (at_equal c.copy-in-Octonary-7.result boxed _ _ c.copy-in-Octonary-7.ensures (ap term_of c.deref-in-Octonary-7.ensures))
    (at_equal c.copy-in-Octonary-8.result boxed _ _ c.copy-in-Octonary-8.ensures (ap term_of c.deref-in-Octonary-8.ensures)) in
    let built : tree.Octonary (term_of c.in_ok-a-in-Octonary.a.value) (term_of c.in_ok-a-in-Octonary.b.value) (term_of c.in_ok-c-in-Octonary.c.value) (term_of c.in_ok-c-in-Octonary.d.value) (term_of c.in_ok-e-in-Octonary.e.value) (term_of c.in_ok-e-in-Octonary.f.value) (term_of c.in_ok-g-in-Octonary.g.value) (term_of c.in_ok-g-in-Octonary.h.value) ≡ term_of c.args.self.now = rw (ab.0, ab.1, cd.0, cd.1, ef.0, ef.1, gh.0, gh.1) (sym (ap term_of c.in-Octonary.is)) in
    at_equal c.octonary.result boxed _ _ c.octonary.ensures built
