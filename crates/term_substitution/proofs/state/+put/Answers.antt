use Rattle.std.proofs.Common.{ℕ, sym, subst, arith, Option}
use Rattle.term_core_spec.specs.declared.Variable.{Variable}
use Rattle.term_core_spec.specs.Substitution.{State, substituted}
use Rattle.term_core.specs.Trees.{term_of}
use Rattle.term_substitution.specs.States.{state_of, IsAt}
use Rattle.term_substitution.proofs.Growing.{through, later, later_within}
use Rattle.term_substitution.proofs.state.+put.Goals as goal

pub returns-in-Unary-clause-extends : goal.returns-in-Unary-clause-extends
returns-in-Unary-clause-extends g t c = through c.args.bank.now c.put-x.new.bank c.over_one.new.bank c.put-x.ensures.extends c.over_one.ensures.extends

pub returns-in-Unary-clause-tree : goal.returns-in-Unary-clause-tree
unfolding substituted
returns-in-Unary-clause-tree g t c = λ base e fits.
    let ids : Variable → Option ℕ = g.L.Lookup.terms c.args.state.now in
    let state : State = state_of base ids in
    let e0 = e in
    let at0 : IsAt c.put-x.new.bank c.put-x.result (substituted state (term_of c.in-Unary.a.value)) =
    subst (λ u. IsAt c.put-x.new.bank c.put-x.result (substituted state (term_of u))) c.deref.ensures (c.put-x.ensures.tree base e0 fits) in
    subst (λ u. IsAt c.over_one.new.bank c.over_one.result (substituted state (term_of u))) (sym c.in-Unary.is)
    (c.over_one.ensures.tree _
    at0)

pub over_two-requires : goal.over_two-requires
over_two-requires g t c =
    record {
      a_within = later_within c.put-x-in-Binary.new.bank c.put-y.new.bank c.put-x-in-Binary.result (omega arith) c.put-x-in-Binary.ensures.within;
      b_within = c.put-y.ensures.within;
    }

pub returns-in-Binary-clause-extends : goal.returns-in-Binary-clause-extends
returns-in-Binary-clause-extends g t c = through c.args.bank.now c.put-x-in-Binary.new.bank c.over_two.new.bank c.put-x-in-Binary.ensures.extends (through c.put-x-in-Binary.new.bank c.put-y.new.bank c.over_two.new.bank c.put-y.ensures.extends c.over_two.ensures.extends)

pub returns-in-Binary-clause-tree : goal.returns-in-Binary-clause-tree
unfolding substituted
returns-in-Binary-clause-tree g t c = λ base e fits.
    let ids : Variable → Option ℕ = g.L.Lookup.terms c.args.state.now in
    let state : State = state_of base ids in
    let e0 = e in
    let at0 : IsAt c.put-x-in-Binary.new.bank c.put-x-in-Binary.result (substituted state (term_of c.in-Binary.a.value)) =
    subst (λ u. IsAt c.put-x-in-Binary.new.bank c.put-x-in-Binary.result (substituted state (term_of u))) c.deref-in-Binary.ensures (c.put-x-in-Binary.ensures.tree base e0 fits) in
    let e1 = through base c.args.bank.now c.put-x-in-Binary.new.bank e0 c.put-x-in-Binary.ensures.extends in
    let at1 : IsAt c.put-y.new.bank c.put-y.result (substituted state (term_of c.in-Binary.b.value)) =
    subst (λ u. IsAt c.put-y.new.bank c.put-y.result (substituted state (term_of u))) c.deref-in-Binary-2.ensures (c.put-y.ensures.tree base e1 fits) in
    subst (λ u. IsAt c.over_two.new.bank c.over_two.result (substituted state (term_of u))) (sym c.in-Binary.is)
    (c.over_two.ensures.tree _ _
    (later c.put-x-in-Binary.new.bank c.put-y.new.bank c.put-x-in-Binary.result (substituted state (term_of c.in-Binary.a.value)) c.put-y.ensures.extends at0)
    at1)

pub over_three-requires : goal.over_three-requires
over_three-requires g t c =
    record {
      a_within = later_within c.put-x-in-Ternary.new.bank c.put-z.new.bank c.put-x-in-Ternary.result (omega arith) c.put-x-in-Ternary.ensures.within;
      b_within = later_within c.put-y-in-Ternary.new.bank c.put-z.new.bank c.put-y-in-Ternary.result (omega arith) c.put-y-in-Ternary.ensures.within;
      c_within = c.put-z.ensures.within;
    }

pub returns-in-Ternary-clause-extends : goal.returns-in-Ternary-clause-extends
returns-in-Ternary-clause-extends g t c = through c.args.bank.now c.put-x-in-Ternary.new.bank c.over_three.new.bank c.put-x-in-Ternary.ensures.extends (through c.put-x-in-Ternary.new.bank c.put-y-in-Ternary.new.bank c.over_three.new.bank c.put-y-in-Ternary.ensures.extends (through c.put-y-in-Ternary.new.bank c.put-z.new.bank c.over_three.new.bank c.put-z.ensures.extends c.over_three.ensures.extends))

pub returns-in-Ternary-clause-tree : goal.returns-in-Ternary-clause-tree
unfolding substituted
returns-in-Ternary-clause-tree g t c = λ base e fits.
    let ids : Variable → Option ℕ = g.L.Lookup.terms c.args.state.now in
    let state : State = state_of base ids in
    let e0 = e in
    let at0 : IsAt c.put-x-in-Ternary.new.bank c.put-x-in-Ternary.result (substituted state (term_of c.in-Ternary.a.value)) =
    subst (λ u. IsAt c.put-x-in-Ternary.new.bank c.put-x-in-Ternary.result (substituted state (term_of u))) c.deref-in-Ternary.ensures (c.put-x-in-Ternary.ensures.tree base e0 fits) in
    let e1 = through base c.args.bank.now c.put-x-in-Ternary.new.bank e0 c.put-x-in-Ternary.ensures.extends in
    let at1 : IsAt c.put-y-in-Ternary.new.bank c.put-y-in-Ternary.result (substituted state (term_of c.in-Ternary.b.value)) =
    subst (λ u. IsAt c.put-y-in-Ternary.new.bank c.put-y-in-Ternary.result (substituted state (term_of u))) c.deref-in-Ternary-2.ensures (c.put-y-in-Ternary.ensures.tree base e1 fits) in
    let e2 = through base c.put-x-in-Ternary.new.bank c.put-y-in-Ternary.new.bank e1 c.put-y-in-Ternary.ensures.extends in
    let at2 : IsAt c.put-z.new.bank c.put-z.result (substituted state (term_of c.in-Ternary.c.value)) =
    subst (λ u. IsAt c.put-z.new.bank c.put-z.result (substituted state (term_of u))) c.deref-in-Ternary-3.ensures (c.put-z.ensures.tree base e2 fits) in
    subst (λ u. IsAt c.over_three.new.bank c.over_three.result (substituted state (term_of u))) (sym c.in-Ternary.is)
    (c.over_three.ensures.tree _ _ _
    (later c.put-y-in-Ternary.new.bank c.put-z.new.bank c.put-x-in-Ternary.result (substituted state (term_of c.in-Ternary.a.value)) c.put-z.ensures.extends (later c.put-x-in-Ternary.new.bank c.put-y-in-Ternary.new.bank c.put-x-in-Ternary.result (substituted state (term_of c.in-Ternary.a.value)) c.put-y-in-Ternary.ensures.extends at0))
    (later c.put-y-in-Ternary.new.bank c.put-z.new.bank c.put-y-in-Ternary.result (substituted state (term_of c.in-Ternary.b.value)) c.put-z.ensures.extends at1)
    at2)

pub over_four-requires : goal.over_four-requires
over_four-requires g t c =
    record {
      a_within = later_within c.put-x-in-Quaternary.new.bank c.put-w.new.bank c.put-x-in-Quaternary.result (omega arith) c.put-x-in-Quaternary.ensures.within;
      b_within = later_within c.put-y-in-Quaternary.new.bank c.put-w.new.bank c.put-y-in-Quaternary.result (omega arith) c.put-y-in-Quaternary.ensures.within;
      c_within = later_within c.put-z-in-Quaternary.new.bank c.put-w.new.bank c.put-z-in-Quaternary.result (omega arith) c.put-z-in-Quaternary.ensures.within;
      d_within = c.put-w.ensures.within;
    }

pub returns-in-Quaternary-clause-extends : goal.returns-in-Quaternary-clause-extends
returns-in-Quaternary-clause-extends g t c = through c.args.bank.now c.put-x-in-Quaternary.new.bank c.over_four.new.bank c.put-x-in-Quaternary.ensures.extends (through c.put-x-in-Quaternary.new.bank c.put-y-in-Quaternary.new.bank c.over_four.new.bank c.put-y-in-Quaternary.ensures.extends (through c.put-y-in-Quaternary.new.bank c.put-z-in-Quaternary.new.bank c.over_four.new.bank c.put-z-in-Quaternary.ensures.extends (through c.put-z-in-Quaternary.new.bank c.put-w.new.bank c.over_four.new.bank c.put-w.ensures.extends c.over_four.ensures.extends)))

pub returns-in-Quaternary-clause-tree : goal.returns-in-Quaternary-clause-tree
unfolding substituted
returns-in-Quaternary-clause-tree g t c = λ base e fits.
    let ids : Variable → Option ℕ = g.L.Lookup.terms c.args.state.now in
    let state : State = state_of base ids in
    let e0 = e in
    let at0 : IsAt c.put-x-in-Quaternary.new.bank c.put-x-in-Quaternary.result (substituted state (term_of c.in-Quaternary.a.value)) =
    subst (λ u. IsAt c.put-x-in-Quaternary.new.bank c.put-x-in-Quaternary.result (substituted state (term_of u))) c.deref-in-Quaternary.ensures (c.put-x-in-Quaternary.ensures.tree base e0 fits) in
    let e1 = through base c.args.bank.now c.put-x-in-Quaternary.new.bank e0 c.put-x-in-Quaternary.ensures.extends in
    let at1 : IsAt c.put-y-in-Quaternary.new.bank c.put-y-in-Quaternary.result (substituted state (term_of c.in-Quaternary.b.value)) =
    subst (λ u. IsAt c.put-y-in-Quaternary.new.bank c.put-y-in-Quaternary.result (substituted state (term_of u))) c.deref-in-Quaternary-2.ensures (c.put-y-in-Quaternary.ensures.tree base e1 fits) in
    let e2 = through base c.put-x-in-Quaternary.new.bank c.put-y-in-Quaternary.new.bank e1 c.put-y-in-Quaternary.ensures.extends in
    let at2 : IsAt c.put-z-in-Quaternary.new.bank c.put-z-in-Quaternary.result (substituted state (term_of c.in-Quaternary.c.value)) =
    subst (λ u. IsAt c.put-z-in-Quaternary.new.bank c.put-z-in-Quaternary.result (substituted state (term_of u))) c.deref-in-Quaternary-3.ensures (c.put-z-in-Quaternary.ensures.tree base e2 fits) in
    let e3 = through base c.put-y-in-Quaternary.new.bank c.put-z-in-Quaternary.new.bank e2 c.put-z-in-Quaternary.ensures.extends in
    let at3 : IsAt c.put-w.new.bank c.put-w.result (substituted state (term_of c.in-Quaternary.d.value)) =
    subst (λ u. IsAt c.put-w.new.bank c.put-w.result (substituted state (term_of u))) c.deref-in-Quaternary-4.ensures (c.put-w.ensures.tree base e3 fits) in
    subst (λ u. IsAt c.over_four.new.bank c.over_four.result (substituted state (term_of u))) (sym c.in-Quaternary.is)
    (c.over_four.ensures.tree _ _ _ _
    (later c.put-z-in-Quaternary.new.bank c.put-w.new.bank c.put-x-in-Quaternary.result (substituted state (term_of c.in-Quaternary.a.value)) c.put-w.ensures.extends (later c.put-y-in-Quaternary.new.bank c.put-z-in-Quaternary.new.bank c.put-x-in-Quaternary.result (substituted state (term_of c.in-Quaternary.a.value)) c.put-z-in-Quaternary.ensures.extends (later c.put-x-in-Quaternary.new.bank c.put-y-in-Quaternary.new.bank c.put-x-in-Quaternary.result (substituted state (term_of c.in-Quaternary.a.value)) c.put-y-in-Quaternary.ensures.extends at0)))
    (later c.put-z-in-Quaternary.new.bank c.put-w.new.bank c.put-y-in-Quaternary.result (substituted state (term_of c.in-Quaternary.b.value)) c.put-w.ensures.extends (later c.put-y-in-Quaternary.new.bank c.put-z-in-Quaternary.new.bank c.put-y-in-Quaternary.result (substituted state (term_of c.in-Quaternary.b.value)) c.put-z-in-Quaternary.ensures.extends at1))
    (later c.put-z-in-Quaternary.new.bank c.put-w.new.bank c.put-z-in-Quaternary.result (substituted state (term_of c.in-Quaternary.c.value)) c.put-w.ensures.extends at2)
    at3)

pub over_eight-requires : goal.over_eight-requires
over_eight-requires g t c =
    record {
      a_within = later_within c.put-x-in-Octonary.new.bank c.put-v.new.bank c.put-x-in-Octonary.result (omega arith) c.put-x-in-Octonary.ensures.within;
      b_within = later_within c.put-y-in-Octonary.new.bank c.put-v.new.bank c.put-y-in-Octonary.result (omega arith) c.put-y-in-Octonary.ensures.within;
      c_within = later_within c.put-z-in-Octonary.new.bank c.put-v.new.bank c.put-z-in-Octonary.result (omega arith) c.put-z-in-Octonary.ensures.within;
      d_within = later_within c.put-w-in-Octonary.new.bank c.put-v.new.bank c.put-w-in-Octonary.result (omega arith) c.put-w-in-Octonary.ensures.within;
      e_within = later_within c.put-s.new.bank c.put-v.new.bank c.put-s.result (omega arith) c.put-s.ensures.within;
      f_within = later_within c.put-t.new.bank c.put-v.new.bank c.put-t.result (omega arith) c.put-t.ensures.within;
      g_within = later_within c.put-u.new.bank c.put-v.new.bank c.put-u.result (omega arith) c.put-u.ensures.within;
      h_within = c.put-v.ensures.within;
    }

pub returns-in-Octonary-clause-extends : goal.returns-in-Octonary-clause-extends
returns-in-Octonary-clause-extends g t c = through c.args.bank.now c.put-x-in-Octonary.new.bank c.over_eight.new.bank c.put-x-in-Octonary.ensures.extends (through c.put-x-in-Octonary.new.bank c.put-y-in-Octonary.new.bank c.over_eight.new.bank c.put-y-in-Octonary.ensures.extends (through c.put-y-in-Octonary.new.bank c.put-z-in-Octonary.new.bank c.over_eight.new.bank c.put-z-in-Octonary.ensures.extends (through c.put-z-in-Octonary.new.bank c.put-w-in-Octonary.new.bank c.over_eight.new.bank c.put-w-in-Octonary.ensures.extends (through c.put-w-in-Octonary.new.bank c.put-s.new.bank c.over_eight.new.bank c.put-s.ensures.extends (through c.put-s.new.bank c.put-t.new.bank c.over_eight.new.bank c.put-t.ensures.extends (through c.put-t.new.bank c.put-u.new.bank c.over_eight.new.bank c.put-u.ensures.extends (through c.put-u.new.bank c.put-v.new.bank c.over_eight.new.bank c.put-v.ensures.extends c.over_eight.ensures.extends)))))))

pub returns-in-Octonary-clause-tree : goal.returns-in-Octonary-clause-tree
unfolding substituted
returns-in-Octonary-clause-tree g t c = λ base e fits.
    let ids : Variable → Option ℕ = g.L.Lookup.terms c.args.state.now in
    let state : State = state_of base ids in
    let e0 = e in
    let at0 : IsAt c.put-x-in-Octonary.new.bank c.put-x-in-Octonary.result (substituted state (term_of c.in-Octonary.a.value)) =
    subst (λ u. IsAt c.put-x-in-Octonary.new.bank c.put-x-in-Octonary.result (substituted state (term_of u))) c.deref-in-Octonary.ensures (c.put-x-in-Octonary.ensures.tree base e0 fits) in
    let e1 = through base c.args.bank.now c.put-x-in-Octonary.new.bank e0 c.put-x-in-Octonary.ensures.extends in
    let at1 : IsAt c.put-y-in-Octonary.new.bank c.put-y-in-Octonary.result (substituted state (term_of c.in-Octonary.b.value)) =
    subst (λ u. IsAt c.put-y-in-Octonary.new.bank c.put-y-in-Octonary.result (substituted state (term_of u))) c.deref-in-Octonary-2.ensures (c.put-y-in-Octonary.ensures.tree base e1 fits) in
    let e2 = through base c.put-x-in-Octonary.new.bank c.put-y-in-Octonary.new.bank e1 c.put-y-in-Octonary.ensures.extends in
    let at2 : IsAt c.put-z-in-Octonary.new.bank c.put-z-in-Octonary.result (substituted state (term_of c.in-Octonary.c.value)) =
    subst (λ u. IsAt c.put-z-in-Octonary.new.bank c.put-z-in-Octonary.result (substituted state (term_of u))) c.deref-in-Octonary-3.ensures (c.put-z-in-Octonary.ensures.tree base e2 fits) in
    let e3 = through base c.put-y-in-Octonary.new.bank c.put-z-in-Octonary.new.bank e2 c.put-z-in-Octonary.ensures.extends in
    let at3 : IsAt c.put-w-in-Octonary.new.bank c.put-w-in-Octonary.result (substituted state (term_of c.in-Octonary.d.value)) =
    subst (λ u. IsAt c.put-w-in-Octonary.new.bank c.put-w-in-Octonary.result (substituted state (term_of u))) c.deref-in-Octonary-4.ensures (c.put-w-in-Octonary.ensures.tree base e3 fits) in
    let e4 = through base c.put-z-in-Octonary.new.bank c.put-w-in-Octonary.new.bank e3 c.put-w-in-Octonary.ensures.extends in
    let at4 : IsAt c.put-s.new.bank c.put-s.result (substituted state (term_of c.in-Octonary.e.value)) =
    subst (λ u. IsAt c.put-s.new.bank c.put-s.result (substituted state (term_of u))) c.deref-in-Octonary-5.ensures (c.put-s.ensures.tree base e4 fits) in
    let e5 = through base c.put-w-in-Octonary.new.bank c.put-s.new.bank e4 c.put-s.ensures.extends in
    let at5 : IsAt c.put-t.new.bank c.put-t.result (substituted state (term_of c.in-Octonary.f.value)) =
    subst (λ u. IsAt c.put-t.new.bank c.put-t.result (substituted state (term_of u))) c.deref-in-Octonary-6.ensures (c.put-t.ensures.tree base e5 fits) in
    let e6 = through base c.put-s.new.bank c.put-t.new.bank e5 c.put-t.ensures.extends in
    let at6 : IsAt c.put-u.new.bank c.put-u.result (substituted state (term_of c.in-Octonary.g.value)) =
    subst (λ u. IsAt c.put-u.new.bank c.put-u.result (substituted state (term_of u))) c.deref-in-Octonary-7.ensures (c.put-u.ensures.tree base e6 fits) in
    let e7 = through base c.put-t.new.bank c.put-u.new.bank e6 c.put-u.ensures.extends in
    let at7 : IsAt c.put-v.new.bank c.put-v.result (substituted state (term_of c.in-Octonary.h.value)) =
    subst (λ u. IsAt c.put-v.new.bank c.put-v.result (substituted state (term_of u))) c.deref-in-Octonary-8.ensures (c.put-v.ensures.tree base e7 fits) in
    subst (λ u. IsAt c.over_eight.new.bank c.over_eight.result (substituted state (term_of u))) (sym c.in-Octonary.is)
    (c.over_eight.ensures.tree _ _ _ _ _ _ _ _
    (later c.put-u.new.bank c.put-v.new.bank c.put-x-in-Octonary.result (substituted state (term_of c.in-Octonary.a.value)) c.put-v.ensures.extends (later c.put-t.new.bank c.put-u.new.bank c.put-x-in-Octonary.result (substituted state (term_of c.in-Octonary.a.value)) c.put-u.ensures.extends (later c.put-s.new.bank c.put-t.new.bank c.put-x-in-Octonary.result (substituted state (term_of c.in-Octonary.a.value)) c.put-t.ensures.extends (later c.put-w-in-Octonary.new.bank c.put-s.new.bank c.put-x-in-Octonary.result (substituted state (term_of c.in-Octonary.a.value)) c.put-s.ensures.extends (later c.put-z-in-Octonary.new.bank c.put-w-in-Octonary.new.bank c.put-x-in-Octonary.result (substituted state (term_of c.in-Octonary.a.value)) c.put-w-in-Octonary.ensures.extends (later c.put-y-in-Octonary.new.bank c.put-z-in-Octonary.new.bank c.put-x-in-Octonary.result (substituted state (term_of c.in-Octonary.a.value)) c.put-z-in-Octonary.ensures.extends (later c.put-x-in-Octonary.new.bank c.put-y-in-Octonary.new.bank c.put-x-in-Octonary.result (substituted state (term_of c.in-Octonary.a.value)) c.put-y-in-Octonary.ensures.extends at0)))))))
    (later c.put-u.new.bank c.put-v.new.bank c.put-y-in-Octonary.result (substituted state (term_of c.in-Octonary.b.value)) c.put-v.ensures.extends (later c.put-t.new.bank c.put-u.new.bank c.put-y-in-Octonary.result (substituted state (term_of c.in-Octonary.b.value)) c.put-u.ensures.extends (later c.put-s.new.bank c.put-t.new.bank c.put-y-in-Octonary.result (substituted state (term_of c.in-Octonary.b.value)) c.put-t.ensures.extends (later c.put-w-in-Octonary.new.bank c.put-s.new.bank c.put-y-in-Octonary.result (substituted state (term_of c.in-Octonary.b.value)) c.put-s.ensures.extends (later c.put-z-in-Octonary.new.bank c.put-w-in-Octonary.new.bank c.put-y-in-Octonary.result (substituted state (term_of c.in-Octonary.b.value)) c.put-w-in-Octonary.ensures.extends (later c.put-y-in-Octonary.new.bank c.put-z-in-Octonary.new.bank c.put-y-in-Octonary.result (substituted state (term_of c.in-Octonary.b.value)) c.put-z-in-Octonary.ensures.extends at1))))))
    (later c.put-u.new.bank c.put-v.new.bank c.put-z-in-Octonary.result (substituted state (term_of c.in-Octonary.c.value)) c.put-v.ensures.extends (later c.put-t.new.bank c.put-u.new.bank c.put-z-in-Octonary.result (substituted state (term_of c.in-Octonary.c.value)) c.put-u.ensures.extends (later c.put-s.new.bank c.put-t.new.bank c.put-z-in-Octonary.result (substituted state (term_of c.in-Octonary.c.value)) c.put-t.ensures.extends (later c.put-w-in-Octonary.new.bank c.put-s.new.bank c.put-z-in-Octonary.result (substituted state (term_of c.in-Octonary.c.value)) c.put-s.ensures.extends (later c.put-z-in-Octonary.new.bank c.put-w-in-Octonary.new.bank c.put-z-in-Octonary.result (substituted state (term_of c.in-Octonary.c.value)) c.put-w-in-Octonary.ensures.extends at2)))))
    (later c.put-u.new.bank c.put-v.new.bank c.put-w-in-Octonary.result (substituted state (term_of c.in-Octonary.d.value)) c.put-v.ensures.extends (later c.put-t.new.bank c.put-u.new.bank c.put-w-in-Octonary.result (substituted state (term_of c.in-Octonary.d.value)) c.put-u.ensures.extends (later c.put-s.new.bank c.put-t.new.bank c.put-w-in-Octonary.result (substituted state (term_of c.in-Octonary.d.value)) c.put-t.ensures.extends (later c.put-w-in-Octonary.new.bank c.put-s.new.bank c.put-w-in-Octonary.result (substituted state (term_of c.in-Octonary.d.value)) c.put-s.ensures.extends at3))))
    (later c.put-u.new.bank c.put-v.new.bank c.put-s.result (substituted state (term_of c.in-Octonary.e.value)) c.put-v.ensures.extends (later c.put-t.new.bank c.put-u.new.bank c.put-s.result (substituted state (term_of c.in-Octonary.e.value)) c.put-u.ensures.extends (later c.put-s.new.bank c.put-t.new.bank c.put-s.result (substituted state (term_of c.in-Octonary.e.value)) c.put-t.ensures.extends at4)))
    (later c.put-u.new.bank c.put-v.new.bank c.put-t.result (substituted state (term_of c.in-Octonary.f.value)) c.put-v.ensures.extends (later c.put-t.new.bank c.put-u.new.bank c.put-t.result (substituted state (term_of c.in-Octonary.f.value)) c.put-u.ensures.extends at5))
    (later c.put-u.new.bank c.put-v.new.bank c.put-u.result (substituted state (term_of c.in-Octonary.g.value)) c.put-v.ensures.extends at6)
    at7)

pub returns-in-Leaf-clause-tree : goal.returns-in-Leaf-clause-tree
unfolding substituted
returns-in-Leaf-clause-tree g t c = λ base e fits.
    subst (λ u. IsAt c.put_atom.new.bank c.put_atom.result (substituted (state_of base (g.L.Lookup.terms c.args.state.now)) (term_of u))) (sym c.in-Leaf.is)
    (c.put_atom.ensures.tree base e fits)
