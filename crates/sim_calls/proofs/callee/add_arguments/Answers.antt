use Rattle.std.proofs.Common.{◌≡◌, ◌∙◌, ℕ, ◌+◌, ◌<◌, suc, List, [], ◌∷◌, ◌++◌, length, drop, get_or, refl, sym, ap, arith, append_assoc, append-nil}
use Rattle.std.proofs.lemmas.List.{drop_all, drop_more}
use Rattle.term_core_spec.specs.Term.{Term, equal}
use Rattle.c_types_spec.specs.declared.Scalar.{Scalar}
use Rattle.c_graph_spec.specs.State.{local}
use Rattle.proof_tree.specs.Frames.{terms_of}
use Rattle.sim_rules_spec.specs.Calling.{register}
use Rattle.sim_calls.specs.Callees.{argument_lines, widened}
use Rattle.sim_calls.proofs.callee.add_arguments.Goals as goal

one_more : (old new whole : List Term) (all : List Scalar) (n : ℕ) (d : Scalar) → n < length all
    → new ≡ old ++ equal (register (10 + n)) (widened (get_or all n d) (local n (get_or all n d))) ∷ [] → old ++ argument_lines n (drop n all) ≡ whole
    → new ++ argument_lines (n + 1) (drop (n + 1) all) ≡ whole
one_more old new whole all n d less added so_far =
    let p : Scalar = get_or all n d in
    let line : Term = equal (register (10 + n)) (widened p (local n p)) in
    let rest : List Scalar = drop (n + 1) all in
    let next : suc n ≡ n + 1 = omega arith in
    ap (λ (l : List Term). l ++ argument_lines (n + 1) rest) added
    ∙ append_assoc old (line ∷ []) (argument_lines (n + 1) rest)
    ∙ ap (λ (m : ℕ). old ++ line ∷ argument_lines m rest) (sym next)
    ∙ ap (λ (l : List Scalar). old ++ argument_lines n l) (sym (drop_more all n d less))
    ∙ so_far

pub loop-number-preserved : goal.loop-number-preserved
loop-number-preserved c =
    one_more (terms_of c.loop-number.lines.items) (terms_of c.add_line.new.lines.items) (terms_of c.args.lines.now.items ++ argument_lines 0 c.args.parameters.now)
    c.args.parameters.now c.loop-number.number _ c.loop-number-test.true (c.in_ok-add_line.ensures _ c.argument_line.ensures) c.loop-number.invariant

pub returns : goal.returns
returns c =
    let all : List Scalar = c.args.parameters.now in
    let now : List Term = terms_of c.loop-number.lines.items in
    sym (append-nil now) ∙ ap (λ (l : List Scalar). now ++ argument_lines c.loop-number.number l) (sym (drop_all c.loop-number.number all (omega arith))) ∙ c.loop-number.invariant
