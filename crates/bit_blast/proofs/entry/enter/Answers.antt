use Rattle.std.proofs.Common.{◌≡◌, ◌+◌, ℕ, sym, subst, arith}
use Rattle.term_bank.specs.declared.node.TermNode.{TermNode}
use Rattle.term_bank.specs.Nodes.{tree_at, build, Holds}
use Rattle.term_core_spec.specs.Term.{remainder}
use Rattle.bit_blast.specs.Terms.{terms_in}
use Rattle.bit_blast.proofs.Entered.{quotient_node, remainder_node, quotient_holds, remainder_holds}
use Rattle.bit_blast.proofs.entry.enter.Goals as goal

pub returns-in-Ok-attempt-clause-index : goal.returns-in-Ok-attempt-clause-index
returns-in-Ok-attempt-clause-index c =
    subst (λ (n : TermNode). Holds (terms_in c.enter_division.new.table) c.in-Ok-attempt.field-0.0 (build (terms_in c.args.table.now) n))
    (sym (quotient_node c.args.node c.in-Quotient.x c.in-Quotient.y (sym c.in-Quotient.ensures)))
    (quotient_holds (tree_at (terms_in c.args.table.now) c.in-Quotient.x) (tree_at (terms_in c.args.table.now) c.in-Quotient.y) c.args.table.now c.enter_division.new.table
    c.args.gates.now.variables c.in-Ok-attempt.field-0.0 c.in-Ok-attempt.ensures.gives.answer c.in-Ok-attempt.ensures.index)

pub returns-in-Ok-attempt-indices-clause-index : goal.returns-in-Ok-attempt-indices-clause-index
returns-in-Ok-attempt-indices-clause-index c =
    let first = c.in-Ok-attempt-indices.ensures.index in
    let second = c.in-Ok-attempt-indices.ensures.rest in
    let next : c.in-Ok-attempt-indices.field-0.0 + 1 ≡ c.in-Ok-attempt-indices.field-0.1 = omega (arith, first, second) in
    subst (λ (n : TermNode). Holds (terms_in c.enter_division-in-Remainder.new.table) c.in-Ok-attempt-indices.field-0.1 (build (terms_in c.args.table.now) n))
    (sym (remainder_node c.args.node c.in-Remainder.x c.in-Remainder.y (sym c.in-Remainder.ensures)))
    (subst (λ (index : ℕ). Holds (terms_in c.enter_division-in-Remainder.new.table) index
    (remainder (tree_at (terms_in c.args.table.now) c.in-Remainder.x) (tree_at (terms_in c.args.table.now) c.in-Remainder.y))) next
    (remainder_holds (tree_at (terms_in c.args.table.now) c.in-Remainder.x) (tree_at (terms_in c.args.table.now) c.in-Remainder.y) c.args.table.now c.enter_division-in-Remainder.new.table
    c.args.gates.now.variables c.in-Ok-attempt-indices.field-0.0 c.in-Ok-attempt-indices.ensures.gives.answer c.in-Ok-attempt-indices.ensures.index))
