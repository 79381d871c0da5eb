use Rattle.std.proofs.Common.{Bool, subst, sym, arith, ◌≡◌, ◌∙◌}
use Rattle.std.specs.Prelude.{IfOk}
use Rattle.term_bank.specs.Nodes.{tree_at}
use Rattle.word_steps_rules.proofs.Arguments.{not_alike, by_turning, by_arguments}
use Rattle.word_steps_rules.proofs.commuting.are_commuted.Goals as goal

pub are_turned-requires-clause-first : goal.are_turned-requires-clause-first
are_turned-requires-clause-first c = (
  omega (arith, c.requires.first.left, c.requires.left, c.requires.sorts.within),
  omega (arith, c.requires.first.right, c.requires.left, c.requires.sorts.within),
)

pub are_turned-requires-clause-second : goal.are_turned-requires-clause-second
are_turned-requires-clause-second c = (
  omega (arith, c.requires.second.left, c.requires.right, c.requires.sorts.within),
  omega (arith, c.requires.second.right, c.requires.right, c.requires.sorts.within),
)

pub returns-then-not-are_alike : goal.returns-then-not-are_alike
returns-then-not-are_alike c =
    not_alike c.args.bank.now (tree_at c.args.bank.now c.args.ids.left) (tree_at c.args.bank.now c.args.ids.right) c.args.first c.requires.first.is c.args.second c.requires.second.is
    (sym c.are_alike.ensures ∙ c.if-not-are_alike.true)

pub returns-then-are_turned : goal.returns-then-are_turned
returns-then-are_turned c =
    by_turning c.args.bank.now (tree_at c.args.bank.now c.args.ids.left) (tree_at c.args.bank.now c.args.ids.right) c.args.first c.requires.first.is c.args.second c.requires.second.is
    (sym c.are_alike.ensures ∙ c.if-not-are_alike.false) (sym c.are_turned.ensures ∙ c.if-are_turned.true)

pub returns : goal.returns
returns c =
    let same = by_arguments c.args.bank.now (tree_at c.args.bank.now c.args.ids.left) (tree_at c.args.bank.now c.args.ids.right) c.args.first c.requires.first.is c.args.second c.requires.second.is
    (sym c.are_alike.ensures ∙ c.if-not-are_alike.false) (sym c.are_turned.ensures ∙ c.if-are_turned.false) in
    subst (λ (b : Bool). IfOk c.same_arguments.result (λ found. found ≡ b)) same c.same_arguments.ensures
