use Rattle.std.proofs.Common.{◌≡◌, ◌∙◌, Some, ap, subst}
use Rattle.std.specs.HashMap.{get}
use Rattle.term_core_spec.specs.Same.{same_variable}
use Rattle.term_core_spec.specs.Substitution.{State, substituted}
use Rattle.term_core_spec.specs.Term.{Term, not_term}
use Rattle.term_bank.specs.Nodes.{tree_at, Holds}
use Rattle.term_bank.proofs.Substitution.{kept}
use Rattle.term_substitution.specs.States.{state_of}
use Rattle.path_cond.proofs.Banks.{extends_then, tree_is}
use Rattle.path_cond.proofs.Changed.{both_hold}
use Rattle.path_cond.proofs.leave.branches.Goals as goal

pub returns-clause-branches : goal.returns-clause-branches
returns-clause-branches c = λ condition state holds current.
    let b0 = c.args.bank.now in
    let b1 = c.transfer_one.new.bank in
    let b2 = c.add.new.self in
    let b3 = c.add-2.new.self in
    let b4 = c.add-3.new.self in
    let test : Term = substituted state (tree_at c.args.from.now c.args.test) in
    let is : state_of b0 (get same_variable c.args.current.now) ≡ state = λ i v. current v i in
    let of_test : Holds b1 c.in_ok-holds.holds test = subst (λ (s : State). Holds b1 c.in_ok-holds.holds (substituted s (tree_at c.args.from.now c.args.test))) is c.in_ok-holds.ensures.tree in
    let e02 = extends_then b0 b1 b2 c.transfer_one.ensures.extends c.add.ensures.extends in
    let e03 = extends_then b0 b2 b3 e02 c.add-2.ensures.extends in
    let of_not : Holds b2 c.in_ok-fails.fails (not_term test) = c.in_ok-fails.ensures.id ∙ ap (λ (t : Term). Some (not_term t)) (tree_is b1 c.in_ok-holds.holds test of_test) in
    let here = kept b1 b2 c.in_ok-holds.holds test c.add.ensures.extends of_test in
    let in_three = kept b2 b3 c.in_ok-fails.fails (not_term test) c.add-2.ensures.extends of_not in
    let condition2 = kept b0 b2 c.args.condition condition e02 holds in
    let condition3 = kept b0 b3 c.args.condition condition e03 holds in
    let if_true = both_hold b2 b3 c.in_ok-if_true.if_true c.args.condition c.in_ok-holds.holds condition test c.in_ok-if_true.ensures.id (tree_is b2 c.args.condition condition condition2) (tree_is b2 c.in_ok-holds.holds test here) in
    let if_false = both_hold b3 b4 c.in_ok-if_false.if_false c.args.condition c.in_ok-fails.fails condition (not_term test) c.in_ok-if_false.ensures.id (tree_is b3 c.args.condition condition condition3) (tree_is b3 c.in_ok-fails.fails (not_term test) in_three) in
    record {
      only = kept b0 b4 c.args.condition condition (extends_then b0 b3 b4 e03 c.add-3.ensures.extends) holds;
      if_true = kept b3 b4 c.in_ok-if_true.if_true _ c.add-3.ensures.extends if_true;
      if_false = if_false;
    }
