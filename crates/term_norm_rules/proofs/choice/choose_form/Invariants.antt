use Rattle.std.proofs.Common.{◌≡◌, ◌<◌, length}
use Rattle.term_bank.specs.Nodes.{tree_at}
use Rattle.term_norm_spec.specs.Normal.{normal_choose}
use Rattle.term_norm_rules.proofs.choice.choose_form.Given as goal

abbrev pub invariant-loop-form : goal.invariant-loop-form
invariant-loop-form l = record {
  same : normal_choose (tree_at l.bank l.test) (tree_at l.bank l.first) (tree_at l.bank l.second) ≡ normal_choose (tree_at l.bank l.fn.test) (tree_at l.bank l.x) (tree_at l.bank l.y);
  test_within : l.test < length l.bank;
  first_within : l.first < length l.bank;
  second_within : l.second < length l.bank;
}

abbrev pub decreases-loop-form : goal.decreases-loop-form
decreases-loop-form l = l.test
