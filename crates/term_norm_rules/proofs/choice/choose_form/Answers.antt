use Rattle.std.proofs.Common.{◌∙◌}
use Rattle.term_bank.specs.Nodes.{tree_at}
use Rattle.term_norm_rules.specs.Forms.{form_tree}
use Rattle.term_norm_rules.proofs.Choices.{choose_arm, choose_turned, choose_last}
use Rattle.term_norm_rules.proofs.choice.choose_form.Goals as goal

pub returns-in-Some-clause-tree : goal.returns-in-Some-clause-tree
returns-in-Some-clause-tree c =
    let trees = c.args.bank.now in
    choose_arm (tree_at trees c.loop-form.test) (tree_at trees c.loop-form.first) (tree_at trees c.loop-form.second) (form_tree trees c.in-Some.form) c.in-Some.ensures.tree
    ∙ c.loop-form.invariant.same

pub loop-form-preserved : goal.loop-form-preserved
loop-form-preserved c =
    let trees = c.args.bank.now in
    record {
      same =
          choose_turned (tree_at trees c.loop-form.test) (tree_at trees c.in-Some-under_not.argument) (tree_at trees c.loop-form.first) (tree_at trees c.loop-form.second)
          c.in-Some-under_not.ensures.tree c.in_default.ensures.tree
          ∙ c.loop-form.invariant.same;
      test_within = c.in-Some-under_not.ensures.within;
      first_within = c.loop-form.invariant.second_within;
      second_within = c.loop-form.invariant.first_within;
    }

pub returns-in-None-clause-tree : goal.returns-in-None-clause-tree
returns-in-None-clause-tree c =
    let trees = c.args.bank.now in
    choose_last (tree_at trees c.loop-form.test) (tree_at trees c.loop-form.first) (tree_at trees c.loop-form.second) c.in-None.ensures.tree c.in_default.ensures.tree
    ∙ c.loop-form.invariant.same
