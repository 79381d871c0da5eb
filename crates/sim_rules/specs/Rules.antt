-- Rules of the code as those of the definitions.
use Rattle.term_core.specs.Trees.{term_of}
use Rattle.proof_tree.specs.Frames.{hold_of, terms_of}
use Rattle.sim_rules_spec.specs.Obligations as spec
use Rattle.sim_rules.specs.declared.rule.Rule.{Rule}
use Rattle.sim_rules.specs.declared.rule.Rule.TheVariants.{Leaf, Case, RestrictBinary, RestrictSource, Cut, Wait}

abbrev pub rule_of : Rule → spec.Rule
rule_of Leaf = spec.Leaf
rule_of (Case test) = spec.Case (term_of test.now)
rule_of (RestrictBinary bound) = spec.RestrictBinary bound
rule_of (RestrictSource bound) = spec.RestrictSource bound
rule_of (Cut path lines) = spec.Cut path.now (terms_of lines.now)
rule_of (Wait hold) = spec.Wait (hold_of hold)
