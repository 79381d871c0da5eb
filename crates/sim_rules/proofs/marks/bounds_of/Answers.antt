use Rattle.std.proofs.Common.{◌∙◌, List, ◌++◌, ap}
use Rattle.graph_core_spec.specs.declared.Mark.{Mark}
use Rattle.sim_rules.specs.Marks.{bounds_with}
use Rattle.sim_rules.proofs.marks.bounds_of.Goals as goal

pub returns-3 : goal.returns-3
returns-3 c =
    c.in-Ok-attempt-2.ensures
    ∙ ap (bounds_with c.args.change) (c.in-Ok-attempt.ensures ∙ ap (λ (l : List Mark). l ++ c.args.bounds.now) c.new-marks.ensures.items)
