use Rattle.std.proofs.Common.{◌∙◌, ℕ, List, [], ◌∷◌, ◌++◌, ap, append_assoc}
use Rattle.sim_rules.proofs.wait.add_two.Goals as goal

pub returns-3 : goal.returns-3
returns-3 c = c.in-Ok-attempt-2.ensures.items ∙ ap (λ (l : List ℕ). l ++ c.args.second ∷ []) c.in-Ok-attempt.ensures.items ∙ append_assoc c.args.ids.now.items (c.args.first ∷ []) (c.args.second ∷ [])
