use Rattle.std.proofs.Common.{List, length, ap₂}
use Rattle.term_core_spec.specs.declared.Sort.{Sort}
use Rattle.proof_tree_spec.specs.Scope.{Body, Setting}
use Rattle.cert_check_frames.proofs.scope.setting_for.Goals as goal

pub returns-3 : goal.returns-3
returns-3 c =
    let made : List Sort → List Body → Setting = λ sorts bodies. record { argument_words = length c.args.parameters.now; parameters = sorts; bodies = bodies } in
    ap₂ made c.in-Ok-attempt-parameters.ensures c.in-Ok-attempt.ensures
