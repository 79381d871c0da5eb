use Rattle.cert_check_terms.proofs.Stacks.{bracket_next}
use Rattle.cert_check_terms.proofs.lines.open_bracket.Goals as goal

pub returns : goal.returns
returns c = λ trees inside. bracket_next trees c.args.entries.now.items _ c.args.operator _ inside c.push.ensures
