use Rattle.std.proofs.Common.{◌∙◌, sym}
use Rattle.pair_setup.proofs.Listed.{found-contains, contains-found}
use Rattle.pair_setup.proofs.code.is_known.Goals as goal

pub returns : goal.returns
returns c = (
  λ t. found-contains c.args.entries.now.keys c.args.entry (sym c.contains.ensures ∙ t),
  λ among. c.contains.ensures ∙ contains-found c.args.entries.now.keys c.args.entry among,
)
