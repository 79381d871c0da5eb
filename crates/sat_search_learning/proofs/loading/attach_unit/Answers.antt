use Rattle.std.proofs.Common.{◌∙◌}
use Rattle.sat_search_learning.proofs.Loaded.{unit_code, loaded_one}
use Rattle.sat_search_learning.proofs.loading.attach_unit.Goals as goal

pub attach-requires-clause-first : goal.attach-requires-clause-first
attach-requires-clause-first c = unit_code c.args.clauses.now.clauses c.args.trail.now c.args.watches.now c.args.literal c.requires

pub attach-requires-clause-second : goal.attach-requires-clause-second
attach-requires-clause-second c = unit_code c.args.clauses.now.clauses c.args.trail.now c.args.watches.now c.args.literal c.requires

pub returns : goal.returns
returns c = (
  loaded_one c.args.clauses.now.clauses c.args.trail.now c.args.watches.now c.attach.new.self c.args.literal c.requires c.in_ok-attach.ensures,
  c.in_ok-attach.ensures.head ∙ c.requires.first,
)
